pub mod AskLemmas
mod DigitLemmas
mod LetterLemmas
mod NumberLemmas
mod OperandLemmas
mod ToolLemmas
