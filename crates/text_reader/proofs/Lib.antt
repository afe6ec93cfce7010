pub mod DigitLemmas
pub mod DigitTable
pub mod EightDigits
pub mod OptionLemmas
pub mod TestLemmas
pub mod ValueLemmas
