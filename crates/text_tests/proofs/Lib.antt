pub mod LetterLemmas
