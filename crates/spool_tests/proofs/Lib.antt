pub mod SettledLemmas
