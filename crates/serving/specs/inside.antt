pub mod NextTurn
