pub mod Effects
pub mod SpoolStates
pub mod Headline
pub mod Laws
pub mod ShownEffects
