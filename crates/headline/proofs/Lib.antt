pub mod StartedNumbers
pub mod GoodTables
pub mod GoodSteps
pub mod GoodMoments
pub mod TableAfterLemmas
pub mod StateLemmas
pub mod ShownEffectLemmas
pub mod HeadlineLemmas
