pub mod BareDirectories
pub mod CheckLemmas
pub mod CopyLemmas
pub mod FaultLemmas
pub mod FillLemmas
pub mod PlanLemmas
