pub mod WordLemmas
pub mod GeneratorLemmas
pub mod InboxLemmas
pub mod StepLemmas
pub mod TraceLemmas
pub mod PlanLemmas
pub mod FrameLemmas
