pub mod Loops
pub mod PartLemmas
pub mod WalkLemmas
pub mod WordLemmas
