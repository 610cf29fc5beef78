pub mod CriteriaLemmas
pub mod EvalLemmas
pub mod GlobLemmas
pub mod ListLemmas
pub mod PatternLemmas
pub mod StarLemmas
pub mod TailLemmas
