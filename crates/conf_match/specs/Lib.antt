pub mod Answers
pub mod Evaluated
pub mod Pieces
pub mod CriterionPlace
pub mod Segments
pub mod Spelled
