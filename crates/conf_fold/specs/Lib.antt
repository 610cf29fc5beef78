pub mod Begins
pub mod Entries
pub mod Results
pub mod FoldRepresents
