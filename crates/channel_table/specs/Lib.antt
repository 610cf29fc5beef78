pub mod Entries
pub mod Stands
pub mod Indices
pub mod Slots
