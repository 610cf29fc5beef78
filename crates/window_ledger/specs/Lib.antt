pub mod Act
pub mod Stands
pub mod Step
pub mod Leaving
