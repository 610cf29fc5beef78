pub mod Few
pub mod Bounds
pub mod Awaited
