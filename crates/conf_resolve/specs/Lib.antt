pub mod Causes
pub mod Faults
pub mod PassGives
pub mod Readings
pub mod Recording
