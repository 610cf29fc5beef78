pub mod State
pub mod Listing
pub mod Step
pub mod Taking
pub mod Stands
pub mod Allows
