pub mod Sending
pub mod Lists
pub mod Leaves
pub mod Noting
pub mod Stepping
pub mod Cancels
pub mod Meaning
