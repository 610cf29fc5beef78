pub mod Places
pub mod Walks
pub mod Counts
pub mod Taken
pub mod Lists
