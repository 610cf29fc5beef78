pub mod Hosts
pub mod Shown
pub mod Reading
