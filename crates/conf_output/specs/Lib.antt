pub mod PutsListing
pub mod Shown
pub mod SettledListing
