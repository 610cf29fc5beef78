pub mod Accounts
pub mod Breaches
pub mod Takes
pub mod Named
pub mod Leaves
