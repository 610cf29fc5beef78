pub mod Asks
pub mod Replies
pub mod Stands
pub mod Tally
