pub mod Hosts
pub mod Replies
pub mod Socks
pub mod Reads
pub mod State
pub mod Laws
