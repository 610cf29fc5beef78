pub mod Acts
pub mod Dialing
pub mod ChannelState
pub mod Next
pub mod Relay
pub mod Steps
