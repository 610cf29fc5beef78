pub mod Keys
pub mod Message
