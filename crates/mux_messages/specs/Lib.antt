pub mod Control
pub mod Frames
