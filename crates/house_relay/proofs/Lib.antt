mod Answerings
mod Comings
mod Dialings
mod Readings
pub mod Resting
mod Taken
mod Takings
pub mod Whole
