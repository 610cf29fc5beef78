pub mod Parts
pub mod Words
pub mod Sound
pub mod Shown
pub mod Walks
pub mod Results
