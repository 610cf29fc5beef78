mod Asking
mod Bounded
mod Closes
mod Comes
mod Endings
mod Fed
mod Gains
mod Grows
mod ReceivedRows
mod Receiving
mod Kept
mod Lists
mod Looked
mod Loses
mod Matters
mod Moved
mod OneClient
mod Others
pub mod Over
mod Pairs
mod Queues
mod Refused
mod Rests
mod Sayings
mod Sound
mod Started
mod Starved
mod Stepped
mod Still
mod Taken
mod Takes
mod TakingIn
mod Unfailed
mod Waits
mod Written
pub mod Replied
pub mod Twins
