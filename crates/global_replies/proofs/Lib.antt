pub mod Queues
pub mod Answering
