pub mod Exchange
pub mod Outbox
