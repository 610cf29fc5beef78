mod Bytes
mod Few
mod Hosts
mod Own
mod Passes
mod Resolved
mod Rows
