pub mod Digests
pub mod Scans
