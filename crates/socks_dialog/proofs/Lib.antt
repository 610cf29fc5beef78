pub mod Fields
pub mod Dialogs
pub mod Kept
pub mod Few
pub mod Stand
