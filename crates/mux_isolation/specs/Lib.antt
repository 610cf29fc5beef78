pub mod LogView
pub mod Renaming
pub mod Laws
pub mod Bytes
