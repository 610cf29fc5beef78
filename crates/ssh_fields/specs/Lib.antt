pub mod Fields
pub mod FieldReader
pub mod Laws
