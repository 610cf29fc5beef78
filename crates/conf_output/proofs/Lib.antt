pub mod ValueLemmas
pub mod KeyLemmas
pub mod PathLemmas
pub mod ListLemmas
pub mod SettledLemmas
