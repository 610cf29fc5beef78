pub mod HouseCalls
pub mod ScriptLemmas
