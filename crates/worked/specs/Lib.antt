pub mod Examples
pub mod WorkedRun
