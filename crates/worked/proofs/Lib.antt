pub mod Worked
pub mod WorkedRun
