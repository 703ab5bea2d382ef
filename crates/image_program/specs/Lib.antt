-- What every program over images prints, and what it writes for what it reads.
pub mod Answered
pub mod Printed
