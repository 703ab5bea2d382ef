-- The verdict program's output, and what it says as text.
pub mod Lines
pub mod Reports
