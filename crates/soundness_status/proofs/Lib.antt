-- Laws of the check of the statuses.
pub mod StatusLaws
