-- What the contracts of a survey in words cite.
pub mod SurveyText
pub mod Showable
