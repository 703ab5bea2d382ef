-- What the contracts of the panel cite.
pub mod PanelText
