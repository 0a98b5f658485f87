pub mod Decisions
pub mod Halves
pub mod Indications
pub mod Mailboxes
pub mod MarkViews
pub mod Notes
pub mod Standing
pub mod Stations
