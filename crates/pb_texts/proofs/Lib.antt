pub mod Reading
pub mod Outcomes
pub mod Tellings
pub mod Taps
pub mod Pieces
