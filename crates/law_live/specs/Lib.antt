pub mod NeverDead
pub mod Promises
pub mod Holding
pub mod Flow
pub mod Stretches
pub mod Examples
pub mod Actions
