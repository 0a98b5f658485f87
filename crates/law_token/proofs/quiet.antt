pub mod Waking
pub mod Alert
pub mod SameEntries
pub mod Watched
pub mod Bound
pub mod Reached
