pub mod Taps
pub mod Events
pub mod Faults
pub mod Making
pub mod Queueing
pub mod Turning
pub mod Glancing
