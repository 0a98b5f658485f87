pub mod Arrivals
pub mod Clocks
pub mod Cores
pub mod Cycles
pub mod Replies
pub mod Sending
pub mod Others
pub mod Speeches
