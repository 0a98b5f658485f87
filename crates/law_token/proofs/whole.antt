pub mod Joined
pub mod Keeping
pub mod ReplyData
pub mod Stays
pub mod Induction
pub mod JoinedRuns
pub mod Readers
pub mod Sensing
