pub mod NewWorlds
pub mod Showing
pub mod Standing
pub mod Replaying
pub mod Agreeing
pub mod Noting
pub mod Replies
mod Placed
mod Counting
