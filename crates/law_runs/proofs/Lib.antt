pub mod Commuting
pub mod Quiets
pub mod Watching
pub mod Judged
pub mod Ordered
mod Accepting
pub mod Moments
mod Sorting
mod Following
mod Ending
mod Leading
mod Timed
mod Cutting
mod OneByOne
pub mod OnTheBus
