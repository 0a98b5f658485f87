pub mod Laws
pub mod Medium
pub mod Refusals
pub mod Scenarios
pub mod Step
pub mod Trace
pub mod World
pub mod Behind
