pub mod Names
pub mod Shown
pub mod Faults
pub mod Audits
pub mod Files
pub mod Plays
-- the faults of a scenario
pub use Rattle.pb_scenario.specs.Fields
pub use Rattle.pb_scenario.specs.Scenarios
pub mod Hints
pub mod Bounds
pub mod Captures
pub mod Texts
