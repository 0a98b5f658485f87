pub mod Rules
pub mod Seats
pub mod Faults
pub mod Played
-- a fault of the segment
pub use Rattle.pb_segment.specs.declared.faults.CommitFault
