pub mod Control
pub mod FaultWords
pub mod Faults
pub mod Grammar
pub mod Initiators
pub mod Heads
pub mod Receiving
