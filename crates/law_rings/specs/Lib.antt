pub mod Settled
pub mod Rotation
pub mod Ring
pub mod Receipts
pub mod Examples
pub mod Actions
