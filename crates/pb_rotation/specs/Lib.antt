pub mod Receipts
pub mod Rotation
pub mod RotationViews
