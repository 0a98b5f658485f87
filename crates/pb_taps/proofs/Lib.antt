pub mod Behind
pub mod Items
pub mod Replacing
pub mod Seats
pub mod Specified
pub mod Turned
