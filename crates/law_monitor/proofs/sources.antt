pub mod Opened
pub mod Said
pub mod Entries
pub mod Worlds
