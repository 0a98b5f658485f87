pub mod Frames
pub mod Spelled
pub mod OneTelegram
pub mod Beginnings
mod Standing
mod Ended
