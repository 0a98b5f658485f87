pub mod sources
pub mod Blind
pub mod timely
pub mod hearing
pub mod Captured
pub mod words
pub mod anywhere
