pub mod Characters
pub mod Decoding
pub mod Texts
