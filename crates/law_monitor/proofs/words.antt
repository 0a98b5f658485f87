pub mod Lasts
pub mod Known
pub mod Named
