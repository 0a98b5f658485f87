pub mod Streams
pub mod Limits
pub mod Judgement
pub mod Audits
pub mod Laws
