pub mod Audits
pub mod Courses
pub mod Plays
pub mod Stages
pub mod Streams
