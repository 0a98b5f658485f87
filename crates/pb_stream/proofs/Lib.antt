pub mod Courses
pub mod AnyInstants
pub mod Playing
pub mod Staging
pub mod Instants
pub mod Streaming
pub mod Auditing
