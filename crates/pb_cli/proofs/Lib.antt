pub mod Drawn
pub mod Exported
mod Streamed
pub mod Written
pub mod AuditWritten
pub mod Since
pub mod RunKeeps
pub mod Cuts
pub mod Appended
pub mod SameExports
pub mod Captured
pub mod DrawnRuns
