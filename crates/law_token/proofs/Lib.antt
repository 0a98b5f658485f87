pub mod bus
pub mod turn
pub mod air
pub mod pass
pub mod quiet
pub mod whole
pub mod replies
