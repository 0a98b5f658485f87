pub mod Feeds
pub mod Owned
pub mod Ports
