mod Octets
pub mod BusSteps
pub mod BusDropped
pub mod MakingBuses
pub mod Told
pub mod MonitorSteps
pub mod MonitorDropped
