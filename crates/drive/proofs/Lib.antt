pub mod Deliveries
pub mod Landings
