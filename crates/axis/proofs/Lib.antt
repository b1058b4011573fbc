pub mod Orders
pub mod Questions
pub mod Readiness
pub mod Readings
pub mod Sending
