pub mod Callings
pub mod Orders
pub mod Outcomes
pub mod Starts
pub mod Takings
