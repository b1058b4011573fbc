pub mod Accounts
pub mod Calls
pub mod Examples
pub mod Journeys
pub mod Law
pub mod Moments
pub mod Runs
