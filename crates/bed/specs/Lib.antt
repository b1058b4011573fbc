pub mod Beds
pub mod Words
