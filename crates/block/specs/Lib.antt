pub mod Commands
pub mod Events
pub mod Frames
pub mod Pairs
pub mod Refusals
pub mod Words
