pub mod BlockFits
pub mod CallFits
pub mod Fitness
pub mod Motions
pub mod RowFits
pub mod TickFits
