pub mod Figures
pub mod Motions
pub mod Table
