pub mod Decimals
pub mod TextLines
pub mod Texts
