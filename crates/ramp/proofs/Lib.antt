pub mod BrakingForm
pub mod Halving
