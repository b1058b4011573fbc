pub mod Courses
pub mod Segments
pub mod TablePlans
pub mod Tables
