pub mod Names
pub mod Overwriting
pub mod Faults
pub mod Axes
pub mod Accepted
pub mod Sound
