pub mod Digits
pub mod Bodies
