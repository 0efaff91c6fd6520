pub mod Known
pub mod Names
pub mod Slots
pub mod Exits
pub mod Cause
pub mod Opened
