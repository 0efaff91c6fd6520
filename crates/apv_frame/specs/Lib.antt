pub mod Frame
pub mod Unit
pub mod Coded
