pub mod model
pub mod laws
