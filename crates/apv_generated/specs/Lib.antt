pub mod Samples
pub mod Differences
pub mod Bytes
pub mod Views
pub mod Video
pub mod Files
pub mod Bare
