pub mod Settings
pub mod AccessUnit
pub mod Generated
pub mod Difference
pub mod Tracks
pub mod Answer
pub mod Laws
pub mod DecodedUnit
