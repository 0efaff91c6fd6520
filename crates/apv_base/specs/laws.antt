pub mod Answer
pub mod CodeWord
pub mod Table
pub mod Run
pub mod Judge
