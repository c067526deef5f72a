pub mod FileLaws
pub mod SpotLaws
pub mod TagBits
