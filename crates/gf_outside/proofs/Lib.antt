-- what is taken in several reads, and what a read from memory gives
pub mod MovedLaws
