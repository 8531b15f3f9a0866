pub mod FeedingAdvances
pub mod Opens
pub mod Outcomes
pub mod Powers
pub mod Whole
