pub mod Turning
pub mod Within
pub mod Calls
pub mod Means
pub mod Outcomes
pub mod Through
pub mod FromPowerOn
