-- The worked examples stand first: what a wrong definition gets wrong is seen there.
pub mod Cases
pub mod Seen
pub mod Grown
pub mod Item
pub mod Rest
pub mod Arrives
pub mod Follows
pub mod Waves
pub mod Steps
pub mod Fed
pub mod Results
pub mod Told
pub mod Feeds
pub mod Right
pub mod Runs
pub mod Settles
