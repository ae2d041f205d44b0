pub mod Meetings
pub mod Closing
pub mod Ended
pub mod Replaying
pub mod Placed
