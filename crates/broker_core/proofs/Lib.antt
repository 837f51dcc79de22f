pub mod Judging
pub mod Taken
pub mod Workers
pub mod Dues
pub mod Answered
