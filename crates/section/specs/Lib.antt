pub mod Replies
pub mod Standing
pub mod Reaching
