pub mod Decodes
pub mod Replies
pub mod Examples
