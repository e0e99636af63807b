pub mod Adding
pub mod EditText
pub mod FolderNames
pub mod LentFaults
pub mod Paths
pub mod Replies
pub mod Requests
pub mod Serving
