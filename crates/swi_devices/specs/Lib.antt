pub mod ByteLog
pub mod Counts
pub mod FolderCalls
pub mod Folders
pub mod RamCalls
pub mod ShelfLog
pub mod Stored
pub mod Streams
