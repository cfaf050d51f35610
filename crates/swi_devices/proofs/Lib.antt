mod Entries
mod Folders
mod Logs
mod ZeroFilled
