pub mod RewriteFile
pub mod UpgradeFile
pub mod CheckFile
pub mod ListFile
pub mod RunFlat
pub mod RunPlain
pub mod RunProfile
