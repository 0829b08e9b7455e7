pub mod Parse
pub mod Utf8
pub mod Copy
pub mod Cursor
pub mod Reader
