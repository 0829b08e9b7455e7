pub mod Laws
pub mod Utf8Examples
pub mod Utf8Laws
pub mod Found
pub mod Apart
pub mod Many
pub mod CopyLaws
