pub mod ScanLaws
pub mod NarrowLaws
pub mod FixedLaws
pub mod PiecesLaws
pub mod CentresLaws
pub mod CutLaws
pub mod ByteLaws
mod CentresExamples
pub mod PlansLaws
mod PlansExamples
pub mod CrcLaws
mod CrcExamples
