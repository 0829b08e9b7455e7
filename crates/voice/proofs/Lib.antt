pub mod Loops
pub mod PadLaws
pub mod PutLaws
pub mod InitLaws
pub mod QuestionLaws
pub mod MemoryLaws
pub mod RetuneLaws
pub mod CallApart
