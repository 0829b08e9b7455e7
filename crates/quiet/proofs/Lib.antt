pub mod SearchLaws
pub mod AnswerLaws
pub mod WindowLaws
pub mod GainLaws
pub mod PlanLaws
