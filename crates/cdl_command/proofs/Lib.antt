pub mod DueFacts
pub mod TextFacts
pub mod ModelFacts
mod FormedTrees
pub mod ReadFacts
pub mod TableFacts
pub mod DocumentFacts
pub mod NetFacts
pub mod PlanFacts
pub mod WorkFacts
pub mod AnswerFacts
pub mod OneText
pub mod OneAnswer
