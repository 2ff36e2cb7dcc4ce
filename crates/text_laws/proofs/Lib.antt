pub mod AnswerTexts
mod DemoPoints
mod ErrorTexts
