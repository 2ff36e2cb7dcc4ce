pub mod Clamping
pub mod FieldJudgements
pub mod LineCuts
pub mod LineReadings
pub mod PrintedWords
pub mod FewDigits
