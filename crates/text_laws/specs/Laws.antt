-- The laws of the answer text, as statements.
use Rattle.std.specs.Prelude.{◌≡◌, ℕ, ◌^◌, ◌<◌, List, [], ◌++◌, length, Ok}
use Rattle.bounds_model.specs.Answers.{Answer}
use Rattle.bounds_model.specs.Reports.{Report}
use Rattle.bounds_model.specs.AnswerText.Spelling.{Spells, SpellsReport}
use Rattle.bounds_model.specs.AnswerText.Reading.{reading, reading_report}

-- ---- answers

-- a text reads as an answer exactly where it spells it
pub record ReadsWhatIsSpelled : Type 0 where
  pub spelled_is_read : (bytes : List ℕ) (answer : Answer) → Spells bytes answer → reading bytes ≡ Ok answer
  pub read_is_spelled : (bytes : List ℕ) (answer : Answer) → reading bytes ≡ Ok answer → Spells bytes answer

-- bytes spell at most one answer
abbrev pub SpellsOne : Type 0
SpellsOne = (bytes : List ℕ) (a b : Answer) → Spells bytes a → Spells bytes b → a ≡ b

-- no spelling is the beginning of another
abbrev pub BeginsNoOther : Type 0
BeginsNoOther = (bytes more : List ℕ) (a b : Answer) → Spells bytes a → Spells (bytes ++ more) b → more ≡ []

-- a spelling is short
abbrev pub IsSpelledShort : Type 0
IsSpelledShort = (bytes : List ℕ) (answer : Answer) → Spells bytes answer → length bytes < 2 ^ 23

-- ---- reports

-- a text reads as a report exactly where it spells it
pub record ReadsReports : Type 0 where
  pub spelled_is_read : (bytes : List ℕ) (r : Report) → SpellsReport bytes r → reading_report bytes ≡ Ok r
  pub read_is_spelled : (bytes : List ℕ) (r : Report) → reading_report bytes ≡ Ok r → SpellsReport bytes r

-- bytes spell at most one report
abbrev pub SpellsOneReport : Type 0
SpellsOneReport = (bytes : List ℕ) (r s : Report) → SpellsReport bytes r → SpellsReport bytes s → r ≡ s

-- no spelling of a report is the beginning of another
abbrev pub BeginsNoOtherReport : Type 0
BeginsNoOtherReport = (bytes more : List ℕ) (r s : Report) → SpellsReport bytes r → SpellsReport (bytes ++ more) s → more ≡ []

-- a spelling of a report is short
abbrev pub AreReportsShort : Type 0
AreReportsShort = (bytes : List ℕ) (r : Report) → SpellsReport bytes r → length bytes < 2 ^ 23
