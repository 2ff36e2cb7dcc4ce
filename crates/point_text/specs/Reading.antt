-- What a reader of pieces has read.
use Rattle.std.specs.Prelude.{◌≡◌, ℕ, ◌+◌, false, List, [], ◌∷◌, ◌++◌, length, map}
use Rattle.std.specs.List.{slice_split}
use Rattle.bounds_model.specs.Asks.{Shape}
use Rattle.bounds_model.specs.PointText.{is_line_feed, content, fields_of}
use Rattle.point_text.specs.declared.reader.Reader.{Reader}
use Rattle.point_text.specs.InHand.{IsLineInHand}
use Rattle.point_text.specs.Judged.{IsJudgement, WantsMemory}

-- how many bytes the reader took
abbrev pub bytes_taken : Reader → ℕ
bytes_taken reader = reader.taken

-- memory was refused
abbrev pub HasFailed : Reader → Type 0
HasFailed reader = WantsMemory reader.judgement

-- the fields of a line
abbrev pub line_fields : List ℕ → List (List ℕ)
line_fields line = fields_of (content line)

-- for sets of this shape, the reader took these bytes: line feeds part them into whole lines, which were judged, and the line in hand
pub record StandsFor (reader : Reader) (shape : Shape) (bytes : List ℕ) : Type 0 where
  pub taken : reader.taken ≡ length bytes
  pub whole : List (List ℕ)
  pub last : List ℕ
  pub lines : slice_split is_line_feed bytes ≡ whole ++ last ∷ []
  pub judged : IsJudgement reader.judgement shape (map line_fields whole)
  pub in_hand : IsLineInHand reader.line last
  pub begun : reader.begun ≡ false → last ≡ []

-- of the piece, the bytes before the rest were read
pub record Reads (old now : Reader) (piece rest : List ℕ) : Type 0 where
  pub done : List ℕ
  pub all : piece ≡ done ++ rest
  pub taken : now.taken ≡ old.taken + length done
  pub stands : (shape : Shape) (bytes : List ℕ) → StandsFor old shape bytes → StandsFor now shape (bytes ++ done)
  pub stays : HasFailed old → HasFailed now
