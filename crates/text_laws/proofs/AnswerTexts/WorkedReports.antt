-- Reports at a scale: each text is the spelling of its report and reads as it, and which texts are refused.
use Rattle.std.proofs.Common.{◌≡◌, refl, pos, List, [], ◌∷◌, ℕ, Ok, Err}
use Rattle.std.specs.Prelude.{codes}
use Rattle.std.specs.Fmt.{digits}
use Rattle.bounds_model.specs.Answers.{circle, centres}
use Rattle.bounds_model.specs.Reports.{Report}
use Rattle.bounds_model.specs.AnswerText.Formats.{bad_answer, big_number}
use Rattle.bounds_model.specs.AnswerText.Reading.{reading, reading_report}
use Rattle.bounds_model.specs.AnswerText.Spelling.{report_bytes}
use Rattle.text_laws.proofs.AnswerTexts.Worked.{the_circle, circle_text}

-- the circle around a right triangle with the sides 3, 4 and 5, in tenths
abbrev tenths : Report
tenths = record {
  scale = 10;
  answer = circle (record {
    size = record { n = pos 625; d = pos 1 };
    centre = record { x = pos 20; y = pos 15; w = pos 1 };
    supports = record { point = 1; weight = pos 1 } ∷ record { point = 2; weight = pos 1 } ∷ [];
  });
}

-- its text
abbrev tenths_text : List ℕ
tenths_text = codes "answer 2 circle\nscale 10\nsize 25/4\ncenter 20 15 1\nsupports 2\n1 1\n2 1\nend\n"

-- the text is the spelling
tenths_spelled : report_bytes tenths ≡ tenths_text
unfolding digits
tenths_spelled = refl

-- and reads as the report
tenths_read : reading_report tenths_text ≡ Ok tenths
tenths_read = refl

-- where whole units alone are known, it is refused
tenths_unknown : reading tenths_text ≡ Err (bad_answer 1)
tenths_unknown = refl

-- one square over two points, in halves: its size is a length
abbrev halves : Report
halves = record {
  scale = 2;
  answer = centres (record {
    size = record { n = pos 3; d = pos 2 };
    squares = record { x = pos 3; y = pos 3; w = pos 2 } ∷ [];
    leaves = record { first = 0; second = 1 } ∷ [];
  });
}

-- its text
halves_spelled : report_bytes halves ≡ codes "answer 2 centres\nscale 2\nsize 3/4\nsquares 1\n3 3 2\nleaves 1\n0 1\nend\n"
unfolding digits
halves_spelled = refl

-- reads as the report
halves_read : reading_report (codes "answer 2 centres\nscale 2\nsize 3/4\nsquares 1\n3 3 2\nleaves 1\n0 1\nend\n") ≡ Ok halves
halves_read = refl

-- in whole units a report is spelled as its answer
whole_read : reading_report circle_text ≡ Ok (record { scale = 1; answer = the_circle })
whole_read = refl

-- ---- refused heads

-- a scale of 1 is not written
scale_one : reading_report (codes "answer 2 circle\nscale 1\nsize 25/4\ncenter 20 15 1\nsupports 2\n1 1\n2 1\nend\n") ≡ Err (bad_answer 2)
scale_one = refl

-- nor one past the greatest
scale_large : reading_report (codes "answer 2 circle\nscale 1001\nsize 25/4\ncenter 20 15 1\nsupports 2\n1 1\n2 1\nend\n") ≡ Err (bad_answer 2)
scale_large = refl

-- the scale takes no sign
scale_signed : reading_report (codes "answer 2 circle\nscale +10\nsize 25/4\n") ≡ Err (bad_answer 2)
scale_signed = refl

-- a format with a scale has its line
no_scale : reading_report (codes "answer 2 circle\nsize 25/4\ncenter 20 15 1\nsupports 2\n1 1\n2 1\nend\n") ≡ Err (bad_answer 2)
no_scale = refl

-- the format without one has none
needless_scale : reading_report (codes "answer 1 circle\nscale 10\nsize 25/4\n") ≡ Err (bad_answer 2)
needless_scale = refl

-- the size in whole units is in lowest terms
doubled_size : reading_report (codes "answer 2 circle\nscale 10\nsize 50/8\ncenter 20 15 1\nsupports 2\n1 1\n2 1\nend\n") ≡ Err (bad_answer 3)
doubled_size = refl

-- the size in units of the file is within the limit
size_past : reading_report (codes "answer 2 circle\nscale 1000\nsize 85070591730234615865843651857942052864/1\ncenter 20 15 1\nsupports 2\n1 1\n2 1\nend\n") ≡ Err (bad_answer 3)
size_past = refl

-- the magnitude of the size in whole units goes before
size_big : reading_report (codes "answer 2 circle\nscale 1000\nsize 85070591730234615865843651857942052865/1\ncenter 20 15 1\nsupports 2\n1 1\n2 1\nend\n") ≡ Err (big_number 3)
size_big = refl
