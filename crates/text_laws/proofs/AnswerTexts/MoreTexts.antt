-- More texts that read as answers, and the beginnings of a text.
use Rattle.std.proofs.Common.{◌≡◌, refl, ℕ, zero, suc, ◌+◌, ◌^◌, pos, List, [], ◌∷◌, length, map, take, Ok, Err}
use Rattle.std.specs.Prelude.{codes, count_by, ◌==◌}
use Rattle.std.specs.Fmt.{digits}
use Rattle.bounds_model.specs.Answers.{Answer, circle, sphere, centres}
use Rattle.bounds_model.specs.AnswerText.Spelling.{spelling}
use Rattle.bounds_model.specs.AnswerText.Kinds.{centres_kind}
use Rattle.bounds_model.specs.AnswerText.Formats.{bad_answer}
use Rattle.bounds_model.specs.AnswerText.Reading.{reading, reading_of}
use Rattle.text_laws.proofs.AnswerTexts.Worked.{circle_text, the_centres, centres_text}

-- a sphere around one point
abbrev one_point : Answer
one_point = sphere (record {
  size = record { n = pos 0; d = pos 1 };
  centre = record { x = pos 3; y = pos 0; z = pos 5; w = pos 1 };
  supports = record { point = 7; weight = pos 1 } ∷ [];
})

-- its spelling
one_point_spelled : spelling one_point ≡ codes "answer 1 sphere\nsize 0/1\ncenter 3 0 5 1\nsupports 1\n7 1\nend\n"
unfolding digits
one_point_spelled = refl

-- its text
one_point_read : reading (codes "answer 1 sphere\nsize 0/1\ncenter 3 0 5 1\nsupports 1\n7 1\nend\n") ≡ Ok one_point
one_point_read = refl

-- a square of no size has no leaves
abbrev no_leaves : Answer
no_leaves = centres (record {
  size = record { n = pos 0; d = pos 1 };
  squares = record { x = pos 5; y = pos 5; w = pos 1 } ∷ [];
  leaves = [];
})

-- its spelling
no_leaves_spelled : spelling no_leaves ≡ codes "answer 1 centres\nsize 0/1\nsquares 1\n5 5 1\nleaves 0\nend\n"
unfolding digits
no_leaves_spelled = refl

-- its text
no_leaves_read : reading (codes "answer 1 centres\nsize 0/1\nsquares 1\n5 5 1\nleaves 0\nend\n") ≡ Ok no_leaves
no_leaves_read = refl

-- a number at the limit, and a point's number and a weight that no checker takes
abbrev at_limits : Answer
at_limits = circle (record {
  size = record { n = pos (2 ^ 126); d = pos 1 };
  centre = record { x = pos 4; y = pos 3; w = pos 2 };
  supports = record { point = 9999; weight = pos 0 } ∷ [];
})

-- its text
at_limits_read : reading (codes "answer 1 circle\nsize 85070591730234615865843651857942052864/1\ncenter 4 3 2\nsupports 1\n9999 0\nend\n") ≡ Ok at_limits
at_limits_read = refl

-- ---- some kinds alone

-- where centres alone are known, their text reads as before
centres_known : reading_of (centres_kind ∷ []) centres_text ≡ Ok the_centres
centres_known = refl

-- and the first line of another kind is refused
circle_unknown : reading_of (centres_kind ∷ []) circle_text ≡ Err (bad_answer 1)
circle_unknown = refl

-- ---- beginnings

-- the numbers below a bound, the greatest first
abbrev below : ℕ → List ℕ
below zero = []
below (suc n) = n ∷ below n

-- each beginning of a whole text is refused at the line where it breaks off
each_beginning : map (λ n. reading (take n circle_text)) (below (length circle_text)) ≡ map (λ n. Err (bad_answer (1 + count_by (λ b. b == 10) (take n circle_text)))) (below (length circle_text))
each_beginning = refl
