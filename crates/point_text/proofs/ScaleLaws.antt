-- The scale that lines say, as one more line is read.
use Rattle.std.proofs.Common.{◌≡◌, ◌∙◌, refl, ap, ℕ, ◌+◌, ◌≤◌, ◌||◌, ◌&&◌, Bool, true, false, nat_le, Some, None, List, [], ◌∷◌, ◌++◌, length, arith}
use Rattle.std.specs.List.{list_any}
use Rattle.std.proofs.lemmas.Bool.Decides.{nat_tests}
use Rattle.bounds_model.specs.Asks.{scale_limit}
use Rattle.bounds_model.specs.PointText.{Meaning, says_nothing, ends_set, says_point, says_scale, bad_form, out_of_bounds, bad_line, out_of_range, begins, scale_of, line_refusal}
use Rattle.point_text.specs.Clamps.{clamped_size}

or_assoc : (a b c : Bool) → (a || (b || c)) ≡ ((a || b) || c)
or_assoc true b c = refl
or_assoc false b c = refl

-- a scale in its range is what was read
pub scale_read : (size scale : ℕ) → size ≡ clamped_size scale → size ≤ 1000 → scale ≡ size
scale_read size scale clamped to = omega arith

module _ {P : Type 0} where
  -- lines that say none
  pub scale_of-more : (lines more : List (Meaning P)) → scale_of more ≡ 1 → scale_of (lines ++ more) ≡ scale_of lines
  scale_of-more [] more none = none
  scale_of-more (says_scale scale ∷ rest) more none = refl
  scale_of-more (says_nothing ∷ rest) more none = scale_of-more rest more none
  scale_of-more (ends_set ∷ rest) more none = scale_of-more rest more none
  scale_of-more (says_point p ∷ rest) more none = scale_of-more rest more none
  scale_of-more (bad_form ∷ rest) more none = scale_of-more rest more none
  scale_of-more (out_of_bounds ∷ rest) more none = scale_of-more rest more none

  -- the first one
  pub scale_of-first : (lines : List (Meaning P)) (scale : ℕ) → list_any begins lines ≡ false → scale_of (lines ++ says_scale scale ∷ []) ≡ scale
  scale_of-first [] scale none = refl
  scale_of-first (says_nothing ∷ rest) scale none = scale_of-first rest scale none
  scale_of-first (ends_set ∷ rest) scale none = cc
  scale_of-first (says_point p ∷ rest) scale none = cc
  scale_of-first (says_scale first ∷ rest) scale none = cc
  scale_of-first (bad_form ∷ rest) scale none = scale_of-first rest scale none
  scale_of-first (out_of_bounds ∷ rest) scale none = scale_of-first rest scale none

  -- whether a scale may still follow
  pub begun-more : (lines : List (Meaning P)) (line : Meaning P) → list_any begins (lines ++ line ∷ []) ≡ (list_any begins lines || begins line)
  begun-more [] line = by (begins line)
    where
      by : (b : Bool) → (b || false) ≡ b
      by true = refl
      by false = refl
  begun-more (first ∷ rest) line = ap (λ b. begins first || b) (begun-more rest line) ∙ or_assoc (begins first) (list_any begins rest) (begins line)

  -- a line of the sort that one may follow
  pub begun-same : (lines : List (Meaning P)) (line : Meaning P) → begins line ≡ false → list_any begins (lines ++ line ∷ []) ≡ list_any begins lines
  begun-same lines line none = begun-more lines line ∙ (ap (λ b. list_any begins lines || b) none ∙ by (list_any begins lines))
    where
      by : (b : Bool) → (b || false) ≡ b
      by true = refl
      by false = refl

  -- a line of the sort that none may follow
  pub begun-now : (lines : List (Meaning P)) (line : Meaning P) → begins line ≡ true → list_any begins (lines ++ line ∷ []) ≡ true
  begun-now lines line now = begun-more lines line ∙ (ap (λ b. list_any begins lines || b) now ∙ by (list_any begins lines))
    where
      by : (b : Bool) → (b || true) ≡ true
      by true = refl
      by false = refl

  -- ---- a line that says a scale

  -- behind a point, an end of a set or another scale
  pub scale_late : (before : List (Meaning P)) (scale : ℕ) → list_any begins before ≡ true → line_refusal before (says_scale scale) ≡ Some (bad_line (length before + 1))
  scale_late before scale late = rw late refl

  -- out of its range, also where it was clamped
  pub scale_far : (before : List (Meaning P)) (size scale : ℕ) → list_any begins before ≡ false → size ≡ clamped_size scale → (1 ≤ size → size ≤ 1000 → ⊥)
      → line_refusal before (says_scale scale) ≡ Some (out_of_range (length before + 1))
  scale_far before size scale first clamped far =
      let out : (nat_le 1 scale && nat_le scale scale_limit) ≡ false = by (nat_le 1 scale) (nat_le scale scale_limit) refl refl in
      rw (first, out) refl
    where
      by : (a b : Bool) → nat_le 1 scale ≡ a → nat_le scale scale_limit ≡ b → (a && b) ≡ false
      by true true from to =
          let least : 1 ≤ scale = grind (arith, nat_tests) in
          let most : scale ≤ 1000 = grind (arith, nat_tests) in
          absurd (far (omega (arith, clamped)) (omega (arith, clamped)))
      by true false from to = refl
      by false b from to = refl

  -- in its range it is taken
  pub scale_taken : (before : List (Meaning P)) (scale : ℕ) → list_any begins before ≡ false → 1 ≤ scale → scale ≤ 1000 → line_refusal before (says_scale scale) ≡ None
  scale_taken before scale first from to =
      let least : nat_le 1 scale ≡ true = grind (arith, nat_tests) in
      let most : nat_le scale scale_limit ≡ true = grind (arith, nat_tests) in
      rw (first, least, most) refl
