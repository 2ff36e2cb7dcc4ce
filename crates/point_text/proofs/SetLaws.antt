-- The sets of points that lines say, as one more line is read.
use Rattle.std.proofs.Common.{◌≡◌, ◌∙◌, refl, ap, ℕ, zero, suc, ◌+◌, ◌<◌, List, [], ◌∷◌, ◌++◌, length, get_or, arith}
use Rattle.std.specs.List.{onto_first}
use Rattle.bounds_model.specs.PointText.{Meaning, says_nothing, ends_set, says_point, says_scale, bad_form, out_of_bounds, sets_of, last_set}
use Rattle.point_text.specs.Kept.{with_point}

module _ {P : Type 0} where
  -- ---- one more set

  pub set_at-end : (sets : List (List P)) (i : ℕ) → get_or (sets ++ [] ∷ []) i [] ≡ get_or sets i []
  set_at-end [] zero = refl
  set_at-end [] (suc i) = refl
  set_at-end (points ∷ sets) zero = refl
  set_at-end (points ∷ sets) (suc i) = set_at-end sets i

  pub last_set-end : (sets : List (List P)) → last_set (sets ++ [] ∷ []) ≡ []
  last_set-end [] = refl
  last_set-end (points ∷ []) = refl
  last_set-end (points ∷ next ∷ sets) = last_set-end (next ∷ sets)

  -- ---- one more point in the last set

  pub length-with_point : (p : P) (sets : List (List P)) → length (with_point p sets) ≡ length sets
  length-with_point p [] = refl
  length-with_point p (points ∷ []) = refl
  length-with_point p (points ∷ next ∷ sets) = ap (λ n. suc n) (length-with_point p (next ∷ sets))

  pub last_set-with_point : (p : P) (sets : List (List P)) → 0 < length sets → last_set (with_point p sets) ≡ last_set sets ++ p ∷ []
  last_set-with_point p [] some = absurd (omega arith)
  last_set-with_point p (points ∷ []) some = refl
  last_set-with_point p (points ∷ next ∷ []) some = refl
  last_set-with_point p (points ∷ next ∷ third ∷ sets) some = last_set-with_point p (next ∷ third ∷ sets) (omega arith)

  -- the sets before the last stay as they are
  pub set_at-with_point : (p : P) (sets : List (List P)) (i : ℕ) → i + 1 < length sets → get_or (with_point p sets) i [] ≡ get_or sets i []
  set_at-with_point p [] i before = refl
  set_at-with_point p (points ∷ []) i before = absurd (omega arith)
  set_at-with_point p (points ∷ next ∷ sets) zero before = refl
  set_at-with_point p (points ∷ next ∷ sets) (suc i) before = set_at-with_point p (next ∷ sets) i (omega arith)

  -- ---- the sets of lines with one more line

  length-onto_first : (p : P) (sets : List (List P)) → 0 < length (onto_first p sets)
  length-onto_first p [] = omega arith
  length-onto_first p (points ∷ sets) = omega arith

  -- there is always a set
  pub sets_of-some : (lines : List (Meaning P)) → 0 < length (sets_of lines)
  sets_of-some [] = omega arith
  sets_of-some (says_nothing ∷ rest) = sets_of-some rest
  sets_of-some (ends_set ∷ rest) = omega arith
  sets_of-some (says_point p ∷ rest) = length-onto_first p (sets_of rest)
  sets_of-some (says_scale scale ∷ rest) = sets_of-some rest
  sets_of-some (bad_form ∷ rest) = sets_of-some rest
  sets_of-some (out_of_bounds ∷ rest) = sets_of-some rest

  -- lines that say no point and end no set
  sets_of-more : (before more : List (Meaning P)) → sets_of more ≡ [] ∷ [] → sets_of (before ++ more) ≡ sets_of before
  sets_of-more [] more none = none
  sets_of-more (says_nothing ∷ rest) more none = sets_of-more rest more none
  sets_of-more (ends_set ∷ rest) more none = ap (λ sets. [] ∷ sets) (sets_of-more rest more none)
  sets_of-more (says_point p ∷ rest) more none = ap (onto_first p) (sets_of-more rest more none)
  sets_of-more (says_scale scale ∷ rest) more none = sets_of-more rest more none
  sets_of-more (bad_form ∷ rest) more none = sets_of-more rest more none
  sets_of-more (out_of_bounds ∷ rest) more none = sets_of-more rest more none

  pub sets_of-nothing : (before : List (Meaning P)) → sets_of (before ++ says_nothing ∷ []) ≡ sets_of before
  sets_of-nothing before = sets_of-more before (says_nothing ∷ []) refl

  pub sets_of-scale : (before : List (Meaning P)) (scale : ℕ) → sets_of (before ++ says_scale scale ∷ []) ≡ sets_of before
  sets_of-scale before scale = sets_of-more before (says_scale scale ∷ []) refl

  pub onto_first-end : (p : P) (sets : List (List P)) → 0 < length sets → onto_first p (sets ++ [] ∷ []) ≡ onto_first p sets ++ [] ∷ []
  onto_first-end p [] some = absurd (omega arith)
  onto_first-end p (points ∷ sets) some = refl

  pub sets_of-end : (before : List (Meaning P)) → sets_of (before ++ ends_set ∷ []) ≡ sets_of before ++ [] ∷ []
  sets_of-end [] = refl
  sets_of-end (says_nothing ∷ rest) = sets_of-end rest
  sets_of-end (ends_set ∷ rest) = ap (λ sets. [] ∷ sets) (sets_of-end rest)
  sets_of-end (says_point p ∷ rest) = ap (onto_first p) (sets_of-end rest) ∙ onto_first-end p (sets_of rest) (sets_of-some rest)
  sets_of-end (says_scale scale ∷ rest) = sets_of-end rest
  sets_of-end (bad_form ∷ rest) = sets_of-end rest
  sets_of-end (out_of_bounds ∷ rest) = sets_of-end rest

  pub onto_first-with_point : (q p : P) (sets : List (List P)) → 0 < length sets → onto_first q (with_point p sets) ≡ with_point p (onto_first q sets)
  onto_first-with_point q p [] some = absurd (omega arith)
  onto_first-with_point q p (points ∷ []) some = refl
  onto_first-with_point q p (points ∷ next ∷ sets) some = refl

  pub with_point-after : (p : P) (sets : List (List P)) → 0 < length sets → [] ∷ with_point p sets ≡ with_point p ([] ∷ sets)
  with_point-after p [] some = absurd (omega arith)
  with_point-after p (points ∷ sets) some = refl

  pub sets_of-point : (before : List (Meaning P)) (p : P) → sets_of (before ++ says_point p ∷ []) ≡ with_point p (sets_of before)
  sets_of-point [] p = refl
  sets_of-point (says_nothing ∷ rest) p = sets_of-point rest p
  sets_of-point (ends_set ∷ rest) p = ap (λ sets. [] ∷ sets) (sets_of-point rest p) ∙ with_point-after p (sets_of rest) (sets_of-some rest)
  sets_of-point (says_point q ∷ rest) p = ap (onto_first q) (sets_of-point rest p) ∙ onto_first-with_point q p (sets_of rest) (sets_of-some rest)
  sets_of-point (says_scale scale ∷ rest) p = sets_of-point rest p
  sets_of-point (bad_form ∷ rest) p = sets_of-point rest p
  sets_of-point (out_of_bounds ∷ rest) p = sets_of-point rest p
