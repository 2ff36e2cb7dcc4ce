-- Lines of which a point is kept.
use Rattle.std.proofs.Common.{◌≡◌, ◌∙◌, refl, ap, ℕ, ℤ, Bool, true, false, ◌&&◌, not, Option, Some, None, List, [], ◌∷◌, ◌++◌, map, IfSome}
use Rattle.std.specs.Option.{option_or, is_some}
use Rattle.std.proofs.lemmas.List.{map-append}
use Rattle.bounds_model.specs.Asks.{Shape, one_plane, plane_or_bare, one_space, two_space}
use Rattle.bounds_model.specs.PointText.{Meaning, Refusal, says_nothing, ends_set, says_point, says_scale, bad_form, out_of_bounds, line_refusal, first_refusal, fields_meaning, plane_meaning, space_meaning}
use Rattle.point_text.specs.declared.judgement.Judgement.{Judgement}
use Rattle.point_text.specs.declared.judgement.Judgement.TheVariants.{Plane, Space}
use Rattle.point_text.specs.declared.text.TextFault.{TextFault}
use Rattle.point_text.specs.declared.text.TextFault.TheVariants.{BadLine, OutOfRange, TooMany, NoPoints, WrongSets, OutOfMemory}
use Rattle.point_text.specs.Judged.{IsFaultOf, IsJudgement, WantsMemory, plane_shape, space_shape, plane_meanings, space_meanings}
use Rattle.point_text.specs.Keeping.{keeps_behind, keeps_point, fields_keep_point}
use Rattle.point_text.specs.Refusals.{refusal_of}

-- ---- lines by what they say

and_more : (a b c : Bool) → (b ≡ true → c ≡ true) → (a && b) ≡ true → (a && c) ≡ true
and_more true b c more is = more is
and_more false b c more is = cc

-- of two refusals there is none, so the first is none
none_first : (a b : Option Refusal) → option_or a b ≡ None → not (is_some a) ≡ true
none_first None b is = refl
none_first (Some r) b is = cc

none_second : (a b : Option Refusal) → option_or a b ≡ None → b ≡ None
none_second None b is = is
none_second (Some r) b is = cc

both : (a b : Bool) → a ≡ true → b ≡ true → (a && b) ≡ true
both a b h k = rw (h, k) refl

module _ {P : Type 0} where
  next_more : (before : List (Meaning P)) (line : Meaning P) (rest more : List (Meaning P)) → (keeps_behind (before ++ line ∷ []) rest ≡ true → keeps_behind (before ++ line ∷ []) (rest ++ more) ≡ true)
      → (not (is_some (line_refusal before line)) && keeps_behind (before ++ line ∷ []) rest) ≡ true
      → (not (is_some (line_refusal before line)) && keeps_behind (before ++ line ∷ []) (rest ++ more)) ≡ true
  next_more before line rest more longer is =
      and_more (not (is_some (line_refusal before line))) (keeps_behind (before ++ line ∷ []) rest) (keeps_behind (before ++ line ∷ []) (rest ++ more)) longer is

  more_behind : (before lines more : List (Meaning P)) → keeps_behind before lines ≡ true → keeps_behind before (lines ++ more) ≡ true
  more_behind before [] more is = cc
  more_behind before (says_point p ∷ rest) more is = refl
  more_behind before (says_nothing ∷ rest) more is = next_more before says_nothing rest more (more_behind (before ++ says_nothing ∷ []) rest more) is
  more_behind before (ends_set ∷ rest) more is = next_more before ends_set rest more (more_behind (before ++ ends_set ∷ []) rest more) is
  more_behind before (says_scale scale ∷ rest) more is = next_more before (says_scale scale) rest more (more_behind (before ++ says_scale scale ∷ []) rest more) is
  more_behind before (bad_form ∷ rest) more is = next_more before bad_form rest more (more_behind (before ++ bad_form ∷ []) rest more) is
  more_behind before (out_of_bounds ∷ rest) more is = next_more before out_of_bounds rest more (more_behind (before ++ out_of_bounds ∷ []) rest more) is

  -- whatever lines follow
  pub keeps_more : (lines more : List (Meaning P)) → keeps_point lines ≡ true → keeps_point (lines ++ more) ≡ true
  keeps_more lines more is = more_behind [] lines more is

  next_kept : (before : List (Meaning P)) (line : Meaning P) (rest : List (Meaning P)) (p : P) → first_refusal before (line ∷ rest) ≡ None
      → (first_refusal (before ++ line ∷ []) rest ≡ None → keeps_behind (before ++ line ∷ []) (rest ++ says_point p ∷ []) ≡ true)
      → (not (is_some (line_refusal before line)) && keeps_behind (before ++ line ∷ []) (rest ++ says_point p ∷ [])) ≡ true
  next_kept before line rest p none more =
      both _ _ (none_first (line_refusal before line) (first_refusal (before ++ line ∷ []) rest) none)
      (more (none_second (line_refusal before line) (first_refusal (before ++ line ∷ []) rest) none))

  -- a point behind lines of which none is refused
  pub keeps_next : (before lines : List (Meaning P)) (p : P) → first_refusal before lines ≡ None → keeps_behind before (lines ++ says_point p ∷ []) ≡ true
  keeps_next before [] p none = refl
  keeps_next before (says_point q ∷ rest) p none = refl
  keeps_next before (says_nothing ∷ rest) p none = next_kept before says_nothing rest p none (keeps_next (before ++ says_nothing ∷ []) rest p)
  keeps_next before (ends_set ∷ rest) p none = next_kept before ends_set rest p none (keeps_next (before ++ ends_set ∷ []) rest p)
  keeps_next before (says_scale scale ∷ rest) p none = next_kept before (says_scale scale) rest p none (keeps_next (before ++ says_scale scale ∷ []) rest p)
  keeps_next before (bad_form ∷ rest) p none = cc
  keeps_next before (out_of_bounds ∷ rest) p none = cc

  nothing_behind : (before lines : List (Meaning P)) → keeps_behind before (lines ++ says_nothing ∷ []) ≡ keeps_behind before lines
  nothing_behind before [] = refl
  nothing_behind before (says_point p ∷ rest) = refl
  nothing_behind before (says_nothing ∷ rest) = ap (λ b. not (is_some (line_refusal before says_nothing)) && b) (nothing_behind (before ++ says_nothing ∷ []) rest)
  nothing_behind before (ends_set ∷ rest) = ap (λ b. not (is_some (line_refusal before ends_set)) && b) (nothing_behind (before ++ ends_set ∷ []) rest)
  nothing_behind before (says_scale scale ∷ rest) =
      ap (λ b. not (is_some (line_refusal before (says_scale scale))) && b) (nothing_behind (before ++ says_scale scale ∷ []) rest)
  nothing_behind before (bad_form ∷ rest) = refl
  nothing_behind before (out_of_bounds ∷ rest) = refl

-- ---- lines by their fields

module _ {P : Type 0} (say : List (Option ℤ) → Meaning P) where
  said_more : (lines more : List (List (List ℕ))) → keeps_point (map (fields_meaning say) lines) ≡ true → keeps_point (map (fields_meaning say) (lines ++ more)) ≡ true
  said_more lines more is = ap keeps_point (map-append (fields_meaning say) lines more) ∙ keeps_more (map (fields_meaning say) lines) (map (fields_meaning say) more) is

  -- a line that says nothing changes nothing
  said_nothing : (lines : List (List (List ℕ))) → keeps_point (map (fields_meaning say) (lines ++ [] ∷ [])) ≡ keeps_point (map (fields_meaning say) lines)
  said_nothing lines = ap keeps_point (map-append (fields_meaning say) lines ([] ∷ [])) ∙ nothing_behind [] (map (fields_meaning say) lines)

pub fields_keep_more : (shape : Shape) (lines more : List (List (List ℕ))) → fields_keep_point shape lines ≡ true → fields_keep_point shape (lines ++ more) ≡ true
fields_keep_more one_plane lines more is = said_more plane_meaning lines more is
fields_keep_more plane_or_bare lines more is = said_more plane_meaning lines more is
fields_keep_more one_space lines more is = said_more space_meaning lines more is
fields_keep_more two_space lines more is = said_more space_meaning lines more is

pub fields_keep_nothing : (shape : Shape) (lines : List (List (List ℕ))) → fields_keep_point shape (lines ++ [] ∷ []) ≡ fields_keep_point shape lines
fields_keep_nothing one_plane lines = said_nothing plane_meaning lines
fields_keep_nothing plane_or_bare lines = said_nothing plane_meaning lines
fields_keep_nothing one_space lines = said_nothing space_meaning lines
fields_keep_nothing two_space lines = said_nothing space_meaning lines

-- sets of the plane, and of space
pub plane_kept : (may_be_bare : Bool) (lines : List (List (List ℕ))) → fields_keep_point (plane_shape may_be_bare) lines ≡ keeps_point (plane_meanings lines)
plane_kept true lines = refl
plane_kept false lines = refl

pub space_kept : (are_two : Bool) (lines : List (List (List ℕ))) → fields_keep_point (space_shape are_two) lines ≡ keeps_point (space_meanings lines)
space_kept true lines = refl
space_kept false lines = refl

-- ---- a fault

-- the refusal that a fault reports
pub refusal_told : {P : Type 0} (fault : TextFault) (lines : List (Meaning P)) → IsFaultOf fault lines → IfSome (refusal_of fault) (λ refusal. first_refusal [] lines ≡ Some refusal)
refusal_told (BadLine line) lines is = is
refusal_told (OutOfRange line) lines is = is
refusal_told (TooMany line) lines is = is
refusal_told (NoPoints set) lines is = is
refusal_told (WrongSets count) lines is = is
refusal_told OutOfMemory lines is = tt

-- memory was refused
pub judgement_keeps : (judgement : Judgement) (shape : Shape) (lines : List (List (List ℕ))) → WantsMemory judgement → IsJudgement judgement shape lines → fields_keep_point shape lines ≡ true
judgement_keeps (Plane judge may_be_bare) shape lines failed (called, judged) = ap (λ s. fields_keep_point s lines) called ∙ (plane_kept may_be_bare lines ∙ (rw failed at judged))
judgement_keeps (Space judge are_two) shape lines failed (called, judged) = ap (λ s. fields_keep_point s lines) called ∙ (space_kept are_two lines ∙ (rw failed at judged))
