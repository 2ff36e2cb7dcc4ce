-- The first refused line of lines to which one more was added.
use Rattle.std.proofs.Common.{◌≡◌, ◌∙◌, refl, sym, ap, ℕ, ◌+◌, ◌<◌, Bool, true, false, cond, nat_le, arith, Option, Some, None, Result, List, [], ◌∷◌, ◌++◌, length, length-append, append_assoc, append-nil, MatchOption}
use Rattle.std.specs.Option.{option_or, is_some}
use Rattle.std.specs.List.{list_any}
use Rattle.std.proofs.lemmas.Bool.Decides.{nat_tests}
use Rattle.bounds_model.specs.Asks.{Sets}
use Rattle.bounds_model.specs.PointText.{Meaning, Refusal, says_point, says_nothing, too_many, most_points, sets_of, last_set, scale_of, begins, line_refusal, first_refusal, at_scale, unless_refused, judged}
use Rattle.point_text.specs.declared.kept.KeptSets.{KeptSets}
use Rattle.point_text.specs.declared.text.TextFault.{TextFault}
use Rattle.point_text.specs.Refusals.{refusal_of}
use Rattle.point_text.specs.Kept.{Keeps}
use Rattle.point_text.specs.Judged.{Accepts, IsFaultOf}
use Rattle.point_text.specs.Keeping.{keeps_point}
use Rattle.point_text.proofs.KeptPoints.{keeps_more}
use Rattle.point_text.proofs.SetLaws.{sets_of-nothing}
use Rattle.point_text.proofs.ScaleLaws.{scale_of-more}

or_assoc : (a b c : Option Refusal) → option_or a (option_or b c) ≡ option_or (option_or a b) c
or_assoc None b c = refl
or_assoc (Some r) b c = refl

or_none : (a : Option Refusal) → option_or a None ≡ a
or_none None = refl
or_none (Some r) = refl

module _ {P : Type 0} where
  -- the first refused line of two lists stands in the first of them or in the second
  pub first_refusal-append : (before lines more : List (Meaning P)) → first_refusal before (lines ++ more) ≡ option_or (first_refusal before lines) (first_refusal (before ++ lines) more)
  first_refusal-append before [] more = ap (λ b. first_refusal b more) (sym (append-nil before))
  first_refusal-append before (line ∷ lines) more =
      ap (option_or (line_refusal before line)) (first_refusal-append (before ++ line ∷ []) lines more)
      ∙ (or_assoc (line_refusal before line) (first_refusal (before ++ line ∷ []) lines) (first_refusal ((before ++ line ∷ []) ++ lines) more)
      ∙ ap (λ b. option_or (first_refusal before (line ∷ lines)) (first_refusal b more)) (append_assoc before (line ∷ []) lines))

  -- behind lines of which none is refused, the next one decides
  pub refusal_of_next : (lines : List (Meaning P)) (next : Meaning P) → first_refusal [] lines ≡ None → first_refusal [] (lines ++ next ∷ []) ≡ line_refusal lines next
  refusal_of_next lines next none =
      first_refusal-append [] lines (next ∷ []) ∙ (ap (λ o. option_or o (first_refusal lines (next ∷ []))) none ∙ or_none (line_refusal lines next))

  -- a refused line decides whatever follows
  pub refusal_stays : (lines more : List (Meaning P)) (r : Refusal) → first_refusal [] lines ≡ Some r → first_refusal [] (lines ++ more) ≡ Some r
  refusal_stays lines more r is = first_refusal-append [] lines more ∙ ap (λ o. option_or o (first_refusal lines more)) is

  stays : (fault : Option Refusal) (lines more : List (Meaning P)) → MatchOption fault (keeps_point lines ≡ true) (λ r. first_refusal [] lines ≡ Some r)
      → MatchOption fault (keeps_point (lines ++ more) ≡ true) (λ r. first_refusal [] (lines ++ more) ≡ Some r)
  stays None lines more is = keeps_more lines more is
  stays (Some r) lines more is = refusal_stays lines more r is

  -- so does a fault that was found
  pub fault_stays : (fault : Option TextFault) (lines more : List (Meaning P)) (A B : Type 0) → is_some fault ≡ true
      → MatchOption fault A (λ f. IsFaultOf f lines)
      → MatchOption fault B (λ f. IsFaultOf f (lines ++ more))
  fault_stays None lines more A B some is = cc
  fault_stays (Some f) lines more A B some is = stays (refusal_of f) lines more is

  -- one more line is accepted
  pub accepts_next : (kept next : KeptSets P) (count scale now : ℕ) (begun later : Bool) (lines : List (Meaning P)) (m : Meaning P) → Accepts kept count scale begun lines
      → line_refusal lines m ≡ None → Keeps next (sets_of (lines ++ m ∷ [])) → scale_of (lines ++ m ∷ []) ≡ now → list_any begins (lines ++ m ∷ []) ≡ later
      → Accepts next (count + 1) now later (lines ++ m ∷ [])
  accepts_next kept next count scale now begun later lines m is good keeps scale_is begun_is = record {
    accepted = refusal_of_next lines m is.accepted ∙ good;
    as_many = length-append lines (m ∷ []) ∙ ap (λ n. n + 1) is.as_many;
    keeps = keeps;
    scale = scale_is;
    begun = begun_is;
  }

-- where no fault was found
pub no_fault : (fault : Option TextFault) → false ≡ is_some fault → fault ≡ None
no_fault None none = refl
no_fault (Some f) none = cc

pub without_fault : (fault : Option TextFault) (A : Type 0) (B : TextFault → Type 0) → false ≡ is_some fault → MatchOption fault A B → A
without_fault None A B none is = is
without_fault (Some f) A B none is = cc

-- a line that says nothing changes nothing
pub judged_nothing : {P : Type 0} (judge : List (List P) → Result Sets Refusal) (lines : List (Meaning P)) → judged judge (lines ++ says_nothing ∷ []) ≡ judged judge lines
judged_nothing judge lines =
    let more = lines ++ says_nothing ∷ [] in
    ap (λ sets. unless_refused (first_refusal [] more) (at_scale (scale_of more) (judge sets))) (sets_of-nothing lines)
    ∙ (ap (λ scale. unless_refused (first_refusal [] more) (at_scale scale (judge (sets_of lines)))) (scale_of-more lines (says_nothing ∷ []) refl)
    ∙ ap (λ refusal. unless_refused refusal (at_scale (scale_of lines) (judge (sets_of lines)))) (first_refusal-append [] lines (says_nothing ∷ []) ∙ or_none (first_refusal [] lines)))

-- ---- a line that says a point

-- a point for which there is room is not refused
pub point_taken : {P : Type 0} (before : List (Meaning P)) (p : P) → length (last_set (sets_of before)) < most_points → line_refusal before (says_point p) ≡ None
point_taken before p free =
    let room : nat_le most_points (length (last_set (sets_of before))) ≡ false = grind (arith, nat_tests) in
    ap (λ v. cond v (Some (too_many (length before + 1))) None) room

-- a point for which there is none is one too many
pub point_refused : {P : Type 0} (before : List (Meaning P)) (p : P) → length (last_set (sets_of before)) ≡ most_points → line_refusal before (says_point p) ≡ Some (too_many (length before + 1))
point_refused before p full =
    let none : nat_le most_points (length (last_set (sets_of before))) ≡ true = grind (arith, nat_tests) in
    ap (λ v. cond v (Some (too_many (length before + 1))) None) none
