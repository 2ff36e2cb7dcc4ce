-- What lines come to that were judged: the first fault, or their sets and their scale.
use Rattle.std.proofs.Common.{◌≡◌, refl, ap, ℕ, Option, Some, None, Result, Ok, Err, List, [], IfSome}
use Rattle.bounds_model.specs.Asks.{Sets, PointFile}
use Rattle.bounds_model.specs.PointText.{Meaning, Refusal, sets_of, scale_of, first_refusal, at_scale, judged}

module _ {P : Type 0} (judge : List (List P) → Result Sets Refusal) (lines : List (Meaning P)) where
  -- a refused line
  pub refused_first : (told : Option Refusal) → IfSome told (λ r. first_refusal [] lines ≡ Some r) → IfSome told (λ r. judged judge lines ≡ Err r)
  refused_first None is = tt
  refused_first (Some r) is = rw is refl

  unscaled_refusal : (answer : Result Sets Refusal) (r : Refusal) → at_scale 1 answer ≡ Err r → answer ≡ Err r
  unscaled_refusal (Ok sets) r is = cc
  unscaled_refusal (Err other) r is = cc

  -- sets that are refused
  pub refused_sets : (told : Option Refusal) → first_refusal [] lines ≡ None → IfSome told (λ r. at_scale 1 (judge (sets_of lines)) ≡ Err r) → IfSome told (λ r. judged judge lines ≡ Err r)
  refused_sets None none is = tt
  refused_sets (Some r) none is = rw (none, unscaled_refusal (judge (sets_of lines)) r is) refl

  unscaled_sets : (answer : Result Sets Refusal) (file : PointFile) → at_scale 1 answer ≡ Ok file → answer ≡ Ok file.sets
  unscaled_sets (Ok sets) file is = let same : record { scale = 1; sets = sets } ≡ file = cc in ap (λ f. Ok f.sets) same
  unscaled_sets (Err r) file is = cc

  -- sets that are taken
  pub taken_sets : (file : PointFile) (scale : ℕ) → first_refusal [] lines ≡ None → scale_of lines ≡ scale → at_scale 1 (judge (sets_of lines)) ≡ Ok file
      → judged judge lines ≡ Ok (record { scale = scale; sets = file.sets })
  taken_sets file scale none is answer = rw (none, is, unscaled_sets (judge (sets_of lines)) file answer) refl
