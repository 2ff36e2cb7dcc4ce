use Rattle.std.proofs.Common.{◌≡◌, refl, ap, ◌∙◌, ℕ, ◌+◌, ◌≤◌, ◌^◌, pos, ◌+ℤ◌, ◌≤ℤ◌, FitsSigned, [], ◌∷◌, arith}
use Rattle.std.proofs.lemmas.Int.{ints}
use Rattle.std.proofs.lemmas.Bool.{leb-true, le-leb}
use mir.Syntax.{w128}
use Rattle.integers.proofs.Sizes.{size_fits_in}
use Rattle.integers.proofs.UnsignedArithmetic.{limited, with_limited, amounts, amount_fits}
use Rattle.bounds_model.specs.Plane.{dot}
use Rattle.bounds_model.specs.ParallelogramAnswer.{IsShortChord}
use Rattle.bounded_coords.specs.Clouds.{points_of}
use Rattle.answers.specs.declared.parallelograms.Chord.{Chord}
use Rattle.answers.specs.Answers.{vector_of, chord_of}
use Rattle.directions.proofs.Bounds.{size_in, magnitude_read}
use Rattle.directions.proofs.Reading.{reach_is}
use Rattle.directions.proofs.Reaches.{not_behind, reach_within}
use Rattle.fan_checks.proofs.Widths.{stands_within, ordered}
use Rattle.fan_checks.proofs.parallelograms.is_not_smaller.Goals as goal
use Rattle.model_laws.proofs.Reaches.{reach_nonneg}

pub beyond-width-requires-clause-order : goal.beyond-width-requires-clause-order
beyond-width-requires-clause-order c =
    let points = points_of c.args.cloud in
    let d = vector_of c.args.d in
    not_behind points d c.args.cone.lo c.args.cone.hi c.at.result.now c.at-2.result.now c.at.ensures c.at-2.ensures (reach_nonneg points d c.args.cone.hi c.args.cone.lo c.requires.lo c.requires.extreme)

-- the weights of a short chord
weights : (chord : Chord) → IsShortChord (chord_of chord) → chord.beta + chord.gamma ≤ 2 ^ 39
weights chord h = plain chord.beta chord.gamma h.weights
  where
    plain : (x y : ℕ) → (pos x +ℤ pos y) ≤ℤ pos (2 ^ 39) → x + y ≤ 2 ^ 39
    plain x y h = omega (arith, ints)

pub overflow_mul-result : goal.overflow_mul-result
overflow_mul-result c =
    let num : c.num.result ≤ 2 ^ 82 = stands_within c.num.ensures.value c.requires.numerator in
    let beta : c.args.chord.beta ≤ 2 ^ 39 = omega (arith, weights c.args.chord c.requires.chord) in
    let gamma : c.args.chord.gamma ≤ 2 ^ 39 = omega (arith, weights c.args.chord c.requires.chord) in
    with_limited (limited _ _ num ∷ limited _ _ beta ∷ limited _ _ gamma ∷ []) (λ xs h a b g. simp (a, b, g, amounts) (amount_fits xs h w128 _ tt))

pub overflow_mul-result-2 : goal.overflow_mul-result-2
overflow_mul-result-2 c =
    let width : c.beyond-width.result ≤ 320000000000 = reach_within c.beyond-width.ensures.value c.beyond-width.ensures.q_size c.beyond-width.ensures.p_size in
    let fits : FitsSigned w128 c.args.chord.k = size_fits_in w128 (size_in c.requires.chord.k) tt in
    let k = magnitude_read c.unsigned_abs.result c.args.chord.k fits c.requires.chord.k c.unsigned_abs.ensures.value in
    with_limited (limited _ _ width ∷ limited _ _ k.1 ∷ []) (λ xs h a b. simp (a, b, amounts) (amount_fits xs h w128 _ tt))

pub overflow_mul-result-3 : goal.overflow_mul-result-3
overflow_mul-result-3 c =
    let width : c.beyond-width.result ≤ 320000000000 = reach_within c.beyond-width.ensures.value c.beyond-width.ensures.q_size c.beyond-width.ensures.p_size in
    let fits : FitsSigned w128 c.args.chord.k = size_fits_in w128 (size_in c.requires.chord.k) tt in
    let k = magnitude_read c.unsigned_abs.result c.args.chord.k fits c.requires.chord.k c.unsigned_abs.ensures.value in
    let den : c.den.result ≤ 2 ^ 39 = stands_within c.den.ensures.value c.requires.denominator in
    with_limited (limited _ _ width ∷ limited _ _ k.1 ∷ limited _ _ den ∷ []) (λ xs h a b d. simp (a, b, d, amounts) (amount_fits xs h w128 _ tt))

pub returns : goal.returns
returns c =
    let points = points_of c.args.cloud in
    let d = vector_of c.args.d in
    let width = c.beyond-width.ensures.value ∙ reach_is points d c.args.cone.hi c.args.cone.lo c.at-2.result.now c.at.result.now (dot d c.at-2.result.now) (dot d c.at.result.now) c.at-2.ensures c.at.ensures refl refl in
    let fits : FitsSigned w128 c.args.chord.k = size_fits_in w128 (size_in c.requires.chord.k) tt in
    let k = magnitude_read c.unsigned_abs.result c.args.chord.k fits c.requires.chord.k c.unsigned_abs.ensures.value in
    let weight : pos (c.args.chord.beta + c.args.chord.gamma) ≡ pos c.args.chord.beta +ℤ pos c.args.chord.gamma = refl in
    let both = ordered c.num.ensures.value weight width (ap pos k.0) c.den.ensures.value in
    (λ same. both.0 (leb-true _ _ same), λ order. le-leb _ _ (both.1 order))
