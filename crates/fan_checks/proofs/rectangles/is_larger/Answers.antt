use Rattle.std.proofs.Common.{◌≡◌, refl, ap, ◌∙◌, ◌*◌, ◌≤◌, ◌^◌, [], ◌∷◌}
use Rattle.std.proofs.lemmas.Bool.Decides.{Decides-ltb}
use mir.Syntax.{w128}
use Rattle.integers.proofs.UnsignedArithmetic.{limited, with_limited, amounts, amount_fits}
use Rattle.bounds_model.specs.Plane.{dot, quarter_turn}
use Rattle.bounds_model.specs.Fans.{reach}
use Rattle.bounded_coords.specs.Clouds.{points_of}
use Rattle.answers.specs.Answers.{vector_of}
use Rattle.directions.proofs.Reading.{reach_is}
use Rattle.directions.proofs.Reaches.{reach_within}
use Rattle.fan_checks.proofs.Widths.{stands_within, ordered_above}
use Rattle.fan_checks.proofs.rectangles.is_larger.Goals as goal

pub overflow_mul-result-2 : goal.overflow_mul-result-2
overflow_mul-result-2 c =
    let along : c.beyond-along.result ≤ 320000000000 = reach_within c.beyond-along.ensures.value c.beyond-along.ensures.q_size c.beyond-along.ensures.p_size in
    let across : c.beyond-across.result ≤ 320000000000 = reach_within c.beyond-across.ensures.value c.beyond-across.ensures.q_size c.beyond-across.ensures.p_size in
    with_limited (limited _ _ along ∷ limited _ _ across ∷ []) (λ xs h a b. simp (a, b, amounts) (amount_fits xs h w128 _ tt))

pub overflow_mul-result-3 : goal.overflow_mul-result-3
overflow_mul-result-3 c =
    let along : c.beyond-along.result ≤ 320000000000 = reach_within c.beyond-along.ensures.value c.beyond-along.ensures.q_size c.beyond-along.ensures.p_size in
    let across : c.beyond-across.result ≤ 320000000000 = reach_within c.beyond-across.ensures.value c.beyond-across.ensures.q_size c.beyond-across.ensures.p_size in
    let den : c.den.result ≤ 2 ^ 39 = stands_within c.den.ensures.value c.requires.denominator in
    with_limited (limited _ _ along ∷ limited _ _ across ∷ limited _ _ den ∷ []) (λ xs h a b d. simp (a, b, d, amounts) (amount_fits xs h w128 _ tt))

pub returns : goal.returns
returns c =
    let points = points_of c.args.cloud in
    let d = vector_of c.args.cone.dir in
    let along = c.beyond-along.ensures.value ∙ reach_is points d c.args.cone.hi c.args.cone.lo c.at-2.result.now c.at.result.now (dot d c.at-2.result.now) (dot d c.at.result.now) c.at-2.ensures c.at.ensures refl refl in
    let turned : vector_of c.quarter_turn.result ≡ quarter_turn d = c.quarter_turn.ensures.value in
    let across = c.beyond-across.ensures.value ∙ reach_is points (vector_of c.quarter_turn.result) c.args.cone.over c.args.cone.under c.at-4.result.now c.at-3.result.now (dot (vector_of c.quarter_turn.result) c.at-4.result.now) (dot (vector_of c.quarter_turn.result) c.at-3.result.now) c.at-4.ensures c.at-3.ensures refl refl
    ∙ ap (λ v. reach points v c.args.cone.over c.args.cone.under) turned in
    let both = ordered_above c.num.ensures.value c.squared_length.ensures.value along across c.den.ensures.value in
    let test = Decides-ltb (c.num.result * c.squared_length.result) (c.beyond-along.result * c.beyond-across.result * c.den.result) in
    (λ same. both.0 (test.0 same), λ order. test.1 (both.1 order))
