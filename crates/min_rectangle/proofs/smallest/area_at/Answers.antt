use Rattle.std.proofs.Common.{◌≡◌, refl, sym, ◌∙◌, ap, ap₂, subst, ℕ, ◌<◌, ◌≤◌, ℤ, pos, ◌*ℤ◌, ◌<ℤ◌, [], ◌∷◌, arith}
use Rattle.std.proofs.lemmas.Int.{ints}
use mir.Syntax.{w128}
use Rattle.integers.proofs.UnsignedArithmetic.{limited, with_limited, amounts, amount_fits, amount_within}
use Rattle.bounds_model.specs.Plane.{dot, quarter_turn, squared_length}
use Rattle.bounds_model.specs.Fans.{reach, AreExtreme, QuarterCone}
use Rattle.bounds_model.specs.RectangleAnswer.{reached_area}
use Rattle.bounded_coords.specs.Clouds.{points_of}
use Rattle.answers.specs.Answers.{vector_of}
use Rattle.directions.proofs.Reading.{reach_is}
use Rattle.directions.proofs.Reaches.{not_behind, reach_within}
use Rattle.min_rectangle.proofs.Cones.{cone_read, listed_read, is_cone_read}
use Rattle.min_rectangle.proofs.smallest.area_at.Goals as goal
use Rattle.model_laws.proofs.Reaches.{reach_nonneg}

pub at-requires : goal.at-requires
at-requires c = (is_cone_read (points_of c.args.cloud) c.args.fan.now c.args.j c.at-cone.result c.requires.fan c.at-cone.ensures).named.low

pub at-requires-2 : goal.at-requires-2
at-requires-2 c = (is_cone_read (points_of c.args.cloud) c.args.fan.now c.args.j c.at-cone.result c.requires.fan c.at-cone.ensures).named.high

pub at-requires-3 : goal.at-requires-3
at-requires-3 c = (is_cone_read (points_of c.args.cloud) c.args.fan.now c.args.j c.at-cone.result c.requires.fan c.at-cone.ensures).named.under

pub at-requires-4 : goal.at-requires-4
at-requires-4 c = (is_cone_read (points_of c.args.cloud) c.args.fan.now c.args.j c.at-cone.result c.requires.fan c.at-cone.ensures).named.over

pub beyond-along-requires-clause-direction : goal.beyond-along-requires-clause-direction
beyond-along-requires-clause-direction c = (is_cone_read (points_of c.args.cloud) c.args.fan.now c.args.j c.at-cone.result c.requires.fan c.at-cone.ensures).short

pub quarter_turn-requires : goal.quarter_turn-requires
quarter_turn-requires c = (is_cone_read (points_of c.args.cloud) c.args.fan.now c.args.j c.at-cone.result c.requires.fan c.at-cone.ensures).short

pub beyond-along-requires-clause-order : goal.beyond-along-requires-clause-order
beyond-along-requires-clause-order c =
    let points = points_of c.args.cloud in
    let cone = c.at-cone.result in
    let own = is_cone_read points c.args.fan.now c.args.j cone c.requires.fan c.at-cone.ensures in
    not_behind points (vector_of cone.dir) cone.lo cone.hi c.at.result.now c.at-2.result.now c.at.ensures c.at-2.ensures (reach_nonneg points (vector_of cone.dir) cone.hi cone.lo own.named.low own.along)

pub beyond-across-requires-clause-order : goal.beyond-across-requires-clause-order
beyond-across-requires-clause-order c =
    let points = points_of c.args.cloud in
    let cone = c.at-cone.result in
    let own = is_cone_read points c.args.fan.now c.args.j cone c.requires.fan c.at-cone.ensures in
    let turned = vector_of c.quarter_turn.result in
    let across = subst (λ d. AreExtreme points d cone.over cone.under) (sym c.quarter_turn.ensures.value) own.across in
    not_behind points turned cone.under cone.over c.at-3.result.now c.at-4.result.now c.at-3.ensures c.at-4.ensures (reach_nonneg points turned cone.over cone.under own.named.under across)

pub overflow_mul-result : goal.overflow_mul-result
overflow_mul-result c =
    let along : c.beyond-along.result ≤ 320000000000 = reach_within c.beyond-along.ensures.value c.beyond-along.ensures.q_size c.beyond-along.ensures.p_size in
    let across : c.beyond-across.result ≤ 320000000000 = reach_within c.beyond-across.ensures.value c.beyond-across.ensures.q_size c.beyond-across.ensures.p_size in
    with_limited (limited _ _ along ∷ limited _ _ across ∷ []) (λ xs h a b. simp (a, b, amounts) (amount_fits xs h w128 _ tt))

-- a number that stands for one above 0
above : {n : ℕ} {z : ℤ} → pos n ≡ z → pos 0 <ℤ z → 0 < n
above e h = omega (arith, ints)

pub returns-clause-area : goal.returns-clause-area
returns-clause-area c =
    let points = points_of c.args.cloud in
    let cone = c.at-cone.result in
    let d = vector_of cone.dir in
    let turned = vector_of c.quarter_turn.result in
    let own = is_cone_read points c.args.fan.now c.args.j cone c.requires.fan c.at-cone.ensures in
    let is = cone_read c.args.fan.now c.args.j cone c.at-cone.ensures in
    let along_is : pos c.beyond-along.result ≡ reach points d cone.hi cone.lo = c.beyond-along.ensures.value ∙ reach_is points d cone.hi cone.lo c.at-2.result.now c.at.result.now (dot d c.at-2.result.now) (dot d c.at.result.now) c.at-2.ensures c.at.ensures refl refl in
    let across_is : pos c.beyond-across.result ≡ reach points (quarter_turn d) cone.over cone.under =
    c.beyond-across.ensures.value ∙ reach_is points turned cone.over cone.under c.at-4.result.now c.at-3.result.now (dot turned c.at-4.result.now) (dot turned c.at-3.result.now) c.at-4.ensures c.at-3.ensures refl refl
    ∙ ap (λ v. reach points v cone.over cone.under) c.quarter_turn.ensures.value in
    let along : c.beyond-along.result ≤ 320000000000 = reach_within c.beyond-along.ensures.value c.beyond-along.ensures.q_size c.beyond-along.ensures.p_size in
    let across : c.beyond-across.result ≤ 320000000000 = reach_within c.beyond-across.ensures.value c.beyond-across.ensures.q_size c.beyond-across.ensures.p_size in
    record {
      listed = listed_read c.args.fan.now c.args.j cone c.at-cone.ensures;
      is_product = ap₂ (λ x y. x *ℤ y) along_is across_is ∙ ap (λ (x : QuarterCone). reached_area points x.direction x) is;
      is_length = c.squared_length.ensures.value ∙ ap (λ (x : QuarterCone). squared_length x.direction) is;
      some = above c.squared_length.ensures.value own.long;
      product_limit = with_limited (limited _ _ along ∷ limited _ _ across ∷ []) (λ xs h a b. simp (a, b, amounts) (amount_within xs h _ tt));
      length_limit = c.squared_length.ensures.limit;
    }
