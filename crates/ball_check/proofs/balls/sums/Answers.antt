use Rattle.std.proofs.Common.{◌≡◌, refl, sym, subst, ◌∙◌, ap₂, ℕ, ◌<◌, ◌≤◌, ℤ, pos, ◌≤ℤ◌, List, [], ◌∷◌, length, map, take, get_or, Bool, false, eqb, arith}
use Rattle.std.specs.Prelude.{All}
use Rattle.std.proofs.lemmas.Int.{ints}
use Rattle.std.proofs.lemmas.List.{map_more, take_all, length-map}
use Rattle.std.proofs.lemmas.List.Elements.{All-map, All-push}
use Rattle.bounds_model.specs.Space.{vector}
use Rattle.bounds_model.specs.BallAnswer.{first_support}
use Rattle.bounded_coords.specs.Clouds.{points_of}
use Rattle.answers.specs.Answers.{weighted_of}
use Rattle.answers.specs.declared.balls.Weighted.{Weighted}
use Rattle.ball_sums.specs.Sums.{AreSumsFrom}
use Rattle.ball_sums.proofs.Weights.{some_weight}
use Rattle.ball_sums.proofs.SupportSums.{sums_of_more}
use Rattle.integers.proofs.Lists.{All-unmap, clash}
use Rattle.ball_check.proofs.Supports.{first_placed}
use Rattle.ball_check.proofs.SupportWeights.{too_heavy}
use Rattle.ball_check.proofs.balls.sums.Goals as goal
use Rattle.kernel_laws.proofs.Points.{point_at_place}

not_empty : {yes : Bool} (supports : List Weighted) → yes ≡ eqb (length supports) 0 → yes ≡ false → 1 ≤ length supports
not_empty [] is other = absurd (clash is other)
not_empty (s ∷ rest) is other = omega arith

pub returns-then-not-are_numbers : goal.returns-then-not-are_numbers
returns-then-not-are_numbers g c limits =
    clash (c.are_numbers.ensures.1 (subst (λ n. All (λ s. s.point < n) c.args.supports.now) (sym c.len.ensures.count) (All-unmap (λ s. s.point < length (points_of c.args.cloud)) weighted_of c.args.supports.now limits.numbers))) c.if-not-are_numbers.true

pub returns-in_err-totals : goal.returns-in_err-totals
returns-in_err-totals g c =
    rw c.from_residual.ensures (too_heavy c.args.supports.now c.loop-s.s-index (record { point = 0; weight = 0 }) c.loop-s.totals.weight c.loop-s-test.true c.loop-s.invariant.sums.weight c.in_err-totals.ensures)

pub loop-s-preserved : goal.loop-s-preserved
loop-s-preserved g c =
    let place = g.K.Kernel.place in
    let points = points_of c.args.cloud in
    let supports = c.args.supports.now in
    let none : Weighted = record { point = 0; weight = 0 } in
    let s : Weighted = get_or supports c.loop-s.s-index none in
    let added = c.in_ok-totals.ensures in
    let some : 1 ≤ length supports = omega (arith, c.loop-s-test.true) in
    let more = map_more weighted_of supports c.loop-s.s-index none c.loop-s-test.true in
    let first = first_placed place points supports none c.at-first.result.now some c.at-first.ensures in
    let to = ap₂ vector first (point_at_place place points s.point c.at.result.now c.at.ensures) ∙ sym c.diff-to.ensures.value in
    record {
      weights = subst (All (λ s. pos 1 ≤ℤ s.weight)) (sym more) (All-push (λ s. pos 1 ≤ℤ s.weight) (map weighted_of (take c.loop-s.s-index supports)) (weighted_of s) c.loop-s.invariant.weights (omega (arith, ints, added.0)));
      range = added.1;
      sums = subst (λ ms. AreSumsFrom (first_support (map place points) (map weighted_of supports)) (map place points) ms c.in_ok-totals.totals) (sym more)
          (sums_of_more (map place points) (first_support (map place points) (map weighted_of supports)) (map weighted_of (take c.loop-s.s-index supports)) (weighted_of s) c.loop-s.totals c.in_ok-totals.totals s.weight _ refl to c.loop-s.invariant.sums added.2);
    }

pub returns : goal.returns
returns g c =
    let place = g.K.Kernel.place in
    let points = points_of c.args.cloud in
    let supports = c.args.supports.now in
    let whole : take c.loop-s.s-index supports ≡ supports = take_all c.loop-s.s-index supports c.loop-s-test.false in
    let weights = subst (λ ss. All (λ s. pos 1 ≤ℤ s.weight) (map weighted_of ss)) whole c.loop-s.invariant.weights in
    let sums = subst (λ ss. AreSumsFrom (first_support (map place points) (map weighted_of supports)) (map place points) (map weighted_of ss) c.loop-s.totals) whole c.loop-s.invariant.sums in
    let some = subst (λ n. 1 ≤ n) (sym (length-map supports weighted_of)) (not_empty supports c.is_empty.ensures c.if-is_empty.false) in
    let numbers = subst (λ n. All (λ s. s.point < n) supports) c.len.ensures.count (c.are_numbers.ensures.0 c.if-not-are_numbers.false) in (
      record {
        some = some;
        numbers = All-map (λ s. s.point < length points) weighted_of supports numbers;
        weights = weights;
        weight_limit = within sums.weight c.loop-s.invariant.range.weight;
      },
      record { some = some_weight (map weighted_of supports) c.loop-s.totals.weight some weights sums.weight; sums = record { range = c.loop-s.invariant.range; sums = sums } },
    )
  where
    within : {t limit : ℕ} {a : ℤ} → pos t ≡ a → t ≤ limit → a ≤ℤ pos limit
    within {t} {limit} {a} e h = omega (arith, ints)
