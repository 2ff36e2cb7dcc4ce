use Rattle.std.proofs.Common.{◌≡◌, refl, sym, subst, ℕ, ◌<◌, ◌≤◌, ℤ, pos, ◌≤ℤ◌, List, [], ◌∷◌, length, map, take, get_or, Bool, false, eqb, arith}
use Rattle.std.specs.Prelude.{All}
use Rattle.std.proofs.lemmas.Int.{ints}
use Rattle.std.proofs.lemmas.List.{map_more, take_all, length-map}
use Rattle.std.proofs.lemmas.List.Elements.{All-map, All-push}
use Rattle.bounds_model.specs.AnnulusAnswer as model
use Rattle.bounded_coords.specs.Clouds.{points_of}
use Rattle.answers.specs.Answers.{pair_of}
use Rattle.answers.specs.declared.pairs.WeightedPair.{WeightedPair}
use Rattle.pair_sums.specs.Sums.{AreSums}
use Rattle.pair_sums.proofs.PairWeights.{some_weight}
use Rattle.pair_sums.proofs.SumSteps.{sums_of_more}
use Rattle.integers.proofs.Lists.{All-unmap, clash}
use Rattle.distance_check.proofs.PairLimits.{no_pair, at_number, too_heavy}
use Rattle.distance_check.proofs.distances.sums.Goals as goal

not_empty : {yes : Bool} (pairs : List WeightedPair) → yes ≡ eqb (length pairs) 0 → yes ≡ false → 1 ≤ length pairs
not_empty [] is other = absurd (clash is other)
not_empty (pair ∷ rest) is other = omega arith

-- numbers below two counts, for equal counts
counted : {m n k l : ℕ} (pairs : List WeightedPair) → m ≡ k → n ≡ l → All (λ pair. (pair.first < m) × (pair.second < n)) pairs → All (λ pair. (pair.first < k) × (pair.second < l)) pairs
counted {m} {n} {k} {l} pairs e f h = subst (λ k. All (λ pair. (pair.first < k) × (pair.second < l)) pairs) e (subst (λ l. All (λ pair. (pair.first < m) × (pair.second < l)) pairs) f h)

pub returns-then-not-are_numbers : goal.returns-then-not-are_numbers
returns-then-not-are_numbers c limits =
    clash
    (c.are_numbers.ensures.1 (counted c.args.pairs.now (sym c.len.ensures.count) (sym c.len-2.ensures.count)
    (All-unmap (λ (pair : model.WeightedPair). (pair.first < length (points_of c.args.p)) × (pair.second < length (points_of c.args.q))) pair_of c.args.pairs.now limits.numbers)))
    c.if-not-are_numbers.true

pub returns-in_err-totals : goal.returns-in_err-totals
returns-in_err-totals c = rw c.from_residual.ensures (too_heavy c.args.pairs.now c.loop-pair.pair-index c.loop-pair.totals.weight c.loop-pair-test.true c.loop-pair.invariant.sums.weight c.in_err-totals.ensures)

pub loop-pair-preserved : goal.loop-pair-preserved
loop-pair-preserved c =
    let ps = points_of c.args.p in
    let qs = points_of c.args.q in
    let pairs = c.args.pairs.now in
    let pair : WeightedPair = get_or pairs c.loop-pair.pair-index no_pair in
    let added = c.in_ok-totals.ensures in
    let more = map_more pair_of pairs c.loop-pair.pair-index no_pair c.loop-pair-test.true in
    let before = map pair_of (take c.loop-pair.pair-index pairs) in
    record {
      weights = subst (All (λ (pair : model.WeightedPair). pos 1 ≤ℤ pair.weight)) (sym more) (All-push (λ (pair : model.WeightedPair). pos 1 ≤ℤ pair.weight) before (pair_of pair) c.loop-pair.invariant.weights (omega (arith, ints, added.0)));
      range = added.1;
      sums = subst (λ pairs. AreSums ps qs pairs c.in_ok-totals.totals) (sym more)
          (sums_of_more ps qs before (pair_of pair) c.loop-pair.totals c.in_ok-totals.totals pair.weight c.at.result.now c.at-in-loop-pair.result.now refl (at_number ps pair.first c.at.result.now c.at.ensures)
          (at_number qs pair.second c.at-in-loop-pair.result.now c.at-in-loop-pair.ensures) c.loop-pair.invariant.sums added.2);
    }

pub returns : goal.returns
returns c =
    let ps = points_of c.args.p in
    let qs = points_of c.args.q in
    let pairs = c.args.pairs.now in
    let whole : take c.loop-pair.pair-index pairs ≡ pairs = take_all c.loop-pair.pair-index pairs c.loop-pair-test.false in
    let weights = subst (λ pairs. All (λ (pair : model.WeightedPair). pos 1 ≤ℤ pair.weight) (map pair_of pairs)) whole c.loop-pair.invariant.weights in
    let sums = subst (λ pairs. AreSums ps qs (map pair_of pairs) c.loop-pair.totals) whole c.loop-pair.invariant.sums in
    let some = subst (λ n. 1 ≤ n) (sym (length-map pairs pair_of)) (not_empty pairs c.is_empty.ensures c.if-is_empty.false) in
    let numbers = counted pairs c.len.ensures.count c.len-2.ensures.count (c.are_numbers.ensures.0 c.if-not-are_numbers.false) in (
      record {
        some = some;
        numbers = All-map (λ (pair : model.WeightedPair). (pair.first < length ps) × (pair.second < length qs)) pair_of pairs numbers;
        weights = weights;
        weight_limit = within sums.weight c.loop-pair.invariant.range.weight;
      },
      record { some = some_weight (map pair_of pairs) c.loop-pair.totals.weight some weights sums.weight; range = c.loop-pair.invariant.range; sums = sums },
    )
  where
    within : {t limit : ℕ} {a : ℤ} → pos t ≡ a → t ≤ limit → a ≤ℤ pos limit
    within {t} {limit} {a} e h = omega (arith, ints)
