use Rattle.std.proofs.Common.{◌≡◌, sym, ◌∙◌, subst, ◌≤◌, List, [], ◌∷◌, length, map, Bool, false, eqb, arith}
use Rattle.std.specs.Prelude.{All}
use Rattle.std.proofs.lemmas.List.{length-map}
use Rattle.integers.proofs.Lists.{clash}
use Rattle.bounded_coords.specs.Clouds.{points_of}
use Rattle.answers.specs.Answers.{pair_of}
use Rattle.ring_check.specs.Rings.{IsSmallPair, HavePairLimits}
use Rattle.ring_check.proofs.RingPairs.{small_pairs, pair_limits, some_weight, wider_pairs, sums_decide}
use Rattle.ring_check.proofs.pairs.show_size.Goals as goal

not_empty : {X : Type 0} {yes : Bool} (xs : List X) → yes ≡ eqb (length xs) 0 → yes ≡ false → 1 ≤ length xs
not_empty [] is other = absurd (clash is other)
not_empty (x ∷ xs) is other = omega arith

pub returns-then-not-are_small_pairs : goal.returns-then-not-are_small_pairs
returns-then-not-are_small_pairs g c = (
  λ no. absurd (cc no),
  λ h. absurd (clash (c.are_small_pairs.ensures.1 (subst (λ n. All (IsSmallPair c.args.limit n) c.args.pairs.now) (length-map (points_of c.args.cloud) g.P.Place.place ∙ sym c.len.ensures.count)
      (small_pairs c.args.limit (length (map g.P.Place.place (points_of c.args.cloud))) c.args.pairs.now h.limits))) c.if-not-are_small_pairs.true),
)

pub over-sums-requires-clause-small : goal.over-sums-requires-clause-small
over-sums-requires-clause-small g c =
    wider_pairs c.args.limit (length (points_of c.args.cloud)) c.args.pairs.now c.requires.limit
    (subst (λ n. All (IsSmallPair c.args.limit n) c.args.pairs.now) c.len.ensures.count (c.are_small_pairs.ensures.0 c.if-not-are_small_pairs.false))

pub show_size-requires-clause-some : goal.show_size-requires-clause-some
show_size-requires-clause-some g c =
    some_weight c.args.limit c.len.result c.over-sums.result.weight c.args.pairs.now (not_empty c.args.pairs.now c.is_empty.ensures c.if-is_empty.false) (c.are_small_pairs.ensures.0 c.if-not-are_small_pairs.false) c.over-sums.ensures.sums.weight

pub returns : goal.returns
returns g c =
    let places = map g.P.Place.place (points_of c.args.cloud) in
    let pairs = c.args.pairs.now in
    let limits = subst (λ n. HavePairLimits c.args.limit n (map pair_of pairs)) (c.len.ensures.count ∙ sym (length-map (points_of c.args.cloud) g.P.Place.place))
    (pair_limits c.args.limit c.len.result c.over-sums.result.weight pairs (not_empty pairs c.is_empty.ensures c.if-is_empty.false) (c.are_small_pairs.ensures.0 c.if-not-are_small_pairs.false) c.over-sums.ensures.sums.weight c.if-sums-limit.false) in
    let decide = sums_decide places c.args.size.now (map pair_of pairs) c.args.limit c.over-sums.result limits c.over-sums.ensures.sums in
    (λ yes. decide.0 (c.show_size.ensures.0 yes), λ h. c.show_size.ensures.1 (decide.1 h))
