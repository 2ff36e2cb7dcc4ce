use Rattle.std.proofs.Common.{◌≡◌, subst, sym, ap, ◌∙◌, ℕ, ◌+◌, ◌<◌, ◌≤◌, ◌%◌, [], ◌∷◌, map, arith, pos, to_z, of_z, w64}
use Rattle.std.specs.Int.{int_max}
use Rattle.std.proofs.lemmas.List.{map-append}
use Rattle.std.proofs.lemmas.Option.{get_or_from_slice_get}
use Rattle.integers.proofs.Sizes.{wrap_is_in}
use Rattle.bounds_model.specs.Plane.{origin}
use Rattle.bounds_model.specs.Fractions.{SameValue}
use Rattle.hull_calipers.specs.CornerLists.{corners_in, points_in, numbers_in}
use Rattle.answers.specs.Answers.{entry_of}
use Rattle.furthest_laws.proofs.Maxima.{max_is}
use Rattle.furthest.specs.Columns.{column_at}
use Rattle.furthest.proofs.Listing.{IsListing, listing_more, listed_passes}
use Rattle.furthest.proofs.neighbours.answer.Goals as goal

pub corners-preserved : goal.corners-preserved
corners-preserved g c =
    let same : to_z w64 (of_z w64 c.squared_distance.result) ≡ c.squared_distance.result = wrap_is_in w64 c.squared_distance.ensures.size tt in
    let most : c.max-most.result ≡ int_max (to_z w64 c.corners.most-bits) c.squared_distance.result = c.max-most.ensures
    ∙ max_is (to_z w64 c.corners.most-bits) (to_z w64 (of_z w64 c.squared_distance.result)) ∙ ap (int_max (to_z w64 c.corners.most-bits)) same in
    let more = listing_more (points_in c.args.corners.now) (numbers_in c.args.corners.now) c.args.columns.now c.corners.i (map entry_of c.corners.entries) (map entry_of c.push.new.self)
    (to_z w64 c.corners.most-bits) c.max-most.result c.squared_distance.result c.args.steps.now c.corner-here.new.steps c.corners.steps c.corner-there.new.steps
    (record { corner = c.number.result; far = c.position-far.result }) c.corner-here.result.now c.corner-there.result.now
    (subst (λ n. c.corners.i < n) c.len-count.ensures.count c.corners-test.true) c.corners.invariant
    (ap (map entry_of) c.in_ok-push.ensures.added ∙ map-append entry_of c.corners.entries (record { corner = c.number.result; far = c.position-far.result } ∷ []))
    c.number.ensures.number (c.position-far.ensures.value ∙ ap (λ n. column_at c.args.columns.now c.corners.i % n) c.len-count.ensures.count)
    (sym (get_or_from_slice_get (corners_in c.args.corners.now) c.corners.i c.corner-here.result.now origin c.corner-here.ensures.point))
    (sym (get_or_from_slice_get (corners_in c.args.corners.now) c.position-far.result c.corner-there.result.now origin c.corner-there.ensures.point))
    c.squared_distance.ensures.value c.squared_distance.ensures.size most c.corner-here.ensures.step c.corner-there.ensures.step in
    subst (λ z. IsListing (points_in c.args.corners.now) (numbers_in c.args.corners.now) c.args.columns.now (c.corners.i + 1)
    (map entry_of c.push.new.self) z c.args.steps.now c.corner-there.new.steps) (sym (wrap_is_in w64 more.small tt)) more

pub returns-clause-passes : goal.returns-clause-passes
returns-clause-passes g c =
    listed_passes (points_in c.args.corners.now) (numbers_in c.args.corners.now) c.args.columns.now c.corners.i (map entry_of c.corners.entries)
    (to_z w64 c.corners.most-bits) c.args.steps.now c.corners.steps c.new.result
    c.corners_are_those_of_the_hull.ensures.corners c.corners_are_those_of_the_hull.ensures.numbers.listed c.args.corners.now.cloud.cloud.limited c.args.corners.now.few
    (subst (λ n. 1 ≤ n) c.len-count.ensures.count c.len-count.ensures.some)
    c.requires.columns (all c.corners.i c.len-count.result c.corners-test.false c.corners.auto.i-end ∙ c.len-count.ensures.count) c.corners.invariant c.new.ensures.lowest
    (subst (λ n. SameValue c.new.result (record { n = pos n; d = pos 1 })) (c.from.ensures ∙ c.unsigned_abs.ensures.value) c.new.ensures.value)
  where
    all : (i n : ℕ) → n ≤ i → i ≤ n → i ≡ n
    all i n h k = omega arith
