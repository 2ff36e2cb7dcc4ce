use Rattle.std.proofs.Common.{◌≡◌, sym, subst, ap, ◌∙◌, ◌<◌, ◌^◌, pos, ◌*ℤ◌, ◌≤ℤ◌, length, map, All, to_z, of_z, w64}
use Rattle.integers.specs.Size.{Size}
use Rattle.integers.proofs.Sizes.{below_size, wrap_is_in}
use Rattle.bounds_model.specs.Plane.{point_at}
use Rattle.bounds_model.specs.CornerTest.{CornersPass}
use Rattle.bounds_model.specs.Asks.{ask_kgon, plane}
use Rattle.bounds_model.specs.Answers.{kgon}
use Rattle.bounded_coords.specs.Clouds.{points_of}
use Rattle.answers.specs.Answers.{polygon_of}
use Rattle.hull_test.specs.CornerNumbers as hulls
use Rattle.polygon_check.proofs.PassingPolygons.{passes_if, raises_of, tested_numbers, table_of, area_is, earlier_is, over_none_as, raises_as, under_area, under_size, small_under, naturals_of}
use Rattle.polygon_check.proofs.polygons.check_kgon.Goals as goal

pub returns-then-not-is_size-clause-passes : goal.returns-then-not-is_size-clause-passes
returns-then-not-is_size-clause-passes c =
    let a = polygon_of c.args.a.now in
    let points = points_of c.args.cloud in
    let corners = c.listed_corners-listed.ensures ∙ ap (map (point_at points)) c.as_slice-numbers.ensures.items in
    let area = area_is points a (wrap_is_in w64 c.chosen_area-area.ensures.small tt ∙ c.chosen_area-area.ensures.area) corners c.as_slice-chosen.ensures.value in
    (λ yes. absurd (cc yes), λ p. let yes = c.is_size.ensures.value.1 (subst (λ z. (a.size.n *ℤ pos 2) ≡ (z *ℤ a.size.d)) (sym area) p.size) in absurd (cc yes))

pub returns-then-not-are_under-clause-passes : goal.returns-then-not-are_under-clause-passes
returns-then-not-are_under-clause-passes c =
    let a = polygon_of c.args.a.now in
    let size = c.is_size.ensures.value.0 c.if-not-is_size.false in (
      λ yes. absurd (cc yes),
      λ p. let yes = c.are_under.ensures.1 (subst (λ us. All (λ u. pos u ≤ℤ (to_z w64 (of_z w64 c.chosen_area-area.result))) us) (sym c.as_slice.ensures.items) (under_area c.args.a.now.potentials a.size c.is_size.ensures.lowest.lowest.not_negative.denominator size p.under_size)) in
          absurd (cc yes),
    )

pub returns-then-not-are_earlier_below-clause-passes : goal.returns-then-not-are_earlier_below-clause-passes
returns-then-not-are_earlier_below-clause-passes c =
    let law = earlier_is (polygon_of c.args.a.now) c.is_size.ensures.lowest.lowest.not_negative.denominator (c.is_size.ensures.value.0 c.if-not-is_size.false) in
    (λ yes. absurd (cc yes), λ p. let yes = c.are_earlier_below.ensures.1 (law.1 p.earlier_below) in absurd (cc yes))

pub is_around-requires : goal.is_around-requires
is_around-requires c = subst (λ ns. hulls.AreCornerNumbers (length (points_of c.args.cloud)) ns) (sym c.as_slice-numbers.ensures.items) (tested_numbers (polygon_of c.args.a.now) (c.has_limits.ensures.0 c.if-not-has_limits.false))

pub returns-then-not-passes_over_none-clause-passes : goal.returns-then-not-passes_over_none-clause-passes
returns-then-not-passes_over_none-clause-passes c =
    let points = points_of c.args.cloud in
    let corners = c.listed_corners-listed.ensures ∙ ap (map (point_at points)) c.as_slice-numbers.ensures.items in
    let law = over_none_as points (polygon_of c.args.a.now) corners c.as_slice-chosen.ensures.value c.is_size.ensures.lowest.lowest.not_negative.denominator (c.is_size.ensures.value.0 c.if-not-is_size.false) c.passes_over_none.ensures in
    (λ yes. absurd (cc yes), λ p. let yes = law.1 p.none_between in absurd (cc yes))

pub raise_all-requires-clause-table : goal.raise_all-requires-clause-table
raise_all-requires-clause-table c =
    let under = subst (λ us. All (λ u. pos u ≤ℤ (to_z w64 (of_z w64 c.chosen_area-area.result))) us) c.as_slice.ensures.items (c.are_under.ensures.0 c.if-not-are_under.false) in
    let small = subst (Size (2 ^ 43)) (sym (wrap_is_in w64 c.chosen_area-area.ensures.small tt)) c.chosen_area-area.ensures.small in
    table_of (polygon_of c.args.a.now) c.requires.twelve (c.has_limits.ensures.0 c.if-not-has_limits.false) (small_under c.args.a.now.potentials (below_size small) under)

pub returns-clause-passes : goal.returns-clause-passes
returns-clause-passes c =
    let a = polygon_of c.args.a.now in
    let points = points_of c.args.cloud in
    let us = c.args.a.now.potentials in
    let some = c.is_size.ensures.lowest.lowest.not_negative.denominator in
    let size = c.is_size.ensures.value.0 c.if-not-is_size.false in
    let corners = c.listed_corners-listed.ensures ∙ ap (map (point_at points)) c.as_slice-numbers.ensures.items in
    let area = area_is points a (wrap_is_in w64 c.chosen_area-area.ensures.small tt ∙ c.chosen_area-area.ensures.area) corners c.as_slice-chosen.ensures.value in
    let under = subst (λ us. All (λ u. pos u ≤ℤ (to_z w64 (of_z w64 c.chosen_area-area.result))) us) c.as_slice.ensures.items (c.are_under.ensures.0 c.if-not-are_under.false) in
    let small = subst (Size (2 ^ 43)) (sym (wrap_is_in w64 c.chosen_area-area.ensures.small tt)) c.chosen_area-area.ensures.small in
    let raises = raises_as points a corners c.raise_all.ensures in
    let over_none = over_none_as points a corners c.as_slice-chosen.ensures.value some size c.passes_over_none.ensures in
    let alone = c.is_alone_of_few.ensures.0 c.if-not-is_alone_of_few.false in (
      λ yes. passes_if c.args.k points a c.requires.twelve c.args.cloud.limited (record {
        limits = c.has_limits.ensures.0 c.if-not-has_limits.false;
        range = c.is_size.ensures.lowest;
        size = subst (λ z. (a.size.n *ℤ pos 2) ≡ (z *ℤ a.size.d)) area size;
        naturals = naturals_of us (small_under us (below_size small) under);
        under = under_size us a.size some size under;
        corners = subst (λ ns. CornersPass points (map (point_at points) ns)) c.as_slice-numbers.ensures.items (c.is_around.ensures.0 c.if-not-is_around.false);
        raises = raises.0 yes;
        earlier = (earlier_is a some size).0 (c.are_earlier_below.ensures.0 c.if-not-are_earlier_below.false);
        few = λ few. sym c.as_slice-chosen.ensures.value ∙ alone (subst (λ ns. length ns < 3) (sym c.as_slice-numbers.ensures.items) few);
        over_none = over_none.0 c.if-not-passes_over_none.false;
      }),
      λ p. raises.1 (raises_of c.args.k points a p),
    )

pub returns-clause-best : goal.returns-clause-best
returns-clause-best c = λ yes. c.passing_answers_are_best.ensures (ask_kgon c.args.k) (plane (points_of c.args.cloud)) (kgon (polygon_of c.args.a.now)) ((returns-clause-passes c).0 yes)

pub returns-clause-first : goal.returns-clause-first
returns-clause-first c = λ yes. c.passing_kgons_are_first.ensures c.args.k (points_of c.args.cloud) (polygon_of c.args.a.now) c.requires.three ((returns-clause-passes c).0 yes)
