use Rattle.std.proofs.Common.{◌≡◌, sym, subst, ◌∙◌, ◌≤◌, length, map, to_z, of_z, w64}
use Rattle.std.proofs.lemmas.List.{length-map}
use Rattle.integers.proofs.Sizes.{wrap_is_in}
use Rattle.bounded_coords.specs.Clouds.{points_of}
use Rattle.answers.specs.Answers.{entry_of}
use Rattle.furthest_check.proofs.Entries.{numbers_below, number_count, entry_fars}
use Rattle.furthest_check.proofs.Passing.{passes_if, furthest_if, hull_if}
use Rattle.furthest_check.proofs.neighbours.passes.Goals as goal

pub is_around-requires : goal.is_around-requires
is_around-requires c = record {
  as_many = record {
    at_least = subst (λ n. 1 ≤ n) (sym (number_count c.args.entries.now c.args.numbers.now c.requires.numbers ∙ sym (length-map c.args.entries.now entry_of))) c.requires.limits.as_many.at_least;
    at_most = subst (λ n. n ≤ 10000) (sym (number_count c.args.entries.now c.args.numbers.now c.requires.numbers ∙ sym (length-map c.args.entries.now entry_of))) c.requires.limits.as_many.at_most;
  };
  below = numbers_below (length (points_of c.args.cloud)) c.args.entries.now c.args.numbers.now c.requires.numbers c.requires.limits;
}

pub are_furthest-requires-clause-numbers : goal.are_furthest-requires-clause-numbers
are_furthest-requires-clause-numbers c = numbers_below (length (points_of c.args.cloud)) c.args.entries.now c.args.numbers.now c.requires.numbers c.requires.limits

pub are_furthest-requires-clause-fars : goal.are_furthest-requires-clause-fars
are_furthest-requires-clause-fars c = entry_fars c.args.entries.now c.requires.limits.fars

pub are_furthest-requires-clause-corners : goal.are_furthest-requires-clause-corners
are_furthest-requires-clause-corners c =
    hull_if (points_of c.args.cloud) c.args.numbers.now (numbers_below (length (points_of c.args.cloud)) c.args.entries.now c.args.numbers.now c.requires.numbers c.requires.limits)
    (c.is_around.ensures.0 c.if-not-is_around.false)

pub returns : goal.returns
returns c =
    let points = points_of c.args.cloud in
    let entries = map entry_of c.args.entries.now in
    let same : to_z w64 (of_z w64 c.greatest_distance.result) ≡ c.greatest_distance.result = wrap_is_in w64 c.greatest_distance.ensures.small tt in (
      λ yes. passes_if points entries c.args.numbers.now c.args.size.now (to_z w64 (of_z w64 c.greatest_distance.result)) c.args.cloud.limited c.requires.limits c.requires.numbers
          c.is_size.ensures.lowest (c.is_size.ensures.value.0 c.if-not-is_size.false) (same ∙ c.greatest_distance.ensures.greatest)
          (c.is_around.ensures.0 c.if-not-is_around.false) (c.are_furthest.ensures.0 yes),
      λ p. c.are_furthest.ensures.1 (furthest_if points entries c.args.numbers.now c.args.size.now c.requires.numbers p),
    )
