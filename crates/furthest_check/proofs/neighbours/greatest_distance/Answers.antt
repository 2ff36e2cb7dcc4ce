use Rattle.std.proofs.Common.{◌≡◌, sym, subst, ap, ◌∙◌, ◌+◌, ◌<◌, map, length, to_z, of_z, w64}
use Rattle.std.specs.Prelude.{slice_index_or}
use Rattle.std.specs.Int.{int_max}
use Rattle.std.proofs.lemmas.List.{length-map}
use Rattle.integers.proofs.Sizes.{wrap_is_in}
use Rattle.bounded_coords.specs.Clouds.{points_of}
use Rattle.answers.specs.Answers.{entry_of}
use Rattle.answers.specs.declared.furthests.Entry.{Entry}
use Rattle.furthest_laws.proofs.Maxima.{max_is}
use Rattle.furthest_check.proofs.Entries.{IsGreatestSoFar, distance_more, distance_read, numbers_below, number_count, entry_fars}
use Rattle.furthest_check.proofs.neighbours.greatest_distance.Goals as goal

abbrev none : Entry
none = record { corner = 0; far = 0 }

pub corner-here-requires-clause-numbers : goal.corner-here-requires-clause-numbers
corner-here-requires-clause-numbers c = numbers_below (length (points_of c.args.cloud)) c.args.entries.now c.args.numbers.now c.requires.numbers c.requires.limits

pub corner-there-requires-clause-below : goal.corner-there-requires-clause-below
corner-there-requires-clause-below c = subst (λ n. (slice_index_or c.args.entries.now c.entries.i none).far < n) (sym (number_count c.args.entries.now c.args.numbers.now c.requires.numbers))
    (entry_fars c.args.entries.now c.requires.limits.fars c.entries.i none c.entries-test.true)

pub corner-there-requires-clause-numbers : goal.corner-there-requires-clause-numbers
corner-there-requires-clause-numbers c = numbers_below (length (points_of c.args.cloud)) c.args.entries.now c.args.numbers.now c.requires.numbers c.requires.limits

pub entries-preserved : goal.entries-preserved
entries-preserved c =
    let points = points_of c.args.cloud in
    let same : to_z w64 (of_z w64 c.squared_distance.result) ≡ c.squared_distance.result = wrap_is_in w64 c.squared_distance.ensures.size tt in
    let most : c.max-most.result ≡ int_max (to_z w64 c.entries.most-bits) c.squared_distance.result = c.max-most.ensures
    ∙ max_is (to_z w64 c.entries.most-bits) (to_z w64 (of_z w64 c.squared_distance.result)) ∙ ap (int_max (to_z w64 c.entries.most-bits)) same in
    let more = distance_more points (map entry_of c.args.entries.now) c.entries.i (to_z w64 c.entries.most-bits) c.max-most.result c.squared_distance.result (entry_of none)
    (subst (λ n. c.entries.i < n) (sym (length-map c.args.entries.now entry_of)) c.entries-test.true) c.entries.invariant
    (distance_read points c.args.entries.now c.args.numbers.now c.entries.i none c.corner-here.result.now c.corner-there.result.now c.squared_distance.result c.entries-test.true
    c.requires.numbers c.corner-here.ensures c.corner-there.ensures c.squared_distance.ensures.value) c.squared_distance.ensures.size most in
    subst (IsGreatestSoFar points (map entry_of c.args.entries.now) (c.entries.i + 1)) (sym (wrap_is_in w64 more.2 tt)) more
