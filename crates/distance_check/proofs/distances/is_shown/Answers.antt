use Rattle.std.proofs.Common.{refl, map}
use Rattle.bounded_coords.specs.Clouds.{points_of}
use Rattle.answers.specs.Answers.{pair_of}
use Rattle.distance_check.specs.DeterminedDistances.{answer_by}
use Rattle.distance_check.proofs.PairLimits.{some_pairs, names_points}
use Rattle.distance_check.proofs.DistancePassing.{first_by, shown_by, level_nonneg, refuted}
use Rattle.distance_check.proofs.distances.is_shown.Goals as goal

pub at-first-requires : goal.at-first-requires
at-first-requires c = (names_points c.args.pairs.now 0 c.requires.limits.numbers (some_pairs c.args.pairs.now c.requires.limits.some)).0

pub at-second-requires : goal.at-second-requires
at-second-requires c = (names_points c.args.pairs.now 0 c.requires.limits.numbers (some_pairs c.args.pairs.now c.requires.limits.some)).1

pub is_size-requires-clause-not_below : goal.is_size-requires-clause-not_below
is_size-requires-clause-not_below c =
    level_nonneg {ps = points_of c.args.p} {qs = points_of c.args.q} c.requires.totals.some (first_by c.requires.limits c.requires.totals c.at-first.ensures c.at-second.ensures) (c.are_level.ensures.0 c.if-not-are_level.false)

pub returns-then-not-are_level : goal.returns-then-not-are_level
returns-then-not-are_level c =
    let ps = points_of c.args.p in
    let qs = points_of c.args.q in
    let a = answer_by c.args.a.now (map pair_of c.args.pairs.now) in
    let is = shown_by a refl (first_by {ps = ps} {qs = qs} c.requires.limits c.requires.totals c.at-first.ensures c.at-second.ensures) in
    refuted (λ h. c.are_level.ensures.1 (is.1 h).level) c.if-not-are_level.true

pub returns-then-not-is_size : goal.returns-then-not-is_size
returns-then-not-is_size c =
    let ps = points_of c.args.p in
    let qs = points_of c.args.q in
    let a = answer_by c.args.a.now (map pair_of c.args.pairs.now) in
    let is = shown_by a refl (first_by {ps = ps} {qs = qs} c.requires.limits c.requires.totals c.at-first.ensures c.at-second.ensures) in
    refuted (λ h. c.is_size.ensures.1 (is.1 h).size) c.if-not-is_size.true

pub returns-then-not-is_first_mean : goal.returns-then-not-is_first_mean
returns-then-not-is_first_mean c =
    let ps = points_of c.args.p in
    let qs = points_of c.args.q in
    let a = answer_by c.args.a.now (map pair_of c.args.pairs.now) in
    let is = shown_by a refl (first_by {ps = ps} {qs = qs} c.requires.limits c.requires.totals c.at-first.ensures c.at-second.ensures) in
    refuted (λ h. c.is_first_mean.ensures.1 (is.1 h).from) c.if-not-is_first_mean.true

pub returns-then-not-is_second_mean : goal.returns-then-not-is_second_mean
returns-then-not-is_second_mean c =
    let ps = points_of c.args.p in
    let qs = points_of c.args.q in
    let a = answer_by c.args.a.now (map pair_of c.args.pairs.now) in
    let is = shown_by a refl (first_by {ps = ps} {qs = qs} c.requires.limits c.requires.totals c.at-first.ensures c.at-second.ensures) in
    refuted (λ h. c.is_second_mean.ensures.1 (is.1 h).to) c.if-not-is_second_mean.true

pub returns-then-not-is_direction : goal.returns-then-not-is_direction
returns-then-not-is_direction c =
    let ps = points_of c.args.p in
    let qs = points_of c.args.q in
    let a = answer_by c.args.a.now (map pair_of c.args.pairs.now) in
    let is = shown_by a refl (first_by {ps = ps} {qs = qs} c.requires.limits c.requires.totals c.at-first.ensures c.at-second.ensures) in
    refuted (λ h. c.is_direction.ensures.1 (is.1 h).direction) c.if-not-is_direction.true

pub returns-then-not-is_none_before : goal.returns-then-not-is_none_before
returns-then-not-is_none_before c =
    let ps = points_of c.args.p in
    let qs = points_of c.args.q in
    let a = answer_by c.args.a.now (map pair_of c.args.pairs.now) in
    let is = shown_by a refl (first_by {ps = ps} {qs = qs} c.requires.limits c.requires.totals c.at-first.ensures c.at-second.ensures) in
    refuted (λ h. c.is_none_before.ensures.1 (is.1 h).before) c.if-not-is_none_before.true

pub returns : goal.returns
returns c =
    let ps = points_of c.args.p in
    let qs = points_of c.args.q in
    let a = answer_by c.args.a.now (map pair_of c.args.pairs.now) in
    let is = shown_by a refl (first_by {ps = ps} {qs = qs} c.requires.limits c.requires.totals c.at-first.ensures c.at-second.ensures) in (
      λ yes. is.0 (record {
        level = c.are_level.ensures.0 c.if-not-are_level.false;
        size = c.is_size.ensures.0 c.if-not-is_size.false;
        from = c.is_first_mean.ensures.0 c.if-not-is_first_mean.false;
        to = c.is_second_mean.ensures.0 c.if-not-is_second_mean.false;
        direction = c.is_direction.ensures.0 c.if-not-is_direction.false;
        before = c.is_none_before.ensures.0 c.if-not-is_none_before.false;
        beyond = c.is_none_beyond.ensures.0 yes;
      }),
      λ h. c.is_none_beyond.ensures.1 (is.1 h).beyond,
    )
