use Rattle.std.proofs.Common.{rules, ◌<◌, sym, subst, length, arith}
use Rattle.std.specs.Prelude.{slice_index_or}
use Rattle.bounded_coords.specs.Clouds.{points_of}
use Rattle.answers.specs.declared.furthests.Entry.{Entry}
use Rattle.furthest_check.proofs.Entries.{limits_of, entry_limits}
use Rattle.furthest_check.proofs.limits.has_limits.Goals as goal

abbrev none : Entry
none = record { corner = 0; far = 0 }

pub returns-then-not-is_within : goal.returns-then-not-is_within
returns-then-not-is_within c = (
  λ yes. absurd (cc yes),
  λ h.
      let here = entry_limits (length (points_of c.args.cloud)) c.args.entries.now h c.loop-i.i none c.loop-i-test.true in
      let yes = c.is_within.ensures.1 (subst (λ n. (slice_index_or c.args.entries.now c.loop-i.i none).corner < n) (sym c.len.ensures.count) here.0, here.1) in
      absurd (cc yes),
)

pub returns : goal.returns
returns c = (
  λ yes. limits_of (length (points_of c.args.cloud)) c.args.entries.now c.if-entries-lt1.false c.if-entries-gt-MOST_CORNERS.false
      (λ k d low. c.loop-i.invariant k d (let l : k < c.loop-i.i = omega (arith, low, c.loop-i-test.false) in l)),
  λ h. search rules,
)
