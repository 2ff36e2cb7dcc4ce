use Rattle.std.proofs.Common.{◌≡◌, sym, ◌∙◌, ap, subst, ℕ, ◌+◌, ◌<◌, ◌⊎◌, inl, inr, List, [], ◌∷◌, ◌++◌, length, arith}
use Rattle.std.proofs.lemmas.Bool.{cases_lt}
use Rattle.std.proofs.lemmas.List.{length-append}
use Rattle.bounds_model.specs.Plane.{PlanePoint}
use Rattle.bounds_model.specs.Fans as fans
use Rattle.bounded_coords.specs.Clouds.{points_of}
use Rattle.answers.specs.declared.parallelograms.Chord.{Chord}
use Rattle.answers.specs.Answers.{half_fan_of, chord_of}
use Rattle.parallelogram_strip.specs.declared.crossing.Crossing.{Crossing}
use Rattle.parallelogram_strip.specs.Crossings.{IsCrossing, IsServed, AreServed}
use Rattle.parallelogram_strip.proofs.Crossings.{ahead_at_start}
use Rattle.parallelogram_strip.proofs.FullTurn.{full_turn_of}
use Rattle.parallelogram_strip.proofs.ConesRead.{cones_length, turn_of}
use Rattle.parallelogram_strip.proofs.Serving.{numbered_push, serves_itself, served_more, all_served_more, served_last, next_start, one_is}
use Rattle.parallelogram_strip.proofs.chords.chords_around.Goals as goal

pub crossing_at-first-requires : goal.crossing_at-first-requires
crossing_at-first-requires c =
    let some : 0 < length c.args.fan.now.cones = omega (arith, c.requires.ranges.count.at_least, cones_length c.args.fan.now) in
    record {
      fan = c.requires;
      listed = some;
      after = omega arith;
      before = omega arith;
      ahead = ahead_at_start (turn_of (points_of c.args.cloud) c.args.fan.now c.requires) 0 some;
    }

pub crossing_at-last-requires-clause-ahead : goal.crossing_at-last-requires-clause-ahead
crossing_at-last-requires-clause-ahead c =
    let points = points_of c.args.cloud in
    let fan = half_fan_of c.args.fan.now in
    let invariant = c.loop-j.invariant in
    let listed : c.loop-j.j < length fan.cones = omega (arith, c.loop-j-test.true, c.len-j-end.ensures.count, cones_length c.args.fan.now) in
    let one : (c.max.result ≡ c.loop-j.j) ⊎ (c.max.result ≡ c.loop-j.last.near) = elim (cases_lt c.loop-j.last.near c.loop-j.j) [ inl l ↦ inl (omega (arith, c.max.ensures)) | inr l ↦ inr (omega (arith, c.max.ensures)) ] in
    (next_start points fan c.loop-j.last c.loop-j.j c.max.result (full_turn_of points fan c.requires) invariant.last invariant.next listed one (omega (arith, c.max.ensures))).ahead

-- the first chord serves the first direction
first_serves : (points : List PlanePoint) (fan : fans.HalfFan) (c : Crossing) (j : ℕ) → IsCrossing points fan c → c.direction ≡ j → IsServed points fan c j (chord_of c.chord)
first_serves points fan c j h e = subst (λ i. IsServed points fan c i (chord_of c.chord)) e (serves_itself points fan c h)

-- a list of one chord
one_served : (points : List PlanePoint) (fan : fans.HalfFan) (c : Crossing) (none chords : List Chord) → none ≡ [] → chords ≡ none ++ c.chord ∷ [] → IsServed points fan c 0 (chord_of c.chord) → AreServed points fan c chords
one_served points fan c none chords e added h =
    subst (AreServed points fan c) (sym added)
    (numbered_push (λ i chord. IsServed points fan c i (chord_of chord)) none c.chord 0 (sym (ap length e)) (λ k d l. absurd (never k l)) h)
  where
    never : (k : ℕ) → k < length none → ⊥
    never k l = let f = ap length e in absurd (omega arith)

-- one chord more
more_served : (points : List PlanePoint) (fan : fans.HalfFan) (best : Crossing) (chords more : List Chord) (chord : Chord) (j : ℕ) → length chords ≡ j → more ≡ chords ++ chord ∷ [] → AreServed points fan best chords → IsServed points fan best j (chord_of chord) → AreServed points fan best more
more_served points fan best chords more chord j count added all here =
    subst (AreServed points fan best) (sym added) (numbered_push (λ i chord. IsServed points fan best i (chord_of chord)) chords chord j (sym count) all here)

-- and one more in number
one_more : (chords more : List Chord) (chord : Chord) (j : ℕ) → length chords ≡ j → more ≡ chords ++ chord ∷ [] → length more ≡ j + 1
one_more chords more chord j count added = ap length added ∙ length-append chords (chord ∷ []) ∙ ap (λ n. n + 1) count

pub loop-j-init : goal.loop-j-init
loop-j-init c =
    let points = points_of c.args.cloud in
    let fan = half_fan_of c.args.fan.now in
    let first = c.crossing_at-first in
    let serves = first_serves points fan first.result 0 first.ensures.crossing first.ensures.direction in
    record {
      count = one_more c.new-chords.result c.push.new.self first.result.chord 0 (ap length c.new-chords.ensures) c.in_ok-push.ensures.added;
      last = first.ensures.crossing;
      next = ap (λ n. n + 1) first.ensures.direction;
      best = first.ensures.crossing;
      served = one_served points fan first.result c.new-chords.result c.push.new.self c.new-chords.ensures c.in_ok-push.ensures.added serves;
      first = serves;
    }

pub loop-j-preserved : goal.loop-j-preserved
loop-j-preserved c =
    let points = points_of c.args.cloud in
    let fan = half_fan_of c.args.fan.now in
    let invariant = c.loop-j.invariant in
    let last = c.crossing_at-last.result in
    let best = c.smaller-best.result in
    let is_last = c.crossing_at-last.ensures.crossing in
    let is_best = one_is points fan c.loop-j.best last best invariant.best is_last c.smaller-best.ensures.one in
    let serves = first_serves points fan last c.loop-j.j is_last c.crossing_at-last.ensures.direction in
    record {
      count = one_more c.loop-j.chords c.push-in-loop-j.new.self last.chord c.loop-j.j invariant.count c.in_ok-push-2.ensures.added;
      last = is_last;
      next = ap (λ n. n + 1) c.crossing_at-last.ensures.direction;
      best = is_best;
      served = more_served points fan best c.loop-j.chords c.push-in-loop-j.new.self last.chord c.loop-j.j invariant.count c.in_ok-push-2.ensures.added
          (all_served_more points fan c.loop-j.best best c.loop-j.chords invariant.best is_best c.smaller-best.ensures.not_above_a invariant.served)
          (served_more points fan last best c.loop-j.j (chord_of last.chord) is_last is_best c.smaller-best.ensures.not_above_b serves);
      first = served_more points fan c.loop-j.best best 0 (chord_of c.crossing_at-first.result.chord) invariant.best is_best c.smaller-best.ensures.not_above_a invariant.first;
    }

pub returns : goal.returns
returns c =
    let points = points_of c.args.cloud in
    let fan = half_fan_of c.args.fan.now in
    let invariant = c.loop-j.invariant in
    let m = length fan.cones in
    let some : 0 < m = omega (arith, c.requires.ranges.count.at_least) in
    let j_is : c.loop-j.j ≡ m = omega (arith, c.loop-j.auto.j-end, c.loop-j-test.false, c.len-j-end.ensures.count, cones_length c.args.fan.now) in
    let at_last = served_last points fan m c.loop-j.best (chord_of c.crossing_at-first.result.chord) (full_turn_of points fan c.requires) invariant.first in
    record {
      count = one_more c.loop-j.chords c.push-2.new.self c.turned.result c.loop-j.j invariant.count c.in_ok-push-3.ensures.added ∙ ap (λ n. n + 1) j_is;
      best = invariant.best;
      served = more_served points fan c.loop-j.best c.loop-j.chords c.push-2.new.self c.turned.result m (invariant.count ∙ j_is) c.in_ok-push-3.ensures.added invariant.served
          (subst (IsServed points fan c.loop-j.best m) (sym c.turned.ensures) at_last);
    }
