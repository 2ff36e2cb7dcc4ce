-- A quarter turn of a half fan, with one pair of calipers.
use Prim.Native.Nat.{min}
use Rattle.std.proofs.Common.{◌≡◌, inl, inr, ℕ, ◌+◌, ◌*◌, ◌<◌, ◌≤◌, List, [], ◌∷◌, ◌++◌, length, sym, ap, subst, arith}
use Rattle.std.specs.Prelude.{All, Contains}
use Rattle.std.proofs.lemmas.Bool.{cases_order}
use Rattle.std.proofs.lemmas.List.{length_push}
use Rattle.std.proofs.lemmas.List.Elements.{Contains-push, Contains-append_left}
use Rattle.bounds_model.specs.Plane.{PlanePoint, point_at}
use Rattle.bounds_model.specs.Hull.{around}
use Rattle.bounds_model.specs.Fans.{HalfCone, east, north}
use Rattle.hull_calipers.specs.declared.sides.Side.{Side}
use Rattle.hull_calipers.specs.declared.pairs.AntipodalPair.{AntipodalPair}
use Rattle.hull_calipers.specs.declared.directions.Direction.{Direction}
use Rattle.hull_calipers.specs.Hulls.{GoesAround}
use Rattle.hull_calipers.specs.Vectors.{direction_of}
use Rattle.hull_calipers.specs.ExtremeCorners.{turned, next_side, StartsAt, IsUpper}
use Rattle.hull_calipers.specs.CaliperMoves.{IsLimited, ArePair, PairFollows}
use Rattle.hull_calipers.specs.Fans.{path, IsHalfPath, IsExtremeHalfCone, IsHalfDirection}
use Rattle.hull_calipers.proofs.Paths.{path_more, path_push}
use Rattle.hull_calipers.proofs.AntipodalPairs.{IsTurningPair, IsNextOfPair, left_of, pair_start, pair_after, pair_extremes, pair_no_more, pair_less, next_turns}
use Rattle.hull_calipers.proofs.FanDirections.{half_direction, pair_normal}

pub record IsHalfTurning (points corners : List PlanePoint) (side : Side) (high_at low_at : ℕ) (d : Direction) (pair : AntipodalPair) (cones : List HalfCone) (count steps steps0 : ℕ) : Type 0 where
  pub calipers : IsTurningPair points corners side high_at low_at d pair
  pub limited : IsLimited d
  pub is_up : d.x ≡ 0 → d.y ≡ 1
  pub fan : IsHalfPath points corners cones (turned side (direction_of d))
  pub begun : Contains (path (λ c. c.direction) cones (turned side (direction_of d))) (turned side east)
  pub counted : steps + 2 * high_at + 2 * low_at ≤ steps0 + 4 + 2 * (pair.high.advance + pair.low.advance)
  pub few : length cones + left_of corners high_at low_at pair + min d.x 1 ≤ count + 2 * length corners + 1

-- the calipers at their starts
pub half_start : (points corners : List PlanePoint) (side : Side) (high_at low_at : ℕ) (d : Direction) (pair : AntipodalPair) (cones : List HalfCone) (steps steps0 : ℕ) → GoesAround points corners → All (Contains points) corners
    → StartsAt corners side high_at → StartsAt corners (next_side (next_side side)) low_at → d ≡ (let r : Direction = record { x = 1; y = 0 } in r) → IsHalfPath points corners cones (turned side east)
    → pair.high.side ≡ side → pair.low.side ≡ next_side (next_side side) → pair.high.advance ≡ high_at → pair.low.advance ≡ low_at → ArePair corners pair → steps ≡ steps0 + 4
    → IsHalfTurning points corners side high_at low_at d pair cones (length cones) steps steps0
half_start points corners side high_at low_at d pair cones steps steps0 h listed start_high start_low is to_east high_side low_side high_rank low_rank are count = record {
  calipers = pair_start points corners side high_at low_at d pair h listed start_high start_low (ap direction_of is) high_side low_side high_rank low_rank are;
  limited = subst IsLimited (sym is) (record { x = omega arith; y = omega arith });
  is_up = λ e. absurd (let one : d.x ≡ 1 = ap (λ v. v.x) is in omega arith);
  fan = subst (λ v. IsHalfPath points corners cones (turned side v)) (sym (ap direction_of is)) to_east;
  begun = subst (λ v. Contains (path (λ c. c.direction) cones (turned side v)) (turned side east)) (sym (ap direction_of is)) (Contains-push _ (turned side east));
  counted = omega (arith, count, high_rank, low_rank);
  few = let one : d.x ≡ 1 = ap (λ v. v.x) is in omega (arith, one, high_rank, low_rank);
}

-- what is left falls: a caliper goes on, or the direction points up
pub half_falls : (points corners : List PlanePoint) (side : Side) (high_at low_at : ℕ) (d n : Direction) (pair new : AntipodalPair) → 0 < d.x → IsNextOfPair d n pair → IsTurningPair points corners side high_at low_at n new → PairFollows pair n new
    → left_of corners high_at low_at new + min n.x 1 < left_of corners high_at low_at pair + min d.x 1
half_falls points corners side high_at low_at d n pair new right next t goes = elim (cases_order n.x 0) [
  | inl none ↦ let a = pair_no_more points corners side high_at low_at n pair new t goes in omega (arith, a, none, right)
  | inr rest ↦ elim rest [ inl less ↦ absurd (omega arith) | inr more ↦ let a = pair_less points corners side high_at low_at n pair new t goes (next.met more) in omega (arith, a, right) ]
]

-- one step of the turn: a cone, and the calipers after it
pub half_more : (points corners : List PlanePoint) (side : Side) (high_at low_at : ℕ) (d n : Direction) (pair new : AntipodalPair) (cones : List HalfCone) (cone : HalfCone) (count s0 s1 steps0 : ℕ) → GoesAround points corners → All (Contains points) corners → IsUpper side
    → IsHalfTurning points corners side high_at low_at d pair cones count s0 steps0 → 0 < d.x → IsNextOfPair d n pair
    → cone.direction ≡ turned side (direction_of d) → point_at points cone.high ≡ around corners pair.high.advance → point_at points cone.low ≡ around corners pair.low.advance → (cone.high < length points) × (cone.low < length points)
    → ArePair corners new → PairFollows pair n new → s1 + 2 * (pair.high.advance + pair.low.advance) ≡ s0 + 2 * (new.high.advance + new.low.advance)
    → IsHalfTurning points corners side high_at low_at n new (cones ++ cone ∷ []) count s1 steps0
half_more points corners side high_at low_at d n pair new cones cone count s0 s1 steps0 h listed upper t right next is_dir is_high is_low inside are goes steps =
    let after = pair_after points corners side high_at low_at d n pair new h listed t.calipers right next.next next.before are goes in
    let extremes = pair_extremes points corners side high_at low_at d n pair cone.high cone.low h t.calipers right next.next next.before is_high is_low in
    record {
      calipers = after;
      limited = next.next.limited;
      is_up = next.next.north;
      fan = path_more (λ c. c.direction) (IsExtremeHalfCone points) (IsHalfDirection corners) cones cone (turned side (direction_of d)) (turned side (direction_of n)) t.fan is_dir (next_turns side d n next.next)
          (record { extreme = extremes.0; high = inside.0; low = inside.1 }) (record { extreme = extremes.1; high = inside.0; low = inside.1 })
          (half_direction corners side d n upper next.next (λ more. pair_normal points corners side high_at low_at d n pair h.some t.calipers (next.met more)));
      begun = subst (λ l. Contains l (turned side east)) (sym (path_push (λ c. c.direction) cones cone (turned side (direction_of d)) (turned side (direction_of n)) is_dir))
          (Contains-append_left (path (λ c. c.direction) cones (turned side (direction_of d))) (turned side (direction_of n) ∷ []) (turned side east) t.begun);
      counted = let was = t.counted in omega (arith, was, steps);
      few =
          let was = t.few in
          let falls = half_falls points corners side high_at low_at d n pair new right next after goes in
          omega (arith, was, falls, length_push cones cone);
    }
