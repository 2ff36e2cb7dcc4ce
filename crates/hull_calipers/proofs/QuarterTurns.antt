-- The turn of a quarter fan, with two pairs of calipers.
use Prim.Native.Nat.{min}
use Rattle.std.proofs.Common.{◌≡◌, inl, inr, ℕ, ◌+◌, ◌*◌, ◌<◌, ◌≤◌, List, [], ◌∷◌, ◌++◌, length, sym, ap, subst, arith}
use Rattle.std.specs.Prelude.{All, Contains, SomeIndex}
use Rattle.std.proofs.lemmas.Bool.{cases_order}
use Rattle.std.proofs.lemmas.List.{length_push}
use Rattle.bounds_model.specs.Plane.{PlanePoint, point_at}
use Rattle.bounds_model.specs.Hull.{around}
use Rattle.bounds_model.specs.PlainFans.{edge, IsNormalOrParallel}
use Rattle.bounds_model.specs.Fans.{QuarterCone, north}
use Rattle.hull_calipers.specs.declared.sides.Side.TheVariants.{Right, Top, Left, Bottom}
use Rattle.hull_calipers.specs.declared.pairs.AntipodalPair.{AntipodalPair}
use Rattle.hull_calipers.specs.declared.directions.Direction.{Direction}
use Rattle.hull_calipers.specs.Hulls.{GoesAround}
use Rattle.hull_calipers.specs.Vectors.{direction_of}
use Rattle.hull_calipers.specs.ExtremeCorners.{StartsAt}
use Rattle.hull_calipers.specs.CaliperMoves.{IsLimited, ArePair, PairFollows}
use Rattle.hull_calipers.specs.Fans.{IsQuarterPath, IsExtremeQuarterCone, IsQuarterDirection}
use Rattle.hull_calipers.proofs.Paths.{path_none, path_more}
use Rattle.hull_calipers.proofs.AntipodalPairs.{IsTurningPair, IsNextOfPairs, left_of, pair_start, pair_after, pair_extremes, pair_no_more, pair_less, next_turns}
use Rattle.hull_calipers.proofs.FanDirections.{quarter_direction, quarter_direction_east, pair_normal_or_parallel}

-- where the calipers start
pub record Starts : Type 0 where
  pub right : ℕ
  pub left : ℕ
  pub top : ℕ
  pub bottom : ℕ

-- the sum of the starts
abbrev pub starts_sum : Starts → ℕ
starts_sum s = s.right + s.left + s.top + s.bottom

-- the sum of the advances
abbrev pub advances : AntipodalPair → AntipodalPair → ℕ
advances one two = (one.high.advance + one.low.advance) + (two.high.advance + two.low.advance)

-- how often the corners may go on yet, and one more while the direction is not up
abbrev pub quarter_left : List PlanePoint → Starts → Direction → AntipodalPair → AntipodalPair → ℕ
quarter_left corners s d one two = left_of corners s.right s.left one + left_of corners s.top s.bottom two + min d.x 1

pub record IsQuarterTurning (points corners : List PlanePoint) (s : Starts) (d : Direction) (one two : AntipodalPair) (cones : List QuarterCone) (steps steps0 : ℕ) : Type 0 where
  pub along : IsTurningPair points corners Right s.right s.left d one
  pub across : IsTurningPair points corners Top s.top s.bottom d two
  pub limited : IsLimited d
  pub is_up : d.x ≡ 0 → d.y ≡ 1
  pub fan : IsQuarterPath points corners cones (direction_of d)
  pub counted : steps + 2 * starts_sum s ≤ steps0 + 8 + 2 * advances one two
  pub few : length cones + quarter_left corners s d one two ≤ 4 * length corners + 1

-- the calipers at their starts
pub quarter_start : (points corners : List PlanePoint) (s : Starts) (d : Direction) (one two : AntipodalPair) (steps1 steps steps0 : ℕ) → GoesAround points corners → All (Contains points) corners
    → StartsAt corners Right s.right → StartsAt corners Left s.left → StartsAt corners Top s.top → StartsAt corners Bottom s.bottom → d ≡ (let r : Direction = record { x = 1; y = 0 } in r)
    → one.high.side ≡ Right → one.low.side ≡ Left → one.high.advance ≡ s.right → one.low.advance ≡ s.left → ArePair corners one
    → two.high.side ≡ Top → two.low.side ≡ Bottom → two.high.advance ≡ s.top → two.low.advance ≡ s.bottom → ArePair corners two → steps1 ≡ steps0 + 4 → steps ≡ steps1 + 4
    → IsQuarterTurning points corners s d one two [] steps steps0
quarter_start points corners s d one two steps1 steps steps0 h listed right left top bottom is one_high one_low at_right at_left one_are two_high two_low at_top at_bottom two_are count1 count = record {
  along = pair_start points corners Right s.right s.left d one h listed right left (ap direction_of is) one_high one_low at_right at_left one_are;
  across = pair_start points corners Top s.top s.bottom d two h listed top bottom (ap direction_of is) two_high two_low at_top at_bottom two_are;
  limited = subst IsLimited (sym is) (record { x = omega arith; y = omega arith });
  is_up = λ e. absurd (let x : d.x ≡ 1 = ap (λ v. v.x) is in omega arith);
  fan = subst (IsQuarterPath points corners []) (sym (ap direction_of is)) (path_none (λ c. c.direction) (IsExtremeQuarterCone points) (IsQuarterDirection corners) (quarter_direction_east corners));
  counted = omega (arith, count1, count, at_right, at_left, at_top, at_bottom);
  few = let x : d.x ≡ 1 = ap (λ v. v.x) is in omega (arith, x, at_right, at_left, at_top, at_bottom);
}

-- what is left falls: a caliper goes on, or the direction points up
pub quarter_falls : (points corners : List PlanePoint) (s : Starts) (d n : Direction) (one two one' two' : AntipodalPair) → 0 < d.x → IsNextOfPairs d n one two → IsTurningPair points corners Right s.right s.left n one' → IsTurningPair points corners Top s.top s.bottom n two'
    → PairFollows one n one' → PairFollows two n two' → quarter_left corners s n one' two' < quarter_left corners s d one two
quarter_falls points corners s d n one two one' two' right next t u goes moves =
    let a = pair_no_more points corners Right s.right s.left n one one' t goes in
    let b = pair_no_more points corners Top s.top s.bottom n two two' u moves in
    elim (cases_order n.x 0) [
      | inl none ↦ omega (arith, a, b, none, right)
      | inr rest ↦ elim rest [
        | inl less ↦ absurd (omega arith)
        | inr more ↦ elim (next.met more) [
          | inl met ↦ let c = pair_less points corners Right s.right s.left n one one' t goes met in omega (arith, b, c, right)
          | inr met ↦ let c = pair_less points corners Top s.top s.bottom n two two' u moves met in omega (arith, a, c, right)
        ]
      ]
    ]

-- one step of the turn: a cone, and the calipers after it
pub quarter_more : (points corners : List PlanePoint) (s : Starts) (d n : Direction) (one two one' two' : AntipodalPair) (cones : List QuarterCone) (cone : QuarterCone) (s0 s1 s2 steps0 : ℕ) → GoesAround points corners → All (Contains points) corners
    → IsQuarterTurning points corners s d one two cones s0 steps0 → 0 < d.x → IsNextOfPairs d n one two → cone.direction ≡ direction_of d
    → point_at points cone.high ≡ around corners one.high.advance → point_at points cone.low ≡ around corners one.low.advance → point_at points cone.over ≡ around corners two.high.advance → point_at points cone.under ≡ around corners two.low.advance
    → (cone.high < length points) × (cone.low < length points) × (cone.over < length points) × (cone.under < length points)
    → ArePair corners one' → PairFollows one n one' → s1 + 2 * (one.high.advance + one.low.advance) ≡ s0 + 2 * (one'.high.advance + one'.low.advance)
    → ArePair corners two' → PairFollows two n two' → s2 + 2 * (two.high.advance + two.low.advance) ≡ s1 + 2 * (two'.high.advance + two'.low.advance)
    → IsQuarterTurning points corners s n one' two' (cones ++ cone ∷ []) s2 steps0
quarter_more points corners s d n one two one' two' cones cone s0 s1 s2 steps0 h listed t right next is_dir is_high is_low is_over is_under inside one_are goes steps two_are moves more_steps =
    let along = pair_after points corners Right s.right s.left d n one one' h listed t.along right next.next next.before_one one_are goes in
    let across = pair_after points corners Top s.top s.bottom d n two two' h listed t.across right next.next next.before_two two_are moves in
    let first = pair_extremes points corners Right s.right s.left d n one cone.high cone.low h t.along right next.next next.before_one is_high is_low in
    let second = pair_extremes points corners Top s.top s.bottom d n two cone.over cone.under h t.across right next.next next.before_two is_over is_under in
    record {
      along = along;
      across = across;
      limited = next.next.limited;
      is_up = next.next.north;
      fan = path_more (λ c. c.direction) (IsExtremeQuarterCone points) (IsQuarterDirection corners) cones cone (direction_of d) (direction_of n) t.fan is_dir (next_turns Right d n next.next)
          (record { extreme = (first.0, second.0); high = inside.0; low = inside.1; over = inside.2; under = inside.3 }) (record { extreme = (first.1, second.1); high = inside.0; low = inside.1; over = inside.2; under = inside.3 })
          (quarter_direction corners d n next.next met);
      counted = let was = t.counted in omega (arith, was, steps, more_steps);
      few =
          let was = t.few in
          let falls = quarter_falls points corners s d n one two one' two' right next along across goes moves in
          omega (arith, was, falls, length_push cones cone);
    }
  where
    met : 0 < n.x → SomeIndex corners (λ i. IsNormalOrParallel (edge corners i) (direction_of n))
    met more = elim (next.met more) [
      | inl one_met ↦ pair_normal_or_parallel points corners Right s.right s.left d n one h.some t.along one_met
      | inr two_met ↦ pair_normal_or_parallel points corners Top s.top s.bottom d n two h.some t.across two_met
    ]
