-- Calipers in a quarter turn, one by one and two at opposite sides.
use Rattle.std.proofs.Common.{◌≡◌, ◌≢◌, ◌⊎◌, inl, inr, ℕ, ◌+◌, ◌-◌, ◌*◌, ◌%◌, ◌<◌, ◌≤◌, ℤ, pos, neg_ℤ, ◌-ℤ◌, ◌≤ℤ◌, ◌<ℤ◌, List, [], ◌∷◌, length, get_or, refl, sym, ap, ap₂, subst, ◌∙◌, arith}
use Rattle.std.specs.Prelude.{All, Contains, SomeIndex}
use Rattle.std.proofs.lemmas.Int.{ints}
use Rattle.std.proofs.lemmas.Nat.{mod_below}
use Rattle.integers.proofs.Identities.{den-ring, read, polys}
use Rattle.bounds_model.specs.Plane.{PlanePoint, point_at, origin, vector, dot, cross}
use Rattle.bounds_model.specs.Hull.{around}
use Rattle.bounds_model.specs.PlainFans.{edge}
use Rattle.bounds_model.specs.Fans.{AreExtreme, east}
use Rattle.hull_calipers.specs.declared.sides.Side.{Side}
use Rattle.hull_calipers.specs.declared.sides.Side.TheVariants.{Right, Top, Left, Bottom}
use Rattle.hull_calipers.specs.declared.calipers.Caliper.{Caliper}
use Rattle.hull_calipers.specs.declared.pairs.AntipodalPair.{AntipodalPair}
use Rattle.hull_calipers.specs.declared.directions.Direction.{Direction}
use Rattle.hull_calipers.specs.Hulls.{GoesAround}
use Rattle.hull_calipers.specs.Vectors.{direction_of}
use Rattle.hull_calipers.specs.ExtremeCorners.{aligned, turned, next_side, edge_from, IsHighest, IsWaiting, StaysExtreme, StartsAt}
use Rattle.hull_calipers.specs.CaliperMoves.{IsCaliper, ArePair, Follows, PairFollows}
use Rattle.std.specs.Int.{IsGcd}
use Rattle.hull_calipers.specs.NextDirections.{ComesBefore, IsFirstOf, IsScaled}
use Rattle.hull_calipers.proofs.SeenVectors.{opposite_dot, turned-cross}
use Rattle.hull_calipers.proofs.HullFacts.{around_low}
use Rattle.hull_calipers.proofs.Turning.{Walked, walked_none, extreme_at_start}
use Rattle.hull_calipers.proofs.NextDirections.{IsCandidate, IsNext, Meets, first_candidate, first_before_left, first_before_right, first_is, before_trans, scaled_before, next_of, meets_scaled}
use Rattle.hull_calipers.proofs.Following.{waiting_or_not, waiting_from_right, dot_next, highest_next, extreme_after, walked_after}

-- ---- one caliper in a turn

pub record IsExtremeCaliper (points corners : List PlanePoint) (side : Side) (s : ℕ) (d : Direction) (c : Caliper) : Type 0 where
  pub side_is : c.side ≡ side
  pub caliper : IsCaliper corners c
  pub stays_extreme : StaysExtreme points corners c.side (direction_of d) c.advance
  pub walked : Walked corners (turned c.side east) s c.advance

-- the caliper's next direction lies ahead
next_is_ahead : (points corners : List PlanePoint) (side : Side) (s : ℕ) (d : Direction) (c : Caliper) → IsExtremeCaliper points corners side s d c → 0 < d.x → d.y * c.next.x < d.x * c.next.y
next_is_ahead points corners side s d c h right = elim (waiting_or_not (edge_from corners c.side c.advance)) [
  | inl waits ↦ below (dot (direction_of d) (edge_from corners c.side c.advance)) (d.y * c.next.x) (d.x * c.next.y) (dot_next d c.next (edge_from corners c.side c.advance) (h.caliper.waits waits)) (h.stays_extreme.waits waits)
  | inr done ↦
      let is = h.caliper.done done in
      let x : c.next.x ≡ 0 = (let e = ap (λ v. v.x) is in omega (arith, ints, e)) in
      let y : c.next.y ≡ 1 = (let e = ap (λ v. v.y) is in omega (arith, ints, e)) in
      subst (λ v. d.y * v < d.x * c.next.y) (sym x) (subst (λ v. d.y * 0 < d.x * v) (sym y) (omega arith))
]
  where
    below : (z : ℤ) (a b : ℕ) → z ≡ pos a -ℤ pos b → z <ℤ pos 0 → a < b
    below z a b e h = omega (arith, ints)

next_some : (points corners : List PlanePoint) (side : Side) (s : ℕ) (d : Direction) (c : Caliper) → IsExtremeCaliper points corners side s d c → 0 < c.next.x + c.next.y
next_some points corners side s d c h = elim (waiting_or_not (edge_from corners c.side c.advance)) [
  | inl waits ↦ let x = ap (λ v. v.x) (h.caliper.waits waits) in let u = waits.1 in omega (arith, ints, x, u)
  | inr done ↦ let y = ap (λ v. v.y) (h.caliper.done done) in omega (arith, ints, y)
]

pub caliper_candidate : (points corners : List PlanePoint) (side : Side) (s : ℕ) (d : Direction) (c : Caliper) → IsExtremeCaliper points corners side s d c → 0 < d.x → IsCandidate d c.next
caliper_candidate points corners side s d c h right = record { turns = next_is_ahead points corners side s d c h right; some = next_some points corners side s d c h; limited = h.caliper.limited }

caliper_after : (points corners : List PlanePoint) (side : Side) (s : ℕ) (d n : Direction) (c new : Caliper) → GoesAround points corners → All (Contains points) corners → IsExtremeCaliper points corners side s d c → 0 < d.x → IsNext d n → ComesBefore n c.next
    → new.side ≡ c.side → IsCaliper corners new → Follows c n new → IsExtremeCaliper points corners side s n new
caliper_after points corners side s d n c new h listed g right next before same caliper goes = record {
  side_is = same ∙ g.side_is;
  caliper = caliper;
  stays_extreme = extreme_after points corners c new d n h listed g.caliper g.stays_extreme right next.turns before same goes;
  walked = walked_after points corners c new n s g.caliper g.walked same goes;
}

caliper_start : (points corners : List PlanePoint) (side : Side) (s : ℕ) (d : Direction) (c : Caliper) → GoesAround points corners → All (Contains points) corners → StartsAt corners side s → direction_of d ≡ east
    → c.side ≡ side → c.advance ≡ s → IsCaliper corners c → IsExtremeCaliper points corners side s d c
caliper_start points corners side s d c h listed start e same same_number caliper = record {
  side_is = same;
  caliper = caliper;
  stays_extreme = subst (λ t. StaysExtreme points corners t (direction_of d) c.advance) (sym same) (subst (StaysExtreme points corners side (direction_of d)) (sym same_number) (subst (λ v. StaysExtreme points corners side v s) (sym e)
      (extreme_at_start points corners side (s + length corners - 1) s h listed (let some : 1 ≤ length corners = h.some in omega arith) start)));
  walked = subst (Walked corners (turned c.side east) s) (sym same_number) (walked_none corners (turned c.side east) s h.some);
}

-- a direction along the caliper's next one is at right angles to an edge that has a length
pub meets_edge : (corners : List PlanePoint) (c : Caliper) (n : Direction) → 1 ≤ length corners → IsCaliper corners c → Meets n c.next → SomeIndex corners (λ i. (edge corners i ≢ origin) × (dot (direction_of n) (aligned c.side (edge corners i)) ≡ pos 0))
meets_edge corners c n some caliper (right, along) = (c.advance % length corners, mod_below c.advance (length corners) some, subst (λ e. (e ≢ origin) × (dot (direction_of n) (aligned c.side e) ≡ pos 0)) same (long c.side (edge corners c.advance) waits.0, flat))
  where
    waits : IsWaiting (edge_from corners c.side c.advance)
    waits = waiting_from_right corners c caliper right

    same : edge corners c.advance ≡ edge corners (c.advance % length corners)
    same = ap₂ vector (ap (around corners) (let e : c.advance ≡ c.advance + 0 = omega arith in e) ∙ around_low corners c.advance 0 some ∙ ap (around corners) (let e : c.advance % length corners + 0 ≡ c.advance % length corners = omega arith in e)) (around_low corners c.advance 1 some)

    level : (z : ℤ) (a b : ℕ) → z ≡ pos a -ℤ pos b → a ≡ b → z ≡ pos 0
    level z a b e h = omega (arith, ints)

    flat : dot (direction_of n) (edge_from corners c.side c.advance) ≡ pos 0
    flat = level (dot (direction_of n) (edge_from corners c.side c.advance)) (n.y * c.next.x) (n.x * c.next.y) (dot_next n c.next (edge_from corners c.side c.advance) (caliper.waits waits)) along

    long : (side : Side) (e : PlanePoint) → (aligned side e).x <ℤ pos 0 → e ≢ origin
    long Right e h z = let x = ap (λ v. v.x) z in omega (arith, ints, x, h)
    long Top e h z = let y = ap (λ v. v.y) z in omega (arith, ints, y, h)
    long Left e h z = let x = ap (λ v. v.x) z in omega (arith, ints, x, h)
    long Bottom e h z = let y = ap (λ v. v.y) z in omega (arith, ints, y, h)

-- ---- two calipers at opposite sides

pub record IsTurningPair (points corners : List PlanePoint) (side : Side) (high_at low_at : ℕ) (d : Direction) (pair : AntipodalPair) : Type 0 where
  pub high : IsExtremeCaliper points corners side high_at d pair.high
  pub low : IsExtremeCaliper points corners (next_side (next_side side)) low_at d pair.low

pub pair_start : (points corners : List PlanePoint) (side : Side) (high_at low_at : ℕ) (d : Direction) (pair : AntipodalPair) → GoesAround points corners → All (Contains points) corners → StartsAt corners side high_at → StartsAt corners (next_side (next_side side)) low_at → direction_of d ≡ east
    → pair.high.side ≡ side → pair.low.side ≡ next_side (next_side side) → pair.high.advance ≡ high_at → pair.low.advance ≡ low_at → ArePair corners pair → IsTurningPair points corners side high_at low_at d pair
pair_start points corners side high_at low_at d pair h listed high low is_east high_side low_side high_rank low_rank calipers = record {
  high = caliper_start points corners side high_at d pair.high h listed high is_east high_side high_rank calipers.high;
  low = caliper_start points corners (next_side (next_side side)) low_at d pair.low h listed low is_east low_side low_rank calipers.low;
}

pub pair_candidate : (points corners : List PlanePoint) (side : Side) (high_at low_at : ℕ) (d m : Direction) (pair : AntipodalPair) → IsTurningPair points corners side high_at low_at d pair → 0 < d.x → IsFirstOf pair.high.next pair.low.next m → IsCandidate d m
pair_candidate points corners side high_at low_at d m pair h right first =
    first_candidate d pair.high.next pair.low.next m (caliper_candidate points corners side high_at d pair.high h.high right) (caliper_candidate points corners (next_side (next_side side)) low_at d pair.low h.low right) first

-- the direction n comes before the next ones of both
abbrev pub BeforeBoth : Direction → AntipodalPair → Type 0
BeforeBoth n pair = ComesBefore n pair.high.next × ComesBefore n pair.low.next

pub pair_after : (points corners : List PlanePoint) (side : Side) (high_at low_at : ℕ) (d n : Direction) (pair new : AntipodalPair) → GoesAround points corners → All (Contains points) corners → IsTurningPair points corners side high_at low_at d pair → 0 < d.x → IsNext d n → BeforeBoth n pair
    → ArePair corners new → PairFollows pair n new → IsTurningPair points corners side high_at low_at n new
pair_after points corners side high_at low_at d n pair new h listed t right next before calipers goes = record {
  high = caliper_after points corners side high_at d n pair.high new.high h listed t.high right next before.0 goes.high_side calipers.high goes.high;
  low = caliper_after points corners (next_side (next_side side)) low_at d n pair.low new.low h listed t.low right next before.1 goes.low_side calipers.low goes.low;
}

extreme : (points : List PlanePoint) (side : Side) (v a b : PlanePoint) (hi lo : ℕ) → IsHighest points (turned side v) a → IsHighest points (turned (next_side (next_side side)) v) b → point_at points hi ≡ a → point_at points lo ≡ b
    → AreExtreme points (turned side v) hi lo
extreme points side v a b hi lo high low is_a is_b = record {
  highest = λ i p l. subst (λ c. dot (turned side v) (get_or points i p) ≤ℤ dot (turned side v) c) (sym is_a) (high i p l);
  lowest = λ i p l. subst (λ c. dot (turned side v) c ≤ℤ dot (turned side v) (get_or points i p)) (sym is_b)
      (other (dot (turned side v) b) (dot (turned side v) (get_or points i p)) (dot (turned (next_side (next_side side)) v) b) (dot (turned (next_side (next_side side)) v) (get_or points i p)) (opposite_dot side v b) (opposite_dot side v (get_or points i p)) (low i p l));
}
  where
    other : (x y nx ny : ℤ) → nx ≡ neg_ℤ x → ny ≡ neg_ℤ y → ny ≤ℤ nx → x ≤ℤ y
    other x y nx ny e f h = omega (arith, ints)

-- the corners of a pair are extreme in its direction, and in the next one
pub pair_extremes : (points corners : List PlanePoint) (side : Side) (high_at low_at : ℕ) (d n : Direction) (pair : AntipodalPair) (hi lo : ℕ) → GoesAround points corners → IsTurningPair points corners side high_at low_at d pair → 0 < d.x → IsNext d n → BeforeBoth n pair
    → point_at points hi ≡ around corners pair.high.advance → point_at points lo ≡ around corners pair.low.advance → AreExtreme points (turned side (direction_of d)) hi lo × AreExtreme points (turned side (direction_of n)) hi lo
pair_extremes points corners side high_at low_at d n pair hi lo h t right next before is_high is_low = (
  extreme points side (direction_of d) (around corners pair.high.advance) (around corners pair.low.advance) hi lo
      (subst (λ s. IsHighest points (turned s (direction_of d)) (around corners pair.high.advance)) t.high.side_is t.high.stays_extreme.here)
      (subst (λ s. IsHighest points (turned s (direction_of d)) (around corners pair.low.advance)) t.low.side_is t.low.stays_extreme.here) is_high is_low,
  extreme points side (direction_of n) (around corners pair.high.advance) (around corners pair.low.advance) hi lo
      (subst (λ s. IsHighest points (turned s (direction_of n)) (around corners pair.high.advance)) t.high.side_is (highest_next points corners pair.high d n h t.high.caliper t.high.stays_extreme right next.turns before.0))
      (subst (λ s. IsHighest points (turned s (direction_of n)) (around corners pair.low.advance)) t.low.side_is (highest_next points corners pair.low d n h t.low.caliper t.low.stays_extreme right next.turns before.1)) is_high is_low,
)

-- how often the corners of a pair may go on yet
abbrev pub left_of : List PlanePoint → ℕ → ℕ → AntipodalPair → ℕ
left_of corners high_at low_at pair = (high_at + length corners - pair.high.advance) + (low_at + length corners - pair.low.advance)

abbrev pub MeetsOne : Direction → AntipodalPair → Type 0
MeetsOne n pair = Meets n pair.high.next ⊎ Meets n pair.low.next

stays_or_less : (corners : List PlanePoint) (w : PlanePoint) (s : ℕ) (n : Direction) (c new : Caliper) → Walked corners w s new.advance → Follows c n new → s + length corners - new.advance ≤ s + length corners - c.advance
stays_or_less corners w s n c new walked (inl g) = let p = g.advance in omega (arith, p)
stays_or_less corners w s n c new walked (inr g) = let p = g.advance in omega (arith, p)

less_where_met : (corners : List PlanePoint) (w : PlanePoint) (s : ℕ) (n : Direction) (c new : Caliper) → Walked corners w s new.advance → Follows c n new → Meets n c.next → s + length corners - new.advance < s + length corners - c.advance
less_where_met corners w s n c new walked (inl g) met = let p = g.advance in let b = walked.below in omega (arith, p, b)
less_where_met corners w s n c new walked (inr g) met = absurd (g.other met.0 met.1)

pub pair_no_more : (points corners : List PlanePoint) (side : Side) (high_at low_at : ℕ) (n : Direction) (pair new : AntipodalPair) → IsTurningPair points corners side high_at low_at n new → PairFollows pair n new → left_of corners high_at low_at new ≤ left_of corners high_at low_at pair
pair_no_more points corners side high_at low_at n pair new t goes =
    let a = stays_or_less corners (turned new.high.side east) high_at n pair.high new.high t.high.walked goes.high in
    let b = stays_or_less corners (turned new.low.side east) low_at n pair.low new.low t.low.walked goes.low in
    omega (arith, a, b)

pub pair_less : (points corners : List PlanePoint) (side : Side) (high_at low_at : ℕ) (n : Direction) (pair new : AntipodalPair) → IsTurningPair points corners side high_at low_at n new → PairFollows pair n new → MeetsOne n pair → left_of corners high_at low_at new < left_of corners high_at low_at pair
pair_less points corners side high_at low_at n pair new t goes (inl met) =
    let a = less_where_met corners (turned new.high.side east) high_at n pair.high new.high t.high.walked goes.high met in
    let b = stays_or_less corners (turned new.low.side east) low_at n pair.low new.low t.low.walked goes.low in
    omega (arith, a, b)
pair_less points corners side high_at low_at n pair new t goes (inr met) =
    let a = stays_or_less corners (turned new.high.side east) high_at n pair.high new.high t.high.walked goes.high in
    let b = less_where_met corners (turned new.low.side east) low_at n pair.low new.low t.low.walked goes.low met in
    omega (arith, a, b)

-- the next direction is to the left
pub next_turns : (side : Side) (d n : Direction) → IsNext d n → pos 0 <ℤ cross (turned side (direction_of d)) (turned side (direction_of n))
next_turns side d n next = subst (λ v. pos 0 <ℤ v) (sym (turned-cross side (direction_of d) (direction_of n))) (turn_left (d.x * n.y) (d.y * n.x) next.turns)
  where
    turn_left : (a b : ℕ) → b < a → pos 0 <ℤ (pos a -ℤ pos b)
    turn_left a b h = omega (arith, ints)

-- the direction n comes next after d, for the calipers of a pair
pub record IsNextOfPair (d n : Direction) (pair : AntipodalPair) : Type 0 where
  pub next : IsNext d n
  pub before : BeforeBoth n pair
  pub met : 0 < n.x → MeetsOne n pair

before_both : (a m : Direction) (pair : AntipodalPair) → IsFirstOf pair.high.next pair.low.next a → 0 < a.x + a.y → ComesBefore m a → BeforeBoth m pair
before_both a m pair first some before = (
  before_trans m a pair.high.next some before (first_before_left pair.high.next pair.low.next a first),
  before_trans m a pair.low.next some before (first_before_right pair.high.next pair.low.next a first),
)

met_one : (m n : Direction) (pair : AntipodalPair) → IsFirstOf pair.high.next pair.low.next m → IsScaled m n → 0 < n.x → MeetsOne n pair
met_one m n pair first scaled right = elim (first_is pair.high.next pair.low.next m first) [
  | inl is ↦ inl (meets_scaled m n pair.high.next scaled is right)
  | inr is ↦ inr (meets_scaled m n pair.low.next scaled is right)
]

pub pair_next : (points corners : List PlanePoint) (side : Side) (high_at low_at : ℕ) (d m n : Direction) (pair : AntipodalPair) → IsTurningPair points corners side high_at low_at d pair → 0 < d.x → IsFirstOf pair.high.next pair.low.next m → IsScaled m n → IsGcd n.x n.y 1
    → IsNextOfPair d n pair
pair_next points corners side high_at low_at d m n pair t right first scaled lowest = record {
  next = next_of d m n (pair_candidate points corners side high_at low_at d m pair t right first) scaled lowest;
  before = (scaled_before m n pair.high.next scaled (first_before_left pair.high.next pair.low.next m first), scaled_before m n pair.low.next scaled (first_before_right pair.high.next pair.low.next m first));
  met = λ more. met_one m n pair first scaled more;
}

-- the same for two pairs
pub record IsNextOfPairs (d n : Direction) (one two : AntipodalPair) : Type 0 where
  pub next : IsNext d n
  pub before_one : BeforeBoth n one
  pub before_two : BeforeBoth n two
  pub met : 0 < n.x → MeetsOne n one ⊎ MeetsOne n two

pub pairs_next : (points corners : List PlanePoint) (side other : Side) (a b c e : ℕ) (d m₁ m₂ m n : Direction) (one two : AntipodalPair) → IsTurningPair points corners side a b d one → IsTurningPair points corners other c e d two → 0 < d.x
    → IsFirstOf one.high.next one.low.next m₁ → IsFirstOf two.high.next two.low.next m₂ → IsFirstOf m₁ m₂ m → IsScaled m n → IsGcd n.x n.y 1 → IsNextOfPairs d n one two
pairs_next points corners side other a b c e d m₁ m₂ m n one two t u right first second both scaled lowest =
    let candidate₁ = pair_candidate points corners side a b d m₁ one t right first in
    let candidate₂ = pair_candidate points corners other c e d m₂ two u right second in
    record {
      next = next_of d m n (first_candidate d m₁ m₂ m candidate₁ candidate₂ both) scaled lowest;
      before_one = before_both m₁ n one first candidate₁.some (scaled_before m n m₁ scaled (first_before_left m₁ m₂ m both));
      before_two = before_both m₂ n two second candidate₂.some (scaled_before m n m₂ scaled (first_before_right m₁ m₂ m both));
      met = λ more. elim (first_is m₁ m₂ m both) [
        | inl is ↦ inl (met_one m n one (subst (IsFirstOf one.high.next one.low.next) (sym is) first) scaled more)
        | inr is ↦ inr (met_one m n two (subst (IsFirstOf two.high.next two.low.next) (sym is) second) scaled more)
      ];
    }
