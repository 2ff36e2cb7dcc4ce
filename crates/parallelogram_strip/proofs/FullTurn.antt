-- A fan over half a turn, carried on around the other half: its cones, extreme points and directions.
use Prim.Native.Nat.{◌∣◌}
use Rattle.std.proofs.Common.{◌≡◌, refl, sym, ◌∙◌, ap, subst, ℕ, zero, suc, ◌+◌, ◌-◌, ◌<◌, ◌≤◌, inl, inr, ℤ, pos, negsuc, nat_abs, ◌-ℤ◌, ◌*ℤ◌, neg_ℤ, ◌≤ℤ◌, ◌<ℤ◌, List, [], ◌∷◌, length, map, All, arith}
use Rattle.std.specs.Prelude.{slice_index_or}
use Rattle.std.proofs.lemmas.Int.{ints}
use Rattle.std.proofs.lemmas.Bool.{cases_lt}
use Rattle.std.proofs.lemmas.List.{length-map, length-append, get_or-map, get_or_append_left, get_or-append_right}
use Rattle.std.proofs.lemmas.List.Elements.{All-cons, All-nil}
use Rattle.integers.proofs.Identities.{den-ring, read, polys, lits}
use Rattle.integers.proofs.Order.{lt_by, le_from_lt}
use Rattle.bounds_model.specs.Numbers.{IsWithin}
use Rattle.bounds_model.specs.Plane.{PlanePoint, origin, point_at, cross}
use Rattle.bounds_model.specs.Fractions.{HaveNoCommonFactor}
use Rattle.bounds_model.specs.Fans.{HalfFan, HalfCone, half_directions, AreExtreme, IsShort, east, west}
use Rattle.directions.proofs.Reaches.{extreme_opposite}
use Rattle.parallelogram_strip.specs.FullTurn.{opposite, other_side, no_cone, cone_at}
use Rattle.parallelogram_strip.specs.PlainFan.{IsPlainFan}
use Rattle.parallelogram_strip.proofs.Turning.{left_of_earlier}

-- ---- the cones of the other half

-- the cones of the first half are the fan's
pub first_half : (fan : HalfFan) (i : ℕ) → i < length fan.cones → cone_at fan i ≡ slice_index_or fan.cones i no_cone
first_half fan i h = get_or_append_left fan.cones (map other_side fan.cones) no_cone i h

-- those of the second half are the same on the other side
pub second_half : (fan : HalfFan) (i k : ℕ) → i ≡ length fan.cones + k → k < length fan.cones → cone_at fan i ≡ other_side (cone_at fan k)
second_half fan i k e h =
    get_or-append_right fan.cones (map other_side fan.cones) (length fan.cones) i no_cone refl (omega arith)
    ∙ ap (λ j. slice_index_or (map other_side fan.cones) j no_cone) (rest i (length fan.cones) k e)
    ∙ get_or-map other_side fan.cones k no_cone no_cone h
    ∙ ap other_side (sym (first_half fan k h))
  where
    rest : (i m k : ℕ) → i ≡ m + k → i - m ≡ k
    rest i m k e = omega arith

-- what holds of the fan's cones, and of the other side of each, holds all around
pub each_around : (fan : HalfFan) (P : HalfCone → Type 0) → ((k : ℕ) → k < length fan.cones → P (slice_index_or fan.cones k no_cone)) → ((cone : HalfCone) → P cone → P (other_side cone))
    → (i : ℕ) → i < length fan.cones + length fan.cones → P (cone_at fan i)
each_around fan P each other i h =
    elim (cases_lt i (length fan.cones)) [
      | inl n ↦ subst P (sym (first_half fan i n)) (each i n)
      | inr n ↦ subst P (sym (second_half fan i (i - length fan.cones) (omega arith) (omega arith))) (other _ (subst P (sym (first_half fan (i - length fan.cones) (omega arith))) (each (i - length fan.cones) (omega arith))))
    ]

-- ---- directions

-- there is one direction more than cones
pub length-directions : (fan : HalfFan) → length (half_directions fan) ≡ suc (length fan.cones)
length-directions fan =
    let e = length-append (map (λ cone. cone.direction) fan.cones) (fan.last ∷ []) in
    let f = length-map fan.cones (λ cone. cone.direction) in
    omega (arith, e, f)

-- each cone begins at the direction of its number
pub direction_is : (fan : HalfFan) (i : ℕ) → i < length fan.cones → point_at (half_directions fan) i ≡ (cone_at fan i).direction
direction_is fan i h =
    get_or_append_left (map (λ cone. cone.direction) fan.cones) (fan.last ∷ []) origin i (subst (λ n. i < n) (sym (length-map fan.cones (λ cone. cone.direction))) h)
    ∙ get_or-map (λ (cone : HalfCone). cone.direction) fan.cones i no_cone origin h
    ∙ ap (λ (cone : HalfCone). cone.direction) (sym (first_half fan i h))

-- ---- what holds all around

-- m cones over half a turn, and the same on the other side
pub record IsFullTurn (points : List PlanePoint) (m : ℕ) (at : ℕ → HalfCone) : Type 0 where
  pub some : 0 < m
  pub named : (i : ℕ) → i < m + m → ((at i).high < length points) × ((at i).low < length points)
  pub short : (i : ℕ) → i < m + m → IsShort (at i).direction
  pub lowest : (i : ℕ) → i < m + m → HaveNoCommonFactor ((at i).direction.x ∷ (at i).direction.y ∷ [])
  pub begins : (i : ℕ) → i < m + m → AreExtreme points (at i).direction (at i).high (at i).low
  pub ends : (i : ℕ) → i + 1 < m + m → AreExtreme points (at (i + 1)).direction (at i).high (at i).low
  pub left : (i k : ℕ) → i < m → i < k → k < i + m → pos 0 <ℤ cross (at i).direction (at k).direction
  pub back : (i : ℕ) → i < m → at (i + m) ≡ other_side (at i)

-- the direction on the other side of east is west
opposite_east : (d e : PlanePoint) → d ≡ east → e ≡ west → opposite d ≡ e
opposite_east d e h k = ap opposite h ∙ sym k

-- the last direction is that of the first cone of the other half
pub west_is : (points : List PlanePoint) (fan : HalfFan) → IsPlainFan points fan → (k : ℕ) → k + 1 ≡ length fan.cones → point_at (half_directions fan) (k + 1) ≡ (cone_at fan (k + 1)).direction
west_is points fan h k e =
    let m : length (half_directions fan) - 1 ≡ k + 1 = omega (arith, length-directions fan) in
    let is_west : point_at (half_directions fan) (k + 1) ≡ west = subst (λ n. point_at (half_directions fan) n ≡ west) m h.holds.directions.ends in
    let is_east : (cone_at fan 0).direction ≡ east = sym (direction_is fan 0 (omega arith)) ∙ h.holds.directions.begins in
    sym (ap (λ (cone : HalfCone). cone.direction) (second_half fan (k + 1) 0 (omega arith) (omega arith)) ∙ opposite_east (cone_at fan 0).direction (point_at (half_directions fan) (k + 1)) is_east is_west)

-- each direction of the fan, the last included, is that of the cone of its number
pub direction_at : (points : List PlanePoint) (fan : HalfFan) → IsPlainFan points fan → (i : ℕ) → i ≤ length fan.cones → point_at (half_directions fan) i ≡ (cone_at fan i).direction
direction_at points fan h i l =
    elim (cases_lt i (length fan.cones)) [
      | inl n ↦ direction_is fan i n
      | inr n ↦
          let e : (i - 1) + 1 ≡ i = omega (arith, h.ranges.count.at_least) in
          subst (λ k. point_at (half_directions fan) k ≡ (cone_at fan k).direction) e (west_is points fan h (i - 1) (omega (arith, e)))
    ]

-- the direction after each cone, around the turn, is one that its points are extreme in
ends_around : (points : List PlanePoint) (fan : HalfFan) → IsPlainFan points fan → (i : ℕ) → i + 1 < length fan.cones + length fan.cones → AreExtreme points (cone_at fan (i + 1)).direction (cone_at fan i).high (cone_at fan i).low
ends_around points fan h i l =
    let m = length fan.cones in
    elim (cases_lt i m) [
      | inl n ↦ inner i n
      | inr n ↦
          let k = i - m in
          let e : i ≡ m + k = omega arith in
          let f : i + 1 ≡ m + (k + 1) = omega arith in
          let at_k = inner_before k (omega arith) in
          subst (λ (cone : HalfCone). AreExtreme points (cone_at fan (i + 1)).direction cone.high cone.low) (sym (second_half fan i k e (omega arith)))
          (subst (λ (cone : HalfCone). AreExtreme points cone.direction (cone_at fan k).low (cone_at fan k).high) (sym (second_half fan (i + 1) (k + 1) f (omega arith)))
          (extreme_opposite points (cone_at fan (k + 1)).direction (cone_at fan k).high (cone_at fan k).low at_k))
    ]
  where
    at_end : (k : ℕ) → k < length fan.cones → AreExtreme points (point_at (half_directions fan) (k + 1)) (cone_at fan k).high (cone_at fan k).low
    at_end k l = subst (λ (cone : HalfCone). AreExtreme points (point_at (half_directions fan) (k + 1)) cone.high cone.low) (sym (first_half fan k l)) (h.holds.extremes k no_cone l).1

    inner_before : (k : ℕ) → k + 1 < length fan.cones → AreExtreme points (cone_at fan (k + 1)).direction (cone_at fan k).high (cone_at fan k).low
    inner_before k l = subst (λ d. AreExtreme points d (cone_at fan k).high (cone_at fan k).low) (direction_is fan (k + 1) l) (at_end k (omega arith))

    inner : (k : ℕ) → k < length fan.cones → AreExtreme points (cone_at fan (k + 1)).direction (cone_at fan k).high (cone_at fan k).low
    inner k l =
        elim (cases_lt (k + 1) (length fan.cones)) [
          | inl n ↦ inner_before k n
          | inr n ↦ subst (λ d. AreExtreme points d (cone_at fan k).high (cone_at fan k).low) (west_is points fan h k (omega arith)) (at_end k l)
        ]

-- the first direction points to the right
first_is_east : (points : List PlanePoint) (fan : HalfFan) → IsPlainFan points fan → 0 < length fan.cones → (cone_at fan 0).direction ≡ east
first_is_east points fan h some = sym (direction_is fan 0 some) ∙ h.holds.directions.begins

-- all but the first direction of the fan's cones point upwards
upwards : (points : List PlanePoint) (fan : HalfFan) → IsPlainFan points fan → (i : ℕ) → 0 < i → i < length fan.cones → pos 0 <ℤ (cone_at fan i).direction.y
upwards points fan h i some l =
    subst (λ (d : PlanePoint). pos 0 <ℤ d.y) (direction_is fan i l) (h.in_range i some (omega (arith, length-directions fan)))

-- and none of them points downwards
not_downwards : (points : List PlanePoint) (fan : HalfFan) → IsPlainFan points fan → (i : ℕ) → i < length fan.cones → pos 0 ≤ℤ (cone_at fan i).direction.y
not_downwards points fan h zero l = subst (λ (d : PlanePoint). pos 0 ≤ℤ d.y) (sym (first_is_east points fan h l)) (omega (arith, ints))
not_downwards points fan h (suc i) l = le_from_lt (upwards points fan h (suc i) (omega arith) l)

-- each direction is to the left of those less than half a turn before it
left_around : (points : List PlanePoint) (fan : HalfFan) → IsPlainFan points fan → (i k : ℕ) → i < length fan.cones → i < k → k < i + length fan.cones → pos 0 <ℤ cross (cone_at fan i).direction (cone_at fan k).direction
left_around points fan h i k l n o =
    elim (cases_lt k (length fan.cones)) [
      | inl p ↦ earlier i k n p
      | inr p ↦
          let j = k - length fan.cones in
          let e : k ≡ length fan.cones + j = omega arith in
          subst (λ (cone : HalfCone). pos 0 <ℤ cross (cone_at fan i).direction cone.direction) (sym (second_half fan k j e (omega arith)))
          (turned (cone_at fan j).direction (cone_at fan i).direction (earlier j i (omega arith) l))
    ]
  where
    turns : (i : ℕ) → suc i < length fan.cones → pos 0 <ℤ cross (cone_at fan i).direction (cone_at fan (suc i)).direction
    turns i l =
        let t = h.holds.directions.turns i (omega (arith, length-directions fan)) in
        let e : i + 1 ≡ suc i = omega arith in
        subst (λ d. pos 0 <ℤ cross (cone_at fan i).direction d) (direction_is fan (suc i) l)
        (subst (λ d. pos 0 <ℤ cross d (point_at (half_directions fan) (suc i))) (direction_is fan i (omega arith))
        (subst (λ j. pos 0 <ℤ cross (point_at (half_directions fan) i) (point_at (half_directions fan) j)) e t))

    earlier : (i k : ℕ) → i < k → k < length fan.cones → pos 0 <ℤ cross (cone_at fan i).direction (cone_at fan k).direction
    earlier = left_of_earlier (λ i. (cone_at fan i).direction) (length fan.cones) (not_downwards points fan h) (upwards points fan h) turns

    turned : (d e : PlanePoint) → pos 0 <ℤ cross d e → pos 0 <ℤ cross e (opposite d)
    turned d e h = plain d.x d.y e.x e.y h
      where
        plain : (dx dy ex ey : ℤ) → pos 0 <ℤ (dx *ℤ ey -ℤ dy *ℤ ex) → pos 0 <ℤ (ex *ℤ neg_ℤ dy -ℤ ey *ℤ neg_ℤ dx)
        plain dx dy ex ey h = lt_by h (read (dx ∷ dy ∷ ex ∷ ey ∷ []) (λ xs a b c d. simp (a, b, c, d, polys, lits xs) (den-ring xs _ _ tt)))

-- what holds of all directions of the fan holds of its cones' directions
pub of_direction : (fan : HalfFan) (P : PlanePoint → Type 0) → All P (half_directions fan) → (k : ℕ) → k < length fan.cones → P (slice_index_or fan.cones k no_cone).direction
of_direction fan P h k l =
    subst P (direction_is fan k l ∙ ap (λ (cone : HalfCone). cone.direction) (first_half fan k l)) (h k origin (omega (arith, length-directions fan)))

-- a number and its negative have one magnitude
pub magnitude_back : (z : ℤ) → nat_abs (neg_ℤ z) ≡ nat_abs z
magnitude_back (pos zero) = refl
magnitude_back (pos (suc n)) = refl
magnitude_back (negsuc n) = refl

-- a range around 0 holds a number with its negative
pub within_back : {n : ℕ} {z : ℤ} → IsWithin n z → IsWithin n (neg_ℤ z)
within_back h = record { low = omega (arith, ints, h.high); high = omega (arith, ints, h.low) }

-- so a fan over half a turn goes all around
pub full_turn_of : (points : List PlanePoint) (fan : HalfFan) → IsPlainFan points fan → IsFullTurn points (length fan.cones) (cone_at fan)
full_turn_of points fan h =
    let some : 0 < length fan.cones = omega (arith, h.ranges.count.at_least) in
    record {
      some = some;
      named = each_around fan (λ cone. (cone.high < length points) × (cone.low < length points)) (λ k l. h.holds.numbers k no_cone l) (λ cone n. (n.1, n.0));
      short = each_around fan (λ cone. IsShort cone.direction) (of_direction fan IsShort h.short) (λ cone s. record { x = within_back s.x; y = within_back s.y });
      lowest = each_around fan (λ cone. HaveNoCommonFactor (cone.direction.x ∷ cone.direction.y ∷ [])) (of_direction fan (λ d. HaveNoCommonFactor (d.x ∷ d.y ∷ [])) h.lowest) (λ cone l k divides. l k (no_sign cone.direction k divides));
      begins = each_around fan (λ cone. AreExtreme points cone.direction cone.high cone.low) begins (λ cone e. extreme_opposite points cone.direction cone.high cone.low e);
      ends = ends_around points fan h;
      left = left_around points fan h;
      back = λ i l. second_half fan (i + length fan.cones) i (omega arith) l;
    }
  where
    begins : (k : ℕ) → k < length fan.cones → AreExtreme points (slice_index_or fan.cones k no_cone).direction (slice_index_or fan.cones k no_cone).high (slice_index_or fan.cones k no_cone).low
    begins k l =
        let cone = slice_index_or fan.cones k no_cone in
        subst (λ d. AreExtreme points d cone.high cone.low) (direction_is fan k l ∙ ap (λ (cone : HalfCone). cone.direction) (first_half fan k l)) (h.holds.extremes k no_cone l).0

    no_sign : (d : PlanePoint) (k : ℕ) → All (λ e. k ∣ nat_abs e) (neg_ℤ d.x ∷ neg_ℤ d.y ∷ []) → All (λ e. k ∣ nat_abs e) (d.x ∷ d.y ∷ [])
    no_sign d k h =
        All-cons (λ e. k ∣ nat_abs e) d.x (d.y ∷ []) (subst (λ n. k ∣ n) (magnitude_back d.x) (h 0 (pos 0) (omega arith)))
        (All-cons (λ e. k ∣ nat_abs e) d.y [] (subst (λ n. k ∣ n) (magnitude_back d.y) (h 1 (pos 0) (omega arith))) (All-nil (λ e. k ∣ nat_abs e)))

-- it has two directions at least besides the last
pub two_cones : (points : List PlanePoint) (fan : HalfFan) → IsPlainFan points fan → 1 < length fan.cones
two_cones points fan h =
    elim (cases_lt 1 (length fan.cones)) [
      | inl l ↦ l
      | inr l ↦
          let one : length fan.cones ≡ 1 = omega (arith, h.ranges.count.at_least) in
          let at_east = h.holds.directions.begins in
          let at_west : point_at (half_directions fan) 1 ≡ west = subst (λ n. point_at (half_directions fan) n ≡ west) (last one) h.holds.directions.ends in
          let t : pos 0 <ℤ cross (point_at (half_directions fan) 0) (point_at (half_directions fan) 1) = h.holds.directions.turns 0 (omega (arith, length-directions fan)) in
          absurd (subst (λ d. pos 0 <ℤ cross east d) at_west (subst (λ d. pos 0 <ℤ cross d (point_at (half_directions fan) 1)) at_east t)).lt
    ]
  where
    last : length fan.cones ≡ 1 → length (half_directions fan) - 1 ≡ 1
    last e = omega (arith, length-directions fan)
