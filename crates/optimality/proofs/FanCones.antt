-- Every direction, up to sign or quarter turns, lies in a cone of the fan.
use Rattle.std.proofs.Common.{◌≡◌, sym, subst, ℕ, zero, suc, ◌+◌, ◌-◌, ◌<◌, ◌≤◌, ℤ, pos, negsuc, ◌-ℤ◌, ◌*ℤ◌, neg_ℤ, ◌≤ℤ◌, ◌<ℤ◌, List, [], ◌∷◌, ◌++◌, length, map, arith}
use Rattle.std.proofs.lemmas.Int.{ints, by_lt_z}
use Rattle.std.proofs.lemmas.List.{length-map, length-append}
use Rattle.std.proofs.Math.IntN.{neg_ℤ-neg_ℤ}
use Rattle.integers.proofs.Order.{le_from_lt}
use Rattle.bounds_model.specs.Plane.{PlanePoint, point_at, cross, quarter_turn}
use Rattle.bounds_model.specs.Fans.{HalfFan, QuarterFan, half_directions, quarter_directions, TurnLeft, HoldsHalf, HoldsQuarter, east, north, west}
use Rattle.optimality.proofs.Bounds.{by_sign}

-- ---- a cone around a direction

-- u lies between d and e, of which e is to the left of d
pub record IsBetween (d e u : PlanePoint) : Type 0 where
  pub turns : pos 0 <ℤ cross d e
  pub left : pos 0 ≤ℤ cross d u
  pub right : cross e u ≤ℤ pos 0

-- the number of a cone with u between the directions that bound it
pub record ConeAround {Cone : Type 0} (directions : List PlanePoint) (cones : List Cone) (u : PlanePoint) : Type 0 where
  pub number : ℕ
  pub listed : number < length cones
  pub between : IsBetween (point_at directions number) (point_at directions (number + 1)) u

-- where s begins at 0 or above and ends at 0 or below, it comes down somewhere
comes_down : (s : ℕ → ℤ) (n : ℕ) → pos 0 ≤ℤ s 0 → s (suc n) ≤ℤ pos 0 → (i : ℕ) × (i ≤ n) × (pos 0 ≤ℤ s i) × (s (suc i) ≤ℤ pos 0)
comes_down s zero h k = (0, omega arith, h, k)
comes_down s (suc n) h k = by_lt_z (pos 0) (s (suc n)) (λ above. (suc n, omega arith, le_from_lt above, k)) (λ below. let found = comes_down s n h below in (found.0, more found.1, found.2, found.3))
  where
    more : {i n : ℕ} → i ≤ n → i ≤ suc n
    more h = omega arith

-- there is one direction more than cones
pub length-directions : {Cone : Type 0} (direction_of : Cone → PlanePoint) (cones : List Cone) (last : PlanePoint) → length (map direction_of cones ++ last ∷ []) ≡ suc (length cones)
length-directions direction_of cones last =
    let e = length-append (map direction_of cones) (last ∷ []) in
    let f = length-map cones direction_of in
    omega (arith, e, f)

-- a direction to the left of the first, and not to the left of the last, lies in a cone
cone_around : {Cone : Type 0} (first last : PlanePoint) (directions : List PlanePoint) (cones : List Cone) → length directions ≡ suc (length cones) → 1 ≤ length cones → TurnLeft first last directions
    → (u : PlanePoint) → pos 0 ≤ℤ cross first u → cross last u ≤ℤ pos 0 → ConeAround directions cones u
cone_around first last directions [] many some turns u h k = absurd (omega arith)
cone_around first last directions (cone ∷ rest) many some turns u h k =
    let at_first : pos 0 ≤ℤ cross (point_at directions 0) u = subst (λ d. pos 0 ≤ℤ cross d u) (sym turns.begins) h in
    let at_last : cross (point_at directions (suc (length rest))) u ≤ℤ pos 0 = subst (λ i. cross (point_at directions i) u ≤ℤ pos 0) last_index (subst (λ d. cross d u ≤ℤ pos 0) (sym turns.ends) k) in
    let found = comes_down (λ i. cross (point_at directions i) u) (length rest) at_first at_last in
    record {
      number = found.0;
      listed = below found.1;
      between = record {
        turns = turns.turns found.0 (before_last found.1);
        left = found.2;
        right = subst (λ i. cross (point_at directions i) u ≤ℤ pos 0) (one_more found.0) found.3;
      };
    }
  where
    last_index : length directions - 1 ≡ suc (length rest)
    last_index = omega (arith, many)

    below : {i n : ℕ} → i ≤ n → i < suc n
    below h = omega arith

    before_last : {i : ℕ} → i ≤ length rest → i < length directions - 1
    before_last h = omega (arith, many)

    one_more : (i : ℕ) → suc i ≡ i + 1
    one_more i = omega arith

-- what does not point down is not to the right of east
left_of_east : (x y : ℤ) → pos 0 ≤ℤ y → pos 0 ≤ℤ (pos 1 *ℤ y -ℤ pos 0 *ℤ x)
left_of_east x y h = omega (arith, ints)

-- nor to the left of west
right_of_west : (x y : ℤ) → pos 0 ≤ℤ y → (negsuc 0 *ℤ y -ℤ pos 0 *ℤ x) ≤ℤ pos 0
right_of_west x y h = omega (arith, ints)

-- what does not point to the left is not to the left of north
right_of_north : (x y : ℤ) → pos 0 ≤ℤ x → (pos 0 *ℤ y -ℤ pos 1 *ℤ x) ≤ℤ pos 0
right_of_north x y h = omega (arith, ints)

-- a direction that does not point down lies in a cone of a half fan
pub half_cone_around : (points : List PlanePoint) (fan : HalfFan) → 1 ≤ length fan.cones → HoldsHalf points fan → (u : PlanePoint) → pos 0 ≤ℤ u.y → ConeAround (half_directions fan) fan.cones u
half_cone_around points fan some holds u up =
    cone_around east west (half_directions fan) fan.cones (length-directions (λ cone. cone.direction) fan.cones fan.last) some holds.directions u (left_of_east u.x u.y up) (right_of_west u.x u.y up)

-- a direction that points neither down nor to the left lies in a cone of a quarter fan
pub quarter_cone_around : (points : List PlanePoint) (fan : QuarterFan) → 1 ≤ length fan.cones → HoldsQuarter points fan → (u : PlanePoint) → pos 0 ≤ℤ u.x → pos 0 ≤ℤ u.y → ConeAround (quarter_directions fan) fan.cones u
quarter_cone_around points fan some holds u right up =
    cone_around east north (quarter_directions fan) fan.cones (length-directions (λ cone. cone.direction) fan.cones fan.last) some holds.directions u (left_of_east u.x u.y up) (right_of_north u.x u.y right)

-- ---- up to turns

-- the direction the other way
abbrev pub opposite : PlanePoint → PlanePoint
opposite v = record { x = neg_ℤ v.x; y = neg_ℤ v.y }

-- what holds of each direction that does not point down, and of one with its opposite, holds of all
pub up_to_sign : (P : PlanePoint → Type 0) → ((v : PlanePoint) → P (opposite v) → P v) → ((v : PlanePoint) → pos 0 ≤ℤ v.y → P v) → (u : PlanePoint) → P u
up_to_sign P back upper u = by_sign u.y (upper u) (λ down. back u (upper (opposite u) down))

-- the direction turned to the right by a right angle
abbrev pub turned_right : PlanePoint → PlanePoint
turned_right u = record { x = u.y; y = neg_ℤ u.x }

-- what holds of each direction that points neither down nor to the left, and of a turned direction with the direction, holds of all
pub up_to_quarter_turns : (P : PlanePoint → Type 0) → ((v : PlanePoint) → P v → P (quarter_turn v)) → ((v : PlanePoint) → pos 0 ≤ℤ v.x → pos 0 ≤ℤ v.y → P v) → (u : PlanePoint) → P u
up_to_quarter_turns P turn first u =
    by_sign u.x
    (λ right. by_sign u.y (λ up. first u right up) (λ down. fourth u right down))
    (λ left. by_sign u.y (λ up. second u left up) (λ down. third u left down))
  where
    from_right : (v : PlanePoint) → P (turned_right v) → P v
    from_right v h = subst P (λ i. record { x = neg_ℤ-neg_ℤ v.x i; y = v.y }) (turn (turned_right v) h)

    second : (v : PlanePoint) → pos 0 ≤ℤ neg_ℤ v.x → pos 0 ≤ℤ v.y → P v
    second v left up = from_right v (first (turned_right v) up left)

    third : (v : PlanePoint) → pos 0 ≤ℤ neg_ℤ v.x → pos 0 ≤ℤ neg_ℤ v.y → P v
    third v left down = from_right v (second (turned_right v) down left)

    fourth : (v : PlanePoint) → pos 0 ≤ℤ v.x → pos 0 ≤ℤ neg_ℤ v.y → P v
    fourth v right down = from_right v (third (turned_right v) down (subst (λ z. pos 0 ≤ℤ z) (sym (neg_ℤ-neg_ℤ v.x)) right))
