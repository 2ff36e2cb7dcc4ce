-- A rectangle that passes is the first of those of least area around its points.
use Rattle.std.proofs.Common.{◌≡◌, refl, sym, subst, ◌⊎◌, inl, inr, ℕ, suc, ◌+◌, ◌-◌, ◌<◌, ℤ, pos, ◌+ℤ◌, ◌-ℤ◌, ◌*ℤ◌, neg_ℤ, ◌≤ℤ◌, ◌<ℤ◌, List, [], ◌∷◌, length, arith}
use Rattle.std.specs.Prelude.{slice_index_or}
use Rattle.std.proofs.lemmas.Int.{ints, by_lt_z}
use Rattle.integers.proofs.Identities.{den-ring, read, polys, lits}
use Rattle.integers.proofs.Order.{le_from_lt, positive_from_one, nonneg_from_one, positive_difference, lt_by, square_nonneg, zero_of_square}
use Rattle.bounds_model.specs.Plane.{PlanePoint, origin, point_at, vector, dot, cross, squared_length, quarter_turn}
use Rattle.bounds_model.specs.Fractions.{Fraction}
use Rattle.bounds_model.specs.Best.{IsSmallest}
use Rattle.bounds_model.specs.Strip.{extent}
use Rattle.bounds_model.specs.Rectangle.{Rectangle, FitsRectangle, rectangle_size}
use Rattle.bounds_model.specs.Fans.{quarter_directions, reach, IsFirstAt}
use Rattle.bounds_model.specs.RectangleAnswer.{RectangleAnswer, rectangle_of, IsLarger, PassesRectangle}
use Rattle.bounds_model.specs.Firsts.{IsInQuarterTurn}
use Rattle.model_laws.proofs.SizeDenominators.{rectangle_denominator}
use Rattle.model_laws.proofs.Reaches.{reach_nonneg}
use Rattle.optimality.specs.Laws.{PassingRectanglesAreFirst}
use Rattle.optimality.proofs.FanCones.{IsBetween, length-directions, turned_right, up_to_quarter_turns}
use Rattle.optimality.proofs.FirstCones.{ConeBefore, cone_before, right_of_same}
use Rattle.optimality.proofs.FirstQuarters.{IsUpTo, passed_or_in_turn, same_turn}
use Rattle.optimality.proofs.Reaches.{dot_between, product_between_above, reach-opposite, reach_in_span, extents_above}
use Rattle.optimality.proofs.FirstSizes.{no_best_above, not_above_itself}
use Rattle.optimality.proofs.RectangleLaw.{no_cone, dot-turned, rectangle_law, rectangle_fits}

-- four points reach farther along u and across it than the size asks of a rectangle in this direction
record IsWider (points : List PlanePoint) (size : Fraction) (u : PlanePoint) : Type 0 where
  high : ℕ
  low : ℕ
  over : ℕ
  under : ℕ
  in_high : high < length points
  in_low : low < length points
  in_over : over < length points
  in_under : under < length points
  along : pos 0 ≤ℤ reach points u high low
  across : pos 0 ≤ℤ reach points (quarter_turn u) over under
  larger : (size.n *ℤ squared_length u) <ℤ (reach points u high low *ℤ reach points (quarter_turn u) over under *ℤ size.d)

-- what is known of the number of the first direction that reaches the size
abbrev IsFirstNumber : List PlanePoint → RectangleAnswer → ℕ → Type 0
IsFirstNumber points a i = IsFirstAt (quarter_directions a.fan) (IsLarger points a.size) a.fan.cones a.direction i

-- a direction of the fan has the next one to its left
turns_at : (points : List PlanePoint) (a : RectangleAnswer) → PassesRectangle points a → (j : ℕ) → j < length a.fan.cones → pos 0 <ℤ cross (point_at (quarter_directions a.fan) j) (point_at (quarter_directions a.fan) (j + 1))
turns_at points a h j listed = h.fan.directions.turns j (inner listed (length-directions (λ cone. cone.direction) a.fan.cones a.fan.last))
  where
    inner : {j m n : ℕ} → j < m → n ≡ suc m → j < n - 1
    inner h e = omega arith

-- they do so in a direction in a cone before the first that reaches the size, but at the end of that cone
wider_in_cone : (points : List PlanePoint) (a : RectangleAnswer) → PassesRectangle points a → (i : ℕ) → i < length a.fan.cones → IsFirstNumber points a i → (v : PlanePoint) → ConeBefore (quarter_directions a.fan) i v → IsWider points a.size v
wider_in_cone points a h i listed first v c =
    let j = c.number in
    let in_fan : j < length a.fan.cones = omega (arith, c.below, listed) in
    let cone = slice_index_or a.fan.cones j no_cone in
    let d = point_at (quarter_directions a.fan) j in
    let e = point_at (quarter_directions a.fan) (j + 1) in
    let names = h.fan.numbers j no_cone in_fan in
    let extreme = h.fan.extremes j no_cone in_fan in
    let small = h.not_smaller j no_cone in_fan in
    let long = vector (point_at points cone.low) (point_at points cone.high) in
    let broad = vector (point_at points cone.under) (point_at points cone.over) in
    let Not_below : ℤ → Type 0 = λ z. pos 0 ≤ℤ z in
    let Reaches = λ (v : PlanePoint) (z : ℤ). (a.size.n *ℤ squared_length v) ≤ℤ (dot v long *ℤ z *ℤ a.size.d) in
    let Passes_by = λ (v : PlanePoint) (z : ℤ). (a.size.n *ℤ squared_length v) <ℤ (dot v long *ℤ z *ℤ a.size.d) in
    let long_d = reach_nonneg points d cone.high cone.low names.1 extreme.0.0 in
    let long_e = reach_nonneg points e cone.high cone.low names.1 extreme.1.0 in
    let broad_d = subst Not_below (dot-turned d broad) (reach_nonneg points (quarter_turn d) cone.over cone.under names.3 extreme.0.1) in
    let broad_e = subst Not_below (dot-turned e broad) (reach_nonneg points (quarter_turn e) cone.over cone.under names.3 extreme.1.1) in
    let between : IsBetween d e v = record { turns = turns_at points a h j in_fan; left = c.left; right = le_from_lt c.right } in
    record {
      high = cone.high;
      low = cone.low;
      over = cone.over;
      under = cone.under;
      in_high = names.0;
      in_low = names.1;
      in_over = names.2;
      in_under = names.3;
      along = dot_between d e v long between long_d long_e;
      across = subst Not_below (sym (dot-turned v broad)) (dot_between d e v (turned_right broad) between broad_d broad_e);
      larger = subst (Passes_by v) (sym (dot-turned v broad))
          (product_between_above a.size.n a.size.d d e v long (turned_right broad) h.ranges.size.lowest.not_negative.numerator (nonneg_from_one h.ranges.size.lowest.not_negative.denominator) between c.right long_d broad_d long_e broad_e
          (subst (Passes_by d) (dot-turned d broad) (first.before j no_cone in_fan c.below)) (subst (Reaches e) (dot-turned e broad) small.1));
    }

-- turned by a right angle, the four points change their parts
turned : (points : List PlanePoint) (size : Fraction) (v : PlanePoint) → IsWider points size v → IsWider points size (quarter_turn v)
turned points size v w =
    let back = reach-opposite points v w.low w.high in
    record {
      high = w.over;
      low = w.under;
      over = w.low;
      under = w.high;
      in_high = w.in_over;
      in_low = w.in_under;
      in_over = w.in_low;
      in_under = w.in_high;
      along = w.across;
      across = subst (λ r. pos 0 ≤ℤ r) (sym back) w.along;
      larger = subst (λ r. (size.n *ℤ squared_length (quarter_turn v)) <ℤ (reach points (quarter_turn v) w.over w.under *ℤ r *ℤ size.d)) (sym back) (exchanged size.n size.d v.x v.y (reach points v w.high w.low) (reach points (quarter_turn v) w.over w.under) w.larger);
    }
  where
    exchanged : (N D x y A B : ℤ) → (N *ℤ (x *ℤ x +ℤ y *ℤ y)) <ℤ (A *ℤ B *ℤ D) → (N *ℤ (neg_ℤ y *ℤ neg_ℤ y +ℤ x *ℤ x)) <ℤ (B *ℤ A *ℤ D)
    exchanged N D x y A B h = lt_by (positive_difference h) (read (N ∷ D ∷ x ∷ y ∷ A ∷ B ∷ []) (λ xs a b c d e f. simp (a, b, c, d, e, f, polys) (den-ring xs _ _ tt)))

-- a rectangle that fits in such a direction is larger than the size
larger : (points : List PlanePoint) (a : RectangleAnswer) → PassesRectangle points a → (other : Rectangle) → FitsRectangle points other → IsWider points a.size other.direction → (a.size.n *ℤ (rectangle_size other).d) <ℤ ((rectangle_size other).n *ℤ a.size.d)
larger points a h other fits w =
    let u = other.direction in
    extents_above a.size.n a.size.d (squared_length u) (reach points u w.high w.low) (reach points (quarter_turn u) w.over w.under) (extent other.along) (extent other.across) other.w (nonneg_from_one h.ranges.size.lowest.not_negative.denominator) (positive_from_one fits.denominator) w.along w.across
    (reach_in_span points other.w u other.along fits.inside_along w.high w.low w.in_high w.in_low)
    (reach_in_span points other.w (quarter_turn u) other.across fits.inside_across w.over w.under w.in_over w.in_under) w.larger

-- so no best rectangle has such a direction
none_best : (points : List PlanePoint) (a : RectangleAnswer) → PassesRectangle points a → (other : Rectangle) → IsSmallest (FitsRectangle points) rectangle_size other → IsWider points a.size other.direction → ⊥
none_best points a h other best w =
    no_best_above a.size (rectangle_size (rectangle_of a)) (rectangle_size other) (positive_from_one h.ranges.size.lowest.not_negative.denominator) (rectangle_denominator points (rectangle_of a) (rectangle_fits points a h)) h.size (best.smallest (rectangle_of a) (rectangle_fits points a h)) (larger points a h other best.fits w)

-- nor has the answer's own rectangle
own_is_not : (points : List PlanePoint) (a : RectangleAnswer) → PassesRectangle points a → IsWider points a.size a.direction → ⊥
own_is_not points a h w = not_above_itself a.size (rectangle_size (rectangle_of a)) h.size (larger points a h (rectangle_of a) (rectangle_fits points a h) w)

-- the fan's first direction has each of the quarter turn at its left, or is it
up_to_first : (points : List PlanePoint) (a : RectangleAnswer) → PassesRectangle points a → (v : PlanePoint) → IsInQuarterTurn v → IsUpTo v (point_at (quarter_directions a.fan) 0)
up_to_first points a h v inside = subst (IsUpTo v) (sym h.fan.directions.begins) (record { in_turn = record { right = one; up = none }; before = plain v.x v.y inside.up })
  where
    one : pos 0 <ℤ pos 1
    one = omega (arith, ints)

    none : pos 0 ≤ℤ pos 0
    none = omega (arith, ints)

    plain : (x y : ℤ) → pos 0 ≤ℤ y → pos 0 ≤ℤ (pos 1 *ℤ y -ℤ pos 0 *ℤ x)
    plain x y h = omega (arith, ints)

-- no best rectangle's direction comes before the answer's
none_before : (points : List PlanePoint) (a : RectangleAnswer) → PassesRectangle points a → (other : Rectangle) → IsSmallest (FitsRectangle points) rectangle_size other → IsInQuarterTurn other.direction → pos 0 ≤ℤ cross a.direction other.direction
none_before points a h other best inside =
    by_lt_z (cross a.direction other.direction) (pos 0)
    (λ before.
    let i = h.first.0 in
    let at = h.first.2 in
    let right = right_of_same (point_at (quarter_directions a.fan) i) a.direction other.direction at.reduced.parallel at.reduced.ahead before in
    absurd (none_best points a h other best
    (wider_in_cone points a h i h.first.1 at other.direction (cone_before (quarter_directions a.fan) other.direction i (up_to_first points a h other.direction inside).before right))))
    (λ after. after)

-- along a direction of the quarter turn the points reach farther than the size asks, or the answer's direction is in the quarter turn
wider_or_in_turn : (points : List PlanePoint) (a : RectangleAnswer) → PassesRectangle points a → (v : PlanePoint) → IsInQuarterTurn v → IsWider points a.size v ⊎ IsInQuarterTurn a.direction
wider_or_in_turn points a h v inside =
    let i = h.first.0 in
    let at = h.first.2 in
    elim (passed_or_in_turn (quarter_directions a.fan) v inside (up_to_first points a h v inside) i (λ j l. turns_at points a h j (lower l h.first.1))) [
      | inl c ↦ inl (wider_in_cone points a h i h.first.1 at v c)
      | inr u ↦ inr (same_turn (point_at (quarter_directions a.fan) i) a.direction at.reduced.parallel at.reduced.ahead u.in_turn)
    ]
  where
    lower : {j i n : ℕ} → j < i → i < n → j < n
    lower h k = omega arith

-- so it is of every direction, by quarter turns
abbrev Decided : List PlanePoint → RectangleAnswer → PlanePoint → Type 0
Decided points a v = pos 0 <ℤ squared_length v → IsWider points a.size v ⊎ IsInQuarterTurn a.direction

decided_turned : (points : List PlanePoint) (a : RectangleAnswer) → (v : PlanePoint) → Decided points a v → Decided points a (quarter_turn v)
decided_turned points a v h some = elim (h (lt_by (positive_difference some) (plain v.x v.y))) [ inl w ↦ inl (turned points a.size v w) | inr u ↦ inr u ]
  where
    plain : (x y : ℤ) → (x *ℤ x +ℤ y *ℤ y) -ℤ pos 0 ≡ (neg_ℤ y *ℤ neg_ℤ y +ℤ x *ℤ x) -ℤ pos 0
    plain x y = read (x ∷ y ∷ []) (λ xs a b. simp (a, b, polys, lits xs) (den-ring xs _ _ tt))

decided_first : (points : List PlanePoint) (a : RectangleAnswer) → PassesRectangle points a → (v : PlanePoint) → pos 0 ≤ℤ v.x → pos 0 ≤ℤ v.y → Decided points a v
decided_first points a h v right up some =
    by_lt_z (pos 0) v.x
    (λ ahead. wider_or_in_turn points a h v (record { right = ahead; up = up }))
    (λ behind. upright (none right behind))
  where
    none : {z : ℤ} → pos 0 ≤ℤ z → z ≤ℤ pos 0 → z ≡ pos 0
    none h k = omega (arith, ints)

    zero_least : pos 0 ≤ℤ pos 0
    zero_least = omega (arith, ints)

    above : (x y : ℤ) → x ≡ pos 0 → pos 0 ≤ℤ y → pos 0 <ℤ (x *ℤ x +ℤ y *ℤ y) → pos 0 <ℤ y
    above x y e h k = by_lt_z (pos 0) y (λ l. l) (λ m. absurd (nothing (subst (λ u. pos 0 <ℤ (u *ℤ u +ℤ y *ℤ y)) e k) (none h m)))
      where
        nothing : pos 0 <ℤ (pos 0 *ℤ pos 0 +ℤ y *ℤ y) → y ≡ pos 0 → ⊥
        nothing k e = zeros (subst (λ u. pos 0 <ℤ (pos 0 *ℤ pos 0 +ℤ u *ℤ u)) e k)
          where
            zeros : pos 0 <ℤ (pos 0 *ℤ pos 0 +ℤ pos 0 *ℤ pos 0) → ⊥
            zeros h = omega (arith, ints)

    -- the direction to the right, turned
    level : PlanePoint
    level = record { x = v.y; y = pos 0 }

    upright : v.x ≡ pos 0 → IsWider points a.size v ⊎ IsInQuarterTurn a.direction
    upright e = elim (wider_or_in_turn points a h level (record { right = above v.x v.y e up some; up = zero_least })) [
      | inl w ↦ inl (subst (IsWider points a.size) (λ i. record { x = sym e i; y = v.y }) (turned points a.size level w))
      | inr u ↦ inr u
    ]

-- the answer's direction is in the quarter turn
in_turn : (points : List PlanePoint) (a : RectangleAnswer) → PassesRectangle points a → IsInQuarterTurn a.direction
in_turn points a h = elim (up_to_quarter_turns (Decided points a) (decided_turned points a) (decided_first points a h) a.direction (long a.direction h.normal)) [
  | inl w ↦ absurd (own_is_not points a h w)
  | inr u ↦ u
]
  where
    long : (u : PlanePoint) → (u ≡ origin → ⊥) → pos 0 <ℤ squared_length u
    long u n = by_lt_z (pos 0) (squared_length u) (λ l. l) (λ m. absurd (n (λ i. record { x = flat_x u.x u.y m i; y = flat_y u.x u.y m i })))
      where
        flat_x : (x y : ℤ) → (x *ℤ x +ℤ y *ℤ y) ≤ℤ pos 0 → x ≡ pos 0
        flat_x x y m = zero_of_square x (first_of (x *ℤ x) (y *ℤ y) (square_nonneg y) m)
          where
            first_of : (p q : ℤ) → pos 0 ≤ℤ q → (p +ℤ q) ≤ℤ pos 0 → p ≤ℤ pos 0
            first_of p q h k = omega (arith, ints)

        flat_y : (x y : ℤ) → (x *ℤ x +ℤ y *ℤ y) ≤ℤ pos 0 → y ≡ pos 0
        flat_y x y m = zero_of_square y (second_of (x *ℤ x) (y *ℤ y) (square_nonneg x) m)
          where
            second_of : (p q : ℤ) → pos 0 ≤ℤ p → (p +ℤ q) ≤ℤ pos 0 → q ≤ℤ pos 0
            second_of p q h k = omega (arith, ints)

-- a rectangle that passes is the first of those of least area
pub rectangle_first_law : PassingRectanglesAreFirst
rectangle_first_law points a h = record {
  best = (rectangle_law points a h).smallest;
  in_turn = in_turn points a h;
  lowest = h.first.2.reduced.lowest;
  first = none_before points a h;
  tight_along = h.tight_along;
  tight_across = h.tight_across;
  over_one = refl;
}
