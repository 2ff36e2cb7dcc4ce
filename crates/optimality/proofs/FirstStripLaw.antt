-- A strip that passes is the first of the thinnest around its points.
use Rattle.std.proofs.Common.{◌≡◌, refl, sym, subst, inl, inr, ℕ, zero, suc, ◌+◌, ◌-◌, ◌<◌, ◌≤◌, ℤ, pos, ◌+ℤ◌, ◌-ℤ◌, ◌*ℤ◌, neg_ℤ, ◌≤ℤ◌, ◌<ℤ◌, List, [], ◌∷◌, length, arith}
use Rattle.std.specs.Prelude.{slice_index_or}
use Rattle.std.proofs.lemmas.Int.{ints, by_lt_z}
use Rattle.std.specs.Int.Signed.{≤ℤ_refl}
use Rattle.integers.proofs.Identities.{den-ring, read, polys, lits}
use Rattle.integers.proofs.Order.{le_from_lt, positive_from_one, nonneg_from_one, positive_difference, lt_by}
use Rattle.bounds_model.specs.Plane.{PlanePoint, point_at, vector, dot, cross, squared_length}
use Rattle.bounds_model.specs.Fractions.{Fraction}
use Rattle.bounds_model.specs.Best.{IsSmallest}
use Rattle.bounds_model.specs.Strip.{Strip, FitsStrip, strip_size, extent}
use Rattle.bounds_model.specs.Fans.{half_directions, reach, IsFirstAt, east}
use Rattle.bounds_model.specs.StripAnswer.{StripAnswer, strip_of, IsThicker, PassesStrip}
use Rattle.bounds_model.specs.Firsts.{IsInHalfTurn}
use Rattle.model_laws.proofs.SizeDenominators.{strip_denominator}
use Rattle.model_laws.proofs.Reaches.{reach_nonneg, no_cone}
use Rattle.optimality.specs.Laws.{PassingStripsAreFirst}
use Rattle.optimality.proofs.FanCones.{IsBetween, opposite, length-directions}
use Rattle.optimality.proofs.FirstCones.{ConeBefore, cone_before, right_of_same, same_way_back, ahead_back, turned_side, turned_side_back}
use Rattle.optimality.proofs.Reaches.{dot_between, product_between_above, reach-opposite, reach_in_span, extents_above}
use Rattle.optimality.proofs.FirstSizes.{no_best_above, not_above_itself}
use Rattle.optimality.proofs.StripLaw.{strip_law, strip_fits}

-- two points reach farther along u than the size asks of a strip with this normal
record IsWider (points : List PlanePoint) (size : Fraction) (u : PlanePoint) : Type 0 where
  high : ℕ
  low : ℕ
  in_high : high < length points
  in_low : low < length points
  forward : pos 0 ≤ℤ reach points u high low
  wide : (size.n *ℤ squared_length u) <ℤ (reach points u high low *ℤ reach points u high low *ℤ size.d)

-- the first number whose direction reaches the size, with what is known of it
abbrev IsFirstNumber : List PlanePoint → StripAnswer → ℕ → Type 0
IsFirstNumber points a i = IsFirstAt (half_directions a.fan) (IsThicker points a.size) a.fan.cones a.direction i

-- so they do along a direction in a cone before the first that reaches the size, but at the end of that cone
wider_in_cone : (points : List PlanePoint) (a : StripAnswer) → PassesStrip points a → (i n : ℕ) → i < length a.fan.cones → IsFirstNumber points a i → n ≤ i → (v : PlanePoint) → ConeBefore (half_directions a.fan) n v → IsWider points a.size v
wider_in_cone points a h i n listed first few v c =
    let j = c.number in
    let earlier : j < i = omega (arith, c.below, few) in
    let in_fan : j < length a.fan.cones = omega (arith, earlier, listed) in
    let cone = slice_index_or a.fan.cones j no_cone in
    let d = point_at (half_directions a.fan) j in
    let e = point_at (half_directions a.fan) (j + 1) in
    let names = h.fan.numbers j no_cone in_fan in
    let extreme = h.fan.extremes j no_cone in_fan in
    let thin = h.not_thinner j no_cone in_fan in
    let across = vector (point_at points cone.low) (point_at points cone.high) in
    let at_d = reach_nonneg points d cone.high cone.low names.1 extreme.0 in
    let at_e = reach_nonneg points e cone.high cone.low names.1 extreme.1 in
    let before_last : j < length (half_directions a.fan) - 1 = inner in_fan (length-directions (λ cone. cone.direction) a.fan.cones a.fan.last) in
    let between : IsBetween d e v = record { turns = h.fan.directions.turns j before_last; left = c.left; right = le_from_lt c.right } in
    record {
      high = cone.high;
      low = cone.low;
      in_high = names.0;
      in_low = names.1;
      forward = dot_between d e v across between at_d at_e;
      wide = product_between_above a.size.n a.size.d d e v across across h.ranges.size.lowest.not_negative.numerator (nonneg_from_one h.ranges.size.lowest.not_negative.denominator) between c.right at_d at_d at_e at_e (first.before j no_cone in_fan earlier) thin.1;
    }
  where
    inner : {j m n : ℕ} → j < m → n ≡ suc m → j < n - 1
    inner h e = omega arith

-- along the opposite direction the same two points reach as far
turned_back : (points : List PlanePoint) (size : Fraction) (u : PlanePoint) → IsWider points size (opposite u) → IsWider points size u
turned_back points size u w = record {
  high = w.low;
  low = w.high;
  in_high = w.in_low;
  in_low = w.in_high;
  forward = subst (λ r. pos 0 ≤ℤ r) (reach-opposite points u w.high w.low) w.forward;
  wide = subst (λ r. (size.n *ℤ squared_length u) <ℤ (r *ℤ r *ℤ size.d)) (reach-opposite points u w.high w.low) (same_length size.n u.x u.y _ w.wide);
}
  where
    same_length : (N x y r : ℤ) → (N *ℤ (neg_ℤ x *ℤ neg_ℤ x +ℤ neg_ℤ y *ℤ neg_ℤ y)) <ℤ r → (N *ℤ (x *ℤ x +ℤ y *ℤ y)) <ℤ r
    same_length N x y r h = lt_by (positive_difference h) (read (N ∷ x ∷ y ∷ r ∷ []) (λ xs a b c d. simp (a, b, c, d, polys) (den-ring xs _ _ tt)))

-- a strip that fits with such a normal is thicker than the size
thicker : (points : List PlanePoint) (a : StripAnswer) → PassesStrip points a → (other : Strip) → FitsStrip points other → IsWider points a.size other.normal → (a.size.n *ℤ (strip_size other).d) <ℤ ((strip_size other).n *ℤ a.size.d)
thicker points a h other fits w =
    let within = reach_in_span points other.w other.normal other.bounds fits.inside w.high w.low w.in_high w.in_low in
    extents_above a.size.n a.size.d (squared_length other.normal) (reach points other.normal w.high w.low) (reach points other.normal w.high w.low) (extent other.bounds) (extent other.bounds) other.w (nonneg_from_one h.ranges.size.lowest.not_negative.denominator) (positive_from_one fits.denominator) w.forward w.forward within within w.wide

-- so no best strip has such a normal
none_best : (points : List PlanePoint) (a : StripAnswer) → PassesStrip points a → (other : Strip) → IsSmallest (FitsStrip points) strip_size other → IsWider points a.size other.normal → ⊥
none_best points a h other best w =
    no_best_above a.size (strip_size (strip_of a)) (strip_size other) (positive_from_one h.ranges.size.lowest.not_negative.denominator) (strip_denominator points (strip_of a) (strip_fits points a h)) h.size (best.smallest (strip_of a) (strip_fits points a h)) (thicker points a h other best.fits w)

-- nor has the answer's own strip
own_is_not : (points : List PlanePoint) (a : StripAnswer) → PassesStrip points a → IsWider points a.size a.direction → ⊥
own_is_not points a h w = not_above_itself a.size (strip_size (strip_of a)) h.size (thicker points a h (strip_of a) (strip_fits points a h) w)

-- what does not point down is not to the right of the fan's first direction
not_right_of_first : (points : List PlanePoint) (a : StripAnswer) → PassesStrip points a → (v : PlanePoint) → pos 0 ≤ℤ v.y → pos 0 ≤ℤ cross (point_at (half_directions a.fan) 0) v
not_right_of_first points a h v up = subst (λ d. pos 0 ≤ℤ cross d v) (sym h.fan.directions.begins) (plain v.x v.y up)
  where
    plain : (x y : ℤ) → pos 0 ≤ℤ y → pos 0 ≤ℤ (pos 1 *ℤ y -ℤ pos 0 *ℤ x)
    plain x y h = omega (arith, ints)

-- a direction in the half turn does not point down
not_down : (v : PlanePoint) → IsInHalfTurn v → pos 0 ≤ℤ v.y
not_down v h = elim h [ inl up ↦ le_from_lt up | inr level ↦ subst (λ z. pos 0 ≤ℤ z) (sym level.0) (≤ℤ_refl (pos 0)) ]

-- no best strip's normal comes before the answer's
none_before : (points : List PlanePoint) (a : StripAnswer) → PassesStrip points a → (other : Strip) → IsSmallest (FitsStrip points) strip_size other → IsInHalfTurn other.normal → pos 0 ≤ℤ cross a.direction other.normal
none_before points a h other best inside =
    by_lt_z (cross a.direction other.normal) (pos 0)
    (λ before.
    let i = h.first.0 in
    let at = h.first.2 in
    let right = right_of_same (point_at (half_directions a.fan) i) a.direction other.normal at.reduced.parallel at.reduced.ahead before in
    absurd (none_best points a h other best
    (wider_in_cone points a h i i h.first.1 at (same i) other.normal (cone_before (half_directions a.fan) other.normal i (not_right_of_first points a h other.normal (not_down other.normal inside)) right))))
    (λ after. after)
  where
    same : (n : ℕ) → n ≤ n
    same n = omega arith

-- what points the same way as the east is in the half turn
along_east : (u : PlanePoint) → cross east u ≡ pos 0 → pos 0 <ℤ dot east u → IsInHalfTurn u
along_east u level right = inr (plain_y u.x u.y level, plain_x u.x u.y right)
  where
    plain_y : (x y : ℤ) → pos 1 *ℤ y -ℤ pos 0 *ℤ x ≡ pos 0 → y ≡ pos 0
    plain_y x y e = omega (arith, ints)

    plain_x : (x y : ℤ) → pos 0 <ℤ (pos 1 *ℤ x +ℤ pos 0 *ℤ y) → pos 0 <ℤ x
    plain_x x y h = omega (arith, ints)

-- where the opposite of the answer's direction does not point down, the direction is the fan's first: else the opposite one would come before it
not_opposite : (points : List PlanePoint) (a : StripAnswer) → PassesStrip points a → pos 0 ≤ℤ neg_ℤ a.direction.y → IsInHalfTurn a.direction
not_opposite points a h up = by_number h.first.0 h.first.1 h.first.2
  where
    ds : List PlanePoint
    ds = half_directions a.fan

    inner : {i n m : ℕ} → suc i < n → m ≡ suc n → i < m - 1
    inner h e = omega arith

    one_up : (i : ℕ) → i + 1 ≡ suc i
    one_up i = omega arith

    fewer : (i : ℕ) → i ≤ suc i
    fewer i = omega arith

    other_side : (d u : PlanePoint) → pos 0 <ℤ cross d u → cross d (opposite u) <ℤ pos 0
    other_side d u h = lt_by h (plain d.x d.y u.x u.y)
      where
        plain : (dx dy ux uy : ℤ) → pos 0 -ℤ (dx *ℤ neg_ℤ uy -ℤ dy *ℤ neg_ℤ ux) ≡ dx *ℤ uy -ℤ dy *ℤ ux
        plain dx dy ux uy = read (dx ∷ dy ∷ ux ∷ uy ∷ []) (λ xs a b c d. simp (a, b, c, d, polys, lits xs) (den-ring xs _ _ tt))

    by_number : (i : ℕ) → i < length a.fan.cones → IsFirstNumber points a i → IsInHalfTurn a.direction
    by_number zero listed at =
        along_east a.direction (subst (λ d. cross d a.direction ≡ pos 0) h.fan.directions.begins at.reduced.parallel) (subst (λ d. pos 0 <ℤ dot d a.direction) h.fan.directions.begins at.reduced.ahead)
    by_number (suc i) listed at =
        let d = point_at ds (suc i) in
        let e = point_at ds i in
        let turns : pos 0 <ℤ cross e d = subst (λ k. pos 0 <ℤ cross e (point_at ds k)) (one_up i) (h.fan.directions.turns i (inner listed (length-directions (λ cone. cone.direction) a.fan.cones a.fan.last))) in
        let left : pos 0 <ℤ cross e a.direction = turned_side a.direction e (right_of_same a.direction d e (same_way_back d a.direction at.reduced.parallel) (ahead_back d a.direction at.reduced.ahead) (turned_side_back e d turns)) in
        absurd (own_is_not points a h (turned_back points a.size a.direction
        (wider_in_cone points a h (suc i) i listed at (fewer i) (opposite a.direction) (cone_before ds (opposite a.direction) i (not_right_of_first points a h (opposite a.direction) up) (other_side e a.direction left)))))

-- the answer's direction is in the half turn
in_turn : (points : List PlanePoint) (a : StripAnswer) → PassesStrip points a → IsInHalfTurn a.direction
in_turn points a h = by_lt_z (pos 0) a.direction.y (λ up. inl up) (λ down. not_opposite points a h (negative down))
  where
    negative : {z : ℤ} → z ≤ℤ pos 0 → pos 0 ≤ℤ neg_ℤ z
    negative h = omega (arith, ints)

-- a strip that passes is the first of the thinnest
pub strip_first_law : PassingStripsAreFirst
strip_first_law points a h = record {
  best = (strip_law points a h).smallest;
  in_turn = in_turn points a h;
  lowest = h.first.2.reduced.lowest;
  first = none_before points a h;
  tight = h.tight;
  over_one = refl;
}
