-- A parallelogram that passes has the least area around its points.
use Rattle.std.proofs.Common.{◌≡◌, sym, ap, subst, ℕ, suc, ◌+◌, ◌<◌, ◌≤◌, ℤ, pos, nat_abs, ◌+ℤ◌, ◌-ℤ◌, ◌*ℤ◌, neg_ℤ, ◌≤ℤ◌, List, [], ◌∷◌, length, arith}
use Rattle.std.specs.Prelude.{slice_index_or, slice_get, IsSomeAnd}
use Rattle.std.proofs.lemmas.Int.{by_lt_z}
use Rattle.std.specs.Int.Signed.{≤ℤ_refl}
use Rattle.std.proofs.lemmas.Option.{slice_get-get_or}
use Rattle.integers.proofs.Identities.{den-ring, read, polys}
use Rattle.integers.proofs.Order.{nonneg_mul, nonneg_add, positive_from_one, le_by, le_of_mul_le, nonneg_difference, combine2, nonneg_from_one, le_from_lt, nonneg_neg}
use Rattle.integers.proofs.Magnitudes.{by_magnitude}
use Rattle.bounds_model.specs.Plane.{PlanePoint, origin, point_at, vector, dot, cross}
use Rattle.bounds_model.specs.Fractions.{IsAtMost}
use Rattle.bounds_model.specs.Strip.{extent}
use Rattle.bounds_model.specs.Parallelogram.{Parallelogram, FitsParallelogram, parallelogram_size}
use Rattle.bounds_model.specs.Fans.{HalfCone, half_directions, reach}
use Rattle.bounds_model.specs.ParallelogramAnswer.{Chord, ParallelogramAnswer, parallelogram_of, PassesParallelogram, IsAcross, IsNotSmaller, IsNotSmallerAt}
use Rattle.model_laws.proofs.SizeDenominators.{parallelogram_denominator}
use Rattle.model_laws.proofs.Reaches.{reach_nonneg, no_cone}
use Rattle.optimality.specs.Laws.{PassingParallelogramsAreBest}
use Rattle.optimality.proofs.PrintedSizes.{smallest_by_printed}
use Rattle.optimality.proofs.FanCones.{IsBetween, half_cone_around, length-directions, up_to_sign, opposite}
use Rattle.optimality.proofs.Reaches.{dot_between, reach-opposite, reach_in_span, span_in_order, inside_over_one}

-- ---- a strip that holds a chord

-- w times, the points reach at most E along v: they lie in a strip with this normal and extent
abbrev IsNarrow : List PlanePoint → ℤ → ℤ → PlanePoint → Type 0
IsNarrow points w E v = (high low : ℕ) → high < length points → low < length points → (w *ℤ reach points v high low) ≤ℤ E

-- and so they do along the opposite normal
narrow_back : (points : List PlanePoint) (w E : ℤ) (v : PlanePoint) → IsNarrow points w E v → IsNarrow points w E (opposite v)
narrow_back points w E v h high low named_high named_low = subst (λ r. (w *ℤ r) ≤ℤ E) (sym (reach-opposite points v high low)) (h low high named_low named_high)

-- the strip is at least as wide as the chord's product with its normal: b and g are the weights of p and q, and the chord is k times d turned
chord_product : (w E vx vy dx dy b g k px py qx qy : ℤ) → pos 0 ≤ℤ b → pos 0 ≤ℤ g
    → b *ℤ px +ℤ g *ℤ qx ≡ k *ℤ neg_ℤ dy → b *ℤ py +ℤ g *ℤ qy ≡ k *ℤ dx
    → (w *ℤ (vx *ℤ px +ℤ vy *ℤ py)) ≤ℤ E → (w *ℤ (vx *ℤ qx +ℤ vy *ℤ qy)) ≤ℤ E
    → (w *ℤ (k *ℤ (dx *ℤ vy -ℤ dy *ℤ vx))) ≤ℤ ((b +ℤ g) *ℤ E)
chord_product w E vx vy dx dy b g k px py qx qy pb pg ex ey h l =
    le_by (nonneg_add (nonneg_mul pb (nonneg_difference h)) (nonneg_mul pg (nonneg_difference l)))
    (combine2 (w *ℤ vx) (w *ℤ vy) ex ey (read (w ∷ E ∷ vx ∷ vy ∷ dx ∷ dy ∷ b ∷ g ∷ k ∷ px ∷ py ∷ qx ∷ qy ∷ []) (λ xs a b c d e f g h i j k l m. simp (a, b, c, d, e, f, g, h, i, j, k, l, m, polys) (den-ring xs _ _ tt))))

-- the same for a chord between points of the list
chord_in_strip : (points : List PlanePoint) (w E : ℤ) (v d : PlanePoint) (chord : Chord) → pos 0 ≤ℤ chord.beta → pos 0 ≤ℤ chord.gamma → chord.a < length points → chord.b < length points → chord.c < length points → IsAcross points d chord → IsNarrow points w E v
    → (w *ℤ (chord.k *ℤ cross d v)) ≤ℤ ((chord.beta +ℤ chord.gamma) *ℤ E)
chord_in_strip points w E v d chord pb pg named_a named_b named_c across narrow =
    let a = point_at points chord.a in
    let b = point_at points chord.b in
    let c = point_at points chord.c in
    chord_product w E v.x v.y d.x d.y chord.beta chord.gamma chord.k (b.x -ℤ a.x) (b.y -ℤ a.y) (c.x -ℤ a.x) (c.y -ℤ a.y) pb pg (ap (λ z. z.x) across) (ap (λ z. z.y) across) (narrow chord.b chord.a named_b named_a) (narrow chord.c chord.a named_c named_a)

-- with a chord of length K/s, where the reach r along its direction times the length is at least N/D: r times the extent E is at least N/D times x, the cross product of the direction and the strip's normal
at_direction : (N D E w s r K x : ℤ) → pos 0 ≤ℤ N → pos 0 ≤ℤ D → pos 0 ≤ℤ E → pos 0 ≤ℤ w → pos 1 ≤ℤ s → pos 0 ≤ℤ r
    → (w *ℤ (K *ℤ x)) ≤ℤ (s *ℤ E) → (N *ℤ s) ≤ℤ (r *ℤ K *ℤ D) → (N *ℤ w *ℤ x) ≤ℤ (r *ℤ D *ℤ E)
at_direction N D E w s r K x pN pD pE pw ps pr h l =
    by_lt_z x (pos 0)
    (λ below. le_by (nonneg_add (nonneg_mul (nonneg_mul pr pD) pE) (nonneg_mul (nonneg_mul pN pw) (nonneg_neg (le_from_lt below)))) (read (N ∷ D ∷ E ∷ w ∷ r ∷ x ∷ []) (λ xs a b c d e f. simp (a, b, c, d, e, f, polys) (den-ring xs _ _ tt))))
    (λ above. le_of_mul_le s (positive_from_one ps) (le_by (nonneg_add (nonneg_mul (nonneg_mul pr pD) (nonneg_difference h)) (nonneg_mul (nonneg_mul pw above) (nonneg_difference l))) (read (N ∷ D ∷ E ∷ w ∷ s ∷ r ∷ K ∷ x ∷ []) (λ xs a b c d e f g h. simp (a, b, c, d, e, f, g, h, polys) (den-ring xs _ _ tt)))))

-- ---- at the ends of a cone, and between them

-- what holds of what is there holds of the read
some_at : {X : Type 0} (P : X → Type 0) (xs : List X) (i : ℕ) (d : X) → i < length xs → IsSomeAnd (slice_get xs i) P → P (slice_index_or xs i d)
some_at P xs i d l h = subst (λ o. IsSomeAnd o P) (slice_get-get_or xs i d l) h

-- any chord, for reading past the end of a list
no_chord : Chord
no_chord = record { a = 0; b = 0; c = 0; beta = pos 0; gamma = pos 0; k = pos 0 }

-- the reach along d of a cone's points, times the extent E of a strip with the normal v, is at least N/D times the cross product of d and v
abbrev IsLarge : List PlanePoint → ParallelogramAnswer → ℤ → ℤ → PlanePoint → HalfCone → PlanePoint → Type 0
IsLarge points a w E v cone d = (a.size.n *ℤ w *ℤ cross d v) ≤ℤ (reach points d cone.high cone.low *ℤ a.size.d *ℤ E)

-- it is so at each direction of the fan, by its chord
at_end : (points : List PlanePoint) (a : ParallelogramAnswer) → PassesParallelogram points a → (w E : ℤ) (v : PlanePoint) → pos 0 ≤ℤ w → pos 0 ≤ℤ E → IsNarrow points w E v
    → (i : ℕ) (cone : HalfCone) → i < length a.chords → pos 0 ≤ℤ reach points (point_at (half_directions a.fan) i) cone.high cone.low → IsNotSmallerAt points a i cone
    → IsLarge points a w E v cone (point_at (half_directions a.fan) i)
at_end points a h w E v pw pE narrow i cone listed forward small =
    let d = point_at (half_directions a.fan) i in
    let chord = slice_index_or a.chords i no_chord in
    let names = h.chord_numbers i no_chord listed in
    let placed = h.ranges.chords i no_chord listed in
    let size = h.ranges.size.lowest.not_negative in
    let in_strip = λ (u : PlanePoint) (n : IsNarrow points w E u). chord_in_strip points w E u d chord placed.beta.low placed.gamma.low names.0 names.1 names.2 (h.across i no_chord listed) n in
    at_direction a.size.n a.size.d E w (chord.beta +ℤ chord.gamma) (reach points d cone.high cone.low) (pos (nat_abs chord.k)) (cross d v) size.numerator (nonneg_from_one size.denominator) pE pw (h.short_chords i no_chord listed).some forward
    (by_magnitude chord.k (λ K. (w *ℤ (K *ℤ cross d v)) ≤ℤ ((chord.beta +ℤ chord.gamma) *ℤ E)) (in_strip v narrow) (other_way w chord.k d.x d.y v.x v.y _ (in_strip (opposite v) (narrow_back points w E v narrow))))
    (some_at (IsNotSmaller points a.size d cone) a.chords i no_chord listed small)
  where
    other_way : (w k dx dy vx vy B : ℤ) → (w *ℤ (k *ℤ (dx *ℤ neg_ℤ vy -ℤ dy *ℤ neg_ℤ vx))) ≤ℤ B → (w *ℤ (neg_ℤ k *ℤ (dx *ℤ vy -ℤ dy *ℤ vx))) ≤ℤ B
    other_way w k dx dy vx vy B h = le_by (nonneg_difference h) (read (w ∷ k ∷ dx ∷ dy ∷ vx ∷ vy ∷ B ∷ []) (λ xs a b c d e f g. simp (a, b, c, d, e, f, g, polys) (den-ring xs _ _ tt)))

-- the difference of the two sides is linear in d: the product of d with this vector
abbrev surplus : ℤ → ℤ → ℤ → ℤ → PlanePoint → PlanePoint → PlanePoint
surplus N D E w h v = record { x = D *ℤ E *ℤ h.x -ℤ N *ℤ w *ℤ v.y; y = D *ℤ E *ℤ h.y +ℤ N *ℤ w *ℤ v.x }

-- it is the difference
surplus-dot : (N D E w : ℤ) (h v d : PlanePoint) → dot d h *ℤ D *ℤ E -ℤ N *ℤ w *ℤ cross d v ≡ dot d (surplus N D E w h v)
surplus-dot N D E w h v d = plain N D E w h.x h.y v.x v.y d.x d.y
  where
    plain : (N D E w hx hy vx vy dx dy : ℤ) → (dx *ℤ hx +ℤ dy *ℤ hy) *ℤ D *ℤ E -ℤ N *ℤ w *ℤ (dx *ℤ vy -ℤ dy *ℤ vx) ≡ dx *ℤ (D *ℤ E *ℤ hx -ℤ N *ℤ w *ℤ vy) +ℤ dy *ℤ (D *ℤ E *ℤ hy +ℤ N *ℤ w *ℤ vx)
    plain N D E w hx hy vx vy dx dy = read (N ∷ D ∷ E ∷ w ∷ hx ∷ hy ∷ vx ∷ vy ∷ dx ∷ dy ∷ []) (λ xs a b c d e f g h i j. simp (a, b, c, d, e, f, g, h, i, j, polys) (den-ring xs _ _ tt))

-- so it is so between two directions
between_ends : (points : List PlanePoint) (a : ParallelogramAnswer) (w E : ℤ) (v : PlanePoint) (cone : HalfCone) (d e u : PlanePoint) → IsBetween d e u → IsLarge points a w E v cone d → IsLarge points a w E v cone e → IsLarge points a w E v cone u
between_ends points a w E v cone d e u between at_d at_e =
    let h = vector (point_at points cone.low) (point_at points cone.high) in
    let by_dot = surplus-dot a.size.n a.size.d E w h v in
    le_by (dot_between d e u (surplus a.size.n a.size.d E w h v) between (subst (λ z. pos 0 ≤ℤ z) (by_dot d) (nonneg_difference at_d)) (subst (λ z. pos 0 ≤ℤ z) (by_dot e) (nonneg_difference at_e))) (by_dot u)

-- ---- every pair of normals

-- with the extent F of a strip with normal u instead of its reach
with_extent : (N D E F w r x : ℤ) → pos 0 ≤ℤ D → pos 0 ≤ℤ E → pos 0 ≤ℤ w → (N *ℤ w *ℤ x) ≤ℤ (r *ℤ D *ℤ E) → (w *ℤ r) ≤ℤ F → (N *ℤ (w *ℤ w *ℤ x)) ≤ℤ (F *ℤ E *ℤ D)
with_extent N D E F w r x pD pE pw h k =
    le_by (nonneg_add (nonneg_mul pw (nonneg_difference h)) (nonneg_mul (nonneg_mul pD pE) (nonneg_difference k)))
    (read (N ∷ D ∷ E ∷ F ∷ w ∷ r ∷ x ∷ []) (λ xs a b c d e f g. simp (a, b, c, d, e, f, g, polys) (den-ring xs _ _ tt)))

-- two strips around the points, with the extents F along u and E along every v, have an intersection of at least the area N/D
abbrev EachIsLarge : List PlanePoint → ParallelogramAnswer → ℤ → ℤ → ℤ → PlanePoint → Type 0
EachIsLarge points a w F E u = (v : PlanePoint) → IsNarrow points w F u → IsNarrow points w E v → (a.size.n *ℤ (w *ℤ w *ℤ cross u v)) ≤ℤ (F *ℤ E *ℤ a.size.d)

-- it is so for a first normal that does not point down, by the cone that it lies in
upper_is_large : (points : List PlanePoint) (a : ParallelogramAnswer) → PassesParallelogram points a → (w F E : ℤ) → pos 0 ≤ℤ w → pos 0 ≤ℤ E → (u : PlanePoint) → pos 0 ≤ℤ u.y → EachIsLarge points a w F E u
upper_is_large points a h w F E pw pE u up v narrow_u narrow_v =
    let around = half_cone_around points a.fan h.ranges.fan.count.at_least h.fan u up in
    let i = around.number in
    let cone = slice_index_or a.fan.cones i no_cone in
    let d = point_at (half_directions a.fan) i in
    let e = point_at (half_directions a.fan) (i + 1) in
    let names = h.fan.numbers i no_cone around.listed in
    let extreme = h.fan.extremes i no_cone around.listed in
    let small = h.not_smaller i no_cone around.listed in
    let many = length-directions (λ (cone : HalfCone). cone.direction) a.fan.cones a.fan.last in
    let chords = chord_of_both i around.listed h.ranges.chord_for_each many in
    let at_d = at_end points a h w E v pw pE narrow_v i cone chords.0 (reach_nonneg points d cone.high cone.low names.1 extreme.0) small.0 in
    let at_e = at_end points a h w E v pw pE narrow_v (i + 1) cone chords.1 (reach_nonneg points e cone.high cone.low names.1 extreme.1) small.1 in
    with_extent a.size.n a.size.d E F w (reach points u cone.high cone.low) (cross u v) (nonneg_from_one h.ranges.size.lowest.not_negative.denominator) pE pw
    (between_ends points a w E v cone d e u around.between at_d at_e)
    (narrow_u cone.high cone.low names.0 names.1)
  where
    chord_of_both : (i : ℕ) {m : ℕ} → i < length a.fan.cones → length a.chords ≡ m → m ≡ suc (length a.fan.cones) → (i < length a.chords) × (i + 1 < length a.chords)
    chord_of_both i l c m = (omega arith, omega arith)

-- with both normals turned to their opposites
both_opposite : (points : List PlanePoint) (a : ParallelogramAnswer) (w F E : ℤ) (u : PlanePoint) → EachIsLarge points a w F E (opposite u) → EachIsLarge points a w F E u
both_opposite points a w F E u h v narrow_u narrow_v = plain a.size.n w u.x u.y v.x v.y _ (h (opposite v) (narrow_back points w F u narrow_u) (narrow_back points w E v narrow_v))
  where
    plain : (N w ux uy vx vy B : ℤ) → (N *ℤ (w *ℤ w *ℤ (neg_ℤ ux *ℤ neg_ℤ vy -ℤ neg_ℤ uy *ℤ neg_ℤ vx))) ≤ℤ B → (N *ℤ (w *ℤ w *ℤ (ux *ℤ vy -ℤ uy *ℤ vx))) ≤ℤ B
    plain N w ux uy vx vy B h = le_by (nonneg_difference h) (read (N ∷ w ∷ ux ∷ uy ∷ vx ∷ vy ∷ B ∷ []) (λ xs a b c d e f g. simp (a, b, c, d, e, f, g, polys) (den-ring xs _ _ tt)))

-- and so for every pair of normals
each_is_large : (points : List PlanePoint) (a : ParallelogramAnswer) → PassesParallelogram points a → (w F E : ℤ) → pos 0 ≤ℤ w → pos 0 ≤ℤ E → (u : PlanePoint) → EachIsLarge points a w F E u
each_is_large points a h w F E pw pE u = up_to_sign (EachIsLarge points a w F E) (both_opposite points a w F E) (upper_is_large points a h w F E pw pE) u

-- no parallelogram that fits is smaller than the size
none_smaller : (points : List PlanePoint) (a : ParallelogramAnswer) → PassesParallelogram points a → (other : Parallelogram) → FitsParallelogram points other → IsAtMost a.size (parallelogram_size other)
none_smaller points a h other fits =
    let u = other.first in
    let v = other.second in
    let w = other.w in
    let E = extent other.second_bounds in
    let narrow_u = reach_in_span points w u other.first_bounds fits.inside_first in
    let narrow_v = reach_in_span points w v other.second_bounds fits.inside_second in
    let large = each_is_large points a h w (extent other.first_bounds) E (nonneg_from_one fits.denominator) (nonneg_difference fits.second_bounds) u in
    by_magnitude (cross u v) (λ z. (a.size.n *ℤ (w *ℤ w *ℤ z)) ≤ℤ (extent other.first_bounds *ℤ E *ℤ a.size.d)) (large v narrow_u narrow_v)
    (other_way a.size.n w u.x u.y v.x v.y _ (large (opposite v) narrow_u (narrow_back points w E v narrow_v)))
  where
    other_way : (N w ux uy vx vy B : ℤ) → (N *ℤ (w *ℤ w *ℤ (ux *ℤ neg_ℤ vy -ℤ uy *ℤ neg_ℤ vx))) ≤ℤ B → (N *ℤ (w *ℤ w *ℤ neg_ℤ (ux *ℤ vy -ℤ uy *ℤ vx))) ≤ℤ B
    other_way N w ux uy vx vy B h = le_by (nonneg_difference h) (read (N ∷ w ∷ ux ∷ uy ∷ vx ∷ vy ∷ B ∷ []) (λ xs a b c d e f g. simp (a, b, c, d, e, f, g, polys) (den-ring xs _ _ tt)))

-- the parallelogram of the answer fits
parallelogram_fits : (points : List PlanePoint) (a : ParallelogramAnswer) → PassesParallelogram points a → FitsParallelogram points (parallelogram_of a)
parallelogram_fits points a h =
    let cone = slice_index_or a.fan.cones 0 no_cone in
    let named = (h.fan.numbers 0 no_cone (some h.ranges.fan.count.at_least)).0 in
    record {
      normals = h.normals;
      first_bounds = span_in_order (h.inside_first cone.high origin named);
      second_bounds = span_in_order (h.inside_second cone.high origin named);
      denominator = ≤ℤ_refl (pos 1);
      inside_first = inside_over_one points a.first a.first_bounds h.inside_first;
      inside_second = inside_over_one points a.second a.second_bounds h.inside_second;
    }
  where
    some : {k : ℕ} → 1 ≤ k → 0 < k
    some h = omega arith

-- a parallelogram that passes has the least area
pub parallelogram_law : PassingParallelogramsAreBest
parallelogram_law points a h =
    smallest_by_printed (FitsParallelogram points) parallelogram_size (parallelogram_denominator points) (parallelogram_of a) a.size (parallelogram_fits points a h) (record { lowest = h.ranges.size.lowest; same = h.size }) (none_smaller points a h)
