-- What passes: a parallelogram with a chord for each direction of the fan, none of whose areas is below its size.
use Rattle.std.proofs.Common.{◌≡◌, refl, sym, ◌∙◌, ap, ap₂, subst, ℕ, ◌+◌, ◌<◌, ◌≤◌, ◌^◌, ◌⊎◌, inl, inr, ℤ, pos, nat_abs, ◌+ℤ◌, ◌-ℤ◌, ◌*ℤ◌, neg_ℤ, ◌≤ℤ◌, ◌<ℤ◌, List, [], ◌∷◌, length, map, All, arith}
use Rattle.std.specs.Prelude.{slice_index_or, slice_get, IsSomeAnd}
use Rattle.std.proofs.lemmas.Int.{ints}
use Rattle.std.proofs.lemmas.List.{length-map, get_or-map}
use Rattle.std.proofs.lemmas.Option.{slice_get-get_or, get_or_from_slice_get}
use Rattle.integers.proofs.Identities.{den-ring, read, polys}
use Rattle.integers.proofs.Order.{le_from_lt, positive_from_one}
use Rattle.integers.proofs.Fractions.{fraction_equal}
use Rattle.bounds_model.specs.Numbers.{AllNumbered}
use Rattle.bounds_model.specs.Plane.{PlanePoint, point_at, cross}
use Rattle.bounds_model.specs.Fractions.{Fraction, SameValue}
use Rattle.bounds_model.specs.Ranges.{IsFraction}
use Rattle.bounds_model.specs.Strip.{Span}
use Rattle.bounds_model.specs.Fans.{HalfFan, HalfCone, half_directions, AreExtreme, reach, IsShort}
use Rattle.bounds_model.specs.ParallelogramAnswer as answers
use Rattle.bounds_model.specs.ParallelogramAnswer.{ParallelogramAnswer, PassesParallelogram, IsNotSmaller}
use Rattle.answers.specs.declared.parallelograms.Chord.{Chord}
use Rattle.answers.specs.Answers.{chord_of}
use Rattle.parallelogram_strip.specs.FullTurn.{no_cone, cone_at}
use Rattle.parallelogram_strip.specs.PlainFan.{IsPlainFan}
use Rattle.parallelogram_strip.specs.Crossings.{reach_of, area_of, weight_of, IsChord, IsCrossing, IsServed, AreServed}
use Rattle.parallelogram_strip.specs.declared.crossing.Crossing.{Crossing}
use Rattle.parallelogram_strip.specs.Flat.{AreWide, IsFlatAt, point_chord}
use Rattle.parallelogram_strip.proofs.FullTurn.{full_turn_of, first_half, each_around, length-directions, direction_at, two_cones}
use Rattle.directions.proofs.Reaches.{reach_opposite}
use Rattle.directions.proofs.SpanBounds.{short_span, AreBounds, bounds_hold, extent_is}
use Rattle.parallelogram_strip.proofs.Extents.{reach_mixed, crossing_extent, not_along, area_same}
use Rattle.bounded_coords.proofs.Ranges.{within_more, direction_of_short}

-- ---- the chords

-- a chord of the direction of this number, with its area not below the size
pub record IsGood (points : List PlanePoint) (fan : HalfFan) (size : Fraction) (i : ℕ) (chord : answers.Chord) : Type 0 where
  pub carries : IsChord points (cone_at fan i).direction chord
  pub beta : pos 0 ≤ℤ chord.beta
  pub gamma : pos 0 ≤ℤ chord.gamma
  pub not_smaller : (size.n *ℤ (chord.beta +ℤ chord.gamma)) ≤ℤ (reach_of points (cone_at fan i).direction (cone_at fan i) *ℤ pos (nat_abs chord.k) *ℤ size.d)

-- any chord, for reading past the end of a list
no_chord : answers.Chord
no_chord = point_chord

-- a cone that is read with any default
pub cone_any : (fan : HalfFan) (i : ℕ) (d : HalfCone) → i < length fan.cones → slice_index_or fan.cones i d ≡ cone_at fan i
cone_any fan i d l = get_or_from_slice_get fan.cones i (slice_index_or fan.cones i no_cone) d (slice_get-get_or fan.cones i no_cone l) ∙ sym (first_half fan i l)

-- what holds of the element there holds of what is read
some_there : {X : Type 0} (P : X → Type 0) (xs : List X) (i : ℕ) (d : X) → i < length xs → P (slice_index_or xs i d) → IsSomeAnd (slice_get xs i) P
some_there P xs i d l h = subst (λ o. IsSomeAnd o P) (sym (slice_get-get_or xs i d l)) h

-- ---- what passes

-- a parallelogram of this size, whose strips have these bounds, with a good chord for each direction
pub answer_passes : (points : List PlanePoint) (fan : HalfFan) (size : Fraction) (u v : PlanePoint) (s t : Span) (hu lu hv lv : ℕ) (chords : List answers.Chord)
    → length points ≤ 10000 → IsPlainFan points fan → IsFraction size → length chords ≡ length fan.cones + 1 → AllNumbered (IsGood points fan size) chords
    → IsShort u → IsShort v → AreExtreme points u hu lu → AreExtreme points v hv lv → AreBounds points u hu lu s → AreBounds points v hv lv t
    → (cross u v ≡ pos 0 → ⊥) → size.n *ℤ pos (nat_abs (cross u v)) ≡ (reach points u hu lu *ℤ reach points v hv lv) *ℤ size.d
    → PassesParallelogram points (record { size = size; first = u; first_bounds = s; second = v; second_bounds = t; fan = fan; chords = chords })
answer_passes points fan size u v s t hu lu hv lv chords limited h fraction count good short_u short_v extreme_u extreme_v bounds_s bounds_t normals area =
    let turn = full_turn_of points fan h in
    let many = length-directions fan in
    record {
      ranges = record {
        size = fraction;
        first = direction_of_short u short_u;
        first_bounds = short_span s bounds_s.short;
        second = direction_of_short v short_v;
        second_bounds = short_span t bounds_t.short;
        fan = h.ranges;
        chord_for_each = omega (arith, count, many);
        chords = λ i d l. placed (slice_index_or chords i d) (good i d l);
      };
      chord_numbers = λ i d l. (good i d l).carries.names;
      short_directions = h.short;
      short_first = short_u;
      short_second = short_v;
      short_first_bounds = bounds_s.short;
      short_second_bounds = bounds_t.short;
      short_chords = λ i d l. (good i d l).carries.short;
      fan = h.holds;
      across = λ i d l. subst (λ e. answers.IsAcross points e (slice_index_or chords i d)) (sym (direction_at points fan h i (omega arith))) (good i d l).carries.across;
      not_smaller = λ i d l. (
        at_direction i i (cone_any fan i d l) (omega arith) refl,
        at_next i (cone_any fan i d l) l,
      );
      normals = normals;
      inside_first = bounds_hold points u hu lu s extreme_u bounds_s;
      inside_second = bounds_hold points v hv lv t extreme_v bounds_t;
      size = same_size;
    }
  where
    placed : {i : ℕ} (chord : answers.Chord) → IsGood points fan size i chord → answers.ChordRanges chord
    placed chord g = record {
      a = below (g.carries.names.0);
      b = below (g.carries.names.1);
      c = below (g.carries.names.2);
      beta = record { low = g.beta; high = part g.beta g.gamma g.carries.short.weights };
      gamma = record { low = g.gamma; high = other_part g.beta g.gamma g.carries.short.weights };
      k = within_more g.carries.short.k tt;
    }
      where
        below : {n : ℕ} → n < length points → n ≤ 9999
        below l = omega arith

        part : {x y : ℤ} → pos 0 ≤ℤ x → pos 0 ≤ℤ y → (x +ℤ y) ≤ℤ pos (2 ^ 39) → x ≤ℤ pos (2 ^ 126)
        part p q l = omega (arith, ints)

        other_part : {x y : ℤ} → pos 0 ≤ℤ x → pos 0 ≤ℤ y → (x +ℤ y) ≤ℤ pos (2 ^ 39) → y ≤ℤ pos (2 ^ 126)
        other_part p q l = omega (arith, ints)

    -- at the direction of this number, with a cone that reaches as far as its own
    by_reach : (i : ℕ) (cone : HalfCone) → i < length chords → reach_of points (point_at (half_directions fan) i) cone ≡ reach_of points (cone_at fan i).direction (cone_at fan i) → IsSomeAnd (slice_get chords i) (IsNotSmaller points size (point_at (half_directions fan) i) cone)
    by_reach i cone l e =
        some_there (IsNotSmaller points size (point_at (half_directions fan) i) cone) chords i no_chord l
        (subst (λ r. (size.n *ℤ ((slice_index_or chords i no_chord).beta +ℤ (slice_index_or chords i no_chord).gamma)) ≤ℤ (r *ℤ pos (nat_abs (slice_index_or chords i no_chord).k) *ℤ size.d)) (sym e) (good i no_chord l).not_smaller)

    at_direction : (i j : ℕ) {cone : HalfCone} → cone ≡ cone_at fan i → i < length chords → i ≡ j → IsSomeAnd (slice_get chords i) (IsNotSmaller points size (point_at (half_directions fan) i) cone)
    at_direction i j {cone} e l same =
        by_reach i cone l (ap₂ (λ d c. reach_of points d c) (direction_at points fan h i (omega arith)) e)

    at_next : (i : ℕ) {cone : HalfCone} → cone ≡ cone_at fan i → i < length fan.cones → IsSomeAnd (slice_get chords (i + 1)) (IsNotSmaller points size (point_at (half_directions fan) (i + 1)) cone)
    at_next i {cone} e l =
        let turn = full_turn_of points fan h in
        let n : i < length fan.cones + length fan.cones = omega arith in
        let m : i + 1 < length fan.cones + length fan.cones = omega (arith, two_cones points fan h) in
        by_reach (i + 1) cone (omega arith)
        (ap₂ (λ d c. reach_of points d c) (direction_at points fan h (i + 1) (omega arith)) e
        ∙ (reach_mixed points (cone_at fan (i + 1)).direction (cone_at fan i) (cone_at fan (i + 1)) (turn.named i n).0 (turn.named i n).1 (turn.named (i + 1) m).0 (turn.named (i + 1) m).1 (turn.ends i m) (turn.begins (i + 1) m)).0)

    same_size : size.n *ℤ (pos 1 *ℤ pos 1 *ℤ pos (nat_abs (cross u v))) ≡ ((s.high -ℤ s.low) *ℤ (t.high -ℤ t.low)) *ℤ size.d
    same_size =
        ap (λ x. size.n *ℤ x) (once (pos (nat_abs (cross u v)))) ∙ area
        ∙ ap (λ x. x *ℤ size.d) (ap₂ (λ x y. x *ℤ y) (sym (extent_is points u hu lu s bounds_s)) (sym (extent_is points v hv lv t bounds_t)))
      where
        once : (x : ℤ) → pos 1 *ℤ pos 1 *ℤ x ≡ x
        once x = omega (arith, ints)

-- ---- the answer of the best direction

-- any chord of the code, for reading past the end of a list
no_declared : Chord
no_declared = record { a = 0; b = 0; c = 0; beta = 1; gamma = 0; k = pos 0 }

-- what holds of each chord that is read holds of the list of them in the model
each_mapped : (P : ℕ → answers.Chord → Type 0) (chords : List Chord) → ((i : ℕ) → i < length chords → P i (chord_of (slice_index_or chords i no_declared))) → AllNumbered P (map chord_of chords)
each_mapped P chords h i d l =
    let n : i < length chords = subst (λ k. i < k) (length-map chords chord_of) l in
    subst (P i) (sym (get_or-map chord_of chords i no_declared d n)) (h i n)

-- a chord that serves is good, where the size is the best area
served_good : (points : List PlanePoint) (fan : HalfFan) (best : Crossing) (size : Fraction) (i : ℕ) (chord : Chord) → IsCrossing points fan best → IsFraction size → SameValue size (record { n = area_of best; d = weight_of best }) → IsServed points fan best i (chord_of chord) → IsGood points fan size i (chord_of chord)
served_good points fan best size i chord is_best fraction same h = record {
  carries = h.carries;
  beta = natural chord.beta;
  gamma = natural chord.gamma;
  not_smaller = fraction_equal (area_of best) (weight_of best) size.n size.d (reach_of points (cone_at fan i).direction (cone_at fan i) *ℤ pos (nat_abs chord.k)) (pos chord.beta +ℤ pos chord.gamma)
      (positive_from_one is_best.chord.short.some) (positive_from_one fraction.lowest.not_negative.denominator) (sym same) h.not_smaller;
}
  where
    natural : (n : ℕ) → pos 0 ≤ℤ pos n
    natural n = omega (arith, ints)

-- points that have an extent along each direction of the fan have one all around
wide_around : (points : List PlanePoint) (fan : HalfFan) → AreWide points fan → (i : ℕ) → i < length fan.cones + length fan.cones → pos 0 <ℤ reach_of points (cone_at fan i).direction (cone_at fan i)
wide_around points fan wide =
    each_around fan (λ cone. pos 0 <ℤ reach_of points cone.direction cone)
    (λ k l. subst (λ (cone : HalfCone). pos 0 <ℤ reach_of points cone.direction cone) (first_half fan k l) (wide k l))
    (λ cone h. subst (λ z. pos 0 <ℤ z) (sym (reach_opposite points cone.direction cone.high cone.low)) h)

-- the strip of the best direction, and that of the direction that the two cones at its chord share
pub best_passes : (points : List PlanePoint) (fan : HalfFan) (best : Crossing) (chords : List Chord) (size : Fraction) (s t : Span)
    → length points ≤ 10000 → IsPlainFan points fan → AreWide points fan → length chords ≡ length fan.cones + 1 → IsCrossing points fan best → AreServed points fan best chords
    → IsFraction size → SameValue size (record { n = area_of best; d = weight_of best })
    → AreBounds points (cone_at fan best.direction).direction (cone_at fan best.direction).high (cone_at fan best.direction).low s
    → AreBounds points (cone_at fan (best.near + 1)).direction (cone_at fan (best.near + 1)).high (cone_at fan (best.near + 1)).low t
    → PassesParallelogram points (record { size = size; first = (cone_at fan best.direction).direction; first_bounds = s; second = (cone_at fan (best.near + 1)).direction; second_bounds = t; fan = fan; chords = map chord_of chords })
best_passes points fan best chords size s t limited h wide count is_best served fraction same bounds_s bounds_t =
    let turn = full_turn_of points fan h in
    let j = best.direction in
    let n = best.near + 1 in
    let listed : j < length fan.cones + length fan.cones = omega (arith, is_best.listed) in
    let next : n < length fan.cones + length fan.cones = omega (arith, is_best.listed, is_best.near.before) in
    let d = (cone_at fan j).direction in
    let e = (cone_at fan n).direction in
    let forward = wide_around points fan wide n next in
    let extent = crossing_extent points fan best turn is_best (le_from_lt forward) in
    let some = positive_from_one is_best.chord.short.some in
    answer_passes points fan size d e s t (cone_at fan j).high (cone_at fan j).low (cone_at fan n).high (cone_at fan n).low (map chord_of chords)
    limited h fraction (length-map chords chord_of ∙ count)
    (each_mapped (IsGood points fan size) chords (λ i l. served_good points fan best size i (slice_index_or chords i no_declared) is_best fraction same (served i no_declared l)))
    (turn.short j listed) (turn.short n next) (turn.begins j listed) (turn.begins n next) bounds_s bounds_t
    (not_along (weight_of best) (reach_of points e (cone_at fan n)) best.chord.k (cross d e) some forward extent)
    (area_same size.n size.d (pos best.width) (reach_of points e (cone_at fan n)) (pos (nat_abs best.chord.k)) (pos (nat_abs (cross d e))) (weight_of best) some same extent
    ∙ ap (λ w. (w *ℤ reach_of points e (cone_at fan n)) *ℤ size.d) is_best.width)

-- ---- points on one line

-- a chord without length is good, where the size is 0
point_good : (points : List PlanePoint) (fan : HalfFan) (size : Fraction) (i : ℕ) → 0 < length points → size.n ≡ pos 0 → IsGood points fan size i point_chord
point_good points fan size i some none = record {
  carries = record {
    names = (some, some, some);
    short = record {
      some = omega (arith, ints);
      weights = omega (arith, ints);
      k = record { low = omega (arith, ints); high = omega (arith, ints) };
    };
    across = λ k. record { x = still (point_at points 0).x (neg_ℤ (cone_at fan i).direction.y) k; y = still (point_at points 0).y (cone_at fan i).direction.x k };
  };
  beta = omega (arith, ints);
  gamma = omega (arith, ints);
  not_smaller = subst (λ n. (n *ℤ (pos 1 +ℤ pos 0)) ≤ℤ (reach_of points (cone_at fan i).direction (cone_at fan i) *ℤ pos 0 *ℤ size.d)) (sym none) (nothing (reach_of points (cone_at fan i).direction (cone_at fan i)) size.d);
}
  where
    still : (x y : ℤ) → pos 1 *ℤ (x -ℤ x) +ℤ pos 0 *ℤ (x -ℤ x) ≡ pos 0 *ℤ y
    still x y = omega (arith, ints)

    zero_times : (r : ℤ) → r *ℤ pos 0 ≡ pos 0
    zero_times r = omega (arith, ints)

    times_zero : (r : ℤ) → pos 0 *ℤ r ≡ pos 0
    times_zero r = omega (arith, ints)

    nothing : (r d : ℤ) → (pos 0 *ℤ (pos 1 +ℤ pos 0)) ≤ℤ (r *ℤ pos 0 *ℤ d)
    nothing r d = subst (λ z. (pos 0 *ℤ (pos 1 +ℤ pos 0)) ≤ℤ z) (sym (ap (λ z. z *ℤ d) (zero_times r) ∙ times_zero d)) (omega (arith, ints))

-- of the first two directions the one that is not the given is not along the same line
other_across : (points : List PlanePoint) (fan : HalfFan) → IsPlainFan points fan → (j o : ℕ) → j < length fan.cones → ((j ≡ 0) × (o ≡ 1)) ⊎ ((0 < j) × (o ≡ 0)) → cross (cone_at fan j).direction (cone_at fan o).direction ≡ pos 0 → ⊥
other_across points fan h j o l one e =
    let turn = full_turn_of points fan h in
    let two = two_cones points fan h in
    elim one [
      | inl b ↦ above (turn.left 0 1 (omega arith) (omega arith) (omega arith)) (subst (λ i. cross (cone_at fan i).direction (cone_at fan 1).direction ≡ pos 0) b.0 (subst (λ i. cross (cone_at fan j).direction (cone_at fan i).direction ≡ pos 0) b.1 e))
      | inr b ↦ above (turn.left 0 j (omega arith) b.0 (omega arith)) (back (cone_at fan j).direction (cone_at fan 0).direction (subst (λ i. cross (cone_at fan j).direction (cone_at fan i).direction ≡ pos 0) b.1 e))
    ]
  where
    above : {z : ℤ} → pos 0 <ℤ z → z ≡ pos 0 → ⊥
    above h e = absurd (omega (arith, ints))

    back : (d e : PlanePoint) → cross d e ≡ pos 0 → cross e d ≡ pos 0
    back d e h = plain d.x d.y e.x e.y ∙ ap neg_ℤ h
      where
        plain : (dx dy ex ey : ℤ) → ex *ℤ dy -ℤ ey *ℤ dx ≡ neg_ℤ (dx *ℤ ey -ℤ dy *ℤ ex)
        plain dx dy ex ey = read (dx ∷ dy ∷ ex ∷ ey ∷ []) (λ xs a b c d. simp (a, b, c, d, polys) (den-ring xs _ _ tt))

-- the first cone's points are extreme in it
other_extreme : (points : List PlanePoint) (fan : HalfFan) → IsPlainFan points fan → (j o : ℕ) → ((j ≡ 0) × (o ≡ 1)) ⊎ ((0 < j) × (o ≡ 0)) → AreExtreme points (cone_at fan o).direction (cone_at fan 0).high (cone_at fan 0).low
other_extreme points fan h j o one =
    let turn = full_turn_of points fan h in
    let two = two_cones points fan h in
    elim one [
      | inl b ↦ subst (λ i. AreExtreme points (cone_at fan i).direction (cone_at fan 0).high (cone_at fan 0).low) (sym b.1) (turn.ends 0 (omega arith))
      | inr b ↦ subst (λ i. AreExtreme points (cone_at fan i).direction (cone_at fan 0).high (cone_at fan 0).low) (sym b.1) (turn.begins 0 (omega arith))
    ]

-- the line along which the points have no extent, and a strip along another direction
pub flat_passes : (points : List PlanePoint) (fan : HalfFan) (j o : ℕ) (chords : List Chord) (size : Fraction) (s t : Span)
    → length points ≤ 10000 → IsPlainFan points fan → IsFlatAt points fan j → ((j ≡ 0) × (o ≡ 1)) ⊎ ((0 < j) × (o ≡ 0)) → length chords ≡ length fan.cones + 1 → All (λ c. chord_of c ≡ point_chord) chords
    → IsFraction size → SameValue size (record { n = pos 0; d = pos 1 })
    → AreBounds points (cone_at fan j).direction (cone_at fan j).high (cone_at fan j).low s
    → AreBounds points (cone_at fan o).direction (cone_at fan 0).high (cone_at fan 0).low t
    → PassesParallelogram points (record { size = size; first = (cone_at fan j).direction; first_bounds = s; second = (cone_at fan o).direction; second_bounds = t; fan = fan; chords = map chord_of chords })
flat_passes points fan j o chords size s t limited h flat one count same fraction value bounds_s bounds_t =
    let turn = full_turn_of points fan h in
    let two = two_cones points fan h in
    let listed : j < length fan.cones + length fan.cones = omega (arith, flat.listed) in
    let other : o < length fan.cones + length fan.cones = elim one [ inl b ↦ omega (arith, b.1) | inr b ↦ omega (arith, b.1) ] in
    let none : size.n ≡ pos 0 = nothing size.n size.d value in
    let some : 0 < length points = above (turn.named 0 (omega arith)).0 in
    let d = (cone_at fan j).direction in
    let e = (cone_at fan o).direction in
    answer_passes points fan size d e s t (cone_at fan j).high (cone_at fan j).low (cone_at fan 0).high (cone_at fan 0).low (map chord_of chords)
    limited h fraction (length-map chords chord_of ∙ count)
    (each_mapped (IsGood points fan size) chords (λ i l. subst (IsGood points fan size i) (sym (same i no_declared l)) (point_good points fan size i some none)))
    (turn.short j listed) (turn.short o other) (turn.begins j listed) (other_extreme points fan h j o one) bounds_s bounds_t
    (other_across points fan h j o flat.listed one)
    (ap (λ n. n *ℤ pos (nat_abs (cross d e))) none ∙ times_zero (pos (nat_abs (cross d e))) ∙ sym (ap (λ r. (r *ℤ reach points e (cone_at fan 0).high (cone_at fan 0).low) *ℤ size.d) flat.flat ∙ zeros (reach points e (cone_at fan 0).high (cone_at fan 0).low) size.d))
  where
    nothing : (n d : ℤ) → n *ℤ pos 1 ≡ pos 0 *ℤ d → n ≡ pos 0
    nothing n d e = omega (arith, ints)

    above : {k n : ℕ} → k < n → 0 < n
    above l = omega arith

    times_zero : (r : ℤ) → pos 0 *ℤ r ≡ pos 0
    times_zero r = omega (arith, ints)

    zeros : (r d : ℤ) → (pos 0 *ℤ r) *ℤ d ≡ pos 0
    zeros r d = ap (λ z. z *ℤ d) (times_zero r) ∙ times_zero d
