-- The widths along the directions of a fan, and the strip that passes.
use Rattle.std.proofs.Common.{◌≡◌, sym, ◌∙◌, ap, ap₂, subst, ℕ, ◌+◌, ◌*◌, ◌<◌, ◌≤◌, ◌⊎◌, inl, inr, ℤ, pos, ◌+ℤ◌, ◌-ℤ◌, ◌*ℤ◌, neg_ℤ, ◌≤ℤ◌, ◌<ℤ◌, List, [], ◌∷◌, length, arith}
use Rattle.std.specs.Prelude.{slice_index_or}
use Rattle.std.proofs.lemmas.Int.{ints}
use Rattle.std.proofs.lemmas.Bool.{cases_lt}
use Rattle.integers.proofs.Identities.{den-ring, read, polys}
use Rattle.integers.proofs.Order.{positive_from_one}
use Rattle.integers.proofs.Fractions.{fraction_equal, fraction_lt_equal, fraction_le_trans, fraction_lt_le_trans}
use Rattle.bounds_model.specs.Plane.{PlanePoint, point_at, squared_length}
use Rattle.bounds_model.specs.Fractions.{Fraction, SameValue}
use Rattle.bounds_model.specs.Ranges.{IsFraction}
use Rattle.bounds_model.specs.Strip.{Span}
use Rattle.bounds_model.specs.Fans.{HalfFan, HalfCone, half_directions, IsReduced}
use Rattle.bounds_model.specs.StripAnswer.{PassesStrip, IsNotThinner, IsThicker}
use Rattle.parallelogram_strip.specs.FullTurn.{opposite, other_side, cone_at}
use Rattle.parallelogram_strip.specs.PlainFan.{IsPlainFan}
use Rattle.parallelogram_strip.specs.Crossings.{reach_of}
use Rattle.parallelogram_strip.specs.Widths.{IsWidth, IsThinner, IsNotWider}
use Rattle.parallelogram_strip.specs.declared.thinnest.Width.{Width}
use Rattle.parallelogram_strip.proofs.FullTurn.{IsFullTurn, full_turn_of, direction_at, two_cones}
use Rattle.directions.proofs.Reaches.{reach_opposite, lowest_long, long_some}
use Rattle.directions.proofs.SpanBounds.{short_span, AreBounds, bounds_tight, extent_is}
use Rattle.parallelogram_strip.proofs.Extents.{reach_mixed}
use Rattle.parallelogram_strip.proofs.Passing.{cone_any}
use Rattle.model_laws.proofs.CornerLaw.{cross_self}
use Rattle.bounded_coords.proofs.Ranges.{direction_of_short}

-- the square of the reach times the best's length is at least that of the best's reach times the length, along the direction of this number
pub record IsNotThinnerAt (points : List PlanePoint) (fan : HalfFan) (best : Width) (i : ℕ) : Type 0 where
  pub at_least : (pos (best.reach * best.reach) *ℤ squared_length (cone_at fan i).direction) ≤ℤ (reach_of points (cone_at fan i).direction (cone_at fan i) *ℤ reach_of points (cone_at fan i).direction (cone_at fan i) *ℤ pos best.length)

-- what is not wider than the width there is not
pub not_thinner_there : (points : List PlanePoint) (fan : HalfFan) (best w : Width) → IsWidth points fan w → IsNotWider best w → IsNotThinnerAt points fan best w.direction
not_thinner_there points fan best w h n = record {
  at_least = subst (λ l. (pos (best.reach * best.reach) *ℤ l) ≤ℤ (reach_of points (cone_at fan w.direction).direction (cone_at fan w.direction) *ℤ reach_of points (cone_at fan w.direction).direction (cone_at fan w.direction) *ℤ pos best.length)) h.is_length
      (subst (λ r. (pos (best.reach * best.reach) *ℤ pos w.length) ≤ℤ (r *ℤ r *ℤ pos best.length)) h.is_reach (plain best.reach best.length w.reach w.length n));
}
  where
    plain : (a b c d : ℕ) → a * a * d ≤ c * c * b → (pos (a * a) *ℤ pos d) ≤ℤ (pos c *ℤ pos c *ℤ pos b)
    plain a b c d h = omega (arith, ints)

-- along the direction of this number it is above that
pub record IsThickerAt (points : List PlanePoint) (fan : HalfFan) (best : Width) (i : ℕ) : Type 0 where
  pub above : (pos (best.reach * best.reach) *ℤ squared_length (cone_at fan i).direction) <ℤ (reach_of points (cone_at fan i).direction (cone_at fan i) *ℤ reach_of points (cone_at fan i).direction (cone_at fan i) *ℤ pos best.length)

-- what is not below a width is above a thinner one
pub thicker_than_thinner : (points : List PlanePoint) (fan : HalfFan) (best better : Width) (i : ℕ) → IsFullTurn points (length fan.cones) (cone_at fan) → IsWidth points fan best → IsWidth points fan better → IsThinner better best → i < length fan.cones → IsNotThinnerAt points fan best i → IsThickerAt points fan better i
thicker_than_thinner points fan best better i turn is_best is_better n l h =
    let d = (cone_at fan i).direction in
    record {
      above = fraction_lt_le_trans (pos (better.reach * better.reach)) (pos better.length) (pos (best.reach * best.reach)) (pos best.length) (reach_of points d (cone_at fan i) *ℤ reach_of points d (cone_at fan i)) (squared_length d)
          (positive is_better.some) (positive is_best.some) (lowest_long d (turn.lowest i (omega arith))) (plain better.reach better.length best.reach best.length n) h.at_least;
    }
  where
    positive : {n : ℕ} → 0 < n → pos 0 <ℤ pos n
    positive h = omega (arith, ints)

    plain : (a b c d : ℕ) → a * a * d < c * c * b → (pos (a * a) *ℤ pos d) <ℤ (pos (c * c) *ℤ pos b)
    plain a b c d h = omega (arith, ints)

-- and so is it for a better width
pub thinner_more : (points : List PlanePoint) (fan : HalfFan) (best better : Width) (i : ℕ) → IsFullTurn points (length fan.cones) (cone_at fan) → IsWidth points fan best → IsWidth points fan better → IsNotWider better best → i < length fan.cones → IsNotThinnerAt points fan best i → IsNotThinnerAt points fan better i
thinner_more points fan best better i turn is_best is_better n l h =
    let d = (cone_at fan i).direction in
    record {
      at_least = fraction_le_trans (pos (better.reach * better.reach)) (pos better.length) (pos (best.reach * best.reach)) (pos best.length) (reach_of points d (cone_at fan i) *ℤ reach_of points d (cone_at fan i)) (squared_length d)
          (positive is_better.some) (positive is_best.some) (lowest_long d (turn.lowest i (omega arith))) (plain better.reach better.length best.reach best.length n) h.at_least;
    }
  where
    positive : {n : ℕ} → 0 < n → pos 0 <ℤ pos n
    positive h = omega (arith, ints)

    plain : (a b c d : ℕ) → a * a * d ≤ c * c * b → (pos (a * a) *ℤ pos d) ≤ℤ (pos (c * c) *ℤ pos b)
    plain a b c d h = omega (arith, ints)

-- one of two widths is a width
pub one_width : (points : List PlanePoint) (fan : HalfFan) (a b c : Width) → IsWidth points fan a → IsWidth points fan b → (c ≡ a) ⊎ ((c ≡ b) × IsThinner b a) → IsWidth points fan c
one_width points fan a b c ha hb one = elim one [ inl e ↦ subst (IsWidth points fan) (sym e) ha | inr e ↦ subst (IsWidth points fan) (sym e.0) hb ]

-- all widths before the first of the least are above it, with one more that was looked at
pub thicker_before : (points : List PlanePoint) (fan : HalfFan) (best next better : Width) (j : ℕ) → IsFullTurn points (length fan.cones) (cone_at fan) → IsWidth points fan best → IsWidth points fan next → next.direction ≡ j
    → ((k : ℕ) → k < j → IsNotThinnerAt points fan best k) → ((k : ℕ) → k < best.direction → IsThickerAt points fan best k) → (better ≡ best) ⊎ ((better ≡ next) × IsThinner next best) → (k : ℕ) → k < better.direction → IsThickerAt points fan better k
thicker_before points fan best next better j turn is_best is_next at_j seen before one k l = elim one [
  | inl e ↦ subst (λ x. IsThickerAt points fan x k) (sym e) (before k (subst (λ (x : Width). k < x.direction) e l))
  | inr e ↦
      let low : k < next.direction = subst (λ (x : Width). k < x.direction) e.0 l in
      subst (λ x. IsThickerAt points fan x k) (sym e.0) (thicker_than_thinner points fan best next k turn is_best is_next e.1 (lower low is_next.listed) (seen k (subst (λ n. k < n) at_j low)))
]
  where
    lower : {k i n : ℕ} → k < i → i < n → k < n
    lower h g = omega arith

-- at the last direction it is as at the first
at_last : (points : List PlanePoint) (fan : HalfFan) (best : Width) (m : ℕ) → IsFullTurn points m (cone_at fan) → IsNotThinnerAt points fan best 0 → IsNotThinnerAt points fan best m
at_last points fan best m turn h =
    let first = cone_at fan 0 in
    let back : cone_at fan m ≡ other_side first = subst (λ i. cone_at fan i ≡ other_side first) (from_zero m) (turn.back 0 turn.some) in
    record {
      at_least = subst (λ (cone : HalfCone). (pos (best.reach * best.reach) *ℤ squared_length cone.direction) ≤ℤ (reach_of points cone.direction cone *ℤ reach_of points cone.direction cone *ℤ pos best.length)) (sym back)
          (subst (λ r. (pos (best.reach * best.reach) *ℤ squared_length (opposite first.direction)) ≤ℤ (r *ℤ r *ℤ pos best.length)) (sym (reach_opposite points first.direction first.high first.low))
          (subst (λ l. (pos (best.reach * best.reach) *ℤ l) ≤ℤ (reach_of points first.direction first *ℤ reach_of points first.direction first *ℤ pos best.length)) (same first.direction.x first.direction.y) h.at_least));
    }
  where
    from_zero : (m : ℕ) → 0 + m ≡ m
    from_zero m = omega arith

    same : (x y : ℤ) → x *ℤ x +ℤ y *ℤ y ≡ neg_ℤ x *ℤ neg_ℤ x +ℤ neg_ℤ y *ℤ neg_ℤ y
    same x y = read (x ∷ y ∷ []) (λ xs a b. simp (a, b, polys) (den-ring xs _ _ tt))

-- the strip with the least width of all directions passes
pub strip_passes : (points : List PlanePoint) (fan : HalfFan) (best : Width) (size : Fraction) (span : Span) → IsPlainFan points fan → IsWidth points fan best → ((k : ℕ) → k < length fan.cones → IsNotThinnerAt points fan best k) → ((k : ℕ) → k < best.direction → IsThickerAt points fan best k)
    → IsFraction size → SameValue size (record { n = pos (best.reach * best.reach); d = pos best.length }) → AreBounds points (cone_at fan best.direction).direction (cone_at fan best.direction).high (cone_at fan best.direction).low span
    → PassesStrip points (record { size = size; direction = (cone_at fan best.direction).direction; bounds = span; fan = fan })
strip_passes points fan best size span h is_best seen before fraction same bounds =
    let turn = full_turn_of points fan h in
    let j = best.direction in
    let d = (cone_at fan j).direction in
    let listed : j < length fan.cones + length fan.cones = omega (arith, is_best.listed) in
    let short = turn.short j listed in
    record {
      ranges = record {
        size = fraction;
        direction = direction_of_short d short;
        bounds = short_span span bounds.short;
        fan = h.ranges;
      };
      short_directions = h.short;
      short_direction = short;
      short_bounds = bounds.short;
      normal = long_some d (lowest_long d (turn.lowest j listed));
      fan = h.holds;
      not_thinner = λ i e l. (
        by_reach i (slice_index_or fan.cones i e) (omega arith) (ap (λ c. reach_of points (cone_at fan i).direction c) (cone_any fan i e l)),
        by_reach (i + 1) (slice_index_or fan.cones i e) (omega arith) (ap (λ c. reach_of points (cone_at fan (i + 1)).direction c) (cone_any fan i e l) ∙ next_reach i l),
      );
      first = (
        j,
        is_best.listed,
        record {
          reduced = subst (λ v. IsReduced v d) (sym (direction_at points fan h j (omega (arith, is_best.listed)))) (record { parallel = cross_self d; ahead = lowest_long d (turn.lowest j listed); lowest = turn.lowest j listed });
          before = λ i e l m. thicker_there i e l (before i m);
        },
      );
      tight = bounds_tight points d (cone_at fan j).high (cone_at fan j).low span (turn.named j listed).0 (turn.named j listed).1 (turn.begins j listed) bounds;
      size = same_size;
    }
  where
    at_any : (i : ℕ) → i ≤ length fan.cones → IsNotThinnerAt points fan best i
    at_any i l =
        elim (cases_lt i (length fan.cones)) [
          | inl n ↦ seen i n
          | inr n ↦ subst (IsNotThinnerAt points fan best) (same_index i l n) (at_last points fan best (length fan.cones) (full_turn_of points fan h) (seen 0 (full_turn_of points fan h).some))
        ]
      where
        same_index : (i : ℕ) → i ≤ length fan.cones → length fan.cones ≤ i → length fan.cones ≡ i
        same_index i l n = omega arith

    positive_length : pos 0 <ℤ pos best.length
    positive_length = let some = is_best.some in omega (arith, ints)

    thicker_there : (i : ℕ) (e : HalfCone) → i < length fan.cones → IsThickerAt points fan best i → IsThicker points size (point_at (half_directions fan) i) (slice_index_or fan.cones i e)
    thicker_there i e l above =
        subst (λ v. IsThicker points size v (slice_index_or fan.cones i e)) (sym (direction_at points fan h i (omega (arith, l))))
        (subst (λ (c : HalfCone). IsThicker points size (cone_at fan i).direction c) (sym (cone_any fan i e l))
        (fraction_lt_equal (pos (best.reach * best.reach)) (pos best.length) size.n size.d (reach_of points (cone_at fan i).direction (cone_at fan i) *ℤ reach_of points (cone_at fan i).direction (cone_at fan i)) (squared_length (cone_at fan i).direction)
        positive_length (positive_from_one fraction.lowest.not_negative.denominator) (sym same) above.above))

    by_reach : (i : ℕ) (cone : HalfCone) → i ≤ length fan.cones → reach_of points (cone_at fan i).direction cone ≡ reach_of points (cone_at fan i).direction (cone_at fan i) → IsNotThinner points size (point_at (half_directions fan) i) cone
    by_reach i cone l e =
        let d = (cone_at fan i).direction in
        subst (λ x. IsNotThinner points size x cone) (sym (direction_at points fan h i l))
        (subst (λ r. (size.n *ℤ squared_length d) ≤ℤ (r *ℤ r *ℤ size.d)) (sym e)
        (fraction_equal (pos (best.reach * best.reach)) (pos best.length) size.n size.d (reach_of points d (cone_at fan i) *ℤ reach_of points d (cone_at fan i)) (squared_length d)
        (positive is_best.some) (positive_from_one fraction.lowest.not_negative.denominator) (sym same) (at_any i l).at_least))
      where
        positive : {n : ℕ} → 0 < n → pos 0 <ℤ pos n
        positive h = omega (arith, ints)

    next_reach : (i : ℕ) → i < length fan.cones → reach_of points (cone_at fan (i + 1)).direction (cone_at fan i) ≡ reach_of points (cone_at fan (i + 1)).direction (cone_at fan (i + 1))
    next_reach i l =
        let turn = full_turn_of points fan h in
        let n : i < length fan.cones + length fan.cones = omega arith in
        let m : i + 1 < length fan.cones + length fan.cones = omega (arith, two_cones points fan h) in
        (reach_mixed points (cone_at fan (i + 1)).direction (cone_at fan i) (cone_at fan (i + 1)) (turn.named i n).0 (turn.named i n).1 (turn.named (i + 1) m).0 (turn.named (i + 1) m).1 (turn.ends i m) (turn.begins (i + 1) m)).0

    width : span.high -ℤ span.low ≡ pos best.reach
    width = extent_is points (cone_at fan best.direction).direction (cone_at fan best.direction).high (cone_at fan best.direction).low span bounds ∙ sym is_best.is_reach

    same_size : size.n *ℤ (pos 1 *ℤ pos 1 *ℤ squared_length (cone_at fan best.direction).direction) ≡ ((span.high -ℤ span.low) *ℤ (span.high -ℤ span.low)) *ℤ size.d
    same_size =
        ap (λ x. size.n *ℤ x) (once (squared_length (cone_at fan best.direction).direction) ∙ sym is_best.is_length) ∙ same
        ∙ ap (λ x. x *ℤ size.d) (sym (ap₂ (λ x y. x *ℤ y) width width))
      where
        once : (x : ℤ) → pos 1 *ℤ pos 1 *ℤ x ≡ x
        once x = omega (arith, ints)
