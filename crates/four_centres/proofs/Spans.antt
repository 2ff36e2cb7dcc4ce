-- From the ends in an order to the extent of what squares leave over, and how it grows place by place.
use Rattle.std.proofs.Common.{◌≡◌, ◌⊎◌, inl, inr, sym, subst, ap, ◌∙◌, ℕ, ◌+◌, ◌<◌, ◌≤◌, ℤ, pos, nat_abs, ◌+ℤ◌, ◌-ℤ◌, ◌≤ℤ◌, List, length, All, arith}
use Rattle.std.specs.Prelude.{slice_get, Some}
use Rattle.std.proofs.lemmas.Int.{ints}
use Rattle.std.proofs.lemmas.List.Elements.{All-weaker}
use Rattle.integers.proofs.Lists.{before_or_after}
use Rattle.bounds_model.specs.Numbers.{IsWithin}
use Rattle.bounds_model.specs.Plane.{PlanePoint, point_at, plane_limit}
use Rattle.bounds_model.specs.CentresAnswer.{AreFar}
use Rattle.answers.specs.declared.centres.Leaf.{Leaf}
use Rattle.corner_squares.specs.declared.square.Square.{Square}
use Rattle.corner_squares.specs.declared.extent.Extent.{Extent}
use Rattle.corner_squares.specs.Squares.{IsCovered}
use Rattle.corner_squares.specs.Extents.{HasAt, Sees, IsInside, IsSpan, IsShort}
use Rattle.corner_squares.specs.Covers.{IsFarPair}
use Rattle.four_centres.specs.declared.orders.Key.{Key}
use Rattle.four_centres.specs.declared.ends.Ends.{Ends}
use Rattle.four_centres.specs.Orders.{key_at, point_in, coordinate_of, NamesAll, HasValue, IsOrder}
use Rattle.four_centres.specs.Ends.{AreAround, AreEnds, extent_of}
use Rattle.four_centres.specs.Surveys.{IsSpanOf}
use Rattle.four_centres.proofs.Places.{at_some_place, read_at}

-- any key, for reading past the end
abbrev no_key : Key
no_key = record { rank = 0; number = 0 }

-- ranks are limited
pub ranks_limited : (of : PlanePoint → ℤ) (points : List PlanePoint) (order : List Key) → All (HasValue of points) order → All (λ key. key.rank ≤ 400000) order
ranks_limited of points order values = All-weaker (HasValue of points) (λ key. key.rank ≤ 400000) (λ key h. h.limit) order values

-- ---- the ends

-- a place has its point, with its coordinate
at_place : (of : PlanePoint → ℤ) (points : List PlanePoint) (order : List Key) (squares : List Square) (place : ℕ) → IsOrder of points order → place < length order → ¬ IsCovered squares (point_in points order place)
    → HasAt of points squares (key_at order place).number (coordinate_of (key_at order place))
at_place of points order squares place h below free = record {
  below = h.names.each place (record { rank = 0; number = 0 }) below;
  free = free;
  has = sym (h.values place (record { rank = 0; number = 0 }) below).value;
}

-- a rank in its limit is a coordinate in bounds
pub in_plane : (key : Key) → key.rank ≤ 400000 → IsWithin plane_limit (coordinate_of key)
in_plane key limit = record { low = omega (arith, ints, limit); high = omega (arith, ints, limit) }

rank_le : (a b : ℕ) → a ≤ b → (pos a -ℤ pos 200000) ≤ℤ (pos b -ℤ pos 200000)
rank_le a b h = omega (arith, ints, h)

-- what is inside at each place between the ends is inside for each number
pub inside_by_number : (of : PlanePoint → ℤ) (points : List PlanePoint) (order : List Key) (squares : List Square) (ends : Ends) (e : Extent) → NamesAll points order → AreAround points order squares ends
    → ((place : ℕ) → ends.low ≤ place → place < ends.high + 1 → IsCovered squares (point_in points order place) ⊎ IsInside e (of (point_in points order place)))
    → (number : ℕ) → number < length points → IsCovered squares (point_at points number) ⊎ IsInside e (of (point_at points number))
inside_by_number of points order squares ends e names around inside number below =
    let place = at_some_place points order names number below in
    subst (λ p. IsCovered squares p ⊎ IsInside e (of p)) place.2
    (elim (before_or_after place.0 ends.low) [
      | inl before ↦ inl (around.before place.0 (omega arith) before)
      | inr from ↦ elim (before_or_after place.0 (ends.high + 1)) [ inl to ↦ inside place.0 from to | inr after ↦ inl (around.after place.0 after place.1) ]
    ])

-- between the ends in an ascending order are all that are left over
pub span_of_ends : (of : PlanePoint → ℤ) (points : List PlanePoint) (order : List Key) (squares : List Square) (ends : Ends) → IsOrder of points order → AreEnds points order squares ends → IsSpan of points squares (extent_of order ends)
span_of_ends of points order squares ends h are = record {
  inside = inside_by_number of points order squares ends (extent_of order ends) h.names are.around
      (λ place from to.
      let below : place < length order = (let w = are.around.within in omega (arith, to, w)) in
      inr (subst (IsInside (extent_of order ends)) (h.values place no_key below).value (
        rank_le (key_at order ends.low).rank (key_at order place).rank (h.sorted ends.low place no_key from below),
        rank_le (key_at order place).rank (key_at order ends.high).rank (h.sorted place ends.high no_key (omega (arith, to)) are.around.within),
      )));
  low_at = at_place of points order squares ends.low h low_below are.low;
  high_at = at_place of points order squares ends.high h are.around.within are.high;
  plane = record {
    low = in_plane (key_at order ends.low) (h.values ends.low no_key low_below).limit;
    high = in_plane (key_at order ends.high) (h.values ends.high no_key are.around.within).limit;
    order = rank_le (key_at order ends.low).rank (key_at order ends.high).rank (h.sorted ends.low ends.high no_key are.around.ordered are.around.within);
  };
}
  where
    low_below : ends.low < length order
    low_below = let o = are.around.ordered in let w = are.around.within in omega (arith, o, w)

-- ---- place by place

-- the first place
pub span_start : (of : PlanePoint → ℤ) (points : List PlanePoint) (order : List Key) (squares : List Square) (place : ℕ) (p : PlanePoint) (e : Extent) → NamesAll points order → place < length order
    → slice_get points (key_at order place).number ≡ Some p → ¬ IsCovered squares (point_in points order place) → IsWithin plane_limit (of p)
    → (v : ℤ) → v ≡ of p → e ≡ record { low = v; high = v; low_at = (key_at order place).number; high_at = (key_at order place).number } → IsSpanOf of points order squares place (place + 1) e
span_start of points order squares place p e names below there free plane v v_is is = subst (IsSpanOf of points order squares place (place + 1)) (sym (is ∙ ap (λ w. record { low = w; high = w; low_at = (key_at order place).number; high_at = (key_at order place).number }) v_is)) (record {
  inside = λ k from to. inr (subst (IsInside (record { low = of p; high = of p; low_at = (key_at order place).number; high_at = (key_at order place).number })) (sym (value k from to)) (le_itself (of p), le_itself (of p)));
  low_at = at;
  high_at = at;
  plane = record { low = plane; high = plane; order = le_itself (of p) };
})
  where
    le_itself : (z : ℤ) → z ≤ℤ z
    le_itself z = omega (arith, ints)

    same : (k : ℕ) → place ≤ k → k < place + 1 → k ≡ place
    same k l h = omega (arith, l, h)

    value : (k : ℕ) → place ≤ k → k < place + 1 → of (point_in points order k) ≡ of p
    value k from to = ap (λ j. of (point_in points order j)) (same k from to) ∙ ap of (read_at points order place p there)

    at : HasAt of points squares (key_at order place).number (of p)
    at = record { below = names.each place (record { rank = 0; number = 0 }) below; free = free; has = ap of (read_at points order place p there) }

-- a covered point changes nothing
pub span_same : (of : PlanePoint → ℤ) (points : List PlanePoint) (order : List Key) (squares : List Square) (from place : ℕ) (p : PlanePoint) (e : Extent)
    → slice_get points (key_at order place).number ≡ Some p → IsCovered squares p → IsSpanOf of points order squares from place e → IsSpanOf of points order squares from (place + 1) e
span_same of points order squares from place p e there covered was = record {
  inside = λ k low high. elim (before_or_after k place) [
    | inl sooner ↦ was.inside k low sooner
    | inr late ↦ inl (subst (λ j. IsCovered squares (point_in points order j)) (same k late high) (subst (IsCovered squares) (sym (read_at points order place p there)) covered))
  ];
  low_at = was.low_at;
  high_at = was.high_at;
  plane = was.plane;
}
  where
    same : (k : ℕ) → place ≤ k → k < place + 1 → place ≡ k
    same k l h = omega (arith, l, h)

moved : (of : PlanePoint → ℤ) (points : List PlanePoint) (squares : List Square) (old new : ℕ) (value now : ℤ) → HasAt of points squares old value → now ≡ value → new ≡ old → HasAt of points squares new now
moved of points squares old new value now h is_value is_number =
    subst (λ k. HasAt of points squares k now) (sym is_number) (subst (λ v. HasAt of points squares old v) (sym is_value) h)

-- another point widens it
pub span_more : (of : PlanePoint → ℤ) (points : List PlanePoint) (order : List Key) (squares : List Square) (from place : ℕ) (p : PlanePoint) (old new : Extent) → NamesAll points order → place < length order
    → slice_get points (key_at order place).number ≡ Some p → ¬ IsCovered squares p → IsWithin plane_limit (of p) → IsSpanOf of points order squares from place old
    → (v : ℤ) → v ≡ of p → Sees old v (key_at order place).number new → IsSpanOf of points order squares from (place + 1) new
span_more of points order squares from place p old new names below there free plane was v v_is seen = record {
  inside = λ k low high. elim (before_or_after k place) [
    | inl sooner ↦ elim (was.inside k low sooner) [ inl covered ↦ inl covered | inr inside ↦ inr (wider (of (point_in points order k)) inside) ]
    | inr late ↦ inr (subst (IsInside new) (value k late high) itself)
  ];
  low_at = elim sees.low [ inl stays ↦ moved of points squares old.low_at new.low_at old.low new.low was.low_at stays.1 stays.2 | inr takes ↦ moved of points squares number new.low_at (of p) new.low at takes.1 takes.2 ];
  high_at = elim sees.high [ inl stays ↦ moved of points squares old.high_at new.high_at old.high new.high was.high_at stays.1 stays.2 | inr takes ↦ moved of points squares number new.high_at (of p) new.high at takes.1 takes.2 ];
  plane = record {
    low = elim sees.low [ inl stays ↦ subst (IsWithin plane_limit) (sym stays.1) was.plane.low | inr takes ↦ subst (IsWithin plane_limit) (sym takes.1) plane ];
    high = elim sees.high [ inl stays ↦ subst (IsWithin plane_limit) (sym stays.1) was.plane.high | inr takes ↦ subst (IsWithin plane_limit) (sym takes.1) plane ];
    order = ordered itself;
  };
}
  where
    number : ℕ
    number = (key_at order place).number

    sees : Sees old (of p) number new
    sees = subst (λ w. Sees old w number new) v_is seen

    same : (k : ℕ) → place ≤ k → k < place + 1 → place ≡ k
    same k l h = omega (arith, l, h)

    value : (k : ℕ) → place ≤ k → k < place + 1 → of p ≡ of (point_in points order k)
    value k late high = sym (ap of (read_at points order place p there)) ∙ ap (λ j. of (point_in points order j)) (same k late high)

    at : HasAt of points squares number (of p)
    at = record { below = names.each place (record { rank = 0; number = 0 }) below; free = subst (λ q. ¬ IsCovered squares q) (sym (read_at points order place p there)) free; has = ap of (read_at points order place p there) }

    itself : IsInside new (of p)
    itself = (
      elim sees.low [ inl stays ↦ omega (arith, ints, stays.0, stays.1) | inr takes ↦ omega (arith, ints, takes.1) ],
      elim sees.high [ inl stays ↦ omega (arith, ints, stays.0, stays.1) | inr takes ↦ omega (arith, ints, takes.1) ],
    )

    wider : (v : ℤ) → IsInside old v → IsInside new v
    wider v inside = let a = inside.0 in let b = inside.1 in (
      elim sees.low [ inl stays ↦ omega (arith, ints, stays.1, a) | inr takes ↦ omega (arith, ints, takes.0, takes.1, a) ],
      elim sees.high [ inl stays ↦ omega (arith, ints, stays.1, b) | inr takes ↦ omega (arith, ints, takes.0, takes.1, b) ],
    )

    ordered : IsInside new (of p) → new.low ≤ℤ new.high
    ordered h = let a = h.0 in let b = h.1 in omega (arith, ints, a, b)

-- at the high end it is that of all points
pub span_of_all : (of : PlanePoint → ℤ) (points : List PlanePoint) (order : List Key) (squares : List Square) (ends : Ends) (to : ℕ) (e : Extent) → NamesAll points order → AreAround points order squares ends
    → to ≡ ends.high + 1 → IsSpanOf of points order squares ends.low to e → IsSpan of points squares e
span_of_all of points order squares ends to e names around is h = record {
  inside = inside_by_number of points order squares ends e names around (λ place low high. h.inside place low (subst (λ n. place < n) (sym is) high));
  low_at = h.low_at;
  high_at = h.high_at;
  plane = h.plane;
}

-- ---- two far points

apart : (limit length : ℕ) (low high a b : ℤ) → high ≡ (low +ℤ pos length) → limit < length → a ≡ low → b ≡ high → limit < nat_abs (b -ℤ a)
apart limit length low high a b is more is_a is_b = grind (arith, ints, is, more, is_a, is_b)

far_ends : (of : PlanePoint → ℤ) (points : List PlanePoint) (squares : List Square) (limit length : ℕ) (e : Extent) (leaf : Leaf) → HasAt of points squares e.low_at e.low → HasAt of points squares e.high_at e.high → e.high ≡ (e.low +ℤ pos length)
    → limit < length → leaf ≡ record { first = e.low_at; second = e.high_at }
    → (limit < nat_abs (of (point_at points e.high_at) -ℤ of (point_at points e.low_at)) → AreFar limit (point_at points e.low_at) (point_at points e.high_at)) → IsFarPair points squares limit leaf
far_ends of points squares limit length e leaf low high is more leaf_is far = subst (IsFarPair points squares limit) (sym leaf_is) (record {
  first = low.below;
  second = high.below;
  first_free = low.free;
  second_free = high.free;
  far = far (apart limit length e.low e.high (of (point_at points e.low_at)) (of (point_at points e.high_at)) is more low.has high.has);
})

-- in x
pub far_across : (points : List PlanePoint) (squares : List Square) (limit length : ℕ) (e : Extent) (leaf : Leaf) → HasAt (λ p. p.x) points squares e.low_at e.low → HasAt (λ p. p.x) points squares e.high_at e.high → e.high ≡ (e.low +ℤ pos length)
    → limit < length → leaf ≡ record { first = e.low_at; second = e.high_at } → IsFarPair points squares limit leaf
far_across points squares limit length e leaf low high is more leaf_is = far_ends (λ p. p.x) points squares limit length e leaf low high is more leaf_is inl

-- in y
pub far_up : (points : List PlanePoint) (squares : List Square) (limit length : ℕ) (e : Extent) (leaf : Leaf) → HasAt (λ p. p.y) points squares e.low_at e.low → HasAt (λ p. p.y) points squares e.high_at e.high → e.high ≡ (e.low +ℤ pos length)
    → limit < length → leaf ≡ record { first = e.low_at; second = e.high_at } → IsFarPair points squares limit leaf
far_up points squares limit length e leaf low high is more leaf_is = far_ends (λ p. p.y) points squares limit length e leaf low high is more leaf_is inr

-- a short extent
pub short_by_length : (limit length : ℕ) (e : Extent) → e.high ≡ (e.low +ℤ pos length) → length ≤ limit → IsShort limit e
short_by_length limit length e is few = omega (arith, ints, is, few)
