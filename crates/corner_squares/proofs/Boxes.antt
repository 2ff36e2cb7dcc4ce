-- How the bounding box of points grows point by point, and what it says of all points that are left over.
use Rattle.std.proofs.Common.{◌≡◌, ◌⊎◌, inl, inr, refl, sym, subst, ap, ◌∙◌, ℕ, ◌+◌, ◌<◌, ◌≤◌, ℤ, ◌≤ℤ◌, ◌<ℤ◌, List, [], ◌∷◌, length, All, Contains, arith}
use Rattle.std.specs.Prelude.{slice_get, Option, Some, None}
use Rattle.std.proofs.lemmas.Int.{ints}
use Rattle.std.proofs.lemmas.Option.{slice_get_within, get_or_from_slice_get}
use Rattle.std.proofs.lemmas.List.{get_or_default}
use Rattle.std.proofs.lemmas.List.Elements.{Contains-get_or}
use Rattle.integers.proofs.Lists.{below_or_at}
use Rattle.bounds_model.specs.Numbers.{IsWithin}
use Rattle.bounds_model.specs.Plane.{PlanePoint, point_at, origin, plane_limit, IsInPlane}
use Rattle.corner_squares.specs.declared.square.Square.{Square}
use Rattle.corner_squares.specs.declared.extent.Extent.{Extent}
use Rattle.corner_squares.specs.declared.bounds.Bounds.{Bounds}
use Rattle.corner_squares.specs.Squares.{IsCovered, left_over}
use Rattle.corner_squares.specs.Extents.{Sees, HasAt, IsSpan, IsRestBox, IsExtent, IsBox, Adds, IsFound}
use Rattle.corner_squares.proofs.LeftOver.{Contains-left_over, All-left_over}

-- ---- one point more

one_later : (k i : ℕ) → k < i → k < i + 1
one_later k i h = omega (arith, h)

sees_value : (old new : Extent) (value : ℤ) (number : ℕ) → Sees old value number new → (new.low ≤ℤ value) × (value ≤ℤ new.high)
sees_value old new value number sees = (
  elim sees.low [ inl stays ↦ omega (arith, ints, stays.0, stays.1) | inr takes ↦ omega (arith, ints, takes.1) ],
  elim sees.high [ inl stays ↦ omega (arith, ints, stays.0, stays.1) | inr takes ↦ omega (arith, ints, takes.1) ],
)

wider : (old new : Extent) (value v : ℤ) (number : ℕ) → Sees old value number new → (old.low ≤ℤ v) × (v ≤ℤ old.high) → (new.low ≤ℤ v) × (v ≤ℤ new.high)
wider old new value v number sees was = (
  elim sees.low [ inl stays ↦ omega (arith, ints, stays.1, was.0) | inr takes ↦ omega (arith, ints, takes.0, takes.1, was.0) ],
  elim sees.high [ inl stays ↦ omega (arith, ints, stays.1, was.1) | inr takes ↦ omega (arith, ints, takes.0, takes.1, was.1) ],
)

moved : (of : PlanePoint → ℤ) (points : List PlanePoint) (squares : List Square) (old new : ℕ) (value now : ℤ) → HasAt of points squares old value → now ≡ value → new ≡ old → HasAt of points squares new now
moved of points squares old new value now h is_value is_number =
    subst (λ k. HasAt of points squares k now) (sym is_number) (subst (λ v. HasAt of points squares old v) (sym is_value) h)

-- a point that is there has its coordinate
here : (of : PlanePoint → ℤ) (points : List PlanePoint) (squares : List Square) (i : ℕ) (p : PlanePoint) → slice_get points i ≡ Some p → ¬ IsCovered squares p → HasAt of points squares i (of p)
here of points squares i p there free = record {
  below = slice_get_within points i p there;
  free = subst (λ q. ¬ IsCovered squares q) (sym is) free;
  has = ap of is;
}
  where
    is : point_at points i ≡ p
    is = get_or_from_slice_get points i p origin there

-- the first point that no square contains
IsExtent-start : (of : PlanePoint → ℤ) (points : List PlanePoint) (squares : List Square) (i : ℕ) (p : PlanePoint) (e : Extent)
    → ((k : ℕ) → k < i → IsCovered squares (point_at points k)) → slice_get points i ≡ Some p → ¬ IsCovered squares p → IsWithin plane_limit (of p)
    → e ≡ record { low = of p; high = of p; low_at = i; high_at = i } → IsExtent of points squares (i + 1) e
IsExtent-start of points squares i p e before there free inside is =
    let at = here of points squares i p there free in
    subst (λ e. IsExtent of points squares (i + 1) e) (sym is) (record {
      inside = λ k low. elim (below_or_at k i low) [
        | inl less ↦ inl (before k less)
        | inr same ↦ inr (both (of (point_at points k)) (of p) (ap (λ j. of (point_at points j)) same ∙ at.has))
      ];
      low_at = at;
      high_at = at;
      low_seen = omega arith;
      high_seen = omega arith;
      low_first = λ k sooner. inl (before k sooner);
      high_first = λ k sooner. inl (before k sooner);
      plane = record { low = inside; high = inside; order = omega (arith, ints) };
    })
  where
    both : (v w : ℤ) → v ≡ w → (w ≤ℤ v) × (v ≤ℤ w)
    both v w e = (omega (arith, ints), omega (arith, ints))

-- a point that a square contains
IsExtent-same : (of : PlanePoint → ℤ) (points : List PlanePoint) (squares : List Square) (i : ℕ) (p : PlanePoint) (e : Extent)
    → slice_get points i ≡ Some p → IsCovered squares p → IsExtent of points squares i e → IsExtent of points squares (i + 1) e
IsExtent-same of points squares i p e there covered was = record {
  inside = λ k low. elim (below_or_at k i low) [
    | inl less ↦ was.inside k less
    | inr same ↦ inl (subst (IsCovered squares) (sym (ap (point_at points) same ∙ get_or_from_slice_get points i p origin there)) covered)
  ];
  low_at = was.low_at;
  high_at = was.high_at;
  low_seen = one_later e.low_at i was.low_seen;
  high_seen = one_later e.high_at i was.high_seen;
  low_first = was.low_first;
  high_first = was.high_first;
  plane = was.plane;
}

-- a point that no square contains
IsExtent-more : (of : PlanePoint → ℤ) (points : List PlanePoint) (squares : List Square) (i : ℕ) (p : PlanePoint) (old new : Extent)
    → slice_get points i ≡ Some p → ¬ IsCovered squares p → IsWithin plane_limit (of p) → IsExtent of points squares i old → Sees old (of p) i new → IsExtent of points squares (i + 1) new
IsExtent-more of points squares i p old new there free inside was sees = record {
  inside = λ k low. elim (below_or_at k i low) [
    | inl less ↦ elim (was.inside k less) [ inl covered ↦ inl covered | inr in_old ↦ inr (wider old new (of p) (of (point_at points k)) i sees in_old) ]
    | inr same ↦ inr (subst (λ v. (new.low ≤ℤ v) × (v ≤ℤ new.high)) (sym (ap (λ j. of (point_at points j)) same ∙ at.has)) (sees_value old new (of p) i sees))
  ];
  low_at = elim sees.low [ inl stays ↦ moved of points squares old.low_at new.low_at old.low new.low was.low_at stays.1 stays.2 | inr takes ↦ moved of points squares i new.low_at (of p) new.low at takes.1 takes.2 ];
  high_at = elim sees.high [ inl stays ↦ moved of points squares old.high_at new.high_at old.high new.high was.high_at stays.1 stays.2 | inr takes ↦ moved of points squares i new.high_at (of p) new.high at takes.1 takes.2 ];
  low_seen = elim sees.low [ inl stays ↦ (let l = was.low_seen in omega (arith, l, stays.2)) | inr takes ↦ omega (arith, takes.2) ];
  high_seen = elim sees.high [ inl stays ↦ (let l = was.high_seen in omega (arith, l, stays.2)) | inr takes ↦ omega (arith, takes.2) ];
  low_first = elim sees.low [
    | inl stays ↦ λ k sooner. subst (λ v. IsCovered squares (point_at points k) ⊎ (v <ℤ of (point_at points k))) (sym stays.1) (was.low_first k (subst (λ n. k < n) stays.2 sooner))
    | inr takes ↦ λ k sooner. elim (was.inside k (subst (λ n. k < n) takes.2 sooner)) [ inl covered ↦ inl covered | inr in_old ↦ inr (lower (of (point_at points k)) takes in_old) ]
  ];
  high_first = elim sees.high [
    | inl stays ↦ λ k sooner. subst (λ v. IsCovered squares (point_at points k) ⊎ (of (point_at points k) <ℤ v)) (sym stays.1) (was.high_first k (subst (λ n. k < n) stays.2 sooner))
    | inr takes ↦ λ k sooner. elim (was.inside k (subst (λ n. k < n) takes.2 sooner)) [ inl covered ↦ inl covered | inr in_old ↦ inr (higher (of (point_at points k)) takes in_old) ]
  ];
  plane = record {
    low = elim sees.low [ inl stays ↦ subst (IsWithin plane_limit) (sym stays.1) was.plane.low | inr takes ↦ subst (IsWithin plane_limit) (sym takes.1) inside ];
    high = elim sees.high [ inl stays ↦ subst (IsWithin plane_limit) (sym stays.1) was.plane.high | inr takes ↦ subst (IsWithin plane_limit) (sym takes.1) inside ];
    order = ordered (sees_value old new (of p) i sees);
  };
}
  where
    at : HasAt of points squares i (of p)
    at = here of points squares i p there free

    lower : (v : ℤ) → (of p <ℤ old.low) × (new.low ≡ of p) × (new.low_at ≡ i) → (old.low ≤ℤ v) × (v ≤ℤ old.high) → new.low <ℤ v
    lower v takes in_old = omega (arith, ints, takes.0, takes.1, in_old.0)

    higher : (v : ℤ) → (old.high <ℤ of p) × (new.high ≡ of p) × (new.high_at ≡ i) → (old.low ≤ℤ v) × (v ≤ℤ old.high) → v <ℤ new.high
    higher v takes in_old = omega (arith, ints, takes.0, takes.1, in_old.1)

    ordered : (new.low ≤ℤ of p) × (of p ≤ℤ new.high) → new.low ≤ℤ new.high
    ordered h = omega (arith, ints, h.0, h.1)

-- ---- the box

-- the box of the first point that no square contains
pub IsBox-start : (points : List PlanePoint) (squares : List Square) (i : ℕ) (p : PlanePoint) (b : Bounds)
    → ((k : ℕ) → k < i → IsCovered squares (point_at points k)) → slice_get points i ≡ Some p → ¬ IsCovered squares p → IsInPlane p
    → b.across ≡ record { low = p.x; high = p.x; low_at = i; high_at = i } → b.up ≡ record { low = p.y; high = p.y; low_at = i; high_at = i } → IsBox points squares (i + 1) b
IsBox-start points squares i p b before there free inside across up = record {
  across = IsExtent-start (λ p. p.x) points squares i p b.across before there free inside.x across;
  up = IsExtent-start (λ p. p.y) points squares i p b.up before there free inside.y up;
}

-- it stays where a square contains the next point
pub IsBox-same : (points : List PlanePoint) (squares : List Square) (i : ℕ) (p : PlanePoint) (b : Bounds)
    → slice_get points i ≡ Some p → IsCovered squares p → IsBox points squares i b → IsBox points squares (i + 1) b
IsBox-same points squares i p b there covered was = record {
  across = IsExtent-same (λ p. p.x) points squares i p b.across there covered was.across;
  up = IsExtent-same (λ p. p.y) points squares i p b.up there covered was.up;
}

-- and grows where none does
pub IsBox-more : (points : List PlanePoint) (squares : List Square) (i : ℕ) (p : PlanePoint) (old new : Bounds)
    → slice_get points i ≡ Some p → ¬ IsCovered squares p → IsInPlane p → IsBox points squares i old → Sees old.across p.x i new.across → Sees old.up p.y i new.up → IsBox points squares (i + 1) new
IsBox-more points squares i p old new there free inside was across up = record {
  across = IsExtent-more (λ p. p.x) points squares i p old.across new.across there free inside.x was.across across;
  up = IsExtent-more (λ p. p.y) points squares i p old.up new.up there free inside.y was.up up;
}

-- the box with a point more that no square contains
pub box_more : (points : List PlanePoint) (squares : List Square) (i : ℕ) (p : PlanePoint) (found : Option Bounds) (new : Bounds)
    → slice_get points i ≡ Some p → ¬ IsCovered squares p → IsInPlane p → IsFound points squares i found → Adds found p i new → IsBox points squares (i + 1) new
box_more points squares i p None new there free plane was adds = IsBox-start points squares i p new was there free plane adds.0 adds.1
box_more points squares i p (Some old) new there free plane was adds = IsBox-more points squares i p old new there free plane was adds.0 adds.1

-- nothing new where a square contains the point
pub found_same : (points : List PlanePoint) (squares : List Square) (i : ℕ) (p : PlanePoint) (found : Option Bounds)
    → slice_get points i ≡ Some p → IsCovered squares p → IsFound points squares i found → IsFound points squares (i + 1) found
found_same points squares i p None there covered was = λ k low. elim (below_or_at k i low) [
  | inl less ↦ was k less
  | inr same ↦ subst (IsCovered squares) (sym (ap (point_at points) same ∙ get_or_from_slice_get points i p origin there)) covered
]
found_same points squares i p (Some b) there covered was = IsBox-same points squares i p b there covered was

-- ---- all points seen

-- where no box was found, all points are covered, so nothing is left over
pub nothing_free : (points : List PlanePoint) (squares : List Square) (i : ℕ) → length points ≤ i → ((k : ℕ) → k < i → IsCovered squares (point_at points k)) → left_over squares points ≡ []
nothing_free points squares i all h =
    no_elements (left_over squares points) (All-left_over (λ p. ⊥) squares points (λ p m free. free (subst (IsCovered squares) (get_or_default points m.0 origin p m.1 ∙ m.2) (h m.0 (seen m.1)))))
  where
    seen : {k : ℕ} → k < length points → k < i
    seen l = omega arith

    no_elements : (ps : List PlanePoint) → All (λ p. ⊥) ps → ps ≡ []
    no_elements [] none = refl
    no_elements (p ∷ ps) none = absurd (none 0 p (omega arith))

-- a point at an end is left over
pub end_left : {of : PlanePoint → ℤ} {number : ℕ} {value : ℤ} (points : List PlanePoint) (squares : List Square) → HasAt of points squares number value → Contains (left_over squares points) (point_at points number)
end_left {of} {number} points squares at = Contains-left_over squares points (point_at points number) (Contains-get_or points number origin at.below) at.free

span_of_extent : (of : PlanePoint → ℤ) (points : List PlanePoint) (squares : List Square) (i : ℕ) (e : Extent) → length points ≤ i → IsExtent of points squares i e → IsSpan of points squares e
span_of_extent of points squares i e all h = record { inside = λ k below. h.inside k (seen below); low_at = h.low_at; high_at = h.high_at; plane = h.plane }
  where
    seen : {k : ℕ} → k < length points → k < i
    seen l = omega arith

-- the box of all points is that of what the squares leave over
pub rest_box : (points : List PlanePoint) (squares : List Square) (i : ℕ) (b : Bounds) → length points ≤ i → IsBox points squares i b → IsRestBox points squares b
rest_box points squares i b all h = record {
  across = span_of_extent (λ p. p.x) points squares i b.across all h.across;
  up = span_of_extent (λ p. p.y) points squares i b.up all h.up;
}
