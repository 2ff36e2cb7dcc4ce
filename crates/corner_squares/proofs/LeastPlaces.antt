-- The least point, found point by point.
use Rattle.std.proofs.Common.{◌≡◌, ◌⊎◌, inl, inr, sym, subst, ap, ◌∙◌, ℕ, ◌+◌, ◌<◌, ℤ, ◌≤ℤ◌, ◌<ℤ◌, List, length, arith}
use Rattle.std.specs.Prelude.{slice_get, Some}
use Rattle.std.proofs.lemmas.Int.{ints}
use Rattle.std.proofs.lemmas.Option.{get_or_from_slice_get}
use Rattle.std.proofs.lemmas.List.{get_or_default}
use Rattle.integers.proofs.Lists.{below_or_at}
use Rattle.bounds_model.specs.Plane.{PlanePoint, point_at, origin, IsBefore, IsLeastPoint}
use Rattle.corner_squares.specs.declared.least.Least.{Least}
use Rattle.corner_squares.specs.LeastPoints.{point_of, IsLesser}

-- where a point is not before another, the other is before it
before_itself : (a b : PlanePoint) → a ≡ b → IsBefore a b
before_itself a b e = inr (ap (λ p. p.x) e, at_most a.y b.y (ap (λ p. p.y) e))
  where
    at_most : (v w : ℤ) → v ≡ w → v ≤ℤ w
    at_most v w e = omega (arith, ints, e)

before_trans : (a b c : PlanePoint) → IsBefore a b → IsBefore b c → IsBefore a c
before_trans a b c h k = plain a.x a.y b.x b.y c.x c.y h k
  where
    plain : (ax ay bx by cx cy : ℤ) → (ax <ℤ bx) ⊎ ((ax ≡ bx) × (ay ≤ℤ by)) → (bx <ℤ cx) ⊎ ((bx ≡ cx) × (by ≤ℤ cy)) → (ax <ℤ cx) ⊎ ((ax ≡ cx) × (ay ≤ℤ cy))
    plain ax ay bx by cx cy (inl h) (inl k) = inl (omega (arith, ints, h, k))
    plain ax ay bx by cx cy (inl h) (inr k) = let e = k.0 in inl (omega (arith, ints, h, e))
    plain ax ay bx by cx cy (inr h) (inl k) = let e = h.0 in inl (omega (arith, ints, k, e))
    plain ax ay bx by cx cy (inr h) (inr k) = let d = h.1 in let e = k.1 in inr (h.0 ∙ k.0, omega (arith, ints, d, e))

-- the least of the first i points
pub record IsLeastOf (points : List PlanePoint) (i : ℕ) (a : PlanePoint) : Type 0 where
  pub listed : (k : ℕ) × (k < i) × (point_at points k ≡ a)
  pub least : (k : ℕ) → k < i → IsBefore a (point_at points k)

-- the first point alone
pub least_of_one : (points : List PlanePoint) (p a : PlanePoint) → slice_get points 0 ≡ Some p → a ≡ p → IsLeastOf points 1 a
least_of_one points p a there is = record {
  listed = (0, omega arith, get_or_from_slice_get points 0 p origin there ∙ sym is);
  least = λ k low. before_itself a (point_at points k) (is ∙ sym (get_or_from_slice_get points 0 p origin there) ∙ ap (point_at points) (first k low));
}
  where
    first : (k : ℕ) → k < 1 → 0 ≡ k
    first k l = omega (arith, l)

-- one point more, which changes nothing
least_stays : (points : List PlanePoint) (i : ℕ) (a p : PlanePoint) → IsLeastOf points i a → slice_get points i ≡ Some p → IsBefore a p → IsLeastOf points (i + 1) a
least_stays points i a p h there before = record {
  listed = (h.listed.0, (let l = h.listed.1 in omega (arith, l)), h.listed.2);
  least = λ k low. elim (below_or_at k i low) [ inl sooner ↦ h.least k sooner | inr now ↦ subst (IsBefore a) (sym (ap (point_at points) now ∙ get_or_from_slice_get points i p origin there)) before ];
}

-- or is less
least_moves : (points : List PlanePoint) (i : ℕ) (a p b : PlanePoint) → IsLeastOf points i a → slice_get points i ≡ Some p → b ≡ p → IsBefore p a → IsLeastOf points (i + 1) b
least_moves points i a p b h there is before = record {
  listed = (i, omega arith, get_or_from_slice_get points i p origin there ∙ sym is);
  least = λ k low. elim (below_or_at k i low) [
    | inl sooner ↦ subst (λ q. IsBefore q (point_at points k)) (sym is) (before_trans p a (point_at points k) before (h.least k sooner))
    | inr now ↦ before_itself b (point_at points k) (is ∙ sym (ap (point_at points) now ∙ get_or_from_slice_get points i p origin there))
  ];
}

-- one point more
pub least_next : (points : List PlanePoint) (i : ℕ) (a p b : PlanePoint) → IsLeastOf points i a → slice_get points i ≡ Some p → ((b ≡ a) × IsBefore a p) ⊎ ((b ≡ p) × IsBefore p a) → IsLeastOf points (i + 1) b
least_next points i a p b h there (inl stays) = subst (IsLeastOf points (i + 1)) (sym stays.0) (least_stays points i a p h there stays.1)
least_next points i a p b h there (inr moves) = least_moves points i a p b h there moves.0 moves.1

-- of all points
pub least_of_all : (points : List PlanePoint) (i : ℕ) (a : PlanePoint) → i ≡ length points → IsLeastOf points i a → IsLeastPoint points a
least_of_all points i a is h = record {
  listed = (h.listed.0, below, get_or_default points h.listed.0 a origin below ∙ h.listed.2);
  least = λ k d l. subst (IsBefore a) (get_or_default points k origin d l) (h.least k (subst (λ n. k < n) (sym is) l));
}
  where
    below : h.listed.0 < length points
    below = subst (λ n. h.listed.0 < n) is h.listed.1

-- the lesser place as a point
pub lesser_point : (old : Least) (p : PlanePoint) (new : Least) → IsLesser old p new → ((point_of new ≡ point_of old) × IsBefore (point_of old) p) ⊎ ((point_of new ≡ p) × IsBefore p (point_of old))
lesser_point old p new (inl stays) = inl (ap point_of stays.0, stays.1)
lesser_point old p new (inr moves) = inr moves
