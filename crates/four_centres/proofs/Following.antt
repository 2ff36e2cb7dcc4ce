-- When three squares can follow a first one: a cover shows it, the leaves of a tree refute it, and larger squares can where smaller ones can.
use Rattle.std.proofs.Common.{◌≡◌, inl, inr, refl, sym, subst, ap, ◌∙◌, ℕ, zero, suc, ◌^◌, ◌<◌, ◌≤◌, ℤ, pos, ◌+ℤ◌, ◌-ℤ◌, ◌≤ℤ◌, ◌<ℤ◌, List, [], ◌∷◌, length, map, All, Any, Contains, IsTrue, arith}
use Rattle.std.specs.Prelude.{slice_index_or}
use Rattle.std.proofs.lemmas.Int.{ints}
use Rattle.std.proofs.lemmas.List.{get_or_default, get_or-map, length-map}
use Rattle.std.proofs.lemmas.List.Elements.{All-contains, All-map}
use Rattle.bounds_model.specs.Plane.{PlanePoint}
use Rattle.bounds_model.specs.CentresAnswer as model
use Rattle.bounds_model.specs.CentresAnswer.{contains, outside}
use Rattle.optimality.proofs.Colours.{AreNear, IsColoured}
use Rattle.corner_squares.specs.declared.square.Square.{Square}
use Rattle.corner_squares.specs.Squares.{square_of, IsCovered}
use Rattle.corner_squares.specs.Trees.{AreLeavesAt}
use Rattle.corner_squares.proofs.Covering.{between_sides}
use Rattle.corner_squares.proofs.LeftOver.{Contains-left_over, listed, free_of_left_over}
use Rattle.bounds_model.specs.FourAnswer.{first_square}
use Rattle.optimality.proofs.FourLaw.{none_below}
use Rattle.corner_squares.specs.declared.least.Least.{Least}
use Rattle.corner_squares.specs.LeastPoints.{point_of}
use Rattle.corner_squares.specs.Covers.{IsPlaced, IsCover, AreMore}
use Rattle.four_centres.specs.Heights.{CanFollow, IsDone}

-- ---- outside of one square

-- what is outside of a square is a point that it does not contain
outside_parts : (s : Square) (points : List PlanePoint) (p : PlanePoint) → Contains (outside (square_of s) points) p → Contains points p × (¬ IsCovered (s ∷ []) p)
outside_parts s points p m = (listed (s ∷ []) points p m, free_of_left_over (s ∷ []) points p m)

into_outside : (s : Square) (points : List PlanePoint) (p : PlanePoint) → Contains points p → ¬ IsTrue (contains (square_of s) p) → Contains (outside (square_of s) points) p
into_outside s points p m free = Contains-left_over (s ∷ []) points p m (λ covered. free (only s p covered))
  where
    only : (s : Square) (p : PlanePoint) → IsCovered (s ∷ []) p → IsTrue (contains (square_of s) p)
    only s p (zero, t, below, is, covered) = subst (λ t. IsTrue (contains (square_of t) p)) (sym is) covered
    only s p (suc k, t, below, is, covered) = absurd (omega (arith, below))

covered_alone : (s : Square) (p : PlanePoint) → IsTrue (contains (square_of s) p) → IsCovered (s ∷ []) p
covered_alone s p h = (0, s, omega arith, refl, h)

-- ---- a cover shows it

later_square : (first : Square) (more : List Square) (p : PlanePoint) → IsCovered (first ∷ more) p → ¬ IsCovered (first ∷ []) p → Any (λ s. IsTrue (contains s p)) (map square_of more)
later_square first more p (zero, t, below, is, covered) free = absurd (free (covered_alone first p (subst (λ t. IsTrue (contains (square_of t) p)) (sym is) covered)))
later_square first more p (suc k, t, below, is, covered) free = (
  k,
  square_of t,
  subst (λ n. k < n) (sym (length-map more square_of)) (less below),
  get_or-map square_of more k t (square_of t) (less below) ∙ ap square_of is,
  covered,
)
  where
    less : suc k < suc (length more) → k < length more
    less l = omega (arith, l)

pub follows_by_cover : (points : List PlanePoint) (first : Square) (squares : List Square) → IsCover points first.side 4 squares → AreMore (first ∷ []) squares → CanFollow points (square_of first)
follows_by_cover points first squares h more = record {
  others = map square_of more.0;
  few = (let e = length-map more.0 square_of in let l = subst (λ ss. length ss ≤ 4) more.1 h.few in fewer (length (map square_of more.0)) (length more.0) e l);
  wide = All-map (λ s. s.side ≡ first.side) square_of more.0 (λ k d below. (placed (suc k) d (later k below)).wide);
  covered = λ k d below.
      let rest = outside (square_of first) points in
      let m : Contains rest (slice_index_or rest k d) = (k, below, get_or_default rest k (slice_index_or rest k d) d below) in
      let parts = outside_parts first points (slice_index_or rest k d) m in
      later_square first more.0 (slice_index_or rest k d) (subst (λ ss. IsCovered ss (slice_index_or rest k d)) more.1 (All-contains (IsCovered squares) points (slice_index_or rest k d) h.covered parts.0)) parts.1;
}
  where
    placed : All (IsPlaced first.side) (first ∷ more.0)
    placed = subst (All (IsPlaced first.side)) more.1 h.placed

    later : (k : ℕ) → k < length more.0 → suc k < suc (length more.0)
    later k l = omega (arith, l)

    fewer : (a b : ℕ) → a ≡ b → suc b ≤ 4 → a ≤ 3
    fewer a b e l = omega (arith, e, l)

-- ---- leaves refute it

-- two points of one square are near each other
near_in_square : (s : model.Square) (p q : PlanePoint) → IsTrue (contains s p) → IsTrue (contains s q) → AreNear s.side p q
near_in_square s p q hp hq =
    let a = (between_sides s p).0 hp in
    let b = (between_sides s q).0 hq in
    record { in_x = near p.x q.x s.left s.side a.0.1 b.0.0; in_y = near p.y q.y s.bottom s.side a.1.1 b.1.0 }
  where
    near : (a b low : ℤ) (side : ℕ) → a ≤ℤ (low +ℤ pos side) → low ≤ℤ b → (a -ℤ b) ≤ℤ pos side
    near a b low side h k = omega (arith, ints, h, k)

-- each point has the colour of a square that covers it
colours : (points : List PlanePoint) (first : model.Square) (h : CanFollow points first) → IsColoured first.side 3 (outside first points) (λ p m. (All-contains (λ p. Any (λ s. IsTrue (contains s p)) h.others) (outside first points) p h.covered m).0)
colours points first h = record {
  below = λ p m. (let l = (at p m).2 in let f = h.few in less (at p m).0 (length h.others) l f);
  near = λ p q m n same.
      let s = (at p m).1 in
      let t = (at q n).1 in
      let is : t ≡ s = sym (at q n).3 ∙ ap (λ k. slice_index_or h.others k t) (sym same) ∙ get_or_default h.others (at p m).0 t s (at p m).2 ∙ (at p m).3 in
      let wide : s.side ≡ first.side = subst (λ s. s.side ≡ first.side) (at p m).3 (h.wide (at p m).0 s (at p m).2) in
      subst (λ side. AreNear side p q) wide (near_in_square s p q (at p m).4 (subst (λ t. IsTrue (contains t q)) is (at q n).4));
}
  where
    at : (p : PlanePoint) → Contains (outside first points) p → Any (λ s. IsTrue (contains s p)) h.others
    at p m = All-contains (λ p. Any (λ s. IsTrue (contains s p)) h.others) (outside first points) p h.covered m

    less : (k n : ℕ) → k < n → n ≤ 3 → k < 3
    less k n l f = omega (arith, l, f)

-- any leaf, for reading past the end of a list
abbrev no_leaf : model.Leaf
no_leaf = record { first = 0; second = 0 }

pub refuted_by_leaves : (points : List PlanePoint) (first : model.Square) (leaves : List model.Leaf) → AreLeavesAt first.side 2 points (outside first points) leaves → ¬ CanFollow points first
refuted_by_leaves points first leaves h follow =
    none_below first.side points (outside first points) _ (colours points first follow) (λ number. slice_index_or leaves number no_leaf)
    (λ number small. (h.each number no_leaf (subst (λ n. number < n) (sym (h.as_many ∙ sixteen)) small)).below)
  where
    sixteen : 4 ^ 2 ≡ 16
    sixteen = omega arith

-- ---- larger squares

-- the square with the same corner and another side
abbrev widened : ℕ → model.Square → model.Square
widened side s = record { left = s.left; bottom = s.bottom; side = side }

contains_more : (s : model.Square) (side : ℕ) (p : PlanePoint) → s.side ≤ side → IsTrue (contains s p) → IsTrue (contains (widened side s) p)
contains_more s side p more h =
    let a = (between_sides s p).0 h in
    (between_sides (widened side s) p).1 ((a.0.0, up p.x s.left a.0.1), (a.1.0, up p.y s.bottom a.1.1))
  where
    up : (v low : ℤ) → v ≤ℤ (low +ℤ pos s.side) → v ≤ℤ (low +ℤ pos side)
    up v low h = omega (arith, ints, h, more)

pub follows_larger : (points : List PlanePoint) (least : PlanePoint) (height : ℤ) (small large : ℕ) → small ≤ large → CanFollow points (first_square small least height) → CanFollow points (first_square large least height)
follows_larger points least height small large more h = record {
  others = map (widened large) h.others;
  few = subst (λ n. n ≤ 3) (sym (length-map h.others (widened large))) h.few;
  wide = All-map (λ s. s.side ≡ large) (widened large) h.others (λ k d below. refl);
  covered = λ k d below.
      let rest = outside (first_square large least height) points in
      let m : Contains rest (slice_index_or rest k d) = (k, below, get_or_default rest k (slice_index_or rest k d) d below) in
      let p = slice_index_or rest k d in
      let parts = outside_parts (square_at large) points p m in
      let inside = into_outside (square_at small) points p parts.0 (λ covered. parts.1 (covered_alone (square_at large) p (contains_more (first_square small least height) large p more covered))) in
      let any = All-contains (λ p. Any (λ s. IsTrue (contains s p)) h.others) (outside (first_square small least height) points) p h.covered inside in
      let wide : any.1.side ≡ small = subst (λ s. s.side ≡ small) any.3 (h.wide any.0 any.1 any.2) in (
        any.0,
        widened large any.1,
        subst (λ n. any.0 < n) (sym (length-map h.others (widened large))) any.2,
        get_or-map (widened large) h.others any.0 any.1 (widened large any.1) any.2 ∙ ap (widened large) any.3,
        contains_more any.1 large p (subst (λ n. n ≤ large) (sym wide) more) any.4,
      );
}
  where
    square_at : ℕ → Square
    square_at side = record { left = least.x; bottom = height; side = side }

-- what is done for a side is done for less
pub done_for_less : (points : List PlanePoint) (least : Least) (height : ℤ) (now before : ℕ) → now ≤ before → IsDone points least height before → IsDone points least height now
done_for_less points least height zero before less h = tt
done_for_less points least height (suc now) zero less h = absurd (omega (arith, less))
done_for_less points least height (suc now) (suc before) less h = elim h [
  | inl beyond ↦ inl (lower beyond)
  | inr refuted ↦ inr (λ follow. refuted (follows_larger points (point_of least) height now before (omega (arith, less)) follow))
]
  where
    lower : height <ℤ (least.y -ℤ pos before) → height <ℤ (least.y -ℤ pos now)
    lower h = omega (arith, ints, h, less)
