-- The leaf of one square names the ends of the longer side of the points' bounding box.
use Rattle.std.proofs.Common.{◌≡◌, ◌⊎◌, inl, inr, sym, subst, ℕ, zero, suc, ◌+◌, ◌-◌, ◌<◌, ℤ, pos, ◌+ℤ◌, ◌-ℤ◌, ◌≤ℤ◌, ◌<ℤ◌, List, [], ◌∷◌, length, get_or, All, IsTrue, arith}
use Rattle.std.proofs.lemmas.Int.{ints}
use Rattle.std.proofs.lemmas.List.Elements.{All-nil}
use Rattle.bounds_model.specs.Plane.{PlanePoint, point_at, origin}
use Rattle.bounds_model.specs.CentresAnswer as model
use Rattle.corner_squares.specs.declared.square.Square.{Square}
use Rattle.corner_squares.specs.Squares.{square_of, IsCovered}
use Rattle.corner_squares.specs.Trees.{NamesPoints}
use Rattle.corner_squares.proofs.Covering.{between_sides}
use Rattle.corner_squares.proofs.LeftOver.{none_covered}
use Rattle.corner_squares.specs.Covers.{IsCover}
use Rattle.p_centres.specs.Surveys.{IsFirstFarIn, IsFirstFar}
use Rattle.p_centres.specs.Leaves.{later, IsAlong, IsOnlyLeaf}
use Rattle.p_centres.proofs.Ends.{first_least, first_greatest}

-- ---- what one square contains is no farther apart than its side

covered_alone : (s : Square) (p : PlanePoint) → IsCovered (s ∷ []) p → IsTrue (model.contains (square_of s) p)
covered_alone s p (zero, t, below, is, covered) = subst (λ u. IsTrue (model.contains (square_of u) p)) (sym is) covered
covered_alone s p (suc k, t, below, is, covered) = absurd (omega (arith, below))

-- two points of one square
in_one_square : (side : ℕ) (s : Square) (p q : PlanePoint) → s.side ≡ side → IsTrue (model.contains (square_of s) p) → IsTrue (model.contains (square_of s) q) → (q.x ≤ℤ (p.x +ℤ pos side)) × (q.y ≤ℤ (p.y +ℤ pos side))
in_one_square side s p q wide p_covered q_covered =
    let p_in = (between_sides (square_of s) p).0 p_covered in
    let q_in = (between_sides (square_of s) q).0 q_covered in
    (apart s.left p.x q.x s.side wide p_in.0.0 q_in.0.1, apart s.bottom p.y q.y s.side wide p_in.1.0 q_in.1.1)
  where
    apart : (low a b : ℤ) (length : ℕ) → length ≡ side → low ≤ℤ a → b ≤ℤ (low +ℤ pos length) → b ≤ℤ (a +ℤ pos side)
    apart low a b length is h k = omega (arith, ints, is, h, k)

-- two points that at most one square covers
covered_apart : (points : List PlanePoint) (side : ℕ) (squares : List Square) → IsCover points side 1 squares → (j k : ℕ) → j < length points → k < length points
    → ((point_at points k).x ≤ℤ ((point_at points j).x +ℤ pos side)) × ((point_at points k).y ≤ℤ ((point_at points j).y +ℤ pos side))
covered_apart points side [] h j k j_below k_below = absurd (none_covered (point_at points j) (h.covered j origin j_below))
covered_apart points side (s ∷ []) h j k j_below k_below =
    in_one_square side s (point_at points j) (point_at points k) (h.placed 0 s (omega arith)).wide (covered_alone s (point_at points j) (h.covered j origin j_below)) (covered_alone s (point_at points k) (h.covered k origin k_below))
covered_apart points side (s ∷ t ∷ rest) h j k j_below k_below = absurd (let few = h.few in omega (arith, few))

-- ---- the first points far apart are at the ends of the longer side

-- no two points are farther apart than so much
abbrev AreWithin : (PlanePoint → ℤ) → List PlanePoint → ℕ → Type 0
AreWithin of points side = (j k : ℕ) → j < length points → k < length points → of (point_at points k) ≤ℤ (of (point_at points j) +ℤ pos side)

-- no square contains anything where there is none
free : {A : Type 0} {p : PlanePoint} → IsCovered [] p ⊎ A → A
free {A} {p} (inl covered) = absurd (none_covered p covered)
free {A} {p} (inr a) = a

along : (of beside : PlanePoint → ℤ) (points : List PlanePoint) (limit i : ℕ) (leaf : model.Leaf) → NamesPoints points leaf → AreWithin of points (limit + 1) → AreWithin beside points (limit + 1)
    → IsFirstFarIn of beside points [] limit i leaf → IsAlong of beside points i leaf
along of beside points limit i leaf names near near_beside h = record {
  first = first_least of points leaf.first names.first (λ k below. least (of (point_at points leaf.first)) (of (point_at points leaf.second)) (of (point_at points k)) h.apart (near k leaf.second below names.second))
      (λ k sooner. free (h.ends.first_least k sooner));
  second = first_greatest of points leaf.second names.second (λ k below. greatest (of (point_at points leaf.first)) (of (point_at points leaf.second)) (of (point_at points k)) h.apart (near leaf.first k names.first below))
      (λ k sooner. free (h.ends.first_greatest k sooner));
  no_longer = λ j k j_below k_below. no_longer (of (point_at points leaf.first)) (of (point_at points leaf.second)) (beside (point_at points j)) (beside (point_at points k)) h.apart (near_beside j k j_below k_below);
  not_yet = λ j k j_sooner k_sooner. not_yet (of (point_at points leaf.first)) (of (point_at points leaf.second)) (beside (point_at points j)) (beside (point_at points k)) h.apart (free (free (h.others j k j_sooner k_sooner)));
}
  where
    least : (a b v : ℤ) → (a +ℤ pos limit) <ℤ b → b ≤ℤ (v +ℤ pos (limit + 1)) → a ≤ℤ v
    least a b v apart near = omega (arith, ints, apart, near)

    greatest : (a b v : ℤ) → (a +ℤ pos limit) <ℤ b → v ≤ℤ (a +ℤ pos (limit + 1)) → v ≤ℤ b
    greatest a b v apart near = omega (arith, ints, apart, near)

    no_longer : (a b v w : ℤ) → (a +ℤ pos limit) <ℤ b → w ≤ℤ (v +ℤ pos (limit + 1)) → w ≤ℤ (v +ℤ (b -ℤ a))
    no_longer a b v w apart near = omega (arith, ints, apart, near)

    not_yet : (a b v w : ℤ) → (a +ℤ pos limit) <ℤ b → w ≤ℤ (v +ℤ pos limit) → w <ℤ (v +ℤ (b -ℤ a))
    not_yet a b v w apart near = omega (arith, ints, apart, near)

only_leaf : (points : List PlanePoint) (limit : ℕ) (squares : List Square) (leaf : model.Leaf) → NamesPoints points leaf → IsCover points (limit + 1) 1 squares → IsFirstFar points [] limit leaf → IsOnlyLeaf points leaf
only_leaf points limit squares leaf names cover (inl in_x) =
    inl (along (λ p. p.x) (λ p. p.y) points limit (later leaf) leaf names (λ j k a b. (covered_apart points (limit + 1) squares cover j k a b).0) (λ j k a b. (covered_apart points (limit + 1) squares cover j k a b).1) in_x)
only_leaf points limit squares leaf names cover (inr in_y) =
    inr (along (λ p. p.y) (λ p. p.x) points limit (later leaf + 1) leaf names (λ j k a b. (covered_apart points (limit + 1) squares cover j k a b).1) (λ j k a b. (covered_apart points (limit + 1) squares cover j k a b).0) in_y)

-- so are the leaves at a side less by 1 than that of a square which covers the points: there is none where the side is 0
pub only_leaves : (points : List PlanePoint) (side count : ℕ) (squares : List Square) (leaves : List model.Leaf) → count ≡ 1 → All (NamesPoints points) leaves → IsCover points side count squares
    → model.AreLeaves side count points leaves → All (IsFirstFar points [] (side - 1)) leaves → All (IsOnlyLeaf points) leaves
only_leaves points zero count squares leaves one names cover are far = subst (All (IsOnlyLeaf points)) (sym are) (All-nil (IsOnlyLeaf points))
only_leaves points (suc limit) count squares leaves one names cover are far = λ k d below.
    only_leaf points limit squares (get_or leaves k d) (names k d below) (subst (λ side. IsCover points side 1 squares) one_more (subst (λ count. IsCover points (suc limit) count squares) one cover))
    (subst (λ n. IsFirstFar points [] n (get_or leaves k d)) one_less (far k d below))
  where
    one_more : suc limit ≡ limit + 1
    one_more = omega arith

    one_less : suc limit - 1 ≡ limit
    one_less = omega arith
