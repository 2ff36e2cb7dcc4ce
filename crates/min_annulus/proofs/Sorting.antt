-- Whether the points are on one line.
use Rattle.std.proofs.Common.{◌≡◌, sym, ◌∙◌, ap₂, subst, ◌^◌, ℤ, pos, ◌+ℤ◌, ◌-ℤ◌, ◌*ℤ◌, neg_ℤ, ◌≤ℤ◌, ◌<ℤ◌, List, [], ◌∷◌, length, arith}
use Rattle.std.proofs.lemmas.Int.{ints, by_lt_z}
use Rattle.integers.proofs.Identities.{den-ring, read, polys, lits}
use Rattle.integers.proofs.Order.{le_antisymm_ℤ}
use Rattle.bounds_model.specs.Plane.{PlanePoint, point_at}
use Rattle.min_annulus.specs.declared.difference_vectors.DifferenceVector.{DifferenceVector}
use Rattle.min_annulus.specs.declared.pairs.Pair.{Pair}
use Rattle.pair_weights.specs.declared.extremes.Extremes.{Extremes}
use Rattle.min_annulus.specs.DifferenceVectors.{difference_of, cross, IsAhead}
use Rattle.min_annulus.specs.LinearForms.{level, order_form, across_form}
use Rattle.min_annulus.specs.Pairs.{IsPair}
use Rattle.pair_weights.specs.Extremes.{AreExtremes}
use Rattle.min_annulus.specs.Lines.{AreCollinear, rank}

plain_rank : (s x y : ℤ) → pos 0 *ℤ s -ℤ (neg_ℤ (pos (2 ^ 19)) *ℤ x +ℤ neg_ℤ (pos 1) *ℤ y) ≡ pos (2 ^ 19) *ℤ x +ℤ y
plain_rank s x y = omega (arith, ints)

-- the order's level is the rank
pub rank_is : (p : PlanePoint) → level order_form p ≡ rank p
rank_is p = plain_rank (p.x *ℤ p.x +ℤ p.y *ℤ p.y) p.x p.y

plain_across : (ex ey px py qx qy : ℤ)
    → (pos 0 *ℤ (px *ℤ px +ℤ py *ℤ py) -ℤ (ey *ℤ px +ℤ neg_ℤ ex *ℤ py)) -ℤ (pos 0 *ℤ (qx *ℤ qx +ℤ qy *ℤ qy) -ℤ (ey *ℤ qx +ℤ neg_ℤ ex *ℤ qy))
    ≡ ex *ℤ (py -ℤ qy) -ℤ ey *ℤ (px -ℤ qx)
plain_across ex ey px py qx qy = read (ex ∷ ey ∷ px ∷ py ∷ qx ∷ qy ∷ []) (λ xs a b c d e f. simp (a, b, c, d, e, f, polys, lits xs) (den-ring xs _ _ tt))

-- how much farther to the left of a direction one point is than another
pub across_is : (e : DifferenceVector) (p q : PlanePoint) → level (across_form e) p -ℤ level (across_form e) q ≡ cross e (difference_of p q)
across_is e p q = plain_across e.x e.y p.x p.y q.x q.y

-- the pair of the extremes
pub ends_pair : (points : List PlanePoint) (e : Extremes) (pair : Pair) → IsPair points pair → pair.first ≡ e.far → pair.second ≡ e.near → pair.difference ≡ difference_of (point_at points e.far) (point_at points e.near)
ends_pair points e pair is far near = is.difference ∙ ap₂ (λ i j. difference_of (point_at points i) (point_at points j)) far near

-- from the least to the greatest point is ahead
pub whole_ahead : (points : List PlanePoint) (order : Extremes) (whole : Pair) → AreExtremes (λ i. level order_form (point_at points i)) (length points) order → IsPair points whole → whole.first ≡ order.far → whole.second ≡ order.near
    → IsAhead whole.difference
whole_ahead points order whole extremes is far near =
    let a = point_at points order.near in
    let b = point_at points order.far in
    subst IsAhead (sym (ends_pair points order whole is far near))
    (ranks a.x a.y b.x b.y (subst (λ z. z ≤ℤ rank b) (rank_is a) (subst (λ z. level order_form a ≤ℤ z) (rank_is b) (subst (λ z. z ≤ℤ level order_form b) extremes.low (extremes.lowest order.far extremes.far)))))
  where
    ranks : (px py qx qy : ℤ) → (pos (2 ^ 19) *ℤ px +ℤ py) ≤ℤ (pos (2 ^ 19) *ℤ qx +ℤ qy) → pos 0 ≤ℤ (pos (2 ^ 19) *ℤ (qx -ℤ px) +ℤ (qy -ℤ py))
    ranks px py qx qy h = omega (arith, ints)

-- where the points are not all as far across, the pair that spans them is to the left
pub side_left : (points : List PlanePoint) (e : DifferenceVector) (across : Extremes) (side : Pair) → AreExtremes (λ i. level (across_form e) (point_at points i)) (length points) across → IsPair points side → side.first ≡ across.far → side.second ≡ across.near
    → (across.high ≡ across.low → ⊥) → pos 0 <ℤ cross e side.difference
side_left points e across side extremes is far near apart =
    subst (λ d. pos 0 <ℤ cross e d) (sym (ends_pair points across side is far near))
    (subst (λ z. pos 0 <ℤ z) (ap₂ (λ h l. h -ℤ l) extremes.high extremes.low ∙ across_is e (point_at points across.far) (point_at points across.near))
    (higher apart (subst (λ z. across.low ≤ℤ z) (sym extremes.high) (extremes.lowest across.far extremes.far))))
  where
    higher : {h l : ℤ} → (h ≡ l → ⊥) → l ≤ℤ h → pos 0 <ℤ (h -ℤ l)
    higher {h} {l} n k = by_lt_z l h (λ m. omega (arith, ints)) (λ m. absurd (n (le_antisymm_ℤ m k)))

-- where they are, the points are on one line
pub on_one_line : (points : List PlanePoint) (order across : Extremes) (whole : Pair) → AreExtremes (λ i. level order_form (point_at points i)) (length points) order → IsPair points whole → whole.first ≡ order.far → whole.second ≡ order.near
    → AreExtremes (λ i. level (across_form whole.difference) (point_at points i)) (length points) across → across.high ≡ across.low → AreCollinear points order.near order.far
on_one_line points order across whole extremes is far near sides flat = record {
  first_listed = extremes.near;
  last_listed = extremes.far;
  least = λ i below. subst (λ z. z ≤ℤ rank (point_at points i)) (extremes.low ∙ rank_is (point_at points order.near)) (subst (λ z. order.low ≤ℤ z) (rank_is (point_at points i)) (extremes.lowest i below));
  greatest = λ i below. subst (λ z. rank (point_at points i) ≤ℤ z) (extremes.high ∙ rank_is (point_at points order.far)) (subst (λ z. z ≤ℤ order.high) (rank_is (point_at points i)) (extremes.highest i below));
  line = λ i below. subst (λ e. cross e (difference_of (point_at points i) (point_at points order.near)) ≡ pos 0) (ends_pair points order whole is far near)
      (sym (across_is whole.difference (point_at points i) (point_at points order.near))
      ∙ equal flat (sides.highest i below) (sides.lowest i below) (sides.highest order.near extremes.near) (sides.lowest order.near extremes.near));
}
  where
    equal : {h l x y : ℤ} → h ≡ l → x ≤ℤ h → l ≤ℤ x → y ≤ℤ h → l ≤ℤ y → x -ℤ y ≡ pos 0
    equal e a b c d = omega (arith, ints)
