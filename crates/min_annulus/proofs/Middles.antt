-- The least and the greatest of points on one line.
use Rattle.std.proofs.Common.{◌≡◌, refl, sym, ◌∙◌, ap, ap₂, subst, inl, inr, ℕ, ◌<◌, ◌^◌, ℤ, pos, ◌+ℤ◌, ◌-ℤ◌, ◌*ℤ◌, ◌≤ℤ◌, ◌<ℤ◌, List, length, arith}
use Rattle.std.proofs.lemmas.Int.{ints}
use Rattle.std.proofs.lemmas.List.{get_or_default}
use Rattle.bounds_model.specs.Numbers.{IsWithin, EachBelow}
use Rattle.bounds_model.specs.Plane.{PlanePoint, PlaneRatio, point_at, origin, plane_limit, IsInPlane, IsBefore, IsLeastPoint, IsGreatestPoint}
use Rattle.bounds_model.specs.Space.{SamePlace, flat_ratio}
use Rattle.min_annulus.specs.declared.pairs.Pair.{Pair}
use Rattle.pair_weights.specs.declared.extremes.Extremes.{Extremes}
use Rattle.min_annulus.specs.DifferenceVectors.{difference_of, cross}
use Rattle.min_annulus.specs.LinearForms.{level, order_form, across_form, middle_form, centre_of}
use Rattle.min_annulus.specs.Pairs.{IsPair}
use Rattle.pair_weights.specs.Extremes.{AreExtremes}
use Rattle.min_annulus.specs.Lines.{rank, HasMiddle}
use Rattle.min_annulus.proofs.SameRecords.{same_place}
use Rattle.min_annulus.proofs.Sorting.{rank_is, across_is, ends_pair}

-- ---- ranks, by plain numbers

before_plain : {ax ay bx by : ℤ} → ax <ℤ bx → IsWithin plane_limit ay → IsWithin plane_limit by → (pos (2 ^ 19) *ℤ ax +ℤ ay) ≤ℤ (pos (2 ^ 19) *ℤ bx +ℤ by)
before_plain h k l =
    let a = k.high in
    let b = l.low in
    omega (arith, ints)

below_plain : {ax ay bx by : ℤ} → ax ≡ bx → ay ≤ℤ by → (pos (2 ^ 19) *ℤ ax +ℤ ay) ≤ℤ (pos (2 ^ 19) *ℤ bx +ℤ by)
below_plain h k = omega (arith, ints)

same_plain : {ax ay bx by : ℤ} → IsWithin plane_limit ay → IsWithin plane_limit by → (pos (2 ^ 19) *ℤ ax +ℤ ay) ≤ℤ (pos (2 ^ 19) *ℤ bx +ℤ by) → (pos (2 ^ 19) *ℤ bx +ℤ by) ≤ℤ (pos (2 ^ 19) *ℤ ax +ℤ ay) → (ax ≡ bx) × (ay ≡ by)
same_plain k l h i =
    let a = k.low in
    let b = k.high in
    let d = l.low in
    let e = l.high in
    (omega (arith, ints), omega (arith, ints))

-- a point before another has no higher rank
before_rank : (a b : PlanePoint) → IsInPlane a → IsInPlane b → IsBefore a b → rank a ≤ℤ rank b
before_rank a b ha hb (inl h) = before_plain h ha.y hb.y
before_rank a b ha hb (inr h) = below_plain h.0 h.1

-- points of one rank are the same
same_rank : (a b : PlanePoint) → IsInPlane a → IsInPlane b → rank a ≤ℤ rank b → rank b ≤ℤ rank a → (a.x ≡ b.x) × (a.y ≡ b.y)
same_rank a b ha hb h k = same_plain ha.y hb.y h k

-- ---- the least and the greatest point

-- the least is where the order begins
pub least_same : (points : List PlanePoint) (order : Extremes) (a : PlanePoint) → AreExtremes (λ i. level order_form (point_at points i)) (length points) order → EachBelow (length points) (λ i. IsInPlane (point_at points i)) → IsLeastPoint points a
    → (a.x ≡ (point_at points order.near).x) × (a.y ≡ (point_at points order.near).y)
least_same points order a extremes inside least =
    let k = least.listed.0 in
    let is : point_at points k ≡ a = get_or_default points k origin a least.listed.1 ∙ least.listed.2 in
    let in_plane = subst IsInPlane is (inside k least.listed.1) in
    let near = point_at points order.near in
    same_rank a near in_plane (inside order.near extremes.near)
    (before_rank a near in_plane (inside order.near extremes.near) (least.least order.near origin extremes.near))
    (subst (λ z. z ≤ℤ rank a) (extremes.low ∙ rank_is near) (subst (λ z. order.low ≤ℤ z) (ap (level order_form) is ∙ rank_is a) (extremes.lowest k least.listed.1)))

-- and the greatest where it ends
pub greatest_same : (points : List PlanePoint) (order : Extremes) (b : PlanePoint) → AreExtremes (λ i. level order_form (point_at points i)) (length points) order → EachBelow (length points) (λ i. IsInPlane (point_at points i)) → IsGreatestPoint points b
    → (b.x ≡ (point_at points order.far).x) × (b.y ≡ (point_at points order.far).y)
greatest_same points order b extremes inside greatest =
    let k = greatest.listed.0 in
    let is : point_at points k ≡ b = get_or_default points k origin b greatest.listed.1 ∙ greatest.listed.2 in
    let in_plane = subst IsInPlane is (inside k greatest.listed.1) in
    let far = point_at points order.far in
    same_rank b far in_plane (inside order.far extremes.far)
    (subst (λ z. rank b ≤ℤ z) (extremes.high ∙ rank_is far) (subst (λ z. z ≤ℤ order.high) (ap (level order_form) is ∙ rank_is b) (extremes.highest k greatest.listed.1)))
    (before_rank far b (inside order.far extremes.far) in_plane (greatest.greatest order.far origin extremes.far))

-- ---- the middle

-- on one line, the centre is the middle
pub middle_is : (points : List PlanePoint) (order : Extremes) (centre : PlaneRatio) → AreExtremes (λ i. level order_form (point_at points i)) (length points) order → EachBelow (length points) (λ i. IsInPlane (point_at points i))
    → SamePlace (flat_ratio centre) (flat_ratio (centre_of (middle_form (point_at points order.near) (point_at points order.far)))) → HasMiddle points centre
middle_is points order centre extremes inside place a b least greatest line =
    let first = least_same points order a extremes inside least in
    let last = greatest_same points order b extremes inside greatest in
    same_place place (ap₂ (λ x y. x +ℤ y) (sym first.0) (sym last.0)) (ap₂ (λ x y. x +ℤ y) (sym first.1) (sym last.1)) refl

-- where the points are not all as far across, they are on no line
pub no_middle : (points : List PlanePoint) (order across : Extremes) (whole : Pair) (centre : PlaneRatio) → AreExtremes (λ i. level order_form (point_at points i)) (length points) order → EachBelow (length points) (λ i. IsInPlane (point_at points i))
    → IsPair points whole → whole.first ≡ order.far → whole.second ≡ order.near → AreExtremes (λ i. level (across_form whole.difference) (point_at points i)) (length points) across → (across.high ≡ across.low → ⊥) → HasMiddle points centre
no_middle points order across whole centre extremes inside is far near sides apart a b least greatest line = absurd (apart (sides.high ∙ equal (level (across_form whole.difference) (point_at points order.near)) (flat across.far sides.far) (flat across.near sides.near) ∙ sym sides.low))
  where
    first : (a.x ≡ (point_at points order.near).x) × (a.y ≡ (point_at points order.near).y)
    first = least_same points order a extremes inside least

    last : (b.x ≡ (point_at points order.far).x) × (b.y ≡ (point_at points order.far).y)
    last = greatest_same points order b extremes inside greatest

    turns : (ax ay bx by px py cx cy dx dy : ℤ) → ax ≡ cx → ay ≡ cy → bx ≡ dx → by ≡ dy → (bx -ℤ ax) *ℤ (py -ℤ ay) -ℤ (by -ℤ ay) *ℤ (px -ℤ ax) ≡ pos 0 → (dx -ℤ cx) *ℤ (py -ℤ cy) -ℤ (dy -ℤ cy) *ℤ (px -ℤ cx) ≡ pos 0
    turns ax ay bx by px py cx cy dx dy e f g h k =
        subst (λ z. (z -ℤ cx) *ℤ (py -ℤ cy) -ℤ (dy -ℤ cy) *ℤ (px -ℤ cx) ≡ pos 0) g
        (subst (λ z. (bx -ℤ cx) *ℤ (py -ℤ cy) -ℤ (z -ℤ cy) *ℤ (px -ℤ cx) ≡ pos 0) h
        (subst (λ z. (bx -ℤ z) *ℤ (py -ℤ cy) -ℤ (by -ℤ cy) *ℤ (px -ℤ z) ≡ pos 0) e
        (subst (λ z. (bx -ℤ ax) *ℤ (py -ℤ z) -ℤ (by -ℤ z) *ℤ (px -ℤ ax) ≡ pos 0) f k)))

    flat : (i : ℕ) → i < length points → level (across_form whole.difference) (point_at points i) -ℤ level (across_form whole.difference) (point_at points order.near) ≡ pos 0
    flat i below =
        across_is whole.difference (point_at points i) (point_at points order.near)
        ∙ subst (λ e. cross e (difference_of (point_at points i) (point_at points order.near)) ≡ pos 0) (sym (ends_pair points order whole is far near))
        (turns a.x a.y b.x b.y (point_at points i).x (point_at points i).y _ _ _ _ first.0 first.1 last.0 last.1 (line i origin below))

    equal : {x y : ℤ} (z : ℤ) → x -ℤ z ≡ pos 0 → y -ℤ z ≡ pos 0 → x ≡ y
    equal z h k = omega (arith, ints)
