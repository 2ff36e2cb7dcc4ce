-- Two best answers on furthest corners print one size, also for the points in another order: at each corner both name one at the same distance.
use Rattle.std.proofs.Common.{◌≡◌, sym, ◌∙◌, ap, subst, ℕ, ◌<◌, pos, ◌*ℤ◌, ◌≤ℤ◌, ◌<ℤ◌, ℤ, List, [], ◌∷◌, length, arith}
use Rattle.std.specs.Prelude.{IsPermutation, slice_index_or}
use Rattle.std.proofs.lemmas.Int.{ints}
use Rattle.std.proofs.lemmas.List.{get_or_default}
use Rattle.integers.specs.Extremes.{greatest}
use Rattle.integers.proofs.Extremes.{below_greatest, has_greatest}
use Rattle.bounds_model.specs.Plane.{PlanePoint, point_at, origin, squared_distance}
use Rattle.bounds_model.specs.Furthest.{IsFurthest}
use Rattle.bounds_model.specs.FurthestAnswer.{Entry, FurthestAnswer, entry_points, far_at, far_distance, furthest_size}
use Rattle.bounds_model.specs.Numbers.{EachBelow}
use Rattle.bounds_model.specs.Hull.{AreCorners}
use Rattle.bounds_model.specs.Answers.Claim.{furthest_claim}
use Rattle.model_laws.proofs.PermutedFits.{corners_stay}
use Rattle.model_laws.proofs.CornersUnique.{one_list_of_corners}
use Rattle.model_laws.proofs.BestSizes.{same_printed}
use Rattle.model_laws.proofs.KindSizes.{Stands}
use Rattle.model_laws.proofs.EntryPoints.{none, corner_count, far_is}

-- each entry names the first furthest corner of its own
abbrev AreNamed : List PlanePoint → List Entry → Type 0
AreNamed points entries = EachBelow (length entries) (λ i. IsFurthest (entry_points points entries) i (far_at entries i))

-- corners have an element
some_corner : (points corners : List PlanePoint) → AreCorners points corners → 0 < length corners
some_corner points [] h = absurd h
some_corner points (a ∷ rest) h = omega arith

-- of two lists on the same corners, the first has no greater distance than the second
not_farther : (ps : List PlanePoint) (es : List Entry) (qs : List PlanePoint) (fs : List Entry) → entry_points qs fs ≡ entry_points ps es → 0 < length es → AreNamed ps es → AreNamed qs fs
    → greatest (far_distance ps es) es ≤ℤ greatest (far_distance qs fs) fs
not_farther ps es qs fs same some first second =
    let reached = has_greatest (far_distance ps es) es some in
    let k = reached.1.0 in
    let low = reached.1.1 in
    let entry = sym (get_or_default es k none reached.0 low) in
    at_position k low (reached.2 ∙ ap (far_distance ps es) (sym reached.1.2 ∙ entry))
  where
    A : List PlanePoint
    A = entry_points ps es

    as_many : length es ≡ length fs
    as_many = sym (corner_count ps es) ∙ ap length (sym same) ∙ corner_count qs fs

    at_position : (k : ℕ) → k < length es → greatest (far_distance ps es) es ≡ far_distance ps es (slice_index_or es k none) → greatest (far_distance ps es) es ≤ℤ greatest (far_distance qs fs) fs
    at_position k low is =
        let low' = subst (λ n. k < n) as_many low in
        let own = is ∙ far_is ps es k low in
        let other = far_is qs fs k low' ∙ ap (λ c. squared_distance (point_at c k) (point_at c (far_at fs k))) same in
        let named : IsFurthest A k (far_at fs k) = subst (λ c. IsFurthest c k (far_at fs k)) same (second k low') in
        let nearer = named.furthest (far_at es k) origin (first k low).in_range in
        chain own other nearer (below_greatest (far_distance qs fs) fs k none low')
      where
        chain : {g a b c d : ℤ} → g ≡ a → b ≡ c → a ≤ℤ c → b ≤ℤ d → g ≤ℤ d
        chain e f l m = omega (arith, ints)

pub furthest_sizes : (ps qs : List PlanePoint) (a b : FurthestAnswer) → IsPermutation ps qs → Stands (furthest_claim ps a) → Stands (furthest_claim qs b) → a.size ≡ b.size
furthest_sizes ps qs a b s h m =
    let A = entry_points ps a.entries in
    let B = entry_points qs b.entries in
    let same : B ≡ A = one_list_of_corners qs B A m.0.1 (corners_stay ps qs A s h.0.1) in
    let some = subst (λ n. 0 < n) (corner_count ps a.entries) (some_corner ps A h.0.1) in
    let some' = subst (λ n. 0 < n) (corner_count qs b.entries) (some_corner qs B m.0.1) in
    same_printed (furthest_size ps a.entries) (furthest_size qs b.entries) a.size b.size one one
    (over_one (not_farther ps a.entries qs b.entries same some h.1 m.1)) (over_one (not_farther qs b.entries ps a.entries (sym same) some' m.1 h.1)) h.0.2 m.0.2
  where
    one : pos 0 <ℤ pos 1
    one = omega (arith, ints)

    over_one : {x y : ℤ} → x ≤ℤ y → (x *ℤ pos 1) ≤ℤ (y *ℤ pos 1)
    over_one l = omega (arith, ints)
