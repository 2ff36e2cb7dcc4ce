-- The areas over vectors from a corner are those of triangles.
use Rattle.std.proofs.Common.{◌≡◌, sym, subst, ap₂, ◌∙◌, ℕ, ◌+◌, ◌<◌, arith, ℤ, pos, ◌≤ℤ◌, List, length, map}
use Rattle.std.proofs.lemmas.Int.{ints}
use Rattle.integers.proofs.Sizes.{size_sub, size_mul, below_size}
use Rattle.bounds_model.specs.Plane.{PlanePoint, point_at, vector, cross, turn}
use Rattle.added_areas.specs.declared.vectors.PlaneVector.{PlaneVector}
use Rattle.added_areas.specs.PlaneVectors.{vector_of}
use Rattle.extremal_kgon.specs.LaterVectors.{AreVectorsAfter}
use Rattle.extremal_kgon.specs.Rows.{area_at}
use Rattle.extremal_kgon.proofs.Reading.{read-map}

-- the vector at an index leads to the corner that stands as far after the first
to_corner : (corners : List PlanePoint) (first : ℕ) (vectors : List PlaneVector) → AreVectorsAfter corners first vectors → (j : ℕ) → j < length vectors → point_at (map vector_of vectors) j ≡ vector (point_at corners first) (point_at corners (first + 1 + j))
to_corner corners first vectors h j below = read-map vector_of vectors j (record { x = pos 0; y = pos 0 }) ∙ h.each j (record { x = pos 0; y = pos 0 }) below

pub area-turn : (corners : List PlanePoint) (first : ℕ) (vectors : List PlaneVector) → AreVectorsAfter corners first vectors → (i j : ℕ) → i < length vectors → j < length vectors
    → area_at (map vector_of vectors) i j ≡ turn (point_at corners first) (point_at corners (first + 1 + j)) (point_at corners (first + 1 + i))
area-turn corners first vectors h i j low_i low_j = ap₂ cross (to_corner corners first vectors h j low_j) (to_corner corners first vectors h i low_i)

-- they are not large
pub area-limit : (corners : List PlanePoint) (first : ℕ) (vectors : List PlaneVector) → AreVectorsAfter corners first vectors → (i j : ℕ) → i < length vectors → j < length vectors → area_at (map vector_of vectors) i j ≤ℤ pos 549755813888
area-limit corners first vectors h i j low_i low_j =
    let a = h.short j (record { x = pos 0; y = pos 0 }) low_j in
    let b = h.short i (record { x = pos 0; y = pos 0 }) low_i in
    subst (λ z. z ≤ℤ pos 549755813888) (sym (ap₂ cross (read-map vector_of vectors j (record { x = pos 0; y = pos 0 })) (read-map vector_of vectors i (record { x = pos 0; y = pos 0 }))))
    (loose (below_size (size_sub (size_mul a.x b.y) (size_mul a.y b.x))))
  where
    loose : {z : ℤ} → z ≤ℤ pos 320000000000 → z ≤ℤ pos 549755813888
    loose h = omega (arith, ints)
