-- Points and vectors by their coordinates.
use Rattle.std.proofs.Common.{◌≡◌, ap, ap₂, ◌∙◌, ℤ, zero, suc, pos, ◌<ℤ◌, ◌≤ℤ◌, arith, ℕ, List, [], ◌∷◌, map}
use Rattle.std.proofs.lemmas.Int.{ints, by_lt_z}
use Rattle.std.specs.Prelude.{slice_get, Some}
use Rattle.integers.proofs.Order.{square_nonneg, zero_of_square, nonneg_add}
use Rattle.bounds_model.specs.Space.{SpacePoint, origin, squared_length, point_at}
use Rattle.kernel_laws.specs.Signs.{determinant}

-- points with equal coordinates are equal
pub same_point : {a b c d e f : ℤ} → a ≡ d → b ≡ e → c ≡ f → (let p : SpacePoint = record { x = a; y = b; z = c } in p) ≡ (let q : SpacePoint = record { x = d; y = e; z = f } in q)
same_point {a} {b} {c} {d} {e} {f} h k l =
    let first : (let p : SpacePoint = record { x = a; y = b; z = c } in p) ≡ (let q : SpacePoint = record { x = d; y = b; z = c } in q) = ap (λ v. record { x = v; y = b; z = c }) h in
    first ∙ ap₂ (λ v w. record { x = d; y = v; z = w }) k l

-- determinants of equal vectors are equal
pub same_determinant : {a b c d e f : SpacePoint} → a ≡ d → b ≡ e → c ≡ f → determinant a b c ≡ determinant d e f
same_determinant {a} {b} {c} {d} {e} {f} h k l = ap (λ v. determinant v b c) h ∙ ap₂ (λ v w. determinant d v w) k l

-- a vector that is not zero has a squared length above 0
pub squared_length_positive : (v : SpacePoint) → (v ≡ origin → ⊥) → pos 0 <ℤ squared_length v
squared_length_positive v h =
    by_lt_z (pos 0) (squared_length v)
    (λ above. above)
    (λ most.
    let xx = square_nonneg v.x in
    let yy = square_nonneg v.y in
    let zz = square_nonneg v.z in
    absurd (h (same_point (zero_of_square v.x (omega (arith, ints))) (zero_of_square v.y (omega (arith, ints))) (zero_of_square v.z (omega (arith, ints))))))

-- a squared length is not below 0
pub squared_length_nonneg : (v : SpacePoint) → pos 0 ≤ℤ squared_length v
squared_length_nonneg v = nonneg_add (nonneg_add (square_nonneg v.x) (square_nonneg v.y)) (square_nonneg v.z)

-- the coordinates of the point of a number
pub point_at_place : {P : Type 0} (place : P → SpacePoint) (points : List P) (i : ℕ) (p : P) → slice_get points i ≡ Some p → point_at (map place points) i ≡ place p
point_at_place place [] i p h = cc
point_at_place place (q ∷ points) zero p h = let e : q ≡ p = cc in ap place e
point_at_place place (q ∷ points) (suc i) p h = point_at_place place points i p h
