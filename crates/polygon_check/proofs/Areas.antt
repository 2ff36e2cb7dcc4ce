-- Twice the area of a polygon, triangle by triangle.
use Rattle.std.proofs.Common.{◌≡◌, refl, subst, ◌∙◌, ℕ, zero, suc, ◌+◌, ◌-◌, ◌<◌, ◌≤◌, arith, ◌^◌, to_z, of_z, w64, ℤ, pos, ◌+ℤ◌, ◌-ℤ◌, ◌*ℤ◌, List, [], ◌∷◌, length}
use Rattle.std.specs.Prelude.{drop}
use Rattle.std.proofs.lemmas.Int.{ints}
use Rattle.integers.specs.Size.{Size}
use Rattle.integers.proofs.Identities.{den-ring, read, polys}
use Rattle.integers.proofs.MachineArithmetic.{given, with_inputs, codes, computes}
use Rattle.bounds_model.specs.Plane.{PlanePoint, point_at, turn}
use Rattle.bounds_model.specs.Kgon.{triangulated_area, twice_area}

-- the triangles from a position on: the first, and those from the next one on
fan-step : (a : PlanePoint) (ps : List PlanePoint) (j : ℕ) → suc j < length ps → triangulated_area a (drop j ps) ≡ turn a (point_at ps j) (point_at ps (suc j)) +ℤ triangulated_area a (drop (suc j) ps)
fan-step a [] j h = absurd (omega (arith, h))
fan-step a (b ∷ []) j h = absurd (omega (arith, h))
fan-step a (b ∷ c ∷ rest) zero h = refl
fan-step a (b ∷ c ∷ rest) (suc j) h = fan-step a (c ∷ rest) j (less h)
  where
    less : {m n : ℕ} → suc m < suc n → m < n
    less h = omega arith

-- the triangle of an edge that has no length
no-triangle : (a c : PlanePoint) → turn a a c ≡ pos 0
no-triangle a c = identity a.x a.y c.x c.y ∙ none a.x
  where
    none : (p : ℤ) → p -ℤ p ≡ pos 0
    none p = omega (arith, ints)

    identity : (p q r s : ℤ) → (p -ℤ p) *ℤ (s -ℤ q) -ℤ (q -ℤ q) *ℤ (r -ℤ p) ≡ p -ℤ p
    identity p q r s = read (p ∷ q ∷ r ∷ s ∷ []) (λ xs a b c d. simp (a, b, c, d, polys) (den-ring xs _ _ tt))

-- all triangles are ahead of the first corner
pub begins : (ps : List PlanePoint) → 1 ≤ length ps → (k : ℕ) → 1 ≡ suc k → pos 0 +ℤ triangulated_area (point_at ps 0) (drop k ps) ≡ twice_area ps
begins [] some k e = absurd (omega (arith, some))
begins (a ∷ []) some zero e = refl
begins (a ∷ []) some (suc k) e = absurd (omega (arith, e))
begins (a ∷ b ∷ rest) some zero e = nothing (triangulated_area a (b ∷ rest)) (turn a a b) (no-triangle a b)
  where
    nothing : (x y : ℤ) → y ≡ pos 0 → pos 0 +ℤ (y +ℤ x) ≡ x
    nothing x y e = omega (arith, ints)
begins (a ∷ b ∷ rest) some (suc k) e = absurd (omega (arith, e))

-- one triangle more
pub one_more : (a : PlanePoint) (ps : List PlanePoint) (i : ℕ) (area total : ℤ) → 1 ≤ i → i < length ps → ((k : ℕ) → i ≡ suc k → area +ℤ triangulated_area a (drop k ps) ≡ total)
    → (k : ℕ) → i + 1 ≡ suc k → (area +ℤ turn a (point_at ps (i - 1)) (point_at ps i)) +ℤ triangulated_area a (drop k ps) ≡ total
one_more a ps zero area total some below before k e = absurd (omega (arith, some))
one_more a ps (suc j) area total some below before k e =
    subst (λ m. (area +ℤ turn a (point_at ps (suc j - 1)) (point_at ps (suc j))) +ℤ triangulated_area a (drop m ps) ≡ total) (same e)
    (subst (λ m. (area +ℤ turn a (point_at ps m) (point_at ps (suc j))) +ℤ triangulated_area a (drop (suc j) ps) ≡ total) (back j)
    (together area (turn a (point_at ps j) (point_at ps (suc j))) (triangulated_area a (drop (suc j) ps)) (triangulated_area a (drop j ps)) total (fan-step a ps j below) (before j refl)))
  where
    same : {k : ℕ} → suc j + 1 ≡ suc k → suc j ≡ k
    same e = omega arith

    back : (j : ℕ) → j ≡ suc j - 1
    back j = omega arith

    together : (x t y z total : ℤ) → z ≡ t +ℤ y → x +ℤ z ≡ total → (x +ℤ t) +ℤ y ≡ total
    together x t y z total e f = omega (arith, ints)

-- no triangle is ahead of the last corner
pub ends : (a : PlanePoint) (ps : List PlanePoint) (i : ℕ) (area total : ℤ) → 1 ≤ i → length ps ≤ i → ((k : ℕ) → i ≡ suc k → area +ℤ triangulated_area a (drop k ps) ≡ total) → area ≡ total
ends a ps zero area total some past before = absurd (omega (arith, some))
ends a ps (suc j) area total some past before = plain area (triangulated_area a (drop j ps)) total (none ps j (shorter past)) (before j refl)
  where
    shorter : {m n : ℕ} → m ≤ suc n → m ≤ n + 1
    shorter h = omega arith

    none : (ps : List PlanePoint) (j : ℕ) → length ps ≤ j + 1 → triangulated_area a (drop j ps) ≡ pos 0
    none [] zero h = refl
    none [] (suc j) h = refl
    none (b ∷ []) zero h = refl
    none (b ∷ []) (suc j) h = none [] j (omega arith)
    none (b ∷ c ∷ rest) zero h = absurd (omega (arith, h))
    none (b ∷ c ∷ rest) (suc j) h = none (c ∷ rest) j (less (length (c ∷ rest)) j h)
      where
        less : (m n : ℕ) → suc m ≤ suc n + 1 → m ≤ n + 1
        less m n h = omega arith

    plain : (x y total : ℤ) → y ≡ pos 0 → x +ℤ y ≡ total → x ≡ total
    plain x y total e f = omega (arith, ints)

-- a bound that is larger
pub size_under : {m n : ℕ} {z : ℤ} → m ≤ n → Size m z → Size n z
size_under h s = record { abs = omega (arith, h, s.abs) }

-- the area of the triangle of equal points
pub turn_of : {area : ℤ} {a b c p q r : PlanePoint} → area ≡ turn a b c → a ≡ p → b ≡ q → c ≡ r → area ≡ turn p q r
turn_of {area} {a} {b} {c} {p} {q} {r} is e f g = subst (λ z. area ≡ turn p q z) g (subst (λ z. area ≡ turn p z c) f (subst (λ z. area ≡ turn z b c) e is))

-- the sums that the machine has
pub machine_sum : {u t : ℤ} → Size (2 ^ 43) u → Size (2 ^ 39) t → to_z w64 (of_z w64 (u +ℤ to_z w64 (of_z w64 t))) ≡ u +ℤ t
machine_sum h k = with_inputs (given h ∷ given k ∷ []) (λ xs s a b. simp (a, b, codes) (computes xs s _ _ tt tt))

pub machine_sum_of : {u t : ℤ} → Size (2 ^ 43) u → Size (2 ^ 39) t → to_z w64 (of_z w64 (to_z w64 (of_z w64 u) +ℤ to_z w64 (of_z w64 t))) ≡ u +ℤ t
machine_sum_of h k = with_inputs (given h ∷ given k ∷ []) (λ xs s a b. simp (a, b, codes) (computes xs s _ _ tt tt))
