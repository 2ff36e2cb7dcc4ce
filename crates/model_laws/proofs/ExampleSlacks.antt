-- Slacks of weighted vectors, for balls and for distances, and affine dependences.
use Rattle.std.proofs.Common.{length, zip, ◌≡◌, refl, ℤ, pos, ◌<ℤ◌, List, [], ◌∷◌}
use Rattle.std.specs.Prelude.{All}
use Rattle.integers.specs.Total.{total}
use Rattle.bounds_model.specs.Space.{SpacePoint, origin, weighted_sum}
use Rattle.bounds_model.specs.Slacks.{WeightedVector, AreEqualSlacks, IsLow, IsDependence, value, slack}
use Rattle.model_laws.proofs.Decisions.{Decision, by_test, by_one_failure, all, equal_ℤ, less_ℤ, like, both, negated, equal_ℕ}
use Rattle.model_laws.proofs.DecideParts.{same_space_point}
use Rattle.model_laws.proofs.Literals.{minus, in_space, signed_in_space, fraction, signed_fraction}

abbrev equal_slacks : (quadratic : ℤ) (items : List WeightedVector) → Decision (AreEqualSlacks quadratic items)
equal_slacks quadratic items =
    all {P = λ a. All (λ b. slack quadratic items a.vector ≡ slack quadratic items b.vector) items}
    (λ a. all {P = λ b. slack quadratic items a.vector ≡ slack quadratic items b.vector} (λ b. equal_ℤ _ _) items) items

abbrev low : (quadratic : ℤ) (items : List WeightedVector) (v : SpacePoint) → Decision (IsLow quadratic items v)
low quadratic items v = all {P = λ item. slack quadratic items v <ℤ slack quadratic items item.vector} (λ item. less_ℤ _ _) items

abbrev dependence : (vectors : List SpacePoint) (numbers : List ℤ) → Decision (IsDependence vectors numbers)
dependence vectors numbers =
    like
    (both (equal_ℕ (length numbers) (length vectors))
    (both (negated (all (λ number. equal_ℤ number (pos 0)) numbers))
    (both (equal_ℤ (total (λ number. number) numbers) (pos 0))
    (same_space_point (weighted_sum (λ pair. pair.0) (λ pair. pair.1) (zip numbers vectors)) origin))))
    (λ h. record { as_many = h.0; some = h.1.0; sum = h.1.1.0; weighted = h.1.1.1 }) (λ h. (h.as_many, (h.some, (h.sum, h.weighted))))

abbrev item : ℤ → SpacePoint → WeightedVector
item weight vector = record { weight = weight; vector = vector }

-- ---- for balls: the supports of a circle over two points, as seen from the first

abbrev supports : ℤ → List WeightedVector
supports weight = item (pos 1) (in_space 0 0 0) ∷ item weight (signed_in_space (minus 4) (pos 3) (pos 0)) ∷ []

-- the value is the circle's size
circle_value : value (pos 1) (supports (pos 1)) ≡ fraction 25 4
circle_value = refl

equal : AreEqualSlacks (pos 1) (supports (pos 1))
equal = by_test (equal_slacks (pos 1) (supports (pos 1))) refl

unequal : ¬ AreEqualSlacks (pos 1) (supports (pos 2))
unequal = by_one_failure (equal_slacks (pos 1) (supports (pos 2))) refl refl

-- a point on the circle or inside it is not low, a point outside is
on_circle : ¬ IsLow (pos 1) (supports (pos 1)) (signed_in_space (minus 4) (pos 0) (pos 0))
on_circle = by_one_failure (low (pos 1) (supports (pos 1)) (signed_in_space (minus 4) (pos 0) (pos 0))) refl refl

inside : ¬ IsLow (pos 1) (supports (pos 1)) (signed_in_space (minus 2) (pos 1) (pos 0))
inside = by_one_failure (low (pos 1) (supports (pos 1)) (signed_in_space (minus 2) (pos 1) (pos 0))) refl refl

outside : IsLow (pos 1) (supports (pos 1)) (in_space 1 0 0)
outside = by_test (low (pos 1) (supports (pos 1)) (in_space 1 0 0)) refl

-- ---- for distances: three differences of equal weight

abbrev differences : ℤ → List WeightedVector
differences weight = item (pos 1) (in_space 3 0 0) ∷ item (pos 1) (in_space 0 3 0) ∷ item weight (in_space 0 0 3) ∷ []

-- the value is the squared distance, below 0
distance_value : value (pos 0) (differences (pos 1)) ≡ signed_fraction (minus 27) (pos 9)
distance_value = refl

equal_differences : AreEqualSlacks (pos 0) (differences (pos 1))
equal_differences = by_test (equal_slacks (pos 0) (differences (pos 1))) refl

unequal_differences : ¬ AreEqualSlacks (pos 0) (differences (pos 2))
unequal_differences = by_one_failure (equal_slacks (pos 0) (differences (pos 2))) refl refl

-- a shorter difference is low, one whose product is the same or greater is not
nearer : IsLow (pos 0) (differences (pos 1)) (in_space 2 0 0)
nearer = by_test (low (pos 0) (differences (pos 1)) (in_space 2 0 0)) refl

as_far : ¬ IsLow (pos 0) (differences (pos 1)) (in_space 1 1 1)
as_far = by_one_failure (low (pos 0) (differences (pos 1)) (in_space 1 1 1)) refl refl

farther : ¬ IsLow (pos 0) (differences (pos 1)) (in_space 2 2 2)
farther = by_one_failure (low (pos 0) (differences (pos 1)) (in_space 2 2 2)) refl refl

-- ---- affine dependences

abbrev on_line : List SpacePoint
on_line = in_space 0 0 0 ∷ in_space 1 0 0 ∷ in_space 2 0 0 ∷ []

middle : IsDependence on_line (pos 1 ∷ minus 2 ∷ pos 1 ∷ [])
middle = by_test (dependence on_line (pos 1 ∷ minus 2 ∷ pos 1 ∷ [])) refl

one_more : ¬ IsDependence on_line (pos 1 ∷ minus 2 ∷ pos 1 ∷ pos 0 ∷ [])
one_more = by_one_failure (dependence on_line (pos 1 ∷ minus 2 ∷ pos 1 ∷ pos 0 ∷ [])) refl refl

all_zero : ¬ IsDependence on_line (pos 0 ∷ pos 0 ∷ pos 0 ∷ [])
all_zero = by_one_failure (dependence on_line (pos 0 ∷ pos 0 ∷ pos 0 ∷ [])) refl refl

with_sum : ¬ IsDependence on_line (pos 1 ∷ pos 0 ∷ pos 0 ∷ [])
with_sum = by_one_failure (dependence on_line (pos 1 ∷ pos 0 ∷ pos 0 ∷ [])) refl refl

moved : ¬ IsDependence on_line (pos 1 ∷ minus 1 ∷ pos 0 ∷ [])
moved = by_one_failure (dependence on_line (pos 1 ∷ minus 1 ∷ pos 0 ∷ [])) refl refl
