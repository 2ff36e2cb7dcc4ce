-- The laws of an exchange: it finds its supports, their value rises, and it cannot rise without end.
use Rattle.std.specs.Prelude.{◌≡◌, ◌⊎◌, ℕ, ◌+◌, ◌≤◌, ◌<◌, ℤ, pos, ◌≤ℤ◌, List, ◌∷◌, All, length}
use Rattle.bounds_model.specs.Fractions.{IsAtMost}
use Rattle.bounds_model.specs.Space.{SpacePoint}
use Rattle.bounds_model.specs.Slacks.{WeightedVector, IsLow, value, AreAffinelyDependent}
use Rattle.exact_fractions.specs.Order.{IsBelow}
use Rattle.kernel_laws.specs.Limits.{IsDifference}
use Rattle.corral.specs.Parts.{IsPart}
use Rattle.corral.specs.Supports.{IsQuadratic, support_vectors, AreSupports, Settles, AreSolved, IsRefuted}
use Rattle.corral.specs.Rise.{AreBounded, measure}

-- no weights have a greater value than supports under which none of their vectors is low
abbrev pub NoneLowIsBest : Type 0
NoneLowIsBest = (quadratic : ℤ) → IsQuadratic quadratic → (best items : List WeightedVector) → AreSupports quadratic best → 1 ≤ length items → All (λ item. pos 1 ≤ℤ item.weight) items → All (λ item. ¬ IsLow quadratic best item.vector) items → IsAtMost (value quadratic items) (value quadratic best)

-- of weighted vectors, where each part has a solution, some part has supports of no less value
abbrev pub WalkEndsAtSupports : Type 0
WalkEndsAtSupports = (quadratic : ℤ) → IsQuadratic quadratic → (items : List WeightedVector) → 1 ≤ length items → All (λ item. pos 1 ≤ℤ item.weight) items
    → ((part : List SpacePoint) → IsPart part (support_vectors items) → 1 ≤ length part → AreSolved quadratic part)
    → (found : List WeightedVector) × IsPart (support_vectors found) (support_vectors items) × AreSupports quadratic found × IsAtMost (value quadratic items) (value quadratic found)

-- where each part of a list of vectors has a solution, some part has supports that settle the list
abbrev pub SomePartSettles : Type 0
SomePartSettles = (quadratic : ℤ) → IsQuadratic quadratic → (vectors : List SpacePoint) → 1 ≤ length vectors
    → ((part : List SpacePoint) → IsPart part vectors → 1 ≤ length part → AreSolved quadratic part)
    → (found : List WeightedVector) × IsPart (support_vectors found) vectors × Settles quadratic vectors found

-- so not every part is refuted
abbrev pub NotAllAreRefuted : Type 0
NotAllAreRefuted = (quadratic : ℤ) → IsQuadratic quadratic → (vectors : List SpacePoint) → 1 ≤ length vectors
    → ¬ ((part : List SpacePoint) → IsPart part vectors → 1 ≤ length part → IsRefuted quadratic vectors part)

-- supports that settle the old ones and a vector that is low under them have a greater value
abbrev pub ValueRises : Type 0
ValueRises = (quadratic : ℤ) → IsQuadratic quadratic → (old found : List WeightedVector) (new : SpacePoint) → AreSupports quadratic old → IsLow quadratic old new → Settles quadratic (new ∷ support_vectors old) found → IsBelow (value quadratic old) (value quadratic found)

-- where the value rises, the measure falls
abbrev pub MeasureFalls : Type 0
MeasureFalls = (quadratic : ℤ) → IsQuadratic quadratic → (longest limit : ℕ) (old found : List WeightedVector) → AreBounded longest limit old → AreBounded longest limit found → IsBelow (value quadratic old) (value quadratic found) → measure quadratic longest limit found < measure quadratic longest limit old

-- as many vectors as dimensions, and two more, are dependent
abbrev pub TooManyAreDependent : Type 0
TooManyAreDependent = (dim : ℕ) → (dim ≡ 2) ⊎ (dim ≡ 3) → (vectors : List SpacePoint) → length vectors ≡ dim + 2 → All (IsDifference dim) vectors → AreAffinelyDependent vectors
