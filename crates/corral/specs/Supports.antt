-- Supports: weighted vectors of equal slack that determine a ball, or the distance of two hulls.
use Rattle.std.specs.Prelude.{◌≡◌, ◌⊎◌, ◌≤◌, ℤ, pos, ◌≤ℤ◌, ◌<ℤ◌, List, All, length, map}
use Rattle.integers.specs.Total.{total}
use Rattle.bounds_model.specs.Space.{SpacePoint}
use Rattle.bounds_model.specs.Slacks.{WeightedVector, AreEqualSlacks, IsLow, AreAffinelyDependent}
use Rattle.kernel_laws.specs.Solutions.{weighted}

-- the factor of |x|² in a slack: 1 for balls, 0 for distances
abbrev pub IsQuadratic : ℤ → Type 0
IsQuadratic quadratic = (quadratic ≡ pos 0) ⊎ (quadratic ≡ pos 1)

-- the vectors of weighted vectors
abbrev pub support_vectors : List WeightedVector → List SpacePoint
support_vectors items = map (λ item. item.vector) items

-- one or more weighted vectors, each of a weight of at least 1, that have one slack
pub record AreSupports (quadratic : ℤ) (items : List WeightedVector) : Type 0 where
  pub some : 1 ≤ length items
  pub weights : All (λ item. pos 1 ≤ℤ item.weight) items
  pub equal : AreEqualSlacks quadratic items

-- supports under which no vector of the list is low
pub record Settles (quadratic : ℤ) (vectors : List SpacePoint) (items : List WeightedVector) : Type 0 where
  pub supports : AreSupports quadratic items
  pub none_low : All (λ v. ¬ IsLow quadratic items v) vectors

-- a weight for each vector, with a sum above 0, under which the vectors have one slack
pub record AreBalanced (quadratic : ℤ) (vectors : List SpacePoint) (weights : List ℤ) : Type 0 where
  pub as_many : length weights ≡ length vectors
  pub positive : pos 0 <ℤ total (λ w. w) weights
  pub equal : AreEqualSlacks quadratic (weighted weights vectors)

-- the vectors are dependent, or weights balance them
abbrev pub AreSolved : ℤ → List SpacePoint → Type 0
AreSolved quadratic vectors = AreAffinelyDependent vectors ⊎ ((weights : List ℤ) × AreBalanced quadratic vectors weights)

-- the part is dependent, or the weights that balance it settle nothing: one of them is below 1, or a vector of the list is low
abbrev pub IsRefuted : ℤ → List SpacePoint → List SpacePoint → Type 0
IsRefuted quadratic vectors part = AreAffinelyDependent part ⊎ ((weights : List ℤ) × AreBalanced quadratic part weights × ¬ Settles quadratic vectors (weighted weights part))
