-- Marks for the points that an arc names.
use Rattle.std.proofs.Common.{◌≡◌, ◌≢◌, sym, ◌∙◌, subst, ◌⊎◌, inl, inr, ℕ, ◌+◌, ◌<◌, ◌≤◌, Bool, true, false, List, length, get_or, arith}
use Rattle.std.proofs.Math.ListN.{replicate, set}
use Rattle.std.proofs.lemmas.List.{get_or-replicate, get_or_past, get_or-set_same, get_or-set_other, length-replicate}
use Rattle.integers.proofs.Lists.{clash, before_or_after}
use Rattle.bounds_model.specs.Plane.{PlanePoint, point_at}
use Rattle.fan_test.specs.Chains.{AreNamed}

-- at first there is none
pub none_marked : (cloud : List PlanePoint) (H : ℕ → PlanePoint) (from size : ℕ) → AreNamed cloud H from from (replicate size false)
none_marked cloud H from size n is = elim (before_or_after n size) [
  | inl below ↦ absurd (clash is (get_or-replicate size n false false below))
  | inr past ↦ absurd (clash is (get_or_past (replicate size false) n false (subst (λ k. k ≤ n) (sym (length-replicate size false)) past)))
]

same_or_other : (i j : ℕ) → (i ≡ j) ⊎ (i ≢ j)
same_or_other i j = grind arith

-- with the number of one more cone's point there is one more
pub mark_more : (cloud : List PlanePoint) (H : ℕ → PlanePoint) (from i m : ℕ) (marks : List Bool) → from ≤ i → point_at cloud m ≡ H i → AreNamed cloud H from i marks → AreNamed cloud H from (i + 1) (set marks m true)
mark_more cloud H from i m marks low here before n is = elim (same_or_other n m) [
  | inl same ↦ (i, low, omega arith, subst (λ k. point_at cloud k ≡ H i) (sym same) here)
  | inr other ↦ let old = before n (sym (get_or-set_other marks m n true false other) ∙ is) in (old.0, old.1, further old.0 old.2, old.3)
]
  where
    further : (k : ℕ) → k < i → k < i + 1
    further k h = omega arith
