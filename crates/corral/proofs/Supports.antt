-- Supports, and weights beside their vectors.
use Rattle.std.proofs.Common.{◌≡◌, refl, ap, ℕ, suc, ◌≤◌, ℤ, pos, ◌+ℤ◌, ◌≤ℤ◌, ◌<ℤ◌, List, [], ◌∷◌, length, arith}
use Rattle.std.specs.Prelude.{All, zip}
use Rattle.std.proofs.lemmas.Int.{ints}
use Rattle.std.proofs.lemmas.List.Elements.{All-nil, All-cons, All-head, All-tail}
use Rattle.std.proofs.Math.Nat.{suc_inj}
use Rattle.integers.specs.Total.{total}
use Rattle.bounds_model.specs.Space.{SpacePoint, plus, times, weighted_sum}
use Rattle.bounds_model.specs.Slacks.{WeightedVector, mass, moment}
use Rattle.kernel_laws.specs.Solutions.{weighted, IsWeighting}
use Rattle.corral.specs.Supports.{support_vectors, AreSupports, AreBalanced}

-- ---- weights beside their vectors

-- the vectors are the same
pub vectors-weighted : (ws : List ℤ) (vs : List SpacePoint) → length ws ≡ length vs → support_vectors (weighted ws vs) ≡ vs
vectors-weighted [] [] e = refl
vectors-weighted [] (v ∷ vs) e = absurd (omega arith)
vectors-weighted (w ∷ ws) [] e = absurd (omega arith)
vectors-weighted (w ∷ ws) (v ∷ vs) e = ap (λ rest. v ∷ rest) (vectors-weighted ws vs (suc_inj e))

-- the sum of the weights
pub mass-weighted : (ws : List ℤ) (vs : List SpacePoint) → length ws ≡ length vs → mass (weighted ws vs) ≡ total (λ w. w) ws
mass-weighted [] vs e = refl
mass-weighted (w ∷ ws) [] e = absurd (omega arith)
mass-weighted (w ∷ ws) (v ∷ vs) e = ap (λ t. w +ℤ t) (mass-weighted ws vs (suc_inj e))

-- the weighted sum of pairs
pub moment-weighted : (ws : List ℤ) (vs : List SpacePoint) → moment (weighted ws vs) ≡ weighted_sum (λ pair. pair.0) (λ pair. pair.1) (zip ws vs)
moment-weighted [] vs = refl
moment-weighted (w ∷ ws) [] = refl
moment-weighted (w ∷ ws) (v ∷ vs) = ap (λ s. plus (times w v) s) (moment-weighted ws vs)

-- there are as many
pub length-weighted : (ws : List ℤ) (vs : List SpacePoint) → length ws ≡ length vs → length (weighted ws vs) ≡ length vs
length-weighted [] vs e = e
length-weighted (w ∷ ws) [] e = absurd (omega arith)
length-weighted (w ∷ ws) (v ∷ vs) e = ap suc (length-weighted ws vs (suc_inj e))

-- what holds of all weights holds of those of the items
pub all-weighted : (P : ℤ → Type 0) (ws : List ℤ) (vs : List SpacePoint) → All P ws → All (λ item. P item.weight) (weighted ws vs)
all-weighted P [] vs h = All-nil (λ item. P item.weight)
all-weighted P (w ∷ ws) [] h = All-nil (λ item. P item.weight)
all-weighted P (w ∷ ws) (v ∷ vs) h =
    All-cons (λ (item : WeightedVector). P item.weight) (record { weight = w; vector = v }) (weighted ws vs) (All-head P w ws h) (all-weighted P ws vs (All-tail P w ws h))

-- what holds of all vectors holds of those of the items
pub all_vectors : (P : SpacePoint → Type 0) (items : List WeightedVector) → All P (support_vectors items) → All (λ item. P item.vector) items
all_vectors P [] h = All-nil (λ item. P item.vector)
all_vectors P (item ∷ items) h =
    All-cons (λ (item : WeightedVector). P item.vector) item items (All-head P item.vector (support_vectors items) h) (all_vectors P items (All-tail P item.vector (support_vectors items) h))

-- ---- weights that balance

-- the solver's weights balance
pub balanced_from_weighting : (quadratic : ℤ) (limit : ℕ) (vs : List SpacePoint) (ws : List ℤ) → IsWeighting quadratic limit vs ws → AreBalanced quadratic vs ws
balanced_from_weighting quadratic limit vs ws h = record { as_many = h.as_many; positive = h.positive; equal = h.equal }

-- there is a vector
pub some_balanced : (quadratic : ℤ) (vs : List SpacePoint) (ws : List ℤ) → AreBalanced quadratic vs ws → 1 ≤ length vs
some_balanced quadratic vs [] h = absurd (never h.positive)
  where
    never : pos 0 <ℤ pos 0 → ⊥
    never h = omega (arith, ints)
some_balanced quadratic [] (w ∷ ws) h = let e = h.as_many in absurd (omega arith)
some_balanced quadratic (v ∷ vs) (w ∷ ws) h = omega arith

-- weights of at least 1 that balance make supports
pub supports_from_balanced : (quadratic : ℤ) (vs : List SpacePoint) (ws : List ℤ) → AreBalanced quadratic vs ws → All (λ w. pos 1 ≤ℤ w) ws → AreSupports quadratic (weighted ws vs)
supports_from_balanced quadratic vs ws h all = record {
  some = let some = some_balanced quadratic vs ws h in let e = length-weighted ws vs h.as_many in omega arith;
  weights = all-weighted (λ w. pos 1 ≤ℤ w) ws vs all;
  equal = h.equal;
}
