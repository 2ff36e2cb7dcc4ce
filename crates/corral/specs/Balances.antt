-- Supports with what slacks under them are computed from, and the search for them among a few candidates.
use Rattle.std.specs.Prelude.{◌≡◌, ℕ, ◌≤◌, ℤ, pos, ◌≤ℤ◌, List, ◌++◌, All, length, map}
use Rattle.bounds_model.specs.Space.{SpacePoint, vector}
use Rattle.bounds_model.specs.Slacks.{WeightedVector, mass, AreAffinelyDependent, IsLow}
use Rattle.kernel_laws.specs.Vectors.{vector_of}
use Rattle.kernel_laws.specs.Limits.{IsVectorWithin, IsDifference, difference_limit}
use Rattle.kernel_laws.specs.Solutions.{weighted, weight_limit}
use Rattle.corral.specs.declared.items.Id.{Id}
use Rattle.corral.specs.declared.items.Items.{Items}
use Rattle.corral.specs.declared.search.Candidate.{Candidate}
use Rattle.corral.specs.declared.search.Balance.{Balance}
use Rattle.corral.specs.Parts.{IsPart}
use Rattle.corral.specs.Supports.{support_vectors, AreSupports, IsRefuted}
use Rattle.corral.specs.Items.{item}
use Rattle.corral.specs.WeightedItems.{names, weights}
use Rattle.corral.specs.Moments.{AreMoments, IsLevel}

-- affinely independent supports, whose weights have a sum within the limit of the solver, with their sums and their slack
pub record IsBalance (dim : ℕ) (quadratic : ℤ) (items : List WeightedVector) (b : Balance) : Type 0 where
  pub supports : AreSupports quadratic items
  pub independent : ¬ AreAffinelyDependent (support_vectors items)
  pub differences : All (IsDifference dim) (support_vectors items)
  pub limit : mass items ≤ℤ pos (weight_limit quadratic dim)
  pub moments : AreMoments items b.moments
  pub level : IsLevel quadratic items b.level

-- the vectors of candidates
abbrev pub vectors : List Candidate → List SpacePoint
vectors candidates = map (λ c. vector_of c.vector) candidates

-- their names
abbrev pub candidate_names : List Candidate → List Id
candidate_names candidates = map (λ c. c.id) candidates

-- candidates have the vectors of their items
abbrev pub AreCandidates : {K P : Type 0} → (P → SpacePoint) → Items K P → List Candidate → Type 0
AreCandidates place items candidates = All (λ c. vector_of c.vector ≡ item place items c.id) candidates

-- two items are no farther apart than the solver takes
abbrev pub IsNear : {K P : Type 0} → ℕ → (P → SpacePoint) → Items K P → Id → Id → Type 0
IsNear dim place items a b = IsVectorWithin (difference_limit dim) (vector (item place items a) (item place items b))

-- the supports on the chosen candidates, none of all candidates being low under them
pub record IsFound (dim : ℕ) (quadratic : ℤ) (all chosen : List Candidate) (b : Balance) : Type 0 where
  pub is_part : IsPart chosen all
  pub named : names b.members.items ≡ candidate_names chosen
  pub balance : IsBalance dim quadratic (weighted (weights b.members.items) (vectors chosen)) b
  pub none_low : All (λ v. ¬ IsLow quadratic (weighted (weights b.members.items) (vectors chosen)) v) (vectors all)

-- each part that begins with the chosen ones and goes on with some of the rest is refuted
abbrev pub AreRefuted : ℤ → List Candidate → List Candidate → List Candidate → Type 0
AreRefuted quadratic all chosen rest =
    (more : List Candidate) → IsPart more rest → 1 ≤ length (chosen ++ more) → IsRefuted quadratic (vectors all) (vectors (chosen ++ more))
