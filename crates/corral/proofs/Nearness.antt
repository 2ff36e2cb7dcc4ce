-- Items of a cloud are no farther apart than its points.
use Rattle.std.proofs.Common.{◌≡◌, sym, ◌∙◌, ap₂, subst, ℕ, ◌+◌, ◌≤◌, ℤ, pos, ◌-ℤ◌, List, length, map, arith}
use Rattle.std.specs.Prelude.{All, slice_get, Some}
use Rattle.std.proofs.lemmas.Int.{ints}
use Rattle.std.proofs.lemmas.List.{length-map}
use Rattle.std.proofs.lemmas.List.Elements.{All-map}
use Rattle.bounds_model.specs.Space.{SpacePoint, vector, point_at}
use Rattle.bounded_coords.specs.declared.cloud.Cloud.{Cloud}
use Rattle.bounded_coords.specs.Clouds.{points_of}
use Rattle.kernel_laws.specs.Vectors.{vector_of}
use Rattle.kernel_laws.specs.Limits.{IsVectorWithin, IsDifference, difference_limit}
use Rattle.kernel_laws.specs.Solutions.{AreItems}
use Rattle.kernel_laws.proofs.Points.{same_point, point_at_place}
use Rattle.corral.specs.declared.items.Id.{Id}
use Rattle.corral.specs.declared.items.Items.{Items}
use Rattle.corral.specs.declared.items.Items.TheVariants.{Points}
use Rattle.corral.specs.declared.search.Candidate.{Candidate}
use Rattle.corral.specs.Items.{item}
use Rattle.corral.specs.Balances.{vectors, AreCandidates, IsNear}

-- a difference does not depend on where vectors begin
pub vector_between : (o a b : SpacePoint) → vector (vector o a) (vector o b) ≡ vector a b
vector_between o a b = same_point (cancel a.x b.x o.x) (cancel a.y b.y o.y) (cancel a.z b.z o.z)
  where
    cancel : (p q r : ℤ) → (q -ℤ r) -ℤ (p -ℤ r) ≡ q -ℤ p
    cancel p q r = omega (arith, ints)

-- two points within the limit of differences make two such items
pub near_points : {K P : Type 0} (dim : ℕ) (place : P → SpacePoint) (items : Items K P) (cloud : Cloud P) (a b : Id) (p q : P) (v : SpacePoint) → items ≡ Points cloud
    → slice_get (points_of cloud) a.first ≡ Some p → slice_get (points_of cloud) b.first ≡ Some q → v ≡ vector (place p) (place q) → IsVectorWithin (difference_limit dim) v → IsNear dim place items a b
near_points {K} dim place items cloud a b p q v is at_a at_b e h =
    subst (λ xs. IsNear {K = K} dim place xs a b) (sym is)
    (subst (IsVectorWithin (difference_limit dim))
    (e ∙ ap₂ vector (sym (point_at_place place (points_of cloud) a.first p at_a)) (sym (point_at_place place (points_of cloud) b.first q at_b))
    ∙ sym (vector_between (point_at (map place (points_of cloud)) 0) (point_at (map place (points_of cloud)) a.first) (point_at (map place (points_of cloud)) b.first)))
    h)

-- the vectors of candidates are those of their items
pub near_vectors : {K P : Type 0} (dim : ℕ) (place : P → SpacePoint) (items : Items K P) (cs : List Candidate) → AreCandidates place items cs
    → All (λ a. All (λ b. IsNear dim place items a.id b.id) cs) cs → All (λ u. All (λ v. IsVectorWithin (difference_limit dim) (vector u v)) (vectors cs)) (vectors cs)
near_vectors {K} dim place items cs are near =
    All-map (λ u. All (λ v. IsVectorWithin (difference_limit dim) (vector u v)) (vectors cs)) (λ (c : Candidate). vector_of c.vector) cs
    (All-both (λ (a : Candidate). vector_of a.vector ≡ item place items a.id) (λ (a : Candidate). All (λ (b : Candidate). IsNear {K = K} dim place items a.id b.id) cs) (λ (a : Candidate). All (λ v. IsVectorWithin (difference_limit dim) (vector (vector_of a.vector) v)) (vectors cs)) row cs are near)
  where
    All-both : {A : Type 0} (P Q R : A → Type 0) → ((a : A) → P a → Q a → R a) → (xs : List A) → All P xs → All Q xs → All R xs
    All-both P Q R f xs p q k d l = f _ (p k d l) (q k d l)

    row : (a : Candidate) → vector_of a.vector ≡ item place items a.id → All (λ (b : Candidate). IsNear {K = K} dim place items a.id b.id) cs → All (λ v. IsVectorWithin (difference_limit dim) (vector (vector_of a.vector) v)) (vectors cs)
    row a e near_a = All-map (λ v. IsVectorWithin (difference_limit dim) (vector (vector_of a.vector) v)) (λ (c : Candidate). vector_of c.vector) cs
        (All-both (λ (b : Candidate). vector_of b.vector ≡ item place items b.id) (λ (b : Candidate). IsNear {K = K} dim place items a.id b.id) (λ (b : Candidate). IsVectorWithin (difference_limit dim) (vector (vector_of a.vector) (vector_of b.vector)))
        (λ b f h. subst (IsVectorWithin (difference_limit dim)) (ap₂ vector (sym e) (sym f)) h) cs are near_a)

-- so the solver takes them
pub candidates_are_items : {K P : Type 0} (quadratic : ℤ) (dim : ℕ) (place : P → SpacePoint) (items : Items K P) (cs : List Candidate) → AreCandidates place items cs → 1 ≤ length cs → length cs ≤ dim + 2
    → All (IsDifference dim) (vectors cs) → (quadratic ≡ pos 1 → All (λ a. All (λ b. IsNear dim place items a.id b.id) cs) cs) → AreItems quadratic dim (vectors cs)
candidates_are_items quadratic dim place items cs are some few each near = record {
  some = let same = length-map cs (λ (c : Candidate). vector_of c.vector) in omega arith;
  few = let same = length-map cs (λ (c : Candidate). vector_of c.vector) in omega arith;
  each = each;
  near = λ e. near_vectors dim place items cs are (near e);
}
