-- A test that decides the conditions of the solver, for literal items.
use Rattle.std.proofs.Common.{◌≡◌, refl, ℕ, ℤ, pos, List, [], ◌∷◌, length, nat_abs, Bool, true, false, T, leb, leb→le, arith}
use Rattle.std.specs.Prelude.{All}
use Rattle.std.proofs.lemmas.Int.{ints}
use Rattle.std.proofs.lemmas.List.Elements.{All-nil, All-cons}
use Rattle.integers.proofs.MachineArithmetic.{both_first, both_second}
use Rattle.bounds_model.specs.Space.{SpacePoint, vector}
use Rattle.kernel_laws.specs.Limits.{IsVectorWithin, IsDifference}
use Rattle.kernel_laws.specs.Solutions.{AreItems}

-- both tests hold
abbrev pub both : Bool → Bool → Bool
both true b = b
both false b = false

-- whether a vector is within n
abbrev pub is_within : ℕ → SpacePoint → Bool
is_within n v = both (leb (nat_abs v.x) n) (both (leb (nat_abs v.y) n) (leb (nat_abs v.z) n))

within_by : (n : ℕ) (v : SpacePoint) → T (is_within n v) → IsVectorWithin n v
within_by n v t =
    let rest = both_second (leb (nat_abs v.x) n) (both (leb (nat_abs v.y) n) (leb (nat_abs v.z) n)) t in
    record {
      x = record { abs = leb→le (nat_abs v.x) n (both_first (leb (nat_abs v.x) n) (both (leb (nat_abs v.y) n) (leb (nat_abs v.z) n)) t) };
      y = record { abs = leb→le (nat_abs v.y) n (both_first (leb (nat_abs v.y) n) (leb (nat_abs v.z) n) rest) };
      z = record { abs = leb→le (nat_abs v.z) n (both_second (leb (nat_abs v.y) n) (leb (nat_abs v.z) n) rest) };
    }

-- whether all elements pass
abbrev pub all_pass : (SpacePoint → Bool) → List SpacePoint → Bool
all_pass p [] = true
all_pass p (v ∷ vs) = both (p v) (all_pass p vs)

all_by : (P : SpacePoint → Type 0) (p : SpacePoint → Bool) → ((v : SpacePoint) → T (p v) → P v) → (vs : List SpacePoint) → T (all_pass p vs) → All P vs
all_by P p f [] t = All-nil P
all_by P p f (v ∷ vs) t = All-cons P v vs (f v (both_first (p v) (all_pass p vs) t)) (all_by P p f vs (both_second (p v) (all_pass p vs) t))

-- whether a vector has no height
abbrev pub is_flat : SpacePoint → Bool
is_flat v = leb (nat_abs v.z) 0

flat_by : (v : SpacePoint) → T (is_flat v) → v.z ≡ pos 0
flat_by v t = let h = leb→le (nat_abs v.z) 0 t in omega (arith, ints)

-- items of the plane
pub items_of_plane : (quadratic : ℤ) (vs : List SpacePoint) → T (both (leb 1 (length vs)) (leb (length vs) 4)) → T (all_pass (λ v. both (is_within 400000 v) (is_flat v)) vs) → T (all_pass (λ a. all_pass (λ b. is_within 400000 (vector a b)) vs) vs) → AreItems quadratic 2 vs
items_of_plane quadratic vs count each near = record {
  some = leb→le 1 (length vs) (both_first (leb 1 (length vs)) (leb (length vs) 4) count);
  few = leb→le (length vs) 4 (both_second (leb 1 (length vs)) (leb (length vs) 4) count);
  each = all_by (IsDifference 2) (λ v. both (is_within 400000 v) (is_flat v)) (λ v t. record { within = within_by 400000 v (both_first (is_within 400000 v) (is_flat v) t); flat = λ _. flat_by v (both_second (is_within 400000 v) (is_flat v) t) }) vs each;
  near = λ _. all_by (λ a. All (λ b. IsVectorWithin 400000 (vector a b)) vs) (λ a. all_pass (λ b. is_within 400000 (vector a b)) vs) (λ a t. all_by (λ b. IsVectorWithin 400000 (vector a b)) (λ b. is_within 400000 (vector a b)) (λ b u. within_by 400000 (vector a b) u) vs t) vs near;
}

not_two : (n : ℕ) → n ≡ 3 → n ≡ 2 → ⊥
not_two n e f = omega arith

-- items of space
pub items_of_space : (quadratic : ℤ) (vs : List SpacePoint) → T (both (leb 1 (length vs)) (leb (length vs) 5)) → T (all_pass (is_within 16000) vs) → T (all_pass (λ a. all_pass (λ b. is_within 16000 (vector a b)) vs) vs) → AreItems quadratic 3 vs
items_of_space quadratic vs count each near = record {
  some = leb→le 1 (length vs) (both_first (leb 1 (length vs)) (leb (length vs) 5) count);
  few = leb→le (length vs) 5 (both_second (leb 1 (length vs)) (leb (length vs) 5) count);
  each = all_by (IsDifference 3) (is_within 16000) (λ v t. record { within = within_by 16000 v t; flat = λ e. absurd (not_two 3 refl e) }) vs each;
  near = λ _. all_by (λ a. All (λ b. IsVectorWithin 16000 (vector a b)) vs) (λ a. all_pass (λ b. is_within 16000 (vector a b)) vs) (λ a t. all_by (λ b. IsVectorWithin 16000 (vector a b)) (λ b. is_within 16000 (vector a b)) (λ b u. within_by 16000 (vector a b) u) vs t) vs near;
}
