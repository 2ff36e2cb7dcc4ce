-- Corners that are read by their numbers, and what tests of them show.
use Rattle.std.proofs.Common.{◌≡◌, ◌≢◌, refl, sym, subst, ap, ◌∙◌, ◌↔◌, ℕ, zero, suc, ◌<◌, ◌≤◌, ◌%◌, arith, pos, List, [], ◌∷◌, length, map, IsTrue, Bool}
use Rattle.std.specs.Prelude.{slice_index_or, All, Contains}
use Rattle.std.proofs.Math.Nat.{mod-eq_of_lt}
use Rattle.std.proofs.lemmas.List.{get_or-map, length-map}
use Rattle.std.proofs.lemmas.List.Elements.{Contains-get_or}
use Rattle.bounds_model.specs.Plane.{PlanePoint, point_at, origin, turn, IsBefore, IsLeastPoint}
use Rattle.bounds_model.specs.Hull.{around}
use Rattle.bounds_model.specs.CornerTest.{CornersPass, FirstIsOnce, SurroundAll, GoAround}

-- the corner at a position is the point of the number there
pub numbered_corner : (points : List PlanePoint) (numbers : List ℕ) (i : ℕ) → i < length numbers → point_at (map (point_at points) numbers) i ≡ point_at points (slice_index_or numbers i 0)
numbered_corner points numbers i below = get_or-map (point_at points) numbers i 0 origin below

-- a corner around the circle, by its position
pub corner_around : (points : List PlanePoint) (numbers : List ℕ) (j : ℕ) → point_at (map (point_at points) numbers) (j % length numbers) ≡ around (map (point_at points) numbers) j
corner_around points numbers j = ap (λ n. point_at (map (point_at points) numbers) (j % n)) (sym (length-map numbers (point_at points)))

pub corner_itself : (points : List PlanePoint) (numbers : List ℕ) (j : ℕ) → j < length numbers → point_at (map (point_at points) numbers) j ≡ around (map (point_at points) numbers) j
corner_itself points numbers j below = ap (point_at (map (point_at points) numbers)) (sym (mod-eq_of_lt below)) ∙ corner_around points numbers j

-- the first corner stands once where no later position has it
pub once_from : (corners : List PlanePoint) → 1 ≤ length corners → ((k : ℕ) → 1 ≤ k → k < length corners → point_at corners k ≢ point_at corners 0) → FirstIsOnce corners
once_from [] some h = absurd (omega arith)
once_from (a ∷ rest) some h = λ k d low. subst (λ c. c ≢ a) (any rest k origin d low) (h (suc k) (omega arith) (after low))
  where
    after : {k n : ℕ} → k < n → suc k < suc n
    after h = omega arith

    any : (xs : List PlanePoint) (k : ℕ) (d e : PlanePoint) → k < length xs → slice_index_or xs k d ≡ slice_index_or xs k e
    any [] k d e low = absurd (omega arith)
    any (x ∷ xs) zero d e low = refl
    any (x ∷ xs) (suc k) d e low = any xs k d e (omega arith)

pub once_at : (corners : List PlanePoint) → FirstIsOnce corners → (k : ℕ) → 1 ≤ k → k < length corners → point_at corners k ≢ point_at corners 0
once_at [] h k some low = absurd h
once_at (a ∷ rest) h zero some low = absurd (omega arith)
once_at (a ∷ rest) h (suc k) some low = h k origin (omega arith)

-- two corners surround all points where they lead to the greatest
pub surround_two : (points corners : List PlanePoint) (a b : PlanePoint) → length corners ≡ 2 → a ≡ point_at corners 0 → b ≡ point_at corners 1 → Contains points b
    → (All (λ p. IsBefore p b) points × All (λ p. turn a b p ≡ pos 0) points) ↔ SurroundAll points corners
surround_two points [] a b two e f listed = absurd (omega (arith, two))
surround_two points (p ∷ []) a b two e f listed = absurd (omega (arith, two))
surround_two points (p ∷ q ∷ []) a b two e f listed = (
  λ h. record {
    to_greatest = record { listed = subst (Contains points) f listed; greatest = subst (λ z. All (λ x. IsBefore x z) points) f h.0 };
    on_line = subst (λ z. All (λ x. turn p z x ≡ pos 0) points) f (subst (λ z. All (λ x. turn z b x ≡ pos 0) points) e h.1);
  },
  λ h. (
    subst (λ z. All (λ x. IsBefore x z) points) (sym f) h.to_greatest.greatest,
    subst (λ z. All (λ x. turn z b x ≡ pos 0) points) (sym e)
        (subst (λ z. All (λ x. turn p z x ≡ pos 0) points) (sym f) h.on_line),
  ),
)
surround_two points (p ∷ q ∷ r ∷ rest) a b two e f listed = absurd (omega (arith, two))

-- three or more where they go around
pub surround_cycle : (points corners : List PlanePoint) → 3 ≤ length corners → GoAround points corners ↔ SurroundAll points corners
surround_cycle points [] three = absurd (omega (arith, three))
surround_cycle points (a ∷ []) three = absurd (omega (arith, three))
surround_cycle points (a ∷ b ∷ []) three = absurd (omega (arith, three))
surround_cycle points (a ∷ b ∷ c ∷ rest) three = (λ h. h, λ h. h)

-- the first corner is the least point where it is before all
pub least_is : (points : List PlanePoint) (numbers : List ℕ) (a : PlanePoint) → 1 ≤ length numbers → All (λ n. n < length points) numbers → a ≡ point_at (map (point_at points) numbers) 0
    → All (IsBefore a) points → IsLeastPoint points (around (map (point_at points) numbers) 0)
least_is points numbers a some below e least = record {
  listed = subst (Contains points) (sym (numbered_corner points numbers 0 (omega arith)) ∙ corner_itself points numbers 0 (omega arith))
      (Contains-get_or points (slice_index_or numbers 0 0) origin (below 0 0 (omega arith)));
  least = subst (λ q. All (IsBefore q) points) (e ∙ corner_itself points numbers 0 (omega arith)) least;
}

-- each corner is one of the points
pub corner_listed : (points : List PlanePoint) (numbers : List ℕ) (i : ℕ) → i < length numbers → All (λ n. n < length points) numbers → Contains points (point_at (map (point_at points) numbers) i)
corner_listed points numbers i low below = subst (Contains points) (sym (numbered_corner points numbers i low)) (Contains-get_or points (slice_index_or numbers i 0) origin (below i 0 low))

-- what is left to ask of corners that begin with the least point, which stands once
pub pass_if : {yes : Bool} (points corners : List PlanePoint) → IsLeastPoint points (around corners 0) → FirstIsOnce corners → (IsTrue yes ↔ SurroundAll points corners)
    → IsTrue yes ↔ CornersPass points corners
pass_if points corners least once h = (λ t. record { from_least = least; once = once; surround = h.0 t }, λ p. h.1 p.surround)
