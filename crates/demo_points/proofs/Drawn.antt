-- Points that are made one after the other.
use Rattle.std.proofs.Common.{◌≡◌, ◌∙◌, sym, ap, subst, ℕ, suc, ◌+◌, ◌-◌, ◌*◌, ◌<◌, List, [], ◌∷◌, ◌++◌, ℤ, append_assoc, arith}
use Rattle.bounds_model.specs.Plane.{PlanePoint}
use Rattle.bounds_model.specs.Space.{SpacePoint}
use Rattle.bounds_model.specs.Demo.{state_after, plane_coordinate, space_coordinate, plane_points, space_points}

-- one element more in the first list, and one fewer in the second
moved : {P : Type 0} (made rest : List P) (p : P) → (made ++ p ∷ []) ++ rest ≡ made ++ (p ∷ rest)
moved made rest p = append_assoc made (p ∷ []) rest

-- one point of the plane more
pub plane_points-more : (made all : List PlanePoint) (s later : ℕ) (p : PlanePoint) (count i : ℕ) → i < count → later ≡ state_after 2 s
    → p ≡ record { x = plane_coordinate (state_after 1 s); y = plane_coordinate (state_after 2 s) }
    → made ++ plane_points s (count - i) ≡ all → (made ++ p ∷ []) ++ plane_points later (count - (i + 1)) ≡ all
plane_points-more made all s later p count i lt state is h =
    let rest : ℕ = count - (i + 1) in
    let left : count - i ≡ suc rest = omega arith in
    subst (λ t. (made ++ p ∷ []) ++ plane_points t rest ≡ all) (sym state)
    (moved made (plane_points (state_after 2 s) rest) p ∙ ap (λ q. made ++ (q ∷ plane_points (state_after 2 s) rest)) is ∙ ap (λ n. made ++ plane_points s n) (sym left) ∙ h)

-- one point of space more
pub space_points-more : (across : ℕ → ℤ) (made all : List SpacePoint) (s later : ℕ) (p : SpacePoint) (count i : ℕ) → i < count → later ≡ state_after 3 s
    → p ≡ record { x = across (state_after 1 s); y = space_coordinate (state_after 2 s); z = space_coordinate (state_after 3 s) }
    → made ++ space_points across s (count - i) ≡ all → (made ++ p ∷ []) ++ space_points across later (count - (i + 1)) ≡ all
space_points-more across made all s later p count i lt state is h =
    let rest : ℕ = count - (i + 1) in
    let left : count - i ≡ suc rest = omega arith in
    subst (λ t. (made ++ p ∷ []) ++ space_points across t rest ≡ all) (sym state)
    (moved made (space_points across (state_after 3 s) rest) p ∙ ap (λ q. made ++ (q ∷ space_points across (state_after 3 s) rest)) is ∙ ap (λ n. made ++ space_points across s n) (sym left) ∙ h)

-- three draws for one point
pub state_after-point : (s later : ℕ) (count i end : ℕ) → i < count → later ≡ state_after 3 s → state_after (3 * (count - i)) s ≡ end → state_after (3 * (count - (i + 1))) later ≡ end
state_after-point s later count i end lt state h =
    let rest : ℕ = 3 * (count - (i + 1)) in
    let left : 3 * (count - i) ≡ suc (suc (suc rest)) = omega arith in
    ap (state_after rest) state ∙ ap (λ n. state_after n s) (sym left) ∙ h
