-- Clamped coordinates are as good as the coordinates themselves.
use Rattle.std.proofs.Common.{◌≡◌, ◌∙◌, refl, sym, ap, ℕ, ℤ, ◌≤◌, ◌&&◌, Bool, true, false, cond, List, [], ◌∷◌, Option, Some, arith}
use Rattle.bounds_model.specs.Plane.{PlanePoint, plane_limit}
use Rattle.bounds_model.specs.Space.{SpacePoint, space_limit}
use Rattle.bounds_model.specs.PointText.{Meaning, is_within, says_point, out_of_bounds, plane_meaning, space_meaning}
use Rattle.byte_tools.proofs.Clamping.{within_or_not}
use Rattle.point_text.specs.Clamps.{clamped}

-- what a coordinate in bounds leads to, and anything else, does not change where the coordinate is clamped
through_clamp : {A : Type 0} (limit : ℕ) (z : ℤ) → limit ≤ plane_limit → (inside : ℤ → A) (outside : A)
    → cond (is_within limit (clamped z)) (inside (clamped z)) outside ≡ cond (is_within limit z) (inside z) outside
through_clamp limit z small inside outside = within_or_not plane_limit limit z small inside outside

-- ---- points of clamped coordinates

cond_and : {A : Type 0} (a b : Bool) (x y : A) → cond (a && b) x y ≡ cond a (cond b x y) y
cond_and true b x y = refl
cond_and false b x y = refl

-- clamping two numbers does not change what they mean
pub plane_clamped : (x y : ℤ) → plane_meaning (Some (clamped x) ∷ Some (clamped y) ∷ []) ≡ plane_meaning (Some x ∷ Some y ∷ [])
plane_clamped x y =
    let point : ℤ → ℤ → Meaning PlanePoint = λ x y. says_point (record { x = x; y = y }) in
    let parted = λ (x y : ℤ). cond_and (is_within plane_limit x) (is_within plane_limit y) (point x y) out_of_bounds in
    let last : ℤ → ℤ → Meaning PlanePoint = λ x y. cond (is_within plane_limit y) (point x y) out_of_bounds in
    parted (clamped x) (clamped y)
    ∙ (through_clamp plane_limit x (omega arith) (λ x. last x (clamped y)) out_of_bounds
    ∙ (ap (λ m. cond (is_within plane_limit x) m out_of_bounds) (through_clamp plane_limit y (omega arith) (point x) out_of_bounds) ∙ sym (parted x y)))

-- clamping three numbers does not change what they mean
pub space_clamped : (x y z : ℤ) → space_meaning (Some (clamped x) ∷ Some (clamped y) ∷ Some (clamped z) ∷ []) ≡ space_meaning (Some x ∷ Some y ∷ Some z ∷ [])
space_clamped x y z =
    let point : ℤ → ℤ → ℤ → Meaning SpacePoint = λ x y z. says_point (record { x = x; y = y; z = z }) in
    let parted = λ (x y z : ℤ). cond_and (is_within space_limit x && is_within space_limit y) (is_within space_limit z) (point x y z) out_of_bounds
    ∙ cond_and (is_within space_limit x) (is_within space_limit y) (cond (is_within space_limit z) (point x y z) out_of_bounds) out_of_bounds in
    let last : ℤ → ℤ → ℤ → Meaning SpacePoint = λ x y z. cond (is_within space_limit z) (point x y z) out_of_bounds in
    let second : ℤ → ℤ → ℤ → Meaning SpacePoint = λ x y z. cond (is_within space_limit y) (last x y z) out_of_bounds in
    parted (clamped x) (clamped y) (clamped z)
    ∙ (through_clamp space_limit x (omega arith) (λ x. second x (clamped y) (clamped z)) out_of_bounds
    ∙ (ap (λ m. cond (is_within space_limit x) m out_of_bounds)
    (through_clamp space_limit y (omega arith) (λ y. last x y (clamped z)) out_of_bounds
    ∙ ap (λ m. cond (is_within space_limit y) m out_of_bounds) (through_clamp space_limit z (omega arith) (point x y) out_of_bounds))
    ∙ sym (parted x y z)))

-- ---- fields

-- three clamped numbers mean what the numbers of the three fields mean
pub three_numbers : (x y z u v w : ℤ) (fields behind further rest : List (Option ℤ)) → x ≡ clamped u → fields ≡ Some u ∷ behind → y ≡ clamped v → behind ≡ Some v ∷ further
    → z ≡ clamped w → further ≡ Some w ∷ rest → rest ≡ [] → space_meaning (Some x ∷ Some y ∷ Some z ∷ []) ≡ space_meaning fields
three_numbers x y z u v w fields behind further rest is_u first is_v second is_w third end = ap space_meaning same ∙ (space_clamped u v w ∙ sym (ap space_meaning all)) where
  same : Some x ∷ Some y ∷ Some z ∷ [] ≡ Some (clamped u) ∷ Some (clamped v) ∷ Some (clamped w) ∷ []
  same = cc

  all : fields ≡ Some u ∷ Some v ∷ Some w ∷ []
  all = cc
