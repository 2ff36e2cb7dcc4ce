-- What blocks the sides of a rectangle.
use Rattle.std.proofs.Common.{◌≡◌, sym, ap, ◌∙◌, subst, ◌↔◌, ℕ, ℤ, ◌<ℤ◌, List, Bool, IsTrue, to_z, of_z, w32, SFits, to_z-of_z}
use Rattle.bounds_model.specs.Plane.{PlanePoint, point_at}
use Rattle.bounds_model.specs.EmptyAnswer as model
use Rattle.bounds_model.specs.EmptyAnswer.{BlocksVertical, BlocksLevel}
use Rattle.answers.specs.Answers.{blocker_of}
use Rattle.answers.specs.declared.empty_rectangles.Blocker.{Blocker}
use Rattle.answers.specs.declared.empty_rectangles.Blocker.TheVariants.{Point}

-- numbers of one code are equal
pub same_coordinate : {a b : ℤ} → SFits w32 a → SFits w32 b → of_z w32 a ≡ of_z w32 b → a ≡ b
same_coordinate {a} {b} h k e = sym (to_z-of_z h) ∙ ap (to_z w32) e ∙ to_z-of_z k

-- a coordinate, as the code has it
pub coordinate_kept : {z v : ℤ} → SFits w32 z → z ≡ v → to_z w32 (of_z w32 z) ≡ v
coordinate_kept h e = to_z-of_z h ∙ e

-- a test of sides, for others that are the same
pub vertical_same : {yes : Bool} {frame_x frame_x2 x x2 : ℤ} (points : List PlanePoint) (low high : ℤ) (by : model.Blocker) → frame_x ≡ frame_x2 → x ≡ x2 → (IsTrue yes ↔ BlocksVertical points frame_x x low high by) → IsTrue yes ↔ BlocksVertical points frame_x2 x2 low high by
vertical_same {yes} {frame_x} {frame_x2} {x} {x2} points low high by e f h = subst (λ v. IsTrue yes ↔ BlocksVertical points frame_x2 v low high by) f (subst (λ v. IsTrue yes ↔ BlocksVertical points v x low high by) e h)

pub level_same : {yes : Bool} {frame_y frame_y2 y y2 : ℤ} (points : List PlanePoint) (low high : ℤ) (by : model.Blocker) → frame_y ≡ frame_y2 → y ≡ y2 → (IsTrue yes ↔ BlocksLevel points frame_y y low high by) → IsTrue yes ↔ BlocksLevel points frame_y2 y2 low high by
level_same {yes} {frame_y} {frame_y2} {y} {y2} points low high by e f h = subst (λ v. IsTrue yes ↔ BlocksLevel points frame_y2 v low high by) f (subst (λ v. IsTrue yes ↔ BlocksLevel points v y low high by) e h)

-- a vertical side through a point rests on it where the point is between its ends
pub vertical_at : {yes : Bool} (points : List PlanePoint) (by : Blocker) (number : ℕ) (frame_x x low high : ℤ) (p : PlanePoint) → by ≡ Point number → p ≡ point_at points number → p.x ≡ x → (IsTrue yes ↔ ((low <ℤ p.y) × (p.y <ℤ high)))
    → IsTrue yes ↔ BlocksVertical points frame_x x low high (blocker_of by)
vertical_at {yes} points by number frame_x x low high p is at in_x decides =
    let named : IsTrue yes ↔ BlocksVertical points frame_x x low high (blocker_of (Point number)) = subst (λ (q : PlanePoint). IsTrue yes ↔ ((q.x ≡ x) × (low <ℤ q.y) × (q.y <ℤ high))) at
    (λ t. let h = decides.0 t in (in_x, h.0, h.1), λ h. decides.1 (h.1, h.2)) in
    subst (λ b. IsTrue yes ↔ BlocksVertical points frame_x x low high (blocker_of b)) (sym is) named

-- and on no point that it doesn't go through
pub vertical_through : (points : List PlanePoint) (by : Blocker) (number : ℕ) (frame_x x low high : ℤ) (p : PlanePoint) → by ≡ Point number → p ≡ point_at points number → BlocksVertical points frame_x x low high (blocker_of by) → p.x ≡ x
vertical_through points by number frame_x x low high p is at blocks =
    let h = subst (λ b. BlocksVertical points frame_x x low high (blocker_of b)) is blocks in
    ap (λ (q : PlanePoint). q.x) at ∙ h.0

-- likewise a level side
pub level_at : {yes : Bool} (points : List PlanePoint) (by : Blocker) (number : ℕ) (frame_y y low high : ℤ) (p : PlanePoint) → by ≡ Point number → p ≡ point_at points number → p.y ≡ y → (IsTrue yes ↔ ((low <ℤ p.x) × (p.x <ℤ high)))
    → IsTrue yes ↔ BlocksLevel points frame_y y low high (blocker_of by)
level_at {yes} points by number frame_y y low high p is at in_y decides =
    let named : IsTrue yes ↔ BlocksLevel points frame_y y low high (blocker_of (Point number)) = subst (λ (q : PlanePoint). IsTrue yes ↔ ((q.y ≡ y) × (low <ℤ q.x) × (q.x <ℤ high))) at
    (λ t. let h = decides.0 t in (in_y, h.0, h.1), λ h. decides.1 (h.1, h.2)) in
    subst (λ b. IsTrue yes ↔ BlocksLevel points frame_y y low high (blocker_of b)) (sym is) named

pub level_through : (points : List PlanePoint) (by : Blocker) (number : ℕ) (frame_y y low high : ℤ) (p : PlanePoint) → by ≡ Point number → p ≡ point_at points number → BlocksLevel points frame_y y low high (blocker_of by) → p.y ≡ y
level_through points by number frame_y y low high p is at blocks =
    let h = subst (λ b. BlocksLevel points frame_y y low high (blocker_of b)) is blocks in
    ap (λ (q : PlanePoint). q.y) at ∙ h.0
