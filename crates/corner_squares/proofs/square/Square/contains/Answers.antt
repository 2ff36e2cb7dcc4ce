use Rattle.std.proofs.Common.{◌≡◌, ◌↔◌, subst, IsTrue, Bool, ℤ, pos, ◌+ℤ◌, ◌≤ℤ◌, SFits, w32, rules}
use Rattle.std.proofs.lemmas.Int.{to_z-of_z}
use Rattle.bounds_model.specs.Plane.{PlanePoint}
use Rattle.bounds_model.specs.CentresAnswer.{Square, contains}
use Rattle.corner_squares.specs.Squares.{square_of}
use Rattle.corner_squares.proofs.Covering.{between_sides}
use Rattle.corner_squares.proofs.square.Square.contains.Goals as goal

-- what is between the left and the right side is covered where it is between the lower and the upper one
last : {b c : Bool} {x y : ℤ} (s : Square) (p : PlanePoint) → x ≡ p.x → y ≡ p.y → IsTrue b
    → (IsTrue b ↔ ((s.left ≤ℤ x) × (x ≤ℤ (s.left +ℤ pos s.side)))) → (IsTrue c ↔ ((s.bottom ≤ℤ y) × (y ≤ℤ (s.bottom +ℤ pos s.side)))) → IsTrue c ↔ IsTrue (contains s p)
last {b} {c} s p is_x is_y inside across up =
    let in_x : (s.left ≤ℤ p.x) × (p.x ≤ℤ (s.left +ℤ pos s.side)) = subst (λ v. (s.left ≤ℤ v) × (v ≤ℤ (s.left +ℤ pos s.side))) is_x (across.0 inside) in
    let in_y : IsTrue c ↔ ((s.bottom ≤ℤ p.y) × (p.y ≤ℤ (s.bottom +ℤ pos s.side))) = subst (λ v. IsTrue c ↔ ((s.bottom ≤ℤ v) × (v ≤ℤ (s.bottom +ℤ pos s.side)))) is_y up in
    (λ t. (between_sides s p).1 (in_x, in_y.0 t), λ covered. in_y.1 ((between_sides s p).0 covered).1)

pub returns-then-is_from : goal.returns-then-is_from
returns-then-is_from c =
    let fits_left : SFits w32 c.args.self.now.left = search rules in
    let fits_bottom : SFits w32 c.args.self.now.bottom = search rules in
    let fits_x : SFits w32 c.x.result = search rules in
    let fits_y : SFits w32 c.y.result = search rules in
    let across = simp to_z-of_z at c.is_from.ensures in
    let up = simp to_z-of_z at c.is_from-then-is_from.ensures in
    last (square_of c.args.self.now) c.args.p.now c.x.ensures.value c.y.ensures.value c.if-is_from.true across up
