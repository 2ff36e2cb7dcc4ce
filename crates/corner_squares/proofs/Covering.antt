-- What a square contains.
use Rattle.std.proofs.Common.{◌≡◌, ◌↔◌, ℤ, pos, ◌+ℤ◌, ◌≤ℤ◌, Bool, true, false, refl, IsTrue, arith}
use Rattle.std.specs.Prelude.{int_le, ◌&&◌}
use Rattle.std.proofs.lemmas.Int.{ints}
use Rattle.bounds_model.specs.Plane.{PlanePoint}
use Rattle.bounds_model.specs.CentresAnswer.{Square, contains}

le_true : (a b : ℤ) → a ≤ℤ b → int_le a b ≡ true
le_true a b h = grind (arith, ints)

true_le : (a b : ℤ) → int_le a b ≡ true → a ≤ℤ b
true_le a b h = grind (arith, ints)

both : (a b : Bool) → a ≡ true → b ≡ true → (a && b) ≡ true
both a b h k = grind arith

both_true : (a b : Bool) → (a && b) ≡ true → (a ≡ true) × (b ≡ true)
both_true true b h = (refl, h)
both_true false b h = absurd (cc)

-- a square contains what lies between its sides, in x and in y
pub between_sides : (s : Square) (p : PlanePoint)
    → IsTrue (contains s p) ↔ (((s.left ≤ℤ p.x) × (p.x ≤ℤ (s.left +ℤ pos s.side))) × ((s.bottom ≤ℤ p.y) × (p.y ≤ℤ (s.bottom +ℤ pos s.side))))
between_sides s p = (
  λ covered.
      let upper = both_true (from_left && to_right && from_below) to_top covered in
      let lower = both_true (from_left && to_right) from_below upper.0 in
      let across = both_true from_left to_right lower.0 in
      ((true_le s.left p.x across.0, true_le p.x (s.left +ℤ pos s.side) across.1), (true_le s.bottom p.y lower.1, true_le p.y (s.bottom +ℤ pos s.side) upper.1)),
  λ inside.
      both (from_left && to_right && from_below) to_top
      (both (from_left && to_right) from_below (both from_left to_right (le_true s.left p.x inside.0.0) (le_true p.x (s.left +ℤ pos s.side) inside.0.1)) (le_true s.bottom p.y inside.1.0))
      (le_true p.y (s.bottom +ℤ pos s.side) inside.1.1),
)
  where
    from_left : Bool
    from_left = int_le s.left p.x

    to_right : Bool
    to_right = int_le p.x (s.left +ℤ pos s.side)

    from_below : Bool
    from_below = int_le s.bottom p.y

    to_top : Bool
    to_top = int_le p.y (s.bottom +ℤ pos s.side)
