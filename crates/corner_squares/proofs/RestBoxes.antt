-- The box of what squares leave over has the least and the greatest coordinates of these points, so the squares in its corners are the model's.
use Rattle.std.proofs.Common.{◌≡◌, inl, inr, sym, subst, ap, ap₂, ◌∙◌, ℕ, ◌%◌, ◌/◌, ℤ, pos, ◌-ℤ◌, ◌≤ℤ◌, List, [], ◌∷◌, ◌++◌, get_or, All}
use Rattle.std.specs.Prelude.{if◌then◌else◌, ◌==◌}
use Rattle.std.proofs.lemmas.List.{get_or_default}
use Rattle.integers.specs.Extremes.{greatest, least}
use Rattle.integers.proofs.Extremes.{greatest_is, least_is}
use Rattle.bounds_model.specs.Plane.{PlanePoint, point_at, origin}
use Rattle.bounds_model.specs.CentresAnswer as model
use Rattle.corner_squares.specs.declared.square.Square.{Square}
use Rattle.corner_squares.specs.declared.extent.Extent.{Extent}
use Rattle.corner_squares.specs.declared.bounds.Bounds.{Bounds}
use Rattle.corner_squares.specs.Squares.{square_of, IsCovered, left_over}
use Rattle.corner_squares.proofs.Boxes.{end_left}
use Rattle.corner_squares.proofs.LeftOver.{All-left_over, left_over-push}
use Rattle.corner_squares.specs.Extents.{IsInside, IsSpan, IsRestBox}

inside_all : (of : PlanePoint → ℤ) (points : List PlanePoint) (squares : List Square) (e : Extent) → IsSpan of points squares e → All (λ p. IsInside e (of p)) (left_over squares points)
inside_all of points squares e h =
    All-left_over (λ p. IsInside e (of p)) squares points
    (λ p m free. let is : point_at points m.0 ≡ p = get_or_default points m.0 origin p m.1 ∙ m.2 in elim (h.inside m.0 m.1) [
      | inl covered ↦ absurd (free (subst (IsCovered squares) is covered))
      | inr inside ↦ subst (λ p. IsInside e (of p)) is inside
    ])

-- the low end is the least coordinate of what is left over
low_is_least : (of : PlanePoint → ℤ) (points : List PlanePoint) (squares : List Square) (e : Extent) → IsSpan of points squares e → e.low ≡ least of (left_over squares points)
low_is_least of points squares e h =
    sym (least_is of (left_over squares points) (point_at points e.low_at) (end_left points squares h.low_at)
    (λ k d below. subst (λ v. v ≤ℤ of (get_or (left_over squares points) k d)) (sym h.low_at.has) (inside_all of points squares e h k d below).0) ∙ h.low_at.has)

-- and the high end the greatest
high_is_greatest : (of : PlanePoint → ℤ) (points : List PlanePoint) (squares : List Square) (e : Extent) → IsSpan of points squares e → e.high ≡ greatest of (left_over squares points)
high_is_greatest of points squares e h =
    sym (greatest_is of (left_over squares points) (point_at points e.high_at) (end_left points squares h.high_at)
    (λ k d below. subst (λ v. of (get_or (left_over squares points) k d) ≤ℤ v) (sym h.high_at.has) (inside_all of points squares e h k d below).1) ∙ h.high_at.has)

-- the square in a corner of the box is the model's
corner_is : (points : List PlanePoint) (squares : List Square) (b : Bounds) (s : Square) (corner side : ℕ) → IsRestBox points squares b
    → s.left ≡ (if corner % 2 == 0 then b.across.low else (b.across.high -ℤ pos side)) → s.bottom ≡ (if corner / 2 == 0 then b.up.low else (b.up.high -ℤ pos side)) → s.side ≡ side
    → square_of s ≡ model.corner_square side corner (left_over squares points)
corner_is points squares b s corner side h is_left is_bottom is_side =
    square_parts _ _ _ _ _ _
    (is_left ∙ ap₂ (λ low high. if corner % 2 == 0 then low else (high -ℤ pos side)) (low_is_least (λ p. p.x) points squares b.across h.across) (high_is_greatest (λ p. p.x) points squares b.across h.across))
    (is_bottom ∙ ap₂ (λ low high. if corner / 2 == 0 then low else (high -ℤ pos side)) (low_is_least (λ p. p.y) points squares b.up h.up) (high_is_greatest (λ p. p.y) points squares b.up h.up))
    is_side
  where
    square_parts : (a b c d : ℤ) (m n : ℕ) → a ≡ b → c ≡ d → m ≡ n → ◌≡◌ {A = model.Square} (record { left = a; bottom = c; side = m }) (record { left = b; bottom = d; side = n })
    square_parts a b c d m n e f g = cc

-- with that square placed too, what is outside of it is left over
pub left_over_corner : (points : List PlanePoint) (squares pushed : List Square) (b : Bounds) (s : Square) (corner side : ℕ) → IsRestBox points squares b
    → s.left ≡ (if corner % 2 == 0 then b.across.low else (b.across.high -ℤ pos side)) → s.bottom ≡ (if corner / 2 == 0 then b.up.low else (b.up.high -ℤ pos side)) → s.side ≡ side → pushed ≡ squares ++ s ∷ []
    → left_over pushed points ≡ model.outside (model.corner_square side corner (left_over squares points)) (left_over squares points)
left_over_corner points squares pushed b s corner side h left bottom wide is =
    ap (λ ss. left_over ss points) is ∙ left_over-push squares s points ∙ ap (λ q. model.outside q (left_over squares points)) (corner_is points squares b s corner side h left bottom wide)
