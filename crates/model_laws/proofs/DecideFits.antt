-- Tests whether an object fits. Each decides the definition of the like name.
use Rattle.std.proofs.Common.{pos, ◌*ℤ◌, List, length, map}
use Rattle.integers.specs.Total.{total}
use Rattle.bounds_model.specs.Plane.{PlanePoint, origin, times, dot, cross, quarter_turn, plane_limit, IsInPlane}
use Rattle.bounds_model.specs.Space.{SpacePoint, flat, space_limit, IsInSpace}
use Rattle.bounds_model.specs.Fractions.{Fraction}
use Rattle.bounds_model.specs.Best.{IsPrintedSize}
use Rattle.bounds_model.specs.Ball.{Ball, IsInBall, FitsBall, FitsCircle}
use Rattle.bounds_model.specs.Strip.{Strip, FitsStrip}
use Rattle.bounds_model.specs.Rectangle.{Rectangle, FitsRectangle}
use Rattle.bounds_model.specs.Parallelogram.{Parallelogram, FitsParallelogram}
use Rattle.bounds_model.specs.Annulus.{Annulus, IsInAnnulus, FitsAnnulus}
use Rattle.bounds_model.specs.EmptyRectangle.{Box, IsFrame, IsStrictlyInside, EmptyRectangle, FitsEmpty}
use Rattle.bounds_model.specs.Distance.{Weights, FitsDistance}
use Rattle.model_laws.proofs.Decisions.{Decision, like, both, negated, all, equal_ℕ, equal_ℤ, most_ℤ, less_ℤ}
use Rattle.model_laws.proofs.DecideParts.{same_point, within, in_span, not_negative, lowest, same_value}
use Rattle.model_laws.proofs.DecideEmpty.{strictly_inside}

abbrev pub is_in_plane : (p : PlanePoint) → Decision (IsInPlane p)
is_in_plane p = like (both (within plane_limit p.x) (within plane_limit p.y)) (λ h. record { x = h.0; y = h.1 }) (λ h. (h.x, h.y))

abbrev pub is_in_space : (p : SpacePoint) → Decision (IsInSpace p)
is_in_space p =
    like (both (within space_limit p.x) (both (within space_limit p.y) (within space_limit p.z)))
    (λ h. record { x = h.0; y = h.1.0; z = h.1.1 }) (λ h. (h.x, (h.y, h.z)))

abbrev pub printed : (size p : Fraction) → Decision (IsPrintedSize size p)
printed size p = like (both (lowest p) (same_value p size)) (λ h. record { lowest = h.0; same = h.1 }) (λ h. (h.lowest, h.same))

abbrev pub fits_ball : (points : List SpacePoint) (ball : Ball) → Decision (FitsBall points ball)
fits_ball points ball =
    like (both (most_ℤ (pos 1) ball.centre.w) (both (not_negative ball.squared_radius) (all {P = IsInBall ball} (λ p. most_ℤ _ _) points)))
    (λ h. record { denominator = h.0; radius = h.1.0; inside = h.1.1 }) (λ h. (h.denominator, (h.radius, h.inside)))

abbrev pub fits_circle : (points : List PlanePoint) (circle : Ball) → Decision (FitsCircle points circle)
fits_circle points circle =
    like (both (equal_ℤ circle.centre.z (pos 0)) (fits_ball (map flat points) circle))
    (λ h. record { in_plane = h.0; ball = h.1 }) (λ h. (h.in_plane, h.ball))

abbrev pub fits_strip : (points : List PlanePoint) (strip : Strip) → Decision (FitsStrip points strip)
fits_strip points strip =
    like
    (both (negated (same_point strip.normal origin))
    (both (most_ℤ strip.bounds.low strip.bounds.high)
    (both (most_ℤ (pos 1) strip.w)
    (all (λ p. in_span strip.bounds (strip.w *ℤ dot strip.normal p)) points))))
    (λ h. record { normal = h.0; bounds = h.1.0; denominator = h.1.1.0; inside = h.1.1.1 }) (λ h. (h.normal, (h.bounds, (h.denominator, h.inside))))

abbrev pub fits_rectangle : (points : List PlanePoint) (rectangle : Rectangle) → Decision (FitsRectangle points rectangle)
fits_rectangle points rectangle =
    like
    (both (negated (same_point rectangle.direction origin))
    (both (most_ℤ rectangle.along.low rectangle.along.high)
    (both (most_ℤ rectangle.across.low rectangle.across.high)
    (both (most_ℤ (pos 1) rectangle.w)
    (both (all (λ p. in_span rectangle.along (rectangle.w *ℤ dot rectangle.direction p)) points)
    (all (λ p. in_span rectangle.across (rectangle.w *ℤ dot (quarter_turn rectangle.direction) p)) points))))))
    (λ h. record {
      direction =
          h.0;
      along = h.1.0;
      across = h.1.1.0;
      denominator = h.1.1.1.0;
      inside_along = h.1.1.1.1.0;
      inside_across = h.1.1.1.1.1;
    })
    (λ h. (h.direction, (h.along, (h.across, (h.denominator, (h.inside_along, h.inside_across))))))

abbrev pub fits_parallelogram : (points : List PlanePoint) (object : Parallelogram) → Decision (FitsParallelogram points object)
fits_parallelogram points object =
    like
    (both (negated (equal_ℤ (cross object.first object.second) (pos 0)))
    (both (most_ℤ object.first_bounds.low object.first_bounds.high)
    (both (most_ℤ object.second_bounds.low object.second_bounds.high)
    (both (most_ℤ (pos 1) object.w)
    (both (all (λ p. in_span object.first_bounds (object.w *ℤ dot object.first p)) points)
    (all (λ p. in_span object.second_bounds (object.w *ℤ dot object.second p)) points))))))
    (λ h. record {
      normals =
          h.0;
      first_bounds = h.1.0;
      second_bounds = h.1.1.0;
      denominator = h.1.1.1.0;
      inside_first = h.1.1.1.1.0;
      inside_second = h.1.1.1.1.1;
    })
    (λ h. (h.normals, (h.first_bounds, (h.second_bounds, (h.denominator, (h.inside_first, h.inside_second))))))

abbrev pub in_annulus : (annulus : Annulus) (p : PlanePoint) → Decision (IsInAnnulus annulus p)
in_annulus annulus p =
    like (both (most_ℤ _ _) (most_ℤ _ _))
    (λ h. record { outside_inner = h.0; inside_outer = h.1 }) (λ h. (h.outside_inner, h.inside_outer))

abbrev pub fits_annulus : (points : List PlanePoint) (annulus : Annulus) → Decision (FitsAnnulus points annulus)
fits_annulus points annulus =
    like (both (most_ℤ (pos 1) annulus.centre.w) (both (not_negative annulus.inner) (both (not_negative annulus.outer) (all {P = IsInAnnulus annulus}
    (in_annulus annulus) points))))
    (λ h. record { denominator = h.0; inner = h.1.0; outer = h.1.1.0; inside = h.1.1.1 }) (λ h. (h.denominator, (h.inner, (h.outer, h.inside))))

abbrev pub is_frame : (box : Box) → Decision (IsFrame box)
is_frame box =
    like
    (both (within plane_limit box.left)
    (both (within plane_limit box.bottom)
    (both (within plane_limit box.right)
    (both (within plane_limit box.top)
    (both (less_ℤ box.left box.right) (less_ℤ box.bottom box.top))))))
    (λ h. record { left = h.0; bottom = h.1.0; right = h.1.1.0; top = h.1.1.1.0; wide = h.1.1.1.1.0; high = h.1.1.1.1.1 })
    (λ h. (h.left, (h.bottom, (h.right, (h.top, (h.wide, h.high))))))

abbrev pub fits_empty : (frame : Box) (points : List PlanePoint) (rectangle : EmptyRectangle) → Decision (FitsEmpty frame points rectangle)
fits_empty frame points rectangle =
    like
    (both (most_ℤ (pos 1) rectangle.w)
    (both (most_ℤ rectangle.box.left rectangle.box.right)
    (both (most_ℤ rectangle.box.bottom rectangle.box.top)
    (both (most_ℤ (rectangle.w *ℤ frame.left) rectangle.box.left)
    (both (most_ℤ rectangle.box.right (rectangle.w *ℤ frame.right))
    (both (most_ℤ (rectangle.w *ℤ frame.bottom) rectangle.box.bottom)
    (both (most_ℤ rectangle.box.top (rectangle.w *ℤ frame.top))
    (all {P =
    λ p. ¬ IsStrictlyInside rectangle.box (times rectangle.w p)} (λ p. negated (strictly_inside rectangle.box (times rectangle.w p))) points))))))))
    (λ h. record {
      denominator =
          h.0;
      width =
          h.1.0;
      height = h.1.1.0;
      left = h.1.1.1.0;
      right = h.1.1.1.1.0;
      bottom = h.1.1.1.1.1.0;
      top = h.1.1.1.1.1.1.0;
      empty = h.1.1.1.1.1.1.1;
    })
    (λ h. (h.denominator, (h.width, (h.height, (h.left, (h.right, (h.bottom, (h.top, h.empty))))))))

abbrev pub fits_distance : (ps qs : List SpacePoint) (weights : Weights) → Decision (FitsDistance ps qs weights)
fits_distance ps qs weights =
    like
    (both (equal_ℕ (length weights.first) (length ps))
    (both (equal_ℕ (length weights.second) (length qs))
    (both (all (λ w. most_ℤ (pos 0) w) weights.first)
    (both (all (λ w. most_ℤ (pos 0) w) weights.second)
    (both (equal_ℤ (total (λ w. w) weights.first) (total (λ w. w) weights.second))
    (most_ℤ (pos 1) (total (λ w. w) weights.first)))))))
    (λ h. record { for_first = h.0; for_second = h.1.0; first = h.1.1.0; second = h.1.1.1.0; same_sum = h.1.1.1.1.0; sum = h.1.1.1.1.1 })
    (λ h. (h.for_first, (h.for_second, (h.first, (h.second, (h.same_sum, h.sum))))))
