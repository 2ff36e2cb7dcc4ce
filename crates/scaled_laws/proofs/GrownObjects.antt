-- Growing, kind by kind: what fits grows into what fits, and sizes grow by the square of the scale, or by the scale.
use Rattle.std.proofs.Common.{◌≡◌, refl, sym, ◌∙◌, ap, subst, ℕ, ◌*◌, ◌^◌, ◌≤◌, ℤ, pos, ◌*ℤ◌, ◌≤ℤ◌, ◌<ℤ◌, List, map, arith}
use Rattle.std.specs.Prelude.{All}
use Rattle.std.proofs.lemmas.Int.{ints}
use Rattle.std.proofs.lemmas.List.Elements.{All-weaker}
use Rattle.std.proofs.Math.IntN.{pos-*ℤ-pos}
use Rattle.std.proofs.Math.Nat.{pow-zero, pow-suc}
use Rattle.integers.proofs.Order.{positive_mul, nonneg_mul, le_from_lt, at_least_one, positive_from_one, square_nonneg, mul_le_left, lt_of_mul_lt}
use Rattle.bounds_model.specs.Plane.{PlanePoint, dot, quarter_turn, squared_length, times}
use Rattle.bounds_model.specs.Space.{SpacePoint, flat}
use Rattle.bounds_model.specs.Fractions.{Fraction, IsNotNegative, over, multiple}
use Rattle.bounds_model.specs.Ball.{Ball, IsInBall, FitsBall, FitsCircle, ball_size}
use Rattle.bounds_model.specs.Strip.{Span, Strip, IsInSpan, FitsStrip, strip_size, extent}
use Rattle.bounds_model.specs.Rectangle.{Rectangle, FitsRectangle, rectangle_size}
use Rattle.bounds_model.specs.Parallelogram.{Parallelogram, FitsParallelogram, parallelogram_size}
use Rattle.bounds_model.specs.Annulus.{Annulus, IsInAnnulus, FitsAnnulus, annulus_size}
use Rattle.bounds_model.specs.Shell.{Shell, IsInShell, FitsShell, shell_size}
use Rattle.bounds_model.specs.EmptyRectangle.{Box, EmptyRectangle, IsStrictlyInside, FitsEmpty, empty_size, area}
use Rattle.bounds_model.specs.Scaled.{grown_ball, grown_rectangle, grown_parallelogram, grown_strip, grown_annulus, grown_empty, grown_shell}
use Rattle.bounds_model.specs.Scaled.{SameBall, SameRectangle, SameParallelogram, SameStrip, SameAnnulus, SameEmpty, SameShell}
use Rattle.model_laws.proofs.SizeDenominators.{ball_denominator, circle_denominator, strip_denominator, rectangle_denominator, parallelogram_denominator, annulus_denominator, empty_denominator, shell_denominator}
use Rattle.scaled_laws.proofs.Scaling.{Grows}
use Rattle.scaled_laws.proofs.GrownNumbers.{from_product, same_over, stretched, area_grows, area_shrinks, plain_area_shrinks, fraction_shrinks, fraction_grows, same_fraction, span_grows, same_span, within_grows, beyond_grows, far_grows, far_grows_in_plane, width_grows, width_shrinks}

-- ---- the scale as a whole number

-- the first power of the scale
pub first_power : (scale : ℕ) → scale ^ 1 ≡ scale
first_power scale = pow-suc scale 0 ∙ ap (λ n. n * scale) (pow-zero scale) ∙ one_time scale
  where
    one_time : (n : ℕ) → 1 * n ≡ n
    one_time n = omega arith

-- the square of the scale, as the definitions write it
pub square_is : (scale : ℕ) → pos (scale ^ 2) ≡ pos scale *ℤ pos scale
square_is scale = ap pos (pow-suc scale 1 ∙ ap (λ n. n * scale) (first_power scale)) ∙ sym (pos-*ℤ-pos scale scale)

pub units_are : (scale : ℕ) → pos (scale ^ 2) ≡ pos (scale * scale)
units_are scale = square_is scale ∙ pos-*ℤ-pos scale scale

pub above_zero : (scale : ℕ) → 1 ≤ scale → pos 0 <ℤ pos scale
above_zero scale h = omega (arith, ints)

pub square_above : (scale : ℕ) → 1 ≤ scale → pos 0 <ℤ pos (scale ^ 2)
square_above scale h = subst (λ z. pos 0 <ℤ z) (sym (square_is scale)) (positive_mul (above_zero scale h) (above_zero scale h))

pub factor_above : (scale : ℕ) → 1 ≤ scale → pos 0 <ℤ pos (scale * scale)
factor_above scale h = subst (λ z. pos 0 <ℤ z) (units_are scale) (square_above scale h)

-- denominators times the scale stay above 0
grown_denominator : (scale : ℕ) (w : ℤ) → 1 ≤ scale → pos 1 ≤ℤ w → pos 1 ≤ℤ (pos scale *ℤ w)
grown_denominator scale w h l = at_least_one (positive_mul (above_zero scale h) (positive_from_one l))

-- a radius over the square of the scale, times it
radius_grows : (scale : ℕ) (r : Fraction) → 1 ≤ scale → IsNotNegative r → IsNotNegative (multiple (scale * scale) (over (scale * scale) r))
radius_grows scale r h n = record {
  numerator = nonneg_mul (le_from_lt (factor_above scale h)) n.numerator;
  denominator = at_least_one (positive_mul (positive_from_one n.denominator) (factor_above scale h));
}

-- ---- balls and circles

abbrev pub shrunk_ball : ℕ → Ball → Ball
shrunk_ball scale ball = record {
  centre = record { x = ball.centre.x; y = ball.centre.y; z = ball.centre.z; w = pos scale *ℤ ball.centre.w };
  squared_radius = over (scale * scale) ball.squared_radius;
}

ball_fits : (scale : ℕ) → 1 ≤ scale → (points : List SpacePoint) (ball : Ball) → FitsBall points ball → FitsBall points (grown_ball scale (shrunk_ball scale ball))
ball_fits scale l points ball h = record {
  denominator = grown_denominator scale ball.centre.w l h.denominator;
  radius = radius_grows scale ball.squared_radius l h.radius;
  inside = All-weaker (IsInBall ball) (IsInBall (grown_ball scale (shrunk_ball scale ball)))
      (λ p i. within_grows (pos scale) (pos (scale * scale)) ball.squared_radius.d ball.squared_radius.n ball.centre.w _ _ (le_from_lt (factor_above scale l))
      (far_grows (pos scale) ball.centre.w ball.centre.x ball.centre.y ball.centre.z p.x p.y p.z) (square_nonneg (pos scale)) i)
      points h.inside;
}

same_ball : (scale : ℕ) (ball : Ball) → SameBall (grown_ball scale (shrunk_ball scale ball)) ball
same_ball scale ball = record {
  centre = record { in_x = same_over (pos scale) ball.centre.w ball.centre.x; in_y = same_over (pos scale) ball.centre.w ball.centre.y; in_z = same_over (pos scale) ball.centre.w ball.centre.z };
  squared_radius = same_fraction (pos (scale * scale)) ball.squared_radius.n ball.squared_radius.d;
}

pub balls_grow : (scale : ℕ) → 1 ≤ scale → (points : List SpacePoint) → Grows (FitsBall points) SameBall ball_size (grown_ball scale) (shrunk_ball scale) (pos (scale ^ 2))
balls_grow scale l points = record {
  factor = square_above scale l;
  same = same_ball scale;
  fits = ball_fits scale l points;
  denominator = ball_denominator points;
  shrunk_denominator = λ ball h. positive_mul (ball_denominator points ball h) (factor_above scale l);
  grown_denominator = λ ball h. ball_denominator points (grown_ball scale ball) h;
  shrunk_size = λ ball. fraction_shrinks (pos (scale ^ 2)) (pos (scale * scale)) ball.squared_radius.n ball.squared_radius.d (units_are scale);
  grown_size = λ ball. fraction_grows (pos (scale ^ 2)) (pos (scale * scale)) ball.squared_radius.n ball.squared_radius.d (units_are scale);
}

pub circles_grow : (scale : ℕ) → 1 ≤ scale → (points : List PlanePoint) → Grows (FitsCircle points) SameBall ball_size (grown_ball scale) (shrunk_ball scale) (pos (scale ^ 2))
circles_grow scale l points = record {
  factor = square_above scale l;
  same = same_ball scale;
  fits = λ circle h. record { in_plane = ap (λ z. pos scale *ℤ z) h.in_plane ∙ times_zero (pos scale); ball = ball_fits scale l (map flat points) circle h.ball };
  denominator = circle_denominator points;
  shrunk_denominator = λ circle h. positive_mul (circle_denominator points circle h) (factor_above scale l);
  grown_denominator = λ circle h. circle_denominator points (grown_ball scale circle) h;
  shrunk_size = λ circle. fraction_shrinks (pos (scale ^ 2)) (pos (scale * scale)) circle.squared_radius.n circle.squared_radius.d (units_are scale);
  grown_size = λ circle. fraction_grows (pos (scale ^ 2)) (pos (scale * scale)) circle.squared_radius.n circle.squared_radius.d (units_are scale);
}
  where
    times_zero : (s : ℤ) → s *ℤ pos 0 ≡ pos 0
    times_zero s = omega (arith, ints)

-- ---- strips, rectangles and parallelograms

abbrev pub shrunk_strip : ℕ → Strip → Strip
shrunk_strip scale strip = record { normal = strip.normal; bounds = strip.bounds; w = pos scale *ℤ strip.w }

-- bounds that are grown keep their order
ordered : (scale : ℕ) {a b : ℤ} → 1 ≤ scale → a ≤ℤ b → (pos scale *ℤ a) ≤ℤ (pos scale *ℤ b)
ordered scale l h = mul_le_left (pos scale) (le_from_lt (above_zero scale l)) h

-- points within bounds over w are within the grown bounds over the grown w
all_within : (scale : ℕ) → 1 ≤ scale → (points : List PlanePoint) (u : PlanePoint) (w : ℤ) (span : Span) → All (λ p. IsInSpan span (w *ℤ dot u p)) points
    → All (λ p. IsInSpan (record { low = pos scale *ℤ span.low; high = pos scale *ℤ span.high }) (pos scale *ℤ w *ℤ dot u p)) points
all_within scale l points u w span h =
    All-weaker (λ p. IsInSpan span (w *ℤ dot u p)) (λ p. IsInSpan (record { low = pos scale *ℤ span.low; high = pos scale *ℤ span.high }) (pos scale *ℤ w *ℤ dot u p))
    (λ p i. span_grows (pos scale) w (dot u p) span (le_from_lt (above_zero scale l)) i) points h

pub strips_grow : (scale : ℕ) → 1 ≤ scale → (points : List PlanePoint) → Grows (FitsStrip points) SameStrip strip_size (grown_strip scale) (shrunk_strip scale) (pos (scale ^ 2))
strips_grow scale l points = record {
  factor = square_above scale l;
  same = λ strip. record { normal = refl; bounds = same_span (pos scale) strip.w strip.bounds };
  fits = fits;
  denominator = strip_denominator points;
  shrunk_denominator = λ strip h. strip_denominator points (grown_strip scale (shrunk_strip scale strip)) (fits strip h);
  grown_denominator = λ strip h. strip_denominator points (grown_strip scale strip) h;
  shrunk_size = λ strip. area_shrinks (pos scale) (pos (scale ^ 2)) (extent strip.bounds *ℤ extent strip.bounds) strip.w (squared_length strip.normal) (square_is scale);
  grown_size = λ strip. area_grows (pos scale) (pos (scale ^ 2)) (extent strip.bounds) (extent strip.bounds) _ _ (strip.w *ℤ strip.w *ℤ squared_length strip.normal) (square_is scale)
      (stretched (pos scale) strip.bounds.low strip.bounds.high) (stretched (pos scale) strip.bounds.low strip.bounds.high);
}
  where
    fits : (strip : Strip) → FitsStrip points strip → FitsStrip points (grown_strip scale (shrunk_strip scale strip))
    fits strip h = record {
      normal = h.normal;
      bounds = ordered scale l h.bounds;
      denominator = grown_denominator scale strip.w l h.denominator;
      inside = all_within scale l points strip.normal strip.w strip.bounds h.inside;
    }

abbrev pub shrunk_rectangle : ℕ → Rectangle → Rectangle
shrunk_rectangle scale r = record { direction = r.direction; along = r.along; across = r.across; w = pos scale *ℤ r.w }

pub rectangles_grow : (scale : ℕ) → 1 ≤ scale → (points : List PlanePoint) → Grows (FitsRectangle points) SameRectangle rectangle_size (grown_rectangle scale) (shrunk_rectangle scale) (pos (scale ^ 2))
rectangles_grow scale l points = record {
  factor = square_above scale l;
  same = λ r. record { direction = refl; along = same_span (pos scale) r.w r.along; across = same_span (pos scale) r.w r.across };
  fits = fits;
  denominator = rectangle_denominator points;
  shrunk_denominator = λ r h. rectangle_denominator points (grown_rectangle scale (shrunk_rectangle scale r)) (fits r h);
  grown_denominator = λ r h. rectangle_denominator points (grown_rectangle scale r) h;
  shrunk_size = λ r. area_shrinks (pos scale) (pos (scale ^ 2)) (extent r.along *ℤ extent r.across) r.w (squared_length r.direction) (square_is scale);
  grown_size = λ r. area_grows (pos scale) (pos (scale ^ 2)) (extent r.along) (extent r.across) _ _ (r.w *ℤ r.w *ℤ squared_length r.direction) (square_is scale)
      (stretched (pos scale) r.along.low r.along.high) (stretched (pos scale) r.across.low r.across.high);
}
  where
    fits : (r : Rectangle) → FitsRectangle points r → FitsRectangle points (grown_rectangle scale (shrunk_rectangle scale r))
    fits r h = record {
      direction = h.direction;
      along = ordered scale l h.along;
      across = ordered scale l h.across;
      denominator = grown_denominator scale r.w l h.denominator;
      inside_along = all_within scale l points r.direction r.w r.along h.inside_along;
      inside_across = all_within scale l points (quarter_turn r.direction) r.w r.across h.inside_across;
    }

abbrev pub shrunk_parallelogram : ℕ → Parallelogram → Parallelogram
shrunk_parallelogram scale p = record { first = p.first; first_bounds = p.first_bounds; second = p.second; second_bounds = p.second_bounds; w = pos scale *ℤ p.w }

pub parallelograms_grow : (scale : ℕ) → 1 ≤ scale → (points : List PlanePoint) → Grows (FitsParallelogram points) SameParallelogram parallelogram_size (grown_parallelogram scale) (shrunk_parallelogram scale) (pos (scale ^ 2))
parallelograms_grow scale l points = record {
  factor = square_above scale l;
  same = λ p. record { first = refl; first_bounds = same_span (pos scale) p.w p.first_bounds; second = refl; second_bounds = same_span (pos scale) p.w p.second_bounds };
  fits = fits;
  denominator = parallelogram_denominator points;
  shrunk_denominator = λ p h. parallelogram_denominator points (grown_parallelogram scale (shrunk_parallelogram scale p)) (fits p h);
  grown_denominator = λ p h. parallelogram_denominator points (grown_parallelogram scale p) h;
  shrunk_size = λ p. area_shrinks (pos scale) (pos (scale ^ 2)) (extent p.first_bounds *ℤ extent p.second_bounds) p.w _ (square_is scale);
  grown_size = λ p. area_grows (pos scale) (pos (scale ^ 2)) (extent p.first_bounds) (extent p.second_bounds) _ _ _ (square_is scale)
      (stretched (pos scale) p.first_bounds.low p.first_bounds.high) (stretched (pos scale) p.second_bounds.low p.second_bounds.high);
}
  where
    fits : (p : Parallelogram) → FitsParallelogram points p → FitsParallelogram points (grown_parallelogram scale (shrunk_parallelogram scale p))
    fits p h = record {
      normals = h.normals;
      first_bounds = ordered scale l h.first_bounds;
      second_bounds = ordered scale l h.second_bounds;
      denominator = grown_denominator scale p.w l h.denominator;
      inside_first = all_within scale l points p.first p.w p.first_bounds h.inside_first;
      inside_second = all_within scale l points p.second p.w p.second_bounds h.inside_second;
    }

-- ---- annuli

abbrev pub shrunk_annulus : ℕ → Annulus → Annulus
shrunk_annulus scale a = record {
  centre = record { x = a.centre.x; y = a.centre.y; w = pos scale *ℤ a.centre.w };
  inner = over (scale * scale) a.inner;
  outer = over (scale * scale) a.outer;
}

pub annuli_grow : (scale : ℕ) → 1 ≤ scale → (points : List PlanePoint) → Grows (FitsAnnulus points) SameAnnulus annulus_size (grown_annulus scale) (shrunk_annulus scale) (pos (scale ^ 2))
annuli_grow scale l points = record {
  factor = square_above scale l;
  same = λ a. record {
    centre = record { in_x = same_over (pos scale) a.centre.w a.centre.x; in_y = same_over (pos scale) a.centre.w a.centre.y };
    inner = same_fraction (pos (scale * scale)) a.inner.n a.inner.d;
    outer = same_fraction (pos (scale * scale)) a.outer.n a.outer.d;
  };
  fits = λ a h. record {
    denominator = grown_denominator scale a.centre.w l h.denominator;
    inner = radius_grows scale a.inner l h.inner;
    outer = radius_grows scale a.outer l h.outer;
    inside = All-weaker (IsInAnnulus a) (IsInAnnulus (grown_annulus scale (shrunk_annulus scale a))) (between a) points h.inside;
  };
  denominator = annulus_denominator points;
  shrunk_denominator = λ a h. positive_mul (positive_mul (positive_from_one h.outer.denominator) (factor_above scale l)) (positive_mul (positive_from_one h.inner.denominator) (factor_above scale l));
  grown_denominator = λ a h. annulus_denominator points (grown_annulus scale a) h;
  shrunk_size = λ a. width_shrinks (pos (scale ^ 2)) (pos (scale * scale)) a.outer.n a.outer.d a.inner.n a.inner.d (units_are scale);
  grown_size = λ a. width_grows (pos (scale ^ 2)) (pos (scale * scale)) a.outer.n a.outer.d a.inner.n a.inner.d (units_are scale);
}
  where
    between : (a : Annulus) (p : PlanePoint) → IsInAnnulus a p → IsInAnnulus (grown_annulus scale (shrunk_annulus scale a)) p
    between a p i =
        let far = far_grows_in_plane (pos scale) a.centre.w a.centre.x a.centre.y p.x p.y in
        record {
          outside_inner = beyond_grows (pos scale) (pos (scale * scale)) a.inner.d a.inner.n a.centre.w _ _ (le_from_lt (factor_above scale l)) far (square_nonneg (pos scale)) i.outside_inner;
          inside_outer = within_grows (pos scale) (pos (scale * scale)) a.outer.d a.outer.n a.centre.w _ _ (le_from_lt (factor_above scale l)) far (square_nonneg (pos scale)) i.inside_outer;
        }

-- ---- shells

abbrev pub shrunk_shell : ℕ → Shell → Shell
shrunk_shell scale s = record {
  centre = record { x = s.centre.x; y = s.centre.y; z = s.centre.z; w = pos scale *ℤ s.centre.w };
  inner = over (scale * scale) s.inner;
  outer = over (scale * scale) s.outer;
}

pub shells_grow : (scale : ℕ) → 1 ≤ scale → (points : List SpacePoint) → Grows (FitsShell points) SameShell shell_size (grown_shell scale) (shrunk_shell scale) (pos (scale ^ 2))
shells_grow scale l points = record {
  factor = square_above scale l;
  same = λ s. record {
    centre = record { in_x = same_over (pos scale) s.centre.w s.centre.x; in_y = same_over (pos scale) s.centre.w s.centre.y; in_z = same_over (pos scale) s.centre.w s.centre.z };
    inner = same_fraction (pos (scale * scale)) s.inner.n s.inner.d;
    outer = same_fraction (pos (scale * scale)) s.outer.n s.outer.d;
  };
  fits = λ s h. record {
    denominator = grown_denominator scale s.centre.w l h.denominator;
    inner = radius_grows scale s.inner l h.inner;
    outer = radius_grows scale s.outer l h.outer;
    inside = All-weaker (IsInShell s) (IsInShell (grown_shell scale (shrunk_shell scale s))) (between s) points h.inside;
  };
  denominator = shell_denominator points;
  shrunk_denominator = λ s h. positive_mul (positive_mul (positive_from_one h.outer.denominator) (factor_above scale l)) (positive_mul (positive_from_one h.inner.denominator) (factor_above scale l));
  grown_denominator = λ s h. shell_denominator points (grown_shell scale s) h;
  shrunk_size = λ s. width_shrinks (pos (scale ^ 2)) (pos (scale * scale)) s.outer.n s.outer.d s.inner.n s.inner.d (units_are scale);
  grown_size = λ s. width_grows (pos (scale ^ 2)) (pos (scale * scale)) s.outer.n s.outer.d s.inner.n s.inner.d (units_are scale);
}
  where
    between : (s : Shell) (p : SpacePoint) → IsInShell s p → IsInShell (grown_shell scale (shrunk_shell scale s)) p
    between s p i =
        let far = far_grows (pos scale) s.centre.w s.centre.x s.centre.y s.centre.z p.x p.y p.z in
        record {
          outside_inner = beyond_grows (pos scale) (pos (scale * scale)) s.inner.d s.inner.n s.centre.w _ _ (le_from_lt (factor_above scale l)) far (square_nonneg (pos scale)) i.outside_inner;
          inside_outer = within_grows (pos scale) (pos (scale * scale)) s.outer.d s.outer.n s.centre.w _ _ (le_from_lt (factor_above scale l)) far (square_nonneg (pos scale)) i.inside_outer;
        }

-- ---- empty rectangles

abbrev pub shrunk_empty : ℕ → EmptyRectangle → EmptyRectangle
shrunk_empty scale r = record { box = r.box; w = pos scale *ℤ r.w }

pub empty_rectangles_grow : (scale : ℕ) → 1 ≤ scale → (frame : Box) (points : List PlanePoint) → Grows (FitsEmpty frame points) SameEmpty empty_size (grown_empty scale) (shrunk_empty scale) (pos (scale ^ 2))
empty_rectangles_grow scale l frame points = record {
  factor = square_above scale l;
  same = λ r. record { left = same_over s r.w r.box.left; bottom = same_over s r.w r.box.bottom; right = same_over s r.w r.box.right; top = same_over s r.w r.box.top };
  fits = fits;
  denominator = empty_denominator frame points;
  shrunk_denominator = λ r h. empty_denominator frame points (grown_empty scale (shrunk_empty scale r)) (fits r h);
  grown_denominator = λ r h. empty_denominator frame points (grown_empty scale r) h;
  shrunk_size = λ r. plain_area_shrinks s (pos (scale ^ 2)) (area r.box) r.w (square_is scale);
  grown_size = λ r. area_grows s (pos (scale ^ 2)) _ _ _ _ (r.w *ℤ r.w) (square_is scale) (stretched s r.box.left r.box.right) (stretched s r.box.bottom r.box.top);
}
  where
    s : ℤ
    s = pos scale

    from_frame : {a : ℤ} (w f : ℤ) → (w *ℤ f) ≤ℤ a → (s *ℤ w *ℤ f) ≤ℤ (s *ℤ a)
    from_frame {a} w f h = subst (λ z. z ≤ℤ (s *ℤ a)) (from_product s w f) (ordered scale l h)

    to_frame : {a : ℤ} (w f : ℤ) → a ≤ℤ (w *ℤ f) → (s *ℤ a) ≤ℤ (s *ℤ w *ℤ f)
    to_frame {a} w f h = subst (λ z. (s *ℤ a) ≤ℤ z) (from_product s w f) (ordered scale l h)

    before : {a : ℤ} (w c : ℤ) → (s *ℤ a) <ℤ (s *ℤ w *ℤ c) → a <ℤ (w *ℤ c)
    before {a} w c h = lt_of_mul_lt s (above_zero scale l) (subst (λ z. (s *ℤ a) <ℤ z) (sym (from_product s w c)) h)

    behind : {a : ℤ} (w c : ℤ) → (s *ℤ w *ℤ c) <ℤ (s *ℤ a) → (w *ℤ c) <ℤ a
    behind {a} w c h = lt_of_mul_lt s (above_zero scale l) (subst (λ z. z <ℤ (s *ℤ a)) (sym (from_product s w c)) h)

    stays_outside : (r : EmptyRectangle) (p : PlanePoint) → ¬ IsStrictlyInside r.box (times r.w p) → ¬ IsStrictlyInside (grown_empty scale (shrunk_empty scale r)).box (times (s *ℤ r.w) p)
    stays_outside r p n i = n (record { after_left = before r.w p.x i.after_left; before_right = behind r.w p.x i.before_right; above_bottom = before r.w p.y i.above_bottom; below_top = behind r.w p.y i.below_top })

    fits : (r : EmptyRectangle) → FitsEmpty frame points r → FitsEmpty frame points (grown_empty scale (shrunk_empty scale r))
    fits r h = record {
      denominator = grown_denominator scale r.w l h.denominator;
      width = ordered scale l h.width;
      height = ordered scale l h.height;
      left = from_frame r.w frame.left h.left;
      right = to_frame r.w frame.right h.right;
      bottom = from_frame r.w frame.bottom h.bottom;
      top = to_frame r.w frame.top h.top;
      empty = All-weaker (λ p. ¬ IsStrictlyInside r.box (times r.w p)) (λ p. ¬ IsStrictlyInside (grown_empty scale (shrunk_empty scale r)).box (times (s *ℤ r.w) p)) (stays_outside r) points h.empty;
    }
