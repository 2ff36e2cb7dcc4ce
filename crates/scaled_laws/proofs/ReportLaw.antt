-- A report that passes is best at its scale: the answer is best for the points of the file, and growing keeps the order of sizes.
use Rattle.std.proofs.Common.{sym, subst, ℕ, ◌*◌, ◌^◌, ◌≤◌, ℤ, pos, ◌*ℤ◌, ◌≤ℤ◌, ◌<ℤ◌, [], ◌∷◌, arith}
use Rattle.std.proofs.lemmas.Int.{ints}
use Rattle.std.specs.declared.option.Option.{Option}
use Rattle.std.specs.declared.option.Option.TheVariants.{Some, None}
use Rattle.std.specs.Option.{IfSome, IsSomeAnd}
use Rattle.integers.proofs.Identities.{den-ring, read, polys}
use Rattle.integers.proofs.Order.{positive_mul, nonneg_mul, nonneg_difference, positive_from_one, at_least_one, le_by, le_from_lt}
use Rattle.bounds_model.specs.Fractions.{Fraction, IsAtMost, IsNotNegative, over}
use Rattle.bounds_model.specs.Best.{IsPrintedSize}
use Rattle.bounds_model.specs.Ball.{FitsCircle, FitsBall, ball_size}
use Rattle.bounds_model.specs.Rectangle.{FitsRectangle, rectangle_size}
use Rattle.bounds_model.specs.Parallelogram.{FitsParallelogram, parallelogram_size}
use Rattle.bounds_model.specs.Strip.{FitsStrip, strip_size}
use Rattle.bounds_model.specs.Annulus.{FitsAnnulus, annulus_size}
use Rattle.bounds_model.specs.EmptyRectangle.{FitsEmpty, empty_size}
use Rattle.bounds_model.specs.Kgon.{kgon_size}
use Rattle.bounds_model.specs.Distance.{distance_size}
use Rattle.bounds_model.specs.Centres.{FitsCentres, centres_size}
use Rattle.bounds_model.specs.BallAnswer.{circle_of, sphere_of}
use Rattle.bounds_model.specs.RectangleAnswer.{rectangle_of}
use Rattle.bounds_model.specs.ParallelogramAnswer.{parallelogram_of}
use Rattle.bounds_model.specs.StripAnswer.{strip_of}
use Rattle.bounds_model.specs.AnnulusAnswer.{annulus_of}
use Rattle.bounds_model.specs.EmptyAnswer.{empty_of}
use Rattle.bounds_model.specs.KgonAnswer.{corner_points}
use Rattle.bounds_model.specs.DistanceAnswer.{weights_of}
use Rattle.bounds_model.specs.CentresAnswer.{cover_of}
use Rattle.bounds_model.specs.FurthestAnswer.{furthest_size}
use Rattle.bounds_model.specs.Shell.{FitsShell, shell_size}
use Rattle.bounds_model.specs.ShellAnswer.{shell_of}
use Rattle.bounds_model.specs.Scaled.{grown_ball, grown_rectangle, grown_parallelogram, grown_strip, grown_annulus, grown_empty, grown_cover, grown_shell}
use Rattle.bounds_model.specs.Scaled.{SameBall, SameRectangle, SameParallelogram, SameStrip, SameAnnulus, SameEmpty, SameCover, SameShell}
use Rattle.bounds_model.specs.Answers.{Answer, circle, sphere, rectangle, parallelogram, strip, annulus, empty, kgon, distance, centres, furthest, four, shell, size_of, claim, ClaimFits, ClaimIsBest, IsBest}
use Rattle.bounds_model.specs.Answers.{Claim, circle_claim, sphere_claim, rectangle_claim, parallelogram_claim, strip_claim, annulus_claim, empty_claim, kgon_claim, distance_claim, centres_claim, furthest_claim, four_claim, shell_claim}
use Rattle.bounds_model.specs.Reports.{size_units, full_size, ClaimFitsAt, ClaimIsBestAt}
use Rattle.model_laws.proofs.SizeDenominators.{distance_denominator}
use Rattle.optimality.proofs.AnswerLaw.{answer_law}
use Rattle.scaled_laws.specs.Laws.{PassingReportsAreBest, FullSizesPrint}
use Rattle.scaled_laws.proofs.Scaling.{smallest_grown, greatest_grown, fits_grown, printed_back}
use Rattle.scaled_laws.proofs.GrownNumbers.{fraction_shrinks}
use Rattle.scaled_laws.proofs.ClaimSizes.{claim_size, claim_units, IsOfSize, claim_is_of_size}
use Rattle.scaled_laws.proofs.LowestForms.{lowest_form_prints}
use Rattle.scaled_laws.proofs.GrownObjects.{units_are, square_above, factor_above, above_zero, first_power, shrunk_ball, shrunk_rectangle, shrunk_parallelogram, shrunk_strip, shrunk_annulus, shrunk_shell, shrunk_empty}
use Rattle.scaled_laws.proofs.GrownObjects.{balls_grow, circles_grow, strips_grow, rectangles_grow, parallelograms_grow, annuli_grow, shells_grow, empty_rectangles_grow}
use Rattle.scaled_laws.proofs.GrownCovers.{shrunk_cover, covers_grow}

-- ---- sizes in whole units

-- the units of a size are above 0
units_above : (scale : ℕ) (answer : Answer) → 1 ≤ scale → pos 0 <ℤ pos (size_units (record { scale = scale; answer = answer }))
units_above scale (centres a) l = subst (λ n. pos 0 <ℤ pos n) (sym (first_power scale)) (above_zero scale l)
units_above scale (four a) l = subst (λ n. pos 0 <ℤ pos n) (sym (first_power scale)) (above_zero scale l)
units_above scale (circle a) l = square_above scale l
units_above scale (furthest a) l = square_above scale l
units_above scale (shell a) l = square_above scale l
units_above scale (sphere a) l = square_above scale l
units_above scale (rectangle a) l = square_above scale l
units_above scale (parallelogram a) l = square_above scale l
units_above scale (strip a) l = square_above scale l
units_above scale (annulus a) l = square_above scale l
units_above scale (empty a) l = square_above scale l
units_above scale (kgon a) l = square_above scale l
units_above scale (distance a) l = square_above scale l

-- the full size prints the size over the units
pub full_size_prints : FullSizesPrint
full_size_prints r l h = lowest_form_prints (over (size_units r) (size_of r.answer)) (record {
  numerator = h.numerator;
  denominator = at_least_one (positive_mul (positive_from_one h.denominator) (units_above r.scale r.answer l));
})

-- ---- sizes of objects that stay as they are

-- a size over the square of the scale
over_printed : (scale : ℕ) (size printed full : Fraction) → 1 ≤ scale → pos 0 <ℤ size.d → IsPrintedSize size printed → IsPrintedSize (over (scale ^ 2) printed) full → IsPrintedSize (over (scale * scale) size) full
over_printed scale size printed full l d p q =
    printed_back (pos (scale ^ 2)) size (over (scale * scale) size) printed full (square_above scale l) d (fraction_shrinks (pos (scale ^ 2)) (pos (scale * scale)) size.n size.d (units_are scale)) p q

-- sizes over one number keep their order
over_order : (k : ℤ) (a b : Fraction) → pos 0 <ℤ k → IsAtMost a b → (a.n *ℤ (b.d *ℤ k)) ≤ℤ (b.n *ℤ (a.d *ℤ k))
over_order k a b l h =
    le_by (nonneg_mul (le_from_lt l) (nonneg_difference h)) (read (k ∷ a.n ∷ a.d ∷ b.n ∷ b.d ∷ []) (λ xs p q r s t. simp (p, q, r, s, t, polys) (den-ring xs _ _ tt)))

-- ---- by the kind of the claim

-- the printed size of what fits is not below 0
claim_not_negative : (c : Claim) → ClaimFits c → IsNotNegative (claim_size c)
claim_not_negative (circle_claim points a) h = h.1.lowest.not_negative
claim_not_negative (sphere_claim points a) h = h.1.lowest.not_negative
claim_not_negative (rectangle_claim points a) h = h.1.lowest.not_negative
claim_not_negative (parallelogram_claim points a) h = h.1.lowest.not_negative
claim_not_negative (strip_claim points a) h = h.1.lowest.not_negative
claim_not_negative (annulus_claim points a) h = h.1.lowest.not_negative
claim_not_negative (empty_claim frame points a) h = h.1.lowest.not_negative
claim_not_negative (kgon_claim k points a) h = h.3.lowest.not_negative
claim_not_negative (distance_claim ps qs a) h = h.1.lowest.not_negative
claim_not_negative (centres_claim count points a) h = h.1.lowest.not_negative
claim_not_negative (furthest_claim points a) h = h.2.lowest.not_negative
claim_not_negative (four_claim points a) h = h.1.lowest.not_negative
claim_not_negative (shell_claim points a) h = h.1.lowest.not_negative

-- what fits and is best does so at the scale
grown_claim : (scale : ℕ) → 1 ≤ scale → (full : Fraction) (c : Claim) → IsPrintedSize (over (claim_units scale c) (claim_size c)) full → ClaimFits c → ClaimIsBest c → ClaimFitsAt scale full c × ClaimIsBestAt scale c
grown_claim scale l full (circle_claim points a) q h k =
    let g = circles_grow scale l points in (
      fits_grown (FitsCircle points) SameBall ball_size (grown_ball scale) (shrunk_ball scale) (pos (scale ^ 2)) g (circle_of a) a.size full h.0 h.1 q,
      smallest_grown (FitsCircle points) SameBall ball_size (grown_ball scale) (shrunk_ball scale) (pos (scale ^ 2)) g (circle_of a) k,
    )
grown_claim scale l full (sphere_claim points a) q h k =
    let g = balls_grow scale l points in (
      fits_grown (FitsBall points) SameBall ball_size (grown_ball scale) (shrunk_ball scale) (pos (scale ^ 2)) g (sphere_of a) a.size full h.0 h.1 q,
      smallest_grown (FitsBall points) SameBall ball_size (grown_ball scale) (shrunk_ball scale) (pos (scale ^ 2)) g (sphere_of a) k,
    )
grown_claim scale l full (rectangle_claim points a) q h k =
    let g = rectangles_grow scale l points in (
      fits_grown (FitsRectangle points) SameRectangle rectangle_size (grown_rectangle scale) (shrunk_rectangle scale) (pos (scale ^ 2)) g (rectangle_of a) a.size full h.0 h.1 q,
      smallest_grown (FitsRectangle points) SameRectangle rectangle_size (grown_rectangle scale) (shrunk_rectangle scale) (pos (scale ^ 2)) g (rectangle_of a) k,
    )
grown_claim scale l full (parallelogram_claim points a) q h k =
    let g = parallelograms_grow scale l points in (
      fits_grown (FitsParallelogram points) SameParallelogram parallelogram_size (grown_parallelogram scale) (shrunk_parallelogram scale) (pos (scale ^ 2)) g (parallelogram_of a) a.size full h.0 h.1 q,
      smallest_grown (FitsParallelogram points) SameParallelogram parallelogram_size (grown_parallelogram scale) (shrunk_parallelogram scale) (pos (scale ^ 2)) g (parallelogram_of a) k,
    )
grown_claim scale l full (strip_claim points a) q h k =
    let g = strips_grow scale l points in (
      fits_grown (FitsStrip points) SameStrip strip_size (grown_strip scale) (shrunk_strip scale) (pos (scale ^ 2)) g (strip_of a) a.size full h.0 h.1 q,
      smallest_grown (FitsStrip points) SameStrip strip_size (grown_strip scale) (shrunk_strip scale) (pos (scale ^ 2)) g (strip_of a) k,
    )
grown_claim scale l full (annulus_claim points a) q h k =
    let g = annuli_grow scale l points in (
      fits_grown (FitsAnnulus points) SameAnnulus annulus_size (grown_annulus scale) (shrunk_annulus scale) (pos (scale ^ 2)) g (annulus_of a) a.size full h.0 h.1 q,
      smallest_grown (FitsAnnulus points) SameAnnulus annulus_size (grown_annulus scale) (shrunk_annulus scale) (pos (scale ^ 2)) g (annulus_of a) k,
    )
grown_claim scale l full (empty_claim frame points a) q h k =
    let g = empty_rectangles_grow scale l frame points in (
      fits_grown (FitsEmpty frame points) SameEmpty empty_size (grown_empty scale) (shrunk_empty scale) (pos (scale ^ 2)) g (empty_of a) a.size full h.0 h.1 q,
      greatest_grown (FitsEmpty frame points) SameEmpty empty_size (grown_empty scale) (shrunk_empty scale) (pos (scale ^ 2)) g (empty_of a) k,
    )
grown_claim scale l full (kgon_claim k points a) q h b = (
  (h.0, h.1, h.2, over_printed scale (kgon_size (corner_points points a) a.chosen) a.size full l two h.3 q),
  record {
    fits = b.fits;
    greatest = λ other f. over_order (pos (scale * scale)) (kgon_size (corner_points points a) other) (kgon_size (corner_points points a) a.chosen) (factor_above scale l) (b.greatest other f);
  },
)
  where
    two : pos 0 <ℤ pos 2
    two = omega (arith, ints)
grown_claim scale l full (distance_claim ps qs a) q h b = (
  (h.0, over_printed scale (distance_size ps qs (weights_of ps qs a)) a.size full l (distance_denominator ps qs (weights_of ps qs a) h.0) h.1 q),
  record {
    fits = b.fits;
    smallest = λ other f. over_order (pos (scale * scale)) (distance_size ps qs (weights_of ps qs a)) (distance_size ps qs other) (factor_above scale l) (b.smallest other f);
  },
)
grown_claim scale l full (centres_claim count points a) q h k =
    let g = covers_grow scale l count points in (
      fits_grown (FitsCentres count points) SameCover centres_size (grown_cover scale) (shrunk_cover scale) (pos (scale ^ 1)) g (cover_of a) a.size full h.0 h.1 q,
      smallest_grown (FitsCentres count points) SameCover centres_size (grown_cover scale) (shrunk_cover scale) (pos (scale ^ 1)) g (cover_of a) k,
    )
grown_claim scale l full (furthest_claim points a) q h k = ((h.0, h.1, over_printed scale (furthest_size points a.entries) a.size full l one h.2 q), k)
  where
    one : pos 0 <ℤ pos 1
    one = omega (arith, ints)
grown_claim scale l full (four_claim points a) q h k =
    let g = covers_grow scale l 4 points in (
      fits_grown (FitsCentres 4 points) SameCover centres_size (grown_cover scale) (shrunk_cover scale) (pos (scale ^ 1)) g (cover_of a) a.size full h.0 h.1 q,
      smallest_grown (FitsCentres 4 points) SameCover centres_size (grown_cover scale) (shrunk_cover scale) (pos (scale ^ 1)) g (cover_of a) k,
    )
grown_claim scale l full (shell_claim points a) q h k =
    let g = shells_grow scale l points in (
      fits_grown (FitsShell points) SameShell shell_size (grown_shell scale) (shrunk_shell scale) (pos (scale ^ 2)) g (shell_of a) a.size full h.0 h.1 q,
      smallest_grown (FitsShell points) SameShell shell_size (grown_shell scale) (shrunk_shell scale) (pos (scale ^ 2)) g (shell_of a) k,
    )

-- ---- by the claim that is made

-- the size of an answer whose claim fits is not below 0
pub some_not_negative : (scale : ℕ) (size : Fraction) (units : ℕ) (made : Option Claim) → IfSome made (IsOfSize scale size units) → IsSomeAnd made ClaimFits → IsNotNegative size
some_not_negative scale size units None i h = absurd h
some_not_negative scale size units (Some c) i h = subst IsNotNegative i.0 (claim_not_negative c h)

-- a claim that fits and is best does so at the scale
grown_some : (scale : ℕ) → 1 ≤ scale → (full size : Fraction) (units : ℕ) (made : Option Claim) → IfSome made (IsOfSize scale size units) → IsPrintedSize (over units size) full
    → IsSomeAnd made ClaimFits → IsSomeAnd made ClaimIsBest → IsSomeAnd made (ClaimFitsAt scale full) × IsSomeAnd made (ClaimIsBestAt scale)
grown_some scale l full size units None i q h k = absurd h
grown_some scale l full size units (Some c) i q h k =
    grown_claim scale l full c (subst (λ s. IsPrintedSize (over (claim_units scale c) s) full) (sym i.0) (subst (λ n. IsPrintedSize (over n size) full) (sym i.1) q)) h k

-- a report that passes is best at the scale of the file
pub report_law : PassingReportsAreBest
report_law ask file r h =
    let made = claim ask file.sets r.answer in
    let best : IsBest ask file.sets r.answer = answer_law ask file.sets r.answer h.passes in
    let sized = claim_is_of_size r.scale ask file.sets r.answer in
    let from_one = subst (λ n. 1 ≤ n) (sym h.scale) h.scale_from in
    let printed = full_size_prints r from_one (some_not_negative r.scale (size_of r.answer) (size_units r) made sized best.fits) in
    let grown = grown_some r.scale from_one (full_size r) (size_of r.answer) (size_units r) made sized printed best.fits best.best in
    record {
      fits = record { scale = h.scale; fits = subst (λ n. IsSomeAnd made (ClaimFitsAt n (full_size r))) h.scale grown.0 };
      best = subst (λ n. IsSomeAnd made (ClaimIsBestAt n)) h.scale grown.1;
    }
