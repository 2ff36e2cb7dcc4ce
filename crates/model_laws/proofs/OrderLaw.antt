-- A best answer whose object is not given by numbers of points is best for the points in another order.
use Rattle.std.proofs.lemmas.List.Sorted.{IsPermutation-sym}
use Rattle.bounds_model.specs.Fractions.{Fraction}
use Rattle.bounds_model.specs.Best.{IsSmallest, IsGreatest}
use Rattle.bounds_model.specs.Ball.{FitsCircle, FitsBall, ball_size}
use Rattle.bounds_model.specs.Rectangle.{FitsRectangle, rectangle_size}
use Rattle.bounds_model.specs.Parallelogram.{FitsParallelogram, parallelogram_size}
use Rattle.bounds_model.specs.Strip.{FitsStrip, strip_size}
use Rattle.bounds_model.specs.Annulus.{FitsAnnulus, annulus_size}
use Rattle.bounds_model.specs.EmptyRectangle.{FitsEmpty, empty_size}
use Rattle.bounds_model.specs.Centres.{FitsCentres, centres_size}
use Rattle.bounds_model.specs.Shell.{FitsShell, shell_size}
use Rattle.bounds_model.specs.BallAnswer.{circle_of, sphere_of}
use Rattle.bounds_model.specs.RectangleAnswer.{rectangle_of}
use Rattle.bounds_model.specs.ParallelogramAnswer.{parallelogram_of}
use Rattle.bounds_model.specs.StripAnswer.{strip_of}
use Rattle.bounds_model.specs.AnnulusAnswer.{annulus_of}
use Rattle.bounds_model.specs.EmptyAnswer.{empty_of}
use Rattle.bounds_model.specs.CentresAnswer.{cover_of}
use Rattle.bounds_model.specs.ShellAnswer.{shell_of}
use Rattle.bounds_model.specs.Asks.Ask.{ask_circle, ask_sphere, ask_rectangle, ask_parallelogram, ask_strip, ask_annulus, ask_empty, ask_kgon, ask_distance, ask_centres, ask_furthest, ask_four, ask_shell}
use Rattle.bounds_model.specs.Asks.Sets.{plane, space, bare}
use Rattle.bounds_model.specs.Answers.Answer.{circle, sphere, rectangle, parallelogram, strip, annulus, empty, centres, four, shell}
use Rattle.model_laws.specs.Laws.{BestAnswersHaveNoOrder}
use Rattle.model_laws.proofs.PermutedFits.{circle_stays, ball_stays, rectangle_stays, parallelogram_stays, strip_stays, annulus_stays, empty_stays, centres_stay, shell_stays}

-- what is smallest is so wherever the same objects fit
smallest_stays : {X : Type 0} (Fits Fits' : X → Type 0) (size : X → Fraction) → ((o : X) → Fits o → Fits' o) → ((o : X) → Fits' o → Fits o) → (o : X) → IsSmallest Fits size o → IsSmallest Fits' size o
smallest_stays Fits Fits' size there back o h = record { fits = there o h.fits; smallest = λ other f. h.smallest other (back other f) }

-- and what is greatest
greatest_stays : {X : Type 0} (Fits Fits' : X → Type 0) (size : X → Fraction) → ((o : X) → Fits o → Fits' o) → ((o : X) → Fits' o → Fits o) → (o : X) → IsGreatest Fits size o → IsGreatest Fits' size o
greatest_stays Fits Fits' size there back o h = record { fits = there o h.fits; greatest = λ other f. h.greatest other (back other f) }

-- a best answer stays best
pub best_stays : BestAnswersHaveNoOrder
best_stays ask_circle (plane ps) (plane qs) (circle a) n p h = record {
  fits = (circle_stays ps qs p (circle_of a) h.fits.0, h.fits.1);
  best = smallest_stays (FitsCircle ps) (FitsCircle qs) ball_size (circle_stays ps qs p) (circle_stays qs ps (IsPermutation-sym ps qs p)) (circle_of a) h.best;
}
best_stays ask_circle (plane ps) other (circle a) n p h = absurd p
best_stays ask_circle sets other answer n p h = absurd h.fits
best_stays ask_sphere (space ps) (space qs) (sphere a) n p h = record {
  fits = (ball_stays ps qs p (sphere_of a) h.fits.0, h.fits.1);
  best = smallest_stays (FitsBall ps) (FitsBall qs) ball_size (ball_stays ps qs p) (ball_stays qs ps (IsPermutation-sym ps qs p)) (sphere_of a) h.best;
}
best_stays ask_sphere (space ps) other (sphere a) n p h = absurd p
best_stays ask_sphere sets other answer n p h = absurd h.fits
best_stays ask_rectangle (plane ps) (plane qs) (rectangle a) n p h = record {
  fits = (rectangle_stays ps qs p (rectangle_of a) h.fits.0, h.fits.1);
  best = smallest_stays (FitsRectangle ps) (FitsRectangle qs) rectangle_size (rectangle_stays ps qs p) (rectangle_stays qs ps (IsPermutation-sym ps qs p)) (rectangle_of a) h.best;
}
best_stays ask_rectangle (plane ps) other (rectangle a) n p h = absurd p
best_stays ask_rectangle sets other answer n p h = absurd h.fits
best_stays ask_parallelogram (plane ps) (plane qs) (parallelogram a) n p h = record {
  fits = (parallelogram_stays ps qs p (parallelogram_of a) h.fits.0, h.fits.1);
  best = smallest_stays (FitsParallelogram ps) (FitsParallelogram qs) parallelogram_size (parallelogram_stays ps qs p) (parallelogram_stays qs ps (IsPermutation-sym ps qs p)) (parallelogram_of a) h.best;
}
best_stays ask_parallelogram (plane ps) other (parallelogram a) n p h = absurd p
best_stays ask_parallelogram sets other answer n p h = absurd h.fits
best_stays ask_strip (plane ps) (plane qs) (strip a) n p h = record {
  fits = (strip_stays ps qs p (strip_of a) h.fits.0, h.fits.1);
  best = smallest_stays (FitsStrip ps) (FitsStrip qs) strip_size (strip_stays ps qs p) (strip_stays qs ps (IsPermutation-sym ps qs p)) (strip_of a) h.best;
}
best_stays ask_strip (plane ps) other (strip a) n p h = absurd p
best_stays ask_strip sets other answer n p h = absurd h.fits
best_stays ask_annulus (plane ps) (plane qs) (annulus a) n p h = record {
  fits = (annulus_stays ps qs p (annulus_of a) h.fits.0, h.fits.1);
  best = smallest_stays (FitsAnnulus ps) (FitsAnnulus qs) annulus_size (annulus_stays ps qs p) (annulus_stays qs ps (IsPermutation-sym ps qs p)) (annulus_of a) h.best;
}
best_stays ask_annulus (plane ps) other (annulus a) n p h = absurd p
best_stays ask_annulus sets other answer n p h = absurd h.fits
best_stays (ask_empty frame) (plane ps) (plane qs) (empty a) n p h = record {
  fits = (empty_stays frame ps qs p (empty_of a) h.fits.0, h.fits.1);
  best = greatest_stays (FitsEmpty frame ps) (FitsEmpty frame qs) empty_size (empty_stays frame ps qs p) (empty_stays frame qs ps (IsPermutation-sym ps qs p)) (empty_of a) h.best;
}
best_stays (ask_empty frame) bare bare (empty a) n p h = h
best_stays (ask_empty frame) bare other (empty a) n p h = absurd p
best_stays (ask_empty frame) (plane ps) other (empty a) n p h = absurd p
best_stays (ask_empty frame) sets other answer n p h = absurd h.fits
best_stays (ask_centres count) (plane ps) (plane qs) (centres a) n p h = record {
  fits = (centres_stay count ps qs p (cover_of a) h.fits.0, h.fits.1);
  best = smallest_stays (FitsCentres count ps) (FitsCentres count qs) centres_size (centres_stay count ps qs p) (centres_stay count qs ps (IsPermutation-sym ps qs p)) (cover_of a) h.best;
}
best_stays (ask_centres count) (plane ps) other (centres a) n p h = absurd p
best_stays (ask_centres count) sets other answer n p h = absurd h.fits
best_stays (ask_kgon k) sets other answer n p h = absurd (n tt)
best_stays ask_distance sets other answer n p h = absurd (n tt)
best_stays ask_furthest sets other answer n p h = absurd (n tt)
best_stays ask_four (plane ps) (plane qs) (four a) n p h = record {
  fits = (centres_stay 4 ps qs p (cover_of a) h.fits.0, h.fits.1);
  best = smallest_stays (FitsCentres 4 ps) (FitsCentres 4 qs) centres_size (centres_stay 4 ps qs p) (centres_stay 4 qs ps (IsPermutation-sym ps qs p)) (cover_of a) h.best;
}
best_stays ask_four (plane ps) other (four a) n p h = absurd p
best_stays ask_four sets other answer n p h = absurd h.fits
best_stays ask_shell (space ps) (space qs) (shell a) n p h = record {
  fits = (shell_stays ps qs p (shell_of a) h.fits.0, h.fits.1);
  best = smallest_stays (FitsShell ps) (FitsShell qs) shell_size (shell_stays ps qs p) (shell_stays qs ps (IsPermutation-sym ps qs p)) (shell_of a) h.best;
}
best_stays ask_shell (space ps) other (shell a) n p h = absurd p
best_stays ask_shell sets other answer n p h = absurd h.fits
