-- The best size is the same for the points in another order: kind by kind.
use Rattle.std.proofs.Common.{◌≡◌, sym, ◌∙◌, subst, ℕ, pos, ◌*ℤ◌, ◌≤ℤ◌, ◌<ℤ◌, List, arith}
use Rattle.std.specs.Prelude.{IsPermutation}
use Rattle.std.proofs.lemmas.Int.{ints}
use Rattle.std.proofs.lemmas.List.Sorted.{IsPermutation-sym}
use Rattle.bounds_model.specs.Plane.{PlanePoint}
use Rattle.bounds_model.specs.Space.{SpacePoint, vector, squared_length}
use Rattle.bounds_model.specs.Best.{IsGreatest, IsPrintedSize}
use Rattle.bounds_model.specs.Ball.{FitsCircle, FitsBall, ball_size}
use Rattle.bounds_model.specs.Rectangle.{FitsRectangle, rectangle_size}
use Rattle.bounds_model.specs.Parallelogram.{FitsParallelogram, parallelogram_size}
use Rattle.bounds_model.specs.Strip.{FitsStrip, strip_size}
use Rattle.bounds_model.specs.Annulus.{FitsAnnulus, annulus_size}
use Rattle.bounds_model.specs.EmptyRectangle.{Box, FitsEmpty, empty_size}
use Rattle.bounds_model.specs.Kgon.{FitsKgon, kgon_size}
use Rattle.bounds_model.specs.Distance.{FitsDistance, distance_size}
use Rattle.bounds_model.specs.Centres.{FitsCentres, centres_size}
use Rattle.bounds_model.specs.BallAnswer.{CircleAnswer, SphereAnswer, circle_of, sphere_of}
use Rattle.bounds_model.specs.RectangleAnswer.{RectangleAnswer, rectangle_of}
use Rattle.bounds_model.specs.ParallelogramAnswer.{ParallelogramAnswer, parallelogram_of}
use Rattle.bounds_model.specs.StripAnswer.{StripAnswer, strip_of}
use Rattle.bounds_model.specs.AnnulusAnswer.{AnnulusAnswer, annulus_of}
use Rattle.bounds_model.specs.EmptyAnswer.{EmptyAnswer, empty_of}
use Rattle.bounds_model.specs.KgonAnswer.{KgonAnswer, corner_points}
use Rattle.bounds_model.specs.DistanceAnswer.{DistanceAnswer, weights_of}
use Rattle.bounds_model.specs.CentresAnswer.{CentresAnswer, cover_of}
use Rattle.bounds_model.specs.Shell.{FitsShell, shell_size}
use Rattle.bounds_model.specs.ShellAnswer.{ShellAnswer, shell_of}
use Rattle.bounds_model.specs.Answers.{Claim, ClaimFits, ClaimIsBest}
use Rattle.bounds_model.specs.Answers.Claim.{circle_claim, sphere_claim, rectangle_claim, parallelogram_claim, strip_claim, annulus_claim, empty_claim, kgon_claim, distance_claim, centres_claim, four_claim, shell_claim}
use Rattle.model_laws.proofs.BestSizes.{Reaches, kept, same_smallest, same_greatest}
use Rattle.model_laws.proofs.SizeDenominators.{circle_denominator, ball_denominator, rectangle_denominator, parallelogram_denominator, strip_denominator, annulus_denominator, empty_denominator, distance_denominator, centres_denominator, shell_denominator}
use Rattle.model_laws.proofs.PermutedFits.{circle_stays, ball_stays, rectangle_stays, parallelogram_stays, strip_stays, annulus_stays, empty_stays, centres_stay, shell_stays, corners_stay}
use Rattle.model_laws.proofs.PermutedWeights.{other_weights}
use Rattle.model_laws.proofs.CornersUnique.{one_list_of_corners}

-- the claim fits, and none that fits is better
abbrev pub Stands : Claim → Type 0
Stands c = ClaimFits c × ClaimIsBest c

pub circle_sizes : (ps qs : List PlanePoint) (a b : CircleAnswer) → IsPermutation ps qs → Stands (circle_claim ps a) → Stands (circle_claim qs b) → a.size ≡ b.size
circle_sizes ps qs a b s h k =
    same_smallest (FitsCircle ps) (FitsCircle qs) ball_size ball_size (kept (FitsCircle ps) (FitsCircle qs) ball_size (circle_stays ps qs s)) (kept (FitsCircle qs) (FitsCircle ps) ball_size (circle_stays qs ps (IsPermutation-sym ps qs s)))
    (circle_of a) (circle_of b) a.size b.size (circle_denominator ps (circle_of a) h.0.0) (circle_denominator qs (circle_of b) k.0.0) h.1 k.1 h.0.1 k.0.1

pub sphere_sizes : (ps qs : List SpacePoint) (a b : SphereAnswer) → IsPermutation ps qs → Stands (sphere_claim ps a) → Stands (sphere_claim qs b) → a.size ≡ b.size
sphere_sizes ps qs a b s h k =
    same_smallest (FitsBall ps) (FitsBall qs) ball_size ball_size (kept (FitsBall ps) (FitsBall qs) ball_size (ball_stays ps qs s)) (kept (FitsBall qs) (FitsBall ps) ball_size (ball_stays qs ps (IsPermutation-sym ps qs s)))
    (sphere_of a) (sphere_of b) a.size b.size (ball_denominator ps (sphere_of a) h.0.0) (ball_denominator qs (sphere_of b) k.0.0) h.1 k.1 h.0.1 k.0.1

pub rectangle_sizes : (ps qs : List PlanePoint) (a b : RectangleAnswer) → IsPermutation ps qs → Stands (rectangle_claim ps a) → Stands (rectangle_claim qs b) → a.size ≡ b.size
rectangle_sizes ps qs a b s h k =
    same_smallest (FitsRectangle ps) (FitsRectangle qs) rectangle_size rectangle_size (kept (FitsRectangle ps) (FitsRectangle qs) rectangle_size (rectangle_stays ps qs s)) (kept (FitsRectangle qs) (FitsRectangle ps) rectangle_size (rectangle_stays qs ps (IsPermutation-sym ps qs s)))
    (rectangle_of a) (rectangle_of b) a.size b.size (rectangle_denominator ps (rectangle_of a) h.0.0) (rectangle_denominator qs (rectangle_of b) k.0.0) h.1 k.1 h.0.1 k.0.1

pub parallelogram_sizes : (ps qs : List PlanePoint) (a b : ParallelogramAnswer) → IsPermutation ps qs → Stands (parallelogram_claim ps a) → Stands (parallelogram_claim qs b) → a.size ≡ b.size
parallelogram_sizes ps qs a b s h k =
    same_smallest (FitsParallelogram ps) (FitsParallelogram qs) parallelogram_size parallelogram_size (kept (FitsParallelogram ps) (FitsParallelogram qs) parallelogram_size (parallelogram_stays ps qs s)) (kept (FitsParallelogram qs) (FitsParallelogram ps) parallelogram_size (parallelogram_stays qs ps (IsPermutation-sym ps qs s)))
    (parallelogram_of a) (parallelogram_of b) a.size b.size (parallelogram_denominator ps (parallelogram_of a) h.0.0) (parallelogram_denominator qs (parallelogram_of b) k.0.0) h.1 k.1 h.0.1 k.0.1

pub strip_sizes : (ps qs : List PlanePoint) (a b : StripAnswer) → IsPermutation ps qs → Stands (strip_claim ps a) → Stands (strip_claim qs b) → a.size ≡ b.size
strip_sizes ps qs a b s h k =
    same_smallest (FitsStrip ps) (FitsStrip qs) strip_size strip_size (kept (FitsStrip ps) (FitsStrip qs) strip_size (strip_stays ps qs s)) (kept (FitsStrip qs) (FitsStrip ps) strip_size (strip_stays qs ps (IsPermutation-sym ps qs s)))
    (strip_of a) (strip_of b) a.size b.size (strip_denominator ps (strip_of a) h.0.0) (strip_denominator qs (strip_of b) k.0.0) h.1 k.1 h.0.1 k.0.1

pub annulus_sizes : (ps qs : List PlanePoint) (a b : AnnulusAnswer) → IsPermutation ps qs → Stands (annulus_claim ps a) → Stands (annulus_claim qs b) → a.size ≡ b.size
annulus_sizes ps qs a b s h k =
    same_smallest (FitsAnnulus ps) (FitsAnnulus qs) annulus_size annulus_size (kept (FitsAnnulus ps) (FitsAnnulus qs) annulus_size (annulus_stays ps qs s)) (kept (FitsAnnulus qs) (FitsAnnulus ps) annulus_size (annulus_stays qs ps (IsPermutation-sym ps qs s)))
    (annulus_of a) (annulus_of b) a.size b.size (annulus_denominator ps (annulus_of a) h.0.0) (annulus_denominator qs (annulus_of b) k.0.0) h.1 k.1 h.0.1 k.0.1

pub empty_sizes : (frame : Box) (ps qs : List PlanePoint) (a b : EmptyAnswer) → IsPermutation ps qs → Stands (empty_claim frame ps a) → Stands (empty_claim frame qs b) → a.size ≡ b.size
empty_sizes frame ps qs a b s h k =
    same_greatest (FitsEmpty frame ps) (FitsEmpty frame qs) empty_size empty_size (kept (FitsEmpty frame ps) (FitsEmpty frame qs) empty_size (empty_stays frame ps qs s)) (kept (FitsEmpty frame qs) (FitsEmpty frame ps) empty_size (empty_stays frame qs ps (IsPermutation-sym ps qs s)))
    (empty_of a) (empty_of b) a.size b.size (empty_denominator frame ps (empty_of a) h.0.0) (empty_denominator frame qs (empty_of b) k.0.0) h.1 k.1 h.0.1 k.0.1

pub centres_sizes : (count : ℕ) (ps qs : List PlanePoint) (a b : CentresAnswer) → IsPermutation ps qs → Stands (centres_claim count ps a) → Stands (centres_claim count qs b) → a.size ≡ b.size
centres_sizes count ps qs a b s h k =
    same_smallest (FitsCentres count ps) (FitsCentres count qs) centres_size centres_size (kept (FitsCentres count ps) (FitsCentres count qs) centres_size (centres_stay count ps qs s)) (kept (FitsCentres count qs) (FitsCentres count ps) centres_size (centres_stay count qs ps (IsPermutation-sym ps qs s)))
    (cover_of a) (cover_of b) a.size b.size (centres_denominator count ps (cover_of a) h.0.0) (centres_denominator count qs (cover_of b) k.0.0) h.1 k.1 h.0.1 k.0.1

pub four_sizes : (ps qs : List PlanePoint) (a b : CentresAnswer) → IsPermutation ps qs → Stands (four_claim ps a) → Stands (four_claim qs b) → a.size ≡ b.size
four_sizes = centres_sizes 4

pub shell_sizes : (ps qs : List SpacePoint) (a b : ShellAnswer) → IsPermutation ps qs → Stands (shell_claim ps a) → Stands (shell_claim qs b) → a.size ≡ b.size
shell_sizes ps qs a b s h k =
    same_smallest (FitsShell ps) (FitsShell qs) shell_size shell_size (kept (FitsShell ps) (FitsShell qs) shell_size (shell_stays ps qs s)) (kept (FitsShell qs) (FitsShell ps) shell_size (shell_stays qs ps (IsPermutation-sym ps qs s)))
    (shell_of a) (shell_of b) a.size b.size (shell_denominator ps (shell_of a) h.0.0) (shell_denominator qs (shell_of b) k.0.0) h.1 k.1 h.0.1 k.0.1

-- weights for two sets can be carried to another order of each, with the same size
distance_reaches : (ps qs ps' qs' : List SpacePoint) → IsPermutation ps ps' → IsPermutation qs qs' → Reaches (FitsDistance ps qs) (distance_size ps qs) (FitsDistance ps' qs') (distance_size ps' qs')
distance_reaches ps qs ps' qs' s t w h =
    let first = other_weights w.first ps ps' h.for_first h.first s in
    let second = other_weights w.second qs qs' h.for_second h.second t in (
      record { first = first.other; second = second.other },
      record {
        for_first = first.as_many;
        for_second = second.as_many;
        first = first.not_negative;
        second = second.not_negative;
        same_sum = first.same_sum ∙ h.same_sum ∙ sym second.same_sum;
        sum = subst (λ v. pos 1 ≤ℤ v) (sym first.same_sum) h.sum;
      },
      λ i. record { n = squared_length (vector (second.same_point i) (first.same_point i)); d = first.same_sum i *ℤ first.same_sum i },
    )

pub distance_sizes : (ps qs ps' qs' : List SpacePoint) (a b : DistanceAnswer) → IsPermutation ps ps' → IsPermutation qs qs' → Stands (distance_claim ps qs a) → Stands (distance_claim ps' qs' b) → a.size ≡ b.size
distance_sizes ps qs ps' qs' a b s t h k =
    same_smallest (FitsDistance ps qs) (FitsDistance ps' qs') (distance_size ps qs) (distance_size ps' qs') (distance_reaches ps qs ps' qs' s t) (distance_reaches ps' qs' ps qs (IsPermutation-sym ps ps' s) (IsPermutation-sym qs qs' t))
    (weights_of ps qs a) (weights_of ps' qs' b) a.size b.size (distance_denominator ps qs (weights_of ps qs a) h.0.0) (distance_denominator ps' qs' (weights_of ps' qs' b) k.0.0) h.1 k.1 h.0.1 k.0.1

-- the corners are the same, though their numbers differ
pub kgon_sizes : (k : ℕ) (ps qs : List PlanePoint) (a b : KgonAnswer) → IsPermutation ps qs → Stands (kgon_claim k ps a) → Stands (kgon_claim k qs b) → a.size ≡ b.size
kgon_sizes k ps qs a b s h m =
    let A = corner_points ps a in
    let B = corner_points qs b in
    let same : B ≡ A = one_list_of_corners qs B A m.0.1 (corners_stay ps qs A s h.0.1) in
    let best : IsGreatest (FitsKgon k A) (kgon_size A) b.chosen = subst (λ c. IsGreatest (FitsKgon k c) (kgon_size c) b.chosen) same m.1 in
    let printed : IsPrintedSize (kgon_size A b.chosen) b.size = subst (λ c. IsPrintedSize (kgon_size c b.chosen) b.size) same m.0.3 in
    same_greatest (FitsKgon k A) (FitsKgon k A) (kgon_size A) (kgon_size A) (kept (FitsKgon k A) (FitsKgon k A) (kgon_size A) (λ o f. f)) (kept (FitsKgon k A) (FitsKgon k A) (kgon_size A) (λ o f. f)) a.chosen b.chosen a.size b.size two two h.1 best h.0.3 printed
  where
    two : pos 0 <ℤ pos 2
    two = omega (arith, ints)
