-- An answer of any kind that passes is best.
use Rattle.std.specs.declared.option.Option.{Option}
use Rattle.std.specs.declared.option.Option.TheVariants.{Some, None}
use Rattle.std.specs.Option.{IsSomeAnd}
use Rattle.std.specs.Prelude.{List}
use Rattle.bounds_model.specs.Plane.{PlanePoint}
use Rattle.bounds_model.specs.FurthestAnswer.{FurthestAnswer, PassesFurthest}
use Rattle.bounds_model.specs.Fractions.{Fraction}
use Rattle.bounds_model.specs.Best.{IsSmallest, IsPrintedSize}
use Rattle.bounds_model.specs.Answers.{Claim, claim, ClaimFits, ClaimIsBest, ClaimPasses}
use Rattle.bounds_model.specs.Answers.Claim.{circle_claim, sphere_claim, rectangle_claim, parallelogram_claim, strip_claim, annulus_claim, empty_claim, kgon_claim, distance_claim, centres_claim, furthest_claim, four_claim, shell_claim}
use Rattle.optimality.specs.Laws.{IsSmallestPrinted, AllPassingAnswersAreBest}
use Rattle.optimality.proofs.BallLaws.{circle_law, sphere_law}
use Rattle.optimality.proofs.StripLaw.{strip_law}
use Rattle.optimality.proofs.RectangleLaw.{rectangle_law}
use Rattle.optimality.proofs.ParallelogramLaw.{parallelogram_law}
use Rattle.optimality.proofs.AnnulusLaw.{annulus_law}
use Rattle.optimality.proofs.EmptyLaw.{empty_law}
use Rattle.optimality.proofs.KgonLaw.{kgon_law}
use Rattle.optimality.proofs.DistanceLaw.{distance_law}
use Rattle.optimality.proofs.CentresLaw.{centres_law}
use Rattle.optimality.proofs.FourLaw.{four_law}
use Rattle.optimality.proofs.FurthestLaw.{passing_furthest}
use Rattle.optimality.proofs.ShellLaw.{shell_law}

-- what a law on smallest objects says of a claim
of_smallest : {Object : Type 0} {Fits : Object → Type 0} {size : Object → Fraction} {object : Object} {printed : Fraction} → IsSmallestPrinted Fits size object printed → (Fits object × IsPrintedSize (size object) printed) × IsSmallest Fits size object
of_smallest h = ((h.smallest.fits, h.is_printed), h.smallest)

-- furthest corners that pass are those of the hull's corners
of_furthest : (points : List PlanePoint) (a : FurthestAnswer) → PassesFurthest points a → ClaimFits (furthest_claim points a) × ClaimIsBest (furthest_claim points a)
of_furthest points a h = ((h.numbers, (passing_furthest points a h).corners, record { lowest = h.ranges.size.lowest; same = h.size }), h.furthest)

-- a claim that passes fits, and is best
claim_law : (c : Claim) → ClaimPasses c → ClaimFits c × ClaimIsBest c
claim_law (circle_claim points a) h = of_smallest (circle_law points a h)
claim_law (sphere_claim points a) h = of_smallest (sphere_law points a h)
claim_law (rectangle_claim points a) h = of_smallest (rectangle_law points a h)
claim_law (parallelogram_claim points a) h = of_smallest (parallelogram_law points a h)
claim_law (strip_claim points a) h = of_smallest (strip_law points a h)
claim_law (annulus_claim points a) h = of_smallest (annulus_law points a h)
claim_law (empty_claim frame points a) h = let law = empty_law frame points a h in ((law.greatest.fits, law.is_printed), law.greatest)
claim_law (kgon_claim k points a) h = let law = kgon_law k points a h in ((law.0, law.1, law.2.greatest.fits, law.2.is_printed), law.2.greatest)
claim_law (distance_claim ps qs a) h = of_smallest (distance_law ps qs a h)
claim_law (centres_claim count points a) h = of_smallest (centres_law count points a h)
claim_law (furthest_claim points a) h = of_furthest points a h
claim_law (four_claim points a) h = of_smallest (four_law points a h)
claim_law (shell_claim points a) h = of_smallest (shell_law points a h)

-- what follows for each claim follows for the claim that is made, if one is
if_claimed : {P Q : Claim → Type 0} → ((c : Claim) → P c → Q c) → (made : Option Claim) → IsSomeAnd made P → IsSomeAnd made Q
if_claimed f None h = h
if_claimed f (Some c) h = f c h

-- an answer that passes is best
pub answer_law : AllPassingAnswersAreBest
answer_law ask sets answer h = record {
  fits = if_claimed {P = ClaimPasses} {Q = ClaimFits} (λ c h. (claim_law c h).0) (claim ask sets answer) h;
  best = if_claimed {P = ClaimPasses} {Q = ClaimIsBest} (λ c h. (claim_law c h).1) (claim ask sets answer) h;
}
