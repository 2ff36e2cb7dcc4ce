-- A test of what a checker asks, for all kinds but furthest corners and four centres, whose conditions are tested by themselves.
use Rattle.std.specs.declared.option.Option.{Option}
use Rattle.std.specs.declared.option.Option.TheVariants.{Some, None}
use Rattle.std.specs.Prelude.{⊤}
use Rattle.bounds_model.specs.Answers.{Answer, Claim, claim, ClaimPasses}
use Rattle.bounds_model.specs.Asks.{Ask, Sets}
use Rattle.bounds_model.specs.Answers.Claim.{circle_claim, sphere_claim, rectangle_claim, parallelogram_claim, strip_claim, annulus_claim, empty_claim, kgon_claim, distance_claim, centres_claim, furthest_claim, four_claim, shell_claim}
use Rattle.model_laws.proofs.Decisions.{Decision, impossible}
use Rattle.model_laws.proofs.DecideBall.{circle_passes, sphere_passes}
use Rattle.model_laws.proofs.DecideFans.{strip_passes, rectangle_passes, parallelogram_passes}
use Rattle.model_laws.proofs.DecideEmpty.{empty_passes}
use Rattle.model_laws.proofs.DecideKgon.{kgon_passes}
use Rattle.model_laws.proofs.DecideDistance.{annulus_passes, distance_passes}
use Rattle.model_laws.proofs.DecideCentres.{centres_passes}
use Rattle.model_laws.proofs.DecideShell.{shell_passes}

-- the test of a claim, where there is one
abbrev pub TestOf : Claim → Type 0
TestOf (furthest_claim points a) = ⊤
TestOf (four_claim points a) = ⊤
TestOf c = Decision (ClaimPasses c)

-- of a claim
abbrev pub claim_passes : (c : Claim) → TestOf c
claim_passes (circle_claim points a) = circle_passes points a
claim_passes (sphere_claim points a) = sphere_passes points a
claim_passes (rectangle_claim points a) = rectangle_passes points a
claim_passes (parallelogram_claim points a) = parallelogram_passes points a
claim_passes (strip_claim points a) = strip_passes points a
claim_passes (annulus_claim points a) = annulus_passes points a
claim_passes (empty_claim frame points a) = empty_passes frame points a
claim_passes (kgon_claim k points a) = kgon_passes k points a
claim_passes (distance_claim ps qs a) = distance_passes ps qs a
claim_passes (centres_claim count points a) = centres_passes count points a
claim_passes (furthest_claim points a) = tt
claim_passes (four_claim points a) = tt
claim_passes (shell_claim points a) = shell_passes points a

-- of what may be a claim
abbrev pub TestOfSome : Option Claim → Type 0
TestOfSome None = Decision ⊥
TestOfSome (Some c) = TestOf c

abbrev pub some_passes : (o : Option Claim) → TestOfSome o
some_passes None = impossible (λ h. h)
some_passes (Some c) = claim_passes c

-- of an answer
abbrev pub passes : (ask : Ask) (sets : Sets) (answer : Answer) → TestOfSome (claim ask sets answer)
passes ask sets answer = some_passes (claim ask sets answer)
