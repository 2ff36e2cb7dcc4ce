-- The size of a claim and its units: those of the answer that makes it.
use Rattle.std.proofs.Common.{◌≡◌, refl, ℕ, ◌^◌}
use Rattle.std.specs.Option.{IfSome}
use Rattle.bounds_model.specs.Fractions.{Fraction}
use Rattle.bounds_model.specs.Asks.{Ask, Sets, plane, space, two, bare}
use Rattle.bounds_model.specs.Asks.{ask_circle, ask_sphere, ask_rectangle, ask_parallelogram, ask_strip, ask_annulus, ask_empty, ask_kgon, ask_distance, ask_centres, ask_furthest, ask_four, ask_shell}
use Rattle.bounds_model.specs.Answers.{Answer, circle, sphere, rectangle, parallelogram, strip, annulus, empty, kgon, distance, centres, furthest, four, shell, size_of, claim}
use Rattle.bounds_model.specs.Answers.{Claim, circle_claim, sphere_claim, rectangle_claim, parallelogram_claim, strip_claim, annulus_claim, empty_claim, kgon_claim, distance_claim, centres_claim, furthest_claim, four_claim, shell_claim}
use Rattle.bounds_model.specs.Reports.{power}

-- the size that a claim prints
abbrev pub claim_size : Claim → Fraction
claim_size (circle_claim points a) = a.size
claim_size (sphere_claim points a) = a.size
claim_size (rectangle_claim points a) = a.size
claim_size (parallelogram_claim points a) = a.size
claim_size (strip_claim points a) = a.size
claim_size (annulus_claim points a) = a.size
claim_size (empty_claim frame points a) = a.size
claim_size (kgon_claim k points a) = a.size
claim_size (distance_claim ps qs a) = a.size
claim_size (centres_claim count points a) = a.size
claim_size (furthest_claim points a) = a.size
claim_size (four_claim points a) = a.size
claim_size (shell_claim points a) = a.size

-- its units at a scale
abbrev pub claim_units : ℕ → Claim → ℕ
claim_units scale (centres_claim count points a) = scale ^ 1
claim_units scale (four_claim points a) = scale ^ 1
claim_units scale c = scale ^ 2

-- the claim is of this size, in these units
abbrev pub IsOfSize : ℕ → Fraction → ℕ → Claim → Type 0
IsOfSize scale size units c = (claim_size c ≡ size) × (claim_units scale c ≡ units)

-- a claim has the size of its answer
pub claim_is_of_size : (scale : ℕ) (ask : Ask) (sets : Sets) (answer : Answer) → IfSome (claim ask sets answer) (IsOfSize scale (size_of answer) (scale ^ power answer))
claim_is_of_size scale ask_circle (plane points) (circle a) = (refl, refl)
claim_is_of_size scale ask_sphere (space points) (sphere a) = (refl, refl)
claim_is_of_size scale ask_rectangle (plane points) (rectangle a) = (refl, refl)
claim_is_of_size scale ask_parallelogram (plane points) (parallelogram a) = (refl, refl)
claim_is_of_size scale ask_strip (plane points) (strip a) = (refl, refl)
claim_is_of_size scale ask_annulus (plane points) (annulus a) = (refl, refl)
claim_is_of_size scale (ask_empty frame) (plane points) (empty a) = (refl, refl)
claim_is_of_size scale (ask_empty frame) bare (empty a) = (refl, refl)
claim_is_of_size scale (ask_kgon k) (plane points) (kgon a) = (refl, refl)
claim_is_of_size scale ask_distance (two ps qs) (distance a) = (refl, refl)
claim_is_of_size scale (ask_centres count) (plane points) (centres a) = (refl, refl)
claim_is_of_size scale ask_furthest (plane points) (furthest a) = (refl, refl)
claim_is_of_size scale ask_four (plane points) (four a) = (refl, refl)
claim_is_of_size scale ask_shell (space points) (shell a) = (refl, refl)
claim_is_of_size scale ask sets answer = tt
