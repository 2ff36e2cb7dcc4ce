-- A test whether an answer's object fits and its size is printed, for all kinds.
use Rattle.std.proofs.Common.{length}
use Rattle.bounds_model.specs.Ball.{ball_size}
use Rattle.bounds_model.specs.Strip.{strip_size}
use Rattle.bounds_model.specs.Rectangle.{rectangle_size}
use Rattle.bounds_model.specs.Parallelogram.{parallelogram_size}
use Rattle.bounds_model.specs.Annulus.{annulus_size}
use Rattle.bounds_model.specs.EmptyRectangle.{empty_size}
use Rattle.bounds_model.specs.Kgon.{kgon_size}
use Rattle.bounds_model.specs.Distance.{distance_size}
use Rattle.bounds_model.specs.Centres.{centres_size}
use Rattle.bounds_model.specs.BallAnswer.{circle_of, sphere_of}
use Rattle.bounds_model.specs.StripAnswer.{strip_of}
use Rattle.bounds_model.specs.RectangleAnswer.{rectangle_of}
use Rattle.bounds_model.specs.ParallelogramAnswer.{parallelogram_of}
use Rattle.bounds_model.specs.AnnulusAnswer.{annulus_of}
use Rattle.bounds_model.specs.EmptyAnswer.{empty_of}
use Rattle.bounds_model.specs.KgonAnswer.{corner_points}
use Rattle.bounds_model.specs.DistanceAnswer.{weights_of}
use Rattle.bounds_model.specs.CentresAnswer.{cover_of}
use Rattle.bounds_model.specs.FurthestAnswer.{corner_numbers, entry_points, furthest_size}
use Rattle.bounds_model.specs.Shell.{shell_size}
use Rattle.bounds_model.specs.ShellAnswer.{shell_of}
use Rattle.bounds_model.specs.Asks.{Ask, Sets}
use Rattle.bounds_model.specs.Answers.{Answer, Claim, claim, ClaimFits, Fits}
use Rattle.bounds_model.specs.Answers.Claim.{circle_claim, sphere_claim, rectangle_claim, parallelogram_claim, strip_claim, annulus_claim, empty_claim, kgon_claim, distance_claim, centres_claim, furthest_claim, four_claim, shell_claim}
use Rattle.model_laws.proofs.Decisions.{Decision, both, three, four, all, some_and, less_ℕ}
use Rattle.model_laws.proofs.DecideKgon.{are_corners, fits_kgon}
use Rattle.model_laws.proofs.DecideCentres.{covers}
use Rattle.model_laws.proofs.DecideShell.{fits_shell}
use Rattle.model_laws.proofs.DecideFits.{printed, fits_ball, fits_circle, fits_strip, fits_rectangle, fits_parallelogram, fits_annulus, fits_empty, fits_distance}

-- of a claim
abbrev pub claim_fits : (c : Claim) → Decision (ClaimFits c)
claim_fits (circle_claim points a) = both (fits_circle points (circle_of a)) (printed (ball_size (circle_of a)) a.size)
claim_fits (sphere_claim points a) = both (fits_ball points (sphere_of a)) (printed (ball_size (sphere_of a)) a.size)
claim_fits (rectangle_claim points a) = both (fits_rectangle points (rectangle_of a)) (printed (rectangle_size (rectangle_of a)) a.size)
claim_fits (parallelogram_claim points a) =
    both (fits_parallelogram points (parallelogram_of a)) (printed (parallelogram_size (parallelogram_of a)) a.size)
claim_fits (strip_claim points a) = both (fits_strip points (strip_of a)) (printed (strip_size (strip_of a)) a.size)
claim_fits (annulus_claim points a) = both (fits_annulus points (annulus_of a)) (printed (annulus_size (annulus_of a)) a.size)
claim_fits (empty_claim frame points a) = both (fits_empty frame points (empty_of a)) (printed (empty_size (empty_of a)) a.size)
claim_fits (kgon_claim k points a) =
    four (all (λ number. less_ℕ number (length points)) a.corners) (are_corners points (corner_points points a))
    (fits_kgon k (corner_points points a) a.chosen) (printed (kgon_size (corner_points points a) a.chosen) a.size)
claim_fits (distance_claim ps qs a) = both (fits_distance ps qs (weights_of ps qs a)) (printed (distance_size ps qs (weights_of ps qs a)) a.size)
claim_fits (centres_claim count points a) = both (covers count points (cover_of a)) (printed (centres_size (cover_of a)) a.size)
claim_fits (furthest_claim points a) =
    three (all (λ number. less_ℕ number (length points)) (corner_numbers a.entries)) (are_corners points (entry_points points a.entries)) (printed (furthest_size points a.entries) a.size)
claim_fits (four_claim points a) = both (covers 4 points (cover_of a)) (printed (centres_size (cover_of a)) a.size)
claim_fits (shell_claim points a) = both (fits_shell points (shell_of a)) (printed (shell_size (shell_of a)) a.size)

-- of an answer
abbrev pub fits : (ask : Ask) (sets : Sets) (answer : Answer) → Decision (Fits ask sets answer)
fits ask sets answer = some_and {P = ClaimFits} claim_fits (claim ask sets answer)
