-- What is smallest or greatest, printed, best, and the optimum, and what is not for one reason alone.
use Rattle.std.proofs.Common.{◌≡◌, refl, ap, ℕ, ◌≤◌, ℤ, pos, ◌*ℤ◌, ◌≤ℤ◌, arith}
use Rattle.std.proofs.lemmas.Int.{ints}
use Rattle.bounds_model.specs.Fractions.{Fraction}
use Rattle.bounds_model.specs.Ball.{Ball, FitsCircle, ball_size}
use Rattle.bounds_model.specs.Best.{IsSmallest, IsGreatest, IsPrintedSize}
use Rattle.bounds_model.specs.BallAnswer.{CircleAnswer, circle_of}
use Rattle.bounds_model.specs.Asks.Ask.{ask_circle}
use Rattle.bounds_model.specs.Asks.Sets.{plane}
use Rattle.bounds_model.specs.Answers.{Fits, IsBest, IsOptimum}
use Rattle.bounds_model.specs.Answers.Answer.{circle}
use Rattle.model_laws.proofs.Decisions.{by_test, by_failed_test, by_one_failure, equal_ℤ, most_ℤ, most_ℕ}
use Rattle.model_laws.proofs.DecideFits.{printed, fits_circle}
use Rattle.model_laws.proofs.DecideClaims.{fits}
use Rattle.model_laws.proofs.DecideAnswers.{passes}
use Rattle.model_laws.proofs.SizeLaw.{one_optimum}
use Rattle.model_laws.proofs.ExampleBalls.{triangle, over_longest}
use Rattle.model_laws.proofs.Literals.{fraction}
use Rattle.optimality.proofs.AnswerLaw.{answer_law}

-- ---- numbers: the smallest that is at least 2, and the greatest that is at most 2

-- a number as its own size
abbrev as_size : ℕ → Fraction
as_size n = fraction n 1

abbrev IsLeast : ℕ → Type 0
IsLeast = IsSmallest (λ n. 2 ≤ n) as_size

abbrev IsMost : ℕ → Type 0
IsMost = IsGreatest (λ n. n ≤ 2) as_size

two_is_least : IsLeast 2
two_is_least = record { fits = omega arith; smallest = λ other f. omega (arith, ints) }

-- 1 is smaller, and does not fit; 3 fits, and is greater
one_is_not : ¬ IsLeast 1
one_is_not h = by_failed_test (most_ℕ 2 1) refl h.fits

three_is_not : ¬ IsLeast 3
three_is_not h = by_failed_test (most_ℤ (pos 3 *ℤ pos 1) (pos 2 *ℤ pos 1)) refl (h.smallest 2 (omega arith))

two_is_most : IsMost 2
two_is_most = record { fits = omega arith; greatest = λ other f. omega (arith, ints) }

three_is_not_most : ¬ IsMost 3
three_is_not_most h = by_failed_test (most_ℕ 3 2) refl h.fits

one_is_not_most : ¬ IsMost 1
one_is_not_most h = by_failed_test (most_ℤ (pos 2 *ℤ pos 1) (pos 1 *ℤ pos 1)) refl (h.greatest 2 (omega arith))

-- ---- printed sizes

half : IsPrintedSize (fraction 2 4) (fraction 1 2)
half = by_test (printed (fraction 2 4) (fraction 1 2)) refl

unreduced_half : ¬ IsPrintedSize (fraction 2 4) (fraction 2 4)
unreduced_half = by_one_failure (printed (fraction 2 4) (fraction 2 4)) refl refl

third : ¬ IsPrintedSize (fraction 2 4) (fraction 1 3)
third = by_one_failure (printed (fraction 2 4) (fraction 1 3)) refl refl

-- ---- the best circle around a triangle

abbrev IsSmallestCircle : Ball → Type 0
IsSmallestCircle = IsSmallest (FitsCircle triangle) ball_size

longest_is_best : IsBest ask_circle (plane triangle) (circle over_longest)
longest_is_best = answer_law ask_circle (plane triangle) (circle over_longest) (by_test (passes ask_circle (plane triangle) (circle over_longest)) refl)

-- the same with the squared radius 9, which fits
abbrev roomy : CircleAnswer
roomy = record over_longest { size = fraction 9 1 }

roomy_fits : Fits ask_circle (plane triangle) (circle roomy)
roomy_fits = by_test (fits ask_circle (plane triangle) (circle roomy)) refl

not_smallest : IsSmallestCircle (circle_of roomy) → ⊥
not_smallest h =
    let fits = by_test (fits_circle triangle (circle_of over_longest)) refl in
    by_failed_test (most_ℤ (pos 9 *ℤ pos 4) (pos 25 *ℤ pos 1)) refl (h.smallest (circle_of over_longest) fits)

roomy_is_not_best : ¬ IsBest ask_circle (plane triangle) (circle roomy)
roomy_is_not_best h = not_smallest h.best

-- the same with its size not in lowest terms: the circle is the smallest, and the answer does not print its size
abbrev unreduced : CircleAnswer
unreduced = record over_longest { size = fraction 50 8 }

doubled : (n d : ℤ) → (pos 25 *ℤ d) ≤ℤ (n *ℤ pos 4) → (pos 50 *ℤ d) ≤ℤ (n *ℤ pos 8)
doubled n d h = omega (arith, ints)

still_smallest : IsSmallestCircle (circle_of over_longest) → IsSmallestCircle (circle_of unreduced)
still_smallest h = record {
  fits = by_test (fits_circle triangle (circle_of unreduced)) refl;
  smallest = λ other f. doubled other.squared_radius.n other.squared_radius.d (h.smallest other f);
}

unreduced_is_smallest : IsSmallestCircle (circle_of unreduced)
unreduced_is_smallest = still_smallest longest_is_best.best

unreduced_is_not_best : ¬ IsBest ask_circle (plane triangle) (circle unreduced)
unreduced_is_not_best h = by_failed_test (fits ask_circle (plane triangle) (circle unreduced)) refl h.fits

-- ---- its size is the optimum, and no other fraction is

optimum : IsOptimum ask_circle (plane triangle) (fraction 25 4)
optimum = record { answer = circle over_longest; best = longest_is_best; printed = refl }

same_numerator : (size : Fraction) → IsOptimum ask_circle (plane triangle) size → size.n ≡ pos 25
same_numerator size h = ap (λ (f : Fraction). f.n) (one_optimum ask_circle (plane triangle) size (fraction 25 4) h optimum)

nine_is_not : ¬ IsOptimum ask_circle (plane triangle) (fraction 9 1)
nine_is_not h = by_failed_test (equal_ℤ (pos 9) (pos 25)) refl (same_numerator (fraction 9 1) h)

fifty_eighths_are_not : ¬ IsOptimum ask_circle (plane triangle) (fraction 50 8)
fifty_eighths_are_not h = by_failed_test (equal_ℤ (pos 50) (pos 25)) refl (same_numerator (fraction 50 8) h)
