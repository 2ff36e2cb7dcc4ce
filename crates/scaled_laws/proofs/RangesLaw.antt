-- A report that passes has its numbers in their ranges: units of at most 1000² times a denominator of at most 2^93 stay within 2^126.
use Rattle.std.proofs.Common.{sym, ap, subst, ℕ, ◌*◌, ◌/◌, ◌^◌, ◌≤◌, ℤ, pos, neg_ℤ, ◌*ℤ◌, ◌≤ℤ◌, nat_abs, [], ◌∷◌, arith}
use Rattle.std.specs.declared.option.Option.{Option}
use Rattle.std.specs.declared.option.Option.TheVariants.{Some, None}
use Rattle.std.specs.Option.{IfSome, IsSomeAnd}
use Rattle.std.proofs.lemmas.Int.{ints, unsigned_abs-mul}
use Rattle.std.proofs.Math.Nat.{div-le_self, mul-le-mul, le_trans}
use Rattle.bounds_model.specs.Numbers.{IsWithin}
use Rattle.bounds_model.specs.Fractions.{Fraction, over, common_factor}
use Rattle.bounds_model.specs.Ranges.{IsFraction, number_limit}
use Rattle.bounds_model.specs.Answers.{Answer, Claim, circle, sphere, rectangle, parallelogram, strip, annulus, empty, kgon, distance, centres, furthest, four, shell, claim, ClaimFits, ClaimPasses, size_of, KeepsRanges, IsBest}
use Rattle.bounds_model.specs.Reports.{power, size_units}
use Rattle.model_laws.proofs.PassingRanges.{passing_keeps_ranges}
use Rattle.optimality.proofs.AnswerLaw.{answer_law}
use Rattle.scaled_laws.specs.Laws.{PassingReportsKeepRanges}
use Rattle.scaled_laws.proofs.ClaimSizes.{IsOfSize, claim_is_of_size}
use Rattle.scaled_laws.proofs.GrownObjects.{first_power, units_are}
use Rattle.scaled_laws.proofs.ReportLaw.{full_size_prints}
use Rattle.scaled_laws.proofs.SizeUnits.{size_is_short, denominator_limit}

-- a square
square_limit : (scale : ℕ) → scale ≤ 1000 → scale ^ 2 ≤ 1000000
square_limit scale l = subst (λ n. n ≤ 1000000) (sym (ap nat_abs (units_are scale))) (le_trans (mul-le-mul l l) (omega arith))

-- the units of a size are at most a million
units_limit : (scale : ℕ) (answer : Answer) → scale ≤ 1000 → scale ^ power answer ≤ 1000000
units_limit scale (centres a) l = first l
  where
    first : scale ≤ 1000 → scale ^ 1 ≤ 1000000
    first l = omega (arith, first_power scale)
units_limit scale (four a) l = first l
  where
    first : scale ≤ 1000 → scale ^ 1 ≤ 1000000
    first l = omega (arith, first_power scale)
units_limit scale (furthest a) l = square_limit scale l
units_limit scale (shell a) l = square_limit scale l
units_limit scale (circle a) l = square_limit scale l
units_limit scale (sphere a) l = square_limit scale l
units_limit scale (rectangle a) l = square_limit scale l
units_limit scale (parallelogram a) l = square_limit scale l
units_limit scale (strip a) l = square_limit scale l
units_limit scale (annulus a) l = square_limit scale l
units_limit scale (empty a) l = square_limit scale l
units_limit scale (kgon a) l = square_limit scale l
units_limit scale (distance a) l = square_limit scale l

-- the size of an answer in its ranges is a fraction of an answer text
kept_size : (answer : Answer) → KeepsRanges answer → IsFraction (size_of answer)
kept_size (circle a) h = h.size
kept_size (sphere a) h = h.size
kept_size (rectangle a) h = h.size
kept_size (parallelogram a) h = h.size
kept_size (strip a) h = h.size
kept_size (annulus a) h = h.size
kept_size (empty a) h = h.size
kept_size (kgon a) h = h.size
kept_size (distance a) h = h.size
kept_size (centres a) h = h.size
kept_size (furthest a) h = h.size
kept_size (four a) h = h.size
kept_size (shell a) h = h.size

-- a quotient is within the bounds of what is divided
within_quotient : (n g limit : ℕ) → n ≤ limit → IsWithin limit (pos (n / g))
within_quotient n g limit h = whole (n / g) (div-le_self n g) h
  where
    whole : (q : ℕ) → q ≤ n → n ≤ limit → IsWithin limit (pos q)
    whole q l h = record { low = omega (arith, ints); high = omega (arith, ints) }

-- a magnitude from bounds
magnitude : (limit : ℕ) (z : ℤ) → IsWithin limit z → nat_abs z ≤ limit
magnitude limit z h = within h.low h.high
  where
    within : neg_ℤ (pos limit) ≤ℤ z → z ≤ℤ pos limit → nat_abs z ≤ limit
    within l m = omega (arith, ints)

-- a short denominator times the units
short_product : (d : ℤ) (units : ℕ) → pos 1 ≤ℤ d → d ≤ℤ pos denominator_limit → units ≤ 1000000 → nat_abs (d *ℤ pos units) ≤ number_limit
short_product d units l h u = subst (λ n. n ≤ number_limit) (sym (unsigned_abs-mul d (pos units))) (product (nat_abs d) (below d l h))
  where
    below : (d : ℤ) → pos 1 ≤ℤ d → d ≤ℤ pos denominator_limit → nat_abs d ≤ denominator_limit
    below d l h = omega (arith, ints)

    product : (n : ℕ) → n ≤ denominator_limit → n * units ≤ number_limit
    product n m = le_trans (mul-le-mul m u) (omega arith)

-- the size of a claim that is made
some_short : (scale : ℕ) (size : Fraction) (units : ℕ) (made : Option Claim) → IfSome made (IsOfSize scale size units) → IsSomeAnd made ClaimFits → IsSomeAnd made ClaimPasses → size.d ≤ℤ pos denominator_limit
some_short scale size units None i f h = absurd h
some_short scale size units (Some c) i f h = subst (λ s. s.d ≤ℤ pos denominator_limit) i.0 (size_is_short c f h)

-- a report that passes keeps its ranges
pub ranges_law : PassingReportsKeepRanges
ranges_law ask file r h =
    let made = claim ask file.sets r.answer in
    let best : IsBest ask file.sets r.answer = answer_law ask file.sets r.answer h.passes in
    let sized = claim_is_of_size r.scale ask file.sets r.answer in
    let kept = passing_keeps_ranges ask file.sets r.answer h.passes in
    let own = kept_size r.answer kept in
    let from_one = subst (λ n. 1 ≤ n) (sym h.scale) h.scale_from in
    let to_limit = subst (λ n. n ≤ 1000) (sym h.scale) h.scale_to in
    let size = size_of r.answer in
    let full = over (size_units r) size in
    let g = common_factor (full.n ∷ full.d ∷ []) in
    let short = some_short r.scale size (size_units r) made sized best.fits h.passes in
    record {
      scale_from = from_one;
      scale_to = to_limit;
      answer = kept;
      size = record {
        numerator = within_quotient (nat_abs full.n) g number_limit (magnitude number_limit size.n own.numerator);
        denominator = within_quotient (nat_abs full.d) g number_limit (short_product size.d (size_units r) own.lowest.not_negative.denominator short (units_limit r.scale r.answer to_limit));
        lowest = (full_size_prints r from_one own.lowest.not_negative).lowest;
      };
    }
