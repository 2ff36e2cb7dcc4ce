-- The tests of fields say that the fields keep the ranges of their ranges.
use Rattle.std.proofs.Common.{◌≡◌, ℕ, ◌≤◌, ℤ, pos, negsuc, nat_abs, Bool, true, false, ◌&&◌, List, [], ◌∷◌, length, refl, arith, ◌≤ℤ◌, le_trans}
use Rattle.std.specs.Prelude.{int_le, nat_le, ◌==◌, All}
use Rattle.std.specs.List.{list_all}
use Rattle.std.proofs.lemmas.Bool.{eqb-true, leb-true, le-leb, eq-eqb}
use Rattle.std.proofs.lemmas.Int.{ints}
use Rattle.std.proofs.lemmas.List.Elements.{All-nil, All-cons, All-head, All-tail}
use Rattle.bounds_model.specs.Numbers.{IsWithin}
use Rattle.bounds_model.specs.Fractions.{HaveNoCommonFactor}
use Rattle.bounds_model.specs.EmptyAnswer.{Blocker, side, point, IsBlockerBelow}
use Rattle.bounds_model.specs.Ranges.{number_limit, point_limit, IsNumber, IsNatural, IsFraction, IsPlaneRatio, IsSpaceRatio}
use Rattle.bounds_model.specs.AnswerText.Fields.{Field, number, natural, naturals, bounded, fraction, plane_ratio, space_ratio, blocker, Value, is_small, is_in_range, is_lowest, is_blocker}
use Rattle.bounds_model.specs.Fractions.{common_factor}
use Rattle.bounds_model.specs.AnswerText.LineFormats.{Values}
use Rattle.text_laws.proofs.AnswerTexts.NumberLaws.{both_true}
use Rattle.text_laws.proofs.AnswerTexts.FieldLaws.{within}
use Rattle.text_laws.proofs.AnswerTexts.ValueLaws.{Fits, first_fits, rest_fits, both_fit, none_fit}
use Rattle.text_laws.proofs.AnswerTexts.FactorLaws.{factor_decides}

-- ---- numbers

-- two tests that pass
pub two_true : (a b : Bool) → a ≡ true → b ≡ true → a && b ≡ true
two_true true true p q = refl
two_true true false p q = absurd cc
two_true false b p q = absurd cc

-- a number whose magnitude is in range
within_from_abs : (limit : ℕ) (z : ℤ) → nat_abs z ≤ limit → IsWithin limit z
within_from_abs limit (pos n) h = record { low = grind (arith, ints); high = grind (arith, ints) }
within_from_abs limit (negsuc n) h = record { low = grind (arith, ints); high = grind (arith, ints) }

-- the magnitude of a number in range
abs_from_within : (limit : ℕ) (z : ℤ) → IsWithin limit z → nat_abs z ≤ limit
abs_from_within limit (pos n) h = let high = h.high in grind (arith, ints)
abs_from_within limit (negsuc n) h = let low = h.low in grind (arith, ints)

-- a number within the limit
number_range : (z : ℤ) → within z ≡ true → IsNumber z
number_range z e = within_from_abs number_limit z (leb-true (nat_abs z) number_limit e)

-- a number in its range is within the limit
number_within : (z : ℤ) → IsNumber z → within z ≡ true
number_within z range = le-leb (nat_abs z) number_limit (abs_from_within number_limit z range)

-- the test for a number that is not below 0
not_below_zero : (z : ℤ) → int_le (pos 0) z ≡ true → pos 0 ≤ℤ z
not_below_zero (pos n) e = grind (arith, ints)
not_below_zero (negsuc n) e = absurd cc

-- the same, the other way round
zero_or_above : (z : ℤ) → pos 0 ≤ℤ z → int_le (pos 0) z ≡ true
zero_or_above (pos n) h = le-leb 0 n (omega arith)
zero_or_above (negsuc n) h = absurd (omega (arith, ints))

-- a number without a sign
natural_range : (z : ℤ) → within z ≡ true → int_le (pos 0) z ≡ true → IsNatural z
natural_range z e f = record { low = not_below_zero z f; high = (number_range z e).high }

-- such a number passes the tests
natural_within : (z : ℤ) → IsNatural z → (within z ≡ true) × (int_le (pos 0) z ≡ true)
natural_within z range = (le-leb (nat_abs z) number_limit (natural_abs number_limit z range.low range.high), zero_or_above z range.low)
  where
    natural_abs : (limit : ℕ) (y : ℤ) → pos 0 ≤ℤ y → y ≤ℤ pos limit → nat_abs y ≤ limit
    natural_abs limit (pos n) low high = omega (arith, ints)
    natural_abs limit (negsuc n) low high = absurd (omega (arith, ints))

-- the test for a number above 0
above_zero : (z : ℤ) → int_le (pos 1) z ≡ true → pos 1 ≤ℤ z
above_zero (pos n) e = let le : 1 ≤ n = leb-true 1 n e in omega (arith, ints)
above_zero (negsuc n) e = absurd cc

-- the same, the other way round
one_or_above : (z : ℤ) → pos 1 ≤ℤ z → int_le (pos 1) z ≡ true
one_or_above (pos n) h = le-leb 1 n (omega (arith, ints))
one_or_above (negsuc n) h = absurd (omega (arith, ints))

-- ---- fields

-- a field keeps the range of its range
abbrev pub IsFieldInRange : (field : Field) → Value field → Type 0
IsFieldInRange number z = IsNumber z
IsFieldInRange natural z = IsNatural z
IsFieldInRange (naturals amount) zs = (length zs ≡ amount) × All IsNatural zs
IsFieldInRange (bounded low high) n = (low ≤ n) × (n ≤ high)
IsFieldInRange fraction a = IsFraction a
IsFieldInRange plane_ratio c = IsPlaneRatio c
IsFieldInRange space_ratio c = IsSpaceRatio c
IsFieldInRange blocker b = IsBlockerBelow 10000 b

-- the range of the range is within the limit of all numbers
abbrev pub is_limited : Field → Bool
is_limited (bounded low high) = nat_le high number_limit
is_limited field = true

-- the first number and the others
one_within : (z : ℤ) (zs : List ℤ) → list_all within (z ∷ zs) ≡ true → (within z ≡ true) × (list_all within zs ≡ true)
one_within z zs e = both_true (within z) (list_all within zs) e

-- several numbers without a sign
naturals_range : (zs : List ℤ) → list_all within zs ≡ true → list_all (λ z. int_le (pos 0) z) zs ≡ true → All IsNatural zs
naturals_range [] e f = All-nil IsNatural
naturals_range (z ∷ zs) e f =
    let first = one_within z zs e in
    let second = both_true (int_le (pos 0) z) (list_all (λ y. int_le (pos 0) y) zs) f in
    All-cons IsNatural z zs (natural_range z first.0 second.0) (naturals_range zs first.1 second.1)

-- such numbers pass the tests
naturals_within : (zs : List ℤ) → All IsNatural zs → (list_all within zs ≡ true) × (list_all (λ z. int_le (pos 0) z) zs ≡ true)
naturals_within [] all = (refl, refl)
naturals_within (z ∷ zs) all =
    let first = natural_within z (All-head IsNatural z zs all) in
    let others = naturals_within zs (All-tail IsNatural z zs all) in
    (two_true (within z) (list_all within zs) first.0 others.0, two_true (int_le (pos 0) z) (list_all (λ y. int_le (pos 0) y) zs) first.1 others.1)

-- the test for lowest terms
lowest_range : (d : ℤ) (es : List ℤ) → is_lowest d es ≡ true → (pos 1 ≤ℤ d) × HaveNoCommonFactor es
lowest_range d es e =
    let parts = both_true (int_le (pos 1) d) (common_factor es == 1) e in
    (above_zero d parts.0, (factor_decides es).0 parts.1)

-- the same, the other way round
lowest_from_range : (d : ℤ) (es : List ℤ) → pos 1 ≤ℤ d → HaveNoCommonFactor es → is_lowest d es ≡ true
lowest_from_range d es above none = two_true (int_le (pos 1) d) (common_factor es == 1) (one_or_above d above) ((factor_decides es).1 none)

-- the test for a blocker
blocker_in_range : (b : Blocker) → is_blocker b ≡ true → IsBlockerBelow 10000 b
blocker_in_range side e = tt
blocker_in_range (point n) e = let le : n ≤ 9999 = leb-true n point_limit e in omega arith

-- the same, the other way round
blocker_from_range : (b : Blocker) → IsBlockerBelow 10000 b → (is_small blocker b ≡ true) × (is_blocker b ≡ true)
blocker_from_range side range = (refl, refl)
blocker_from_range (point n) range = (two_true (within (pos n)) true (le-leb n number_limit (omega arith)) refl, le-leb n point_limit (omega arith))

-- a field that passes the tests keeps its range
pub field_in_range : (field : Field) (v : Value field) → is_small field v ≡ true → is_in_range field v ≡ true → IsFieldInRange field v
field_in_range number z small range = number_range z (one_within z [] small).0
field_in_range natural z small range = natural_range z (one_within z [] small).0 range
field_in_range (naturals amount) zs small range =
    let parts = both_true (length zs == amount) (list_all (λ z. int_le (pos 0) z) zs) range in
    (eqb-true (length zs) amount parts.0, naturals_range zs small parts.1)
field_in_range (bounded low high) n small range =
    let parts = both_true (nat_le low n) (nat_le n high) range in
    (leb-true low n parts.0, leb-true n high parts.1)
field_in_range fraction a small range =
    let n = one_within a.n (a.d ∷ []) small in
    let parts = both_true (int_le (pos 0) a.n) (is_lowest a.d (a.n ∷ a.d ∷ [])) range in
    let lowest = lowest_range a.d (a.n ∷ a.d ∷ []) parts.1 in
    record {
      numerator = number_range a.n n.0;
      denominator = number_range a.d (one_within a.d [] n.1).0;
      lowest = record { not_negative = record { numerator = not_below_zero a.n parts.0; denominator = lowest.0 }; lowest = lowest.1 };
    }
field_in_range plane_ratio c small range =
    let x = one_within c.x (c.y ∷ c.w ∷ []) small in
    let y = one_within c.y (c.w ∷ []) x.1 in
    let lowest = lowest_range c.w (c.x ∷ c.y ∷ c.w ∷ []) range in
    record { x = number_range c.x x.0; y = number_range c.y y.0; w = number_range c.w (one_within c.w [] y.1).0; denominator = lowest.0; lowest = lowest.1 }
field_in_range space_ratio c small range =
    let x = one_within c.x (c.y ∷ c.z ∷ c.w ∷ []) small in
    let y = one_within c.y (c.z ∷ c.w ∷ []) x.1 in
    let z = one_within c.z (c.w ∷ []) y.1 in
    let lowest = lowest_range c.w (c.x ∷ c.y ∷ c.z ∷ c.w ∷ []) range in
    record { x = number_range c.x x.0; y = number_range c.y y.0; z = number_range c.z z.0; w = number_range c.w (one_within c.w [] z.1).0; denominator = lowest.0; lowest = lowest.1 }
field_in_range blocker b small range = blocker_in_range b range

-- a field that keeps its range passes the tests
pub field_passes : (field : Field) (v : Value field) → is_limited field ≡ true → IsFieldInRange field v → (is_small field v ≡ true) × (is_in_range field v ≡ true)
field_passes number z limited range = (two_true (within z) true (number_within z range) refl, refl)
field_passes natural z limited range = let w = natural_within z range in (two_true (within z) true w.0 refl, w.1)
field_passes (naturals amount) zs limited range =
    let w = naturals_within zs range.1 in
    (w.0, two_true (length zs == amount) (list_all (λ z. int_le (pos 0) z) zs) (eq-eqb (length zs) amount range.0) w.1)
field_passes (bounded low high) n limited range =
    let most : high ≤ number_limit = leb-true high number_limit limited in
    let within-n : n ≤ number_limit = le_trans range.1 most in
    (two_true (within (pos n)) true (le-leb n number_limit within-n) refl, two_true (nat_le low n) (nat_le n high) (le-leb low n range.0) (le-leb n high range.1))
field_passes fraction a limited range = (
  two_true (within a.n) (within a.d && true) (number_within a.n range.numerator) (two_true (within a.d) true (number_within a.d range.denominator) refl),
  two_true (int_le (pos 0) a.n) (is_lowest a.d (a.n ∷ a.d ∷ [])) (zero_or_above a.n range.lowest.not_negative.numerator) (lowest_from_range a.d (a.n ∷ a.d ∷ []) range.lowest.not_negative.denominator range.lowest.lowest),
)
field_passes plane_ratio c limited range = (
  two_true (within c.x) _ (number_within c.x range.x) (two_true (within c.y) _ (number_within c.y range.y) (two_true (within c.w) true (number_within c.w range.w) refl)),
  lowest_from_range c.w (c.x ∷ c.y ∷ c.w ∷ []) range.denominator range.lowest,
)
field_passes space_ratio c limited range = (
  two_true (within c.x) _ (number_within c.x range.x) (two_true (within c.y) _ (number_within c.y range.y) (two_true (within c.z) _ (number_within c.z range.z) (two_true (within c.w) true (number_within c.w range.w) refl))),
  lowest_from_range c.w (c.x ∷ c.y ∷ c.z ∷ c.w ∷ []) range.denominator range.lowest,
)
field_passes blocker b limited range = blocker_from_range b range

-- ---- lines

-- each field keeps its range
abbrev pub FieldRanges : (fields : List Field) → Values fields → Type 0
FieldRanges [] values = Unit {0}
FieldRanges (field ∷ fields) values = IsFieldInRange field values.0 × FieldRanges fields values.1

-- fields that fit keep their ranges
pub line_ranges : (fields : List Field) (values : Values fields) → Fits fields values → FieldRanges fields values
line_ranges [] values fits = tt
line_ranges (field ∷ fields) values fits =
    let first = first_fits field fields values fits in
    (field_in_range field values.0 first.0 first.1, line_ranges fields values.1 (rest_fits field fields values fits))

-- fields that keep their ranges fit
pub line_fits : (fields : List Field) (values : Values fields) → list_all is_limited fields ≡ true → FieldRanges fields values → Fits fields values
line_fits [] values limited ranges = none_fit
line_fits (field ∷ fields) values limited ranges =
    let parts = both_true (is_limited field) (list_all is_limited fields) limited in
    let first = field_passes field values.0 parts.0 ranges.0 in
    both_fit field fields values first.0 first.1 (line_fits fields values.1 parts.1 ranges.1)
