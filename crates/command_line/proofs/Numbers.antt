-- Coordinates, by their clamped numbers.
use Rattle.std.proofs.Common.{◌≡◌, ◌∙◌, sym, ap, cond, ℕ, ◌<◌, ◌≤◌, true, false, ℤ, pos, negsuc, nat_abs, nat_le, FitsSigned, List, Option, Some, None, arith}
use Rattle.std.specs.Prelude.{if◌then◌else◌}
use Rattle.std.proofs.lemmas.Bool.Decides.{nat_tests}
use Rattle.std.specs.Int.{w64}
use Rattle.std.specs.Option.{option_map}
use Rattle.bounds_model.specs.AnswerText.Numerals.{◌>>=◌, whole_number}
use Rattle.bounds_model.specs.Ranges.{number_limit}
use Rattle.byte_tools.specs.Clamps.{clamped}
use Rattle.byte_tools.proofs.Clamping.{number_found, within_or_not}
use Rattle.command_line.specs.Values.{coordinate}

-- a word whose number, clamped, is this
pub coordinate-some : (word : List ℕ) (z : ℤ) → Some z ≡ option_map (clamped number_limit) (whole_number word) → coordinate word ≡ cond (nat_le (nat_abs z) 200000) (Some z) None
unfolding coordinate
coordinate-some word z read =
    let found = number_found number_limit (whole_number word) z read in
    ap (λ (o : Option ℤ). o >>= λ z. if nat_le (nat_abs z) 200000 then Some z else None) found.2
    ∙ (sym (within_or_not number_limit 200000 found.0 (omega arith) Some None) ∙ ap (λ y. cond (nat_le (nat_abs y) 200000) (Some y) None) (sym found.1))

-- it may be past the range
pub coordinate-past : (word : List ℕ) (z : ℤ) → Some z ≡ option_map (clamped number_limit) (whole_number word) → 200000 < nat_abs z → None ≡ coordinate word
coordinate-past word z read past =
    let test : nat_le (nat_abs z) 200000 ≡ false = grind (arith, nat_tests) in
    sym (coordinate-some word z read ∙ ap (λ t. cond t (Some z) None) test)

-- or within it
pub coordinate-is : (word : List ℕ) (z : ℤ) → Some z ≡ option_map (clamped number_limit) (whole_number word) → nat_abs z ≤ 200000 → Some z ≡ coordinate word
coordinate-is word z read small =
    let test : nat_le (nat_abs z) 200000 ≡ true = grind (arith, nat_tests) in
    sym (coordinate-some word z read ∙ ap (λ t. cond t (Some z) None) test)

-- a coordinate fits 64 bits
pub coordinate_fits : (z : ℤ) → nat_abs z ≤ 200000 → FitsSigned w64 z
coordinate_fits (pos n) small = record { sfits = omega (arith, small) }
coordinate_fits (negsuc n) small = record { sfits = omega (arith, small) }
