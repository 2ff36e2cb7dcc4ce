use Rattle.std.proofs.Common.{◌≡◌, ◌∙◌, sym, ap, cond, Some, None, get_or, take, ◌+◌, ◌*◌, ◌<◌, length, Bool, false, arith}
use Rattle.std.specs.Option.{option_map}
use Rattle.std.specs.Char.{is_ascii_digit, digit_value}
use Rattle.std.specs.Str.Parse.{digits_value}
use Rattle.std.proofs.lemmas.Int.Digits.{digits_value_more}
use Rattle.std.proofs.lemmas.Grind.{common_steps}
use Rattle.bounds_model.specs.Ranges.{number_limit}
use Rattle.byte_tools.specs.Clamps.{clamped_size}
use Rattle.byte_tools.proofs.NumeralLaws.{is_numeral-other}
use Rattle.byte_tools.proofs.Clamping.{clamped-digit}
use Rattle.byte_tools.proofs.numerals.natural_number.Goals as goal

pub returns-then-not-is_ascii_digit-clause-number : goal.returns-then-not-is_ascii_digit-clause-number
returns-then-not-is_ascii_digit-clause-number c =
    let word = c.args.word.now in
    let i = c.loop-digit.digit-index in
    let lt : i < length word = omega arith in
    let other : is_ascii_digit (get_or word i 0) ≡ false = sym c.if-not-is_ascii_digit.ensures.value in
    sym (ap (λ (t : Bool). option_map (clamped_size number_limit) (cond t (Some (digits_value 10 word)) None)) (is_numeral-other word i lt other))

pub loop-digit-preserved : goal.loop-digit-preserved
loop-digit-preserved c =
    let word = c.args.word.now in
    let i = c.loop-digit.digit-index in
    let lt : i < length word = omega arith in
    let d = digit_value (get_or word i 0) in
    record {
      digits = grind (arith, common_steps);
      size = c.with_digit-size.ensures ∙ (ap (λ s. clamped_size number_limit (s * 10 + d)) c.loop-digit.invariant.size ∙ (clamped-digit number_limit (digits_value 10 (take i word)) d ∙ ap (clamped_size number_limit) (sym (digits_value_more 10 word i lt))));
    }
