use Rattle.std.proofs.Common.{◌≡◌, ◌∙◌, sym, ap, get_or, take, ◌+◌, ◌*◌, ◌<◌, length, true, arith}
use Rattle.std.specs.Char.{is_ascii_digit, digit_value}
use Rattle.std.specs.List.{list_all}
use Rattle.std.specs.Str.Parse.{digits_value}
use Rattle.std.proofs.lemmas.Int.Digits.{digits_value_more}
use Rattle.std.proofs.lemmas.Grind.{common_steps}
use Rattle.byte_tools.proofs.NumeralLaws.{few_digits}
use Rattle.byte_tools.proofs.digits.leading_number.Goals as goal

pub digits-preserved : goal.digits-preserved
digits-preserved c =
    let text = c.args.text.now in
    let count = c.digits.count in
    let lt : count < length text = omega arith in
    let d = digit_value (get_or text count 0) in
    let digits : list_all is_ascii_digit (take (count + 1) text) ≡ true = grind (arith, common_steps) in
    let size : c.followed_by-size.result ≡ digits_value 10 (take (count + 1) text) =
    c.followed_by-size.ensures ∙ (ap (λ s. s * 10 + d) c.digits.invariant.size ∙ sym (digits_value_more 10 text count lt)) in
    record {
      digits = digits;
      size = size;
      below = omega (arith, size, few_digits text (count + 1) (omega arith) digits);
    }
