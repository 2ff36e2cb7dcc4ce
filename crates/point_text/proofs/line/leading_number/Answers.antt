use Rattle.std.proofs.Common.{◌≡◌, ◌∙◌, sym, ap, inl, inr, true, nat_le, length, length-append, Some, SFits, w64, rules, arith}
use Rattle.std.proofs.lemmas.Bool.Decides.{nat_tests}
use Rattle.std.proofs.lemmas.Int.{to_z-of_z}
use Rattle.point_text.proofs.LeadingFields.{leading_some, leading_none}
use Rattle.point_text.proofs.line.leading_number.Goals as goal
use Rattle.point_text.proofs.line.leading_number.Goals.{then-rest-digits-via-then-rest-digits, then-rest-digits-via-else-rest-digits+then-not-ends_field}

pub returns-then-rest-digits : goal.returns-then-rest-digits
returns-then-rest-digits c =
    let cut = c.cut_digits-size.ensures in
    let none = leading_none c.args.text.now c.unsigned-negative.result.0 c.unsigned-negative.result.1.now cut.digits c.cut_digits-size.result.1.now c.unsigned-negative.ensures cut.text_is cut.are_digits cut.ends in
    elim c.then-rest-digits.branch [
      | then-rest-digits-via-then-rest-digits w ↦ none (inl w.if-rest-digits.true)
      | then-rest-digits-via-else-rest-digits+then-not-ends_field w ↦ none (inr (sym w.if-not-ends_field.ensures))
    ]

pub returns : goal.returns
returns c =
    let cut = c.cut_digits-size.ensures in
    let size = length-append cut.digits c.cut_digits-size.result.1.now in
    let whole = ap length cut.text_is in
    let other = c.if-rest-digits.false in
    let some : nat_le 1 (length cut.digits) ≡ true = grind (arith, nat_tests) in
    let leads =
    leading_some c.args.text.now c.unsigned-negative.result.0 c.unsigned-negative.result.1.now cut.digits c.cut_digits-size.result.1.now c.cut_digits-size.result.0 c.unsigned-negative.ensures cut.text_is cut.are_digits some
    cut.number (sym c.if-not-ends_field.ensures) in
    let fits : SFits w64 c.signed.result = search rules in
    (simp to_z-of_z (leads.0 ∙ ap Some (sym c.signed.ensures)), leads.1)
