use Rattle.std.proofs.Common.{◌≡◌, ◌++◌, ◌∷◌, [], refl, false, true, ap, inl, inr, arith}
use Rattle.std.proofs.lemmas.Bool.Decides.{nat_tests}
use Rattle.bounds_model.specs.PointText.{is_blank}
use Rattle.point_text.specs.InHand.{filled}
use Rattle.point_text.proofs.Splits.{split_joined, split_parted}
use Rattle.point_text.proofs.line_in_hand.ContentInHand.with.Goals as goal

pub returns-then-byte-eq9 : goal.returns-then-byte-eq9
returns-then-byte-eq9 c bytes is =
    let (whole, last, parts, fields, field) = is in
    let blank : is_blank c.args.byte ≡ true = elim c.if-byte-eq9.either [ inl space ↦ rw space refl | inr tab ↦ rw tab.1 refl ] in
    (whole ++ last ∷ [], [], split_parted is_blank bytes c.args.byte whole last parts blank, rw (ap filled parts) at (c.end.ensures bytes is), refl)

pub returns-else-byte-eq9 : goal.returns-else-byte-eq9
returns-else-byte-eq9 c bytes is =
    let (whole, last, parts, fields, field) = is in
    let space = c.if-byte-eq9.false.0 in
    let tab = c.if-byte-eq9.false.1 in
    let blank : is_blank c.args.byte ≡ false = grind (arith, nat_tests) in
    (whole, last ++ c.args.byte ∷ [], split_joined is_blank bytes c.args.byte whole last parts blank, fields, c.with.ensures last field)
