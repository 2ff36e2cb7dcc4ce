use Rattle.std.proofs.Common.{◌≡◌, ◌++◌, ◌∷◌, [], ◌∙◌, ap, take, codes}
use Rattle.point_text.specs.Fields.{letters}
use Rattle.point_text.proofs.Bytewise.{write_one}
use Rattle.point_text.proofs.field_in_hand.with_word.Goals as goal

pub returns-in-Some : goal.returns-in-Some
returns-in-Some c some within =
    let digit = c.in-Some.ensures in
    let first : take c.args.seen (letters c.args.word) ≡ codes "-" = ap (λ w. take c.args.seen (letters w)) c.in-Separator.is ∙ ap (λ n. take n (codes "---")) c.if-seen-eq1.true in
    (c.args.byte ∷ [], ap (λ bs. bs ++ c.args.byte ∷ []) first, write_one c.args.byte c.in-Some.size digit.0 digit.1 digit.2)
