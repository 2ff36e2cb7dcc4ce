use Rattle.std.proofs.Common.{◌∙◌, refl, sym, ap}
use Rattle.bounds_model.specs.Fractions.{lowest_form, multiple}
use Rattle.bounds_model.specs.AnswerText.Heads.{size_within}
use Rattle.text_laws.proofs.AnswerTexts.HeadLaws.{size_fits, within_again, past_refused}
use Rattle.witness_format.proofs.head.own_size.Goals as goal

pub returns-in-Some : goal.returns-in-Some
returns-in-Some c =
    let units = ap (λ u. lowest_form (multiple u c.args.whole)) c.size_units.ensures.units in
    ap (size_within c.args.number) (sym (c.in-Some.ensures.value ∙ units)) ∙ within_again c.args.number c.in-Some.size (size_fits c.in-Some.size c.in-Some.ensures.lowest)

pub returns-in-None : goal.returns-in-None
returns-in-None c =
    let units = ap (λ u. lowest_form (multiple u c.args.whole)) c.size_units.ensures.units in
    ap (size_within c.args.number) (sym units) ∙ past_refused c.args.number (lowest_form (multiple c.size_units.result c.args.whole)) (c.in-None.ensures.none.0 refl)
