use Rattle.std.proofs.Common.{sym, ◌∙◌}
use Rattle.std.proofs.lemmas.Bool.{not-false, not-true}
use Rattle.byte_tools.proofs.FirstIndices.{index_missing}
use Rattle.point_text.proofs.FieldCuts.{is_no_blank}
use Rattle.point_text.proofs.LeadingFields.{no_field, some_field, uncommented-none}
use Rattle.point_text.proofs.cuts.has_field.Goals as goal

pub returns-in-Some-clause-no : goal.returns-in-Some-clause-no
returns-in-Some-clause-no c none = no_field c.args.line.now c.in-Some.start (sym c.in-Some.is ∙ c.field_start.ensures.index) c.in-Some.ensures.within (not-false _ none)

pub returns-in-Some-clause-yes : goal.returns-in-Some-clause-yes
returns-in-Some-clause-yes c some = some_field c.args.line.now c.in-Some.start (sym c.in-Some.is ∙ c.field_start.ensures.index) c.in-Some.ensures.within (not-true _ some)

pub returns-in-None-clause-no : goal.returns-in-None-clause-no
returns-in-None-clause-no c none = uncommented-none c.args.line.now (index_missing is_no_blank c.args.line.now (sym c.in-None.is ∙ c.field_start.ensures.index))
