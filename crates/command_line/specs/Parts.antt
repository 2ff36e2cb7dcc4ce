-- Parts of the table of options, for the functions that judge them.
use Rattle.std.specs.Prelude.{[], ◌∷◌}
use Rattle.std.specs.declared.option.Option.{Option}
use Rattle.std.specs.declared.option.Option.TheVariants.{Some}
use Rattle.bounds_model.specs.ErrorLines.{p_option, k_option, box_option, Cause}
use Rattle.command_line.specs.declared.kind.Kind.{Kind}
use Rattle.command_line.specs.Options.{Usage, unused, only_if, belongs_to, option_fault, first_cause}
use Rattle.command_line.specs.Parsing.{Given}

-- the first fault of the options that belong to kinds, where they are used so
abbrev pub first_of_kinds : Usage → Usage → Usage → Given → Option Cause
first_of_kinds p k box given = first_cause (option_fault p p_option given.p ∷ option_fault k k_option given.k ∷ option_fault box box_option given.box ∷ [])

-- where a question has no such option
abbrev pub plain_fault : Given → Option Cause
plain_fault given = first_of_kinds unused unused unused given

-- where a question is of this kind
abbrev pub kind_fault : Kind → Given → Option Cause
kind_fault kind given =
    first_of_kinds (only_if (belongs_to p_option (Some kind))) (only_if (belongs_to k_option (Some kind))) (only_if (belongs_to box_option (Some kind))) given
