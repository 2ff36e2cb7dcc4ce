-- A chord as the fields of a line.
use Rattle.std.specs.Prelude.{pos}
use Rattle.bounds_model.specs.AnswerText.LineFormats.{Values}
use Rattle.bounds_model.specs.AnswerText.Kinds.{chord_fields}
use Rattle.answers.specs.declared.parallelograms.Chord.{Chord}

-- three points, two weights and a factor
abbrev pub chord_values : Chord → Values chord_fields
chord_values k = (k.a, (k.b, (k.c, (pos k.beta, (pos k.gamma, (k.k, tt))))))
