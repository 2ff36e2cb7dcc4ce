-- What the code has of the words, in the words of the definitions.
use Rattle.std.specs.Prelude.{ℕ, List, [], map, option_map, unwrap_or}
use Rattle.std.specs.Borrow.{Bor}
use Rattle.std.specs.declared.option.Option.{Option}
use Rattle.command_line.specs.Parsing as model
use Rattle.command_line.specs.declared.parsing.Given.{Given}

-- the text, if there is one
abbrev pub text_within : Option (Bor (List ℕ)) → Option (List ℕ)
text_within value = option_map (λ text. text.now) value

-- what the words give
abbrev pub meant_given : Given → model.Given
meant_given given = record {
  command = given.command.now;
  files = unwrap_or (option_map (λ names. map (λ name. name.now) names.now) given.files) [];
  kind = text_within given.kind;
  form = text_within given.form;
  p = text_within given.p;
  k = text_within given.k;
  box = text_within given.frame;
  seed = text_within given.seed;
  count = text_within given.count;
  brief = given.brief;
}
