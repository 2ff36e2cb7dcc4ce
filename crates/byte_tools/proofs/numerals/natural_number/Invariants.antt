use Rattle.std.proofs.Common.{◌≡◌, true, take}
use Rattle.std.specs.Char.{is_ascii_digit}
use Rattle.std.specs.List.{list_all}
use Rattle.std.specs.Str.Parse.{digits_value}
use Rattle.bounds_model.specs.Ranges.{number_limit}
use Rattle.byte_tools.specs.Clamps.{clamped_size}
use Rattle.byte_tools.proofs.numerals.natural_number.Given as goal

abbrev pub invariant-loop-digit : goal.invariant-loop-digit
invariant-loop-digit l = record {
  digits : list_all is_ascii_digit (take l.digit-index l.word) ≡ true;
  size : l.size ≡ clamped_size number_limit (digits_value 10 (take l.digit-index l.word));
}
