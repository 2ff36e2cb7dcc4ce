use Rattle.std.proofs.Common.{◌≡◌, true, take, ◌<◌, ◌^◌}
use Rattle.std.specs.Char.{is_ascii_digit}
use Rattle.std.specs.List.{list_all}
use Rattle.std.specs.Str.Parse.{digits_value}
use Rattle.byte_tools.proofs.digits.leading_number.Given as goal

abbrev pub invariant-digits : goal.invariant-digits
invariant-digits l = record {
  digits : list_all is_ascii_digit (take l.count l.text) ≡ true;
  size : l.size ≡ digits_value 10 (take l.count l.text);
  below : l.size < 10 ^ 18;
}
