use Rattle.std.proofs.Common.{◌≡◌, true, take}
use Rattle.std.specs.Char.{is_ascii_digit}
use Rattle.std.specs.List.{list_all}
use Rattle.byte_tools.specs.Clamps.{clamped_size}
use Rattle.byte_tools.specs.LeadingDigits.{number_behind}
use Rattle.byte_tools.proofs.digits.cut_digits.Given as goal

abbrev pub invariant-digits : goal.invariant-digits
invariant-digits l = record {
  digits : list_all is_ascii_digit (take l.i l.text) ≡ true;
  size : clamped_size l.limit l.so_far ≡ clamped_size l.limit (number_behind l.fn.size (take l.i l.text));
}
