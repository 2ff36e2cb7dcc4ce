use Rattle.std.proofs.Common.{refl}
use Rattle.clap.specs.Words.{found_of}
use Rattle.command_line.proofs.Parsed.{word_found, given_found}
use Rattle.command_line.proofs.parsing.Given.of.Goals as goal

pub returns : goal.returns
returns c =
    let f = found_of c.args.matches.now in
    given_found f _ _ _ _ _ _ _ _ _ _ _ (word_found f c.get_str.result c.unwrap_or.result _ c.get_str.ensures c.unwrap_or.ensures refl) c.get_strs.ensures
    c.get_str-2.ensures c.get_str-3.ensures c.get_str-4.ensures c.get_str-5.ensures c.get_str-6.ensures c.get_str-7.ensures c.get_str-8.ensures
    c.get_str-9.ensures c.is_set.ensures
