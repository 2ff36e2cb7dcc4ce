use Rattle.std.proofs.Common.{sym, subst, map, Err}
use Rattle.clap.specs.Words.{app_of, rows_of, found_of}
use Rattle.clap.specs.declared.parser.matches.ArgMatches.{ArgMatches}
use Rattle.command_line.specs.declared.fault.UsageFault.{UsageFault}
use Rattle.command_line.specs.Faults.{Finds}
use Rattle.command_line.specs.Parsing.{found_rows}
use Rattle.command_line.proofs.Parsed.{parsed, not_parsed}
use Rattle.command_line.proofs.parsing.parse.Goals as goal

pub returns-in-Ok : goal.returns-in-Ok
returns-in-Ok c =
    parsed (map (λ w. w.now) c.args.words.now) (app_of c.in_ok-command.field-0) c.in-Ok.matches c.in_ok-command.ensures c.in-Ok.ensures.matches c.in-Ok.ensures.kinds

pub returns-in-Err : goal.returns-in-Err
returns-in-Err c =
    let words = map (λ w. w.now) c.args.words.now in
    subst (λ (fault : UsageFault). Finds {T = ArgMatches} (λ m. rows_of (found_of m)) (Err fault) (found_rows words)) (sym c.fault.ensures)
    (not_parsed words (app_of c.in_ok-command.field-0) c.in-Err.error c.in_ok-command.ensures c.in-Err.ensures.kinds)
