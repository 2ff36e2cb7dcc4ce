use Rattle.std.proofs.Common.{map}
use Rattle.clap.specs.Words.{rows_of, found_of}
use Rattle.clap.specs.declared.parser.matches.ArgMatches.{ArgMatches}
use Rattle.command_line.specs.Given.{meant_given}
use Rattle.command_line.proofs.Judged.{task_of-found, judged_task, judged_fault, unfound_exit}
use Rattle.command_line.proofs.words.read_words.Goals as goal

pub returns-in_err-matches-clause-fault : goal.returns-in_err-matches-clause-fault
returns-in_err-matches-clause-fault c =
    unfound_exit {T = ArgMatches} (λ m. rows_of (found_of m)) (map (λ w. w.now) c.args.words.now) c.in_err-matches.field-0.0 c.from_residual.result c.from_residual.ensures.1
    c.in_err-matches.ensures

pub returns-clause-task : goal.returns-clause-task
returns-clause-task c =
    let words = map (λ w. w.now) c.args.words.now in
    let given = meant_given c.of.result in
    judged_task words given c.judge.result (task_of-found words (rows_of (found_of c.in_ok-matches.matches)) given c.in_ok-matches.ensures c.of.ensures) c.judge.ensures.task

pub returns-clause-fault : goal.returns-clause-fault
returns-clause-fault c =
    let words = map (λ w. w.now) c.args.words.now in
    let given = meant_given c.of.result in
    judged_fault words given c.judge.result (task_of-found words (rows_of (found_of c.in_ok-matches.matches)) given c.in_ok-matches.ensures c.of.ensures) c.judge.ensures.task
