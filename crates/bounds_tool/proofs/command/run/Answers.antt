use Rattle.std.proofs.Common.{◌∙◌, inl, sym}
use Rattle.bounds_tool.specs.Causes.{meant}
use Rattle.bounds_tool.specs.Run.{texts}
use Rattle.bounds_tool.proofs.Endings.{IsRefusal-cause, TaskFault-cause, MayEnd-cause, MayEnd-output, wrote_prefix, wrote_done}
use Rattle.command_line.specs.Words.{task_of}
use Rattle.bounds_tool.proofs.OpenedFiles.{continues_of}
use Rattle.bounds_tool.proofs.command.run.Goals as goal

pub returns-in-Ok-write_all-clause-complete : goal.returns-in-Ok-write_all-clause-complete
returns-in-Ok-write_all-clause-complete g c =
    MayEnd-output _ _ (texts c.args.words.now) (g.F.Files.state c.args.files.now) c.in-Ok.output c.status.result c.in-Ok.ensures.output c.status.ensures

pub returns-in-Ok-clause-prefix : goal.returns-in-Ok-clause-prefix
returns-in-Ok-clause-prefix g c = λ e.
    wrote_prefix (texts c.args.words.now) (g.F.Files.state c.args.files.now) c.in-Ok.output (g.O.Sink.state c.args.out.now) (g.O.Sink.state c.write_all.new.out) c.as_slice.result.now c.as_slice.ensures c.in-Ok.ensures.output c.in-Err-write_all.ensures.prefix

pub returns-clause-input : goal.returns-clause-input
returns-clause-input g c = λ e.
    IsRefusal-cause g.F.Files.last_count (texts c.args.words.now) (g.F.Files.state c.args.files.now) (g.F.Files.state c.output.new.files) (meant c.in-Err.cause) c.in-Err.ensures.cause (sym c.give_up-in-Err.ensures.status ∙ e)

pub returns-clause-read : goal.returns-clause-read
returns-clause-read g c = λ e.
    TaskFault-cause g.F.Files.last_count (texts c.args.words.now) (g.F.Files.state c.args.files.now) (g.F.Files.state c.output.new.files) (meant c.in-Err.cause) c.in-Err.ensures.cause (sym c.give_up-in-Err.ensures.status ∙ e)

pub returns-clause-complete : goal.returns-clause-complete
returns-clause-complete g c =
    MayEnd-cause _ g.F.Files.last_count (texts c.args.words.now) (g.F.Files.state c.args.files.now) (g.F.Files.state c.output.new.files) (meant c.in-Err.cause) c.give_up-in-Err.result c.in-Err.ensures.cause c.give_up-in-Err.ensures.status

pub returns-in-Ok-write_all-clause-continues : goal.returns-in-Ok-write_all-clause-continues
returns-in-Ok-write_all-clause-continues g c = continues_of (task_of (texts c.args.words.now)) (g.F.Files.state c.args.files.now) (g.F.Files.state c.output.new.files) c.in-Ok.ensures.files.reads

pub returns-in-Ok-clause-continues : goal.returns-in-Ok-clause-continues
returns-in-Ok-clause-continues g c = continues_of (task_of (texts c.args.words.now)) (g.F.Files.state c.args.files.now) (g.F.Files.state c.output.new.files) c.in-Ok.ensures.files.reads

pub returns-clause-continues : goal.returns-clause-continues
returns-clause-continues g c = continues_of (task_of (texts c.args.words.now)) (g.F.Files.state c.args.files.now) (g.F.Files.state c.output.new.files) c.in-Err.ensures.files.reads

pub returns-in-Ok-write_all-clause-done : goal.returns-in-Ok-write_all-clause-done
returns-in-Ok-write_all-clause-done g c = λ e.
    wrote_done (texts c.args.words.now) (g.F.Files.state c.args.files.now) c.in-Ok.output (g.O.Sink.state c.args.out.now) (g.O.Sink.state c.write_all.new.out) c.as_slice.result.now c.status.result
    c.as_slice.ensures c.in-Ok.ensures.output c.in-Ok-write_all.ensures.written c.status.ensures e

pub returns-clause-told : goal.returns-clause-told
returns-clause-told g c = λ not_done not_no. record {
  cause = meant c.in-Err.cause;
  ends = sym c.give_up-in-Err.ensures.status;
  comes = inl c.in-Err.ensures.cause;
  told = c.give_up-in-Err.ensures.told;
}

-- ---- the files

pub returns-in-Ok-write_all-clause-most : goal.returns-in-Ok-write_all-clause-most
returns-in-Ok-write_all-clause-most g c = c.in-Ok.ensures.files.most

pub returns-in-Ok-clause-most : goal.returns-in-Ok-clause-most
returns-in-Ok-clause-most g c = c.in-Ok.ensures.files.most

pub returns-clause-most : goal.returns-clause-most
returns-clause-most g c = c.in-Err.ensures.files.most

pub returns-in-Ok-write_all-clause-reads : goal.returns-in-Ok-write_all-clause-reads
returns-in-Ok-write_all-clause-reads g c = c.in-Ok.ensures.files.reads

pub returns-in-Ok-clause-reads : goal.returns-in-Ok-clause-reads
returns-in-Ok-clause-reads g c = c.in-Ok.ensures.files.reads

pub returns-clause-reads : goal.returns-clause-reads
returns-clause-reads g c = c.in-Err.ensures.files.reads

pub returns-in-Ok-write_all-clause-to_its_end : goal.returns-in-Ok-write_all-clause-to_its_end
returns-in-Ok-write_all-clause-to_its_end g c = λ _. c.in-Ok.ensures.files.to_its_end

pub returns-in-Ok-clause-to_its_end : goal.returns-in-Ok-clause-to_its_end
returns-in-Ok-clause-to_its_end g c = λ _. c.in-Ok.ensures.files.to_its_end

pub returns-in-Ok-write_all-clause-no_fault : goal.returns-in-Ok-write_all-clause-no_fault
returns-in-Ok-write_all-clause-no_fault g c = λ _. c.in-Ok.ensures.files.no_fault tt

pub returns-in-Ok-clause-no_fault : goal.returns-in-Ok-clause-no_fault
returns-in-Ok-clause-no_fault g c = λ _. c.in-Ok.ensures.files.no_fault tt

pub returns-clause-no_fault : goal.returns-clause-no_fault
returns-clause-no_fault g c = λ other. c.in-Err.ensures.files.no_fault (λ fault. other (c.give_up-in-Err.ensures.status ∙ fault))
