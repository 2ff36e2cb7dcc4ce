use Rattle.std.proofs.Common.{◌≡◌, ◌∙◌, ◌++◌, ◌∷◌, ◌+◌, ◌-◌, ◌==◌, sym, ap, take, drop, length, length-drop, arith, rules}
use Rattle.std.proofs.lemmas.List.{take_all}
use Rattle.byte_tools.proofs.FirstIndices.{before_index, cut_at_index, all_before}
use Rattle.point_text.proofs.Pieces.{reads_line, reads_rest}
use Rattle.point_text.proofs.PassedLines.{failed_keeps}
use Rattle.point_text.proofs.reader.Reader.feed.Goals as goal

pub lines-init : goal.lines-init
lines-init c = c.pass_lines-rest.ensures

pub end_line-requires-clause-within : goal.end_line-requires-clause-within
end_line-requires-clause-within c = before_index (λ b. b == 10) c.lines.rest.now c.in-Some.index (sym c.in-Some.is ∙ c.index_of.ensures.index)

pub lines-preserved : goal.lines-preserved
lines-preserved c =
    let rest = c.lines.rest.now in
    let index = c.in-Some.index in
    let is = sym c.in-Some.is ∙ c.index_of.ensures.index in
    let whole : take (length rest - (index + 1)) (drop (index + 1) rest) ≡ drop (index + 1) rest =
    take_all (length rest - (index + 1)) (drop (index + 1) rest) (let size = length-drop (index + 1) rest in omega (arith, size)) in
    let cut = cut_at_index 10 rest index is c.in-Some.ensures.within in
    reads_line c.args.self.now c.lines.self c.end_line.new.self c.args.piece.now rest (take index rest) _ c.lines.invariant (cut ∙ ap (λ ys. take index rest ++ 10 ∷ ys) (sym whole))
    c.end_line.ensures.taken c.end_line.ensures.stands c.end_line.ensures.stays

pub go_on-requires-clause-within : goal.go_on-requires-clause-within
go_on-requires-clause-within c = all_before (λ b. b == 10) c.lines.rest.now c.in_default.ensures.index

pub returns-then-has_failed-clause-memory : goal.returns-then-has_failed-clause-memory
returns-then-has_failed-clause-memory c shape bytes more is =
    let read = reads_rest c.args.self.now c.lines.self c.go_on.new.self c.args.piece.now c.lines.rest.now c.lines.invariant c.go_on.ensures.stands shape bytes is in
    failed_keeps c.go_on.new.self shape (bytes ++ c.args.piece.now) more (search rules) read
