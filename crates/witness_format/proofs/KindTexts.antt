-- A text is read line by line as an answer of the kind that its first line names.
use Rattle.std.proofs.Common.{◌≡◌, ◌∙◌, refl, ap, subst, ℕ, List, [], ◌∷◌, Result, Ok, Err}
use Rattle.bounds_model.specs.Fractions.{Fraction}
use Rattle.bounds_model.specs.Answers.{Answer}
use Rattle.bounds_model.specs.AnswerText.Formats.{Refusal, ◌>>=◌, Unread, Part, PartValue, counts_after, part_at, Body, body_at}
use Rattle.bounds_model.specs.Reports.{Report}
use Rattle.bounds_model.specs.AnswerText.Kinds.{Kind}
use Rattle.bounds_model.specs.AnswerText.Heads.{Format, Head, head_at}
use Rattle.bounds_model.specs.AnswerText.Reading.{report_behind, all_lines, report_of, answer_in}
use Rattle.answers.specs.declared.report.Report as code
use Rattle.answer_lines.specs.declared.fault.ReadFault.{ReadFault}
use Rattle.answers.specs.Answers as seen
use Rattle.answer_lines.specs.declared.fault.ReadFault.TheVariants.{BadAnswer, BigNumber, OutOfMemory}
use Rattle.witness_format.specs.Kinds.{body_of, closed, report_by}
use Rattle.answer_lines.specs.Outcomes.{RefusesOr, ReadsOr}

-- ---- part by part

-- a part, and the parts behind it
pub part_read : (part : Part) (parts : List Part) (counts : List ℕ) (text : Unread) (value : PartValue part) (after : Unread) (others : Body parts) (end : Unread) → part_at part counts text ≡ Ok (value, after)
    → body_at parts (counts_after part value counts) after ≡ Ok (others, end) → body_at (part ∷ parts) counts text ≡ Ok ((value, others), end)
part_read part parts counts text value after others end first rest =
    ap (λ (r : Result (PartValue part × Unread) Refusal). r >>= λ x. ◌>>=◌ {B = Body (part ∷ parts) × Unread} (body_at parts (counts_after part x.0 counts) x.1) (λ y. Ok ((x.0, y.0), y.1))) first
    ∙ ap (λ (r : Result (Body parts × Unread) Refusal). ◌>>=◌ {B = Body (part ∷ parts) × Unread} r (λ y. Ok ((value, y.0), y.1))) rest

-- the answer of a body
pub body_read : (kind : Kind) (size : Fraction) (text : Unread) (body : Body kind.body) (end : Unread) (answer : Answer) → body_at kind.body [] text ≡ Ok (body, end) → kind.answer size body ≡ answer → body_of kind size text ≡ Ok (answer, end)
body_read kind size text body end answer read is =
    ap (λ (r : Result (Body kind.body × Unread) Refusal). ◌>>=◌ {B = Answer × Unread} r (λ b. Ok (kind.answer size b.0, b.1))) read ∙ ap (λ (a : Answer). Ok (a, end)) is

-- ---- all lines

-- the lines behind a body
by_body : (head : Head) (read : Result (Body head.kind.body × Unread) Refusal)
    → (◌>>=◌ {B = Answer × Unread} read (λ body. Ok (head.kind.answer head.size body.0, body.1)) >>= λ answer. closed head.scale answer.0 answer.1) ≡ (read >>= λ body. closed head.scale (head.kind.answer head.size body.0) body.1)
by_body head (Ok body) = refl
by_body head (Err refusal) = refl

-- the lines behind a head
by_head : (read : Result (Head × Unread) Refusal)
    → (read >>= λ head. body_of head.0.kind head.0.size head.1 >>= λ answer. closed head.0.scale answer.0 answer.1) ≡ (read >>= λ head. report_behind head.0 head.1)
by_head (Ok head) = by_body head.0 (body_at head.0.kind.body [] head.1)
by_head (Err refusal) = refl

-- what is read line by line is the reading
pub reads_report : (wants : Type 0) (formats : List Format) (known : List Kind) (bytes : List ℕ) (result : Result code.Report ReadFault) → ReadsOr wants seen.report_of result (report_by formats known (all_lines bytes)) → ReadsOr wants seen.report_of result (report_of formats known bytes)
reads_report wants formats known bytes result reads = subst (ReadsOr wants seen.report_of result) (by_head (head_at formats known (all_lines bytes))) reads

-- the answer of what is read
pub reads_answer : (wants : Type 0) (read : Result Report Refusal) (report : code.Report) → read ≡ Ok (seen.report_of report) → answer_in read ≡ Ok (seen.answer_of report.answer)
reads_answer wants read report e = ap answer_in e

-- a refusal of a report is one of its answer
pub refuses_answer : (wants : Type 0) (fault : ReadFault) (read : Result Report Refusal) → RefusesOr wants fault read → RefusesOr wants fault (answer_in read)
refuses_answer wants (BadAnswer line) read e = ap answer_in e
refuses_answer wants (BigNumber line) read e = ap answer_in e
refuses_answer wants OutOfMemory read e = e
