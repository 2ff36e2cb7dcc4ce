-- The laws of the answer text, for all kinds and both formats.
use Rattle.std.proofs.Common.{◌≡◌, ℕ, ◌^◌, ◌<◌, ◌≤◌, arith, length, Bool, true, false, List, [], ◌∷◌, ◌++◌, refl, sym, ap, subst, ◌∙◌, Ok}
use Rattle.std.specs.Prelude.{Option, Some, None, ◌==◌, cond}
use Rattle.std.specs.List.{concat, AllByRecursion}
use Rattle.std.proofs.lemmas.Bool.{eqb-true, eq-eqb, false_from_ne_true}
use Rattle.std.proofs.lemmas.List.{append-nil}
use Rattle.bounds_model.specs.Fractions.{lowest_form, over}
use Rattle.bounds_model.specs.Ranges.{IsFraction}
use Rattle.bounds_model.specs.Answers.{Answer, circle, sphere, rectangle, parallelogram, strip, annulus, empty, kgon, distance, centres, furthest, four, shell, KeepsRanges, size_of}
use Rattle.bounds_model.specs.Reports.{Report, ReportRanges, full_size, power}
use Rattle.bounds_model.specs.AnswerText.Lines.{lines_of}
use Rattle.bounds_model.specs.AnswerText.Formats.{◌>>=◌}
use Rattle.bounds_model.specs.AnswerText.Kinds.{Kind, kinds}
use Rattle.bounds_model.specs.AnswerText.Heads.{Format, plain, scaled, Head, whole_size, Named, named_by, head_of}
use Rattle.bounds_model.specs.AnswerText.Reading.{ended, report_behind, all_lines, report_of, answer_in, reading_of}
use Rattle.bounds_model.specs.AnswerText.Spelling.{spelling, Spells, report_bytes, SpellsReport}
use Rattle.bounds_model.specs.AnswerText.Spelling as spelled
use Rattle.bounds_model.specs.AnswerText.Written.{text_bytes, kind_bytes, plain_head}
use Rattle.text_laws.specs.Laws.{ReadsWhatIsSpelled, SpellsOne, BeginsNoOther, IsSpelledShort, ReadsReports, SpellsOneReport, BeginsNoOtherReport, AreReportsShort}
use Rattle.text_laws.proofs.AnswerTexts.LineLaws.{concat-lines_of}
use Rattle.text_laws.proofs.AnswerTexts.FormLaws.{bind_ok, read_is}
use Rattle.text_laws.proofs.AnswerTexts.RangeLaws.{line_fits}
use Rattle.text_laws.proofs.AnswerTexts.SizeLaws.{over_one, one_power}
use Rattle.text_laws.proofs.AnswerTexts.HeadLaws.{HeadFits, scale_range, size_range, size_fits, found_named}
use Rattle.text_laws.proofs.AnswerTexts.AnswerLaws.{text_length, Found, text_again, text_back, ended_back, report_with, KindLaw, Written, spelled_is, report_is, named_both, named_plain}
use Rattle.text_laws.proofs.AnswerTexts.BallKinds.{circle_law, circle_written, sphere_law, sphere_written}
use Rattle.text_laws.proofs.AnswerTexts.PairKinds.{annulus_law, annulus_written, distance_law, distance_written, centres_law, centres_written}
use Rattle.text_laws.proofs.AnswerTexts.FanKinds.{rectangle_law, rectangle_written, strip_law, strip_written}
use Rattle.text_laws.proofs.AnswerTexts.ParallelogramKind.{parallelogram_law, parallelogram_written}
use Rattle.text_laws.proofs.AnswerTexts.EmptyKind.{empty_law, empty_written}
use Rattle.text_laws.proofs.AnswerTexts.KgonKind.{kgon_law, kgon_written}
use Rattle.text_laws.proofs.AnswerTexts.LaterKinds.{furthest_law, furthest_written, four_law, four_written, shell_law, shell_written}

-- each answer that keeps its ranges is one of its kind
pub written : (answer : Answer) → KeepsRanges answer → Written answer
written (circle a) ranges = circle_written a ranges
written (sphere a) ranges = sphere_written a ranges
written (rectangle a) ranges = rectangle_written a ranges
written (parallelogram a) ranges = parallelogram_written a ranges
written (strip a) ranges = strip_written a ranges
written (annulus a) ranges = annulus_written a ranges
written (empty a) ranges = empty_written a ranges
written (kgon a) ranges = kgon_written a ranges
written (distance a) ranges = distance_written a ranges
written (centres a) ranges = centres_written a ranges
written (furthest a) ranges = furthest_written a ranges
written (four a) ranges = four_written a ranges
written (shell a) ranges = shell_written a ranges

-- the size of an answer that keeps its ranges
pub kept_size : (answer : Answer) → KeepsRanges answer → IsFraction (size_of answer)
kept_size answer ranges =
    let w = written answer ranges in
    let is : w.size ≡ size_of answer = sym (w.law.size w.size w.body) ∙ ap size_of w.is in
    subst IsFraction is (size_range w.size w.size_fits)

-- all kinds keep the laws
kind_laws : AllByRecursion KindLaw kinds
kind_laws = (circle_law, (sphere_law, (rectangle_law, (strip_law, (parallelogram_law, (annulus_law, (empty_law, (kgon_law, (distance_law, (centres_law, (furthest_law, (four_law, (shell_law, tt)))))))))))))

-- ---- a report and its head

-- the head of an answer at a scale
abbrev head_at_scale : {answer : Answer} → ℕ → Written answer → Head
head_at_scale scale w = record { kind = w.kind; scale = scale; size = w.size }

-- the size in whole units is that of its head
whole_is : (r : Report) (w : Written r.answer) → full_size r ≡ whole_size (head_at_scale r.scale w)
whole_is r w = λ i. lowest_form (over (r.scale ^ power_path i) (size_path i))
  where
    power_path : power r.answer ≡ w.kind.power
    power_path = ap power (sym w.is) ∙ w.law.power w.size w.body

    size_path : size_of r.answer ≡ w.size
    size_path = ap size_of (sym w.is) ∙ w.law.size w.size w.body

-- the head of a report that keeps its ranges is such as its format says
report_head : (r : Report) (w : Written r.answer) → ReportRanges r → HeadFits (spelled.format_of r.scale) (head_at_scale r.scale w)
report_head r w ranges = by_test (r.scale == 1) refl
  where
    by_test : (t : Bool) → (r.scale == 1) ≡ t → HeadFits (cond t plain scaled) (head_at_scale r.scale w)
    by_test true test = (eqb-true r.scale 1 test, w.size_fits)
    by_test false test =
        let other : r.scale ≡ 1 → ⊥ = λ one. apart (sym test ∙ eq-eqb r.scale 1 one) in
        let from : 2 ≤ r.scale = at_least r.scale ranges.scale_from other in
        (line_fits _ (r.scale, tt) refl ((from, ranges.scale_to), tt), size_fits _ (subst IsFraction (whole_is r w) ranges.size), w.size_fits)
      where
        apart : ◌≡◌ {A = Bool} false true → ⊥
        apart e = cc

        at_least : (s : ℕ) → 1 ≤ s → (s ≡ 1 → ⊥) → 2 ≤ s
        at_least s some other = omega (arith, other)

-- the bytes of a report are those of its head and its body
report_text : (r : Report) (w : Written r.answer) → report_bytes r ≡ text_bytes (spelled.format_of r.scale) (head_at_scale r.scale w) w.body
report_text r w = ap (λ (a : Answer). report_bytes (record { scale = r.scale; answer = a })) (sym w.is) ∙ report_is w.kind r.scale w.size w.body w.law

-- what a report's spelling reads as, whatever follows
report_again : (r : Report) (more : List ℕ) → ReportRanges r → (m : ℕ) × (report_of (plain ∷ scaled ∷ []) kinds (report_bytes r ++ more) ≡ ended r m (lines_of more))
report_again r more ranges =
    let w = written r.answer ranges.answer in
    let format = spelled.format_of r.scale in
    let head = head_at_scale r.scale w in
    let again = text_again (plain ∷ scaled ∷ []) kinds format head w.body more w.law.sound (λ lines. named_both format w.kind lines w.law) (report_head r w ranges) w.body_fits in
    let is : report_with head w.body ≡ r = ap (λ (a : Answer). let s : Report = record { scale = r.scale; answer = a } in s) w.is in (
      again.0,
      ap (λ (x : List ℕ). report_of (plain ∷ scaled ∷ []) kinds (x ++ more)) (report_text r w) ∙ again.1 ∙ ap (λ (s : Report). ended s again.0 (lines_of more)) is,
    )

-- ---- an answer

-- what an answer's spelling reads as, whatever follows
answer_again : (answer : Answer) (more : List ℕ) → KeepsRanges answer → (m : ℕ) × (report_of (plain ∷ []) kinds (spelling answer ++ more) ≡ ended (record { scale = 1; answer = answer }) m (lines_of more))
answer_again answer more ranges =
    let w = written answer ranges in
    let head = plain_head w.kind w.size in
    let again = text_again (plain ∷ []) kinds plain head w.body more w.law.sound (λ lines. named_plain w.kind lines w.law) (refl, w.size_fits) w.body_fits in
    let text : spelling answer ≡ kind_bytes w.kind w.size w.body = ap spelling (sym w.is) ∙ spelled_is w.kind w.size w.body w.law in (
      again.0,
      ap (λ (x : List ℕ). report_of (plain ∷ []) kinds (x ++ more)) text ∙ again.1 ∙ ap (λ (a : Answer). ended (record { scale = 1; answer = a }) again.0 (lines_of more)) w.is,
    )

-- the spelling of an answer reads as it
read_again : (answer : Answer) (bytes : List ℕ) → Spells bytes answer → reading_of kinds bytes ≡ Ok answer
read_again answer bytes s =
    let again = answer_again answer [] s.ranges in
    ap (λ (x : List ℕ). reading_of kinds x) (s.spelled ∙ sym (append-nil (spelling answer))) ∙ ap answer_in again.1

-- the spelling of a report reads as it
report_read_again : (r : Report) (bytes : List ℕ) → SpellsReport bytes r → report_of (plain ∷ scaled ∷ []) kinds bytes ≡ Ok r
report_read_again r bytes s =
    let again = report_again r [] s.ranges in
    ap (λ (x : List ℕ). report_of (plain ∷ scaled ∷ []) kinds x) (s.spelled ∙ sym (append-nil (report_bytes r))) ∙ again.1

-- ---- what is read is spelled

-- what was read of kinds that keep the laws
pub record Back (Q : Format → Type 0) (bytes : List ℕ) (report : Report) : Type 0 where
  pub named : Named
  pub format : Q named.format
  pub law : KindLaw named.kind
  pub found : Found named bytes report

-- whatever formats and kinds are known, a text that reads as a report is of one of them
known_back : (Q : Format → Type 0) (formats : List Format) (known : List Kind) (bytes : List ℕ) (report : Report) → AllByRecursion Q formats → AllByRecursion KindLaw known → report_of formats known bytes ≡ Ok report → Back Q bytes report
known_back Q formats known bytes report qs laws e = found_back (named_by formats known (all_lines bytes)) refl e
  where
    found_back : (found : Option Named) → named_by formats known (all_lines bytes) ≡ found → (head_of found (all_lines bytes) >>= λ h. report_behind h.0 h.1) ≡ Ok report → Back Q bytes report
    found_back None is f = absurd cc
    found_back (Some named) is f =
        let both = found_named Q KindLaw formats known (all_lines bytes) named qs laws is in
        record { named = named; format = both.0; law = both.1; found = subst (λ (x : List ℕ). Found named x report) (concat-lines_of bytes) (text_back named (all_lines bytes) report both.1.sound f) }

-- a report that was read keeps its ranges
found_ranges : (named : Named) (bytes : List ℕ) (report : Report) → KindLaw named.kind → Found named bytes report → ReportRanges report
found_ranges named bytes report law found = subst ReportRanges found.is (by_format named.format found.head_fits)
  where
    head-law : KindLaw found.head.kind
    head-law = subst KindLaw (sym found.kind_is) law

    read-report : Report
    read-report = report_with found.head found.body

    size-is : full_size read-report ≡ whole_size found.head
    size-is = λ i. lowest_form (over (found.head.scale ^ head-law.power found.head.size found.body i) (head-law.size found.head.size found.body i))

    by_format : (format : Format) → HeadFits format found.head → ReportRanges read-report
    by_format plain fits =
        let range = size_range found.head.size fits.1 in
        let whole : full_size read-report ≡ found.head.size = size-is ∙ over_one found.head.size (found.head.scale ^ found.head.kind.power) (ap (λ (s : ℕ). s ^ found.head.kind.power) fits.0 ∙ one_power found.head.kind.power) range.lowest in
        record {
          scale_from = omega (arith, fits.0);
          scale_to = omega (arith, fits.0);
          answer = head-law.ranges found.head.size found.body fits.1 found.body_fits;
          size = subst IsFraction (sym whole) range;
        }
    by_format scaled fits =
        let range = scale_range found.head.scale fits.0 in
        record {
          scale_from = omega (arith, range.0);
          scale_to = range.1;
          answer = head-law.ranges found.head.size found.body fits.2 found.body_fits;
          size = subst IsFraction (sym size-is) (size_range (whole_size found.head) fits.1);
        }

-- a text that was read as a report spells it
found_spells : (named : Named) (bytes : List ℕ) (report : Report) → KindLaw named.kind → Found named bytes report → SpellsReport bytes report
found_spells named bytes report law found = record {
  ranges = found_ranges named bytes report law found;
  spelled = found.text ∙ ap (λ (f : Format). text_bytes f found.head found.body) (format_is named.format found.head_fits) ∙ sym (report_is found.head.kind found.head.scale found.head.size found.body head-law) ∙ ap report_bytes found.is;
}
  where
    head-law : KindLaw found.head.kind
    head-law = subst KindLaw (sym found.kind_is) law

    format_is : (format : Format) → HeadFits format found.head → format ≡ spelled.format_of found.head.scale
    format_is plain fits = ap spelled.format_of (sym fits.0)
    format_is scaled fits =
        let range = scale_range found.head.scale fits.0 in
        sym (ap (λ (t : Bool). cond t plain scaled) (other found.head.scale range.0))
      where
        other : (s : ℕ) → 2 ≤ s → (s == 1) ≡ false
        other s from = false_from_ne_true (s == 1) (λ e. one_is_small (eqb-true s 1 e))
          where
            one_is_small : s ≡ 1 → ⊥
            one_is_small e = omega (arith, from)

-- a text that reads as a report spells it
report_read_back : (bytes : List ℕ) (report : Report) → report_of (plain ∷ scaled ∷ []) kinds bytes ≡ Ok report → SpellsReport bytes report
report_read_back bytes report e =
    let back = known_back (λ f. Unit {0}) (plain ∷ scaled ∷ []) kinds bytes report (tt, (tt, tt)) kind_laws e in
    found_spells back.named bytes report back.law back.found

-- a text in whole units that reads as an answer spells it, whatever kinds are known
pub answer_back : (known : List Kind) (bytes : List ℕ) (answer : Answer) → AllByRecursion KindLaw known → reading_of known bytes ≡ Ok answer → Spells bytes answer
answer_back known bytes answer laws e =
    let read = bind_ok (report_of (plain ∷ []) known bytes) (λ r. Ok r.answer) answer e in
    let back = known_back (λ f. f ≡ plain) (plain ∷ []) known bytes read.0 (refl, tt) laws read.1 in
    let found = back.found in
    let head-law : KindLaw found.head.kind = subst KindLaw (sym found.kind_is) back.law in
    let fits : HeadFits plain found.head = subst (λ (f : Format). HeadFits f found.head) back.format found.head_fits in
    let is : found.head.kind.answer found.head.size found.body ≡ answer = ap (λ (r : Report). r.answer) found.is ∙ read_is read.0.answer answer read.2 in
    let text : bytes ≡ kind_bytes found.head.kind found.head.size found.body = found.text ∙ ap (λ (f : Format). text_bytes f found.head found.body) back.format in
    record {
      ranges = subst KeepsRanges is (head-law.ranges found.head.size found.body fits.1 found.body_fits);
      spelled = text ∙ sym (spelled_is found.head.kind found.head.size found.body head-law) ∙ ap spelling is;
    }

-- a text that reads as an answer spells it
read_back : (bytes : List ℕ) (answer : Answer) → reading_of kinds bytes ≡ Ok answer → Spells bytes answer
read_back bytes answer e = answer_back kinds bytes answer kind_laws e

-- ---- the laws of answers

-- a text reads as what it spells
pub reads_what_is_spelled : ReadsWhatIsSpelled
reads_what_is_spelled = record { spelled_is_read = λ bytes answer s. read_again answer bytes s; read_is_spelled = read_back }

-- bytes spell one answer at most
pub spells_one : SpellsOne
spells_one bytes a b s t = read_is a b (sym (read_again a bytes s) ∙ read_again b bytes t)

-- no spelling begins another
pub begins_no_other : BeginsNoOther
begins_no_other bytes more a b s t =
    let again = answer_again a more s.ranges in
    let whole : report_of (plain ∷ []) kinds (bytes ++ more) ≡ ended (record { scale = 1; answer = a }) again.0 (lines_of more) = ap (λ (x : List ℕ). report_of (plain ∷ []) kinds (x ++ more)) s.spelled ∙ again.1 in
    let read = bind_ok (report_of (plain ∷ []) kinds (bytes ++ more)) (λ r. Ok r.answer) b (read_again b (bytes ++ more) t) in
    let none = ended_back (record { scale = 1; answer = a }) read.0 again.0 (lines_of more) (sym whole ∙ read.1) in
    sym (concat-lines_of more) ∙ ap concat none.1

-- a bound on a length
up_to : (a b c limit : ℕ) → a ≡ b → b ≤ c → c < limit → a < limit
up_to a b c limit is most below = omega arith

-- spellings are short
pub is_spelled_short : IsSpelledShort
is_spelled_short bytes answer s =
    let w = written answer s.ranges in
    let text : bytes ≡ kind_bytes w.kind w.size w.body = s.spelled ∙ ap spelling (sym w.is) ∙ spelled_is w.kind w.size w.body w.law in
    up_to _ _ _ _ (ap length text) (text_length plain (plain_head w.kind w.size) w.body (refl, w.size_fits) w.body_fits) (w.law.short w.body w.body_fits)

-- ---- the laws of reports

-- a text reads as the report that it spells
pub reads_reports : ReadsReports
reads_reports = record { spelled_is_read = λ bytes r s. report_read_again r bytes s; read_is_spelled = report_read_back }

-- bytes spell one report at most
pub spells_one_report : SpellsOneReport
spells_one_report bytes r s p q = read_is r s (sym (report_read_again r bytes p) ∙ report_read_again s bytes q)

-- no spelling of a report begins another
pub begins_no_other_report : BeginsNoOtherReport
begins_no_other_report bytes more r s p q =
    let again = report_again r more p.ranges in
    let whole : report_of (plain ∷ scaled ∷ []) kinds (bytes ++ more) ≡ ended r again.0 (lines_of more) = ap (λ (x : List ℕ). report_of (plain ∷ scaled ∷ []) kinds (x ++ more)) p.spelled ∙ again.1 in
    let none = ended_back r s again.0 (lines_of more) (sym whole ∙ report_read_again s (bytes ++ more) q) in
    sym (concat-lines_of more) ∙ ap concat none.1

-- spellings of reports are short
pub are_reports_short : AreReportsShort
are_reports_short bytes r s =
    let w = written r.answer s.ranges.answer in
    let head = head_at_scale r.scale w in
    up_to _ _ _ _ (ap length (s.spelled ∙ report_text r w)) (text_length (spelled.format_of r.scale) head w.body (report_head r w s.ranges) w.body_fits) (w.law.short w.body w.body_fits)
