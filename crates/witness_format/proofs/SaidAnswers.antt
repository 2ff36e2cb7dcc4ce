-- The answers and what their formats say are the same, in both directions.
use Rattle.std.proofs.Common.{◌≡◌, ◌∙◌, refl, sym, ap, subst, ℕ, ◌+◌, ◌^◌, Bool, true, false, cond, pos, List, [], ◌∷◌, ◌++◌, length, map, arith}
use Rattle.std.specs.Prelude.{zip, ◌==◌}
use Rattle.std.proofs.lemmas.Bool.{eqb-true}
use Rattle.std.proofs.lemmas.List.{length-map, length-append}
use Rattle.bounds_model.specs.Fractions.{Fraction, IsLowest, lowest_form, over}
use Rattle.bounds_model.specs.Reports.{ReportRanges, power, full_size}
use Rattle.bounds_model.specs.AnswerText.Heads.{plain, scaled, whole_size, last_format}
use Rattle.bounds_model.specs.Answers.{KeepsRanges, size_of, circle, sphere, rectangle, parallelogram, strip, annulus, empty, kgon, distance, centres, furthest, four, shell}
use Rattle.bounds_model.specs.AnswerText.Fields.{plane_ratio, point_number, bounded}
use Rattle.bounds_model.specs.AnswerText.LineFormats.{Values}
use Rattle.bounds_model.specs.AnswerText.Kinds.{Kind, circle_kind, sphere_kind, rectangle_kind, parallelogram_kind, strip_kind, annulus_kind, empty_kind, kgon_kind, distance_kind, centres_kind, furthest_kind, four_kind, shell_kind}
use Rattle.bounds_model.specs.AnswerText.Kinds.{weighted, weighted_pair, quarter_cone, half_cone, chorded_cone, cone_chord, leaf, entry}
use Rattle.bounds_model.specs.AnswerText.Spelling.{spelling, Spells, format_of, report_bytes, SpellsReport}
use Rattle.bounds_model.specs.AnswerText.Written.{format_line, head_bytes, body_bytes, kind_bytes}
use Rattle.text_laws.proofs.AnswerTexts.SizeLaws.{over_one, one_power}
use Rattle.text_laws.proofs.AnswerTexts.AnswerLaws.{KindLaw, spelled_is, report_is}
use Rattle.text_laws.proofs.AnswerTexts.TextLaws.{kept_size}
use Rattle.witness_format.specs.Heads.{head_lines}
use Rattle.text_laws.proofs.AnswerTexts.BallKinds.{circle_law, sphere_law}
use Rattle.text_laws.proofs.AnswerTexts.FanKinds.{rectangle_law, strip_law}
use Rattle.text_laws.proofs.AnswerTexts.ParallelogramKind.{parallelogram_law}
use Rattle.text_laws.proofs.AnswerTexts.EmptyKind.{empty_law}
use Rattle.text_laws.proofs.AnswerTexts.KgonKind.{kgon_law}
use Rattle.text_laws.proofs.AnswerTexts.PairKinds.{annulus_law, distance_law, centres_law}
use Rattle.text_laws.proofs.AnswerTexts.LaterKinds.{furthest_law, four_law, shell_law}
use Rattle.answers.specs.declared.report.Report.{Report}
use Rattle.answers.specs.declared.answer.Answer.{Answer}
use Rattle.answers.specs.declared.answer.Answer.TheVariants.{Circle, Sphere, Rectangle, Parallelogram, Strip, Annulus, Empty, Kgon, Distance, Centres, Furthest, Four, Shell}
use Rattle.answers.specs.declared.balls.BallAnswer2.{BallAnswer2}
use Rattle.answers.specs.declared.balls.BallAnswer3.{BallAnswer3}
use Rattle.answers.specs.declared.centres.CentresAnswer.{CentresAnswer}
use Rattle.answers.specs.declared.centres.FourAnswer.{FourAnswer}
use Rattle.answers.specs.declared.furthests.FurthestAnswer.{FurthestAnswer}
use Rattle.answers.specs.declared.pairs.ShellAnswer.{ShellAnswer}
use Rattle.answers.specs.declared.fans.HalfCone.{HalfCone}
use Rattle.answers.specs.declared.fans.StripAnswer.{StripAnswer}
use Rattle.answers.specs.declared.fans.RectAnswer.{RectAnswer}
use Rattle.answers.specs.declared.parallelograms.Chord.{Chord}
use Rattle.answers.specs.declared.parallelograms.ParaAnswer.{ParaAnswer}
use Rattle.answers.specs.declared.pairs.AnnulusAnswer.{AnnulusAnswer}
use Rattle.answers.specs.declared.pairs.DistanceAnswer.{DistanceAnswer}
use Rattle.answers.specs.declared.empty_rectangles.EmptyAnswer.{EmptyAnswer}
use Rattle.answers.specs.declared.polygons.KgonAnswer.{KgonAnswer}
use Rattle.answers.specs.Answers.{circle_of, sphere_of, rectangle_of, parallelogram_of, strip_of, annulus_of, empty_of, polygon_of, distance_of, centres_of, furthest_of, four_of, shell_of}
use Rattle.answers.specs.Answers.{weighted_of, vector_of, span_of, half_cone_of, quarter_cone_of, chord_of, pair_of, leaf_of, entry_of, answer_of, report_of}
use Rattle.witness_format.specs.Bodies.{weighted_values, pair_values, half_cone_values, quarter_cone_values, chorded_values, last_chord, leaf_values, entry_values, said_of}
use Rattle.witness_format.specs.Bodies.{circle_body, sphere_body, rectangle_body, parallelogram_body, strip_body, annulus_body, empty_body, polygon_body, distance_body, centres_body, furthest_body, four_body, shell_body}

-- ---- lists

-- values of the code as the fields of their lines, and these as values of the model
made_of : {X V Y : Type 0} (values : X → V) (make : V → Y) (meaning : X → Y) → ((x : X) → make (values x) ≡ meaning x) → (xs : List X) → map make (map values xs) ≡ map meaning xs
made_of values make meaning same [] = refl
made_of values make meaning same (x ∷ xs) = λ i. same x i ∷ made_of values make meaning same xs i

-- values that are those of the model
made_same : {X V : Type 0} (values : X → V) (make : V → X) → ((x : X) → make (values x) ≡ x) → (xs : List X) → map make (map values xs) ≡ xs
made_same values make same [] = refl
made_same values make same (x ∷ xs) = λ i. same x i ∷ made_same values make same xs i

-- the cones of lines that hold cones and chords, of which there is one more
cones_made : (cones : List HalfCone) (chords : List Chord) → length chords ≡ length cones + 1 → map chorded_cone (map chorded_values (zip cones chords)) ≡ map half_cone_of cones
cones_made [] chords e = refl
cones_made (c ∷ cones) [] e = absurd (omega arith)
cones_made (c ∷ cones) (k ∷ chords) e = λ i. half_cone_of c ∷ cones_made cones chords (omega arith) i

-- the chords of such lines, and the last one
chords_made : (cones : List HalfCone) (chords : List Chord) → length chords ≡ length cones + 1 → map cone_chord (map chorded_values (zip cones chords)) ++ chord_of (last_chord chords) ∷ [] ≡ map chord_of chords
chords_made [] [] e = absurd (omega arith)
chords_made [] (k ∷ []) e = refl
chords_made [] (k ∷ l ∷ chords) e = absurd (omega arith)
chords_made (c ∷ cones) [] e = absurd (omega arith)
chords_made (c ∷ cones) (k ∷ []) e = absurd (omega arith)
chords_made (c ∷ cones) (k ∷ l ∷ chords) e = λ i. chord_of k ∷ chords_made cones (l ∷ chords) (omega arith) i

-- ---- what the format says is the answer

pub circle_is : (a : BallAnswer2) → circle_kind.answer a.size (circle_body a) ≡ circle (circle_of a)
circle_is a = λ i. circle (record { size = a.size; centre = a.center; supports = made_of weighted_values weighted weighted_of (λ s. refl) a.supports.items i })

pub sphere_is : (a : BallAnswer3) → sphere_kind.answer a.size (sphere_body a) ≡ sphere (sphere_of a)
sphere_is a = λ i. sphere (record { size = a.size; centre = a.center; supports = made_of weighted_values weighted weighted_of (λ s. refl) a.supports.items i })

pub rectangle_is : (a : RectAnswer) → rectangle_kind.answer a.size (rectangle_body a) ≡ rectangle (rectangle_of a)
rectangle_is a = λ i. rectangle (record {
  size = a.size;
  direction = vector_of a.direction;
  along = span_of a.along;
  across = span_of a.across;
  fan = record { cones = made_of quarter_cone_values quarter_cone quarter_cone_of (λ c. refl) a.fan.cones i; last = vector_of a.fan.last };
})

pub parallelogram_is : (a : ParaAnswer) → length a.chords ≡ length a.fan.cones + 1 → parallelogram_kind.answer a.size (parallelogram_body a) ≡ parallelogram (parallelogram_of a)
parallelogram_is a amount = λ i. parallelogram (record {
  size = a.size;
  first = vector_of a.first;
  first_bounds = span_of a.first_span;
  second = vector_of a.second;
  second_bounds = span_of a.second_span;
  fan = record { cones = cones_made a.fan.cones a.chords amount i; last = vector_of a.fan.last };
  chords = chords_made a.fan.cones a.chords amount i;
})

pub strip_is : (a : StripAnswer) → strip_kind.answer a.size (strip_body a) ≡ strip (strip_of a)
strip_is a = λ i. strip (record {
  size = a.size;
  direction = vector_of a.direction;
  bounds = span_of a.bounds;
  fan = record { cones = made_of half_cone_values half_cone half_cone_of (λ c. refl) a.fan.cones i; last = vector_of a.fan.last };
})

pub annulus_is : (a : AnnulusAnswer) → annulus_kind.answer a.size (annulus_body a) ≡ annulus (annulus_of a)
annulus_is a = λ i. annulus (record { size = a.size; centre = a.center; inner = a.inner; outer = a.outer; pairs = made_of pair_values weighted_pair pair_of (λ p. refl) a.pairs.items i })

pub empty_is : (a : EmptyAnswer) → empty_kind.answer a.size (empty_body a) ≡ empty (empty_of a)
empty_is a = refl

pub polygon_is : (a : KgonAnswer) → kgon_kind.answer a.size (polygon_body a) ≡ kgon (polygon_of a)
polygon_is a = λ i. kgon (record {
  size = a.size;
  corners = made_same {V = Values (point_number ∷ [])} (λ n. (n, tt)) (λ v. v.0) (λ n. refl) a.corners i;
  chosen = made_same {V = Values (bounded 0 127 ∷ [])} (λ n. (n, tt)) (λ v. v.0) (λ n. refl) a.chosen.items i;
  layers = a.layers;
  potentials = map pos a.potentials;
})

pub distance_is : (a : DistanceAnswer) → distance_kind.answer a.size (distance_body a) ≡ distance (distance_of a)
distance_is a = λ i. distance (record { size = a.size; from = a.from; to = a.to; direction = record { x = a.direction.x; y = a.direction.y; z = a.direction.z }; pairs = made_of pair_values weighted_pair pair_of (λ p. refl) a.pairs.items i })

pub centres_is : (a : CentresAnswer) → centres_kind.answer a.size (centres_body a) ≡ centres (centres_of a)
centres_is a = λ i. centres (record {
  size = a.size;
  squares = made_same {V = Values (plane_ratio ∷ [])} (λ c. (c, tt)) (λ v. v.0) (λ c. refl) a.squares.items i;
  leaves = made_of leaf_values leaf leaf_of (λ l. refl) a.leaves.items i;
})

pub furthest_is : (a : FurthestAnswer) → furthest_kind.answer a.size (furthest_body a) ≡ furthest (furthest_of a)
furthest_is a = λ i. furthest (record { size = a.size; entries = made_of entry_values entry entry_of (λ e. refl) a.entries i })

pub four_is : (a : FourAnswer) → four_kind.answer a.size (four_body a) ≡ four (four_of a)
four_is a = λ i. four (record {
  size = a.size;
  squares = made_same {V = Values (plane_ratio ∷ [])} (λ c. (c, tt)) (λ v. v.0) (λ c. refl) a.squares.items i;
  leaves = made_of leaf_values leaf leaf_of (λ l. refl) a.leaves i;
})

pub shell_is : (a : ShellAnswer) → shell_kind.answer a.size (shell_body a) ≡ shell (shell_of a)
shell_is a = λ i. shell (record { size = a.size; centre = a.center; low = a.low; high = a.high; pairs = made_of pair_values weighted_pair pair_of (λ p. refl) a.pairs.items i })

-- ---- all kinds

-- a parallelogram that keeps its ranges has one chord more than cones
pub one_chord_more : (a : ParaAnswer) → KeepsRanges (parallelogram (parallelogram_of a)) → length a.chords ≡ length a.fan.cones + 1
one_chord_more a ranges =
    omega (
      arith,
      ranges.chord_for_each,
      length-map a.chords chord_of,
      length-append (map (λ c. c.direction) (map half_cone_of a.fan.cones)) (vector_of a.fan.last ∷ []),
      length-map (map half_cone_of a.fan.cones) (λ c. c.direction),
      length-map a.fan.cones half_cone_of,
    )

-- what the format says of an answer that keeps its ranges is the answer
said_is : (a : Answer) → KeepsRanges (answer_of a) → (said_of a).kind.answer (said_of a).size (said_of a).body ≡ answer_of a
said_is (Circle a) ranges = circle_is a
said_is (Sphere a) ranges = sphere_is a
said_is (Rectangle a) ranges = rectangle_is a
said_is (Parallelogram a) ranges = parallelogram_is a (one_chord_more a ranges)
said_is (Strip a) ranges = strip_is a
said_is (Annulus a) ranges = annulus_is a
said_is (Empty a) ranges = empty_is a
said_is (Kgon a) ranges = polygon_is a
said_is (Distance a) ranges = distance_is a
said_is (Centres a) ranges = centres_is a
said_is (Furthest a) ranges = furthest_is a
said_is (Four a) ranges = four_is a
said_is (Shell a) ranges = shell_is a

-- the kinds keep the laws of texts
said_law : (a : Answer) → KindLaw (said_of a).kind
said_law (Circle a) = circle_law
said_law (Sphere a) = sphere_law
said_law (Rectangle a) = rectangle_law
said_law (Parallelogram a) = parallelogram_law
said_law (Strip a) = strip_law
said_law (Annulus a) = annulus_law
said_law (Empty a) = empty_law
said_law (Kgon a) = kgon_law
said_law (Distance a) = distance_law
said_law (Centres a) = centres_law
said_law (Furthest a) = furthest_law
said_law (Four a) = four_law
said_law (Shell a) = shell_law

-- the text of what the format says is the spelling of the answer
pub said_spells : (bytes : List ℕ) (a : Answer) → KeepsRanges (answer_of a) → bytes ≡ kind_bytes (said_of a).kind (said_of a).size (said_of a).body → Spells bytes (answer_of a)
said_spells bytes a ranges text = record { ranges = ranges; spelled = text ∙ sym (spelled_is (said_of a).kind (said_of a).size (said_of a).body (said_law a)) ∙ ap spelling (said_is a ranges) }

-- likewise with the size of the answer in the head
pub printed_spells : (bytes : List ℕ) (a : Answer) (size : Fraction) → KeepsRanges (answer_of a) → size ≡ size_of (answer_of a)
    → bytes ≡ head_lines plain (said_of a).kind.name 1 size ++ (body_bytes (said_of a).kind.body [] (said_of a).body ++ format_line last_format tt) → Spells bytes (answer_of a)
printed_spells bytes a size ranges is text =
    let said = said_of a in
    let tail = body_bytes said.kind.body [] said.body ++ format_line last_format tt in
    let size-is : size ≡ said.size = is ∙ ap size_of (sym (said_is a ranges)) ∙ (said_law a).size said.size said.body in
    said_spells bytes a ranges (text ∙ ap (λ (s : Fraction). head_lines plain said.kind.name 1 s ++ tail) size-is)

-- ---- reports

-- the lines of a head with the size in whole units are the head's
head_lines_are : (kind : Kind) (scale : ℕ) (size full : Fraction) → IsLowest size → full ≡ whole_size (record { kind = kind; scale = scale; size = size })
    → head_lines (format_of scale) kind.name scale full ≡ head_bytes (format_of scale) (record { kind = kind; scale = scale; size = size })
head_lines_are kind scale size full lowest is = by_test (scale == 1) refl
  where
    by_test : (t : Bool) → (scale == 1) ≡ t → head_lines (cond t plain scaled) kind.name scale full ≡ head_bytes (cond t plain scaled) (record { kind = kind; scale = scale; size = size })
    by_test true test =
        let units : scale ^ kind.power ≡ 1 = ap (λ s. s ^ kind.power) (eqb-true scale 1 test) ∙ one_power kind.power in
        ap (λ (f : Fraction). head_lines plain kind.name scale f) (is ∙ over_one size (scale ^ kind.power) units lowest)
    by_test false test = ap (λ (f : Fraction). head_lines scaled kind.name scale f) is

-- the text of a report whose size in whole units is given
abbrev pub written_at : Report → Fraction → List ℕ
written_at r full = head_lines (format_of r.scale) (said_of r.answer).kind.name r.scale full ++ (body_bytes (said_of r.answer).kind.body [] (said_of r.answer).body ++ format_line last_format tt)

-- the text of a head and of what the format says is the spelling of the report
pub said_spells_report : (bytes : List ℕ) (r : Report) → ReportRanges (report_of r)
    → bytes ≡ written_at r (full_size (report_of r)) → SpellsReport bytes (report_of r)
said_spells_report bytes r ranges text =
    let said = said_of r.answer in
    let law = said_law r.answer in
    let is = said_is r.answer ranges.answer in
    let power-is : power (answer_of r.answer) ≡ said.kind.power = ap power (sym is) ∙ law.power said.size said.body in
    let size-is : size_of (answer_of r.answer) ≡ said.size = ap size_of (sym is) ∙ law.size said.size said.body in
    let whole : full_size (report_of r) ≡ whole_size (record { kind = said.kind; scale = r.scale; size = said.size }) = λ i. lowest_form (over (r.scale ^ power-is i) (size-is i)) in
    let lowest : IsLowest said.size = subst (λ (f : Fraction). IsLowest f) size-is (kept_size (answer_of r.answer) ranges.answer).lowest in
    let tail = body_bytes said.kind.body [] said.body ++ format_line last_format tt in
    record {
      ranges = ranges;
      spelled = text ∙ ap (λ (x : List ℕ). x ++ tail) (head_lines_are said.kind r.scale said.size (full_size (report_of r)) lowest whole)
          ∙ sym (report_is said.kind r.scale said.size said.body law) ∙ ap (λ a. report_bytes (record { scale = r.scale; answer = a })) is;
    }
