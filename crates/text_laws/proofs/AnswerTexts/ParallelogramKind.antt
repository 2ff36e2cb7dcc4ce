-- The texts of parallelograms.
use Rattle.std.proofs.Common.{◌≡◌, suc, ◌+◌, ◌≤◌, List, [], ◌∷◌, ◌++◌, length, map, refl, ap, arith}
use Rattle.std.specs.Prelude.{zip, All}
use Rattle.std.proofs.lemmas.List.{length-map, length-append}
use Rattle.std.proofs.lemmas.List.Elements.{All-nil, All-cons, All-head, All-tail, All-append, All-same}
use Rattle.bounds_model.specs.Plane.{PlanePoint}
use Rattle.bounds_model.specs.Ranges.{IsDirection, point_limit}
use Rattle.bounds_model.specs.Fans.{HalfCone}
use Rattle.bounds_model.specs.ParallelogramAnswer.{Chord, ChordRanges, ParallelogramAnswer, ParallelogramRanges}
use Rattle.bounds_model.specs.Answers.{parallelogram}
use Rattle.bounds_model.specs.AnswerText.Fields.{fraction, bounded}
use Rattle.bounds_model.specs.AnswerText.LineFormats.{untitled, Values}
use Rattle.bounds_model.specs.AnswerText.Kinds.{parallelogram_kind, side_fields, chord_fields, chord, chorded_fields, chorded_cone, cone_chord, last_fields, last_vector, last_chord}
use Rattle.bounds_model.specs.AnswerText.Spelling.{chord_values, chorded_values, end_values, end_chord}
use Rattle.text_laws.proofs.AnswerTexts.BodyLaws.{AllFit}
use Rattle.text_laws.proofs.AnswerTexts.AnswerLaws.{KindLaw, Written, said_at}
use Rattle.text_laws.proofs.AnswerTexts.RangeLaws.{FieldRanges, line_ranges, line_fits}
use Rattle.text_laws.proofs.AnswerTexts.ListRanges.{all_ranges, count_ranges}
use Rattle.text_laws.proofs.AnswerTexts.FanKinds.{directions_of_all, all_directions}

-- ---- chords

-- a chord of such fields keeps its ranges
chord_range : (v : Values chord_fields) → FieldRanges chord_fields v → ChordRanges (chord v)
chord_range v p = record { a = p.0.1; b = p.1.0.1; c = p.1.1.0.1; beta = p.1.1.1.0; gamma = p.1.1.1.1.0; k = p.1.1.1.1.1.0 }

-- the fields of a chord that keeps its ranges
chord_fields_range : (v : Values chord_fields) → ChordRanges (chord v) → FieldRanges chord_fields v
chord_fields_range v p = ((omega arith, p.a), ((omega arith, p.b), ((omega arith, p.c), (p.beta, (p.gamma, (p.k, tt))))))

-- the numbers of the cone are those of points
abbrev HalfPoints : HalfCone → Type 0
HalfPoints c = (c.high ≤ point_limit) × (c.low ≤ point_limit)

-- cones and chords of lines are those lines again
chorded_back : (vs : List (Values chorded_fields)) (left : Chord) → map chorded_values (zip (map chorded_cone vs) (map cone_chord vs ++ left ∷ [])) ≡ vs
chorded_back [] left = refl
chorded_back (v ∷ vs) left = ap (λ (ws : List (Values chorded_fields)). v ∷ ws) (chorded_back vs left)

-- the last chord is the one behind all others
end_back : (chords : List Chord) (left : Chord) → end_chord (chords ++ left ∷ []) ≡ left
end_back [] left = refl
end_back (k ∷ []) left = refl
end_back (k ∷ l ∷ chords) left = end_back (l ∷ chords) left

-- parallelograms keep the laws
pub parallelogram_law : KindLaw parallelogram_kind
parallelogram_law = record {
  sound = record { name = refl; parts = λ b. (refl, (refl, (refl, (refl, tt)))) };
  named = λ lines. refl;
  named_scaled = λ lines. refl;
  not_plain = λ lines. refl;
  said = λ size b. λ i. said_at parallelogram_kind size (b.0, (b.1.0, (chorded_back b.1.1.0 (last_chord b.1.1.1.0) i, (end_values (last_vector b.1.1.1.0) (end_back (map cone_chord b.1.1.0) (last_chord b.1.1.1.0) i), tt))));
  power = λ size b. refl;
  size = λ size b. refl;
  short = λ b fits. omega arith;
  ranges = λ size b size-fits fits.
      let one = line_ranges side_fields b.0 fits.0 in
      let two = line_ranges side_fields b.1.0 fits.1.0 in
      let last = line_ranges last_fields b.1.1.1.0 fits.1.1.1.0 in
      let vs = b.1.1.0 in
      record {
        size = (line_ranges (fraction ∷ []) (size, tt) size-fits).0;
        first = record { x = one.0; y = one.1.0 };
        first_bounds = record { low = one.1.1.0; high = one.1.1.1.0 };
        second = record { x = two.0; y = two.1.0 };
        second_bounds = record { low = two.1.1.0; high = two.1.1.1.0 };
        fan = record {
          count = count_ranges chorded_cone 2 10003 1 vs fits.1.1.0.0 (omega arith);
          directions = all_directions (λ c. c.direction) (map chorded_cone vs) (last_vector b.1.1.1.0)
              (all_ranges chorded_fields chorded_cone (λ c. IsDirection c.direction) vs (λ v p. record { x = p.0; y = p.1.0 }) fits.1.1.0.1) (record { x = last.0; y = last.1.0 });
          points = all_ranges chorded_fields chorded_cone HalfPoints vs (λ v p. (p.1.1.0.1, p.1.1.1.0.1)) fits.1.1.0.1;
        };
        chord_for_each = as_many vs b.1.1.1.0;
        chords = All-append ChordRanges (map cone_chord vs) (last_chord b.1.1.1.0 ∷ []) (all_ranges chorded_fields cone_chord ChordRanges vs (λ v p. chord_range v.1.1.1.1 p.1.1.1.1) fits.1.1.0.1)
            (All-cons ChordRanges (last_chord b.1.1.1.0) [] (chord_range b.1.1.1.0.1.1 last.1.1) (All-nil ChordRanges));
      };
}
  where
    as_many : (vs : List (Values chorded_fields)) (end : Values last_fields) → length (map cone_chord vs ++ last_chord end ∷ []) ≡ length (map {B = PlanePoint} (λ (c : HalfCone). c.direction) (map chorded_cone vs) ++ last_vector end ∷ [])
    as_many [] end = refl
    as_many (v ∷ vs) end = ap suc (as_many vs end)

-- the cones with their chords, and the chord that is left
pub record Chorded (cones : List HalfCone) (chords : List Chord) : Type 0 where
  pub each : List (Values chorded_fields)
  pub left : Chord
  pub cones_are : map chorded_cone each ≡ cones
  pub chords_are : map cone_chord each ++ left ∷ [] ≡ chords

-- cones and chords, one more of these, as lines
chorded : (cones : List HalfCone) (chords : List Chord) → length chords ≡ suc (length cones) → Chorded cones chords
chorded [] [] e = absurd (omega arith)
chorded [] (k ∷ []) e = record { each = []; left = k; cones_are = refl; chords_are = refl }
chorded [] (k ∷ l ∷ chords) e = absurd (omega arith)
chorded (c ∷ cones) [] e = absurd (omega arith)
chorded (c ∷ cones) (k ∷ chords) e =
    let others = chorded cones chords (omega arith) in
    record {
      each = (c.direction.x, (c.direction.y, (c.high, (c.low, chord_values k)))) ∷ others.each;
      left = others.left;
      cones_are = ap (λ (xs : List HalfCone). c ∷ xs) others.cones_are;
      chords_are = ap (λ (xs : List Chord). k ∷ xs) others.chords_are;
    }

-- the cone keeps its ranges
abbrev IsHalfConeInRange : HalfCone → Type 0
IsHalfConeInRange c = IsDirection c.direction × HalfPoints c

-- lines of cones and chords that keep their ranges fit
chorded_fit : (vs : List (Values chorded_fields)) (left : Chord) → All IsHalfConeInRange (map chorded_cone vs) → All ChordRanges (map cone_chord vs ++ left ∷ []) → AllFit (untitled chorded_fields) vs × ChordRanges left
chorded_fit [] left cones chords = (tt, All-head ChordRanges left [] chords)
chorded_fit (v ∷ vs) left cones chords =
    let others = chorded_fit vs left (All-tail IsHalfConeInRange (chorded_cone v) (map chorded_cone vs) cones) (All-tail ChordRanges (cone_chord v) (map cone_chord vs ++ left ∷ []) chords) in
    let p = All-head IsHalfConeInRange (chorded_cone v) (map chorded_cone vs) cones in
    let q = All-head ChordRanges (cone_chord v) (map cone_chord vs ++ left ∷ []) chords in
    ((line_fits chorded_fields v refl (p.0.x, (p.0.y, ((omega arith, p.1.0), ((omega arith, p.1.1), chord_fields_range v.1.1.1.1 q)))), others.0), others.1)

-- a parallelogram that keeps its ranges is one that its format writes
pub parallelogram_written : (a : ParallelogramAnswer) → ParallelogramRanges a → Written (parallelogram a)
parallelogram_written a ranges =
    let directions = directions_of_all (λ (c : HalfCone). c.direction) a.fan.cones a.fan.last ranges.fan.directions in
    let as-many : length a.chords ≡ suc (length a.fan.cones) = omega (arith, ranges.chord_for_each, length-append (map (λ (c : HalfCone). c.direction) a.fan.cones) (a.fan.last ∷ []), length-map a.fan.cones (λ (c : HalfCone). c.direction)) in
    let split = chorded a.fan.cones a.chords as-many in
    let cones : All IsHalfConeInRange a.fan.cones = λ k d l. (directions.0 k d l, ranges.fan.points k d l) in
    let fits = chorded_fit split.each split.left (All-same IsHalfConeInRange (map chorded_cone split.each) a.fan.cones split.cones_are cones) (All-same ChordRanges (map cone_chord split.each ++ split.left ∷ []) a.chords split.chords_are ranges.chords) in
    let amount : length split.each ≡ length a.fan.cones = omega (arith, length-map split.each chorded_cone, ap length split.cones_are) in
    record {
      kind = parallelogram_kind;
      law = parallelogram_law;
      size = a.size;
      body = ((a.first.x, (a.first.y, (a.first_bounds.low, (a.first_bounds.high, tt)))), ((a.second.x, (a.second.y, (a.second_bounds.low, (a.second_bounds.high, tt)))), (split.each, ((a.fan.last.x, (a.fan.last.y, chord_values split.left)), tt))));
      is = λ i. parallelogram (record {
        size = a.size;
        first = a.first;
        first_bounds = a.first_bounds;
        second = a.second;
        second_bounds = a.second_bounds;
        fan = record { cones = split.cones_are i; last = a.fan.last };
        chords = split.chords_are i;
      });
      size_fits = line_fits (fraction ∷ []) (a.size, tt) refl (ranges.size, tt);
      body_fits = (
        line_fits side_fields (a.first.x, (a.first.y, (a.first_bounds.low, (a.first_bounds.high, tt)))) refl (ranges.first.x, (ranges.first.y, (ranges.first_bounds.low, (ranges.first_bounds.high, tt)))),
        (
          line_fits side_fields (a.second.x, (a.second.y, (a.second_bounds.low, (a.second_bounds.high, tt)))) refl (ranges.second.x, (ranges.second.y, (ranges.second_bounds.low, (ranges.second_bounds.high, tt)))),
          (
            (line_fits (bounded 2 10003 ∷ []) (length split.each + 1, tt) refl ((omega (arith, ranges.fan.count.at_least), omega (arith, ranges.fan.count.at_most)), tt), fits.0),
            (line_fits last_fields (a.fan.last.x, (a.fan.last.y, chord_values split.left)) refl (directions.1.x, (directions.1.y, chord_fields_range (chord_values split.left) fits.1)), tt),
          ),
        ),
      );
    }
