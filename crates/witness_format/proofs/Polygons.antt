-- The positions of a polygon, and the widths of its rows.
use Rattle.std.proofs.Common.{◌≡◌, ◌∙◌, refl, sym, ap, ℕ, ◌+◌, ◌-◌, List, [], ◌∷◌, length, map, pos, arith}
use Rattle.std.proofs.lemmas.List.{length-map}
use Rattle.bounds_model.specs.Answers.{kgon}
use Rattle.bounds_model.specs.AnswerText.Fields.{bounded, point_number}
use Rattle.bounds_model.specs.AnswerText.LineFormats.{Values}
use Rattle.bounds_model.specs.AnswerText.Kinds.{kgon_kind, triangle}
use Rattle.answers.specs.Answers.{polygon_of}
use Rattle.answers.specs.declared.polygons.KgonAnswer.{KgonAnswer}
use Rattle.answer_lines.specs.declared.field_value.Position.{Position}
use Rattle.witness_format.proofs.SaidAnswers.{polygon_is}

-- a number in a list of corners
abbrev pub position_values : Position → Values (bounded 0 127 ∷ [])
position_values p = (p.number, tt)

-- the number of a corner
abbrev pub corner_values : ℕ → Values (point_number ∷ [])
corner_values n = (n, tt)

-- the values of numbers_of are those of positions
positions_are : (positions : List Position) → map {B = Values (bounded 0 127 ∷ [])} (λ n. (n, tt)) (map (λ p. p.number) positions) ≡ map position_values positions
positions_are [] = refl
positions_are (p ∷ positions) = ap (λ (vs : List (Values (bounded 0 127 ∷ []))). position_values p ∷ vs) (positions_are positions)

-- a polygon whose numbers_of were read as positions
pub read_polygon_is : (a : KgonAnswer) (positions : List Position) → a.chosen.items ≡ map (λ p. p.number) positions
    → kgon_kind.answer a.size (map corner_values a.corners, (map position_values positions, (a.layers, (map pos a.potentials, tt)))) ≡ kgon (polygon_of a)
read_polygon_is a positions chosen =
    let numbers_of : map position_values positions ≡ map {B = Values (bounded 0 127 ∷ [])} (λ n. (n, tt)) a.chosen.items = sym (positions_are positions) ∙ ap (map {B = Values (bounded 0 127 ∷ [])} (λ n. (n, tt))) (sym chosen) in
    (λ i. kgon_kind.answer a.size (map corner_values a.corners, (numbers_of i, (a.layers, (map pos a.potentials, tt))))) ∙ polygon_is a

-- the longest row has a number for each corner behind the first
pub longest_row : (corners : List ℕ) (longest layers : ℕ) → longest ≡ length corners - 1 → triangle (length (map corner_values corners) + 0 - 1) layers ≡ triangle longest layers
longest_row corners longest layers e =
    let same : length (map corner_values corners) + 0 - 1 ≡ longest = omega (arith, e, length-map corners corner_values) in
    ap (λ (k : ℕ). triangle k layers) same
