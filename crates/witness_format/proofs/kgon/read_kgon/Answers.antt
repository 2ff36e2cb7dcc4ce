use Rattle.std.proofs.Common.{◌≡◌, ◌∙◌, refl, ap, ◌-◌, [], ◌∷◌, length, codes, map, pos, Ok, arith}
use Rattle.bounds_model.specs.AnswerText.Fields.{bounded, point_number}
use Rattle.bounds_model.specs.AnswerText.Formats.{◌>>=◌, counted, count, rows, rows_at, counts_after}
use Rattle.bounds_model.specs.AnswerText.Kinds.{kgon_kind, potential_widths}
use Rattle.answer_lines.specs.Lines.{lines_left}
use Rattle.witness_format.proofs.KindTexts.{part_read, body_read}
use Rattle.witness_format.proofs.Polygons.{position_values, corner_values, read_polygon_is, longest_row}
use Rattle.witness_format.proofs.kgon.read_kgon.Goals as goal

pub returns : goal.returns
returns c =
    let corners = c.in_ok-corners.corners in
    let positions = c.in_ok-chosen.chosen.items in
    let layers = c.in_ok-layers.layers in
    let potentials = c.in_ok-potentials.potentials in
    let corners-part = counted (record { word = codes "corners"; low = 1; high = 128 }) 0 (point_number ∷ []) in
    let chosen-part = counted (record { word = codes "chosen"; low = 1; high = 12 }) 0 (bounded 0 127 ∷ []) in
    let layers-part = count (record { word = codes "layers"; low = 0; high = 10 }) in
    let one = lines_left c.args.text.now in
    let two = lines_left c.read_listed.new.text in
    let three = lines_left c.read_counted.new.text in
    let four = lines_left c.read_count.new.text in
    let five = lines_left c.read_rows.new.text in
    let corners-counts = counts_after corners-part (map corner_values corners) [] in
    let chosen-counts = counts_after chosen-part (map position_values positions) corners-counts in
    let layers-counts = counts_after layers-part layers chosen-counts in
    let longest : c.saturating_sub-longest.result ≡ length corners - 1 = omega (arith, c.saturating_sub-longest.ensures, c.len.ensures.count) in
    let amount = ap (λ r. r >>= λ n. Ok (n.0.0, n.1)) c.in_ok-layers.ensures.count in
    let numbers = ap (λ ws. rows_at ws four) (longest_row corners c.saturating_sub-longest.result layers longest) ∙ c.in_ok-potentials.ensures in
    body_read kgon_kind c.args.size one _ five _
    (part_read corners-part (chosen-part ∷ layers-part ∷ rows potential_widths ∷ []) [] one (map corner_values corners) two _ five c.in_ok-corners.ensures.lines
    (part_read chosen-part (layers-part ∷ rows potential_widths ∷ []) corners-counts two (map position_values positions) three _ five c.in_ok-chosen.ensures
    (part_read layers-part (rows potential_widths ∷ []) chosen-counts three layers four _ five amount
    (part_read (rows potential_widths) [] layers-counts four (map pos potentials) five tt five numbers refl))))
    (read_polygon_is (record { size = c.args.size; corners = corners; chosen = c.numbers_of.result; layers = layers; potentials = potentials }) positions c.numbers_of.ensures)
