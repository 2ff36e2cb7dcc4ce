use Rattle.std.proofs.Common.{sym, ap, ◌∙◌, ◌+◌, ◌<◌, ◌≤◌, ◌^◌, ℕ, [], ◌∷◌, ◌++◌, length, map, pos, w64, arith}
use Rattle.std.specs.Prelude.{slice_index_or}
use Rattle.std.proofs.lemmas.Int.{to_z_pos}
use Rattle.std.proofs.lemmas.List.{get_or-map}
use Rattle.integers.proofs.Sizes.{size_unsigned, size_fits64}
use Rattle.polygon_check.specs.PotentialRows.{at}
use Rattle.polygon_check.proofs.ReadPotentials.{read-small}
use Rattle.polygon_check.proofs.RowLists.{adds-more}
use Rattle.polygon_check.proofs.rows.push_potentials.Goals as goal

-- a number of at most 43 bits is below the half of 64 bits
below : {u : ℕ} → u ≤ 2 ^ 43 → u < 2 ^ 63
below h = omega arith

pub overflow_cast-potentials : goal.overflow_cast-potentials
overflow_cast-potentials c =
    let within : c.args.start + c.numbers.j < length c.args.potentials.now = omega (arith, c.requires.within, c.numbers-test.true) in
    size_fits64 (size_unsigned _ (read-small c.args.potentials.now (c.args.start + c.numbers.j) (2 ^ 43) within c.requires.small)) tt

pub numbers-preserved : goal.numbers-preserved
numbers-preserved c =
    let us = c.args.potentials.now in
    let i = c.args.start + c.numbers.j in
    let within : i < length us = omega (arith, c.requires.within, c.numbers-test.true) in
    let small = read-small us i (2 ^ 43) within c.requires.small in
    adds-more (2 ^ 43) (λ j. at (map pos us) (c.args.start + j)) c.numbers.j c.args.rows.now.items c.numbers.rows.items c.push.new.self.items (pos (slice_index_or us i 0)) c.numbers.invariant
    (c.push.ensures.items ∙ ap (λ u. c.numbers.rows.items ++ u ∷ []) (to_z_pos w64 (slice_index_or us i 0) (below small))) (sym (get_or-map pos us i 0 (pos 0) within)) (size_unsigned _ small)
