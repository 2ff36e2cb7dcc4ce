use Rattle.std.proofs.Common.{sym, subst, ap, ap₂, ◌∙◌, ◌+◌, ◌<◌, ◌^◌, [], ◌∷◌, ◌++◌, length, map, arith}
use Rattle.integers.proofs.Narrowing.{kept64}
use Rattle.bounds_model.specs.Plane.{point_at, cross}
use Rattle.added_areas.specs.PlaneVectors.{vector_of}
use Rattle.added_areas.proofs.AddedNumbers.{read_vector}
use Rattle.polygon_check.specs.PotentialRows.{Adds}
use Rattle.polygon_check.proofs.RowLists.{adds-more}
use Rattle.polygon_check.proofs.potentials.put_areas.Goals as goal

pub middles-preserved : goal.middles-preserved
middles-preserved c =
    let seen = map vector_of c.args.vectors.now in
    let areas = c.middles.areas.items in
    let low : c.middles.middle < length c.args.vectors.now = omega (arith, c.middles-test.true, c.requires.below) in
    let here = c.area.ensures.value ∙ ap₂ cross (sym (read_vector c.args.vectors.now c.middles.middle low)) (sym (read_vector c.args.vectors.now c.args.last c.requires.below)) in
    record {
      index = omega (arith, c.middles.invariant.index, c.push.ensures.len);
      adds = subst (λ n. Adds (2 ^ 39) (λ j. cross (point_at seen (c.args.first + 1 + j)) (point_at seen c.args.last)) n [] c.push.new.self.items) (sym c.push.ensures.len)
          (adds-more (2 ^ 39) (λ j. cross (point_at seen (c.args.first + 1 + j)) (point_at seen c.args.last)) (length areas) [] areas c.push.new.self.items c.area.result c.middles.invariant.adds
          (c.push.ensures.items ∙ ap (λ u. areas ++ u ∷ []) (kept64 {z = c.area.result} c.area.type_inv))
          (here ∙ ap (λ m. cross (point_at seen m) (point_at seen c.args.last)) (sym c.middles.invariant.index)) c.area.ensures.small);
    }
