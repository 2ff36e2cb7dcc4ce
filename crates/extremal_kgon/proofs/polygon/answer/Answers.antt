use Rattle.std.proofs.Common.{sym, subst, ap, ◌∙◌, ◌<◌, map, pos, List, [], ◌∷◌, length, arith}
use Rattle.std.proofs.Common.{w64}
use Rattle.std.specs.Prelude.{nat_abs}
use Rattle.integers.proofs.Sizes.{wrap_is_in}
use Rattle.bounds_model.specs.Fractions.{SameValue}
use Rattle.bounds_model.specs.Plane.{PlanePoint, point_at}
use Rattle.bounds_model.specs.Hull.{AreCorners}
use Rattle.bounded_coords.specs.Clouds.{points_of}
use Rattle.extremal_kgon.proofs.PassingPolygons.{answer_from}
use Rattle.extremal_kgon.specs.Choices.{IsReached}
use Rattle.extremal_kgon.proofs.Reaching.{is_reached}
use Rattle.extremal_kgon.proofs.polygon.answer.Goals as goal

pub choice-chosen-requires-clause-reached : goal.choice-chosen-requires-clause-reached
choice-chosen-requires-clause-reached c =
    let same = c.deref.ensures.value ∙ sym c.deref-2.ensures.value in
    subst (λ xs. IsReached xs c.layers-layers.result c.in_ok-potentials.best) same
    (is_reached c.deref.result.now c.layers-layers.result (map pos c.in_ok-potentials.potentials) c.in_ok-potentials.best (subst (λ xs. 0 < length xs) (sym (c.deref.ensures.value ∙ c.in_ok-points.ensures ∙ ap (map (point_at (points_of c.args.cloud))) c.as_slice.ensures.items)) (some_corners (points_of c.args.cloud) (map (point_at (points_of c.args.cloud)) c.args.corners) c.requires.corners)) c.in_ok-potentials.ensures)
  where
    some_corners : (points corners : List PlanePoint) → AreCorners points corners → 0 < length corners
    some_corners points [] h = absurd h
    some_corners points (a ∷ rest) h = omega arith

pub returns : goal.returns
returns c = record {
  passes = answer_from c.args.k (points_of c.args.cloud) c.deref.result.now c.deref-2.result.now c.args.corners c.choice-chosen.result.items c.in_ok-potentials.potentials _ c.in_ok-potentials.best c.new-size.result c.requires.k c.requires.most c.args.cloud.limited c.requires.few c.requires.listed c.requires.corners
      c.layers-layers.ensures (c.len.ensures ∙ sym c.deref.ensures.len) (c.deref.ensures.value ∙ c.in_ok-points.ensures ∙ ap (map (point_at (points_of c.args.cloud))) c.as_slice.ensures.items) (c.deref-2.ensures.value ∙ c.in_ok-points.ensures ∙ ap (map (point_at (points_of c.args.cloud))) c.as_slice.ensures.items)
      c.in_ok-potentials.ensures c.choice-chosen.ensures c.new-size.ensures.lowest
      (let t = c.in_ok-potentials.ensures in let e = c.from.ensures ∙ c.unsigned_abs.ensures.value ∙ ap nat_abs (wrap_is_in w64 t.greatest.small tt) in subst (λ m. SameValue c.new-size.result (record { n = pos m; d = pos 2 })) e c.new-size.ensures.value);
}
