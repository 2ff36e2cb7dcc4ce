use Rattle.std.proofs.Common.{◌≡◌, sym, ap, ap₂, ◌∙◌, ◌<◌, [], ◌∷◌, ◌++◌, length, arith}
use Rattle.std.proofs.lemmas.List.{get_or_read}
use Rattle.std.proofs.lemmas.List.Elements.{All-nil, All-push, All-same}
use Rattle.bounds_model.specs.Plane.{point_at, vector, origin}
use Rattle.added_areas.specs.PlaneVectors.{vector_of, IsShort}
use Rattle.added_areas.proofs.NumberedLists.{numbered-nil, numbered-push}
use Rattle.added_areas.proofs.vectors.vectors_from.Goals as goal

pub corners-init : goal.corners-init
corners-init c = record {
  as_many = ap length c.new-vectors.ensures;
  each = numbered-nil (λ j v. vector_of v ≡ vector (point_at c.args.corners.now c.args.first) (point_at c.args.corners.now j)) c.new-vectors.result.items c.new-vectors.ensures;
  short = All-same IsShort c.new-vectors.result.items [] c.new-vectors.ensures (All-nil IsShort);
}

pub push-requires : goal.push-requires
push-requires c = let room : length c.corners.vectors.items < 128 = omega (arith, c.corners.invariant.as_many, c.corners-test.true, c.requires.count) in (omega arith, room)

pub corners-preserved : goal.corners-preserved
corners-preserved c =
    let from = get_or_read c.args.corners.now c.args.first c.index-corners-first.result c.requires.first c.index-corners-first.is origin in
    let to = get_or_read c.args.corners.now c.corners.i c.index-corners-i.result c.corners-test.true c.index-corners-i.is origin in
    record {
      as_many = omega (arith, c.corners.invariant.as_many, c.push.ensures.len);
      each = numbered-push (λ j v. vector_of v ≡ vector (point_at c.args.corners.now c.args.first) (point_at c.args.corners.now j)) c.corners.vectors.items c.push.new.self.items c.vector_between.result c.push.ensures.items c.corners.invariant.each
          (c.vector_between.ensures.value ∙ ap₂ vector from (to ∙ ap (point_at c.args.corners.now) (sym c.corners.invariant.as_many)));
      short = All-same IsShort c.push.new.self.items (c.corners.vectors.items ++ c.vector_between.result ∷ []) c.push.ensures.items (All-push IsShort c.corners.vectors.items c.vector_between.result c.corners.invariant.short c.vector_between.ensures.short);
    }

pub returns : goal.returns
returns c = record { as_many = omega (arith, c.corners.invariant.as_many, c.corners-test.false, c.corners.auto); each = c.corners.invariant.each; short = c.corners.invariant.short }
