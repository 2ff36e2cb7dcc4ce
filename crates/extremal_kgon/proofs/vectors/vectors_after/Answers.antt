use Rattle.std.proofs.Common.{◌≡◌, sym, ap, ap₂, ◌∙◌, ◌+◌, ◌<◌, [], ◌∷◌, ◌++◌, length, arith}
use Rattle.std.proofs.lemmas.List.{get_or_read}
use Rattle.std.proofs.lemmas.List.Elements.{All-nil, All-push, All-same}
use Rattle.bounds_model.specs.Plane.{point_at, vector, origin}
use Rattle.added_areas.specs.PlaneVectors.{vector_of, IsShort}
use Rattle.added_areas.proofs.NumberedLists.{numbered-nil, numbered-push}
use Rattle.extremal_kgon.proofs.vectors.vectors_after.Goals as goal

pub later-init : goal.later-init
later-init c = record {
  as_many = omega (arith, ap length c.new-vectors.ensures);
  each = numbered-nil (λ j v. vector_of v ≡ vector (point_at c.args.corners.now c.args.first) (point_at c.args.corners.now (c.args.first + 1 + j))) c.new-vectors.result.items c.new-vectors.ensures;
  short = All-same IsShort c.new-vectors.result.items [] c.new-vectors.ensures (All-nil IsShort);
}

pub push-requires : goal.push-requires
push-requires c = let room : length c.later.vectors.items < 128 = omega (arith, c.later.invariant.as_many, c.requires.count) in (omega arith, room)

pub later-preserved : goal.later-preserved
later-preserved c =
    let from = get_or_read c.args.corners.now c.args.first c.index-corners-first.result c.requires.first c.index-corners-first.is origin in
    let to = get_or_read c.args.corners.now c.later.i c.index-corners-i.result c.later-test.true c.index-corners-i.is origin in
    let here : c.args.first + 1 + length c.later.vectors.items ≡ c.later.i = c.later.invariant.as_many in
    record {
      as_many = omega (arith, c.later.invariant.as_many, c.push.ensures.len);
      each = numbered-push (λ j v. vector_of v ≡ vector (point_at c.args.corners.now c.args.first) (point_at c.args.corners.now (c.args.first + 1 + j))) c.later.vectors.items c.push.new.self.items c.vector_between.result c.push.ensures.items c.later.invariant.each
          (c.vector_between.ensures.value ∙ ap₂ vector from (to ∙ ap (point_at c.args.corners.now) (sym here)));
      short = All-same IsShort c.push.new.self.items (c.later.vectors.items ++ c.vector_between.result ∷ []) c.push.ensures.items (All-push IsShort c.later.vectors.items c.vector_between.result c.later.invariant.short c.vector_between.ensures.short);
    }

pub returns : goal.returns
returns c = record { as_many = omega (arith, c.later.invariant.as_many, c.requires.first, c.later-test.false, c.later.auto); each = c.later.invariant.each; short = c.later.invariant.short }
