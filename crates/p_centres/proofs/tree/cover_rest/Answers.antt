use Rattle.std.proofs.Common.{arith, subst, [], ◌∷◌}
use Rattle.std.proofs.lemmas.List.Elements.{All-nil, All-push}
use Rattle.bounded_coords.specs.Clouds.{counted_points}
use Rattle.answers.specs.Answers.{leaf_of}
use Rattle.corner_squares.specs.Extents.{IsRestBox}
use Rattle.corner_squares.proofs.Placing.{cover_now, cover_with_one_more, refuted_by_pair}
use Rattle.p_centres.specs.Surveys.{IsFirstFar, IsFirstPair}
use Rattle.p_centres.proofs.tree.cover_rest.Goals as goal

pub returns-in-Nothing-clause-covered : goal.returns-in-Nothing-clause-covered
returns-in-Nothing-clause-covered g c = λ _.
    cover_now (counted_points c.args.cloud) c.args.side _ c.args.placed.now.items c.as_slice.result.now c.as_slice.ensures.value (omega arith) c.requires.placed c.in-Nothing.ensures.found

pub returns-in-Around-clause-covered : goal.returns-in-Around-clause-covered
returns-in-Around-clause-covered g c = λ _.
    cover_with_one_more (counted_points c.args.cloud) c.args.side c.args.placed.now.items c.push.new.self.items c.in-Around.bounds c.corner_square.result c.requires.placed
    (subst (λ squares. IsRestBox (counted_points c.args.cloud) squares c.in-Around.bounds) c.as_slice.ensures.value c.in-Around.ensures.found.0, c.in-Around.ensures.found.1)
    (record { left = c.corner_square.ensures.left; bottom = c.corner_square.ensures.bottom; wide = c.corner_square.ensures.side }) c.push.ensures.items

pub returns-in-Far-clause-refuted : goal.returns-in-Far-clause-refuted
returns-in-Far-clause-refuted g c = λ _.
    let points = counted_points c.args.cloud in
    let placed = c.args.placed.now.items in
    let first = subst (λ squares. IsFirstPair points squares c.args.side c.in-Far.leaf) c.as_slice.ensures.value c.in-Far.ensures.found in
    record {
      refuted = refuted_by_pair points c.args.side placed c.args.leaves.now.items c.push-in-Far.new.self.items c.in-Far.leaf first.pair c.push-in-Far.ensures.items;
      earliest = λ _. (
        c.in-Far.leaf ∷ [],
        c.push-in-Far.ensures.items,
        All-push (IsFirstFar points placed c.args.side) [] (leaf_of c.in-Far.leaf) (All-nil (IsFirstFar points placed c.args.side)) first.earliest,
      );
    }
