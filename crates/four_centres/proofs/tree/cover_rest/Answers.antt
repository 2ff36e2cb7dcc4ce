use Rattle.std.proofs.Common.{arith, subst}
use Rattle.bounded_coords.specs.Clouds.{counted_points}
use Rattle.four_centres.specs.Ends.{AreEndsFound}
use Rattle.corner_squares.specs.Extents.{IsRestBox}
use Rattle.corner_squares.specs.Covers.{IsFarPair}
use Rattle.corner_squares.proofs.Placing.{cover_now, cover_with_one_more, refuted_by_pair}
use Rattle.four_centres.proofs.tree.cover_rest.Goals as goal

pub returns-in_default-clause-covered : goal.returns-in_default-clause-covered
returns-in_default-clause-covered g c = λ _.
    cover_now (counted_points c.args.cloud) c.args.side _ c.args.placed.now.items c.as_slice-squares.result.now c.as_slice-squares.ensures.value (omega arith) c.requires.placed
    (subst (AreEndsFound (counted_points c.args.cloud) c.deref.result.now c.as_slice-squares.result.now) c.in_default.is c.free_ends.ensures.found)

pub returns-in-Around-clause-covered : goal.returns-in-Around-clause-covered
returns-in-Around-clause-covered g c = λ _.
    let found = c.in-Around.ensures.found in
    cover_with_one_more (counted_points c.args.cloud) c.args.side c.args.placed.now.items c.push.new.self.items c.in-Around.bounds c.corner_square.result c.requires.placed
    (subst (λ squares. IsRestBox (counted_points c.args.cloud) squares c.in-Around.bounds) c.as_slice-squares.ensures.value found.0, found.1)
    (record { left = c.corner_square.ensures.left; bottom = c.corner_square.ensures.bottom; wide = c.corner_square.ensures.side }) c.push.ensures.items

pub returns-in-Far-clause-refuted : goal.returns-in-Far-clause-refuted
returns-in-Far-clause-refuted g c = λ _.
    refuted_by_pair (counted_points c.args.cloud) c.args.side c.args.placed.now.items c.args.leaves.now.items c.push-in-Far.new.self.items c.in-Far.leaf
    (subst (λ squares. IsFarPair (counted_points c.args.cloud) squares c.args.side c.in-Far.leaf) c.as_slice-squares.ensures.value c.in-Far.ensures.found) c.push-in-Far.ensures.items
