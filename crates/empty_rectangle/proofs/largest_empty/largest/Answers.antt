use Rattle.std.proofs.Common.{rules, subst, sym}
use Rattle.std.proofs.lemmas.Result.{on_err_weaker}
use Rattle.bounds_model.specs.EmptyAnswer.{PassesEmpty}
use Rattle.empty_rectangle.specs.Points.{points_in, ListsObstacles}
use Rattle.empty_rectangle.proofs.Listing.{all_in_extent, point_of_obstacle}
use Rattle.empty_rectangle.proofs.Passing.{found_passes, few_points}
use Rattle.empty_rectangle.proofs.largest_empty.largest.Goals as goal

pub search-best-requires-clause-inside : goal.search-best-requires-clause-inside
search-best-requires-clause-inside c =
    let lists = subst (ListsObstacles c.args.frame (points_in c.args.cloud)) (sym c.deref-2.ensures.value) c.in_ok-obstacles.ensures.lists in
    all_in_extent c.args.frame (points_in c.args.cloud) c.inside.result c.deref-2.result.now c.inside.ensures.frame lists.are.each

pub returns-clause-passes : goal.returns-clause-passes
returns-clause-passes c =
    let lists = subst (ListsObstacles c.args.frame (points_in c.args.cloud)) (sym c.deref-2.ensures.value) c.in_ok-obstacles.ensures.lists in
    subst (PassesEmpty c.args.frame (points_in c.args.cloud)) (sym c.answer.ensures)
    (found_passes c.args.frame (points_in c.args.cloud) c.inside.result c.deref-2.result.now c.of_area-none.result c.search-best.result c.inside.ensures.frame_in c.inside.ensures.extent c.inside.ensures.frame (few_points c.args.cloud) lists.are c.of_area-none.ensures c.search-best.ensures.restricted c.search-best.ensures.most)

pub returns-in_err-xs-clause-memory : goal.returns-in_err-xs-clause-memory
returns-in_err-xs-clause-memory c =
    let lists = subst (ListsObstacles c.args.frame (points_in c.args.cloud)) (sym c.deref.ensures.value) c.in_ok-obstacles.ensures.lists in
    on_err_weaker c.from_residual-in_err-xs.result (point_of_obstacle c.args.frame (points_in c.args.cloud) c.deref.result.now lists.are.each) (search rules)
