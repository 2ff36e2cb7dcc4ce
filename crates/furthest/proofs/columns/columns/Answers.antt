use Rattle.std.proofs.Common.{◌≡◌, subst, sym, ap, ◌∙◌, ℕ, ◌+◌, ◌<◌, ◌≤◌, length, drop, arith}
use Rattle.std.specs.Prelude.{replicate}
use Rattle.std.proofs.lemmas.List.{take_at}
use Rattle.hull_calipers.specs.CornerLists.{corners_in, points_in}
use Rattle.furthest.specs.Columns.{NamesFurthest, column_at}
use Rattle.furthest.proofs.CornerCounts.{count_is}
use Rattle.furthest.proofs.Halving.{columns_name, one_names}
use Rattle.furthest.proofs.columns.columns.Goals as goal

only_one : (n : ℕ) → 1 ≤ n → n < 2 → n ≡ 1
only_one n h k = omega arith

pub returns-then-count-lt2-clause-furthest : goal.returns-then-count-lt2-clause-furthest
returns-then-count-lt2-clause-furthest g c =
    let one : c.len-count.result ≡ 1 = only_one c.len-count.result c.len-count.ensures.some c.if-count-lt2.true in
    let zeros = c.in-Ok.ensures.items_if_clones_equal (λ y e. e) ∙ ap (λ n. replicate (n + 1) 0) one in
    one_names (corners_in c.args.corners.now) c.in-Ok.columns.items (sym (count_is c.args.corners.now c.len-count.ensures.count) ∙ one) (ap length zeros) (ap (λ xs. column_at xs 0) zeros)

pub returns-clause-furthest : goal.returns-clause-furthest
returns-clause-furthest g c =
    let two = subst (λ n. 2 ≤ n) (count_is c.args.corners.now c.len-count.ensures.count) c.if-count-lt2.false in
    let names = columns_name (points_in c.args.corners.now) (corners_in c.args.corners.now) c.all_columns.new.columns c.corners_are_those_of_the_hull.ensures.corners two
    c.all_columns.ensures.columns in
    subst (NamesFurthest (corners_in c.args.corners.now)) (sym (take_at c.all_columns.new.columns (drop (length c.all_columns.new.columns) c.in-Ok.columns.items) c.in-Ok.columns.len
    (c.all_columns.ensures.columns.as_many ∙ ap (λ n. n + 1) (sym (count_is c.args.corners.now c.len-count.ensures.count)) ∙ sym c.in-Ok.ensures.len))) names
