-- Centres that pass have the least radius of all covers by as many squares, for one to three of them.
use Rattle.std.proofs.Common.{sym, subst, ℕ, suc, ◌<◌, ◌≤◌, List}
use Rattle.bounds_model.specs.Plane.{PlanePoint}
use Rattle.bounds_model.specs.Centres.{FitsCentres, centres_size}
use Rattle.bounds_model.specs.CentresAnswer.{Leaf, cover_of, AreLeaves}
use Rattle.model_laws.proofs.SizeDenominators.{centres_denominator}
use Rattle.optimality.specs.Laws.{PassingCentresAreBest}
use Rattle.optimality.proofs.PrintedSizes.{printed_as_is, smallest_by_printed}
use Rattle.optimality.proofs.Colours.{Colouring, IsColoured}
use Rattle.optimality.proofs.CornerTree.{some_leaf_is_near}
use Rattle.optimality.proofs.WholeSides.{none_smaller}

-- any leaf, for reading past the end of a list
no_leaf : Leaf
no_leaf = record { first = 0; second = 0 }

-- points of few colours have no leaves of the next side
no_leaves : (t count : ℕ) (points : List PlanePoint) (colour : Colouring points) (leaves : List Leaf) → 1 ≤ count → count ≤ 3 → IsColoured t count points colour → ¬ AreLeaves (suc t) count points leaves
no_leaves t count points colour leaves some few h contained =
    let near = some_leaf_is_near t count points colour some few h in
    let leaf = contained.1 near.0 no_leaf (subst (λ n. near.0 < n) (sym contained.0) near.1) in
    near.2 _ _ leaf.first leaf.second leaf.far

-- centres that pass have the least radius
pub centres_law : PassingCentresAreBest
centres_law count points a h =
    smallest_by_printed (FitsCentres count points) centres_size (centres_denominator count points) (cover_of a) a.size h.covers (printed_as_is a.size h.ranges.size.lowest)
    (none_smaller count points a.size h.ranges.size.lowest.not_negative h.halves (λ t is colour coloured.
    no_leaves t count points colour a.leaves (subst (λ k. 1 ≤ k) h.covers.as_many h.ranges.square_count.at_least) (subst (λ k. k ≤ 3) h.covers.as_many h.ranges.square_count.at_most) coloured
    (subst (λ s. AreLeaves s count points a.leaves) is h.leaves)))
