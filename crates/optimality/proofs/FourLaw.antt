-- Four centres that pass have the least radius of all covers by four squares.
use Rattle.std.proofs.Common.{◌≡◌, sym, ◌∙◌, ap, subst, ℕ, ◌+◌, ◌*◌, ◌/◌, ◌%◌, ◌<◌, ℤ, pos, List, length, arith}
use Rattle.std.specs.Prelude.{Contains, slice_index_or}
use Rattle.std.proofs.lemmas.List.{get_or_default}
use Rattle.bounds_model.specs.Plane.{PlanePoint}
use Rattle.bounds_model.specs.Centres.{FitsCentres, centres_size}
use Rattle.bounds_model.specs.CentresAnswer.{Leaf, cover_of, outside, IsLeafBelow}
use Rattle.bounds_model.specs.FourAnswer.{first_square, AreLeavesByHeight, AreFourLeaves}
use Rattle.model_laws.proofs.SizeDenominators.{centres_denominator}
use Rattle.optimality.specs.Laws.{PassingFourAreBest}
use Rattle.optimality.proofs.PrintedSizes.{printed_as_is, smallest_by_printed}
use Rattle.optimality.proofs.Colours.{Colouring, IsColoured}
use Rattle.optimality.proofs.CornerTree.{some_leaf_is_near}
use Rattle.optimality.proofs.NumberedColours.{HasColours, by_number}
use Rattle.optimality.proofs.FirstSquare.{HasFirst, first_of_colours}
use Rattle.optimality.proofs.WholeSides.{none_smaller}

-- any leaf, for reading past the end of a list
no_leaf : Leaf
no_leaf = record { first = 0; second = 0 }

-- below a first square that leaves three colours, no sixteen leaves are
pub none_below : (side : ℕ) (points rest : List PlanePoint) (colour : Colouring rest) → IsColoured side 3 rest colour → (leaf : ℕ → Leaf) → ¬ ((number : ℕ) → number < 16 → IsLeafBelow side 2 points rest number (leaf number))
none_below side points rest colour h leaf each =
    let near = some_leaf_is_near side 3 rest colour (omega arith) (omega arith) h in
    let found = each near.0 near.1 in
    near.2 _ _ found.first found.second found.far

-- points of four colours have no leaves of the next side
no_leaves : (t : ℕ) (points : List PlanePoint) (leaves : List Leaf) → HasColours t 4 points → ¬ AreLeavesByHeight t points leaves
no_leaves t points leaves h l =
    none_below t points (rest found.height) found.colour found.coloured (λ number. slice_index_or leaves (16 * index + number) no_leaf)
    (λ number small.
    subst (λ y. IsLeafBelow t 2 points (rest y) number (slice_index_or leaves (16 * index + number) no_leaf)) (height_is number small)
    (subst (λ k. IsLeafBelow t 2 points (rest (slice_index_or l.heights ((16 * index + number) / 16) (pos 0))) k (slice_index_or leaves (16 * index + number) no_leaf)) (digit number small)
    (l.each (16 * index + number) no_leaf (subst (λ n. 16 * index + number < n) (sym l.as_many) (inside number small)))))
  where
    found : HasFirst t 3 points l.least
    found = first_of_colours t 3 points l.least l.is_least h

    listed : Contains l.heights found.height
    listed = l.are_heights.all found.height found.is_height

    index : ℕ
    index = listed.0

    rest : ℤ → List PlanePoint
    rest y = outside (first_square t l.least y) points

    inside : (number : ℕ) → number < 16 → 16 * index + number < 16 * length l.heights
    inside number small = let b = listed.1 in omega (arith, b, small)

    digit : (number : ℕ) → number < 16 → (16 * index + number) % 16 ≡ number
    digit number small = omega (arith, small)

    quotient : (number : ℕ) → number < 16 → (16 * index + number) / 16 ≡ index
    quotient number small = omega (arith, small)

    height_is : (number : ℕ) → number < 16 → slice_index_or l.heights ((16 * index + number) / 16) (pos 0) ≡ found.height
    height_is number small = ap (λ k. slice_index_or l.heights k (pos 0)) (quotient number small) ∙ get_or_default l.heights index (pos 0) found.height listed.1 ∙ listed.2

-- four centres that pass have the least radius
pub four_law : PassingFourAreBest
four_law points a h =
    smallest_by_printed (FitsCentres 4 points) centres_size (centres_denominator 4 points) (cover_of a) a.size h.covers (printed_as_is a.size h.ranges.size.lowest)
    (none_smaller 4 points a.size h.ranges.size.lowest.not_negative h.halves (λ t is colour coloured.
    no_leaves t points a.leaves (by_number t 4 points colour coloured) (subst (λ s. AreFourLeaves s points a.leaves) is h.leaves)))
