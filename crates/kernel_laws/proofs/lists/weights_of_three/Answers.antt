use Rattle.std.proofs.Common.{[], ◌∷◌, ◌^◌, pos, ◌-ℤ◌, arith}
use Rattle.std.proofs.lemmas.Int.{ints}
use mir.Syntax.{w128}
use Rattle.integers.specs.Size.{Size}
use Rattle.std.proofs.Common.{FitsSigned, to_z, of_z, ◌<ℤ◌, ◌+ℤ◌}
use Rattle.std.specs.Prelude.{All}
use Rattle.std.proofs.lemmas.Int.{to_z-of_z}
use Rattle.std.proofs.lemmas.List.Elements.{All-nil, All-cons}
use Rattle.integers.proofs.Sizes.{size_sub, size_more, size_fits}
use Rattle.kernel_laws.specs.Solutions.{Reduces}
use Rattle.kernel_laws.proofs.lists.weights_of_three.Goals as goal

pub lowest-requires-clause-sizes : goal.lowest-requires-clause-sizes
lowest-requires-clause-sizes c =
    let fits_total : FitsSigned w128 c.args.total = size_fits c.requires.total tt in
    let fits_p : FitsSigned w128 c.args.p = size_fits c.requires.p tt in
    let fits_q : FitsSigned w128 c.args.q = size_fits c.requires.q tt in
    let fits_1 : FitsSigned w128 (c.args.total -ℤ c.args.p) = size_fits (size_sub c.requires.total c.requires.p) tt in
    let fits_2 : FitsSigned w128 (c.args.total -ℤ c.args.p -ℤ c.args.q) = size_fits (size_sub (size_sub c.requires.total c.requires.p) c.requires.q) tt in
    let all : All (Size (2 ^ 124)) ((c.args.total -ℤ c.args.p -ℤ c.args.q) ∷ c.args.p ∷ c.args.q ∷ []) = All-cons (Size (2 ^ 124)) (c.args.total -ℤ c.args.p -ℤ c.args.q) (c.args.p ∷ c.args.q ∷ []) (size_more (size_sub (size_sub c.requires.total c.requires.p) c.requires.q) tt) (All-cons (Size (2 ^ 124)) c.args.p (c.args.q ∷ []) (size_more c.requires.p tt) (All-cons (Size (2 ^ 124)) c.args.q ([]) (size_more c.requires.q tt) (All-nil (Size (2 ^ 124))))) in
    let coded : All (Size (2 ^ 124)) (to_z w128 (of_z w128 (to_z w128 (of_z w128 (to_z w128 (of_z w128 c.args.total) -ℤ to_z w128 (of_z w128 c.args.p))) -ℤ to_z w128 (of_z w128 c.args.q))) ∷ to_z w128 (of_z w128 c.args.p) ∷ to_z w128 (of_z w128 c.args.q) ∷ []) = simp to_z-of_z all in
    coded

pub lowest-requires-clause-positive : goal.lowest-requires-clause-positive
lowest-requires-clause-positive c =
    let fits_total : FitsSigned w128 c.args.total = size_fits c.requires.total tt in
    let fits_p : FitsSigned w128 c.args.p = size_fits c.requires.p tt in
    let fits_q : FitsSigned w128 c.args.q = size_fits c.requires.q tt in
    let fits_1 : FitsSigned w128 (c.args.total -ℤ c.args.p) = size_fits (size_sub c.requires.total c.requires.p) tt in
    let fits_2 : FitsSigned w128 (c.args.total -ℤ c.args.p -ℤ c.args.q) = size_fits (size_sub (size_sub c.requires.total c.requires.p) c.requires.q) tt in
    let some : pos 0 <ℤ ((c.args.total -ℤ c.args.p -ℤ c.args.q) +ℤ (c.args.p +ℤ (c.args.q +ℤ (pos 0)))) = let p = c.requires.positive in omega (arith, ints) in
    simp to_z-of_z some

pub returns : goal.returns
returns c =
    let fits_total : FitsSigned w128 c.args.total = size_fits c.requires.total tt in
    let fits_p : FitsSigned w128 c.args.p = size_fits c.requires.p tt in
    let fits_q : FitsSigned w128 c.args.q = size_fits c.requires.q tt in
    let fits_1 : FitsSigned w128 (c.args.total -ℤ c.args.p) = size_fits (size_sub c.requires.total c.requires.p) tt in
    let fits_2 : FitsSigned w128 (c.args.total -ℤ c.args.p -ℤ c.args.q) = size_fits (size_sub (size_sub c.requires.total c.requires.p) c.requires.q) tt in
    let is : Reduces ((c.args.total -ℤ c.args.p -ℤ c.args.q) ∷ c.args.p ∷ c.args.q ∷ []) c.lowest.result.items = simp to_z-of_z at c.lowest.ensures in
    is
