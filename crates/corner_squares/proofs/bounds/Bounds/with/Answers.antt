use Rattle.std.proofs.Common.{subst, SFits, w32, rules}
use Rattle.std.proofs.lemmas.Int.{to_z-of_z}
use Rattle.corner_squares.specs.Extents.{Sees}
use Rattle.corner_squares.proofs.bounds.Bounds.with.Goals as goal

pub returns-clause-across : goal.returns-clause-across
returns-clause-across c =
    let fits : SFits w32 c.x.result = search rules in
    let sees = simp to_z-of_z at c.with.ensures in
    subst (λ v. Sees c.args.self.across v c.args.number c.with.result) c.x.ensures.value sees

pub returns-clause-up : goal.returns-clause-up
returns-clause-up c =
    let fits : SFits w32 c.y.result = search rules in
    let sees = simp to_z-of_z at c.with-2.ensures in
    subst (λ v. Sees c.args.self.up v c.args.number c.with-2.result) c.y.ensures.value sees
