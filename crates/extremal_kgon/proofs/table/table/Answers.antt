use Rattle.std.proofs.Common.{◌≡◌, subst, ap, map, length, arith, pos}
use Rattle.extremal_kgon.specs.Tables.{IsTable}
use Rattle.extremal_kgon.proofs.TableSteps.{table-none}
use Rattle.extremal_kgon.proofs.table.table.Goals as goal

pub firsts-init : goal.firsts-init
firsts-init c = table-none c.args.corners.now c.args.layers (map pos c.new-potentials.result) (ap (map pos) c.new-potentials.ensures)

pub returns : goal.returns
returns c = let all : c.firsts.first ≡ length c.args.corners.now = omega arith in subst (λ n. IsTable c.args.corners.now c.args.layers n (map pos c.firsts.potentials) c.firsts.best) all c.firsts.invariant
