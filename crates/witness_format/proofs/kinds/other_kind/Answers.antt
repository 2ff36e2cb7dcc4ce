use Rattle.std.proofs.Common.{refl}
use Rattle.witness_format.proofs.Names.{other}
use Rattle.witness_format.proofs.kinds.other_kind.Goals as goal

pub returns-else-eq-7 : goal.returns-else-eq-7
returns-else-eq-7 c =
    let e1 = other c.args.name.now _ c.as_slice.result.now c.eq.result c.as_slice.ensures c.eq.ensures c.if-eq.false in
    let e2 = other c.args.name.now _ c.as_slice-else-eq.result.now c.eq-else-eq.result c.as_slice-else-eq.ensures c.eq-else-eq.ensures c.if-eq-2.false in
    let e3 = other c.args.name.now _ c.as_slice-else-eq-2.result.now c.eq-else-eq-2.result c.as_slice-else-eq-2.ensures c.eq-else-eq-2.ensures c.if-eq-3.false in
    let e4 = other c.args.name.now _ c.as_slice-else-eq-3.result.now c.eq-else-eq-3.result c.as_slice-else-eq-3.ensures c.eq-else-eq-3.ensures c.if-eq-4.false in
    let e5 = other c.args.name.now _ c.as_slice-else-eq-4.result.now c.eq-else-eq-4.result c.as_slice-else-eq-4.ensures c.eq-else-eq-4.ensures c.if-eq-5.false in
    let e6 = other c.args.name.now _ c.as_slice-else-eq-5.result.now c.eq-else-eq-5.result c.as_slice-else-eq-5.ensures c.eq-else-eq-5.ensures c.if-eq-6.false in
    let e7 = other c.args.name.now _ c.as_slice-else-eq-6.result.now c.eq-else-eq-6.result c.as_slice-else-eq-6.ensures c.eq-else-eq-6.ensures c.if-eq-7.false in
    rw e1 (rw e2 (rw e3 (rw e4 (rw e5 (rw e6 (rw e7 refl))))))
