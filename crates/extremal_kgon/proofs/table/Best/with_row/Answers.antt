use Rattle.std.proofs.Common.{◌≡◌, sym, subst, refl, ◌+◌, ◌^◌, arith, ℤ, pos, ◌<ℤ◌, ◌≤ℤ◌, true, false, w64}
use lib.Signed.{lt_z}
use Rattle.std.proofs.lemmas.Int.{ints}
use Rattle.integers.specs.Size.{Size}
use Rattle.integers.proofs.Sizes.{wrap_is_in}
use Rattle.extremal_kgon.proofs.Bests.{TakesSoFar, takes-none, takes-more, takes-same, takes_all}
use Rattle.extremal_kgon.proofs.table.Best.with_row.Goals as goal
use Rattle.extremal_kgon.proofs.table.Best.with_row.Goals.{then-area-best, else-area-best}

-- tests of numbers that the machine keeps
less : {x y a b : ℤ} → lt_z x y ≡ true → x ≡ a → y ≡ b → a <ℤ b
less {x} {y} {a} {b} h e f = grind (arith, ints)

not_less : {x y a b : ℤ} → lt_z x y ≡ false → x ≡ a → y ≡ b → b ≤ℤ a
not_less {x} {y} {a} {b} h e f = grind (arith, ints)

pub row-init : goal.row-init
row-init c = takes-none c.args.self c.args.row.now c.args.first c.args.layer c.requires.not_negative c.requires.small

pub row-preserved : goal.row-preserved
row-preserved c =
    let kept = wrap_is_in w64 c.row.invariant.small tt in
    let size = c.requires.sizes c.row.i (pos 0) c.row-test.true in
    let read = wrap_is_in w64 size tt in
    elim c.if-area-best.branch [
      | then-area-best w ↦ subst (TakesSoFar c.args.self c.args.row.now c.args.first c.args.layer (c.row.i + 1)) (sym w.best-is)
          (takes-more c.args.self c.args.row.now c.args.first c.args.layer c.row.i c.row.best _ c.row.invariant c.row-test.true (subst (Size (2 ^ 43)) (sym read) size) (less w.if-area-best.true kept refl) read refl refl refl)
      | else-area-best w ↦ subst (TakesSoFar c.args.self c.args.row.now c.args.first c.args.layer (c.row.i + 1)) (sym w.best-is)
          (takes-same c.args.self c.args.row.now c.args.first c.args.layer c.row.i c.row.best c.row.invariant (not_less w.if-area-best.false kept read))
    ]

pub returns : goal.returns
returns c = takes_all c.args.self c.args.row.now c.args.first c.args.layer c.row.i c.row.best c.row.invariant (omega arith)
