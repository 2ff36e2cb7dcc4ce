use Rattle.std.proofs.Common.{◌≡◌, ℕ, refl, sym, ap, subst, ◌+◌, ◌+ℤ◌, ◌≤ℤ◌, pos, Bool, true, false, not, IsTrue, IsFalse, true≢false, to_z, of_z, to_z-of_z, w64, arith}
use Rattle.polygon_check.specs.PotentialRows.{at}
use Rattle.polygon_check.proofs.Above.{none_above-more, none_above-start}
use Rattle.polygon_check.proofs.Areas.{machine_sum_of}
use Rattle.polygon_check.proofs.potentials.are_below.Goals as goal

pub areas-init : goal.areas-init
areas-init c = none_above-start (λ j. at c.args.rows.now (c.args.start + j) +ℤ at c.args.areas.now j) (to_z w64 (of_z w64 c.args.most))

pub areas-preserved : goal.areas-preserved
areas-preserved c =
    let sum = machine_sum_of (c.requires.rows (c.args.start + c.areas.j) (pos 0) (omega (arith, c.requires.within, c.areas-test.true))) (c.requires.areas c.areas.j (pos 0) c.areas-test.true) in
    none_above-more (λ j. at c.args.rows.now (c.args.start + j) +ℤ at c.args.areas.now j) (to_z w64 (of_z w64 c.args.most)) _ c.areas.j c.areas.is_above c.areas.invariant sum

-- what is not false is true, and the other way round
is_false : (b : Bool) → IsTrue (not b) → IsFalse b
is_false false is = refl
is_false true is = absurd (true≢false (sym is))

pub returns : goal.returns
returns c =
    let sum = λ (j : ℕ). at c.args.rows.now (c.args.start + j) +ℤ at c.args.areas.now j in
    let most : to_z w64 (of_z w64 c.args.most) ≡ c.args.most = to_z-of_z c.ranges.most in (
      λ is. λ k low. subst (λ m. sum k ≤ℤ m) most (c.areas.invariant.0 (is_false c.areas.is_above is) k (omega (arith, low, c.areas-test.false))),
      λ all. ap not (c.areas.invariant.1 (λ k low. subst (λ m. sum k ≤ℤ m) (sym most) (all k (omega (arith, low, c.areas.auto.j-end))))),
    )
