use Rattle.std.proofs.Common.{◌≡◌, sym, subst, ◌+◌, ◌^◌, [], ◌∷◌, ℤ, pos, ◌+ℤ◌, w64, to_z, of_z, arith}
use Rattle.integers.specs.Size.{Size}
use Rattle.integers.proofs.MachineArithmetic.{given, with_inputs, codes, computes}
use Rattle.integers.proofs.Narrowing.{kept64}
use Rattle.extremal_kgon.specs.Rows.{at, IsBestSum}
use Rattle.extremal_kgon.proofs.BestSums.{best_sum-none, best_sum-max}
use Rattle.extremal_kgon.proofs.rows.best_sum.Goals as goal

pub earlier-init : goal.earlier-init
earlier-init c = best_sum-none (λ j. at c.args.areas.now (c.args.start + j)) c.args.before.now

-- the sum that the machine has
machine_sum : {u area : ℤ} → Size (2 ^ 43) u → Size (2 ^ 39) area → to_z w64 (of_z w64 (to_z w64 (of_z w64 u) +ℤ to_z w64 (of_z w64 area))) ≡ u +ℤ area
machine_sum s t = with_inputs (given s ∷ given t ∷ []) (λ xs h u a. simp (u, a, codes) (computes xs h _ _ tt tt))

pub earlier-preserved : goal.earlier-preserved
earlier-preserved c =
    let sum = machine_sum (c.requires.before c.earlier.j (pos 0) (omega (arith, c.requires.index, c.earlier-test.true))) (c.requires.areas (c.args.start + c.earlier.j) (pos 0) (omega (arith, c.requires.end, c.earlier-test.true))) in
    subst (IsBestSum (λ j. at c.args.areas.now (c.args.start + j)) c.args.before.now (c.earlier.j + 1)) (sym (kept64 {z = c.max-most.result} c.max-most.type_inv))
    (best_sum-max (λ j. at c.args.areas.now (c.args.start + j)) c.args.before.now c.earlier.j (to_z w64 c.earlier.most-bits) _ c.max-most.result c.earlier.invariant c.max-most.ensures sum)

pub returns : goal.returns
returns c = let all : c.earlier.j ≡ c.args.i = omega arith in subst (λ n. IsBestSum (λ j. at c.args.areas.now (c.args.start + j)) c.args.before.now n (to_z w64 c.earlier.most-bits)) all c.earlier.invariant
