use Rattle.std.proofs.Common.{◌≡◌, ap, [], ◌∷◌, ◌-ℤ◌}
use mir.Syntax.{w128}
use Rattle.integers.proofs.MachineArithmetic.{given, with_inputs, codes, computes, fits, size_within, number}
use Rattle.integers.proofs.Sizes.{size_of_flag}
use Rattle.kernel_laws.proofs.arithmetic.right.Goals as goal

pub overflow_sub-result : goal.overflow_sub-result
overflow_sub-result g c =
    with_inputs (given c.requires.a.x ∷ given c.requires.a.y ∷ given c.requires.a.z ∷ given c.requires.x.x ∷ given c.requires.x.y ∷ given c.requires.x.z ∷ given (size_of_flag g.T.Potential.zero_or_one) ∷ []) (λ xs h v0 v1 v2 v3 v4 v5 v6. simp (v0, v1, v2, v3, v4, v5, v6, c.products.ensures, c.products-2.ensures, codes) (fits xs h w128 _ tt))

pub overflow_mul-result : goal.overflow_mul-result
overflow_mul-result g c =
    with_inputs (given c.requires.a.x ∷ given c.requires.a.y ∷ given c.requires.a.z ∷ given c.requires.x.x ∷ given c.requires.x.y ∷ given c.requires.x.z ∷ given (size_of_flag g.T.Potential.zero_or_one) ∷ []) (λ xs h v0 v1 v2 v3 v4 v5 v6. simp (v0, v1, v2, v3, v4, v5, v6, c.SQUARE.ensures, c.products.ensures, c.products-2.ensures, codes) (fits xs h w128 _ tt))

pub overflow_mul-result-2 : goal.overflow_mul-result-2
overflow_mul-result-2 g c =
    let ex : c.less.result.x ≡ c.args.x.x -ℤ c.args.a.x = ap (λ v. v.x) c.less.ensures.value in
    let ey : c.less.result.y ≡ c.args.x.y -ℤ c.args.a.y = ap (λ v. v.y) c.less.ensures.value in
    let ez : c.less.result.z ≡ c.args.x.z -ℤ c.args.a.z = ap (λ v. v.z) c.less.ensures.value in
    with_inputs (given c.requires.a.x ∷ given c.requires.a.y ∷ given c.requires.a.z ∷ given c.requires.x.x ∷ given c.requires.x.y ∷ given c.requires.x.z ∷ given (size_of_flag g.T.Potential.zero_or_one) ∷ []) (λ xs h v0 v1 v2 v3 v4 v5 v6. simp (v0, v1, v2, v3, v4, v5, v6, c.products-3.ensures, ex, ey, ez, number xs 2, codes) (fits xs h w128 _ tt))

pub overflow_sub-result-2 : goal.overflow_sub-result-2
overflow_sub-result-2 g c =
    let ex : c.less.result.x ≡ c.args.x.x -ℤ c.args.a.x = ap (λ v. v.x) c.less.ensures.value in
    let ey : c.less.result.y ≡ c.args.x.y -ℤ c.args.a.y = ap (λ v. v.y) c.less.ensures.value in
    let ez : c.less.result.z ≡ c.args.x.z -ℤ c.args.a.z = ap (λ v. v.z) c.less.ensures.value in
    with_inputs (given c.requires.a.x ∷ given c.requires.a.y ∷ given c.requires.a.z ∷ given c.requires.x.x ∷ given c.requires.x.y ∷ given c.requires.x.z ∷ given (size_of_flag g.T.Potential.zero_or_one) ∷ []) (λ xs h v0 v1 v2 v3 v4 v5 v6. simp (v0, v1, v2, v3, v4, v5, v6, c.SQUARE.ensures, c.products.ensures, c.products-2.ensures, c.products-3.ensures, ex, ey, ez, number xs 2, codes) (fits xs h w128 _ tt))

pub returns-clause-value : goal.returns-clause-value
returns-clause-value g c =
    let ex : c.less.result.x ≡ c.args.x.x -ℤ c.args.a.x = ap (λ v. v.x) c.less.ensures.value in
    let ey : c.less.result.y ≡ c.args.x.y -ℤ c.args.a.y = ap (λ v. v.y) c.less.ensures.value in
    let ez : c.less.result.z ≡ c.args.x.z -ℤ c.args.a.z = ap (λ v. v.z) c.less.ensures.value in
    with_inputs (given c.requires.a.x ∷ given c.requires.a.y ∷ given c.requires.a.z ∷ given c.requires.x.x ∷ given c.requires.x.y ∷ given c.requires.x.z ∷ given (size_of_flag g.T.Potential.zero_or_one) ∷ []) (λ xs h v0 v1 v2 v3 v4 v5 v6. simp (v0, v1, v2, v3, v4, v5, v6, c.SQUARE.ensures, c.products.ensures, c.products-2.ensures, c.products-3.ensures, ex, ey, ez, number xs 2, codes) (computes xs h _ _ tt tt))

pub returns-clause-size : goal.returns-clause-size
returns-clause-size g c =
    let ex : c.less.result.x ≡ c.args.x.x -ℤ c.args.a.x = ap (λ v. v.x) c.less.ensures.value in
    let ey : c.less.result.y ≡ c.args.x.y -ℤ c.args.a.y = ap (λ v. v.y) c.less.ensures.value in
    let ez : c.less.result.z ≡ c.args.x.z -ℤ c.args.a.z = ap (λ v. v.z) c.less.ensures.value in
    with_inputs (given c.requires.a.x ∷ given c.requires.a.y ∷ given c.requires.a.z ∷ given c.requires.x.x ∷ given c.requires.x.y ∷ given c.requires.x.z ∷ given (size_of_flag g.T.Potential.zero_or_one) ∷ []) (λ xs h v0 v1 v2 v3 v4 v5 v6. simp (v0, v1, v2, v3, v4, v5, v6, c.SQUARE.ensures, c.products.ensures, c.products-2.ensures, c.products-3.ensures, ex, ey, ez, number xs 2, codes) (size_within xs h _ tt))
