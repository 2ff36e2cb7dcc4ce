use Rattle.std.proofs.Common.{◌≡◌, sym, ◌∙◌, ap, subst, ◌^◌, ◌*◌, ℤ, pos, ◌-ℤ◌, ◌*ℤ◌, ◌<ℤ◌, [], ◌∷◌, FitsSigned, arith}
use Rattle.std.proofs.lemmas.Int.{ints, to_z-of_z}
use mir.Syntax.{w128}
use Rattle.integers.specs.Size.{Size}
use Rattle.integers.proofs.Sizes.{size_mul, size_fits}
use Rattle.integers.proofs.MachineArithmetic.{given, with_inputs, codes, computes, fits, size_within, number}
use Rattle.bounds_model.specs.Space.{dot, squared_length}
use Rattle.kernel_laws.specs.Vectors.{vector_of}
use Rattle.kernel_laws.specs.Solutions.{Reduces}
use Rattle.kernel_laws.specs.Systems.{cross}
use Rattle.kernel_laws.proofs.Weightings.{three_weights}
use Rattle.kernel_laws.proofs.SideLimits.{more_within}
use Rattle.kernel_laws.proofs.weights.weights_by_gram.Goals as goal

pub minor-p-requires-clause-b : goal.minor-p-requires-clause-b
minor-p-requires-clause-b c =
    with_inputs (given c.requires.u.x ∷ given c.requires.u.y ∷ given c.requires.u.z ∷ given c.requires.v.x ∷ given c.requires.v.y ∷ given c.requires.v.z ∷ given c.requires.r ∷ given c.requires.s ∷ given c.requires.within.x ∷ given c.requires.within.y ∷ given c.requires.within.z ∷ []) (λ xs h v0 v1 v2 v3 v4 v5 v6 v7 v8 v9 v10. simp (v0, v1, v2, v3, v4, v5, v6, v7, v8, v9, v10, c.products-vv.ensures, codes) (size_within xs h _ tt))

pub minor-p-requires-clause-d : goal.minor-p-requires-clause-d
minor-p-requires-clause-d c =
    with_inputs (given c.requires.u.x ∷ given c.requires.u.y ∷ given c.requires.u.z ∷ given c.requires.v.x ∷ given c.requires.v.y ∷ given c.requires.v.z ∷ given c.requires.r ∷ given c.requires.s ∷ given c.requires.within.x ∷ given c.requires.within.y ∷ given c.requires.within.z ∷ []) (λ xs h v0 v1 v2 v3 v4 v5 v6 v7 v8 v9 v10. simp (v0, v1, v2, v3, v4, v5, v6, v7, v8, v9, v10, c.products-uv.ensures, codes) (size_within xs h _ tt))

pub minor-q-requires-clause-b : goal.minor-q-requires-clause-b
minor-q-requires-clause-b c =
    with_inputs (given c.requires.u.x ∷ given c.requires.u.y ∷ given c.requires.u.z ∷ given c.requires.v.x ∷ given c.requires.v.y ∷ given c.requires.v.z ∷ given c.requires.r ∷ given c.requires.s ∷ given c.requires.within.x ∷ given c.requires.within.y ∷ given c.requires.within.z ∷ []) (λ xs h v0 v1 v2 v3 v4 v5 v6 v7 v8 v9 v10. simp (v0, v1, v2, v3, v4, v5, v6, v7, v8, v9, v10, c.products-uu.ensures, codes) (size_within xs h _ tt))

pub minor-q-requires-clause-d : goal.minor-q-requires-clause-d
minor-q-requires-clause-d c =
    with_inputs (given c.requires.u.x ∷ given c.requires.u.y ∷ given c.requires.u.z ∷ given c.requires.v.x ∷ given c.requires.v.y ∷ given c.requires.v.z ∷ given c.requires.r ∷ given c.requires.s ∷ given c.requires.within.x ∷ given c.requires.within.y ∷ given c.requires.within.z ∷ []) (λ xs h v0 v1 v2 v3 v4 v5 v6 v7 v8 v9 v10. simp (v0, v1, v2, v3, v4, v5, v6, v7, v8, v9, v10, c.products-uv.ensures, codes) (size_within xs h _ tt))

pub dot-half-requires-clause-s : goal.dot-half-requires-clause-s
dot-half-requires-clause-s c =
    more_within (omega arith) c.requires.within

pub dot-half-requires-clause-t : goal.dot-half-requires-clause-t
dot-half-requires-clause-t c =
    c.requires.within

pub overflow_mul-half : goal.overflow_mul-half
overflow_mul-half c =
    with_inputs (given c.requires.u.x ∷ given c.requires.u.y ∷ given c.requires.u.z ∷ given c.requires.v.x ∷ given c.requires.v.y ∷ given c.requires.v.z ∷ given c.requires.r ∷ given c.requires.s ∷ given c.requires.within.x ∷ given c.requires.within.y ∷ given c.requires.within.z ∷ []) (λ xs h v0 v1 v2 v3 v4 v5 v6 v7 v8 v9 v10. simp (v0, v1, v2, v3, v4, v5, v6, v7, v8, v9, v10, c.dot-half.ensures, number xs 2, codes) (fits xs h w128 _ tt))

pub weights_of_three-requires-clause-total : goal.weights_of_three-requires-clause-total
weights_of_three-requires-clause-total c =
    with_inputs (given c.requires.u.x ∷ given c.requires.u.y ∷ given c.requires.u.z ∷ given c.requires.v.x ∷ given c.requires.v.y ∷ given c.requires.v.z ∷ given c.requires.r ∷ given c.requires.s ∷ given c.requires.within.x ∷ given c.requires.within.y ∷ given c.requires.within.z ∷ []) (λ xs h v0 v1 v2 v3 v4 v5 v6 v7 v8 v9 v10. simp (v0, v1, v2, v3, v4, v5, v6, v7, v8, v9, v10, c.dot-half.ensures, number xs 2, codes) (size_within xs h _ tt))

pub weights_of_three-requires-clause-p : goal.weights_of_three-requires-clause-p
weights_of_three-requires-clause-p c =
    with_inputs (given c.requires.u.x ∷ given c.requires.u.y ∷ given c.requires.u.z ∷ given c.requires.v.x ∷ given c.requires.v.y ∷ given c.requires.v.z ∷ given c.requires.r ∷ given c.requires.s ∷ given c.requires.within.x ∷ given c.requires.within.y ∷ given c.requires.within.z ∷ []) (λ xs h v0 v1 v2 v3 v4 v5 v6 v7 v8 v9 v10. simp (v0, v1, v2, v3, v4, v5, v6, v7, v8, v9, v10, c.minor-p.ensures, c.products-uu.ensures, c.products-uv.ensures, c.products-vv.ensures, codes) (size_within xs h _ tt))

pub weights_of_three-requires-clause-q : goal.weights_of_three-requires-clause-q
weights_of_three-requires-clause-q c =
    with_inputs (given c.requires.u.x ∷ given c.requires.u.y ∷ given c.requires.u.z ∷ given c.requires.v.x ∷ given c.requires.v.y ∷ given c.requires.v.z ∷ given c.requires.r ∷ given c.requires.s ∷ given c.requires.within.x ∷ given c.requires.within.y ∷ given c.requires.within.z ∷ []) (λ xs h v0 v1 v2 v3 v4 v5 v6 v7 v8 v9 v10. simp (v0, v1, v2, v3, v4, v5, v6, v7, v8, v9, v10, c.minor-q.ensures, c.products-uu.ensures, c.products-uv.ensures, c.products-vv.ensures, codes) (size_within xs h _ tt))

pub weights_of_three-requires-clause-positive : goal.weights_of_three-requires-clause-positive
weights_of_three-requires-clause-positive c =
    let h : ℤ = c.dot-half.result in
    let size_h : Size (2 ^ 85) h = with_inputs (given c.requires.u.x ∷ given c.requires.u.y ∷ given c.requires.u.z ∷ given c.requires.v.x ∷ given c.requires.v.y ∷ given c.requires.v.z ∷ given c.requires.r ∷ given c.requires.s ∷ given c.requires.within.x ∷ given c.requires.within.y ∷ given c.requires.within.z ∷ []) (λ xs h v0 v1 v2 v3 v4 v5 v6 v7 v8 v9 v10. simp (v0, v1, v2, v3, v4, v5, v6, v7, v8, v9, v10, c.dot-half.ensures, codes) (size_within xs h _ tt)) in
    let fits_h : FitsSigned w128 h = size_fits size_h tt in
    let double : Size (2 * 2 ^ 85) (pos 2 *ℤ h) = size_mul {a = pos 2} {m = 2} (record { abs = omega arith }) size_h in
    let fits_double : FitsSigned w128 (pos 2 *ℤ h) = size_fits double tt in
    let some : pos 0 <ℤ h = subst (λ n. pos 0 <ℤ n) (sym c.dot-half.ensures) c.requires.apart in
    let twice : pos 0 <ℤ (pos 2 *ℤ h) = omega (arith, ints) in
    simp to_z-of_z twice

pub returns : goal.returns
returns c =
    let h : ℤ = c.dot-half.result in
    let size_h : Size (2 ^ 85) h = with_inputs (given c.requires.u.x ∷ given c.requires.u.y ∷ given c.requires.u.z ∷ given c.requires.v.x ∷ given c.requires.v.y ∷ given c.requires.v.z ∷ given c.requires.r ∷ given c.requires.s ∷ given c.requires.within.x ∷ given c.requires.within.y ∷ given c.requires.within.z ∷ []) (λ xs h v0 v1 v2 v3 v4 v5 v6 v7 v8 v9 v10. simp (v0, v1, v2, v3, v4, v5, v6, v7, v8, v9, v10, c.dot-half.ensures, codes) (size_within xs h _ tt)) in
    let fits_h : FitsSigned w128 h = size_fits size_h tt in
    let double : Size (2 * 2 ^ 85) (pos 2 *ℤ h) = size_mul {a = pos 2} {m = 2} (record { abs = omega arith }) size_h in
    let fits_double : FitsSigned w128 (pos 2 *ℤ h) = size_fits double tt in
    let size_p : Size (2 ^ 100) c.minor-p.result = with_inputs (given c.requires.u.x ∷ given c.requires.u.y ∷ given c.requires.u.z ∷ given c.requires.v.x ∷ given c.requires.v.y ∷ given c.requires.v.z ∷ given c.requires.r ∷ given c.requires.s ∷ given c.requires.within.x ∷ given c.requires.within.y ∷ given c.requires.within.z ∷ []) (λ xs h v0 v1 v2 v3 v4 v5 v6 v7 v8 v9 v10. simp (v0, v1, v2, v3, v4, v5, v6, v7, v8, v9, v10, c.minor-p.ensures, c.products-uu.ensures, c.products-uv.ensures, c.products-vv.ensures, codes) (size_within xs h _ tt)) in
    let fits_p : FitsSigned w128 c.minor-p.result = size_fits size_p tt in
    let p_is : c.minor-p.result ≡ c.args.r *ℤ dot (vector_of c.args.v) (vector_of c.args.v) -ℤ c.args.s *ℤ dot (vector_of c.args.u) (vector_of c.args.v) = with_inputs (given c.requires.u.x ∷ given c.requires.u.y ∷ given c.requires.u.z ∷ given c.requires.v.x ∷ given c.requires.v.y ∷ given c.requires.v.z ∷ given c.requires.r ∷ given c.requires.s ∷ given c.requires.within.x ∷ given c.requires.within.y ∷ given c.requires.within.z ∷ []) (λ xs h v0 v1 v2 v3 v4 v5 v6 v7 v8 v9 v10. simp (v0, v1, v2, v3, v4, v5, v6, v7, v8, v9, v10, c.minor-p.ensures, c.products-uu.ensures, c.products-uv.ensures, c.products-vv.ensures, codes) (computes xs h _ _ tt tt)) in
    let size_q : Size (2 ^ 100) c.minor-q.result = with_inputs (given c.requires.u.x ∷ given c.requires.u.y ∷ given c.requires.u.z ∷ given c.requires.v.x ∷ given c.requires.v.y ∷ given c.requires.v.z ∷ given c.requires.r ∷ given c.requires.s ∷ given c.requires.within.x ∷ given c.requires.within.y ∷ given c.requires.within.z ∷ []) (λ xs h v0 v1 v2 v3 v4 v5 v6 v7 v8 v9 v10. simp (v0, v1, v2, v3, v4, v5, v6, v7, v8, v9, v10, c.minor-q.ensures, c.products-uu.ensures, c.products-uv.ensures, c.products-vv.ensures, codes) (size_within xs h _ tt)) in
    let fits_q : FitsSigned w128 c.minor-q.result = size_fits size_q tt in
    let q_is : c.minor-q.result ≡ c.args.s *ℤ dot (vector_of c.args.u) (vector_of c.args.u) -ℤ c.args.r *ℤ dot (vector_of c.args.u) (vector_of c.args.v) = with_inputs (given c.requires.u.x ∷ given c.requires.u.y ∷ given c.requires.u.z ∷ given c.requires.v.x ∷ given c.requires.v.y ∷ given c.requires.v.z ∷ given c.requires.r ∷ given c.requires.s ∷ given c.requires.within.x ∷ given c.requires.within.y ∷ given c.requires.within.z ∷ []) (λ xs h v0 v1 v2 v3 v4 v5 v6 v7 v8 v9 v10. simp (v0, v1, v2, v3, v4, v5, v6, v7, v8, v9, v10, c.minor-q.ensures, c.products-uu.ensures, c.products-uv.ensures, c.products-vv.ensures, codes) (computes xs h _ _ tt tt)) in
    let half_is : h ≡ squared_length (cross (vector_of c.args.u) (vector_of c.args.v)) = c.dot-half.ensures ∙ ap squared_length c.requires.normal in
    let reduces : Reduces ((pos 2 *ℤ h -ℤ c.minor-p.result -ℤ c.minor-q.result) ∷ c.minor-p.result ∷ c.minor-q.result ∷ []) c.weights_of_three.result.items = simp to_z-of_z at c.weights_of_three.ensures in
    subst (λ ws. Reduces ws c.weights_of_three.result.items) (three_weights half_is p_is q_is) reduces
