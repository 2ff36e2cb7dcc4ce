use Rattle.std.proofs.Common.{◌≡◌, ap, subst, ◌^◌, ◌*◌, ◌-ℤ◌, ◌*ℤ◌, [], ◌∷◌, FitsSigned}
use Rattle.std.proofs.lemmas.Int.{to_z-of_z}
use mir.Syntax.{w128}
use Rattle.integers.specs.Size.{Size}
use Rattle.integers.proofs.Sizes.{size_mul, size_fits}
use Rattle.integers.proofs.MachineArithmetic.{given, with_inputs, codes, computes, fits, size_within}
use Rattle.kernel_laws.specs.Vectors.{vector_of}
use Rattle.kernel_laws.specs.Solutions.{Reduces}
use Rattle.kernel_laws.specs.Systems.{cross}
use Rattle.kernel_laws.proofs.Weightings.{three_numbers}
use Rattle.kernel_laws.proofs.weights.weights_in_plane.Goals as goal

pub overflow_mul-k : goal.overflow_mul-k
overflow_mul-k c =
    with_inputs (given c.requires.u.x ∷ given c.requires.u.y ∷ given c.requires.u.z ∷ given c.requires.v.x ∷ given c.requires.v.y ∷ given c.requires.v.z ∷ given c.requires.x ∷ given c.requires.y ∷ given c.requires.k ∷ given c.requires.within.x ∷ given c.requires.within.y ∷ given c.requires.within.z ∷ []) (λ xs h v0 v1 v2 v3 v4 v5 v6 v7 v8 v9 v10 v11. simp (v0, v1, v2, v3, v4, v5, v6, v7, v8, v9, v10, v11, codes) (fits xs h w128 _ tt))

pub weights_of_three-requires-clause-total : goal.weights_of_three-requires-clause-total
weights_of_three-requires-clause-total c =
    with_inputs (given c.requires.u.x ∷ given c.requires.u.y ∷ given c.requires.u.z ∷ given c.requires.v.x ∷ given c.requires.v.y ∷ given c.requires.v.z ∷ given c.requires.x ∷ given c.requires.y ∷ given c.requires.k ∷ given c.requires.within.x ∷ given c.requires.within.y ∷ given c.requires.within.z ∷ []) (λ xs h v0 v1 v2 v3 v4 v5 v6 v7 v8 v9 v10 v11. simp (v0, v1, v2, v3, v4, v5, v6, v7, v8, v9, v10, v11, codes) (size_within xs h _ tt))

pub weights_of_three-requires-clause-p : goal.weights_of_three-requires-clause-p
weights_of_three-requires-clause-p c =
    with_inputs (given c.requires.u.x ∷ given c.requires.u.y ∷ given c.requires.u.z ∷ given c.requires.v.x ∷ given c.requires.v.y ∷ given c.requires.v.z ∷ given c.requires.x ∷ given c.requires.y ∷ given c.requires.k ∷ given c.requires.within.x ∷ given c.requires.within.y ∷ given c.requires.within.z ∷ []) (λ xs h v0 v1 v2 v3 v4 v5 v6 v7 v8 v9 v10 v11. simp (v0, v1, v2, v3, v4, v5, v6, v7, v8, v9, v10, v11, c.minor-p.ensures, codes) (size_within xs h _ tt))

pub weights_of_three-requires-clause-q : goal.weights_of_three-requires-clause-q
weights_of_three-requires-clause-q c =
    with_inputs (given c.requires.u.x ∷ given c.requires.u.y ∷ given c.requires.u.z ∷ given c.requires.v.x ∷ given c.requires.v.y ∷ given c.requires.v.z ∷ given c.requires.x ∷ given c.requires.y ∷ given c.requires.k ∷ given c.requires.within.x ∷ given c.requires.within.y ∷ given c.requires.within.z ∷ []) (λ xs h v0 v1 v2 v3 v4 v5 v6 v7 v8 v9 v10 v11. simp (v0, v1, v2, v3, v4, v5, v6, v7, v8, v9, v10, v11, c.minor-q.ensures, codes) (size_within xs h _ tt))

pub weights_of_three-requires-clause-positive : goal.weights_of_three-requires-clause-positive
weights_of_three-requires-clause-positive c =
    let size_w : Size (2 ^ 43 * 2 ^ 41) (c.args.k *ℤ c.args.normal.z) = size_mul c.requires.k c.requires.within.z in
    let fits_w : FitsSigned w128 (c.args.k *ℤ c.args.normal.z) = size_fits size_w tt in
    let fits_k : FitsSigned w128 c.args.k = c.ranges.k in
    let fits_n : FitsSigned w128 c.args.normal.z = size_fits c.requires.within.z tt in
    simp to_z-of_z c.requires.positive

pub returns : goal.returns
returns c =
    let size_w : Size (2 ^ 43 * 2 ^ 41) (c.args.k *ℤ c.args.normal.z) = size_mul c.requires.k c.requires.within.z in
    let fits_w : FitsSigned w128 (c.args.k *ℤ c.args.normal.z) = size_fits size_w tt in
    let fits_k : FitsSigned w128 c.args.k = c.ranges.k in
    let fits_n : FitsSigned w128 c.args.normal.z = size_fits c.requires.within.z tt in
    let size_p : Size (2 ^ 100) c.minor-p.result = with_inputs (given c.requires.u.x ∷ given c.requires.u.y ∷ given c.requires.u.z ∷ given c.requires.v.x ∷ given c.requires.v.y ∷ given c.requires.v.z ∷ given c.requires.x ∷ given c.requires.y ∷ given c.requires.k ∷ given c.requires.within.x ∷ given c.requires.within.y ∷ given c.requires.within.z ∷ []) (λ xs h v0 v1 v2 v3 v4 v5 v6 v7 v8 v9 v10 v11. simp (v0, v1, v2, v3, v4, v5, v6, v7, v8, v9, v10, v11, c.minor-p.ensures, codes) (size_within xs h _ tt)) in
    let fits_p : FitsSigned w128 c.minor-p.result = size_fits size_p tt in
    let p_is : c.minor-p.result ≡ c.args.x *ℤ c.args.v.y -ℤ c.args.y *ℤ c.args.v.x = with_inputs (given c.requires.u.x ∷ given c.requires.u.y ∷ given c.requires.u.z ∷ given c.requires.v.x ∷ given c.requires.v.y ∷ given c.requires.v.z ∷ given c.requires.x ∷ given c.requires.y ∷ given c.requires.k ∷ given c.requires.within.x ∷ given c.requires.within.y ∷ given c.requires.within.z ∷ []) (λ xs h v0 v1 v2 v3 v4 v5 v6 v7 v8 v9 v10 v11. simp (v0, v1, v2, v3, v4, v5, v6, v7, v8, v9, v10, v11, c.minor-p.ensures, codes) (computes xs h _ _ tt tt)) in
    let size_q : Size (2 ^ 100) c.minor-q.result = with_inputs (given c.requires.u.x ∷ given c.requires.u.y ∷ given c.requires.u.z ∷ given c.requires.v.x ∷ given c.requires.v.y ∷ given c.requires.v.z ∷ given c.requires.x ∷ given c.requires.y ∷ given c.requires.k ∷ given c.requires.within.x ∷ given c.requires.within.y ∷ given c.requires.within.z ∷ []) (λ xs h v0 v1 v2 v3 v4 v5 v6 v7 v8 v9 v10 v11. simp (v0, v1, v2, v3, v4, v5, v6, v7, v8, v9, v10, v11, c.minor-q.ensures, codes) (size_within xs h _ tt)) in
    let fits_q : FitsSigned w128 c.minor-q.result = size_fits size_q tt in
    let q_is : c.minor-q.result ≡ c.args.y *ℤ c.args.u.x -ℤ c.args.x *ℤ c.args.u.y = with_inputs (given c.requires.u.x ∷ given c.requires.u.y ∷ given c.requires.u.z ∷ given c.requires.v.x ∷ given c.requires.v.y ∷ given c.requires.v.z ∷ given c.requires.x ∷ given c.requires.y ∷ given c.requires.k ∷ given c.requires.within.x ∷ given c.requires.within.y ∷ given c.requires.within.z ∷ []) (λ xs h v0 v1 v2 v3 v4 v5 v6 v7 v8 v9 v10 v11. simp (v0, v1, v2, v3, v4, v5, v6, v7, v8, v9, v10, v11, c.minor-q.ensures, codes) (computes xs h _ _ tt tt)) in
    let total_is : c.args.k *ℤ c.args.normal.z ≡ c.args.k *ℤ (cross (vector_of c.args.u) (vector_of c.args.v)).z = ap (λ n. c.args.k *ℤ n.z) c.requires.normal in
    let reduces : Reduces ((c.args.k *ℤ c.args.normal.z -ℤ c.minor-p.result -ℤ c.minor-q.result) ∷ c.minor-p.result ∷ c.minor-q.result ∷ []) c.weights_of_three.result.items = simp to_z-of_z at c.weights_of_three.ensures in
    subst (λ ws. Reduces ws c.weights_of_three.result.items) (three_numbers total_is p_is q_is) reduces
