use Rattle.std.proofs.Common.{◌≡◌, sym, ◌∙◌, ap, ◌^◌, ◌-◌, ℤ, pos, ◌+ℤ◌, ◌≤ℤ◌, List, length, get_or, arith}
use Rattle.std.specs.Prelude.{All}
use Rattle.std.proofs.lemmas.Int.{ints}
use Rattle.std.proofs.lemmas.List.{length-map}
use Rattle.integers.specs.Total.{total}
use Rattle.integers.proofs.Sizes.{wrap_is, size_wrap}
use Rattle.bounds_model.specs.Space.{plus, times}
use Rattle.kernel_laws.specs.Vectors.{vector_of, vectors_of, sum_of}
use Rattle.kernel_laws.specs.Limits.{IsVectorWithin}
use Rattle.kernel_laws.specs.declared.vectors.Vector.{Vector}
use Rattle.kernel_laws.specs.Solutions.{weighted}
use Rattle.kernel_laws.proofs.SideLimits.{more_within}
use Rattle.corral.specs.declared.sums.Moments.{Moments}
use Rattle.corral.specs.Moments.{AreMoments}
use Rattle.corral.proofs.MomentSums.{AreLimited, limited_weighted, rest, all_rest, length-rest, total-rest, near_rest, moments_of_cons, first_of_total}
use Rattle.corral.proofs.search.+moments.Goals as goal

pub moments-requires : goal.moments-requires
moments-requires t c =
    let ws = length-rest c.args.weights.now in
    let vs = length-rest c.args.vectors.now in
    let same = c.requires.as_many in
    let less = total-rest c.args.weights.now c.requires.some in
    (omega (arith, c.decreases), (omega arith, (all_rest (λ w. pos 1 ≤ℤ w) c.args.weights.now c.requires.some, (omega (arith, ints, c.requires.limit), (near_rest (IsVectorWithin 400000) c.args.vectors.now c.requires.near)))))

-- how large the sums of all weights but the first are
others : (ws : List ℤ) (vs : List Vector) (m : Moments) → AreMoments (weighted (rest ws) (vectors_of (rest vs))) m → length ws ≡ length vs → All (λ w. pos 1 ≤ℤ w) ws
    → total (λ w. w) ws ≤ℤ pos (2 ^ 92) → All (IsVectorWithin 400000) (vectors_of vs) → AreLimited (2 ^ 92) 400000 m
others ws vs m sums same some light near =
    let less = total-rest ws some in
    limited_weighted (2 ^ 92) 400000 (rest ws) (vectors_of (rest vs)) m sums (length-rest ws ∙ ap (λ n. n - 1) same ∙ sym (length-map (rest vs) vector_of ∙ length-rest vs))
    (all_rest (λ w. pos 1 ≤ℤ w) ws some) (near_rest (IsVectorWithin 400000) vs near) (omega (arith, ints))

pub with-requires-clause-mass : goal.with-requires-clause-mass
with-requires-clause-mass t c =
    let same = c.requires.as_many in
    (others c.args.weights.now c.args.vectors.now c.moments.result c.moments.ensures same c.requires.some c.requires.limit c.requires.near).mass

pub with-requires-clause-sum : goal.with-requires-clause-sum
with-requires-clause-sum t c =
    let same = c.requires.as_many in
    more_within (omega arith) (others c.args.weights.now c.args.vectors.now c.moments.result c.moments.ensures same c.requires.some c.requires.limit c.requires.near).sum

pub with-requires-clause-weight : goal.with-requires-clause-weight
with-requires-clause-weight t c = size_wrap (first_of_total (2 ^ 92) c.args.weights.now (pos 0) c.in-len1-up.len_at_least c.requires.some c.requires.limit) tt

pub returns-in-len1-up : goal.returns-in-len1-up
returns-in-len1-up t c =
    let back = wrap_is (first_of_total (2 ^ 92) c.args.weights.now (pos 0) c.in-len1-up.len_at_least c.requires.some c.requires.limit) tt in
    let same = c.requires.as_many in
    moments_of_cons c.args.weights.now c.args.vectors.now (pos 0) (record { x = pos 0; y = pos 0; z = pos 0 }) c.in-len1-up.len_at_least same c.moments.result c.with.result c.moments.ensures
    (c.with.ensures.mass ∙ ap (λ w. w +ℤ c.moments.result.mass) back)
    (c.with.ensures.sum ∙ ap (λ w. plus (times w (vector_of (get_or c.args.vectors.now 0 (record { x = pos 0; y = pos 0; z = pos 0 })))) (sum_of c.moments.result.sum)) back)
