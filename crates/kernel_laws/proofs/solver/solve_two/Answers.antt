use Rattle.std.proofs.Common.{◌≡◌, sym, ◌∙◌, ap, ap₂, subst, ◌*◌, ◌^◌, ◌≤◌, ℤ, pos, negsuc, ◌+ℤ◌, ◌-ℤ◌, ◌*ℤ◌, ◌<ℤ◌, List, [], ◌∷◌, FitsSigned, arith}
use Rattle.std.proofs.lemmas.Int.{ints, to_z-of_z}
use mir.Syntax.{w128}
use Rattle.integers.specs.Size.{Size}
use Rattle.integers.proofs.Sizes.{size_sub, size_mul, size_more, size_fits}
use Rattle.integers.proofs.MachineArithmetic.{Given, given, with_inputs, codes, fits, size_within, number}
use Rattle.bounds_model.specs.Space.{SpacePoint, vector, origin, squared_length}
use Rattle.bounds_model.specs.Slacks.{IsDependence}
use Rattle.kernel_laws.specs.Limits.{IsVectorWithin}
use Rattle.kernel_laws.specs.Vectors.{vector_of}
use Rattle.kernel_laws.specs.Solutions.{Reduces, weight_limit}
use Rattle.kernel_laws.specs.Systems.{right_side}
use Rattle.kernel_laws.proofs.Points.{squared_length_positive}
use Rattle.kernel_laws.proofs.Repeats.{repeated_of_two}
use Rattle.kernel_laws.proofs.Solving.{solves_one}
use Rattle.kernel_laws.proofs.Weightings.{weighting_of_two}
use Rattle.kernel_laws.proofs.WeightLimits.{limit_at_least, within_limit}
use Rattle.kernel_laws.proofs.Independence.{independent_of_two}
use Rattle.kernel_laws.proofs.solver.solve_two.Goals as goal

-- the difference's coordinates, each with its bound
abbrev inputs : {u : SpacePoint} → IsVectorWithin 800000 u → List Given
inputs u = given u.x ∷ given u.y ∷ given u.z ∷ []

pub returns-then-is_zero-clause-answer : goal.returns-then-is_zero-clause-answer
returns-then-is_zero-clause-answer g c =
    let none : vector (vector_of c.args.a) (vector_of c.args.b) ≡ origin = sym c.less-u.ensures.value ∙ sym c.wide.ensures ∙ c.is_zero.ensures.0 c.if-is_zero.true in
    subst (IsDependence (vector_of c.args.a ∷ vector_of c.args.b ∷ [])) (sym c.of_two.ensures) (repeated_of_two (vector_of c.args.a) (vector_of c.args.b) none)

pub returns-then-is_zero-clause-null : goal.returns-then-is_zero-clause-null
returns-then-is_zero-clause-null g c =
    let none : vector (vector_of c.args.a) (vector_of c.args.b) ≡ origin = sym c.less-u.ensures.value ∙ sym c.wide.ensures ∙ c.is_zero.ensures.0 c.if-is_zero.true in
    (λ _. (pos 1 ∷ negsuc 0 ∷ [], repeated_of_two (vector_of c.args.a) (vector_of c.args.b) none), λ _. tt)

pub overflow_mul-total : goal.overflow_mul-total
overflow_mul-total g c = with_inputs (inputs c.less-u.ensures.within) (λ xs h d e f. simp (c.products-total.ensures, d, e, f, number xs 2, codes) (fits xs h w128 _ tt))

pub weights_of_two-requires-clause-total : goal.weights_of_two-requires-clause-total
weights_of_two-requires-clause-total g c = with_inputs (inputs c.less-u.ensures.within) (λ xs h d e f. simp (c.products-total.ensures, d, e, f, number xs 2, codes) (size_within xs h _ tt))

-- twice a number within 2 ^ 44
abbrev two_size : {r : ℤ} → Size (2 ^ 44) r → Size (2 * 2 ^ 44) (pos 2 *ℤ r)
two_size s = size_mul {a = pos 2} {m = 2} (record { abs = omega arith }) s

pub weights_of_two-requires-clause-positive : goal.weights_of_two-requires-clause-positive
weights_of_two-requires-clause-positive g c =
    let u = vector (vector_of c.args.a) (vector_of c.args.b) in
    let l : ℤ = c.products-total.result in
    let r : ℤ = c.right-weight.result in
    let length_is : squared_length u ≡ l = sym (c.products-total.ensures ∙ ap squared_length c.less-u.ensures.value) in
    let apart : u ≡ origin → ⊥ = λ e. let t = c.is_zero.ensures.1 (c.wide.ensures ∙ c.less-u.ensures.value ∙ e) in let f = c.if-is_zero.false in absurd (cc) in
    let some : pos 0 <ℤ l = subst (λ n. pos 0 <ℤ n) length_is (squared_length_positive u apart) in
    let size : Size (2 ^ 44) l = with_inputs (inputs c.less-u.ensures.within) (λ xs h d e f. simp (c.products-total.ensures, d, e, f, codes) (size_within xs h _ tt)) in
    let fits_l : FitsSigned w128 l = size_fits size tt in
    let fits_double : FitsSigned w128 (pos 2 *ℤ l) = size_fits (two_size size) tt in
    let fits_r : FitsSigned w128 r = size_fits c.right-weight.ensures.size tt in
    let double : pos 0 <ℤ (pos 2 *ℤ l) = omega (arith, ints) in
    simp to_z-of_z double

pub returns-clause-answer : goal.returns-clause-answer
returns-clause-answer g c =
    let u = vector (vector_of c.args.a) (vector_of c.args.b) in
    let l : ℤ = c.products-total.result in
    let r : ℤ = c.right-weight.result in
    let length_is : squared_length u ≡ l = sym (c.products-total.ensures ∙ ap squared_length c.less-u.ensures.value) in
    let apart : u ≡ origin → ⊥ = λ e. let t = c.is_zero.ensures.1 (c.wide.ensures ∙ c.less-u.ensures.value ∙ e) in let f = c.if-is_zero.false in absurd (cc) in
    let some : pos 0 <ℤ l = subst (λ n. pos 0 <ℤ n) length_is (squared_length_positive u apart) in
    let size : Size (2 ^ 44) l = with_inputs (inputs c.less-u.ensures.within) (λ xs h d e f. simp (c.products-total.ensures, d, e, f, codes) (size_within xs h _ tt)) in
    let fits_l : FitsSigned w128 l = size_fits size tt in
    let fits_double : FitsSigned w128 (pos 2 *ℤ l) = size_fits (two_size size) tt in
    let fits_r : FitsSigned w128 r = size_fits c.right-weight.ensures.size tt in
    let reduces : Reduces ((pos 2 *ℤ l -ℤ r) ∷ r ∷ []) c.weights_of_two.result.items = simp to_z-of_z at c.weights_of_two.ensures in
    let quadratic = g.T.Potential.SQUARE in
    let limit : 2 ^ 66 ≤ weight_limit quadratic c.args.dim = limit_at_least quadratic c.args.dim g.T.Potential.zero_or_one c.requires.dim in
    let solution : pos 2 *ℤ (u.x *ℤ (r *ℤ u.x) +ℤ u.y *ℤ (r *ℤ u.y) +ℤ u.z *ℤ (r *ℤ u.z)) ≡ pos 2 *ℤ l *ℤ right_side quadratic (vector_of c.args.a) (vector_of c.args.b) =
    solves_one u r ∙ ap₂ (λ l r. pos 2 *ℤ l *ℤ r) length_is c.right-weight.ensures.value in
    let positive : pos 0 <ℤ (pos 2 *ℤ l) = omega (arith, ints) in
    weighting_of_two quadratic (weight_limit quadratic c.args.dim) (vector_of c.args.a) (vector_of c.args.b) r (pos 2 *ℤ l) c.weights_of_two.result.items reduces solution positive
    (within_limit limit (size_more (two_size size) tt)) (within_limit limit (size_more (size_sub (two_size size) c.right-weight.ensures.size) tt)) (within_limit limit (size_more c.right-weight.ensures.size tt))

pub returns-clause-null : goal.returns-clause-null
returns-clause-null g c =
    let u = vector (vector_of c.args.a) (vector_of c.args.b) in
    let apart : u ≡ origin → ⊥ = λ e. let t = c.is_zero.ensures.1 (c.wide.ensures ∙ c.less-u.ensures.value ∙ e) in let f = c.if-is_zero.false in absurd (cc) in
    (λ none. absurd none, λ dependent. independent_of_two (vector_of c.args.a) (vector_of c.args.b) (squared_length_positive u apart) dependent)
