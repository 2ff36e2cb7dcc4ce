use Rattle.std.proofs.Common.{◌≡◌, refl, sym, ◌∙◌, ap, subst, pos, negsuc, neg_ℤ, ◌-ℤ◌, ◌*ℤ◌, ◌<ℤ◌, List, [], ◌∷◌, arith}
use Rattle.std.proofs.lemmas.Int.{ints}
use Rattle.std.proofs.Math.Facts.{to_z-of_z}
use Rattle.integers.proofs.Sizes.{size_fits, size_more}
use Rattle.integers.proofs.MachineArithmetic.{Given, given}
use Rattle.bounds_model.specs.Space.{SpacePoint, vector, origin}
use Rattle.bounds_model.specs.Slacks.{IsDependence}
use Rattle.kernel_laws.specs.Limits.{IsVectorWithin}
use Rattle.kernel_laws.specs.Vectors.{vector_of, sum_of}
use Rattle.kernel_laws.proofs.Points.{squared_length_positive}
use Rattle.kernel_laws.proofs.Repeats.{repeated_of_three}
use Rattle.kernel_laws.proofs.Independence.{independent_of_three}
use Rattle.kernel_laws.proofs.Three.{three_items, along_of_three, gram_answer, ball_answer, norm_answer, same_gram_weights, same_plane_weights, same_centre_weights, twice_square}
use Rattle.kernel_laws.proofs.Items.{in_plane}
use Rattle.kernel_laws.proofs.Products.{minor_of, apart, height_of, same_reduction, LineNumbers, line_numbers, line_remainders, twice, below_from, above_from, square_from, not_one, some_height, twice_height, opposites}
use Rattle.kernel_laws.proofs.solver.solve_three.Goals as goal

-- two differences, each with its bounds
abbrev inputs : {u v : SpacePoint} → IsVectorWithin 800000 u → IsVectorWithin 800000 v → List Given
inputs u v = given u.x ∷ given u.y ∷ given u.z ∷ given v.x ∷ given v.y ∷ given v.z ∷ []

pub returns-then-is_zero-clause-answer : goal.returns-then-is_zero-clause-answer
returns-then-is_zero-clause-answer g c =
    let none : vector (vector_of c.args.a) (vector_of c.args.b) ≡ origin = sym c.less-u.ensures.value ∙ sym c.wide.ensures ∙ c.is_zero.ensures.0 c.if-is_zero.true in
    subst (IsDependence (vector_of c.args.a ∷ vector_of c.args.b ∷ vector_of c.args.c ∷ [])) (sym c.of_three.ensures) (repeated_of_three (vector_of c.args.a) (vector_of c.args.b) (vector_of c.args.c) none)

pub returns-then-is_zero-clause-null : goal.returns-then-is_zero-clause-null
returns-then-is_zero-clause-null g c =
    let none : vector (vector_of c.args.a) (vector_of c.args.b) ≡ origin = sym c.less-u.ensures.value ∙ sym c.wide.ensures ∙ c.is_zero.ensures.0 c.if-is_zero.true in
    (λ _. (pos 1 ∷ negsuc 0 ∷ pos 0 ∷ [], repeated_of_three (vector_of c.args.a) (vector_of c.args.b) (vector_of c.args.c) none), λ _. tt)

pub overflow_sub-q : goal.overflow_sub-q
overflow_sub-q g c =
    let h = line_remainders c.less-u.ensures.within c.less-v.ensures.within c.products-p.ensures c.products-q.ensures in
    simp (to_z-of_z h.whole, to_z-of_z h.first) h.less_first

pub overflow_sub-q-then-is_zero-2 : goal.overflow_sub-q-then-is_zero-2
overflow_sub-q-then-is_zero-2 g c =
    let h = line_remainders c.less-u.ensures.within c.less-v.ensures.within c.products-p.ensures c.products-q.ensures in
    simp (to_z-of_z h.whole) h.opposite

pub returns-then-is_zero-2-clause-answer : goal.returns-then-is_zero-2-clause-answer
returns-then-is_zero-2-clause-answer g c =
    let r = line_remainders c.less-u.ensures.within c.less-v.ensures.within c.products-p.ensures c.products-q.ensures in
    let h : LineNumbers (vector_of c.args.a) (vector_of c.args.b) (vector_of c.args.c) c.products-p.result c.products-q.result = line_numbers (vector_of c.args.a) (vector_of c.args.b) (vector_of c.args.c) c.less-u.ensures.value c.less-v.ensures.value c.cross-normal.ensures.value c.products-p.ensures c.products-q.ensures (λ e. let t = c.is_zero.ensures.1 (c.wide.ensures ∙ e) in let f = c.if-is_zero.false in absurd (cc)) (c.is_zero-2.ensures.0 c.if-is_zero-2.true) in
    let items : c.of_three-then-is_zero-2.result.items ≡ (c.products-q.result -ℤ c.products-p.result) ∷ c.products-p.result ∷ neg_ℤ c.products-q.result ∷ [] = simp (to_z-of_z r.whole, to_z-of_z r.first, to_z-of_z r.less_first, r.below, to_z-of_z r.negative) at c.of_three-then-is_zero-2.ensures in
    subst (IsDependence (vector_of c.args.a ∷ vector_of c.args.b ∷ vector_of c.args.c ∷ [])) (sym items) (along_of_three (vector_of c.args.a) (vector_of c.args.b) (vector_of c.args.c) _ _ h.first h.second h.some h.line)

pub returns-then-is_zero-2-clause-null : goal.returns-then-is_zero-2-clause-null
returns-then-is_zero-2-clause-null g c =
    let h : LineNumbers (vector_of c.args.a) (vector_of c.args.b) (vector_of c.args.c) c.products-p.result c.products-q.result = line_numbers (vector_of c.args.a) (vector_of c.args.b) (vector_of c.args.c) c.less-u.ensures.value c.less-v.ensures.value c.cross-normal.ensures.value c.products-p.ensures c.products-q.ensures (λ e. let t = c.is_zero.ensures.1 (c.wide.ensures ∙ e) in let f = c.if-is_zero.false in absurd (cc)) (c.is_zero-2.ensures.0 c.if-is_zero-2.true) in
    (λ _. ((c.products-q.result -ℤ c.products-p.result) ∷ c.products-p.result ∷ neg_ℤ c.products-q.result ∷ [], along_of_three (vector_of c.args.a) (vector_of c.args.b) (vector_of c.args.c) _ _ h.first h.second h.some h.line), λ _. tt)

pub weights_by_gram-requires-clause-apart : goal.weights_by_gram-requires-clause-apart
weights_by_gram-requires-clause-apart g c = squared_length_positive (sum_of c.cross-normal.result) (λ e. let t = c.is_zero-2.ensures.1 e in let f = c.if-is_zero-2.false in absurd (cc))

pub returns-then-dim-eq3-clause-answer : goal.returns-then-dim-eq3-clause-answer
returns-then-dim-eq3-clause-answer g c =
    let raw = simp (to_z-of_z (size_fits c.right-r.ensures.size tt), to_z-of_z (size_fits c.right-s.ensures.size tt)) at c.weights_by_gram.ensures in
    gram_answer g.T.Potential.SQUARE c.args.dim g.T.Potential.zero_or_one c.if-dim-eq3.true (vector_of c.args.a) (vector_of c.args.b) (vector_of c.args.c) (three_items g.T.Potential.SQUARE c.args.dim (vector_of c.args.a) (vector_of c.args.b) (vector_of c.args.c) c.requires.items) _
    (same_reduction (same_gram_weights c.less-u.ensures.value c.less-v.ensures.value c.right-r.ensures.value c.right-s.ensures.value) raw) (apart (vector_of c.args.a) (vector_of c.args.b) (vector_of c.args.c) c.less-u.ensures.value c.less-v.ensures.value c.cross-normal.ensures.value (λ e. let t = c.is_zero-2.ensures.1 e in let f = c.if-is_zero-2.false in absurd (cc)))

pub returns-then-dim-eq3-clause-null : goal.returns-then-dim-eq3-clause-null
returns-then-dim-eq3-clause-null g c = (λ none. absurd none, independent_of_three (vector_of c.args.a) (vector_of c.args.b) (vector_of c.args.c) (apart (vector_of c.args.a) (vector_of c.args.b) (vector_of c.args.c) c.less-u.ensures.value c.less-v.ensures.value c.cross-normal.ensures.value (λ e. let t = c.is_zero-2.ensures.1 e in let f = c.if-is_zero-2.false in absurd (cc))))

pub returns-then-SQUARE-eq1-clause-null : goal.returns-then-SQUARE-eq1-clause-null
returns-then-SQUARE-eq1-clause-null g c = (λ none. absurd none, independent_of_three (vector_of c.args.a) (vector_of c.args.b) (vector_of c.args.c) (apart (vector_of c.args.a) (vector_of c.args.b) (vector_of c.args.c) c.less-u.ensures.value c.less-v.ensures.value c.cross-normal.ensures.value (λ e. let t = c.is_zero-2.ensures.1 e in let f = c.if-is_zero-2.false in absurd (cc))))

pub returns-then-normal-lt0-clause-null : goal.returns-then-normal-lt0-clause-null
returns-then-normal-lt0-clause-null g c = (λ none. absurd none, independent_of_three (vector_of c.args.a) (vector_of c.args.b) (vector_of c.args.c) (apart (vector_of c.args.a) (vector_of c.args.b) (vector_of c.args.c) c.less-u.ensures.value c.less-v.ensures.value c.cross-normal.ensures.value (λ e. let t = c.is_zero-2.ensures.1 e in let f = c.if-is_zero-2.false in absurd (cc))))

pub returns-clause-null : goal.returns-clause-null
returns-clause-null g c = (λ none. absurd none, independent_of_three (vector_of c.args.a) (vector_of c.args.b) (vector_of c.args.c) (apart (vector_of c.args.a) (vector_of c.args.b) (vector_of c.args.c) c.less-u.ensures.value c.less-v.ensures.value c.cross-normal.ensures.value (λ e. let t = c.is_zero-2.ensures.1 e in let f = c.if-is_zero-2.false in absurd (cc))))

pub overflow_mul-normal : goal.overflow_mul-normal
overflow_mul-normal g c = let h = twice (size_more c.cross-normal.ensures.within.z tt) in simp (to_z-of_z h.once) h.fits

pub weights_in_plane-requires-clause-x : goal.weights_in_plane-requires-clause-x
weights_in_plane-requires-clause-x g c = (minor_of c.right-r.ensures.size c.less-v.ensures.within.y c.right-s.ensures.size c.less-u.ensures.within.y c.minor-x.ensures).size_back

pub weights_in_plane-requires-clause-y : goal.weights_in_plane-requires-clause-y
weights_in_plane-requires-clause-y g c = (minor_of c.right-s.ensures.size c.less-u.ensures.within.x c.right-r.ensures.size c.less-v.ensures.within.x c.minor-y.ensures).size_back

pub weights_in_plane-requires-clause-k : goal.weights_in_plane-requires-clause-k
weights_in_plane-requires-clause-k g c = let h = twice (size_more c.cross-normal.ensures.within.z tt) in simp (to_z-of_z h.once, to_z-of_z h.fits) (twice_height c.cross-normal.ensures.within.z)

pub weights_in_plane-requires-clause-positive : goal.weights_in_plane-requires-clause-positive
weights_in_plane-requires-clause-positive g c = let h = twice (size_more c.cross-normal.ensures.within.z tt) in simp (to_z-of_z h.once, to_z-of_z h.fits) (square_from {t = c.cross-normal.result.z} refl (some_height g.T.Potential.SQUARE c.args.dim (vector_of c.args.a) (vector_of c.args.b) (vector_of c.args.c) c.requires.items (in_plane c.requires.dim c.if-dim-eq3.false) c.less-u.ensures.value c.less-v.ensures.value c.cross-normal.ensures.value (λ e. let t = c.is_zero-2.ensures.1 e in let f = c.if-is_zero-2.false in absurd (cc))))

pub returns-then-SQUARE-eq1-clause-answer : goal.returns-then-SQUARE-eq1-clause-answer
returns-then-SQUARE-eq1-clause-answer g c =
    let h = twice (size_more c.cross-normal.ensures.within.z tt) in
    let two : c.args.dim ≡ 2 = in_plane c.requires.dim c.if-dim-eq3.false in
    let one : g.T.Potential.SQUARE ≡ pos 1 = let e = c.SQUARE.ensures in let h = c.if-SQUARE-eq1.true in omega (arith, ints) in
    let in_x = minor_of c.right-r.ensures.size c.less-v.ensures.within.y c.right-s.ensures.size c.less-u.ensures.within.y c.minor-x.ensures in
    let in_y = minor_of c.right-s.ensures.size c.less-u.ensures.within.x c.right-r.ensures.size c.less-v.ensures.within.x c.minor-y.ensures in
    let raw = simp (to_z-of_z h.once, to_z-of_z h.fits, to_z-of_z (size_fits in_x.size tt), to_z-of_z (size_fits in_y.size tt)) at c.weights_in_plane.ensures in
    let z_is = height_of c.less-u.ensures.value c.less-v.ensures.value c.cross-normal.ensures.value in
    ball_answer g.T.Potential.SQUARE c.args.dim one two (vector_of c.args.a) (vector_of c.args.b) (vector_of c.args.c) (three_items g.T.Potential.SQUARE c.args.dim (vector_of c.args.a) (vector_of c.args.b) (vector_of c.args.c) c.requires.items) _
    (same_reduction (same_centre_weights (vector_of c.args.a) (vector_of c.args.b) (vector_of c.args.c) c.less-u.ensures.value c.less-v.ensures.value c.right-r.ensures.value c.right-s.ensures.value in_x.value in_y.value (ap (λ n. pos 2 *ℤ n) z_is)) raw)
    (subst (λ n. pos 0 <ℤ (pos 2 *ℤ n *ℤ n)) z_is (twice_square c.cross-normal.result.z (some_height g.T.Potential.SQUARE c.args.dim (vector_of c.args.a) (vector_of c.args.b) (vector_of c.args.c) c.requires.items two c.less-u.ensures.value c.less-v.ensures.value c.cross-normal.ensures.value (λ e. let t = c.is_zero-2.ensures.1 e in let f = c.if-is_zero-2.false in absurd (cc)))))

pub returns-then-normal-lt0-clause-answer : goal.returns-then-normal-lt0-clause-answer
returns-then-normal-lt0-clause-answer g c =
    let x = opposites c.requires.a.x in
    let y = opposites c.requires.a.y in
    let raw = simp (to_z-of_z x.narrow, to_z-of_z x.wide, to_z-of_z y.narrow, to_z-of_z y.wide) at c.weights_in_plane-then-normal-lt0.ensures in
    let x_is : c.args.a.x ≡ pos 1 *ℤ c.args.a.x = omega (arith, ints) in
    let y_is : c.args.a.y ≡ pos 1 *ℤ c.args.a.y = omega (arith, ints) in
    norm_answer g.T.Potential.SQUARE c.args.dim (not_one g.T.Potential.zero_or_one c.SQUARE.ensures c.if-SQUARE-eq1.false) (in_plane c.requires.dim c.if-dim-eq3.false) (vector_of c.args.a) (vector_of c.args.b) (vector_of c.args.c) (three_items g.T.Potential.SQUARE c.args.dim (vector_of c.args.a) (vector_of c.args.b) (vector_of c.args.c) c.requires.items) (negsuc 0) (record { abs = omega arith }) c.requires.a (subst (IsVectorWithin 800000) c.less-u.ensures.value c.less-u.ensures.within) (subst (IsVectorWithin 800000) c.less-v.ensures.value c.less-v.ensures.within) _
    (same_reduction (same_plane_weights {k = negsuc 0} c.less-u.ensures.value c.less-v.ensures.value x_is y_is refl) raw) (below_from (height_of c.less-u.ensures.value c.less-v.ensures.value c.cross-normal.ensures.value) (omega (arith, ints, c.if-normal-lt0.true)))

pub returns-clause-answer : goal.returns-clause-answer
returns-clause-answer g c =
    let x = opposites c.requires.a.x in
    let y = opposites c.requires.a.y in
    let raw = simp (to_z-of_z x.narrow, to_z-of_z x.wide, to_z-of_z x.narrow_opposite, to_z-of_z x.wide_opposite, to_z-of_z y.narrow, to_z-of_z y.wide, to_z-of_z y.narrow_opposite, to_z-of_z y.wide_opposite) at c.weights_in_plane-2.ensures in
    let x_is : pos 0 -ℤ c.args.a.x ≡ negsuc 0 *ℤ c.args.a.x = omega (arith, ints) in
    let y_is : pos 0 -ℤ c.args.a.y ≡ negsuc 0 *ℤ c.args.a.y = omega (arith, ints) in
    norm_answer g.T.Potential.SQUARE c.args.dim (not_one g.T.Potential.zero_or_one c.SQUARE.ensures c.if-SQUARE-eq1.false) (in_plane c.requires.dim c.if-dim-eq3.false) (vector_of c.args.a) (vector_of c.args.b) (vector_of c.args.c) (three_items g.T.Potential.SQUARE c.args.dim (vector_of c.args.a) (vector_of c.args.b) (vector_of c.args.c) c.requires.items) (pos 1) (record { abs = omega arith }) c.requires.a (subst (IsVectorWithin 800000) c.less-u.ensures.value c.less-u.ensures.within) (subst (IsVectorWithin 800000) c.less-v.ensures.value c.less-v.ensures.within) _
    (same_reduction (same_plane_weights {k = pos 1} c.less-u.ensures.value c.less-v.ensures.value x_is y_is refl) raw) (above_from (height_of c.less-u.ensures.value c.less-v.ensures.value c.cross-normal.ensures.value) (some_height g.T.Potential.SQUARE c.args.dim (vector_of c.args.a) (vector_of c.args.b) (vector_of c.args.c) c.requires.items (in_plane c.requires.dim c.if-dim-eq3.false) c.less-u.ensures.value c.less-v.ensures.value c.cross-normal.ensures.value (λ e. let t = c.is_zero-2.ensures.1 e in let f = c.if-is_zero-2.false in absurd (cc))) (omega (arith, ints, c.if-normal-lt0.false)))

pub overflow_sub-a-2 : goal.overflow_sub-a-2
overflow_sub-a-2 g c = let y = opposites c.requires.a.y in simp (to_z-of_z y.narrow) y.narrow_opposite

pub weights_in_plane-requires-2-clause-x : goal.weights_in_plane-requires-2-clause-x
weights_in_plane-requires-2-clause-x g c = let x = opposites c.requires.a.x in simp (to_z-of_z x.narrow, to_z-of_z x.narrow_opposite, to_z-of_z x.wide_opposite) x.size

pub weights_in_plane-requires-2-clause-y : goal.weights_in_plane-requires-2-clause-y
weights_in_plane-requires-2-clause-y g c = let y = opposites c.requires.a.y in simp (to_z-of_z y.narrow, to_z-of_z y.narrow_opposite, to_z-of_z y.wide_opposite) y.size

pub weights_in_plane-requires-2-clause-positive : goal.weights_in_plane-requires-2-clause-positive
weights_in_plane-requires-2-clause-positive g c = above_from {t = c.cross-normal.result.z} refl (some_height g.T.Potential.SQUARE c.args.dim (vector_of c.args.a) (vector_of c.args.b) (vector_of c.args.c) c.requires.items (in_plane c.requires.dim c.if-dim-eq3.false) c.less-u.ensures.value c.less-v.ensures.value c.cross-normal.ensures.value (λ e. let t = c.is_zero-2.ensures.1 e in let f = c.if-is_zero-2.false in absurd (cc))) (omega (arith, ints, c.if-normal-lt0.false))
