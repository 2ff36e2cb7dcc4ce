use Rattle.std.proofs.Common.{◌≡◌, refl, sym, ◌∙◌, ap, ap₂, subst, ◌^◌, pos, negsuc, neg_ℤ, ◌-ℤ◌, ◌*ℤ◌, ◌<ℤ◌, [], ◌∷◌, arith}
use Rattle.std.proofs.lemmas.Int.{ints}
use Rattle.std.proofs.Math.Facts.{to_z-of_z}
use Rattle.integers.proofs.Sizes.{size_fits}
use Rattle.bounds_model.specs.Space.{dot}
use Rattle.bounds_model.specs.Slacks.{IsDependence}
use Rattle.kernel_laws.specs.Limits.{IsVectorWithin}
use Rattle.kernel_laws.specs.Vectors.{vector_of}
use Rattle.kernel_laws.proofs.SideLimits.{more_within}
use Rattle.kernel_laws.proofs.Independence.{independent_of_four}
use Rattle.kernel_laws.proofs.Shown.{in_plane_of_four}
use Rattle.kernel_laws.proofs.Four.{are_near, ball_answer, norm_answer, same_space_weights, opposite_within, once}
use Rattle.kernel_laws.proofs.Products.{same_reduction, wide_within, near, near_cross, Volume, volume_of, flat, some_volume, solid, centre_of, PlaneNumbers, plane_numbers, plane_remainders, twice, below_from, above_from, square_from, not_one}
use Rattle.kernel_laws.proofs.solver.four_in_space.Goals as goal

pub dot-volume-requires-clause-s : goal.dot-volume-requires-clause-s
dot-volume-requires-clause-s g c = more_within (omega arith) c.cross-normal.ensures.within

pub dot-volume-requires-clause-t : goal.dot-volume-requires-clause-t
dot-volume-requires-clause-t g c = wide_within c.less-w.ensures.within c.wide.ensures

pub dot-p-requires-clause-s : goal.dot-p-requires-clause-s
dot-p-requires-clause-s g c = more_within (omega arith) c.cross-wv.ensures.within

pub dot-q-requires-clause-s : goal.dot-q-requires-clause-s
dot-q-requires-clause-s g c = more_within (omega arith) c.cross-uw.ensures.within

pub dot-s-requires-clause-s : goal.dot-s-requires-clause-s
dot-s-requires-clause-s g c = more_within (omega arith) c.cross-normal.ensures.within

pub overflow_sub-s : goal.overflow_sub-s
overflow_sub-s g c =
    let h = plane_remainders c.cross-normal.ensures.within c.cross-wv.ensures.within c.cross-uw.ensures.within c.dot-p.ensures c.dot-q.ensures c.dot-s.ensures in
    simp (to_z-of_z h.whole, to_z-of_z h.first) h.less_first

pub returns-then-volume-eq0-clause-answer : goal.returns-then-volume-eq0-clause-answer
returns-then-volume-eq0-clause-answer g c =
    let r = plane_remainders c.cross-normal.ensures.within c.cross-wv.ensures.within c.cross-uw.ensures.within c.dot-p.ensures c.dot-q.ensures c.dot-s.ensures in
    let h : PlaneNumbers (vector_of c.args.a) (vector_of c.args.b) (vector_of c.args.c) (vector_of c.args.d) c.dot-p.result c.dot-q.result c.dot-s.result = plane_numbers (vector_of c.args.a) (vector_of c.args.b) (vector_of c.args.c) (vector_of c.args.d) c.less-u.ensures.value c.less-v.ensures.value c.less-w.ensures.value c.cross-normal.ensures.value c.cross-wv.ensures.value c.cross-uw.ensures.value c.dot-p.ensures c.dot-q.ensures c.dot-s.ensures in
    let items : c.of_four.result.items ≡ (c.dot-s.result -ℤ c.dot-p.result -ℤ c.dot-q.result) ∷ c.dot-p.result ∷ c.dot-q.result ∷ neg_ℤ c.dot-s.result ∷ [] = simp (to_z-of_z r.whole, to_z-of_z r.first, to_z-of_z r.second, to_z-of_z r.less_first, to_z-of_z r.less_both, r.below, to_z-of_z r.negative) at c.of_four.ensures in
    subst (IsDependence (vector_of c.args.a ∷ vector_of c.args.b ∷ vector_of c.args.c ∷ vector_of c.args.d ∷ [])) (sym items) (in_plane_of_four (vector_of c.args.a) (vector_of c.args.b) (vector_of c.args.c) (vector_of c.args.d) _ _ _ h.first h.second h.third (subst (λ n. pos 0 <ℤ n) (sym h.third) c.requires.apart) (flat (volume_of c.requires.a c.requires.b c.requires.c c.requires.d c.less-u.ensures.value c.less-v.ensures.value c.less-w.ensures.value c.cross-normal.ensures.value c.wide.ensures c.dot-volume.ensures) c.if-volume-eq0.true))

pub returns-then-volume-eq0-clause-null : goal.returns-then-volume-eq0-clause-null
returns-then-volume-eq0-clause-null g c =
    let h : PlaneNumbers (vector_of c.args.a) (vector_of c.args.b) (vector_of c.args.c) (vector_of c.args.d) c.dot-p.result c.dot-q.result c.dot-s.result = plane_numbers (vector_of c.args.a) (vector_of c.args.b) (vector_of c.args.c) (vector_of c.args.d) c.less-u.ensures.value c.less-v.ensures.value c.less-w.ensures.value c.cross-normal.ensures.value c.cross-wv.ensures.value c.cross-uw.ensures.value c.dot-p.ensures c.dot-q.ensures c.dot-s.ensures in
    (λ _. (_, in_plane_of_four (vector_of c.args.a) (vector_of c.args.b) (vector_of c.args.c) (vector_of c.args.d) _ _ _ h.first h.second h.third (subst (λ n. pos 0 <ℤ n) (sym h.third) c.requires.apart) (flat (volume_of c.requires.a c.requires.b c.requires.c c.requires.d c.less-u.ensures.value c.less-v.ensures.value c.less-w.ensures.value c.cross-normal.ensures.value c.wide.ensures c.dot-volume.ensures) c.if-volume-eq0.true)), λ _. tt)

pub returns-then-SQUARE-eq1-clause-null : goal.returns-then-SQUARE-eq1-clause-null
returns-then-SQUARE-eq1-clause-null g c = (λ none. absurd none, independent_of_four (vector_of c.args.a) (vector_of c.args.b) (vector_of c.args.c) (vector_of c.args.d) (solid (volume_of c.requires.a c.requires.b c.requires.c c.requires.d c.less-u.ensures.value c.less-v.ensures.value c.less-w.ensures.value c.cross-normal.ensures.value c.wide.ensures c.dot-volume.ensures) c.if-volume-eq0.false))

pub returns-then-volume-lt0-clause-null : goal.returns-then-volume-lt0-clause-null
returns-then-volume-lt0-clause-null g c = (λ none. absurd none, independent_of_four (vector_of c.args.a) (vector_of c.args.b) (vector_of c.args.c) (vector_of c.args.d) (solid (volume_of c.requires.a c.requires.b c.requires.c c.requires.d c.less-u.ensures.value c.less-v.ensures.value c.less-w.ensures.value c.cross-normal.ensures.value c.wide.ensures c.dot-volume.ensures) c.if-volume-eq0.false))

pub returns-clause-null : goal.returns-clause-null
returns-clause-null g c = (λ none. absurd none, independent_of_four (vector_of c.args.a) (vector_of c.args.b) (vector_of c.args.c) (vector_of c.args.d) (solid (volume_of c.requires.a c.requires.b c.requires.c c.requires.d c.less-u.ensures.value c.less-v.ensures.value c.less-w.ensures.value c.cross-normal.ensures.value c.wide.ensures c.dot-volume.ensures) c.if-volume-eq0.false))

pub combined-m-requires-clause-n : goal.combined-m-requires-clause-n
combined-m-requires-clause-n g c = near_cross (near c.requires.a c.requires.c c.less-v.ensures.value) (near c.requires.a c.requires.d c.less-w.ensures.value) c.cross-vw.ensures.value

pub combined-m-requires-clause-o : goal.combined-m-requires-clause-o
combined-m-requires-clause-o g c = near_cross (near c.requires.a c.requires.d c.less-w.ensures.value) (near c.requires.a c.requires.b c.less-u.ensures.value) c.cross-wu.ensures.value

pub combined-m-requires-clause-p : goal.combined-m-requires-clause-p
combined-m-requires-clause-p g c = near_cross (near c.requires.a c.requires.b c.less-u.ensures.value) (near c.requires.a c.requires.c c.less-v.ensures.value) c.cross-normal.ensures.value

pub overflow_mul-volume : goal.overflow_mul-volume
overflow_mul-volume g c =
    let h = twice (volume_of c.requires.a c.requires.b c.requires.c c.requires.d c.less-u.ensures.value c.less-v.ensures.value c.less-w.ensures.value c.cross-normal.ensures.value c.wide.ensures c.dot-volume.ensures).size in
    simp (to_z-of_z h.once) h.fits

pub weights_in_space-requires-clause-u : goal.weights_in_space-requires-clause-u
weights_in_space-requires-clause-u g c = near c.requires.a c.requires.b c.less-u.ensures.value

pub weights_in_space-requires-clause-v : goal.weights_in_space-requires-clause-v
weights_in_space-requires-clause-v g c = near c.requires.a c.requires.c c.less-v.ensures.value

pub weights_in_space-requires-clause-w : goal.weights_in_space-requires-clause-w
weights_in_space-requires-clause-w g c = near c.requires.a c.requires.d c.less-w.ensures.value

pub weights_in_space-requires-2-clause-u : goal.weights_in_space-requires-2-clause-u
weights_in_space-requires-2-clause-u g c = near c.requires.a c.requires.b c.less-u.ensures.value

pub weights_in_space-requires-2-clause-v : goal.weights_in_space-requires-2-clause-v
weights_in_space-requires-2-clause-v g c = near c.requires.a c.requires.c c.less-v.ensures.value

pub weights_in_space-requires-2-clause-w : goal.weights_in_space-requires-2-clause-w
weights_in_space-requires-2-clause-w g c = near c.requires.a c.requires.d c.less-w.ensures.value

pub weights_in_space-requires-clause-k : goal.weights_in_space-requires-clause-k
weights_in_space-requires-clause-k g c =
    let h = twice (volume_of c.requires.a c.requires.b c.requires.c c.requires.d c.less-u.ensures.value c.less-v.ensures.value c.less-w.ensures.value c.cross-normal.ensures.value c.wide.ensures c.dot-volume.ensures).size in
    simp (to_z-of_z h.once, to_z-of_z h.fits) h.size

pub weights_in_space-requires-clause-positive : goal.weights_in_space-requires-clause-positive
weights_in_space-requires-clause-positive g c =
    let h = volume_of c.requires.a c.requires.b c.requires.c c.requires.d c.less-u.ensures.value c.less-v.ensures.value c.less-w.ensures.value c.cross-normal.ensures.value c.wide.ensures c.dot-volume.ensures in
    let r = twice h.size in
    simp (to_z-of_z r.once, to_z-of_z r.fits) (square_from (c.dot-volume.ensures ∙ ap₂ dot c.cross-normal.ensures.value c.wide.ensures) (some_volume h c.if-volume-eq0.false))

pub returns-then-SQUARE-eq1-clause-answer : goal.returns-then-SQUARE-eq1-clause-answer
returns-then-SQUARE-eq1-clause-answer g c =
    let h : Volume (vector_of c.args.a) (vector_of c.args.b) (vector_of c.args.c) (vector_of c.args.d) c.dot-volume.result = volume_of c.requires.a c.requires.b c.requires.c c.requires.d c.less-u.ensures.value c.less-v.ensures.value c.less-w.ensures.value c.cross-normal.ensures.value c.wide.ensures c.dot-volume.ensures in
    let one : g.T.Potential.SQUARE ≡ pos 1 = let e = c.SQUARE.ensures in let h = c.if-SQUARE-eq1.true in omega (arith, ints) in
    let centre = simp (to_z-of_z (size_fits c.right-r.ensures.size tt), to_z-of_z (size_fits c.right-s.ensures.size tt), to_z-of_z (size_fits c.right-t.ensures.size tt)) at c.combined-m.ensures.value in
    let m_is = centre_of g.T.Potential.SQUARE (vector_of c.args.a) (vector_of c.args.b) (vector_of c.args.c) (vector_of c.args.d) c.less-u.ensures.value c.less-v.ensures.value c.less-w.ensures.value c.cross-normal.ensures.value c.cross-vw.ensures.value c.cross-wu.ensures.value c.right-r.ensures.value c.right-s.ensures.value c.right-t.ensures.value centre in
    let raw = let double = twice h.size in simp (to_z-of_z double.once, to_z-of_z double.fits) at c.weights_in_space.ensures in
    ball_answer g.T.Potential.SQUARE one (vector_of c.args.a) (vector_of c.args.b) (vector_of c.args.c) (vector_of c.args.d) (are_near g.T.Potential.SQUARE (vector_of c.args.a) (vector_of c.args.b) (vector_of c.args.c) (vector_of c.args.d) c.requires.items one) _
    (same_reduction (same_space_weights c.less-u.ensures.value c.less-v.ensures.value c.less-w.ensures.value m_is (ap (λ n. pos 2 *ℤ n) h.value)) raw) (square_from refl (solid h c.if-volume-eq0.false))

pub weights_in_space-requires-2-clause-m : goal.weights_in_space-requires-2-clause-m
weights_in_space-requires-2-clause-m g c = subst (IsVectorWithin (2 ^ 75)) (sym c.negative.ensures) (opposite_within (vector_of c.args.a) (more_within (omega arith) c.requires.a))

pub weights_in_space-requires-2-clause-positive : goal.weights_in_space-requires-2-clause-positive
weights_in_space-requires-2-clause-positive g c = above_from (c.dot-volume.ensures ∙ ap₂ dot c.cross-normal.ensures.value c.wide.ensures) (some_volume (volume_of c.requires.a c.requires.b c.requires.c c.requires.d c.less-u.ensures.value c.less-v.ensures.value c.less-w.ensures.value c.cross-normal.ensures.value c.wide.ensures c.dot-volume.ensures) c.if-volume-eq0.false) (omega (arith, ints, c.if-volume-lt0.false))

pub returns-then-volume-lt0-clause-answer : goal.returns-then-volume-lt0-clause-answer
returns-then-volume-lt0-clause-answer g c =
    let h : Volume (vector_of c.args.a) (vector_of c.args.b) (vector_of c.args.c) (vector_of c.args.d) c.dot-volume.result = volume_of c.requires.a c.requires.b c.requires.c c.requires.d c.less-u.ensures.value c.less-v.ensures.value c.less-w.ensures.value c.cross-normal.ensures.value c.wide.ensures c.dot-volume.ensures in
    norm_answer g.T.Potential.SQUARE (not_one g.T.Potential.zero_or_one c.SQUARE.ensures c.if-SQUARE-eq1.false) (vector_of c.args.a) (vector_of c.args.b) (vector_of c.args.c) (vector_of c.args.d) (negsuc 0) (record { abs = omega arith }) c.requires.a c.requires.b c.requires.c c.requires.d _
    (same_reduction (same_space_weights {k = negsuc 0} c.less-u.ensures.value c.less-v.ensures.value c.less-w.ensures.value (c.wide-then-volume-lt0.ensures ∙ once (vector_of c.args.a)) refl) c.weights_in_space-then-volume-lt0.ensures)
    (below_from h.value (omega (arith, ints, c.if-volume-lt0.true)))

pub returns-clause-answer : goal.returns-clause-answer
returns-clause-answer g c =
    let h : Volume (vector_of c.args.a) (vector_of c.args.b) (vector_of c.args.c) (vector_of c.args.d) c.dot-volume.result = volume_of c.requires.a c.requires.b c.requires.c c.requires.d c.less-u.ensures.value c.less-v.ensures.value c.less-w.ensures.value c.cross-normal.ensures.value c.wide.ensures c.dot-volume.ensures in
    norm_answer g.T.Potential.SQUARE (not_one g.T.Potential.zero_or_one c.SQUARE.ensures c.if-SQUARE-eq1.false) (vector_of c.args.a) (vector_of c.args.b) (vector_of c.args.c) (vector_of c.args.d) (pos 1) (record { abs = omega arith }) c.requires.a c.requires.b c.requires.c c.requires.d _
    (same_reduction (same_space_weights {k = pos 1} c.less-u.ensures.value c.less-v.ensures.value c.less-w.ensures.value c.negative.ensures refl) c.weights_in_space-2.ensures)
    (above_from h.value (some_volume h c.if-volume-eq0.false) (omega (arith, ints, c.if-volume-lt0.false)))

pub overflow_sub-s-then-volume-eq0 : goal.overflow_sub-s-then-volume-eq0
overflow_sub-s-then-volume-eq0 g c =
    let h = plane_remainders c.cross-normal.ensures.within c.cross-wv.ensures.within c.cross-uw.ensures.within c.dot-p.ensures c.dot-q.ensures c.dot-s.ensures in
    simp (to_z-of_z h.whole, to_z-of_z h.first, to_z-of_z h.second, to_z-of_z h.less_first) h.less_both

pub overflow_sub-s-then-volume-eq0-2 : goal.overflow_sub-s-then-volume-eq0-2
overflow_sub-s-then-volume-eq0-2 g c =
    let h = plane_remainders c.cross-normal.ensures.within c.cross-wv.ensures.within c.cross-uw.ensures.within c.dot-p.ensures c.dot-q.ensures c.dot-s.ensures in
    simp (to_z-of_z h.whole) h.opposite

pub weights_in_space-requires-then-volume-lt0-clause-u : goal.weights_in_space-requires-then-volume-lt0-clause-u
weights_in_space-requires-then-volume-lt0-clause-u g c = near c.requires.a c.requires.b c.less-u.ensures.value

pub weights_in_space-requires-then-volume-lt0-clause-v : goal.weights_in_space-requires-then-volume-lt0-clause-v
weights_in_space-requires-then-volume-lt0-clause-v g c = near c.requires.a c.requires.c c.less-v.ensures.value

pub weights_in_space-requires-then-volume-lt0-clause-w : goal.weights_in_space-requires-then-volume-lt0-clause-w
weights_in_space-requires-then-volume-lt0-clause-w g c = near c.requires.a c.requires.d c.less-w.ensures.value

pub weights_in_space-requires-then-volume-lt0-clause-positive : goal.weights_in_space-requires-then-volume-lt0-clause-positive
weights_in_space-requires-then-volume-lt0-clause-positive g c = below_from (c.dot-volume.ensures ∙ ap₂ dot c.cross-normal.ensures.value c.wide.ensures) (omega (arith, ints, c.if-volume-lt0.true))
