use Rattle.std.proofs.Common.{◌≡◌, sym, ◌∙◌, subst, pos, negsuc, neg_ℤ, ◌-ℤ◌, [], ◌∷◌}
use Rattle.std.proofs.Math.Facts.{to_z-of_z}
use Rattle.bounds_model.specs.Space.{vector, origin}
use Rattle.bounds_model.specs.Slacks.{IsDependence}
use Rattle.kernel_laws.specs.Vectors.{vector_of}
use Rattle.kernel_laws.specs.Solutions.{AreItems, weight_limit}
use Rattle.kernel_laws.specs.Answers.{Answers}
use Rattle.kernel_laws.proofs.Repeats.{repeated_of_four}
use Rattle.kernel_laws.proofs.Shown.{along_of_four}
use Rattle.kernel_laws.proofs.Items.{heights_shown, near_items, in_space}
use Rattle.kernel_laws.proofs.Products.{apart, height_of, LineNumbers, line_numbers, line_remainders, height_remainders}
use Rattle.kernel_laws.proofs.solver.solve_four.Goals as goal

pub returns-then-is_zero-clause-answer : goal.returns-then-is_zero-clause-answer
returns-then-is_zero-clause-answer g c =
    let none : vector (vector_of c.args.a) (vector_of c.args.b) ≡ origin = sym c.less-u.ensures.value ∙ sym c.wide.ensures ∙ c.is_zero.ensures.0 c.if-is_zero.true in
    subst (IsDependence (vector_of c.args.a ∷ vector_of c.args.b ∷ vector_of c.args.c ∷ vector_of c.args.d ∷ [])) (sym c.of_four.ensures) (repeated_of_four (vector_of c.args.a) (vector_of c.args.b) (vector_of c.args.c) (vector_of c.args.d) none)

pub returns-then-is_zero-clause-null : goal.returns-then-is_zero-clause-null
returns-then-is_zero-clause-null g c =
    let none : vector (vector_of c.args.a) (vector_of c.args.b) ≡ origin = sym c.less-u.ensures.value ∙ sym c.wide.ensures ∙ c.is_zero.ensures.0 c.if-is_zero.true in
    (λ _. (pos 1 ∷ negsuc 0 ∷ pos 0 ∷ pos 0 ∷ [], repeated_of_four (vector_of c.args.a) (vector_of c.args.b) (vector_of c.args.c) (vector_of c.args.d) none), λ _. tt)

pub overflow_sub-q : goal.overflow_sub-q
overflow_sub-q g c =
    let h = line_remainders c.less-u.ensures.within c.less-v.ensures.within c.products-p.ensures c.products-q.ensures in
    simp (to_z-of_z h.whole, to_z-of_z h.first) h.less_first

pub overflow_sub-q-then-is_zero-2 : goal.overflow_sub-q-then-is_zero-2
overflow_sub-q-then-is_zero-2 g c =
    let h = line_remainders c.less-u.ensures.within c.less-v.ensures.within c.products-p.ensures c.products-q.ensures in
    simp (to_z-of_z h.whole) h.opposite

pub returns-then-is_zero-2-clause-answer : goal.returns-then-is_zero-2-clause-answer
returns-then-is_zero-2-clause-answer g c =
    let r = line_remainders c.less-u.ensures.within c.less-v.ensures.within c.products-p.ensures c.products-q.ensures in
    let h : LineNumbers (vector_of c.args.a) (vector_of c.args.b) (vector_of c.args.c) c.products-p.result c.products-q.result = line_numbers (vector_of c.args.a) (vector_of c.args.b) (vector_of c.args.c) c.less-u.ensures.value c.less-v.ensures.value c.cross-normal.ensures.value c.products-p.ensures c.products-q.ensures (λ e. let t = c.is_zero.ensures.1 (c.wide.ensures ∙ e) in let f = c.if-is_zero.false in absurd (cc)) (c.is_zero-2.ensures.0 c.if-is_zero-2.true) in
    let items : c.of_four-then-is_zero-2.result.items ≡ (c.products-q.result -ℤ c.products-p.result) ∷ c.products-p.result ∷ neg_ℤ c.products-q.result ∷ pos 0 ∷ [] = simp (to_z-of_z r.whole, to_z-of_z r.first, to_z-of_z r.less_first, r.below, to_z-of_z r.negative) at c.of_four-then-is_zero-2.ensures in
    subst (IsDependence (vector_of c.args.a ∷ vector_of c.args.b ∷ vector_of c.args.c ∷ vector_of c.args.d ∷ [])) (sym items) (along_of_four (vector_of c.args.a) (vector_of c.args.b) (vector_of c.args.c) (vector_of c.args.d) _ _ h.first h.second h.some h.line)

pub returns-then-is_zero-2-clause-null : goal.returns-then-is_zero-2-clause-null
returns-then-is_zero-2-clause-null g c =
    let h : LineNumbers (vector_of c.args.a) (vector_of c.args.b) (vector_of c.args.c) c.products-p.result c.products-q.result = line_numbers (vector_of c.args.a) (vector_of c.args.b) (vector_of c.args.c) c.less-u.ensures.value c.less-v.ensures.value c.cross-normal.ensures.value c.products-p.ensures c.products-q.ensures (λ e. let t = c.is_zero.ensures.1 (c.wide.ensures ∙ e) in let f = c.if-is_zero.false in absurd (cc)) (c.is_zero-2.ensures.0 c.if-is_zero-2.true) in
    (λ _. ((c.products-q.result -ℤ c.products-p.result) ∷ c.products-p.result ∷ neg_ℤ c.products-q.result ∷ pos 0 ∷ [], along_of_four (vector_of c.args.a) (vector_of c.args.b) (vector_of c.args.c) (vector_of c.args.d) _ _ h.first h.second h.some h.line), λ _. tt)

pub overflow_sub-height : goal.overflow_sub-height
overflow_sub-height g c =
    let h = height_remainders c.cross-normal.ensures.within c.cross-wv.ensures.within c.cross-uw.ensures.within in
    simp (to_z-of_z h.whole, to_z-of_z h.first) h.less_first

pub overflow_sub-height-then-dim-eq2 : goal.overflow_sub-height-then-dim-eq2
overflow_sub-height-then-dim-eq2 g c =
    let h = height_remainders c.cross-normal.ensures.within c.cross-wv.ensures.within c.cross-uw.ensures.within in
    simp (to_z-of_z h.whole, to_z-of_z h.first, to_z-of_z h.second, to_z-of_z h.less_first) h.less_both

pub overflow_sub-height-then-dim-eq2-2 : goal.overflow_sub-height-then-dim-eq2-2
overflow_sub-height-then-dim-eq2-2 g c =
    let h = height_remainders c.cross-normal.ensures.within c.cross-wv.ensures.within c.cross-uw.ensures.within in
    simp (to_z-of_z h.whole) h.opposite

pub returns-then-dim-eq2-clause-answer : goal.returns-then-dim-eq2-clause-answer
returns-then-dim-eq2-clause-answer g c =
    let r = height_remainders c.cross-normal.ensures.within c.cross-wv.ensures.within c.cross-uw.ensures.within in
    let items : c.of_four-then-dim-eq2.result.items ≡ (c.cross-normal.result.z -ℤ c.cross-wv.result.z -ℤ c.cross-uw.result.z) ∷ c.cross-wv.result.z ∷ c.cross-uw.result.z ∷ neg_ℤ c.cross-normal.result.z ∷ [] = simp (to_z-of_z r.whole, to_z-of_z r.first, to_z-of_z r.second, to_z-of_z r.less_first, to_z-of_z r.less_both, r.below, to_z-of_z r.negative) at c.of_four-then-dim-eq2.ensures in
    subst (IsDependence (vector_of c.args.a ∷ vector_of c.args.b ∷ vector_of c.args.c ∷ vector_of c.args.d ∷ [])) (sym items)
    (heights_shown g.T.Potential.SQUARE c.args.dim (vector_of c.args.a) (vector_of c.args.b) (vector_of c.args.c) (vector_of c.args.d) c.requires.items c.if-dim-eq2.true (height_of c.less-w.ensures.value c.less-v.ensures.value c.cross-wv.ensures.value) (height_of c.less-u.ensures.value c.less-w.ensures.value c.cross-uw.ensures.value) (height_of c.less-u.ensures.value c.less-v.ensures.value c.cross-normal.ensures.value) (apart (vector_of c.args.a) (vector_of c.args.b) (vector_of c.args.c) c.less-u.ensures.value c.less-v.ensures.value c.cross-normal.ensures.value (λ e. let t = c.is_zero-2.ensures.1 e in let f = c.if-is_zero-2.false in absurd (cc))))

pub returns-then-dim-eq2-clause-null : goal.returns-then-dim-eq2-clause-null
returns-then-dim-eq2-clause-null g c = (λ _. ((c.cross-normal.result.z -ℤ c.cross-wv.result.z -ℤ c.cross-uw.result.z) ∷ c.cross-wv.result.z ∷ c.cross-uw.result.z ∷ neg_ℤ c.cross-normal.result.z ∷ [], heights_shown g.T.Potential.SQUARE c.args.dim (vector_of c.args.a) (vector_of c.args.b) (vector_of c.args.c) (vector_of c.args.d) c.requires.items c.if-dim-eq2.true (height_of c.less-w.ensures.value c.less-v.ensures.value c.cross-wv.ensures.value) (height_of c.less-u.ensures.value c.less-w.ensures.value c.cross-uw.ensures.value) (height_of c.less-u.ensures.value c.less-v.ensures.value c.cross-normal.ensures.value) (apart (vector_of c.args.a) (vector_of c.args.b) (vector_of c.args.c) c.less-u.ensures.value c.less-v.ensures.value c.cross-normal.ensures.value (λ e. let t = c.is_zero-2.ensures.1 e in let f = c.if-is_zero-2.false in absurd (cc)))), λ _. tt)

pub four_in_space-requires-clause-items : goal.four_in_space-requires-clause-items
four_in_space-requires-clause-items g c = subst (λ d. AreItems g.T.Potential.SQUARE d (vector_of c.args.a ∷ vector_of c.args.b ∷ vector_of c.args.c ∷ vector_of c.args.d ∷ [])) (in_space c.requires.dim c.if-dim-eq2.false) c.requires.items

pub four_in_space-requires-clause-apart : goal.four_in_space-requires-clause-apart
four_in_space-requires-clause-apart g c = apart (vector_of c.args.a) (vector_of c.args.b) (vector_of c.args.c) c.less-u.ensures.value c.less-v.ensures.value c.cross-normal.ensures.value (λ e. let t = c.is_zero-2.ensures.1 e in let f = c.if-is_zero-2.false in absurd (cc))

pub four_in_space-requires-clause-a : goal.four_in_space-requires-clause-a
four_in_space-requires-clause-a g c = (near_items g.T.Potential.SQUARE c.args.dim (vector_of c.args.a) (vector_of c.args.b) (vector_of c.args.c) (vector_of c.args.d) c.requires.items (in_space c.requires.dim c.if-dim-eq2.false)).first

pub four_in_space-requires-clause-b : goal.four_in_space-requires-clause-b
four_in_space-requires-clause-b g c = (near_items g.T.Potential.SQUARE c.args.dim (vector_of c.args.a) (vector_of c.args.b) (vector_of c.args.c) (vector_of c.args.d) c.requires.items (in_space c.requires.dim c.if-dim-eq2.false)).second

pub four_in_space-requires-clause-c : goal.four_in_space-requires-clause-c
four_in_space-requires-clause-c g c = (near_items g.T.Potential.SQUARE c.args.dim (vector_of c.args.a) (vector_of c.args.b) (vector_of c.args.c) (vector_of c.args.d) c.requires.items (in_space c.requires.dim c.if-dim-eq2.false)).third

pub four_in_space-requires-clause-d : goal.four_in_space-requires-clause-d
four_in_space-requires-clause-d g c = (near_items g.T.Potential.SQUARE c.args.dim (vector_of c.args.a) (vector_of c.args.b) (vector_of c.args.c) (vector_of c.args.d) c.requires.items (in_space c.requires.dim c.if-dim-eq2.false)).fourth

pub returns-clause-answer : goal.returns-clause-answer
returns-clause-answer g c = subst (λ d. Answers g.T.Potential.SQUARE (weight_limit g.T.Potential.SQUARE d) (vector_of c.args.a ∷ vector_of c.args.b ∷ vector_of c.args.c ∷ vector_of c.args.d ∷ []) c.four_in_space.result) (sym (in_space c.requires.dim c.if-dim-eq2.false)) c.four_in_space.ensures.answer
