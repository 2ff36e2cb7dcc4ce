use Rattle.std.proofs.Common.{◌≡◌, sym, ◌∙◌, subst, pos, neg_ℤ, ◌-ℤ◌, ◌<ℤ◌, [], ◌∷◌, arith}
use Rattle.std.proofs.Math.Facts.{to_z-of_z}
use Rattle.bounds_model.specs.Space.{vector, origin}
use Rattle.bounds_model.specs.Slacks.{IsDependence}
use Rattle.kernel_laws.specs.Vectors.{vector_of}
use Rattle.kernel_laws.proofs.SideLimits.{more_within}
use Rattle.kernel_laws.proofs.Crosses.{not_zero_from}
use Rattle.kernel_laws.proofs.Repeats.{repeated_of_five}
use Rattle.kernel_laws.proofs.Shown.{along_of_five, in_plane_of_five, of_space_of_five}
use Rattle.kernel_laws.proofs.Products.{triple_of, wide_within, apart, volume_of, flat, LineNumbers, line_numbers, PlaneNumbers, plane_numbers, line_remainders, plane_remainders, space_remainders}
use Rattle.kernel_laws.proofs.solver.solve_five.Goals as goal

pub returns-then-is_zero : goal.returns-then-is_zero
returns-then-is_zero c =
    let none : vector (vector_of c.args.a) (vector_of c.args.b) ≡ origin = sym c.less-u.ensures.value ∙ sym c.wide.ensures ∙ c.is_zero.ensures.0 c.if-is_zero.true in
    subst (IsDependence (vector_of c.args.a ∷ vector_of c.args.b ∷ vector_of c.args.c ∷ vector_of c.args.d ∷ vector_of c.args.e ∷ [])) (sym c.of_five.ensures) (repeated_of_five (vector_of c.args.a) (vector_of c.args.b) (vector_of c.args.c) (vector_of c.args.d) (vector_of c.args.e) none)

pub overflow_sub-q : goal.overflow_sub-q
overflow_sub-q c =
    let h = line_remainders c.less-u.ensures.within c.less-v.ensures.within c.products-p.ensures c.products-q.ensures in
    simp (to_z-of_z h.whole, to_z-of_z h.first) h.less_first

pub overflow_sub-q-then-is_zero-2 : goal.overflow_sub-q-then-is_zero-2
overflow_sub-q-then-is_zero-2 c =
    let h = line_remainders c.less-u.ensures.within c.less-v.ensures.within c.products-p.ensures c.products-q.ensures in
    simp (to_z-of_z h.whole) h.opposite

pub returns-then-is_zero-2 : goal.returns-then-is_zero-2
returns-then-is_zero-2 c =
    let r = line_remainders c.less-u.ensures.within c.less-v.ensures.within c.products-p.ensures c.products-q.ensures in
    let h : LineNumbers (vector_of c.args.a) (vector_of c.args.b) (vector_of c.args.c) c.products-p.result c.products-q.result = line_numbers (vector_of c.args.a) (vector_of c.args.b) (vector_of c.args.c) c.less-u.ensures.value c.less-v.ensures.value c.cross-normal.ensures.value c.products-p.ensures c.products-q.ensures (λ e. let t = c.is_zero.ensures.1 (c.wide.ensures ∙ e) in let f = c.if-is_zero.false in absurd (cc)) (c.is_zero-2.ensures.0 c.if-is_zero-2.true) in
    let items : c.of_five-then-is_zero-2.result.items ≡ (c.products-q.result -ℤ c.products-p.result) ∷ c.products-p.result ∷ neg_ℤ c.products-q.result ∷ pos 0 ∷ pos 0 ∷ [] = simp (to_z-of_z r.whole, to_z-of_z r.first, to_z-of_z r.less_first, r.below, to_z-of_z r.negative) at c.of_five-then-is_zero-2.ensures in
    subst (IsDependence (vector_of c.args.a ∷ vector_of c.args.b ∷ vector_of c.args.c ∷ vector_of c.args.d ∷ vector_of c.args.e ∷ [])) (sym items) (along_of_five (vector_of c.args.a) (vector_of c.args.b) (vector_of c.args.c) (vector_of c.args.d) (vector_of c.args.e) _ _ h.first h.second h.some h.line)

pub dot-volume-requires-clause-s : goal.dot-volume-requires-clause-s
dot-volume-requires-clause-s c = more_within (omega arith) c.cross-normal.ensures.within

pub dot-volume-requires-clause-t : goal.dot-volume-requires-clause-t
dot-volume-requires-clause-t c = wide_within c.less-w.ensures.within c.wide-far.ensures

pub dot-p-requires-clause-s : goal.dot-p-requires-clause-s
dot-p-requires-clause-s c = more_within (omega arith) c.cross-wv.ensures.within

pub dot-q-requires-clause-s : goal.dot-q-requires-clause-s
dot-q-requires-clause-s c = more_within (omega arith) c.cross-uw.ensures.within

pub dot-s-requires-clause-s : goal.dot-s-requires-clause-s
dot-s-requires-clause-s c = more_within (omega arith) c.cross-normal.ensures.within

pub overflow_sub-s : goal.overflow_sub-s
overflow_sub-s c =
    let h = plane_remainders c.cross-normal.ensures.within c.cross-wv.ensures.within c.cross-uw.ensures.within c.dot-p.ensures c.dot-q.ensures c.dot-s.ensures in
    simp (to_z-of_z h.whole, to_z-of_z h.first) h.less_first

pub overflow_sub-s-then-volume-eq0 : goal.overflow_sub-s-then-volume-eq0
overflow_sub-s-then-volume-eq0 c =
    let h = plane_remainders c.cross-normal.ensures.within c.cross-wv.ensures.within c.cross-uw.ensures.within c.dot-p.ensures c.dot-q.ensures c.dot-s.ensures in
    simp (to_z-of_z h.whole, to_z-of_z h.first, to_z-of_z h.second, to_z-of_z h.less_first) h.less_both

pub overflow_sub-s-then-volume-eq0-2 : goal.overflow_sub-s-then-volume-eq0-2
overflow_sub-s-then-volume-eq0-2 c =
    let h = plane_remainders c.cross-normal.ensures.within c.cross-wv.ensures.within c.cross-uw.ensures.within c.dot-p.ensures c.dot-q.ensures c.dot-s.ensures in
    simp (to_z-of_z h.whole) h.opposite

pub returns-then-volume-eq0 : goal.returns-then-volume-eq0
returns-then-volume-eq0 c =
    let r = plane_remainders c.cross-normal.ensures.within c.cross-wv.ensures.within c.cross-uw.ensures.within c.dot-p.ensures c.dot-q.ensures c.dot-s.ensures in
    let h : PlaneNumbers (vector_of c.args.a) (vector_of c.args.b) (vector_of c.args.c) (vector_of c.args.d) c.dot-p.result c.dot-q.result c.dot-s.result = plane_numbers (vector_of c.args.a) (vector_of c.args.b) (vector_of c.args.c) (vector_of c.args.d) c.less-u.ensures.value c.less-v.ensures.value c.less-w.ensures.value c.cross-normal.ensures.value c.cross-wv.ensures.value c.cross-uw.ensures.value c.dot-p.ensures c.dot-q.ensures c.dot-s.ensures in
    let items : c.of_five-then-volume-eq0.result.items ≡ (c.dot-s.result -ℤ c.dot-p.result -ℤ c.dot-q.result) ∷ c.dot-p.result ∷ c.dot-q.result ∷ neg_ℤ c.dot-s.result ∷ pos 0 ∷ [] = simp (to_z-of_z r.whole, to_z-of_z r.first, to_z-of_z r.second, to_z-of_z r.less_first, to_z-of_z r.less_both, r.below, to_z-of_z r.negative) at c.of_five-then-volume-eq0.ensures in
    let some : pos 0 <ℤ c.dot-s.result = subst (λ n. pos 0 <ℤ n) (sym h.third) (apart (vector_of c.args.a) (vector_of c.args.b) (vector_of c.args.c) c.less-u.ensures.value c.less-v.ensures.value c.cross-normal.ensures.value (λ e. let t = c.is_zero-2.ensures.1 e in let f = c.if-is_zero-2.false in absurd (cc))) in
    subst (IsDependence (vector_of c.args.a ∷ vector_of c.args.b ∷ vector_of c.args.c ∷ vector_of c.args.d ∷ vector_of c.args.e ∷ [])) (sym items) (in_plane_of_five (vector_of c.args.a) (vector_of c.args.b) (vector_of c.args.c) (vector_of c.args.d) (vector_of c.args.e) _ _ _ h.first h.second h.third some (flat (volume_of c.requires.a c.requires.b c.requires.c c.requires.d c.less-u.ensures.value c.less-v.ensures.value c.less-w.ensures.value c.cross-normal.ensures.value c.wide-far.ensures c.dot-volume.ensures) c.if-volume-eq0.true))

pub dot-p-requires-2-clause-s : goal.dot-p-requires-2-clause-s
dot-p-requires-2-clause-s c = more_within (omega arith) c.cross-zv.ensures.within

pub dot-p-requires-2-clause-t : goal.dot-p-requires-2-clause-t
dot-p-requires-2-clause-t c = wide_within c.less-w.ensures.within c.wide-far.ensures

pub dot-q-requires-2-clause-s : goal.dot-q-requires-2-clause-s
dot-q-requires-2-clause-s c = more_within (omega arith) c.cross-uz.ensures.within

pub dot-q-requires-2-clause-t : goal.dot-q-requires-2-clause-t
dot-q-requires-2-clause-t c = wide_within c.less-w.ensures.within c.wide-far.ensures

pub dot-s-requires-2-clause-s : goal.dot-s-requires-2-clause-s
dot-s-requires-2-clause-s c = more_within (omega arith) c.cross-normal.ensures.within

pub dot-s-requires-2-clause-t : goal.dot-s-requires-2-clause-t
dot-s-requires-2-clause-t c = wide_within c.less-z.ensures.within c.wide-wide_z.ensures

pub overflow_sub-volume : goal.overflow_sub-volume
overflow_sub-volume c =
    let h = (space_remainders c.cross-normal.ensures.within c.cross-zv.ensures.within c.cross-uz.ensures.within c.less-w.ensures.within c.less-z.ensures.within c.wide-far.ensures c.wide-wide_z.ensures c.dot-volume.ensures c.dot-p-2.ensures c.dot-q-2.ensures c.dot-s-2.ensures).two in
    simp (to_z-of_z h.whole, to_z-of_z h.first) h.less_first

pub overflow_sub-volume-2 : goal.overflow_sub-volume-2
overflow_sub-volume-2 c =
    let h = (space_remainders c.cross-normal.ensures.within c.cross-zv.ensures.within c.cross-uz.ensures.within c.less-w.ensures.within c.less-z.ensures.within c.wide-far.ensures c.wide-wide_z.ensures c.dot-volume.ensures c.dot-p-2.ensures c.dot-q-2.ensures c.dot-s-2.ensures).two in
    simp (to_z-of_z h.whole, to_z-of_z h.first, to_z-of_z h.second, to_z-of_z h.less_first) h.less_both

pub overflow_sub-volume-3 : goal.overflow_sub-volume-3
overflow_sub-volume-3 c =
    let m = space_remainders c.cross-normal.ensures.within c.cross-zv.ensures.within c.cross-uz.ensures.within c.less-w.ensures.within c.less-z.ensures.within c.wide-far.ensures c.wide-wide_z.ensures c.dot-volume.ensures c.dot-p-2.ensures c.dot-q-2.ensures c.dot-s-2.ensures in
    let h = m.two in
    simp (to_z-of_z h.whole, to_z-of_z h.first, to_z-of_z h.second, to_z-of_z h.less_first, to_z-of_z h.less_both, to_z-of_z m.third) m.less_all

pub overflow_sub-volume-4 : goal.overflow_sub-volume-4
overflow_sub-volume-4 c =
    let h = (space_remainders c.cross-normal.ensures.within c.cross-zv.ensures.within c.cross-uz.ensures.within c.less-w.ensures.within c.less-z.ensures.within c.wide-far.ensures c.wide-wide_z.ensures c.dot-volume.ensures c.dot-p-2.ensures c.dot-q-2.ensures c.dot-s-2.ensures).two in
    simp (to_z-of_z h.whole) h.opposite

pub returns : goal.returns
returns c =
    let m = space_remainders c.cross-normal.ensures.within c.cross-zv.ensures.within c.cross-uz.ensures.within c.less-w.ensures.within c.less-z.ensures.within c.wide-far.ensures c.wide-wide_z.ensures c.dot-volume.ensures c.dot-p-2.ensures c.dot-q-2.ensures c.dot-s-2.ensures in
    let h = m.two in
    let items : c.of_five-2.result.items ≡ (c.dot-volume.result -ℤ c.dot-p-2.result -ℤ c.dot-q-2.result -ℤ c.dot-s-2.result) ∷ c.dot-p-2.result ∷ c.dot-q-2.result ∷ c.dot-s-2.result ∷ neg_ℤ c.dot-volume.result ∷ [] = simp (to_z-of_z h.whole, to_z-of_z h.first, to_z-of_z h.second, to_z-of_z h.less_first, to_z-of_z h.less_both, to_z-of_z m.third, to_z-of_z m.less_all, h.below, to_z-of_z h.negative) at c.of_five-2.ensures in
    subst (IsDependence (vector_of c.args.a ∷ vector_of c.args.b ∷ vector_of c.args.c ∷ vector_of c.args.d ∷ vector_of c.args.e ∷ [])) (sym items)
    (of_space_of_five (vector_of c.args.a) (vector_of c.args.b) (vector_of c.args.c) (vector_of c.args.d) (vector_of c.args.e) _ _ _ _
    (triple_of c.less-z.ensures.value c.less-v.ensures.value c.less-w.ensures.value c.cross-zv.ensures.value c.wide-far.ensures c.dot-p-2.ensures)
    (triple_of c.less-u.ensures.value c.less-z.ensures.value c.less-w.ensures.value c.cross-uz.ensures.value c.wide-far.ensures c.dot-q-2.ensures)
    (triple_of c.less-u.ensures.value c.less-v.ensures.value c.less-z.ensures.value c.cross-normal.ensures.value c.wide-wide_z.ensures c.dot-s-2.ensures)
    (triple_of c.less-u.ensures.value c.less-v.ensures.value c.less-w.ensures.value c.cross-normal.ensures.value c.wide-far.ensures c.dot-volume.ensures)
    (not_zero_from h.whole c.if-volume-eq0.false))
