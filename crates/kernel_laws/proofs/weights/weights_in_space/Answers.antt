use Rattle.std.proofs.Common.{sym, ◌∙◌, ap, ap₂, subst, ◌^◌, pos, ◌*ℤ◌, ◌<ℤ◌, arith}
use Rattle.std.proofs.Math.Facts.{to_z-of_z}
use Rattle.integers.proofs.Sizes.{size_fits}
use Rattle.bounds_model.specs.Space.{dot}
use Rattle.kernel_laws.specs.Limits.{IsVectorWithin}
use Rattle.kernel_laws.specs.Vectors.{vector_of, sum_of}
use Rattle.kernel_laws.specs.Solutions.{Reduces}
use Rattle.kernel_laws.proofs.SideLimits.{more_within}
use Rattle.kernel_laws.proofs.Crosses.{four_numbers, multiple, weight_size}
use Rattle.kernel_laws.proofs.weights.weights_in_space.Goals as goal

pub overflow_mul-k : goal.overflow_mul-k
overflow_mul-k c =
    let h = multiple (vector_of c.args.u) (vector_of c.args.v) (vector_of c.args.w) c.requires.u c.requires.v c.requires.w c.requires.k (c.dot-volume.ensures ∙ ap₂ dot c.cross-normal.ensures.value c.wide.ensures) in
    simp (to_z-of_z h.factor, to_z-of_z h.once) h.fits

pub weights_of_four-requires-clause-total : goal.weights_of_four-requires-clause-total
weights_of_four-requires-clause-total c =
    let h = multiple (vector_of c.args.u) (vector_of c.args.v) (vector_of c.args.w) c.requires.u c.requires.v c.requires.w c.requires.k (c.dot-volume.ensures ∙ ap₂ dot c.cross-normal.ensures.value c.wide.ensures) in
    simp (to_z-of_z h.factor, to_z-of_z h.once, to_z-of_z h.fits) h.size

pub weights_of_four-requires-clause-positive : goal.weights_of_four-requires-clause-positive
weights_of_four-requires-clause-positive c =
    let h = multiple (vector_of c.args.u) (vector_of c.args.v) (vector_of c.args.w) c.requires.u c.requires.v c.requires.w c.requires.k (c.dot-volume.ensures ∙ ap₂ dot c.cross-normal.ensures.value c.wide.ensures) in
    simp (to_z-of_z h.factor, to_z-of_z h.once, to_z-of_z h.fits) (subst (λ n. pos 0 <ℤ (c.args.k *ℤ n)) (sym (c.dot-volume.ensures ∙ ap₂ dot c.cross-normal.ensures.value c.wide.ensures)) c.requires.positive)

pub weights_of_four-requires-clause-p : goal.weights_of_four-requires-clause-p
weights_of_four-requires-clause-p c =
    let size = weight_size (sum_of c.args.m) (vector_of c.args.v) (vector_of c.args.w) c.requires.m c.requires.v c.requires.w (c.dot-p.ensures ∙ ap (dot (sum_of c.args.m)) c.cross.ensures.value) in
    simp (to_z-of_z (size_fits size tt)) size

pub weights_of_four-requires-clause-q : goal.weights_of_four-requires-clause-q
weights_of_four-requires-clause-q c =
    let size = weight_size (sum_of c.args.m) (vector_of c.args.w) (vector_of c.args.u) c.requires.m c.requires.w c.requires.u (c.dot-q.ensures ∙ ap (dot (sum_of c.args.m)) c.cross-2.ensures.value) in
    simp (to_z-of_z (size_fits size tt)) size

pub weights_of_four-requires-clause-s : goal.weights_of_four-requires-clause-s
weights_of_four-requires-clause-s c =
    let size = weight_size (sum_of c.args.m) (vector_of c.args.u) (vector_of c.args.v) c.requires.m c.requires.u c.requires.v (c.dot-s.ensures ∙ ap (dot (sum_of c.args.m)) c.cross-normal.ensures.value) in
    simp (to_z-of_z (size_fits size tt)) size

pub returns : goal.returns
returns c =
    let h = multiple (vector_of c.args.u) (vector_of c.args.v) (vector_of c.args.w) c.requires.u c.requires.v c.requires.w c.requires.k (c.dot-volume.ensures ∙ ap₂ dot c.cross-normal.ensures.value c.wide.ensures) in
    let size_p = weight_size (sum_of c.args.m) (vector_of c.args.v) (vector_of c.args.w) c.requires.m c.requires.v c.requires.w (c.dot-p.ensures ∙ ap (dot (sum_of c.args.m)) c.cross.ensures.value) in
    let size_q = weight_size (sum_of c.args.m) (vector_of c.args.w) (vector_of c.args.u) c.requires.m c.requires.w c.requires.u (c.dot-q.ensures ∙ ap (dot (sum_of c.args.m)) c.cross-2.ensures.value) in
    let size_s = weight_size (sum_of c.args.m) (vector_of c.args.u) (vector_of c.args.v) c.requires.m c.requires.u c.requires.v (c.dot-s.ensures ∙ ap (dot (sum_of c.args.m)) c.cross-normal.ensures.value) in
    let raw = simp (to_z-of_z h.factor, to_z-of_z h.once, to_z-of_z h.fits, to_z-of_z (size_fits size_p tt), to_z-of_z (size_fits size_q tt), to_z-of_z (size_fits size_s tt)) at c.weights_of_four.ensures in
    subst (λ ws. Reduces ws c.weights_of_four.result.items) (four_numbers (ap (λ n. c.args.k *ℤ n) (c.dot-volume.ensures ∙ ap₂ dot c.cross-normal.ensures.value c.wide.ensures)) (c.dot-p.ensures ∙ ap (dot (sum_of c.args.m)) c.cross.ensures.value) (c.dot-q.ensures ∙ ap (dot (sum_of c.args.m)) c.cross-2.ensures.value) (c.dot-s.ensures ∙ ap (dot (sum_of c.args.m)) c.cross-normal.ensures.value)) raw

pub dot-volume-requires-clause-s : goal.dot-volume-requires-clause-s
dot-volume-requires-clause-s c = more_within (omega arith) c.cross-normal.ensures.within

pub dot-p-requires-clause-s : goal.dot-p-requires-clause-s
dot-p-requires-clause-s c = more_within (omega arith) c.requires.m

pub dot-q-requires-clause-s : goal.dot-q-requires-clause-s
dot-q-requires-clause-s c = more_within (omega arith) c.requires.m

pub dot-s-requires-clause-s : goal.dot-s-requires-clause-s
dot-s-requires-clause-s c = more_within (omega arith) c.requires.m

pub cross-normal-requires-clause-u : goal.cross-normal-requires-clause-u
cross-normal-requires-clause-u c = more_within (omega arith) c.requires.u

pub cross-normal-requires-clause-v : goal.cross-normal-requires-clause-v
cross-normal-requires-clause-v c = more_within (omega arith) c.requires.v

pub wide-requires : goal.wide-requires
wide-requires c = more_within (omega arith) c.requires.w

pub cross-requires-clause-u : goal.cross-requires-clause-u
cross-requires-clause-u c = more_within (omega arith) c.requires.v

pub cross-requires-clause-v : goal.cross-requires-clause-v
cross-requires-clause-v c = more_within (omega arith) c.requires.w

pub cross-requires-2-clause-u : goal.cross-requires-2-clause-u
cross-requires-2-clause-u c = more_within (omega arith) c.requires.w

pub cross-requires-2-clause-v : goal.cross-requires-2-clause-v
cross-requires-2-clause-v c = more_within (omega arith) c.requires.u

pub dot-volume-requires-clause-t : goal.dot-volume-requires-clause-t
dot-volume-requires-clause-t c = subst (IsVectorWithin (2 ^ 41)) (sym c.wide.ensures) (more_within (omega arith) c.requires.w)
