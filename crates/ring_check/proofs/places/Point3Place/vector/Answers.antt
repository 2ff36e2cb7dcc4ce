use Rattle.std.proofs.Common.{sym, subst, arith}
use Rattle.std.proofs.lemmas.Int.{ints}
use Rattle.integers.specs.Size.{Size}
use Rattle.integers.proofs.Sizes.{size_between, size_more}
use Rattle.kernel_laws.specs.Limits.{IsVectorWithin}
use Rattle.kernel_laws.proofs.Points.{same_point}
use Rattle.ring_check.proofs.places.Point3Place.vector.Goals as goal

pub returns-clause-value : goal.returns-clause-value
returns-clause-value c = same_point (omega (arith, ints, c.x.ensures.value, c.x.ensures.bounds)) (omega (arith, ints, c.y.ensures.value, c.y.ensures.bounds)) (omega (arith, ints, c.z.ensures.value, c.z.ensures.bounds))

pub returns-clause-within : goal.returns-clause-within
returns-clause-within c = subst (IsVectorWithin 200000) (sym (returns-clause-value c)) (record {
  x = subst (Size 200000) c.x.ensures.value (size_more (size_between c.x.ensures.bounds.low c.x.ensures.bounds.high) tt);
  y = subst (Size 200000) c.y.ensures.value (size_more (size_between c.y.ensures.bounds.low c.y.ensures.bounds.high) tt);
  z = subst (Size 200000) c.z.ensures.value (size_more (size_between c.z.ensures.bounds.low c.z.ensures.bounds.high) tt);
})
