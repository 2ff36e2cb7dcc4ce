use Prim.Native.Nat.{◌∣◌}
use Rattle.std.proofs.Common.{◌≡◌, sym, subst, ◌∙◌, ap, pos, nat_abs, ◌*ℤ◌, ◌<ℤ◌, ◌<◌, FitsSigned, to_z-of_z, w64, arith}
use Rattle.std.proofs.lemmas.Int.{ints}
use mir.Syntax.{w128}
use Rattle.integers.specs.Size.{Size}
use Rattle.integers.proofs.Sizes.{size_fits_in, size_more}
use Rattle.bounds_model.specs.Plane.{vector, cross, squared_length}
use Rattle.answers.specs.Answers.{vector_of}
use Rattle.directions.proofs.Bounds.{within_of_size}
use Rattle.directions.proofs.Reaches.{lowest_long}
use Rattle.parallelogram_strip.proofs.MadeChords.{quotient_size}
use Rattle.parallelogram_strip.proofs.Multiples.{length_divides, multiple_is}
use Rattle.parallelogram_strip.proofs.chord.multiple.Goals as goal

pub quotient-requires-clause-number : goal.quotient-requires-clause-number
quotient-requires-clause-number c =
    let fits_64 : FitsSigned w64 c.cross.result = size_fits_in w64 c.cross.ensures.size tt in
    let fits_128 : FitsSigned w128 c.cross.result = size_fits_in w128 c.cross.ensures.size tt in
    simp to_z-of_z (within_of_size (size_more c.cross.ensures.size tt))

pub quotient-requires-clause-divisor : goal.quotient-requires-clause-divisor
quotient-requires-clause-divisor c =
    let fits_64 : FitsSigned w64 c.cross.result = size_fits_in w64 c.cross.ensures.size tt in
    let fits_128 : FitsSigned w128 c.cross.result = size_fits_in w128 c.cross.ensures.size tt in
    let d = vector_of c.args.d in
    let long : pos 0 <ℤ pos c.squared_length.result = subst (λ z. pos 0 <ℤ z) (sym c.squared_length.ensures.value) (lowest_long d c.requires.lowest) in
    simp to_z-of_z (record {
      positive = omega (arith, ints);
      limited = omega arith;
      divides = subst (λ n. n ∣ nat_abs c.cross.result) (sym (ap nat_abs c.squared_length.ensures.value)) (subst (λ z. nat_abs (squared_length d) ∣ nat_abs z) (sym c.cross.ensures.value) (length_divides d (vector c.args.a.now c.args.b.now) c.requires.lowest c.requires.right_angle));
    })

pub returns : goal.returns
returns c =
    let fits_64 : FitsSigned w64 c.cross.result = size_fits_in w64 c.cross.ensures.size tt in
    let fits_cross : FitsSigned w128 c.cross.result = size_fits_in w128 c.cross.ensures.size tt in
    let d = vector_of c.args.d in
    let long : pos 0 <ℤ pos c.squared_length.result = subst (λ z. pos 0 <ℤ z) (sym c.squared_length.ensures.value) (lowest_long d c.requires.lowest) in
    let some : 0 < c.squared_length.result = omega (arith, ints) in
    let whole : pos c.squared_length.result *ℤ c.quotient.result ≡ c.cross.result = simp to_z-of_z at c.quotient.ensures in
    let size : Size 320000000000 c.quotient.result = quotient_size some whole c.cross.ensures.size in
    let fits_128 : FitsSigned w128 c.quotient.result = size_fits_in w128 size tt in
    simp to_z-of_z (record {
      value = multiple_is d (vector c.args.a.now c.args.b.now) c.quotient.result (lowest_long d c.requires.lowest) c.requires.right_angle
          (subst (λ z. z *ℤ c.quotient.result ≡ cross d (vector c.args.a.now c.args.b.now)) c.squared_length.ensures.value (whole ∙ c.cross.ensures.value));
      size = size;
    })
