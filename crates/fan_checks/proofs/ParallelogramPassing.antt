-- What is asked of a parallelogram, put together.
use Rattle.std.proofs.Common.{◌≡◌, ◌≢◌, sym, ◌∙◌, ap, ◌+◌, ◌≤◌, ◌^◌, ℤ, pos, ◌+ℤ◌, ◌≤ℤ◌, [], ◌∷◌, length, map, All, arith}
use Rattle.std.specs.Prelude.{List, slice_index_or}
use Rattle.std.proofs.lemmas.Int.{ints}
use Rattle.std.proofs.lemmas.List.{length-map, length-append}
use Rattle.bounds_model.specs.Numbers.{AllNumbered}
use Rattle.bounds_model.specs.Plane.{PlanePoint, point_at, dot, cross}
use Rattle.bounds_model.specs.Fractions.{SameValue}
use Rattle.bounds_model.specs.Ranges.{IsFraction}
use Rattle.bounds_model.specs.Strip.{IsInSpan}
use Rattle.bounds_model.specs.Parallelogram.{parallelogram_size}
use Rattle.bounds_model.specs.Fans.{HalfFan, HoldsHalf, half_directions, IsShort}
use Rattle.bounds_model.specs.StripAnswer.{IsShortSpan}
use Rattle.bounds_model.specs.ParallelogramAnswer.{Chord, ParallelogramAnswer, parallelogram_of, ChordRanges, NamesEnds, IsShortChord, IsAcross, IsNotSmallerAt, PassesParallelogram}
use Rattle.directions.proofs.SpanBounds.{short_span}
use Rattle.fan_checks.specs.Limits.{HasHalfLimits, HasChordLimits}
use Rattle.fan_checks.proofs.FanRanges.{half_ranges}
use Rattle.bounded_coords.proofs.Ranges.{within_more, direction_of_short}

-- the weights of a chord are not below 0
pub record HasNaturalWeights (chord : Chord) : Type 0 where
  pub beta : pos 0 ≤ℤ chord.beta
  pub gamma : pos 0 ≤ℤ chord.gamma

-- a chord within the limits has its numbers in their ranges
chord_ranges : (points : List PlanePoint) (chord : Chord) → length points ≤ 10000 → NamesEnds points chord → IsShortChord chord → HasNaturalWeights chord → ChordRanges chord
chord_ranges points chord few names short natural = record {
  a = omega (arith, few, names.0);
  b = omega (arith, few, names.1);
  c = omega (arith, few, names.2);
  beta = record { low = natural.beta; high = part natural.beta natural.gamma short.weights };
  gamma = record { low = natural.gamma; high = other_part natural.beta natural.gamma short.weights };
  k = within_more short.k tt;
}
  where
    part : {x y : ℤ} → pos 0 ≤ℤ x → pos 0 ≤ℤ y → (x +ℤ y) ≤ℤ pos (2 ^ 39) → x ≤ℤ pos (2 ^ 126)
    part p q l = omega (arith, ints)

    other_part : {x y : ℤ} → pos 0 ≤ℤ x → pos 0 ≤ℤ y → (x +ℤ y) ≤ℤ pos (2 ^ 39) → y ≤ℤ pos (2 ^ 126)
    other_part p q l = omega (arith, ints)

-- there is one direction more than cones
length_directions : (fan : HalfFan) → length (half_directions fan) ≡ length fan.cones + 1
length_directions fan = length-append (map (λ cone. cone.direction) fan.cones) (fan.last ∷ []) ∙ ap (λ n. n + 1) (length-map fan.cones (λ cone. cone.direction))

pub parallelogram_passes : (points : List PlanePoint) (a : ParallelogramAnswer) → length points ≤ 10000 → IsFraction a.size → HasHalfLimits points a.fan → IsShort a.first → IsShort a.second → IsShortSpan a.first_bounds → IsShortSpan a.second_bounds
    → HasChordLimits points (length a.fan.cones + 1) a.chords → All HasNaturalWeights a.chords → cross a.first a.second ≢ pos 0 → SameValue a.size (parallelogram_size (parallelogram_of a)) → HoldsHalf points a.fan
    → AllNumbered (λ i chord. IsAcross points (point_at (half_directions a.fan) i) chord) a.chords → AllNumbered (λ i cone. IsNotSmallerAt points a i cone × IsNotSmallerAt points a (i + 1) cone) a.fan.cones
    → All (λ p. IsInSpan a.first_bounds (dot a.first p)) points → All (λ p. IsInSpan a.second_bounds (dot a.second p)) points → PassesParallelogram points a
parallelogram_passes points a few lowest fan first second first_bounds second_bounds chords natural normals size holds across not_smaller inside_first inside_second = record {
  ranges = record {
    size = lowest;
    first = direction_of_short a.first first;
    first_bounds = short_span a.first_bounds first_bounds;
    second = direction_of_short a.second second;
    second_bounds = short_span a.second_bounds second_bounds;
    fan = half_ranges points a.fan few fan;
    chord_for_each = chords.as_many ∙ sym (length_directions a.fan);
    chords = λ i d l. chord_ranges points (slice_index_or a.chords i d) few (chords.names i d l) (chords.short i d l) (natural i d l);
  };
  chord_numbers = chords.names;
  short_directions = fan.short;
  short_first = first;
  short_second = second;
  short_first_bounds = first_bounds;
  short_second_bounds = second_bounds;
  short_chords = chords.short;
  fan = holds;
  across = across;
  not_smaller = not_smaller;
  normals = normals;
  inside_first = inside_first;
  inside_second = inside_second;
  size = size;
}
