-- Loops over the cones of a fan with the chords of their directions.
use Rattle.std.proofs.Common.{◌≡◌, ◌↔◌, sym, ◌∙◌, ap, subst, ℕ, ◌+◌, ◌<◌, ◌⊎◌, inl, inr, pos, nat_abs, ◌+ℤ◌, ◌*ℤ◌, ◌≤ℤ◌, length, map, Some, arith}
use Rattle.std.specs.Prelude.{List, slice_get, slice_index_or, IsSomeAnd}
use Rattle.std.proofs.lemmas.List.{length-map}
use Rattle.std.proofs.lemmas.Option.{slice_get-get_or, slice_get_within}
use Rattle.bounds_model.specs.Plane.{PlanePoint, point_at}
use Rattle.bounds_model.specs.Numbers.{AllNumbered}
use Rattle.bounds_model.specs.Fans.{HalfCone, half_directions, HoldsHalf, IsHalfExtreme}
use Rattle.bounds_model.specs.ParallelogramAnswer.{ParallelogramAnswer, IsNotSmaller, IsNotSmallerAt}
use Rattle.answers.specs.declared.parallelograms.Chord.{Chord}
use Rattle.answers.specs.declared.parallelograms.ParaAnswer.{ParaAnswer}
use Rattle.answers.specs.Answers.{half_fan_of, chord_of, parallelogram_of}
use Rattle.directions.proofs.FanLists.{cone_at}
use Rattle.directions.proofs.Reaches.{reach_same}

-- a chord that is read, in the model's list
chord_there : (chords : List Chord) (i : ℕ) (x : Chord) → slice_get chords i ≡ Some x → slice_get (map chord_of chords) i ≡ Some (chord_of x)
chord_there chords i x is =
    slice_get-get_or (map chord_of chords) i (chord_of x) (subst (λ n. i < n) (sym (length-map chords chord_of)) (slice_get_within chords i x is))
    ∙ ap Some (cone_at chord_of chords i x (chord_of x) is)

-- what is asked at a direction is asked with its chord
pub asked_at : (points : List PlanePoint) (a : ParaAnswer) (i : ℕ) (x : Chord) (d : PlanePoint) (cone : HalfCone) → slice_get a.chords i ≡ Some x → point_at (half_directions (half_fan_of a.fan)) i ≡ d
    → IsNotSmallerAt points (parallelogram_of a) i cone ↔ IsNotSmaller points a.size d cone (chord_of x)
asked_at points a i x d cone is at =
    let here = point_at (half_directions (half_fan_of a.fan)) i in
    subst (λ e. IsNotSmallerAt points (parallelogram_of a) i cone ↔ IsNotSmaller points a.size e cone (chord_of x)) at
    (subst (λ o. IsSomeAnd o (IsNotSmaller points a.size here cone) ↔ IsNotSmaller points a.size here cone (chord_of x)) (sym (chord_there a.chords i x is)) (λ h. h, λ h. h))

-- what is asked at a direction with the points of one cone is asked there with those of another, where both are extreme
asked_with_other : (points : List PlanePoint) (a : ParallelogramAnswer) (i : ℕ) (m n : HalfCone) → (m.high < length points) × (m.low < length points) → (n.high < length points) × (n.low < length points)
    → IsHalfExtreme points (point_at (half_directions a.fan) i) m → IsHalfExtreme points (point_at (half_directions a.fan) i) n → IsNotSmallerAt points a i m → IsNotSmallerAt points a i n
asked_with_other points a i m n named named' at_m at_n =
    subst (λ r. IsSomeAnd (slice_get a.chords i) (λ chord. (a.size.n *ℤ (chord.beta +ℤ chord.gamma)) ≤ℤ (r *ℤ pos (nat_abs chord.k) *ℤ a.size.d)))
    (reach_same points (point_at (half_directions a.fan) i) m.high m.low n.high n.low named.0 named.1 named'.0 named'.1 at_m at_n)

-- so it is asked of each cone where it begins and where it ends, if it is asked where each begins and where the last one ends
pub asked_at_both_ends : (points : List PlanePoint) (a : ParallelogramAnswer) → HoldsHalf points a.fan
    → ((k : ℕ) (d : HalfCone) → k < length a.fan.cones → IsNotSmallerAt points a k (slice_index_or a.fan.cones k d))
    → ((k : ℕ) (d : HalfCone) → k + 1 ≡ length a.fan.cones → IsNotSmallerAt points a (k + 1) (slice_index_or a.fan.cones k d))
    → AllNumbered (λ i cone. IsNotSmallerAt points a i cone × IsNotSmallerAt points a (i + 1) cone) a.fan.cones
asked_at_both_ends points a holds begins ends k d below = (
  begins k d below,
  elim (next_or_last k (length a.fan.cones) below) [
    | inl next ↦ asked_with_other points a (k + 1) (slice_index_or a.fan.cones (k + 1) d) (slice_index_or a.fan.cones k d) (holds.numbers (k + 1) d next) (holds.numbers k d below)
        (holds.extremes (k + 1) d next).0 (holds.extremes k d below).1 (begins (k + 1) d next)
    | inr last ↦ ends k d last
  ],
)
  where
    next_or_last : (k n : ℕ) → k < n → (k + 1 < n) ⊎ (k + 1 ≡ n)
    next_or_last k n h = grind arith
