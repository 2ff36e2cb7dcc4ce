-- Chords that serve the directions of a fan, and the best of them.
use Rattle.std.proofs.Common.{◌≡◌, refl, sym, ◌∙◌, ap, subst, ℕ, ◌+◌, ◌-◌, ◌<◌, ◌≤◌, ◌⊎◌, inl, inr, ℤ, pos, nat_abs, ◌+ℤ◌, ◌*ℤ◌, neg_ℤ, ◌≤ℤ◌, List, [], ◌∷◌, ◌++◌, length, arith}
use Rattle.std.specs.Prelude.{slice_index_or}
use Rattle.std.proofs.lemmas.Bool.{cases_lt}
use Rattle.std.proofs.lemmas.List.{length-append, get_or_append_left, get_or-append_right}
use Rattle.integers.proofs.Identities.{den-ring, read, polys}
use Rattle.integers.proofs.Order.{positive_from_one, le_of_same}
use Rattle.integers.proofs.Fractions.{fraction_le_trans}
use Rattle.bounds_model.specs.Numbers.{AllNumbered}
use Rattle.bounds_model.specs.Plane.{PlanePoint, times, quarter_turn}
use Rattle.bounds_model.specs.Fans.{HalfFan, HalfCone}
use Rattle.bounds_model.specs.ParallelogramAnswer as answers
use Rattle.answers.specs.declared.parallelograms.Chord.{Chord}
use Rattle.answers.specs.Answers.{chord_of}
use Rattle.parallelogram_strip.specs.FullTurn.{opposite, other_side, cone_at}
use Rattle.parallelogram_strip.specs.Crossings.{reach_of, area_of, weight_of, IsChord, IsNotAbove, IsCrossing, IsServed, AreServed}
use Rattle.parallelogram_strip.specs.AllChords.{turned_chord}
use Rattle.parallelogram_strip.specs.declared.crossing.Crossing.{Crossing}
use Rattle.parallelogram_strip.proofs.Crossings.{ahead_at_start, ahead_at_next}
use Rattle.directions.proofs.Reaches.{reach_opposite}
use Rattle.parallelogram_strip.proofs.FullTurn.{IsFullTurn, magnitude_back, within_back}

-- what holds at each index of a list, and of one element more at its index, holds of the list with that element
pub numbered_push : {X : Type 0} (P : ℕ → X → Type 0) (xs : List X) (x : X) (n : ℕ) → n ≡ length xs → AllNumbered P xs → P n x → AllNumbered P (xs ++ x ∷ [])
numbered_push P xs x n e all here k d l =
    elim (cases_lt k (length xs)) [
      | inl m ↦ subst (P k) (sym (get_or_append_left xs (x ∷ []) d k m)) (all k d m)
      | inr m ↦ subst (P k) (sym (get_or-append_right xs (x ∷ []) (length xs) k d refl m ∙ ap (λ i. slice_index_or (x ∷ []) i d) (at_index m))) (subst (λ i. P i x) (index m) here)
    ]
  where
    at_index : length xs ≤ k → k - length xs ≡ 0
    at_index m = omega (arith, length-append xs (x ∷ []))

    index : length xs ≤ k → n ≡ k
    index m = omega (arith, length-append xs (x ∷ []))

-- a crossing's chord serves its direction
pub serves_itself : (points : List PlanePoint) (fan : HalfFan) (c : Crossing) → IsCrossing points fan c → IsServed points fan c c.direction (chord_of c.chord)
serves_itself points fan c h = record {
  carries = h.chord;
  not_smaller = le_of_same (ap (λ w. w *ℤ pos (nat_abs c.chord.k) *ℤ weight_of c) h.width);
}

-- a chord that serves beside a crossing serves beside one that is not above it
pub served_more : (points : List PlanePoint) (fan : HalfFan) (best better : Crossing) (i : ℕ) (chord : answers.Chord) → IsCrossing points fan best → IsCrossing points fan better → IsNotAbove better best → IsServed points fan best i chord → IsServed points fan better i chord
served_more points fan best better i chord is_best is_better above h = record {
  carries = h.carries;
  not_smaller = fraction_le_trans (area_of better) (weight_of better) (area_of best) (weight_of best) (reach_of points (cone_at fan i).direction (cone_at fan i) *ℤ pos (nat_abs chord.k)) (chord.beta +ℤ chord.gamma)
      (positive_from_one is_better.chord.short.some) (positive_from_one is_best.chord.short.some) (positive_from_one h.carries.short.some) above h.not_smaller;
}

-- and so do all of them
pub all_served_more : (points : List PlanePoint) (fan : HalfFan) (best better : Crossing) (chords : List Chord) → IsCrossing points fan best → IsCrossing points fan better → IsNotAbove better best → AreServed points fan best chords → AreServed points fan better chords
all_served_more points fan best better chords is_best is_better above h k d l = served_more points fan best better k (chord_of (slice_index_or chords k d)) is_best is_better above (h k d l)

-- the chord of the first direction, turned, serves the last
pub served_last : (points : List PlanePoint) (fan : HalfFan) (m : ℕ) (best : Crossing) (chord : answers.Chord) → IsFullTurn points m (cone_at fan) → IsServed points fan best 0 chord → IsServed points fan best m (turned_chord chord)
served_last points fan m best chord turn h =
    let d = (cone_at fan 0).direction in
    let back : cone_at fan m ≡ other_side (cone_at fan 0) = subst (λ i. cone_at fan i ≡ other_side (cone_at fan 0)) (from_zero m) (turn.back 0 turn.some) in
    record {
      carries = subst (λ (cone : HalfCone). IsChord points cone.direction (turned_chord chord)) (sym back) (record {
        names = h.carries.names;
        short = record { some = h.carries.short.some; weights = h.carries.short.weights; k = within_back h.carries.short.k };
        across = h.carries.across ∙ turned chord.k d;
      });
      not_smaller =
          subst (λ (cone : HalfCone). (area_of best *ℤ (chord.beta +ℤ chord.gamma)) ≤ℤ (reach_of points cone.direction cone *ℤ pos (nat_abs (neg_ℤ chord.k)) *ℤ weight_of best)) (sym back)
          (subst (λ n. (area_of best *ℤ (chord.beta +ℤ chord.gamma)) ≤ℤ (reach_of points (opposite d) (other_side (cone_at fan 0)) *ℤ pos n *ℤ weight_of best)) (sym (magnitude_back chord.k))
          (subst (λ r. (area_of best *ℤ (chord.beta +ℤ chord.gamma)) ≤ℤ (r *ℤ pos (nat_abs chord.k) *ℤ weight_of best)) (sym (reach_opposite points d (cone_at fan 0).high (cone_at fan 0).low)) h.not_smaller));
    }
  where
    from_zero : (m : ℕ) → 0 + m ≡ m
    from_zero m = omega arith

    same : (k x : ℤ) → k *ℤ x ≡ neg_ℤ k *ℤ neg_ℤ x
    same k x = read (k ∷ x ∷ []) (λ xs a b. simp (a, b, polys) (den-ring xs _ _ tt))

    turned : (k : ℤ) (d : PlanePoint) → times k (quarter_turn d) ≡ times (neg_ℤ k) (quarter_turn (opposite d))
    turned k d = λ i. record { x = same k (neg_ℤ d.y) i; y = same k d.x i }

-- where the search for the next direction begins: at the cone where the last one ended, or at the direction's own
pub record IsStart (points : List PlanePoint) (fan : HalfFan) (j from : ℕ) : Type 0 where
  pub after : j ≤ from
  pub before : from < j + length fan.cones
  pub ahead : pos 0 ≤ℤ reach_of points (cone_at fan j).direction (cone_at fan from)

-- it does begin there
pub next_start : (points : List PlanePoint) (fan : HalfFan) (last : Crossing) (j from : ℕ) → IsFullTurn points (length fan.cones) (cone_at fan) → IsCrossing points fan last → last.direction + 1 ≡ j → j < length fan.cones → (from ≡ j) ⊎ (from ≡ last.near) → j ≤ from → IsStart points fan j from
next_start points fan last j from turn h e l one n = record {
  after = n;
  before = elim one [ inl f ↦ omega arith | inr f ↦ omega (arith, h.near.before) ];
  ahead = elim one [
    | inl f ↦ subst (λ i. pos 0 ≤ℤ reach_of points (cone_at fan j).direction (cone_at fan i)) (sym f) (ahead_at_start turn j l)
    | inr f ↦ subst (λ i. pos 0 ≤ℤ reach_of points (cone_at fan j).direction (cone_at fan i)) (sym f) (subst (λ i. pos 0 ≤ℤ reach_of points (cone_at fan i).direction (cone_at fan last.near)) e (ahead_at_next turn last.direction last.near (omega arith) (omega arith) h.near.before h.near.ahead))
  ];
}

-- one of two crossings is a crossing
pub one_is : (points : List PlanePoint) (fan : HalfFan) (a b c : Crossing) → IsCrossing points fan a → IsCrossing points fan b → (c ≡ a) ⊎ (c ≡ b) → IsCrossing points fan c
one_is points fan a b c ha hb one = elim one [ inl e ↦ subst (IsCrossing points fan) (sym e) ha | inr e ↦ subst (IsCrossing points fan) (sym e) hb ]
