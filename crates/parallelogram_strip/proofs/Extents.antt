-- The extents of the two strips at a crossing, and the area of their intersection.
use Rattle.std.proofs.Common.{◌≡◌, refl, sym, ◌∙◌, ap, ap₂, ℕ, ◌+◌, ◌*◌, ◌<◌, ◌⊎◌, inl, inr, ℤ, pos, nat_abs, ◌+ℤ◌, ◌-ℤ◌, ◌*ℤ◌, neg_ℤ, ◌≤ℤ◌, ◌<ℤ◌, List, [], ◌∷◌, length, arith}
use Rattle.std.proofs.lemmas.Int.{ints, unsigned_abs-mul}
use Rattle.integers.proofs.Identities.{den-ring, read, polys}
use Rattle.integers.proofs.Order.{nonneg_mul, positive_mul, same_of_mul, combine2, le_from_lt, positive_from_one}
use Rattle.integers.proofs.Magnitudes.{magnitude_is}
use Rattle.bounds_model.specs.Plane.{PlanePoint, point_at, dot, cross}
use Rattle.bounds_model.specs.Fans.{HalfFan, HalfCone, AreExtreme, reach}
use Rattle.bounds_model.specs.ParallelogramAnswer as answers
use Rattle.parallelogram_strip.specs.FullTurn.{cone_at}
use Rattle.parallelogram_strip.specs.Crossings.{reach_of, weight_of, Joins, IsChord, IsCrossing}
use Rattle.parallelogram_strip.specs.declared.crossing.Crossing.{Crossing}
use Rattle.answers.specs.Answers.{chord_of}
use Rattle.parallelogram_strip.proofs.FullTurn.{IsFullTurn, magnitude_back}
use Rattle.directions.proofs.Reading.{reach_parts}
use Rattle.directions.proofs.Reaches.{reach_turned, lowest_same, reach_same}
use Rattle.parallelogram_strip.proofs.Crossings.{chord_extent}

-- two pairs that are extreme in one direction: the highest of either reaches beyond the lowest of either equally far
pub reach_mixed : (points : List PlanePoint) (e : PlanePoint) (c c' : HalfCone) → c.high < length points → c.low < length points → c'.high < length points → c'.low < length points → AreExtreme points e c.high c.low → AreExtreme points e c'.high c'.low
    → (reach points e c.high c.low ≡ reach_of points e c') × (reach points e c'.high c.low ≡ reach_of points e c')
reach_mixed points e c c' nh nl nh' nl' h h' = (
  reach_same points e c.high c.low c'.high c'.low nh nl nh' nl' h h',
  reach_parts points e c'.high c.low ∙ ap (λ v. dot e (point_at points c'.high) -ℤ v) (lowest_same points e nl nl' h h') ∙ sym (reach_parts points e c'.high c'.low),
)

-- a chord between two cones, both extreme in e: weights times the reach is the factor times the cross product, up to sign
extent_signed : (points : List PlanePoint) (d e : PlanePoint) (near far : HalfCone) (chord : answers.Chord) → IsChord points d chord → Joins near far chord
    → near.high < length points → near.low < length points → far.high < length points → far.low < length points → AreExtreme points e near.high near.low → AreExtreme points e far.high far.low
    → ((chord.beta +ℤ chord.gamma) *ℤ reach_of points e far ≡ chord.k *ℤ cross d e) ⊎ ((chord.beta +ℤ chord.gamma) *ℤ neg_ℤ (reach_of points e far) ≡ chord.k *ℤ cross d e)
extent_signed points d e near far chord h joins nh nl nh' nl' at_near at_far =
    let mixed = reach_mixed points e near far nh nl nh' nl' at_near at_far in
    elim joins [
      | inl j ↦ inl (chord_extent points d e chord (reach_of points e far) h.across
          (ap₂ (λ b a. reach points e b a) j.1 j.0 ∙ mixed.0)
          (ap₂ (λ c a. reach points e c a) j.2 j.0 ∙ mixed.1))
      | inr j ↦ inr (chord_extent points d e chord (neg_ℤ (reach_of points e far)) h.across
          (ap₂ (λ b a. reach points e b a) j.1 j.0 ∙ reach_turned points e far.high far.low)
          (ap₂ (λ c a. reach points e c a) j.2 j.0 ∙ reach_turned points e far.high near.low ∙ ap neg_ℤ mixed.1))
    ]

-- a product that is another up to sign is the product of the other's magnitudes
magnitudes : (s h k x : ℤ) → pos 0 ≤ℤ s → pos 0 ≤ℤ h → (s *ℤ h ≡ k *ℤ x) ⊎ (s *ℤ neg_ℤ h ≡ k *ℤ x) → s *ℤ h ≡ pos (nat_abs k) *ℤ pos (nat_abs x)
magnitudes s h k x ps ph one =
    let is : nat_abs (s *ℤ h) ≡ nat_abs (k *ℤ x) = elim one [ inl e ↦ ap nat_abs e | inr e ↦ sym (magnitude_back (s *ℤ h)) ∙ ap nat_abs (sym (out s h) ∙ e) ] in
    sym (magnitude_is (nonneg_mul ps ph)) ∙ ap pos (is ∙ unsigned_abs-mul k x) ∙ product (nat_abs k) (nat_abs x)
  where
    out : (s h : ℤ) → s *ℤ neg_ℤ h ≡ neg_ℤ (s *ℤ h)
    out s h = read (s ∷ h ∷ []) (λ xs a b. simp (a, b, polys) (den-ring xs _ _ tt))

    product : (m n : ℕ) → pos (m * n) ≡ pos m *ℤ pos n
    product m n = refl

-- the extent of the second strip at a crossing: weights times it is the magnitude of the factor times that of the cross product
pub crossing_extent : (points : List PlanePoint) (fan : HalfFan) (c : Crossing) → IsFullTurn points (length fan.cones) (cone_at fan) → IsCrossing points fan c → pos 0 ≤ℤ reach_of points (cone_at fan (c.near + 1)).direction (cone_at fan (c.near + 1))
    → weight_of c *ℤ reach_of points (cone_at fan (c.near + 1)).direction (cone_at fan (c.near + 1)) ≡ pos (nat_abs c.chord.k) *ℤ pos (nat_abs (cross (cone_at fan c.direction).direction (cone_at fan (c.near + 1)).direction))
crossing_extent points fan c turn h forward =
    let n : c.near < length fan.cones + length fan.cones = omega (arith, h.near.before, h.listed) in
    let m : c.near + 1 < length fan.cones + length fan.cones = omega (arith, h.near.before, h.listed) in
    let e = (cone_at fan (c.near + 1)).direction in
    magnitudes (weight_of c) (reach_of points e (cone_at fan (c.near + 1))) c.chord.k (cross (cone_at fan c.direction).direction e)
    (le_from_lt (positive_from_one h.chord.short.some)) forward
    (extent_signed points (cone_at fan c.direction).direction e (cone_at fan c.near) (cone_at fan (c.near + 1)) (chord_of c.chord) h.chord h.joins
    (turn.named c.near n).0 (turn.named c.near n).1 (turn.named (c.near + 1) m).0 (turn.named (c.near + 1) m).1 (turn.ends c.near m) (turn.begins (c.near + 1) m))

-- so the two directions are not along one line
pub not_along : (s h k x : ℤ) → pos 0 <ℤ s → pos 0 <ℤ h → s *ℤ h ≡ pos (nat_abs k) *ℤ pos (nat_abs x) → x ≡ pos 0 → ⊥
not_along s h k x ps ph e z =
    let p : pos 0 <ℤ (s *ℤ h) = positive_mul ps ph in
    let q : s *ℤ h ≡ pos (nat_abs k) *ℤ pos 0 = e ∙ ap (λ y. pos (nat_abs k) *ℤ pos (nat_abs y)) z in
    never (s *ℤ h) (nat_abs k) p q
  where
    never : (t : ℤ) (n : ℕ) → pos 0 <ℤ t → t ≡ pos n *ℤ pos 0 → ⊥
    never t n p q = absurd (omega (arith, ints))

-- and the area of the parallelogram is that of the strip and its chord
pub area_same : (n d w h k x s : ℤ) → pos 0 <ℤ s → n *ℤ s ≡ (w *ℤ k) *ℤ d → s *ℤ h ≡ k *ℤ x → n *ℤ x ≡ (w *ℤ h) *ℤ d
area_same n d w h k x s ps size extent =
    same_of_mul s ps (combine2 x (neg_ℤ (w *ℤ d)) size extent (read (n ∷ d ∷ w ∷ h ∷ k ∷ x ∷ s ∷ []) (λ xs a b c e f g i. simp (a, b, c, e, f, g, i, polys) (den-ring xs _ _ tt))))
