-- The chord that is made of a point and two others: it is across, and within the checker's limits.
use Rattle.std.proofs.Common.{◌≡◌, sym, ◌∙◌, ap, subst, ℕ, zero, suc, ◌+◌, ◌*◌, ◌<◌, ◌≤◌, ◌^◌, ℤ, pos, nat_abs, ◌+ℤ◌, ◌-ℤ◌, ◌*ℤ◌, neg_ℤ, ◌≤ℤ◌, List, [], ◌∷◌, Some, arith}
use Rattle.std.specs.Prelude.{slice_get}
use Rattle.std.proofs.lemmas.Int.{ints, unsigned_abs-mul}
use Rattle.std.proofs.lemmas.Option.{slice_get_within}
use Rattle.integers.specs.Size.{Size}
use Rattle.bounds_model.specs.Plane.{PlanePoint, point_at, vector, dot, turn, plus, times, quarter_turn}
use Rattle.bounds_model.specs.ParallelogramAnswer.{IsAcross}
use Rattle.parallelogram_strip.specs.Crossings.{IsChord}
use Rattle.parallelogram_strip.proofs.Crossings.{chord_across}
use Rattle.directions.proofs.Reading.{point_is}
use Rattle.directions.proofs.Reaches.{dot_vector}

-- the chord with these weights and this factor
pub made_chord : (points : List PlanePoint) (d : PlanePoint) (a b c beta gamma : ℕ) (k : ℤ) (p q r : PlanePoint)
    → slice_get points a ≡ Some p → slice_get points b ≡ Some q → slice_get points c ≡ Some r
    → Size 160000000000 (dot d q) → Size 160000000000 (dot d r)
    → pos beta ≡ dot d p -ℤ dot d r → pos gamma ≡ dot d q -ℤ dot d p → 0 < beta + gamma
    → k ≡ turn p q r → Size 320000000000 k
    → IsChord points d (record { a = a; b = b; c = c; beta = pos beta; gamma = pos gamma; k = k })
made_chord points d a b c beta gamma k p q r ha hb hc size_q size_r is_beta is_gamma some is_k size_k = record {
  names = (slice_get_within points a p ha, slice_get_within points b q hb, slice_get_within points c r hc);
  short = record {
    some = omega (arith, ints);
    weights = most (dot d q) (dot d p) (dot d r) size_q size_r is_beta is_gamma;
    k = let l = size_k.abs in record { low = omega (arith, ints); high = omega (arith, ints) };
  };
  across =
      subst (λ o. IsAcross points d (record { a = a; b = b; c = c; beta = o; gamma = pos gamma; k = k })) (sym beta_is)
      (subst (λ o. IsAcross points d (record { a = a; b = b; c = c; beta = neg_ℤ (dot d (vector p r)); gamma = o; k = k })) (sym gamma_is)
      (subst (λ o. IsAcross points d (record { a = a; b = b; c = c; beta = neg_ℤ (dot d (vector p r)); gamma = dot d (vector p q); k = o })) (sym is_k)
      (subst (λ o. plus (times (neg_ℤ (dot d (vector p r))) (vector o (point_at points b))) (times (dot d (vector p q)) (vector o (point_at points c))) ≡ times (turn p q r) (quarter_turn d)) (sym (point_is points a p ha))
      (subst (λ o. plus (times (neg_ℤ (dot d (vector p r))) (vector p o)) (times (dot d (vector p q)) (vector p (point_at points c))) ≡ times (turn p q r) (quarter_turn d)) (sym (point_is points b q hb))
      (subst (λ o. plus (times (neg_ℤ (dot d (vector p r))) (vector p q)) (times (dot d (vector p q)) (vector p o)) ≡ times (turn p q r) (quarter_turn d)) (sym (point_is points c r hc))
      (chord_across d p q r))))));
}
  where
    most : (x y z : ℤ) → Size 160000000000 x → Size 160000000000 z → pos beta ≡ y -ℤ z → pos gamma ≡ x -ℤ y → (pos beta +ℤ pos gamma) ≤ℤ pos (2 ^ 39)
    most x y z sx sz hb hg = let lx = sx.abs in let lz = sz.abs in omega (arith, ints)

    swapped : (x y : ℤ) → x -ℤ y ≡ neg_ℤ (y -ℤ x)
    swapped x y = omega (arith, ints)

    beta_is : pos beta ≡ neg_ℤ (dot d (vector p r))
    beta_is = is_beta ∙ swapped (dot d p) (dot d r) ∙ ap neg_ℤ (sym (dot_vector d p r))

    gamma_is : pos gamma ≡ dot d (vector p q)
    gamma_is = is_gamma ∙ sym (dot_vector d p q)

-- where both points are level with the first, the chord leads to one of them
pub level_chord : (points : List PlanePoint) (d : PlanePoint) (a b c : ℕ) (k : ℤ) (p q r : PlanePoint)
    → slice_get points a ≡ Some p → slice_get points b ≡ Some q → slice_get points c ≡ Some r
    → vector p q ≡ times k (quarter_turn d) → Size 320000000000 k
    → IsChord points d (record { a = a; b = b; c = c; beta = pos 1; gamma = pos 0; k = k })
level_chord points d a b c k p q r ha hb hc is_k size_k = record {
  names = (slice_get_within points a p ha, slice_get_within points b q hb, slice_get_within points c r hc);
  short = record {
    some = omega (arith, ints);
    weights = omega (arith, ints);
    k = let l = size_k.abs in record { low = omega (arith, ints); high = omega (arith, ints) };
  };
  across =
      once (vector (point_at points a) (point_at points b)) (vector (point_at points a) (point_at points c))
      ∙ subst (λ o. vector o (point_at points b) ≡ times k (quarter_turn d)) (sym (point_is points a p ha)) (subst (λ o. vector p o ≡ times k (quarter_turn d)) (sym (point_is points b q hb)) is_k);
}
  where
    one : (x y : ℤ) → pos 1 *ℤ x +ℤ pos 0 *ℤ y ≡ x
    one x y = omega (arith, ints)

    once : (v w : PlanePoint) → plus (times (pos 1) v) (times (pos 0) w) ≡ v
    once v w = λ i. record { x = one v.x w.x i; y = one v.y w.y i }

-- a quotient is not greater than what was divided
pub quotient_size : {n s : ℕ} {r c : ℤ} → 0 < s → pos s *ℤ r ≡ c → Size n c → Size n r
quotient_size {n} {s} {r} {c} some e size = record { abs = most (nat_abs r) (nat_abs c) (sym (unsigned_abs-mul (pos s) r) ∙ ap nat_abs e) size.abs }
  where
    most : (x y : ℕ) → s * x ≡ y → y ≤ n → x ≤ n
    most x y e l = least s x y some e l
      where
        least : (s x y : ℕ) → 0 < s → s * x ≡ y → y ≤ n → x ≤ n
        least zero x y some e l = absurd (omega arith)
        least (suc s) x y some e l = omega arith

-- points that are as far out are level
pub level : (d p q : PlanePoint) (n : ℕ) → pos n ≡ dot d q -ℤ dot d p → n ≡ 0 → dot d (vector p q) ≡ pos 0
level d p q n h e = dot_vector d p q ∙ sym h ∙ ap pos e
