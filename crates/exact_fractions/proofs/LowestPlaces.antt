-- The places that code makes of whole numbers over their greatest common divisor. Each number goes to its bits and back on the way.
use Prim.Native.Nat.{◌∣◌}
use Rattle.std.proofs.Common.{◌≡◌, sym, ◌∙◌, ap, subst, ℕ, ◌<◌, ℤ, pos, ◌*ℤ◌, ◌≤ℤ◌, nat_abs, to_z, of_z, [], ◌∷◌}
use Rattle.std.specs.Int.{IsGcd}
use Rattle.std.proofs.Math.Nat.{dvd_refl}
use mir.Syntax.{w128}
use Rattle.integers.proofs.Sizes.{size_between, wrap_is}
use Rattle.integers.proofs.Divisors.{gcd_all, gcd_all_one}
use Rattle.bounds_model.specs.Plane.{PlaneRatio}
use Rattle.bounds_model.specs.Space.{SpaceRatio, SamePlace, flat_ratio}
use Rattle.bounds_model.specs.Ranges.{IsNumber, IsPlaneRatio, IsSpaceRatio}
use Rattle.exact_fractions.specs.Divisors.{IsDivisorOf}
use Rattle.exact_fractions.proofs.LowestForms.{gcd_of_three, gcd_of_four, divides_entry, dvd-first, dvd-rest, divides_four, IsNumber-quotient, IsPlaneRatio-div, IsSpaceRatio-div, SamePlace-div, zero_scaled, quotient_by_one}
use Rattle.exact_fractions.proofs.UniqueForms.{plane_ratio_by, space_ratio_by}

-- ---- numbers that went to their bits and back

abbrev pub back : ℤ → ℤ
back x = to_z w128 (of_z w128 x)

-- a number of an answer comes back
pub back_is : {x : ℤ} → IsNumber x → back x ≡ x
back_is h = wrap_is (size_between h.low h.high) tt

-- its size too
size_is : {x : ℤ} {n : ℕ} → IsNumber x → n ≡ nat_abs (back x) → n ≡ nat_abs x
size_is h e = e ∙ ap nat_abs (back_is h)

-- it is as divisible
divisor_of_back : {k : ℕ} {x : ℤ} → IsNumber x → IsDivisorOf k x → IsDivisorOf k (back x)
divisor_of_back {k} h d = subst (IsDivisorOf k) (sym (back_is h)) d

-- a quotient of a number, and that it comes back
pub record Quotient (k : ℕ) (x q : ℤ) : Type 0 where
  pub whole : pos k *ℤ q ≡ x
  pub same : back q ≡ q

quotient_of : {k : ℕ} {x q : ℤ} → 0 < k → IsNumber x → pos k *ℤ q ≡ back x → Quotient k x q
quotient_of {k} {x} {q} p h e =
    let whole : pos k *ℤ q ≡ x = e ∙ back_is h in
    record { whole = whole; same = back_is (IsNumber-quotient k q x p whole h) }

-- ---- the plane

-- the numbers of a place, and what two calls find to divide them
pub record PlaneDivisor (k : ℕ) (x y w : ℤ) : Type 0 where
  pub number_x : IsNumber x
  pub number_y : IsNumber y
  pub number_w : IsNumber w
  pub some : pos 1 ≤ℤ w
  pub whole : gcd_all (x ∷ y ∷ w ∷ []) ≡ k
  pub positive : 0 < k
  pub in_x : IsDivisorOf k (back x)
  pub in_y : IsDivisorOf k (back y)
  pub in_w : IsDivisorOf k (back w)

pub plane_divisor : {x y w : ℤ} {l m n h k : ℕ} → IsNumber x → IsNumber y → IsNumber w → pos 1 ≤ℤ w → l ≡ nat_abs (back x) → m ≡ nat_abs (back y) → n ≡ nat_abs (back w)
    → IsGcd m n h → IsGcd l h k → PlaneDivisor k x y w
plane_divisor {x} {y} {w} {l} {m} {n} {h} {k} hx hy hw some ex ey ew inner outer =
    let whole : gcd_all (x ∷ y ∷ w ∷ []) ≡ k = gcd_of_three x y w l m n h k (size_is hx ex) (size_is hy ey) (size_is hw ew) inner outer in
    let from_x : k ∣ gcd_all (x ∷ y ∷ w ∷ []) = subst (λ g. k ∣ g) (sym whole) (dvd_refl k) in
    let from_y : k ∣ gcd_all (y ∷ w ∷ []) = dvd-rest k x (y ∷ w ∷ []) from_x in
    let last : k ∣ nat_abs w = dvd-first k w [] (dvd-rest k y (w ∷ []) from_y) in
    let in_w : IsDivisorOf k w = divides_entry k w w some hw last last in
    record {
      number_x = hx;
      number_y = hy;
      number_w = hw;
      some = some;
      whole = whole;
      positive = in_w.positive;
      in_x = divisor_of_back hx (divides_entry k w x some hw last (dvd-first k x (y ∷ w ∷ []) from_x));
      in_y = divisor_of_back hy (divides_entry k w y some hw last (dvd-first k y (w ∷ []) from_y));
      in_w = divisor_of_back hw in_w;
    }

-- the place of the quotients
pub record PlaneQuotients (x y w a b c : ℤ) : Type 0 where
  pub ratio : IsPlaneRatio (record { x = back a; y = back b; w = back c })
  pub place : SamePlace (flat_ratio (record { x = back a; y = back b; w = back c })) (flat_ratio (record { x = x; y = y; w = w }))
  pub kept : IsPlaneRatio (record { x = x; y = y; w = w }) → ◌≡◌ {A = PlaneRatio} (record { x = back a; y = back b; w = back c }) (record { x = x; y = y; w = w })

pub plane_quotients : {k : ℕ} {x y w a b c : ℤ} → PlaneDivisor k x y w → pos k *ℤ a ≡ back x → pos k *ℤ b ≡ back y → pos k *ℤ c ≡ back w → PlaneQuotients x y w a b c
plane_quotients {k} {x} {y} {w} {a} {b} {c} h ex ey ew =
    let qx = quotient_of h.positive h.number_x ex in
    let qy = quotient_of h.positive h.number_y ey in
    let qw = quotient_of h.positive h.number_w ew in
    let same = plane_ratio_by (sym qx.same) (sym qy.same) (sym qw.same) in
    let lowest = IsPlaneRatio-div k x y w a b c h.positive h.whole h.number_x h.number_y h.number_w h.some qx.whole qy.whole qw.whole in
    let place = SamePlace-div k x y (pos 0) w a b (pos 0) c qx.whole qy.whole (zero_scaled k) qw.whole in
    record {
      ratio = subst IsPlaneRatio same lowest;
      place = subst (λ p. SamePlace (flat_ratio p) (flat_ratio (record { x = x; y = y; w = w }))) same place;
      kept = λ lowest.
          let one : k ≡ 1 = sym h.whole ∙ gcd_all_one (x ∷ y ∷ w ∷ []) lowest.lowest in
          plane_ratio_by (qx.same ∙ quotient_by_one k a x one qx.whole) (qy.same ∙ quotient_by_one k b y one qy.whole) (qw.same ∙ quotient_by_one k c w one qw.whole);
    }

-- ---- space

-- the numbers of a place, and what three calls find to divide them
pub record SpaceDivisor (k : ℕ) (x y z w : ℤ) : Type 0 where
  pub number_x : IsNumber x
  pub number_y : IsNumber y
  pub number_z : IsNumber z
  pub number_w : IsNumber w
  pub some : pos 1 ≤ℤ w
  pub whole : gcd_all (x ∷ y ∷ z ∷ w ∷ []) ≡ k
  pub positive : 0 < k
  pub in_x : IsDivisorOf k (back x)
  pub in_y : IsDivisorOf k (back y)
  pub in_z : IsDivisorOf k (back z)
  pub in_w : IsDivisorOf k (back w)

pub space_divisor : {x y z w : ℤ} {l m n o g h k : ℕ} → IsNumber x → IsNumber y → IsNumber z → IsNumber w → pos 1 ≤ℤ w → l ≡ nat_abs (back x) → m ≡ nat_abs (back y) → n ≡ nat_abs (back z)
    → o ≡ nat_abs (back w) → IsGcd n o g → IsGcd m g h → IsGcd l h k → SpaceDivisor k x y z w
space_divisor {x} {y} {z} {w} {l} {m} {n} {o} {g} {h} {k} hx hy hz hw some ex ey ez ew inner middle outer =
    let whole : gcd_all (x ∷ y ∷ z ∷ w ∷ []) ≡ k = gcd_of_four x y z w l m n o g h k (size_is hx ex) (size_is hy ey) (size_is hz ez) (size_is hw ew) inner middle outer in
    let each = divides_four k x y z w some hw whole in
    record {
      number_x = hx;
      number_y = hy;
      number_z = hz;
      number_w = hw;
      some = some;
      whole = whole;
      positive = each.fourth.positive;
      in_x = divisor_of_back hx each.first;
      in_y = divisor_of_back hy each.second;
      in_z = divisor_of_back hz each.third;
      in_w = divisor_of_back hw each.fourth;
    }

-- the place of the quotients
pub record SpaceQuotients (x y z w a b c d : ℤ) : Type 0 where
  pub ratio : IsSpaceRatio (record { x = back a; y = back b; z = back c; w = back d })
  pub place : SamePlace (record { x = back a; y = back b; z = back c; w = back d }) (record { x = x; y = y; z = z; w = w })
  pub kept : IsSpaceRatio (record { x = x; y = y; z = z; w = w }) → ◌≡◌ {A = SpaceRatio} (record { x = back a; y = back b; z = back c; w = back d }) (record { x = x; y = y; z = z; w = w })

pub space_quotients : {k : ℕ} {x y z w a b c d : ℤ} → SpaceDivisor k x y z w → pos k *ℤ a ≡ back x → pos k *ℤ b ≡ back y → pos k *ℤ c ≡ back z → pos k *ℤ d ≡ back w
    → SpaceQuotients x y z w a b c d
space_quotients {k} {x} {y} {z} {w} {a} {b} {c} {d} h ex ey ez ew =
    let qx = quotient_of h.positive h.number_x ex in
    let qy = quotient_of h.positive h.number_y ey in
    let qz = quotient_of h.positive h.number_z ez in
    let qw = quotient_of h.positive h.number_w ew in
    let same = space_ratio_by (sym qx.same) (sym qy.same) (sym qz.same) (sym qw.same) in
    let lowest = IsSpaceRatio-div k x y z w a b c d h.positive h.whole h.number_x h.number_y h.number_z h.number_w h.some qx.whole qy.whole qz.whole qw.whole in
    let place = SamePlace-div k x y z w a b c d qx.whole qy.whole qz.whole qw.whole in
    record {
      ratio = subst IsSpaceRatio same lowest;
      place = subst (λ p. SamePlace p (record { x = x; y = y; z = z; w = w })) same place;
      kept = λ lowest.
          let one : k ≡ 1 = sym h.whole ∙ gcd_all_one (x ∷ y ∷ z ∷ w ∷ []) lowest.lowest in
          let same_x = qx.same ∙ quotient_by_one k a x one qx.whole in
          let same_y = qy.same ∙ quotient_by_one k b y one qy.whole in
          space_ratio_by same_x same_y (qz.same ∙ quotient_by_one k c z one qz.whole) (qw.same ∙ quotient_by_one k d w one qw.whole);
    }
