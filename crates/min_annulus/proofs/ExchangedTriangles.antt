-- Whichever vertex leaves, the measure falls.
use Rattle.std.proofs.Common.{◌≡◌, sym, ap₂, subst, inl, inr, ℕ, ◌*◌, ◌/◌, ◌<◌, ◌^◌, ℤ, pos, ◌+ℤ◌, ◌-ℤ◌, ◌*ℤ◌, ◌<ℤ◌, nat_abs, List, [], ◌∷◌, arith}
use Rattle.std.proofs.lemmas.Int.{ints}
use Rattle.integers.proofs.Identities.{den-ring, read, polys}
use Rattle.bounds_model.specs.Plane.{PlanePoint}
use Rattle.min_annulus.specs.declared.difference_vectors.DifferenceVector.{DifferenceVector}
use Rattle.min_annulus.specs.declared.pairs.Pair.{Pair}
use Rattle.min_annulus.specs.declared.target_triangle.Triangle.{Triangle}
use Rattle.min_annulus.specs.DifferenceVectors.{IsDifference, IsAround, side, lift_limit, measure}
use Rattle.min_annulus.specs.LinearForms.{rise, form_through}
use Rattle.min_annulus.specs.Pairs.{IsPair}
use Rattle.min_annulus.specs.Triangles.{IsAroundTarget, IsTriangle, IsExchange}
use Rattle.min_annulus.proofs.SameRecords.{same_form}
use Rattle.min_annulus.proofs.Exchange.{turned}
use Rattle.min_annulus.proofs.Measure.{measure_falls}
use Rattle.min_annulus.proofs.Ending.{second_rise, third_rise}

-- ---- a triangle may begin at each vertex

turn_sum : (x y z : ℤ) → y +ℤ z +ℤ x ≡ x +ℤ y +ℤ z
turn_sum x y z = omega (arith, ints)

-- its measure stays
pub measure_turned : (a b c : DifferenceVector) → measure b c a ≡ measure a b c
measure_turned a b c =
    ap₂ (λ n d. nat_abs (pos lift_limit *ℤ d -ℤ n) * (2 ^ 85 * 2 ^ 85) / nat_abs d)
    (turn_sum (side b c *ℤ a.lift) (side c a *ℤ b.lift) (side a b *ℤ c.lift))
    (turn_sum (side b c) (side c a) (side a b))

plain_cross : (ax ay bx by cx cy : ℤ) → (cx -ℤ bx) *ℤ (ay -ℤ by) -ℤ (ax -ℤ bx) *ℤ (cy -ℤ by) ≡ (bx -ℤ ax) *ℤ (cy -ℤ ay) -ℤ (cx -ℤ ax) *ℤ (by -ℤ ay)
plain_cross ax ay bx by cx cy = read (ax ∷ ay ∷ bx ∷ by ∷ cx ∷ cy ∷ []) (λ xs a b c d e f. simp (a, b, c, d, e, f, polys) (den-ring xs _ _ tt))

plain_area : (ax ay bx by cx cy : ℤ) → (cx -ℤ bx) *ℤ (ay -ℤ by) -ℤ (cy -ℤ by) *ℤ (ax -ℤ bx) ≡ (bx -ℤ ax) *ℤ (cy -ℤ ay) -ℤ (by -ℤ ay) *ℤ (cx -ℤ ax)
plain_area ax ay bx by cx cy = read (ax ∷ ay ∷ bx ∷ by ∷ cx ∷ cy ∷ []) (λ xs a b c d e f. simp (a, b, c, d, e, f, polys) (den-ring xs _ _ tt))

-- and so does its form
pub form_turned : (a b c : DifferenceVector) → form_through b c a ≡ form_through a b c
form_turned a b c = same_form (plain_cross a.lift a.y b.lift b.y c.lift c.y) (plain_cross a.x a.lift b.x b.lift c.x c.lift) (plain_area a.x a.y b.x b.y c.x c.y)

-- ---- the exchange

-- the measure of a triangle
abbrev pub measure_of : Triangle → ℕ
measure_of t = measure t.a.difference t.b.difference t.c.difference

-- falls, where the new pair is above the old ones
pub exchange_falls : (t new : Triangle) (d : Pair) → IsAroundTarget t → IsAroundTarget new → IsDifference d.difference → IsExchange t d new
    → rise (form_through t.a.difference t.b.difference t.c.difference) t.a.difference <ℤ rise (form_through t.a.difference t.b.difference t.c.difference) d.difference → measure_of new < measure_of t
exchange_falls t new d old around hd exchange above = elim exchange [
  | inl e ↦ subst (λ n. measure_of n < measure_of t) (sym e) (measure_falls a b c x old.a old.b old.c hd old.around (subst IsThree e around.around) above)
  | inr f ↦ elim f [
    | inl e ↦ subst (λ n. measure_of n < measure_of t) (sym e)
        (subst (λ n. n < measure a b c) (measure_turned x b c) (subst (λ n. measure b c x < n) (measure_turned a b c)
        (measure_falls b c a x old.b old.c old.a hd (turned a b c old.around) (turned x b c (subst IsThree e around.around))
        (subst (λ f. rise f b <ℤ rise f x) (sym (form_turned a b c)) (subst (λ z. z <ℤ rise (form_through a b c) x) (sym (second_rise a b c)) above)))))
    | inr e ↦ subst (λ n. measure_of n < measure_of t) (sym e)
        (subst (λ n. n < measure a b c) (sym (measure_turned c a x)) (subst (λ n. measure c a x < n) (sym (measure_turned c a b))
        (measure_falls c a b x old.c old.a old.b hd (turned b c a (turned a b c old.around)) (turned x c a (turned a x c (subst IsThree e around.around)))
        (subst (λ f. rise f c <ℤ rise f x) (form_turned c a b) (subst (λ z. z <ℤ rise (form_through a b c) x) (sym (third_rise a b c)) above)))))
  ]
]
  where
    a : DifferenceVector
    a = t.a.difference

    b : DifferenceVector
    b = t.b.difference

    c : DifferenceVector
    c = t.c.difference

    x : DifferenceVector
    x = d.difference

    IsThree : Triangle → Type 0
    IsThree n = IsAround n.a.difference n.b.difference n.c.difference

-- ---- pairs of the points

-- three pairs of the points are three differences
pub of_points : (points : List PlanePoint) (t : Triangle) → IsTriangle points t → IsAroundTarget t
of_points points t is = record { a = is.a.within; b = is.b.within; c = is.c.within; around = is.around }

-- and stay so
pub still_of_points : (points : List PlanePoint) (t new : Triangle) (d : Pair) → IsTriangle points t → IsPair points d → IsAroundTarget new → IsExchange t d new → IsTriangle points new
still_of_points points t new d is hd around exchange = elim exchange [
  | inl e ↦ record { a = subst (λ n. IsPair points n.a) (sym e) is.a; b = subst (λ n. IsPair points n.b) (sym e) is.b; c = subst (λ n. IsPair points n.c) (sym e) hd; around = around.around }
  | inr f ↦ elim f [
    | inl e ↦ record { a = subst (λ n. IsPair points n.a) (sym e) hd; b = subst (λ n. IsPair points n.b) (sym e) is.b; c = subst (λ n. IsPair points n.c) (sym e) is.c; around = around.around }
    | inr e ↦ record { a = subst (λ n. IsPair points n.a) (sym e) is.a; b = subst (λ n. IsPair points n.b) (sym e) hd; c = subst (λ n. IsPair points n.c) (sym e) is.c; around = around.around }
  ]
]
