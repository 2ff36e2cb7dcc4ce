-- What the conditions of the solver say of four and five items.
use Rattle.std.proofs.Common.{◌≡◌, sym, subst, ℕ, ◌⊎◌, inl, inr, neg_ℤ, ◌∙◌, ap, ap₂, ℤ, pos, ◌+ℤ◌, ◌-ℤ◌, ◌*ℤ◌, ◌<ℤ◌, [], ◌∷◌, arith}
use Rattle.std.specs.Prelude.{All}
use Rattle.std.proofs.lemmas.Int.{ints}
use Rattle.std.proofs.lemmas.List.Elements.{All-head, All-tail}
use Rattle.integers.proofs.Identities.{den-ring, read, polys, lits}
use Rattle.integers.proofs.Order.{combine2}
use Rattle.bounds_model.specs.Space.{SpacePoint, vector, squared_length}
use Rattle.bounds_model.specs.Slacks.{IsDependence}
use Rattle.kernel_laws.specs.Limits.{IsVectorWithin, IsDifference}
use Rattle.kernel_laws.specs.Solutions.{AreItems}
use Rattle.kernel_laws.specs.Systems.{cross}
use Rattle.kernel_laws.proofs.Shown.{of_plane_of_four}
use Rattle.kernel_laws.proofs.Three.{flat_difference}

-- the sizes of four items
pub record FourItems (dim : ℕ) (a b c d : SpacePoint) : Type 0 where
  pub first : IsDifference dim a
  pub second : IsDifference dim b
  pub third : IsDifference dim c
  pub fourth : IsDifference dim d

-- from the conditions of the solver
pub four_items : (quadratic : ℤ) (dim : ℕ) (a b c d : SpacePoint) → AreItems quadratic dim (a ∷ b ∷ c ∷ d ∷ []) → FourItems dim a b c d
four_items quadratic dim a b c d h =
    let one : All (IsDifference dim) (b ∷ c ∷ d ∷ []) = All-tail (IsDifference dim) a (b ∷ c ∷ d ∷ []) h.each in
    let two : All (IsDifference dim) (c ∷ d ∷ []) = All-tail (IsDifference dim) b (c ∷ d ∷ []) one in
    record { first = All-head (IsDifference dim) a (b ∷ c ∷ d ∷ []) h.each; second = All-head (IsDifference dim) b (c ∷ d ∷ []) one; third = All-head (IsDifference dim) c (d ∷ []) two; fourth = All-head (IsDifference dim) d [] (All-tail (IsDifference dim) c (d ∷ []) two) }

-- the bounds of four items of space
pub record SpaceItems (a b c d : SpacePoint) : Type 0 where
  pub first : IsVectorWithin 16000 a
  pub second : IsVectorWithin 16000 b
  pub third : IsVectorWithin 16000 c
  pub fourth : IsVectorWithin 16000 d

-- they are those of the dimension
pub space_items : (a b c d : SpacePoint) → FourItems 3 a b c d → SpaceItems a b c d
space_items a b c d h = record { first = h.first.within; second = h.second.within; third = h.third.within; fourth = h.fourth.within }

-- two vectors of the plane whose cross product is not zero have one with a height
pub no_height : (u v : SpacePoint) → u.z ≡ pos 0 → v.z ≡ pos 0 → pos 0 <ℤ squared_length (cross u v) → (cross u v).z ≡ pos 0 → ⊥
no_height u v uz vz apart e =
    let x : (cross u v).x ≡ pos 0 = combine2 u.y (neg_ℤ v.y) vz uz (read (u.y ∷ u.z ∷ v.y ∷ v.z ∷ []) (λ xs a b c d. simp (a, b, c, d, polys, lits xs) (den-ring xs _ _ tt))) in
    let y : (cross u v).y ≡ pos 0 = combine2 v.x (neg_ℤ u.x) uz vz (read (u.x ∷ u.z ∷ v.x ∷ v.z ∷ []) (λ xs a b c d. simp (a, b, c, d, polys, lits xs) (den-ring xs _ _ tt))) in
    let n : SpacePoint = cross u v in
    let none : squared_length n ≡ pos 0 = ap₂ (λ x y. x *ℤ x +ℤ y *ℤ y +ℤ n.z *ℤ n.z) x y ∙ ap (λ z. pos 0 *ℤ pos 0 +ℤ pos 0 *ℤ pos 0 +ℤ z *ℤ z) e in
    absurd (omega (arith, ints))

-- four vectors of the plane, not all on a line, with the heights of their cross products
pub heights_shown : (quadratic : ℤ) (dim : ℕ) (a b c d : SpacePoint) {p q s : ℤ} → AreItems quadratic dim (a ∷ b ∷ c ∷ d ∷ []) → dim ≡ 2 → p ≡ (cross (vector a d) (vector a c)).z → q ≡ (cross (vector a b) (vector a d)).z → s ≡ (cross (vector a b) (vector a c)).z → pos 0 <ℤ squared_length (cross (vector a b) (vector a c)) → IsDependence (a ∷ b ∷ c ∷ d ∷ []) ((s -ℤ p -ℤ q) ∷ p ∷ q ∷ neg_ℤ s ∷ [])
heights_shown quadratic dim a b c d {p} {q} {s} h two ep eq es apart =
    let items : FourItems dim a b c d = four_items quadratic dim a b c d h in
    let uz : (vector a b).z ≡ pos 0 = flat_difference dim a b items.first items.second two in
    let vz : (vector a c).z ≡ pos 0 = flat_difference dim a c items.first items.third two in
    let wz : (vector a d).z ≡ pos 0 = flat_difference dim a d items.first items.fourth two in
    of_plane_of_four a b c d p q s ep eq es (λ e. no_height (vector a b) (vector a c) uz vz apart (sym es ∙ e)) uz vz wz

-- the bounds of four items of three dimensions
pub near_items : (quadratic : ℤ) (dim : ℕ) (a b c d : SpacePoint) → AreItems quadratic dim (a ∷ b ∷ c ∷ d ∷ []) → dim ≡ 3 → SpaceItems a b c d
near_items quadratic dim a b c d h three = space_items a b c d (subst (λ n. FourItems n a b c d) three (four_items quadratic dim a b c d h))

-- the dimension is the plane's where it is not that of space
pub in_plane : {dim : ℕ} → (dim ≡ 2) ⊎ (dim ≡ 3) → (dim ≡ 3 → ⊥) → dim ≡ 2
in_plane (inl e) f = e
in_plane (inr e) f = absurd (f e)

-- and that of space where it is not the plane's
pub in_space : {dim : ℕ} → (dim ≡ 2) ⊎ (dim ≡ 3) → (dim ≡ 2 → ⊥) → dim ≡ 3
in_space (inl e) f = absurd (f e)
in_space (inr e) f = e
