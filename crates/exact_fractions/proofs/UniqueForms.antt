-- A value, or a place, has one form in lowest terms.
use Prim.Native.Nat.{◌∣◌}
use Rattle.std.proofs.Common.{Bool, IsTrue, int_eq, ◌&&◌, ◌≡◌, ◌↔◌, sym, subst, ◌∙◌, ap, ap₂, arith, ℕ, ℤ, pos, nat_abs, neg_ℤ, ◌*ℤ◌, ◌<ℤ◌, [], ◌∷◌}
use Rattle.std.proofs.lemmas.Int.{ints}
use Rattle.std.specs.Prelude.{All}
use Rattle.std.proofs.lemmas.Bool.Decides.{Decides-at, Decides-and, Decides-int_eq}
use Rattle.std.proofs.lemmas.List.Elements.{All-nil, All-cons, All-head, All-tail}
use Rattle.std.proofs.Math.IntN.{*ℤ_comm}
use Rattle.integers.proofs.Identities.{den-ring, read, polys}
use Rattle.integers.proofs.Order.{positive_from_one, same_of_mul, combine2}
use Rattle.integers.proofs.Divisors.{gcd_all, gcd_all_one, IsGcd-from_gcd_all}
use Rattle.integers.proofs.LowestTerms.{lowest_unique_ℤ, lowest_list_unique}
use Rattle.bounds_model.specs.Plane.{PlaneRatio}
use Rattle.bounds_model.specs.Space.{SpaceRatio, SamePlace, flat_ratio}
use Rattle.bounds_model.specs.Fractions.{Fraction, SameValue, IsLowest, HaveNoCommonFactor}
use Rattle.bounds_model.specs.Ranges.{IsFraction, IsPlaneRatio, IsSpaceRatio}

-- ---- equal numbers

-- points over denominators with equal numbers are equal
pub plane_ratio_by : {x y w a b c : ℤ} → x ≡ a → y ≡ b → w ≡ c → (let p : PlaneRatio = record { x = x; y = y; w = w } in p) ≡ (let q : PlaneRatio = record { x = a; y = b; w = c } in q)
plane_ratio_by {x} {y} {w} {a} {b} {c} h k l =
    let first : (let p : PlaneRatio = record { x = x; y = y; w = w } in p) ≡ (let q : PlaneRatio = record { x = a; y = y; w = w } in q) = ap (λ v. record { x = v; y = y; w = w }) h in
    first ∙ ap₂ (λ v u. record { x = a; y = v; w = u }) k l

pub space_ratio_by : {x y z w a b c d : ℤ} → x ≡ a → y ≡ b → z ≡ c → w ≡ d → (let p : SpaceRatio = record { x = x; y = y; z = z; w = w } in p) ≡ (let q : SpaceRatio = record { x = a; y = b; z = c; w = d } in q)
space_ratio_by {x} {y} {z} {w} {a} {b} {c} {d} h k l m =
    let first : (let p : SpaceRatio = record { x = x; y = y; z = z; w = w } in p) ≡ (let q : SpaceRatio = record { x = a; y = b; z = z; w = w } in q) = ap₂ (λ v u. record { x = v; y = u; z = z; w = w }) h k in
    first ∙ ap₂ (λ v u. record { x = a; y = b; z = v; w = u }) l m

-- ---- one form for each value

-- a fraction
pub fraction_unique : (a b : Fraction) → IsLowest a → IsLowest b → SameValue a b → a ≡ b
fraction_unique a b h k same =
    let parts = lowest_unique_ℤ a.n a.d b.n b.d (positive_from_one h.not_negative.denominator) (positive_from_one k.not_negative.denominator) (IsGcd-from_gcd_all a.n a.d (gcd_all_one (a.n ∷ a.d ∷ []) h.lowest))
    (IsGcd-from_gcd_all b.n b.d (gcd_all_one (b.n ∷ b.d ∷ []) k.lowest)) same in
    ap₂ (λ n d. let f : Fraction = record { n = n; d = d } in f) parts.0 parts.1

-- the last entry before the others
last_first : (P : ℤ → Type 0) (x y w : ℤ) → All P (w ∷ x ∷ y ∷ []) → All P (x ∷ y ∷ w ∷ [])
last_first P x y w all =
    let others = All-tail P w (x ∷ y ∷ []) all in
    All-cons P x (y ∷ w ∷ []) (All-head P x (y ∷ []) others) (All-cons P y (w ∷ []) (All-head P y [] (All-tail P x (y ∷ []) others)) (All-cons P w [] (All-head P w (x ∷ y ∷ []) all) (All-nil P)))

last_first4 : (P : ℤ → Type 0) (x y z w : ℤ) → All P (w ∷ x ∷ y ∷ z ∷ []) → All P (x ∷ y ∷ z ∷ w ∷ [])
last_first4 P x y z w all =
    let others = All-tail P w (x ∷ y ∷ z ∷ []) all in
    All-cons P x (y ∷ z ∷ w ∷ []) (All-head P x (y ∷ z ∷ []) others)
    (last_first P y z w (All-cons P w (y ∷ z ∷ []) (All-head P w (x ∷ y ∷ z ∷ []) all) (All-tail P x (y ∷ z ∷ []) others)))

one_of_three : (x y w : ℤ) → HaveNoCommonFactor (x ∷ y ∷ w ∷ []) → gcd_all (w ∷ x ∷ y ∷ []) ≡ 1
one_of_three x y w h = gcd_all_one (w ∷ x ∷ y ∷ []) (λ k all. h k (last_first (λ e. k ∣ nat_abs e) x y w all))

one_of_four : (x y z w : ℤ) → HaveNoCommonFactor (x ∷ y ∷ z ∷ w ∷ []) → gcd_all (w ∷ x ∷ y ∷ z ∷ []) ≡ 1
one_of_four x y z w h = gcd_all_one (w ∷ x ∷ y ∷ z ∷ []) (λ k all. h k (last_first4 (λ e. k ∣ nat_abs e) x y z w all))

turned : (a b c d : ℤ) → a *ℤ b ≡ c *ℤ d → b *ℤ a ≡ d *ℤ c
turned a b c d h = *ℤ_comm b a ∙ h ∙ *ℤ_comm c d

two_entries : {a b c d : ℤ} → (a ∷ b ∷ []) ≡ (c ∷ d ∷ []) → (a ≡ c) × (b ≡ d)
two_entries h = (cc, cc)

three_entries : {a b c d e f : ℤ} → (a ∷ b ∷ c ∷ []) ≡ (d ∷ e ∷ f ∷ []) → (a ≡ d) × (b ≡ e) × (c ≡ f)
three_entries h = (cc, cc, cc)

-- a point of the plane
pub plane_ratio_unique : (a b : PlaneRatio) → IsPlaneRatio a → IsPlaneRatio b → a.x *ℤ b.w ≡ b.x *ℤ a.w → a.y *ℤ b.w ≡ b.y *ℤ a.w → a ≡ b
plane_ratio_unique a b h k in_x in_y =
    let parts = lowest_list_unique a.w b.w (a.x ∷ a.y ∷ []) (b.x ∷ b.y ∷ []) (positive_from_one h.denominator) (positive_from_one k.denominator) (one_of_three a.x a.y a.w h.lowest) (one_of_three b.x b.y b.w k.lowest)
    (ap₂ (λ v w. v ∷ w ∷ []) (turned a.x b.w b.x a.w in_x) (turned a.y b.w b.y a.w in_y)) in
    let entries = two_entries parts.0 in
    let first : a ≡ record { x = b.x; y = b.y; w = a.w } = ap₂ (λ v u. let p : PlaneRatio = record { x = v; y = u; w = a.w } in p) entries.0 entries.1 in
    first ∙ ap (λ v. let p : PlaneRatio = record { x = b.x; y = b.y; w = v } in p) parts.1

-- a point of space
pub space_ratio_unique : (a b : SpaceRatio) → IsSpaceRatio a → IsSpaceRatio b → SamePlace a b → a ≡ b
space_ratio_unique a b h k same =
    let parts = lowest_list_unique a.w b.w (a.x ∷ a.y ∷ a.z ∷ []) (b.x ∷ b.y ∷ b.z ∷ []) (positive_from_one h.denominator) (positive_from_one k.denominator) (one_of_four a.x a.y a.z a.w h.lowest) (one_of_four b.x b.y b.z b.w k.lowest)
    (ap₂ (λ v w. v ∷ w) (turned a.x b.w b.x a.w same.in_x) (ap₂ (λ v w. v ∷ w ∷ []) (turned a.y b.w b.y a.w same.in_y) (turned a.z b.w b.z a.w same.in_z))) in
    let entries = three_entries parts.0 in
    let first : a ≡ record { x = b.x; y = b.y; z = a.z; w = a.w } = ap₂ (λ v u. let p : SpaceRatio = record { x = v; y = u; z = a.z; w = a.w } in p) entries.0 entries.1 in
    first ∙ ap₂ (λ v u. let p : SpaceRatio = record { x = b.x; y = b.y; z = v; w = u } in p) entries.2 parts.1

-- ---- the form of a given value

pub same_by : (a d b e v w : ℤ) → pos 0 <ℤ w → a *ℤ w ≡ v *ℤ d → b *ℤ w ≡ v *ℤ e → a *ℤ e ≡ b *ℤ d
same_by a d b e v w p h k = same_of_mul w p (combine2 e (neg_ℤ d) h k (read (a ∷ d ∷ b ∷ e ∷ v ∷ w ∷ []) (λ xs q r s t u x. simp (q, r, s, t, u, x, polys) (den-ring xs _ _ tt))))

-- a fraction has the value exactly where it is the one in lowest terms that has it
pub has_value : (a b v : Fraction) → pos 0 <ℤ v.d → IsFraction b → SameValue b v → (IsFraction a × SameValue a v) ↔ (a ≡ b)
has_value a b v p place value = (
  λ h. fraction_unique a b h.0.lowest place.lowest (same_by a.n a.d b.n b.d v.n v.d p h.1 value),
  λ e. (subst IsFraction (sym e) place, subst (λ f. SameValue f v) (sym e) value),
)

-- and so a point of the plane
pub has_plane_place : (a b v : PlaneRatio) → pos 0 <ℤ v.w → IsPlaneRatio b → SamePlace (flat_ratio b) (flat_ratio v) → (IsPlaneRatio a × SamePlace (flat_ratio a) (flat_ratio v)) ↔ (a ≡ b)
has_plane_place a b v p place same = (
  λ h. plane_ratio_unique a b h.0 place (same_by a.x a.w b.x b.w v.x v.w p h.1.in_x same.in_x) (same_by a.y a.w b.y b.w v.y v.w p h.1.in_y same.in_y),
  λ e. (subst IsPlaneRatio (sym e) place, subst (λ f. SamePlace (flat_ratio f) (flat_ratio v)) (sym e) same),
)

-- and of space
pub has_space_place : (a b v : SpaceRatio) → pos 0 <ℤ v.w → IsSpaceRatio b → SamePlace b v → (IsSpaceRatio a × SamePlace a v) ↔ (a ≡ b)
has_space_place a b v p place same = (
  λ h. space_ratio_unique a b h.0 place (record {
    in_x = same_by a.x a.w b.x b.w v.x v.w p h.1.in_x same.in_x;
    in_y = same_by a.y a.w b.y b.w v.y v.w p h.1.in_y same.in_y;
    in_z = same_by a.z a.w b.z b.w v.z v.w p h.1.in_z same.in_z;
  }),
  λ e. (subst IsSpaceRatio (sym e) place, subst (λ f. SamePlace f v) (sym e) same),
)

-- ---- what `==` answers

pub plane_ratio_same : {yes : Bool} (a b : PlaneRatio) → yes ≡ (int_eq a.x b.x && (int_eq a.y b.y && int_eq a.w b.w)) → IsTrue yes ↔ (a ≡ b)
plane_ratio_same {yes} a b e =
    let parts = Decides-at yes (int_eq a.x b.x && (int_eq a.y b.y && int_eq a.w b.w)) e
    (Decides-and (int_eq a.x b.x) (int_eq a.y b.y && int_eq a.w b.w) (Decides-int_eq a.x b.x) (Decides-and (int_eq a.y b.y) (int_eq a.w b.w) (Decides-int_eq a.y b.y) (Decides-int_eq a.w b.w))) in
    (λ t. let h = parts.0 t in plane_ratio_by h.0 h.1.0 h.1.1, λ h. parts.1 (ap (λ p. p.x) h, (ap (λ p. p.y) h, ap (λ p. p.w) h)))

pub space_ratio_same : {yes : Bool} (a b : SpaceRatio) → yes ≡ (int_eq a.x b.x && (int_eq a.y b.y && (int_eq a.z b.z && int_eq a.w b.w))) → IsTrue yes ↔ (a ≡ b)
space_ratio_same {yes} a b e =
    let parts = Decides-at yes (int_eq a.x b.x && (int_eq a.y b.y && (int_eq a.z b.z && int_eq a.w b.w))) e
    (Decides-and (int_eq a.x b.x) (int_eq a.y b.y && (int_eq a.z b.z && int_eq a.w b.w)) (Decides-int_eq a.x b.x)
    (Decides-and (int_eq a.y b.y) (int_eq a.z b.z && int_eq a.w b.w) (Decides-int_eq a.y b.y) (Decides-and (int_eq a.z b.z) (int_eq a.w b.w) (Decides-int_eq a.z b.z) (Decides-int_eq a.w b.w)))) in
    (λ t. let h = parts.0 t in space_ratio_by h.0 h.1.0 h.1.1.0 h.1.1.1, λ h. parts.1 (ap (λ p. p.x) h, (ap (λ p. p.y) h, (ap (λ p. p.z) h, ap (λ p. p.w) h))))

-- numbers that stand for equal ones are equal
pub same_number : {m n : ℕ} {a b : ℤ} → pos m ≡ a → pos n ≡ b → a ≡ b → m ≡ n
same_number {m} {n} {a} {b} h k e = omega (arith, ints)

-- fractions with equal parts are equal
pub same_fraction : {m n d e : ℕ} (a b : Fraction) → pos m ≡ a.n → pos n ≡ b.n → pos d ≡ a.d → pos e ≡ b.d → m ≡ n → d ≡ e → a ≡ b
same_fraction a b an bn ad bd h k = ap₂ (λ n d. let f : Fraction = record { n = n; d = d } in f) (sym an ∙ ap pos h ∙ bn) (sym ad ∙ ap pos k ∙ bd)
