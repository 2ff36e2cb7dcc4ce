-- There is one first object: two that are both first are the same.
use Prim.Native.Nat.{◌∣◌}
use Rattle.std.proofs.Common.{◌≡◌, refl, sym, subst, ap, ap₂, ◌∙◌, inl, inr, ℕ, ◌<◌, arith, nat_abs, ℤ, pos, ◌*ℤ◌, ◌-ℤ◌, ◌≤ℤ◌, ◌<ℤ◌, List, [], ◌∷◌}
use Rattle.std.proofs.lemmas.Int.{ints}
use Rattle.std.proofs.lemmas.List.Elements.{All-nil, All-cons, All-head, All-tail}
use Rattle.std.proofs.Math.IntN.{*ℤ_comm}
use Rattle.integers.proofs.LowestTerms.{lowest_list_unique}
use Rattle.integers.proofs.Order.{le_antisymm_ℤ, positive_mul}
use Rattle.bounds_model.specs.Plane.{PlanePoint, dot, cross, quarter_turn}
use Rattle.bounds_model.specs.Fractions.{HaveNoCommonFactor}
use Rattle.bounds_model.specs.Rectangle.{Rectangle}
use Rattle.bounds_model.specs.Strip.{Span, Strip, IsInSpan, AreTight}
use Rattle.bounds_model.specs.Firsts.{IsInHalfTurn, IsInQuarterTurn, ComesFirst}
use Rattle.model_laws.proofs.CommonFactors.{gcd_from_lowest}
use Rattle.optimality.specs.Laws.{FirstStripsAreUnique, FirstRectanglesAreUnique, FirstKgonsAreUnique}

-- ---- directions

-- no common factor in either order
swapped : (x y : ℤ) → HaveNoCommonFactor (x ∷ y ∷ []) → HaveNoCommonFactor (y ∷ x ∷ [])
swapped x y h k all =
    h k (All-cons (λ e. k ∣ nat_abs e) x (y ∷ []) (All-head (λ e. k ∣ nat_abs e) x [] (All-tail (λ e. k ∣ nat_abs e) y (x ∷ []) all)) (All-cons (λ e. k ∣ nat_abs e) y [] (All-head (λ e. k ∣ nat_abs e) y (x ∷ []) all) (All-nil (λ e. k ∣ nat_abs e))))

-- two vectors in lowest terms with one slope, and heights above 0, are the same
same_slope : (x y p q : ℤ) → pos 0 <ℤ y → pos 0 <ℤ q → HaveNoCommonFactor (x ∷ y ∷ []) → HaveNoCommonFactor (p ∷ q ∷ []) → q *ℤ x ≡ y *ℤ p → (x ≡ p) × (y ≡ q)
same_slope x y p q high high' h k e =
    let one = lowest_list_unique y q (x ∷ []) (p ∷ []) high high' (gcd_from_lowest (y ∷ x ∷ []) (swapped x y h)) (gcd_from_lowest (q ∷ p ∷ []) (swapped p q k)) (ap (λ z. z ∷ []) e) in
    (first_same one.0, one.1)
  where
    first_same : x ∷ [] ≡ p ∷ [] → x ≡ p
    first_same e = cc

same_vector : (u v : PlanePoint) → u.x ≡ v.x → u.y ≡ v.y → u ≡ v
same_vector u v e f = ap₂ (λ x y. record { x = x; y = y }) e f

-- neither comes before the other, so their cross product is 0
crossed : (x y p q : ℤ) → pos 0 ≤ℤ (x *ℤ q -ℤ y *ℤ p) → pos 0 ≤ℤ (p *ℤ y -ℤ q *ℤ x) → q *ℤ x ≡ y *ℤ p
crossed x y p q h k = equal (x *ℤ q) (y *ℤ p) (q *ℤ x) (p *ℤ y) (*ℤ_comm x q) (*ℤ_comm y p) h k
  where
    equal : (a b c d : ℤ) → a ≡ c → b ≡ d → pos 0 ≤ℤ (a -ℤ b) → pos 0 ≤ℤ (d -ℤ c) → c ≡ b
    equal a b c d e f h k = omega (arith, ints)

same_in_quarter : (u v : PlanePoint) → IsInQuarterTurn u → IsInQuarterTurn v → HaveNoCommonFactor (u.x ∷ u.y ∷ []) → HaveNoCommonFactor (v.x ∷ v.y ∷ []) → pos 0 ≤ℤ cross u v → pos 0 ≤ℤ cross v u → u ≡ v
same_in_quarter u v t w h k l m =
    let one = same_slope u.y u.x v.y v.x t.right w.right (swapped u.x u.y h) (swapped v.x v.y k) (turned (crossed u.x u.y v.x v.y l m)) in
    same_vector u v one.1 one.0
  where
    turned : v.y *ℤ u.x ≡ u.y *ℤ v.x → v.x *ℤ u.y ≡ u.x *ℤ v.y
    turned e = *ℤ_comm v.x u.y ∙ sym e ∙ *ℤ_comm v.y u.x

same_in_half : (u v : PlanePoint) → IsInHalfTurn u → IsInHalfTurn v → HaveNoCommonFactor (u.x ∷ u.y ∷ []) → HaveNoCommonFactor (v.x ∷ v.y ∷ []) → pos 0 ≤ℤ cross u v → pos 0 ≤ℤ cross v u → u ≡ v
same_in_half u v t w h k l m = elim t [
  | inl up ↦ elim w [
    | inl up' ↦ let one = same_slope u.x u.y v.x v.y up up' h k (crossed u.x u.y v.x v.y l m) in same_vector u v one.0 one.1
    | inr flat ↦ absurd (not_flat u.x u.y v.x v.y up flat.0 flat.1 (crossed u.x u.y v.x v.y l m))
  ]
  | inr flat ↦ elim w [
    | inl up ↦ absurd (not_flat v.x v.y u.x u.y up flat.0 flat.1 (crossed v.x v.y u.x u.y m l))
    | inr flat' ↦
        let one = same_slope u.y u.x v.y v.x flat.1 flat'.1 (swapped u.x u.y h) (swapped v.x v.y k) (both_flat u.x u.y v.x v.y flat.0 flat'.0) in
        same_vector u v one.1 one.0
  ]
]
  where
    not_flat : (x y p q : ℤ) → pos 0 <ℤ y → q ≡ pos 0 → pos 0 <ℤ p → q *ℤ x ≡ y *ℤ p → ⊥
    not_flat x y p q high flat right e = zero (ap (λ z. z *ℤ x) flat) e (positive_mul high right)
      where
        zero : {a b : ℤ} → a ≡ pos 0 *ℤ x → a ≡ b → pos 0 <ℤ b → ⊥
        zero e f h = omega (arith, ints)

    both_flat : (x y p q : ℤ) → y ≡ pos 0 → q ≡ pos 0 → p *ℤ y ≡ x *ℤ q
    both_flat x y p q e f = ap (λ z. p *ℤ z) e ∙ zeros ∙ ap (λ z. x *ℤ z) (sym f)
      where
        zeros : p *ℤ pos 0 ≡ x *ℤ pos 0
        zeros = omega (arith, ints)

-- ---- bounds

-- bounds around all products are around bounds that products reach
around_low : (points : List PlanePoint) (u : PlanePoint) (a b : Span) → AreTight points u a → AreTight points u b → b.low ≤ℤ a.low
around_low points u a b s t =
    let reached = s.low in
    subst (λ z. b.low ≤ℤ z) reached.4 (subst (λ p. IsInSpan b (dot u p)) reached.3 (t.inside reached.0 reached.1 reached.2)).above

around_high : (points : List PlanePoint) (u : PlanePoint) (a b : Span) → AreTight points u a → AreTight points u b → a.high ≤ℤ b.high
around_high points u a b s t =
    let reached = s.high in
    subst (λ z. z ≤ℤ b.high) reached.4 (subst (λ p. IsInSpan b (dot u p)) reached.3 (t.inside reached.0 reached.1 reached.2)).below

-- so tight bounds of the same products are the same
tight_unique : (points : List PlanePoint) (u : PlanePoint) (a b : Span) → AreTight points u a → AreTight points u b → a ≡ b
tight_unique points u a b s t =
    ap₂ (λ low high. record { low = low; high = high }) (le_antisymm_ℤ (around_low points u b a t s) (around_low points u a b s t)) (le_antisymm_ℤ (around_high points u a b s t) (around_high points u b a t s))

-- ---- objects

-- objects by their parts
abbrev strip_with : PlanePoint → Span → ℤ → Strip
strip_with normal bounds w = record { normal = normal; bounds = bounds; w = w }

abbrev rectangle_with : PlanePoint → Span → Span → ℤ → Rectangle
rectangle_with direction along across w = record { direction = direction; along = along; across = across; w = w }

pub strips_unique : FirstStripsAreUnique
strips_unique points a b f g =
    let normals = same_in_half a.normal b.normal f.in_turn g.in_turn f.lowest g.lowest (f.first b g.best g.in_turn) (g.first a f.best f.in_turn) in
    let bounds = tight_unique points a.normal a.bounds b.bounds f.tight (subst (λ u. AreTight points u b.bounds) (sym normals) g.tight) in
    parts a.normal b.normal a.bounds b.bounds a.w b.w normals bounds (f.over_one ∙ sym g.over_one)
  where
    parts : (n n' : PlanePoint) (s s' : Span) (w w' : ℤ) → n ≡ n' → s ≡ s' → w ≡ w' → strip_with n s w ≡ strip_with n' s' w'
    parts n n' s s' w w' e f g = ap₂ (λ m t. strip_with m t w) e f ∙ ap (strip_with n' s') g

pub rectangles_unique : FirstRectanglesAreUnique
rectangles_unique points a b f g =
    let directions = same_in_quarter a.direction b.direction f.in_turn g.in_turn f.lowest g.lowest (f.first b g.best g.in_turn) (g.first a f.best f.in_turn) in
    let along = tight_unique points a.direction a.along b.along f.tight_along (subst (λ u. AreTight points u b.along) (sym directions) g.tight_along) in
    let across = tight_unique points (quarter_turn a.direction) a.across b.across f.tight_across (subst (λ u. AreTight points (quarter_turn u) b.across) (sym directions) g.tight_across) in
    parts a.direction b.direction a.along b.along a.across b.across a.w b.w directions along across (f.over_one ∙ sym g.over_one)
  where
    parts : (d d' : PlanePoint) (s s' t t' : Span) (w w' : ℤ) → d ≡ d' → s ≡ s' → t ≡ t' → w ≡ w' → rectangle_with d s t w ≡ rectangle_with d' s' t' w'
    parts d d' s s' t t' w w' e f g h = ap₂ (λ x y. rectangle_with x y t w) e f ∙ ap₂ (rectangle_with d' s') g h

-- of two lists each of which comes first, neither is before the other
lists_same : (xs ys : List ℕ) → ComesFirst xs ys → ComesFirst ys xs → xs ≡ ys
lists_same [] [] h k = refl
lists_same [] (y ∷ ys) h k = absurd k
lists_same (x ∷ xs) [] h k = absurd h
lists_same (x ∷ xs) (y ∷ ys) h k = elim h [
  | inl less ↦ elim k [ inl more ↦ absurd (both less more) | inr same ↦ absurd (not_less less same.0) ]
  | inr same ↦ elim k [ inl less ↦ absurd (not_less less same.0) | inr again ↦ ap₂ (λ z zs. z ∷ zs) same.0 (lists_same xs ys same.1 again.1) ]
]
  where
    both : {m n : ℕ} → m < n → n < m → ⊥
    both h k = omega arith

    not_less : {m n : ℕ} → m < n → n ≡ m → ⊥
    not_less h e = omega arith

pub kgons_unique : FirstKgonsAreUnique
kgons_unique k corners a b f g = lists_same a b (f.first b g.best) (g.first a f.best)
