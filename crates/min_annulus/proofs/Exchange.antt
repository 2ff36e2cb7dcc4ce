-- A difference joins a triangle around the target.
use Rattle.std.proofs.Common.{◌≡◌, refl, sym, ◌⊎◌, inl, inr, ℤ, pos, negsuc, ◌+ℤ◌, ◌-ℤ◌, ◌*ℤ◌, neg_ℤ, ◌≤ℤ◌, ◌<ℤ◌, arith, [], ◌∷◌, subst}
use Rattle.std.proofs.lemmas.Int.{ints, by_lt_z}
use Rattle.integers.proofs.Identities.{den-ring, read, polys, lits, below_lits}
use Rattle.integers.proofs.Order.{positive_mul, nonneg_mul, combine1}
use Rattle.min_annulus.specs.declared.difference_vectors.DifferenceVector.{DifferenceVector}
use Rattle.min_annulus.specs.DifferenceVectors.{IsDifference, IsAround, side, scale}
use Rattle.min_annulus.specs.Laws.{SomeVertexLeaves}
use Rattle.min_annulus.proofs.Target.{general_position}

-- ---- sides

-- by plain numbers
plain_turned : (m ax ay bx by : ℤ) → (ax *ℤ by -ℤ ay *ℤ bx) *ℤ (m *ℤ m) +ℤ ((ay -ℤ by) *ℤ m +ℤ (bx -ℤ ax)) ≡ neg_ℤ ((bx *ℤ ay -ℤ by *ℤ ax) *ℤ (m *ℤ m) +ℤ ((by -ℤ ay) *ℤ m +ℤ (ax -ℤ bx)))
plain_turned m ax ay bx by = read (m ∷ ax ∷ ay ∷ bx ∷ by ∷ []) (λ xs a b c d e. simp (a, b, c, d, e, polys) (den-ring xs _ _ tt))

-- the way back has the other sign
pub side_turned : (a b : DifferenceVector) → side a b ≡ neg_ℤ (side b a)
side_turned a b = plain_turned scale a.x a.y b.x b.y

plain_balance : (m ax ay bx by cx cy dx dy : ℤ)
    → ((bx *ℤ cy -ℤ by *ℤ cx) *ℤ (m *ℤ m) +ℤ ((by -ℤ cy) *ℤ m +ℤ (cx -ℤ bx))) *ℤ ((ax *ℤ dy -ℤ ay *ℤ dx) *ℤ (m *ℤ m) +ℤ ((ay -ℤ dy) *ℤ m +ℤ (dx -ℤ ax)))
    +ℤ ((cx *ℤ ay -ℤ cy *ℤ ax) *ℤ (m *ℤ m) +ℤ ((cy -ℤ ay) *ℤ m +ℤ (ax -ℤ cx))) *ℤ ((bx *ℤ dy -ℤ by *ℤ dx) *ℤ (m *ℤ m) +ℤ ((by -ℤ dy) *ℤ m +ℤ (dx -ℤ bx)))
    +ℤ ((ax *ℤ by -ℤ ay *ℤ bx) *ℤ (m *ℤ m) +ℤ ((ay -ℤ by) *ℤ m +ℤ (bx -ℤ ax))) *ℤ ((cx *ℤ dy -ℤ cy *ℤ dx) *ℤ (m *ℤ m) +ℤ ((cy -ℤ dy) *ℤ m +ℤ (dx -ℤ cx)))
    ≡ pos 0
plain_balance m ax ay bx by cx cy dx dy =
    read (m ∷ ax ∷ ay ∷ bx ∷ by ∷ cx ∷ cy ∷ dx ∷ dy ∷ []) (λ xs a b c d e f g h i. simp (a, b, c, d, e, f, g, h, i, polys, lits xs) (den-ring xs _ _ tt))

-- seen from the target, the vertices with the areas opposite to them balance, so a fourth difference can't be on one side of all three
pub sides_balance : (a b c d : DifferenceVector) → side b c *ℤ side a d +ℤ side c a *ℤ side b d +ℤ side a b *ℤ side c d ≡ pos 0
sides_balance a b c d = plain_balance scale a.x a.y b.x b.y c.x c.y d.x d.y

-- a difference that is on a line with a vertex and the target is that vertex, so its sides to the others are those of the vertex
pub side_of_same : (a b d : DifferenceVector) → (a.x ≡ d.x) × (a.y ≡ d.y) → side b d ≡ side b a
side_of_same a b d e = rw (e.0, e.1) refl

-- ---- the sides of a fourth difference: u the sides of the triangle, w those of the vertices to it

-- at a vertex with 0, the others are on either side
abbrev pub Apart : ℤ → ℤ → ℤ → Type 0
Apart w next last = w ≡ pos 0 → (next <ℤ pos 0) × (pos 0 <ℤ last)

zero_or_below : {w : ℤ} → w ≤ℤ pos 0 → (w ≡ pos 0) ⊎ (w <ℤ pos 0)
zero_or_below {w} h = by_lt_z w (pos 0) (λ l. inr l) (λ l. inl (omega (arith, ints)))

-- the way from a to b changes sides strictly
pub strictly_below : {w next last : ℤ} → Apart w next last → w ≤ℤ pos 0 → pos 0 <ℤ next → w <ℤ pos 0
strictly_below apart h l = elim (zero_or_below h) [ inr below ↦ below | inl zero ↦ absurd (clash (apart zero).0 l) ]
  where
    clash : {x : ℤ} → x <ℤ pos 0 → pos 0 <ℤ x → ⊥
    clash h k = omega (arith, ints)

not_all_one_side : (u1 u2 u3 w1 w2 w3 : ℤ) → pos 0 <ℤ u1 → pos 0 <ℤ u2 → pos 0 <ℤ u3 → u1 *ℤ w1 +ℤ u2 *ℤ w2 +ℤ u3 *ℤ w3 ≡ pos 0 → pos 0 <ℤ w1 → pos 0 ≤ℤ w2 → pos 0 ≤ℤ w3 → ⊥
not_all_one_side u1 u2 u3 w1 w2 w3 p q r e h k l =
    let x = positive_mul p h in
    let y = nonneg_mul {a = u2} (omega (arith, ints)) k in
    let z = nonneg_mul {a = u3} (omega (arith, ints)) l in
    sum x y z e
  where
    sum : {x y z : ℤ} → pos 0 <ℤ x → pos 0 ≤ℤ y → pos 0 ≤ℤ z → x +ℤ y +ℤ z ≡ pos 0 → ⊥
    sum x y z e = omega (arith, ints)

-- where the way neither from the first to the second nor from the second to the third changes from right to left, the one from the third to the first does
pub other_change : (u1 u2 u3 w1 w2 w3 : ℤ) → pos 0 <ℤ u1 → pos 0 <ℤ u2 → pos 0 <ℤ u3 → u1 *ℤ w1 +ℤ u2 *ℤ w2 +ℤ u3 *ℤ w3 ≡ pos 0
    → Apart w1 w2 w3 → Apart w3 w1 w2 → (w1 ≤ℤ pos 0 → pos 0 <ℤ w2 → ⊥) → (w2 ≤ℤ pos 0 → pos 0 <ℤ w3 → ⊥) → (w3 <ℤ pos 0) × (pos 0 <ℤ w1)
other_change u1 u2 u3 w1 w2 w3 p q r e at1 at3 no1 no2 =
    by_lt_z (pos 0) w1
    (λ h1. by_lt_z w3 (pos 0) (λ h3. (h3, h1)) (λ h3. absurd (third_not_above h1 h3)))
    (λ h1. absurd (first_not_below h1))
  where
    third_not_above : pos 0 <ℤ w1 → pos 0 ≤ℤ w3 → ⊥
    third_not_above h1 h3 =
        by_lt_z w2 (pos 0)
        (λ h2. by_lt_z (pos 0) w3 (λ l3. no2 (omega (arith, ints)) l3) (λ l3. let z : w3 ≡ pos 0 = omega (arith, ints) in clash (at3 z).0 h1))
        (λ h2. not_all_one_side u1 u2 u3 w1 w2 w3 p q r e h1 h2 h3)
      where
        clash : {x : ℤ} → x <ℤ pos 0 → pos 0 <ℤ x → ⊥
        clash h k = omega (arith, ints)

    negated : (u1 u2 u3 w1 w2 w3 : ℤ) → u1 *ℤ w1 +ℤ u2 *ℤ w2 +ℤ u3 *ℤ w3 ≡ pos 0 → u1 *ℤ neg_ℤ w1 +ℤ u2 *ℤ neg_ℤ w2 +ℤ u3 *ℤ neg_ℤ w3 ≡ pos 0
    negated u1 u2 u3 w1 w2 w3 e = combine1 (negsuc 0) e (read (u1 ∷ u2 ∷ u3 ∷ w1 ∷ w2 ∷ w3 ∷ []) (λ xs a b c d f g. simp (a, b, c, d, f, g, polys, lits xs, below_lits xs) (den-ring xs _ _ tt)))

    first_not_below : w1 ≤ℤ pos 0 → ⊥
    first_not_below h1 =
        by_lt_z (pos 0) w2 (λ h2. no1 h1 h2)
        (λ h2. by_lt_z (pos 0) w3 (λ h3. no2 h2 h3)
        (λ h3. elim (zero_or_below h1) [
          | inl zero ↦ clash (at1 zero).1 h3
          | inr below ↦ not_all_one_side u1 u2 u3 (neg_ℤ w1) (neg_ℤ w2) (neg_ℤ w3) p q r (negated u1 u2 u3 w1 w2 w3 e) (omega (arith, ints)) (omega (arith, ints)) (omega (arith, ints))
        ]))
      where
        clash : {x : ℤ} → pos 0 <ℤ x → x ≤ℤ pos 0 → ⊥
        clash h k = omega (arith, ints)

-- ---- which vertex leaves

-- at a vertex that the fourth difference is in line with, the others are on either side
pub apart : (a b c d : DifferenceVector) → IsDifference a → IsDifference d → IsAround a b c → Apart (side a d) (side b d) (side c d)
apart a b c d ha hd around zero =
    let same = general_position a d ha hd zero in
    (below (side_of_same a b d same) (side_turned b a) around.ab, subst (λ s. pos 0 <ℤ s) (sym (side_of_same a c d same)) around.ca)
  where
    below : {s t u : ℤ} → s ≡ t → t ≡ neg_ℤ u → pos 0 <ℤ u → s <ℤ pos 0
    below e f h = omega (arith, ints)

-- what is right of a way is left of the way back
pub left_of_back : (a b : DifferenceVector) → side a b <ℤ pos 0 → pos 0 <ℤ side b a
left_of_back a b h = above (side_turned b a) h
  where
    above : {s t : ℤ} → s ≡ neg_ℤ t → t <ℤ pos 0 → pos 0 <ℤ s
    above e h = omega (arith, ints)

-- the triangle may begin at each vertex
pub turned : (a b c : DifferenceVector) → IsAround a b c → IsAround b c a
turned a b c around = record { ab = around.bc; bc = around.ca; ca = around.ab }

-- the last vertex leaves
pub last_leaves : (a b c d : DifferenceVector) → IsDifference a → IsDifference d → IsAround a b c → side a d ≤ℤ pos 0 → pos 0 <ℤ side b d → IsAround a b d
last_leaves a b c d ha hd around h l = record {
  ab = around.ab;
  bc = l;
  ca = left_of_back a d (strictly_below (apart a b c d ha hd around) h l);
}

-- the first vertex leaves
pub first_leaves : (a b c d : DifferenceVector) → IsDifference b → IsDifference d → IsAround a b c → side b d ≤ℤ pos 0 → pos 0 <ℤ side c d → IsAround d b c
first_leaves a b c d hb hd around h l = turned c d b (turned b c d (last_leaves b c a d hb hd (turned a b c around) h l))

-- the one in the middle leaves where the others don't
pub middle_leaves : (a b c d : DifferenceVector) → IsDifference a → IsDifference c → IsDifference d → IsAround a b c
    → (side a d ≤ℤ pos 0 → pos 0 <ℤ side b d → ⊥) → (side b d ≤ℤ pos 0 → pos 0 <ℤ side c d → ⊥) → IsAround a d c
middle_leaves a b c d ha hc hd around no_last no_first =
    let change = other_change (side b c) (side c a) (side a b) (side a d) (side b d) (side c d) around.bc around.ca around.ab (sides_balance a b c d)
    (apart a b c d ha hd around) (apart c a b d hc hd (turned b c a (turned a b c around))) no_last no_first in
    record { ab = change.1; bc = left_of_back c d change.0; ca = around.ca }

-- one of them leaves
pub some_vertex_leaves : SomeVertexLeaves
some_vertex_leaves a b c d ha hb hc hd around =
    by_lt_z (pos 0) (side b d)
    (λ hb. by_lt_z (pos 0) (side a d) (λ l. inr (inr (middle_leaves a b c d ha hc hd around (λ m _. clash l m) (λ m _. clash hb m)))) (λ l. inl (last_leaves a b c d ha hd around l hb)))
    (λ hn. by_lt_z (pos 0) (side c d) (λ l. inr (inl (first_leaves a b c d hb hd around hn l))) (λ l. inr (inr (middle_leaves a b c d ha hc hd around (λ _ m. clash m hn) (λ _ m. clash m l)))))
  where
    clash : {x : ℤ} → pos 0 <ℤ x → x ≤ℤ pos 0 → ⊥
    clash h k = omega (arith, ints)
