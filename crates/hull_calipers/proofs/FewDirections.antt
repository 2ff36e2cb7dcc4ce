-- A plain fan has few directions: each edge of the hull gives one at most.
use Rattle.std.proofs.Common.{◌≡◌, ◌≢◌, ◌⊎◌, inl, inr, ℕ, zero, suc, ◌+◌, ◌-◌, ◌<◌, ◌≤◌, ℤ, pos, neg_ℤ, ◌+ℤ◌, ◌*ℤ◌, ◌<ℤ◌, List, [], ◌∷◌, ◌++◌, length, get_or, refl, sym, ap, ap₂, subst, ◌∙◌, arith}
use lib.Dec.{eqb}
use Rattle.std.proofs.lemmas.Int.{ints}
use Rattle.std.proofs.lemmas.Bool.{cases_order}
use Rattle.std.proofs.lemmas.List.{length_push, get_or_push, get_or_append_left}
use Rattle.std.proofs.lemmas.List.Elements.{All-from_get_or}
use Rattle.std.proofs.lemmas.Map.Keys.{IsDistinct-from_apart}
use Rattle.std.proofs.lemmas.Map.Steps.{length-le_from_distinct_below}
use Rattle.integers.proofs.Identities.{den-ring, read, polys}
use Rattle.integers.proofs.Order.{positive_mul, positive_add, le_from_lt, same_of_mul, positive_of_mul}
use Rattle.bounds_model.specs.Plane.{PlanePoint, point_at, origin, dot, cross}
use Rattle.bounds_model.specs.Fans.{TurnLeft, east, west, north}
use Rattle.bounds_model.specs.PlainFans.{edge, IsNormal, IsNormalOrParallel, IsPlainHalf, IsPlainQuarter}
use Rattle.hull_calipers.proofs.Counts.{not_equal, listed_below}

-- ---- the pigeonhole principle

holes : (n m : ℕ) (R : ℕ → ℕ → Type 0) → ((i : ℕ) → i < n → (j : ℕ) × (j < m) × R i j) → (k : ℕ) → k ≤ n → (js : List ℕ) × (length js ≡ k) × ((i d : ℕ) → i < k → (get_or js i d < m) × R i (get_or js i d))
holes n m R each zero upto = ([], refl, λ i d l. absurd (omega arith))
holes n m R each (suc k) upto =
    let before = holes n m R each k (omega arith) in
    let new = each k (omega arith) in
    let count : length before.0 ≡ k = before.1 in (
      before.0 ++ new.0 ∷ [],
      length_push before.0 new.0 ∙ ap (λ l. l + 1) count ∙ (let e : k + 1 ≡ suc k = omega arith in e),
      λ i d l. elim (cases_order i k) [
        | inl same ↦
            let is : get_or (before.0 ++ new.0 ∷ []) i d ≡ new.0 = get_or_push before.0 new.0 d i (count ∙ sym same) in
            subst (λ j. (j < m) × R i j) (sym is) (subst (λ j. (new.0 < m) × R j new.0) (sym same) (new.1, new.2))
        | inr rest ↦ elim rest [
          | inl less ↦ subst (λ j. (j < m) × R i j) (sym (get_or_append_left before.0 (new.0 ∷ []) d i (omega (arith, count, less)))) (before.2 i d less)
          | inr more ↦ absurd (omega arith)
        ]
      ],
    )

-- of numbers below n, each in a hole below m and no two in one, there are at most m
pub pigeonhole : (n m : ℕ) (R : ℕ → ℕ → Type 0) → ((i : ℕ) → i < n → (j : ℕ) × (j < m) × R i j) → ((i k j : ℕ) → i < k → k < n → R i j → R k j → ⊥) → n ≤ m
pigeonhole n m R each apart = subst (λ l. l ≤ m) found.1
    (length-le_from_distinct_below found.0 m
    (IsDistinct-from_apart eqb found.0 (λ i k d less l. not_equal (get_or found.0 i d) (get_or found.0 k d) (λ same.
    let below : k < n = subst (λ c. k < c) found.1 l in
    apart i k (get_or found.0 k d) less below (subst (R i) same (found.2 i d (omega arith)).1) (found.2 k d below).1)))
    (λ q e. listed_below q m found.0 (All-from_get_or (λ j. j < m) found.0 0 (λ i l. (found.2 i 0 (subst (λ c. i < c) found.1 l)).0)) e))
  where
    found : (js : List ℕ) × (length js ≡ n) × ((i d : ℕ) → i < n → (get_or js i d < m) × R i (get_or js i d))
    found = holes n m R each n (omega arith)

-- ---- directions above a line

trans_identity : (a b c : PlanePoint) → b.y *ℤ cross a c ≡ a.y *ℤ cross b c +ℤ c.y *ℤ cross a b
trans_identity a b c = read (a.x ∷ a.y ∷ b.x ∷ b.y ∷ c.x ∷ c.y ∷ []) (λ xs d e f g h i. simp (d, e, f, g, h, i, polys) (den-ring xs _ _ tt))

left_trans : (a b c : PlanePoint) → pos 0 <ℤ a.y → pos 0 <ℤ b.y → pos 0 <ℤ c.y → pos 0 <ℤ cross a b → pos 0 <ℤ cross b c → pos 0 <ℤ cross a c
left_trans a b c ha hb hc ab bc = positive_of_mul b.y (le_from_lt hb) (subst (λ v. pos 0 <ℤ v) (sym (trans_identity a b c)) (positive_add (positive_mul ha bc) (le_from_lt (positive_mul hc ab))))

-- above a line, each direction is to the left of all before it
left_of_all : (ds : List PlanePoint) (n : ℕ) → ((i : ℕ) → i < n → pos 0 <ℤ (point_at ds (i + 1)).y) → ((i : ℕ) → i + 1 < n → pos 0 <ℤ cross (point_at ds (i + 1)) (point_at ds (i + 2))) → (i k : ℕ) → i < k → k < n → pos 0 <ℤ cross (point_at ds (i + 1)) (point_at ds (k + 1))
left_of_all ds n up turns i zero less below = absurd (omega arith)
left_of_all ds n up turns i (suc k) less below =
    let step : pos 0 <ℤ cross (point_at ds (k + 1)) (point_at ds (suc k + 1)) = subst (λ j. pos 0 <ℤ cross (point_at ds (k + 1)) (point_at ds j)) (let e : k + 2 ≡ suc k + 1 = omega arith in e) (turns k (omega arith)) in
    elim (cases_order i k) [
      | inl same ↦ subst (λ j. pos 0 <ℤ cross (point_at ds (j + 1)) (point_at ds (suc k + 1))) (sym same) step
      | inr rest ↦ elim rest [
        | inl before ↦ left_trans (point_at ds (i + 1)) (point_at ds (k + 1)) (point_at ds (suc k + 1)) (up i (omega arith)) (up k (omega arith)) (up (suc k) below) (left_of_all ds n up turns i k before (omega arith)) step
        | inr after ↦ absurd (omega arith)
      ]
    ]

-- ---- one edge, two directions

zero_of_mul : (a v : ℤ) → pos 0 <ℤ v → v *ℤ a ≡ pos 0 → a ≡ pos 0
zero_of_mul a v h e = same_of_mul v h (e ∙ (let z : pos 0 ≡ v *ℤ pos 0 = omega (arith, ints) in z))

no_edge : (e : PlanePoint) (v : ℤ) → pos 0 <ℤ v → v *ℤ e.x ≡ pos 0 → v *ℤ e.y ≡ pos 0 → e ≡ origin
no_edge e v h x y = ap₂ (λ x y. let r : PlanePoint = record { x = x; y = y } in r) (zero_of_mul e.x v h x) (zero_of_mul e.y v h y)

two_zeros : (v a b p q : ℤ) → v ≡ a *ℤ p +ℤ b *ℤ q → p ≡ pos 0 → q ≡ pos 0 → v ≡ pos 0
two_zeros v a b p q e hp hq = e ∙ ap₂ (λ p q. a *ℤ p +ℤ b *ℤ q) hp hq ∙ (let z : a *ℤ pos 0 +ℤ b *ℤ pos 0 ≡ pos 0 = omega (arith, ints) in z)

-- two directions, one to the left of the other, are not both at right angles to an edge
normal_once : (e d t : PlanePoint) → e ≢ origin → pos 0 <ℤ cross d t → dot e d ≡ pos 0 → dot e t ≡ pos 0 → ⊥
normal_once e d t long turns p q = long (no_edge e (cross d t) turns
    (two_zeros (cross d t *ℤ e.x) t.y (neg_ℤ d.y) (dot e d) (dot e t) (read (e.x ∷ e.y ∷ d.x ∷ d.y ∷ t.x ∷ t.y ∷ []) (λ xs a b c d e f. simp (a, b, c, d, e, f, polys) (den-ring xs _ _ tt))) p q)
    (two_zeros (cross d t *ℤ e.y) (neg_ℤ t.x) d.x (dot e d) (dot e t) (read (e.x ∷ e.y ∷ d.x ∷ d.y ∷ t.x ∷ t.y ∷ []) (λ xs a b c d e f. simp (a, b, c, d, e, f, polys) (den-ring xs _ _ tt))) p q))

-- nor both along one
along_once : (e d t : PlanePoint) → e ≢ origin → pos 0 <ℤ cross d t → cross e d ≡ pos 0 → cross e t ≡ pos 0 → ⊥
along_once e d t long turns p q = long (no_edge e (cross d t) turns
    (two_zeros (cross d t *ℤ e.x) (neg_ℤ t.x) d.x (cross e d) (cross e t) (read (e.x ∷ e.y ∷ d.x ∷ d.y ∷ t.x ∷ t.y ∷ []) (λ xs a b c d e f. simp (a, b, c, d, e, f, polys) (den-ring xs _ _ tt))) p q)
    (two_zeros (cross d t *ℤ e.y) (neg_ℤ t.y) d.y (cross e d) (cross e t) (read (e.x ∷ e.y ∷ d.x ∷ d.y ∷ t.x ∷ t.y ∷ []) (λ xs a b c d e f. simp (a, b, c, d, e, f, polys) (den-ring xs _ _ tt))) p q))

-- of two directions between right and up, none is at right angles to an edge that the other is along
not_across : (e d t : PlanePoint) → e ≢ origin → pos 0 <ℤ dot d t → dot e d ≡ pos 0 → cross e t ≡ pos 0 → ⊥
not_across e d t long sharp p q = long (no_edge e (dot d t) sharp
    (two_zeros (dot d t *ℤ e.x) t.x d.y (dot e d) (cross e t) (read (e.x ∷ e.y ∷ d.x ∷ d.y ∷ t.x ∷ t.y ∷ []) (λ xs a b c d e f. simp (a, b, c, d, e, f, polys) (den-ring xs _ _ tt))) p q)
    (two_zeros (dot d t *ℤ e.y) t.y (neg_ℤ d.x) (dot e d) (cross e t) (read (e.x ∷ e.y ∷ d.x ∷ d.y ∷ t.x ∷ t.y ∷ []) (λ xs a b c d e f. simp (a, b, c, d, e, f, polys) (den-ring xs _ _ tt))) p q))

-- ---- the counts

inner_turns : (last : PlanePoint) (ds : List PlanePoint) (n : ℕ) → TurnLeft east last ds → n + 2 ≡ length ds → (i : ℕ) → i + 1 < n → pos 0 <ℤ cross (point_at ds (i + 1)) (point_at ds (i + 2))
inner_turns last ds n turns count i below = subst (λ j. pos 0 <ℤ cross (point_at ds (i + 1)) (point_at ds j)) (let e : i + 1 + 1 ≡ i + 2 = omega arith in e) (turns.turns (i + 1) (omega arith))

-- an inner direction and an edge at right angles to it; the upward direction has a number of its own
abbrev InHalf : List PlanePoint → List PlanePoint → ℕ → ℕ → Type 0
InHalf corners ds i j = ((j ≡ length corners) × (point_at ds (i + 1) ≡ north)) ⊎ ((j < length corners) × IsNormal (edge corners j) (point_at ds (i + 1)))

-- an inner direction and an edge at right angles to it or along it
abbrev InQuarter : List PlanePoint → List PlanePoint → ℕ → ℕ → Type 0
InQuarter corners ds i j = IsNormalOrParallel (edge corners j) (point_at ds (i + 1))

-- a plain fan over half a turn has at most three directions more than there are corners
pub few_half : (corners ds : List PlanePoint) → IsPlainHalf corners ds → length ds ≤ length corners + 3
few_half corners ds plain = elim (cases_order (length ds) 1) [
  | inl one ↦ omega (arith, one)
  | inr rest ↦ elim rest [
    | inl less ↦ omega (arith, less)
    | inr more ↦
        let few : length ds - 2 ≤ length corners + 1 = pigeonhole (length ds - 2) (length corners + 1) (InHalf corners ds) (λ i l. hole i l) (λ i k j less l a b. apart i k j less l (omega arith) a b) in
        omega (arith, few, more)
  ]
]
  where
    hole : (i : ℕ) → i < length ds - 2 → (j : ℕ) × (j < length corners + 1) × InHalf corners ds i j
    hole i l = elim (plain.no_others (i + 1) (omega arith) (omega arith)) [
      | inl is ↦ (length corners, omega arith, inl (refl, is))
      | inr (j, below, right_angle) ↦ (j, omega arith, inr (below, right_angle))
    ]

    apart : (i k j : ℕ) → i < k → k < length ds - 2 → 2 ≤ length ds → InHalf corners ds i j → InHalf corners ds k j → ⊥
    apart i k j less l two a b = elim a [
      | inl first ↦ elim b [
        | inl second ↦ no_turn (subst (λ v. pos 0 <ℤ cross v north) first.1 (subst (λ v. pos 0 <ℤ cross (point_at ds (i + 1)) v) second.1 left))
        | inr second ↦ let e = first.0 in let s = second.0 in omega (arith, e, s)
      ]
      | inr first ↦ elim b [
        | inl second ↦ let e = second.0 in let s = first.0 in omega (arith, e, s)
        | inr second ↦ normal_once (edge corners j) (point_at ds (i + 1)) (point_at ds (k + 1)) first.1.long left first.1.right_angle second.1.right_angle
      ]
    ]
      where
        left : pos 0 <ℤ cross (point_at ds (i + 1)) (point_at ds (k + 1))
        left = left_of_all ds (length ds - 2) (λ i l. plain.in_range (i + 1) (omega arith) (omega arith)) (inner_turns west ds (length ds - 2) plain.once (omega arith)) i k less l

        no_turn : pos 0 <ℤ cross north north → ⊥
        no_turn h = omega (arith, ints)

-- a plain fan over a quarter turn has at most two more
pub few_quarter : (corners ds : List PlanePoint) → IsPlainQuarter corners ds → length ds ≤ length corners + 2
few_quarter corners ds plain = elim (cases_order (length ds) 1) [
  | inl one ↦ omega (arith, one)
  | inr rest ↦ elim rest [
    | inl less ↦ omega (arith, less)
    | inr more ↦
        let few : length ds - 2 ≤ length corners = pigeonhole (length ds - 2) (length corners) (InQuarter corners ds) (λ i l. plain.no_others (i + 1) (omega arith) (omega arith)) (λ i k j less l a b. apart i k j less l (omega arith) a b) in
        omega (arith, few, more)
  ]
]
  where
    apart : (i k j : ℕ) → i < k → k < length ds - 2 → 2 ≤ length ds → InQuarter corners ds i j → InQuarter corners ds k j → ⊥
    apart i k j less l two a b = elim a.normal_or_parallel [
      | inl p ↦ elim b.normal_or_parallel [
        | inl q ↦ normal_once (edge corners j) (point_at ds (i + 1)) (point_at ds (k + 1)) a.long left p q
        | inr q ↦ not_across (edge corners j) (point_at ds (i + 1)) (point_at ds (k + 1)) a.long (sharp (point_at ds (i + 1)) (point_at ds (k + 1)) (inner i (omega arith)) (inner k l)) p q
      ]
      | inr p ↦ elim b.normal_or_parallel [
        | inl q ↦ not_across (edge corners j) (point_at ds (k + 1)) (point_at ds (i + 1)) a.long (sharp (point_at ds (k + 1)) (point_at ds (i + 1)) (inner k l) (inner i (omega arith))) q p
        | inr q ↦ along_once (edge corners j) (point_at ds (i + 1)) (point_at ds (k + 1)) a.long left p q
      ]
    ]
      where
        inner : (i : ℕ) → i < length ds - 2 → (pos 0 <ℤ (point_at ds (i + 1)).x) × (pos 0 <ℤ (point_at ds (i + 1)).y)
        inner i l = plain.in_range (i + 1) (omega arith) (omega arith)

        left : pos 0 <ℤ cross (point_at ds (i + 1)) (point_at ds (k + 1))
        left = left_of_all ds (length ds - 2) (λ i l. (inner i l).1) (inner_turns north ds (length ds - 2) plain.once (omega arith)) i k less l

        sharp : (d t : PlanePoint) → (pos 0 <ℤ d.x) × (pos 0 <ℤ d.y) → (pos 0 <ℤ t.x) × (pos 0 <ℤ t.y) → pos 0 <ℤ dot d t
        sharp d t hd ht = positive_add (positive_mul hd.0 ht.0) (le_from_lt (positive_mul hd.1 ht.1))
