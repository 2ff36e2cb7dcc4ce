-- Two chains, one below the points and one above them, make a cycle.
use Rattle.std.proofs.Common.{◌≡◌, ◌≢◌, ◌⊎◌, inl, inr, ℕ, zero, suc, ◌+◌, ◌-◌, ◌*◌, ◌%◌, ◌<◌, ◌≤◌, pos, neg_ℤ, ◌≤ℤ◌, ◌<ℤ◌, List, [], ◌∷◌, length, get_or, refl, sym, ap, subst, ◌∙◌, arith}
use Rattle.std.specs.Prelude.{All, AllPairs, EachIndex, Contains}
use Rattle.std.proofs.lemmas.Int.{ints}
use Rattle.std.proofs.lemmas.Bool.{cases_order}
use Rattle.std.proofs.lemmas.Nat.{mod-mul-add}
use Rattle.std.proofs.lemmas.List.{get_or_default}
use Rattle.std.proofs.lemmas.List.Elements.{All-contains}
use Rattle.integers.proofs.Identities.{den-ring, read, polys}
use Rattle.bounds_model.specs.Plane.{PlanePoint, point_at, origin, dot, turn}
use Rattle.bounds_model.specs.Hull.{around}
use Rattle.hull_calipers.proofs.Turns.{joint, apart, turn-around, farther_moved, left_moved, turns_moved}
use Rattle.model_laws.proofs.CornerLaw.{around-below}

-- the corners l of a chain along d, and u of the chain back, both with all points to the left of their edges
pub record TwoMonotoneChains (points : List PlanePoint) (d : PlanePoint) (l u : ℕ → PlanePoint) (m k : ℕ) : Type 0 where
  pub low_some : 1 ≤ m
  pub up_some : 1 ≤ k
  pub low_along : (i : ℕ) → i < m → dot d (l i) <ℤ dot d (l (i + 1))
  pub up_along : (i : ℕ) → i < k → dot d (u (i + 1)) <ℤ dot d (u i)
  pub low_turns : (i : ℕ) → i + 1 < m → pos 0 <ℤ turn (l i) (l (i + 1)) (l (i + 2))
  pub up_turns : (i : ℕ) → i + 1 < k → pos 0 <ℤ turn (u i) (u (i + 1)) (u (i + 2))
  pub low_left : (i : ℕ) → i < m → All (λ p. pos 0 ≤ℤ turn (l i) (l (i + 1)) p) points
  pub up_left : (i : ℕ) → i < k → All (λ p. pos 0 ≤ℤ turn (u i) (u (i + 1)) p) points
  pub low_listed : (i : ℕ) → i ≤ m → Contains points (l i)
  pub up_listed : (i : ℕ) → i ≤ k → Contains points (u i)
  pub meets : l m ≡ u 0
  pub closes : u k ≡ l 0

-- the corners in order, from the first of the lower chain
pub record IsCycle (corners : List PlanePoint) (l u : ℕ → PlanePoint) (m k : ℕ) : Type 0 where
  pub count : length corners ≡ m + k
  pub low : (i : ℕ) → i < m → point_at corners i ≡ l i
  pub up : (i : ℕ) → i < k → point_at corners (m + i) ≡ u i

-- ---- corners by numbers that go around

pub below_length : (n i : ℕ) → i < n → i % n ≡ i
below_length n i h = ap (λ v. v % n) (let e : i ≡ 0 * n + i = omega arith in e) ∙ mod-mul-add 0 n i h

once_around : (n i : ℕ) → i < n → (n + i) % n ≡ i
once_around n i h = ap (λ v. v % n) (let e : n + i ≡ 1 * n + i = omega arith in e) ∙ mod-mul-add 1 n i h

pub around_again : (corners : List PlanePoint) (i : ℕ) → i < length corners → around corners (length corners + i) ≡ point_at corners i
around_again corners i h = ap (point_at corners) (once_around (length corners) i h)

-- the corner of the lower chain, its end included
at_low : (points corners : List PlanePoint) (d : PlanePoint) (l u : ℕ → PlanePoint) (m k : ℕ) → TwoMonotoneChains points d l u m k → IsCycle corners l u m k → (j i : ℕ) → j ≡ i → i ≤ m → around corners j ≡ l i
at_low points corners d l u m k two cycle j i e h = elim (cases_order i m) [
  | inl last ↦
      let some : 1 ≤ k = two.up_some in
      let count : length corners ≡ m + k = cycle.count in
      ap (around corners) (e ∙ last ∙ omega arith) ∙ around-below corners (m + 0) (omega arith) ∙ cycle.up 0 (omega arith) ∙ sym two.meets ∙ ap l (sym last)
  | inr rest ↦ elim rest [
    | inl less ↦ let count : length corners ≡ m + k = cycle.count in ap (around corners) e ∙ around-below corners i (omega arith) ∙ cycle.low i less
    | inr more ↦ absurd (omega arith)
  ]
]

-- the corner of the upper chain, its end included
at_up : (points corners : List PlanePoint) (d : PlanePoint) (l u : ℕ → PlanePoint) (m k : ℕ) → TwoMonotoneChains points d l u m k → IsCycle corners l u m k → (j i : ℕ) → j ≡ m + i → i ≤ k → around corners j ≡ u i
at_up points corners d l u m k two cycle j i e h = elim (cases_order i k) [
  | inl last ↦
      let some : 1 ≤ m = two.low_some in
      let count : length corners ≡ m + k = cycle.count in
      ap (around corners) (let e' : j ≡ length corners + 0 = omega arith in e') ∙ around_again corners 0 (omega arith) ∙ cycle.low 0 (omega arith) ∙ sym two.closes ∙ ap u (sym last)
  | inr rest ↦ elim rest [
    | inl less ↦ let count : length corners ≡ m + k = cycle.count in ap (around corners) e ∙ around-below corners (m + i) (omega arith) ∙ cycle.up i less
    | inr more ↦ absurd (omega arith)
  ]
]

-- the second corner, once around
at_second : (points corners : List PlanePoint) (d : PlanePoint) (l u : ℕ → PlanePoint) (m k : ℕ) → TwoMonotoneChains points d l u m k → IsCycle corners l u m k → (j : ℕ) → j ≡ m + k + 1 → around corners j ≡ l 1
at_second points corners d l u m k two cycle j e =
    let low : 1 ≤ m = two.low_some in
    let up : 1 ≤ k = two.up_some in
    let count : length corners ≡ m + k = cycle.count in
    ap (around corners) (let e' : j ≡ length corners + 1 = omega arith in e') ∙ around_again corners 1 (omega arith) ∙ sym (around-below corners 1 (omega arith)) ∙ at_low points corners d l u m k two cycle 1 1 refl (omega arith)

-- ---- turns

-- at the farthest corner, where the chain up to b meets the chain from it
turns_at_last : (points : List PlanePoint) (d : PlanePoint) (l u : ℕ → PlanePoint) (m k n : ℕ) → TwoMonotoneChains points d l u m k → n + 1 ≡ m → 3 ≤ m + k → pos 0 <ℤ turn (l n) (u 0) (u 1)
turns_at_last points d l u m k n two e three = elim (cases_order 1 k) [
  | inl one ↦
      let z : PlanePoint = l (n - 1) in
      let some : 1 ≤ n = omega arith in
      let turns : pos 0 <ℤ turn (l (n - 1)) (l n) (u 0) = turns_moved (l (n - 1)) (l (n - 1)) (l n) (l (n - 1 + 1)) (u 0) (l (n - 1 + 2)) refl (ap l (omega arith)) (sym end ∙ ap l (omega arith)) (two.low_turns (n - 1) (omega arith)) in
      with_point (l (n - 1)) (two.low_listed (n - 1) (omega arith)) (inl (subst (λ v. pos 0 <ℤ v) (sym (turn-around (l (n - 1)) (l n) (u 0))) turns))
  | inr rest ↦ elim rest [
    | inl more ↦ with_point (u 2) (two.up_listed 2 (omega arith)) (inr (two.up_turns 0 (omega arith)))
    | inr none ↦ let some : 1 ≤ k = two.up_some in absurd (omega arith)
  ]
]
  where
    end : l m ≡ u 0
    end = two.meets

    low_up : dot d (l n) <ℤ dot d (u 0)
    low_up = farther_moved d (l n) (l n) (u 0) (l (n + 1)) refl (sym end ∙ ap l (sym e)) (two.low_along n (omega arith))

    up_down : dot d (u 1) <ℤ dot d (u 0)
    up_down = let some : 1 ≤ k = two.up_some in two.up_along 0 (omega arith)

    low_left : All (λ p. pos 0 ≤ℤ turn (l n) (u 0) p) points
    low_left = λ i p h. left_moved (l n) (l n) (u 0) (l (n + 1)) (get_or points i p) refl (sym end ∙ ap l (sym e)) (two.low_left n (omega arith) i p h)

    up_left : All (λ p. pos 0 ≤ℤ turn (u 0) (u 1) p) points
    up_left = let some : 1 ≤ k = two.up_some in two.up_left 0 (omega arith)

    with_point : (z : PlanePoint) → Contains points z → (pos 0 <ℤ turn (l n) (u 0) z) ⊎ (pos 0 <ℤ turn (u 0) (u 1) z) → pos 0 <ℤ turn (l n) (u 0) (u 1)
    with_point z listed off =
        let some : 1 ≤ k = two.up_some in
        joint d (l n) (u 0) (u 1) z low_up up_down
        (All-contains (λ p. pos 0 ≤ℤ turn (l n) (u 0) p) points (u 1) low_left (two.up_listed 1 some))
        (All-contains (λ p. pos 0 ≤ℤ turn (l n) (u 0) p) points z low_left listed)
        (All-contains (λ p. pos 0 ≤ℤ turn (u 0) (u 1) p) points z up_left listed)
        off

abbrev pub opposite : PlanePoint → PlanePoint
opposite d = record { x = neg_ℤ d.x; y = neg_ℤ d.y }

pub opposite-dot : (d p : PlanePoint) → dot (opposite d) p ≡ neg_ℤ (dot d p)
opposite-dot d p = read (d.x ∷ d.y ∷ p.x ∷ p.y ∷ []) (λ xs a b c d. simp (a, b, c, d, polys) (den-ring xs _ _ tt))

back_along : (d a b : PlanePoint) → dot d a <ℤ dot d b → dot (opposite d) b <ℤ dot (opposite d) a
back_along d a b h = let p = opposite-dot d a in let q = opposite-dot d b in omega (arith, ints, p, q, h)

-- the same two chains, the other one first
swapped : (points : List PlanePoint) (d : PlanePoint) (l u : ℕ → PlanePoint) (m k : ℕ) → TwoMonotoneChains points d l u m k → TwoMonotoneChains points (opposite d) u l k m
swapped points d l u m k two = record {
  low_some = two.up_some;
  up_some = two.low_some;
  low_along = λ i h. back_along d (u (i + 1)) (u i) (two.up_along i h);
  up_along = λ i h. back_along d (l i) (l (i + 1)) (two.low_along i h);
  low_turns = two.up_turns;
  up_turns = two.low_turns;
  low_left = two.up_left;
  up_left = two.low_left;
  low_listed = two.up_listed;
  up_listed = two.low_listed;
  meets = two.closes;
  closes = two.meets;
}

pub cycle_turns : (points corners : List PlanePoint) (d : PlanePoint) (l u : ℕ → PlanePoint) (m k : ℕ) → TwoMonotoneChains points d l u m k → IsCycle corners l u m k → 3 ≤ length corners
    → EachIndex corners (λ i. pos 0 <ℤ turn (around corners i) (around corners (i + 1)) (around corners (i + 2)))
cycle_turns points corners d l u m k two cycle three i h =
    elim (cases_order (i + 1) m) [
      | inl last ↦
          let first : around corners i ≡ l i = at_low points corners d l u m k two cycle i i refl (omega arith) in
          turns_moved (around corners i) (l i) (around corners (i + 1)) (u 0) (around corners (i + 2)) (u 1) first
          (at_up points corners d l u m k two cycle (i + 1) 0 (omega arith) (omega arith)) (at_up points corners d l u m k two cycle (i + 2) 1 (omega arith) up)
          (turns_at_last points d l u m k i two last (omega arith))
      | inr rest ↦ elim rest [
        | inl less ↦ turns_moved (around corners i) (l i) (around corners (i + 1)) (l (i + 1)) (around corners (i + 2)) (l (i + 2)) (at_low points corners d l u m k two cycle i i refl (omega arith))
            (at_low points corners d l u m k two cycle (i + 1) (i + 1) refl (omega arith)) (at_low points corners d l u m k two cycle (i + 2) (i + 2) refl (omega arith)) (two.low_turns i less)
        | inr more ↦ elim (cases_order (i - m + 1) k) [
          | inl last ↦
              turns_moved (around corners i) (u (i - m)) (around corners (i + 1)) (l 0) (around corners (i + 2)) (l 1) (at_up points corners d l u m k two cycle i (i - m) (omega arith) (omega arith))
              (at_up points corners d l u m k two cycle (i + 1) k (omega arith) (omega arith) ∙ two.closes) (at_second points corners d l u m k two cycle (i + 2) (omega arith))
              (turns_at_last points (opposite d) u l k m (i - m) (swapped points d l u m k two) last (omega arith))
          | inr rest ↦ elim rest [
            | inl less ↦ turns_moved (around corners i) (u (i - m)) (around corners (i + 1)) (u (i - m + 1)) (around corners (i + 2)) (u (i - m + 2)) (at_up points corners d l u m k two cycle i (i - m) (omega arith) (omega arith))
                (at_up points corners d l u m k two cycle (i + 1) (i - m + 1) (omega arith) (omega arith)) (at_up points corners d l u m k two cycle (i + 2) (i - m + 2) (omega arith) (omega arith)) (two.up_turns (i - m) less)
            | inr over ↦ absurd (omega arith)
          ]
        ]
      ]
    ]
  where
    up : 1 ≤ k
    up = two.up_some

    count : length corners ≡ m + k
    count = cycle.count

pub cycle_left : (points corners : List PlanePoint) (d : PlanePoint) (l u : ℕ → PlanePoint) (m k : ℕ) → TwoMonotoneChains points d l u m k → IsCycle corners l u m k
    → EachIndex corners (λ i. All (λ p. pos 0 ≤ℤ turn (around corners i) (around corners (i + 1)) p) points)
cycle_left points corners d l u m k two cycle i h =
    elim (cases_order (i + 1) (m + 1)) [
      | inl last ↦ of_up (omega arith)
      | inr rest ↦ elim rest [ inl less ↦ of_low (omega arith) | inr more ↦ of_up (omega arith) ]
    ]
  where
    count : length corners ≡ m + k
    count = cycle.count

    of_low : i < m → All (λ p. pos 0 ≤ℤ turn (around corners i) (around corners (i + 1)) p) points
    of_low less = λ n p inside. left_moved (around corners i) (l i) (around corners (i + 1)) (l (i + 1)) (get_or points n p)
        (at_low points corners d l u m k two cycle i i refl (omega arith)) (at_low points corners d l u m k two cycle (i + 1) (i + 1) refl (omega arith)) (two.low_left i less n p inside)

    of_up : m ≤ i → All (λ p. pos 0 ≤ℤ turn (around corners i) (around corners (i + 1)) p) points
    of_up more = λ n p inside. left_moved (around corners i) (u (i - m)) (around corners (i + 1)) (u (i - m + 1)) (get_or points n p)
        (at_up points corners d l u m k two cycle i (i - m) (omega arith) (omega arith)) (at_up points corners d l u m k two cycle (i + 1) (i - m + 1) (omega arith) (omega arith)) (two.up_left (i - m) (omega arith) n p inside)

-- ---- all corners differ

climbs : (d : PlanePoint) (l : ℕ → PlanePoint) (m : ℕ) → ((i : ℕ) → i < m → dot d (l i) <ℤ dot d (l (i + 1))) → (i n : ℕ) → i + n + 1 ≤ m → dot d (l i) <ℤ dot d (l (i + n + 1))
climbs d l m along i zero h = subst (λ j. dot d (l i) <ℤ dot d (l j)) (omega arith) (along i (omega arith))
climbs d l m along i (suc n) h =
    let before : dot d (l i) <ℤ dot d (l (i + n + 1)) = climbs d l m along i n (omega arith) in
    let step : dot d (l (i + n + 1)) <ℤ dot d (l (i + n + 1 + 1)) = along (i + n + 1) (omega arith) in
    subst (λ j. dot d (l i) <ℤ dot d (l j)) (let e : i + n + 1 + 1 ≡ i + suc n + 1 = omega arith in e) (omega (arith, ints))

pub climb : (d : PlanePoint) (l : ℕ → PlanePoint) (m : ℕ) → ((i : ℕ) → i < m → dot d (l i) <ℤ dot d (l (i + 1))) → (i j : ℕ) → i < j → j ≤ m → dot d (l i) <ℤ dot d (l j)
climb d l m along i j less h = subst (λ n. dot d (l i) <ℤ dot d (l n)) (omega arith) (climbs d l m along i (j - i - 1) (omega arith))

differ : (d a b : PlanePoint) → dot d a <ℤ dot d b → a ≢ b
differ d a b h e = let same : dot d a ≡ dot d b = ap (dot d) e in omega (arith, ints)

-- a corner of the lower chain and one of the upper chain
low_from_up : (points : List PlanePoint) (d : PlanePoint) (l u : ℕ → PlanePoint) (m k : ℕ) → TwoMonotoneChains points d l u m k → (i j : ℕ) → i < m → j < k → l i ≢ u j
low_from_up points d l u m k two i j low up same = elim (cases_order i 0) [
  | inl none ↦
      let down : dot (opposite d) (u j) <ℤ dot (opposite d) (u k) = climb (opposite d) u k (λ n h. back_along d (u (n + 1)) (u n) (two.up_along n h)) j k up (omega arith) in
      differ (opposite d) (u j) (u k) down (sym same ∙ ap l none ∙ sym two.closes)
  | inr rest ↦ elim rest [
    | inl less ↦ absurd (omega arith)
    | inr some ↦ elim (cases_order j 0) [
      | inl none ↦ differ d (l i) (l m) (climb d l m two.low_along i m low (omega arith)) (same ∙ ap u none ∙ sym two.meets)
      | inr rest ↦ elim rest [
        | inl less ↦ absurd (omega arith)
        | inr more ↦ crossed (i - 1) (j - 1) (omega arith) (omega arith)
      ]
    ]
  ]
]
  where
    crossed : (a f : ℕ) → a + 1 ≡ i → f + 1 ≡ j → ⊥
    crossed a f ea ef =
        let p : PlanePoint = l i in
        apart d (l a) (l i) (l (i + 1)) (u f) (u (j + 1))
        (subst (λ n. dot d (l a) <ℤ dot d (l n)) ea (two.low_along a (omega arith)))
        (two.low_along i low)
        (subst (λ v. dot d (u (j + 1)) <ℤ dot d v) (sym same) (two.up_along j up))
        (subst (λ v. dot d v <ℤ dot d (u f)) (sym same) (subst (λ n. dot d (u n) <ℤ dot d (u f)) ef (two.up_along f (omega arith))))
        (turns_moved (l a) (l a) (l i) (l (a + 1)) (l (i + 1)) (l (a + 2)) refl (ap l (sym ea)) (ap l (omega arith)) (two.low_turns a (omega arith)))
        (left_moved (l a) (l a) (l i) (l (a + 1)) (u (j + 1)) refl (ap l (sym ea)) (All-contains (λ p. pos 0 ≤ℤ turn (l a) (l (a + 1)) p) points (u (j + 1)) (two.low_left a (omega arith)) (two.up_listed (j + 1) (omega arith))))
        (All-contains (λ p. pos 0 ≤ℤ turn (l i) (l (i + 1)) p) points (u f) (two.low_left i low) (two.up_listed f (omega arith)))
        (turns_moved (u f) (u f) (l i) (u (f + 1)) (u (j + 1)) (u (f + 2)) refl (same ∙ ap u (sym ef)) (ap u (omega arith)) (two.up_turns f (omega arith)))

pub cycle_distinct : (points corners : List PlanePoint) (d : PlanePoint) (l u : ℕ → PlanePoint) (m k : ℕ) → TwoMonotoneChains points d l u m k → IsCycle corners l u m k → AllPairs (λ a b. a ≢ b) corners
cycle_distinct points corners d l u m k two cycle i j e less h same =
    two_apart (get_or_default corners i origin e (omega arith) ∙ same ∙ get_or_default corners j e origin h)
  where
    count : length corners ≡ m + k
    count = cycle.count

    two_apart : point_at corners i ≡ point_at corners j → ⊥
    two_apart equal = elim (cases_order (j + 1) (m + 1)) [
      | inl last ↦ second_up (omega arith)
      | inr rest ↦ elim rest [
        | inl less' ↦ differ d (l i) (l j) (climb d l m two.low_along i j less (omega arith)) (sym (cycle.low i (omega arith)) ∙ equal ∙ cycle.low j (omega arith))
        | inr more ↦ second_up (omega arith)
      ]
    ]
      where
        u_at : (n : ℕ) → m ≤ n → n < m + k → point_at corners n ≡ u (n - m)
        u_at n low high = ap (point_at corners) (let e' : n ≡ m + (n - m) = omega arith in e') ∙ cycle.up (n - m) (omega arith)

        second_up : m ≤ j → ⊥
        second_up high = elim (cases_order (i + 1) (m + 1)) [
          | inl last ↦ both_up (omega arith)
          | inr rest ↦ elim rest [
            | inl less' ↦ low_from_up points d l u m k two i (j - m) (omega arith) (omega arith) (sym (cycle.low i (omega arith)) ∙ equal ∙ u_at j high (omega arith))
            | inr more ↦ both_up (omega arith)
          ]
        ]
          where
            both_up : m ≤ i → ⊥
            both_up up =
                let down : dot (opposite d) (u (i - m)) <ℤ dot (opposite d) (u (j - m)) = climb (opposite d) u k (λ n h. back_along d (u (n + 1)) (u n) (two.up_along n h)) (i - m) (j - m) (omega arith) (omega arith) in
                differ (opposite d) (u (i - m)) (u (j - m)) down (sym (u_at i up (omega arith)) ∙ equal ∙ u_at j high (omega arith))
