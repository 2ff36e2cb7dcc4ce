-- The distances of a hull's corners: crossing pairs are far apart, and no two corners are in one place.
use Rattle.std.proofs.Common.{◌≡◌, ◌≢◌, sym, ap, subst, ◌∙◌, inl, inr, ℕ, zero, suc, ◌+◌, ◌-◌, ◌<◌, ◌≤◌, ◌%◌, ℤ, pos, ◌+ℤ◌, ◌-ℤ◌, ◌≤ℤ◌, ◌<ℤ◌, List, [], ◌∷◌, length, arith}
use Rattle.std.specs.Prelude.{AllPairs}
use Rattle.std.proofs.Math.Nat.{mod-lt}
use Rattle.std.proofs.lemmas.Int.{ints, by_lt_z}
use Rattle.std.proofs.lemmas.Bool.{cases_order}
use Rattle.integers.proofs.Lists.{before_or_after}
use Rattle.integers.proofs.Order.{square_nonneg, zero_of_square}
use Rattle.bounds_model.specs.Plane.{PlanePoint, point_at, origin, turn, squared_distance}
use Rattle.bounds_model.specs.Hull.{around, AreCorners, AreCornerCycle}
use Rattle.model_laws.proofs.CornerLaw.{around-below}
use Rattle.model_laws.proofs.StrictCorners.{turns_left}
use Rattle.model_laws.proofs.Turning.{turn_from}
use Rattle.furthest_laws.specs.Rows.{Crosses, distances}
use Rattle.furthest_laws.proofs.Crossing.{farther_from_second}
use Rattle.furthest_laws.proofs.Rounds.{around_again, around_first, around_later, less_than_round}

-- different points are apart
pub apart : (a b : PlanePoint) → a ≢ b → pos 0 <ℤ squared_distance a b
apart a b other = by_lt_z (pos 0) (squared_distance a b) (λ l. l)
    (λ m. absurd (other (λ i. record {
      x = same a.x b.x (zero_of_square (b.x -ℤ a.x) (first_part (square_nonneg (b.y -ℤ a.y)) m)) i;
      y = same a.y b.y
          (zero_of_square (b.y -ℤ a.y) (second_part (square_nonneg (b.x -ℤ a.x)) m)) i;
    })))
  where
    same : (x y : ℤ) → y -ℤ x ≡ pos 0 → x ≡ y
    same x y e = omega (arith, ints)

    first_part : {a b : ℤ} → pos 0 ≤ℤ b → (a +ℤ b) ≤ℤ pos 0 → a ≤ℤ pos 0
    first_part h k = omega (arith, ints)

    second_part : {a b : ℤ} → pos 0 ≤ℤ a → (a +ℤ b) ≤ℤ pos 0 → b ≤ℤ pos 0
    second_part h k = omega (arith, ints)

-- corners without repeats, counted around
differ_around : (corners : List PlanePoint) → AllPairs (λ a b. a ≢ b) corners → (i m : ℕ) → i < m → m < i + length corners → around corners i ≢ around corners m
differ_around corners distinct i m after below same =
    elim (cases_order (i % length corners) (m % length corners)) [
      | inl equal ↦ other (sym equal)
      | inr rest ↦ elim rest [
        | inl less ↦ distinct (i % length corners) (m % length corners) origin less (mod-lt m some) same
        | inr more ↦ distinct (m % length corners) (i % length corners) origin more (mod-lt i some) (sym same)
      ]
    ]
  where
    some : 0 < length corners
    some = omega (arith, after, below)

    gap : (i m h : ℕ) → i < m → m < i + h → (d : ℕ) × (0 < d) × (d < h) × (m ≡ i + d)
    gap zero m h after below = (m, after, omega (arith, below), omega arith)
    gap (suc i) zero h after below = absurd (omega (arith, after))
    gap (suc i) (suc m) h after below = let g = gap i m h (omega (arith, after)) (omega (arith, below)) in (g.0, g.1, g.2, omega (arith, g.3))

    other : m % length corners ≢ i % length corners
    other = let g = gap i m (length corners) after below in subst (λ n. n % length corners ≢ i % length corners) (sym g.3) (less_than_round (length corners) i g.0 g.1 g.2)

-- three corners in the order of the list
turn_below : (points corners : List PlanePoint) → AreCornerCycle points corners → (a b c : ℕ) → a < b → b < c → c < length corners
    → pos 0 <ℤ turn (around corners a) (around corners b) (around corners c)
turn_below points corners h a b c first second below =
    subst (λ v. pos 0 <ℤ turn v (around corners b) (around corners c)) (sym (around-below corners a (omega (arith, first, second, below))))
    (subst (λ v. pos 0 <ℤ turn (point_at corners a) v (around corners c)) (sym (around-below corners b (omega (arith, second, below))))
    (subst (λ v. pos 0 <ℤ turn (point_at corners a) (point_at corners b) v) (sym (around-below corners c below)) (turns_left points corners h a b c first second below)))

-- past the end of the list it begins again
past_end : (corners : List PlanePoint) (i : ℕ) → length corners ≤ i → around corners (i - length corners) ≡ around corners i
past_end corners i over = sym (around_again corners (i - length corners)) ∙ ap (around corners) (let e : i - length corners + length corners ≡ i = omega (arith, over) in e)

-- a corner of the list, and two that come so many positions after it
turn_after : (points corners : List PlanePoint) → AreCornerCycle points corners → (a m n : ℕ) → a < length corners → 0 < m → m < n → n < length corners
    → pos 0 <ℤ turn (around corners a) (around corners (a + m)) (around corners (a + n))
turn_after points corners h a m n low some first near = elim (before_or_after (a + n) (length corners)) [
  | inl inside ↦ turn_below points corners h a (a + m) (a + n) (omega (arith, some)) (omega (arith, first)) inside
  | inr over ↦
      let c = a + n - length corners in
      subst (λ v. pos 0 <ℤ turn (around corners a) (around corners (a + m)) v) (past_end corners (a + n) over)
      (elim (before_or_after (a + m) (length corners)) [
        | inl inside ↦ subst (λ z. pos 0 <ℤ z) (sym (turn_from (around corners c) (around corners a) (around corners (a + m))))
            (turn_below points corners h c a (a + m) (omega (arith, near, over, low)) (omega (arith, some)) inside)
        | inr beyond ↦
            let b = a + m - length corners in
            subst (λ v. pos 0 <ℤ turn (around corners a) v (around corners c)) (past_end corners (a + m) beyond)
            (subst (λ z. pos 0 <ℤ z) (turn_from (around corners a) (around corners b) (around corners c))
            (turn_below points corners h b c a (omega (arith, first, beyond)) (omega (arith, near, over, low)) low))
      ])
]

-- so many positions on from a corner stands the same, counted from its place in the list
from_place : (corners : List PlanePoint) (i j n : ℕ) → j ≡ i + n → around corners (i % length corners + n) ≡ around corners j
from_place corners i j n is = around_later corners i n ∙ ap (around corners) (sym is)

-- any three corners in turning order, less than a round apart, turn left
turn_round : (points corners : List PlanePoint) → AreCornerCycle points corners → (i j k : ℕ) → i < j → j < k → k < i + length corners
    → pos 0 <ℤ turn (around corners i) (around corners j) (around corners k)
turn_round points corners h i j k first second near =
    let m = positions_on i j first in
    let n = positions_on i k (omega (arith, first, second)) in
    subst (λ v. pos 0 <ℤ turn v (around corners j) (around corners k)) (around_first corners i)
    (subst (λ v. pos 0 <ℤ turn (around corners (i % length corners)) v (around corners k)) (from_place corners i j m.0 m.1)
    (subst (λ v. pos 0 <ℤ turn (around corners (i % length corners)) (around corners (i % length corners + m.0)) v) (from_place corners i k n.0 n.1)
    (turn_after points corners h (i % length corners) m.0 n.0 (mod-lt i (omega (arith, first, second, near))) (omega (arith, m.1, first)) (omega (arith, m.1, n.1, second))
    (omega (arith, n.1, near)))))
  where
    positions_on : (i j : ℕ) → i < j → (n : ℕ) × (j ≡ i + n)
    positions_on i j l = (j - i, omega (arith, l))

-- crossing pairs of three corners or more are far apart
cycle_crosses : (points corners : List PlanePoint) → AreCornerCycle points corners → Crosses (distances corners) (length corners)
cycle_crosses points corners h i j k l ij jk kl near =
    farther_from_second (around corners i) (around corners j) (around corners k) (around corners l) (turn_round points corners h i j k ij jk (omega (arith, kl, near)))
    (turn_round points corners h i j l ij (omega (arith, jk, kl)) near)
    (turn_round points corners h i k l (omega (arith, ij, jk)) kl near) (turn_round points corners h j k l jk kl (omega (arith, ij, near)))

-- fewer than four have no crossing pairs
few_cross : (table : ℕ → ℕ → ℤ) (h : ℕ) → h < 4 → Crosses table h
few_cross table h few i j k l ij jk kl near = absurd (omega (arith, few, ij, jk, kl, near))

-- crossing pairs of a hull's corners are far apart
pub corners_cross : (points corners : List PlanePoint) → AreCorners points corners → Crosses (distances corners) (length corners)
corners_cross points [] h = absurd h
corners_cross points (a ∷ []) h = few_cross (distances (a ∷ [])) 1 (omega arith)
corners_cross points (a ∷ b ∷ []) h = few_cross (distances (a ∷ b ∷ [])) 2 (omega arith)
corners_cross points (a ∷ b ∷ c ∷ rest) h = cycle_crosses points (a ∷ b ∷ c ∷ rest) h

-- two different points have no repeats
pair_distinct : (a b : PlanePoint) → a ≢ b → AllPairs (λ p q. p ≢ q) (a ∷ b ∷ [])
pair_distinct a b other zero zero d less low = absurd (omega (arith, less))
pair_distinct a b other zero (suc zero) d less low = other
pair_distinct a b other zero (suc (suc j)) d less low = absurd (omega (arith, low))
pair_distinct a b other (suc i) zero d less low = absurd (omega (arith, less))
pair_distinct a b other (suc i) (suc j) d less low = absurd (omega (arith, less, low))

-- two or more corners are apart from the next
pub next_apart : (points corners : List PlanePoint) → AreCorners points corners → 2 ≤ length corners → (i : ℕ) → pos 0 <ℤ distances corners i (i + 1)
next_apart points [] h two i = absurd h
next_apart points (a ∷ []) h two i = absurd (omega (arith, two))
next_apart points (a ∷ b ∷ []) h two i = apart _ _ (differ_around (a ∷ b ∷ []) (pair_distinct a b h.distinct) i (i + 1) (omega arith) (omega (arith, two)))
next_apart points (a ∷ b ∷ c ∷ rest) h two i = apart _ _ (differ_around (a ∷ b ∷ c ∷ rest) h.distinct i (i + 1) (omega arith) (omega (arith, two)))
