-- Points have one list of corners at most.
use Rattle.std.proofs.Common.{◌≡◌, ◌≢◌, refl, sym, ◌∙◌, ap, ap₂, subst, ℕ, zero, suc, ◌+◌, ◌%◌, ◌<◌, ℤ, pos, ◌≤ℤ◌, ◌<ℤ◌, List, [], ◌∷◌, length, arith}
use mathlib.Core.Logic.{inl, inr}
use Rattle.std.specs.Prelude.{All, Contains}
use Rattle.std.proofs.Math.Nat.{mod-lt, mod-mod, mod-add-mod, add-mod_left}
use Rattle.std.proofs.lemmas.Int.{ints}
use Rattle.std.proofs.lemmas.List.{ext_get_or}
use Rattle.std.proofs.lemmas.List.Elements.{All-contains, All-get_or}
use Rattle.integers.proofs.Order.{le_antisymm_ℤ, positive-not_zero}
use Rattle.bounds_model.specs.Plane.{PlanePoint, origin, point_at, vector, turn, IsBefore, IsLeastPoint, IsGreatestPoint}
use Rattle.bounds_model.specs.Hull.{around, AreCornerCycle, AreEnds, IsOnlyPoint}
use Rattle.model_laws.specs.Laws.{CornersAreUnique}
use Rattle.model_laws.proofs.Turning.{ahead_of_before, no_turn, on_one_line}
use Rattle.model_laws.proofs.NextCorner.{Follows, one_after, one_after_least}
use Rattle.model_laws.proofs.CornerLaw.{around-below, cross_self}

-- ---- least and greatest points

-- points of which each is before the other are equal
both_before : (a b : PlanePoint) → IsBefore a b → IsBefore b a → a ≡ b
both_before a b h k =
    elim h [
      | inl l ↦ elim k [ inl m ↦ absurd (both_less a.x b.x l m) | inr m ↦ absurd (less_equal a.x b.x l m.0) ]
      | inr l ↦ elim k [ inl m ↦ absurd (less_equal b.x a.x m l.0) | inr m ↦ λ i. record { x = l.0 i; y = le_antisymm_ℤ l.1 m.1 i } ]
    ]
  where
    both_less : (x y : ℤ) → x <ℤ y → y <ℤ x → ⊥
    both_less x y h k = omega (arith, ints)

    less_equal : (x y : ℤ) → x <ℤ y → y ≡ x → ⊥
    less_equal x y h k = omega (arith, ints)

-- there is one least point
pub same_least : (points : List PlanePoint) (a b : PlanePoint) → IsLeastPoint points a → IsLeastPoint points b → a ≡ b
same_least points a b h k = both_before a b (All-contains (IsBefore a) points b h.least k.listed) (All-contains (IsBefore b) points a k.least h.listed)

-- and one greatest
same_greatest : (points : List PlanePoint) (a b : PlanePoint) → IsGreatestPoint points a → IsGreatestPoint points b → a ≡ b
same_greatest points a b h k = both_before a b (All-contains (λ p. IsBefore p b) points a k.greatest h.listed) (All-contains (λ p. IsBefore p a) points b h.greatest k.listed)

-- ---- two cycles around the same points

-- each corner is one of the points
pub around-listed : (points xs : List PlanePoint) (k : ℕ) → 0 < length xs → All (Contains points) xs → Contains points (around xs k)
around-listed points xs k some h = All-get_or (Contains points) xs (k % length xs) origin (mod-lt k some) h

-- past the end the corners begin anew
pub around-end : (xs : List PlanePoint) → around xs (length xs) ≡ around xs 0
around-end xs = ap (point_at xs) (ap (λ n. n % length xs) (no_more (length xs)) ∙ add-mod_left (length xs) 0)
  where
    no_more : (n : ℕ) → n ≡ n + 0
    no_more n = omega arith

-- each corner comes after the one before
pub follows_at : (points xs : List PlanePoint) → AreCornerCycle points xs → (k : ℕ) → k < length xs → Follows points (around xs k) (around xs (k + 1)) (around xs (k + 2))
follows_at points xs r k l = record {
  listed = around-listed points xs (k + 1) (omega arith) r.listed;
  left = r.inside k l;
  next_left = subst (λ b. All (λ q. pos 0 ≤ℤ turn b (around xs (k + 2)) q) points) same_next
      (subst (λ c. All (λ q. pos 0 ≤ℤ turn (around xs ((k + 1) % length xs)) c q) points) same_second (r.inside ((k + 1) % length xs) (mod-lt (k + 1) (omega arith))));
  turns = r.left_turns k l;
}
  where
    same_next : around xs ((k + 1) % length xs) ≡ around xs (k + 1)
    same_next = ap (point_at xs) (mod-mod (k + 1) (length xs))

    same_second : around xs ((k + 1) % length xs + 1) ≡ around xs (k + 2)
    same_second = ap (point_at xs) (mod-add-mod (k + 1) (length xs) 1 ∙ ap (λ n. n % length xs) (two_more k))
      where
        two_more : (k : ℕ) → k + 1 + 1 ≡ k + 2
        two_more k = omega arith

-- a corner after the first is not equal to it
not_first : (points xs : List PlanePoint) → AreCornerCycle points xs → (k : ℕ) → 0 < k → k < length xs → point_at xs k ≢ point_at xs 0
not_first points xs r k p l e = r.distinct 0 k origin p l (sym e)

-- the second corner is not the first
second-not_first : (points xs : List PlanePoint) → AreCornerCycle points xs → 1 < length xs → around xs 1 ≢ around xs 0
second-not_first points xs r some e = not_first points xs r 1 (omega arith) some (sym (around-below xs 1 some) ∙ e ∙ around-below xs 0 (omega arith))

-- two cycles agree on the corner k and the next
abbrev Agree : List PlanePoint → List PlanePoint → ℕ → Type 0
Agree xs ys k = (around xs k ≡ around ys k) × (around xs (k + 1) ≡ around ys (k + 1))

-- two cycles agree on each corner that both have
agree : (points xs ys : List PlanePoint) → AreCornerCycle points xs → AreCornerCycle points ys → 1 < length xs → 1 < length ys → (k : ℕ) → k < length xs → k < length ys → Agree xs ys k
agree points xs ys r t px py zero lx ly =
    let first : around xs 0 ≡ around ys 0 = same_least points (around xs 0) (around ys 0) r.from_least t.from_least in (
      first,
      one_after_least points (around xs 0) (around xs 1) (around ys 1) (around xs 2) (around ys 2) r.from_least (second-not_first points xs r px)
          (subst (λ a. around ys 1 ≢ a) (sym first) (second-not_first points ys t py)) (follows_at points xs r 0 lx) (subst (λ a. Follows points a (around ys 1) (around ys 2)) (sym first) (follows_at points ys t 0 ly)),
    )
agree points xs ys r t px py (suc k) lx ly =
    let before = agree points xs ys r t px py k (omega arith) (omega arith) in
    subst (λ i. Agree xs ys i) (one_up k) (
      before.1,
      one_after points (around xs k) (around xs (k + 1)) (around xs (k + 1 + 1)) (around ys (k + 1 + 1)) (around xs (k + 1 + 2)) (around ys (k + 1 + 2)) (follows_at points xs r (k + 1) (omega arith))
          (subst (λ a. Follows points a (around ys (k + 1 + 1)) (around ys (k + 1 + 2))) (sym before.1) (follows_at points ys t (k + 1) (omega arith)))
          (turn_at xs r k (omega arith))
          (subst (λ a. pos 0 <ℤ turn (around xs k) a (around ys (k + 1 + 1))) (sym before.1) (subst (λ p. pos 0 <ℤ turn p (around ys (k + 1)) (around ys (k + 1 + 1))) (sym before.0) (turn_at ys t k (omega arith)))),
    )
  where
    one_up : (k : ℕ) → k + 1 ≡ suc k
    one_up k = omega arith

    two_up : (k : ℕ) → k + 2 ≡ k + 1 + 1
    two_up k = omega arith

    turn_at : (zs : List PlanePoint) → AreCornerCycle points zs → (k : ℕ) → k < length zs → pos 0 <ℤ turn (around zs k) (around zs (k + 1)) (around zs (k + 1 + 1))
    turn_at zs q k l = subst (λ i. pos 0 <ℤ turn (around zs k) (around zs (k + 1)) (around zs i)) (two_up k) (q.left_turns k l)

-- a cycle is not longer than another
not_longer : (points xs ys : List PlanePoint) → AreCornerCycle points xs → AreCornerCycle points ys → 1 < length xs → 1 < length ys → length xs < length ys → ⊥
not_longer points xs ys r t px py h = by_end (length xs) refl
  where
    by_end : (n : ℕ) → n ≡ length xs → ⊥
    by_end zero e = omega arith
    by_end (suc k) e =
        let last = (agree points xs ys r t px py k (omega arith) (omega arith)).1 in
        let ends : around xs (k + 1) ≡ around xs 0 = ap (around xs) (one_up k e) ∙ around-end xs in
        let first = (agree points xs ys r t px py 0 (omega arith) (omega arith)).0 in
        not_first points ys t (k + 1) (omega arith) (omega arith)
        (sym (around-below ys (k + 1) (omega arith)) ∙ sym last ∙ ends ∙ first ∙ around-below ys 0 (omega arith))
      where
        one_up : (k : ℕ) → suc k ≡ length xs → k + 1 ≡ length xs
        one_up k e = omega arith

-- so they are the same list
same_cycles : (points xs ys : List PlanePoint) → AreCornerCycle points xs → AreCornerCycle points ys → 1 < length xs → 1 < length ys → xs ≡ ys
same_cycles points xs ys r t px py =
    let long : length xs ≡ length ys = by_lt (length xs) (length ys) (not_longer points xs ys r t px py) (not_longer points ys xs t r py px) in
    ext_get_or origin xs ys long
    (λ i l. let m : i < length ys = omega arith in sym (around-below xs i l) ∙ (agree points xs ys r t px py i l m).0 ∙ around-below ys i m)
  where
    by_lt : (m n : ℕ) → (m < n → ⊥) → (n < m → ⊥) → m ≡ n
    by_lt m n h k = grind arith

-- ---- all points on a line leave no cycle

-- where no three points turn there is no cycle
no_cycle : (points xs : List PlanePoint) → 0 < length xs → AreCornerCycle points xs → ((p q r : PlanePoint) → Contains points p → Contains points q → Contains points r → turn p q r ≡ pos 0) → ⊥
no_cycle points xs some r flat =
    positive-not_zero (r.left_turns 0 some) (flat (around xs 0) (around xs 1) (around xs 2) (around-listed points xs 0 some r.listed) (around-listed points xs 1 some r.listed) (around-listed points xs 2 some r.listed))

-- equal points do not turn
flat_point : (points : List PlanePoint) (a : PlanePoint) → IsOnlyPoint points a → (p q r : PlanePoint) → Contains points p → Contains points q → Contains points r → turn p q r ≡ pos 0
flat_point points a h p q r cp cq cr =
    let is = λ (s : PlanePoint) (c : Contains points s). All-contains (λ z. z ≡ a) points s h.only c in
    subst (λ z. turn z q r ≡ pos 0) (sym (is p cp)) (subst (λ z. turn a z r ≡ pos 0) (sym (is q cq)) (subst (λ z. turn a a z ≡ pos 0) (sym (is r cr)) (cross_self (vector a a))))

-- nor do points on a line
flat_line : (points : List PlanePoint) (a b : PlanePoint) → AreEnds points a b → (p q r : PlanePoint) → Contains points p → Contains points q → Contains points r → turn p q r ≡ pos 0
flat_line points a b h p q r cp cq cr =
    let u = vector a b in
    let right = ahead_of_before a b (All-contains (IsBefore a) points b h.from_least.least h.to_greatest.listed) (λ e. h.distinct (sym e)) in
    let on = λ (s : PlanePoint) (c : Contains points s). All-contains (λ z. turn a b z ≡ pos 0) points s h.on_line c in
    no_turn a p q r (on_one_line u (vector a p) (vector a q) right (on p cp) (on q cq)) (on_one_line u (vector a p) (vector a r) right (on p cp) (on r cr)) (on_one_line u (vector a q) (vector a r) right (on q cq) (on r cr))

-- a point that is all points is no two ends
no_ends : (points : List PlanePoint) (a b c : PlanePoint) → IsOnlyPoint points a → AreEnds points b c → ⊥
no_ends points a b c h k = k.distinct (All-contains (λ p. p ≡ a) points b h.only k.from_least.listed ∙ sym (All-contains (λ p. p ≡ a) points c h.only k.to_greatest.listed))

-- points have one list of corners at most
pub one_list_of_corners : CornersAreUnique
one_list_of_corners points [] ys h k = absurd h
one_list_of_corners points (a ∷ []) [] h k = absurd k
one_list_of_corners points (a ∷ []) (b ∷ []) h k = ap (λ p. p ∷ []) (sym (All-contains (λ p. p ≡ a) points b h.only k.listed))
one_list_of_corners points (a ∷ []) (b ∷ c ∷ []) h k = absurd (no_ends points a b c h k)
one_list_of_corners points (a ∷ []) (b ∷ c ∷ d ∷ ys) h k = absurd (no_cycle points (b ∷ c ∷ d ∷ ys) (omega arith) k (flat_point points a h))
one_list_of_corners points (a ∷ b ∷ []) [] h k = absurd k
one_list_of_corners points (a ∷ b ∷ []) (c ∷ []) h k = absurd (no_ends points c a b k h)
one_list_of_corners points (a ∷ b ∷ []) (c ∷ d ∷ []) h k = ap₂ (λ p q. p ∷ q ∷ []) (same_least points a c h.from_least k.from_least) (same_greatest points b d h.to_greatest k.to_greatest)
one_list_of_corners points (a ∷ b ∷ []) (c ∷ d ∷ e ∷ ys) h k = absurd (no_cycle points (c ∷ d ∷ e ∷ ys) (omega arith) k (flat_line points a b h))
one_list_of_corners points (a ∷ b ∷ c ∷ xs) [] h k = absurd k
one_list_of_corners points (a ∷ b ∷ c ∷ xs) (d ∷ []) h k = absurd (no_cycle points (a ∷ b ∷ c ∷ xs) (omega arith) h (flat_point points d k))
one_list_of_corners points (a ∷ b ∷ c ∷ xs) (d ∷ e ∷ []) h k = absurd (no_cycle points (a ∷ b ∷ c ∷ xs) (omega arith) h (flat_line points d e k))
one_list_of_corners points (a ∷ b ∷ c ∷ xs) (d ∷ e ∷ f ∷ ys) h k = same_cycles points (a ∷ b ∷ c ∷ xs) (d ∷ e ∷ f ∷ ys) h k (omega arith) (omega arith)
