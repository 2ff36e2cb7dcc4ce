-- Positions counted around.
use Rattle.std.proofs.Common.{◌≡◌, ◌≢◌, ap, ◌∙◌, ◌⊎◌, inl, inr, ℕ, ◌+◌, ◌-◌, ◌<◌, ◌≤◌, ◌%◌, List, length, arith}
use Rattle.std.proofs.Math.Nat.{mod-eq_of_lt, mod-lt, mod-mod, mod-add-mod, add-mod_right}
use Rattle.integers.proofs.Lists.{before_or_after}
use Rattle.bounds_model.specs.Plane.{PlanePoint, point_at}
use Rattle.bounds_model.specs.Hull.{around}
use Rattle.model_laws.proofs.CornerLaw.{around-below}
use Rattle.bounds_model.specs.Furthest.{positions_after}

-- ---- corners

pub around_again : (corners : List PlanePoint) (i : ℕ) → around corners (i + length corners) ≡ around corners i
around_again corners i = ap (point_at corners) (add-mod_right i (length corners))

pub around_first : (corners : List PlanePoint) (i : ℕ) → around corners (i % length corners) ≡ around corners i
around_first corners i = ap (point_at corners) (mod-mod i (length corners))

pub around_later : (corners : List PlanePoint) (i j : ℕ) → around corners (i % length corners + j) ≡ around corners (i + j)
around_later corners i j = ap (point_at corners) (mod-add-mod i (length corners) j)

-- ---- positions

-- a position that comes after another one in the list, or before it
abbrev pub IsAfter : ℕ → ℕ → ℕ → ℕ → Type 0
IsAfter h i j s = ((i ≤ j) × (i + s ≡ j)) ⊎ ((j < i) × (i + s ≡ j + h))

pub is_after : (h i j : ℕ) → i < h → j < h → IsAfter h i j (positions_after h i j)
is_after h i j low high = elim (before_or_after j i) [
  | inl before ↦ inr (before, plain h i j (positions_after h i j) low (mod-eq_of_lt {m = h} (omega (arith, before, low))))
  | inr after ↦ inl (
    after,
    wrapped h i j (positions_after h i j) after low (let e : j + (h - i) ≡ j - i + h = omega (arith, after, low) in ap (λ n. n % h) e ∙ add-mod_right (j - i) h
        ∙ mod-eq_of_lt {m = h} (omega (arith, high))),
  )
]
  where
    plain : (h i j s : ℕ) → i < h → s ≡ j + (h - i) → i + s ≡ j + h
    plain h i j s low e = omega (arith, low, e)

    wrapped : (h i j s : ℕ) → i ≤ j → i < h → s ≡ j - i → i + s ≡ j
    wrapped h i j s after low e = omega (arith, e, after)

-- fewer positions than there are
pub after_below : (h i j : ℕ) → 0 < h → positions_after h i j < h
after_below h i j some = mod-lt (j + (h - i)) some

-- so many positions on stands the corner
pub after_is : (corners : List PlanePoint) (i j : ℕ) → i < length corners → j < length corners → around corners (i + positions_after (length corners) i j) ≡ point_at corners j
after_is corners i j low high = elim (is_after (length corners) i j low high) [
  | inl after ↦ ap (around corners) after.1 ∙ around-below corners j high
  | inr before ↦ ap (around corners) before.1 ∙ around_again corners j ∙ around-below corners j high
]

-- no positions on stands the corner itself
pub after_none : (h i j : ℕ) → i < h → j < h → positions_after h i j ≡ 0 → i ≡ j
after_none h i j low high none = elim (is_after h i j low high) [
  | inl after ↦ omega (arith, after.1, none)
  | inr before ↦ absurd (omega (arith, before.1, none, low))
]

-- as many positions on stands the same corner
pub after_same : (h i j k : ℕ) → i < h → j < h → k < h → positions_after h i j ≡ positions_after h i k → j ≡ k
after_same h i j k low high other same = elim (is_after h i j low high) [
  | inl after ↦ elim (is_after h i k low other) [
    | inl next ↦ omega (arith, after.1, next.1, same)
    | inr first ↦ absurd (omega (arith, after.1, first.1, same, high))
  ]
  | inr before ↦ elim (is_after h i k low other) [
    | inl next ↦ absurd (omega (arith, before.1, next.1, same, other))
    | inr first ↦ omega (arith, before.1, first.1, same)
  ]
]

-- less than a round on stands another position
pub less_than_round : (h i d : ℕ) → 0 < d → d < h → (i + d) % h ≢ i % h
less_than_round h i d some few e =
    elim (before_or_after (i % h + d) h) [
      | inl below ↦ absurd (omega (arith, some, mod-add-mod i h d ∙ e, mod-eq_of_lt {m = h} below))
      | inr over ↦
          let again : (i % h + d) % h ≡ i % h + d - h = ap (λ n. n % h) (let f : i % h + d ≡ (i % h + d - h) + h = omega (arith, over) in f) ∙ add-mod_right (i % h + d - h) h
          ∙ mod-eq_of_lt {m = h} (under (i % h) (mod-lt i {m = h} (omega (arith, few)))) in
          absurd (omega (arith, some, few, over, mod-add-mod i h d ∙ e, again))
    ]
  where
    under : (r : ℕ) → r < h → r + d - h < h
    under r low = omega (arith, low, few)
