-- Rows of a table whose crossing pairs are far apart: their first greatest columns do not fall, and each row need only be looked at between those of two others.
use Rattle.std.proofs.Common.{◌≡◌, sym, subst, ◌⊎◌, inl, inr, ℕ, zero, suc, ◌+◌, ◌<◌, ◌≤◌, ℤ, ◌≤ℤ◌, ◌<ℤ◌, max, min, arith}
use Rattle.std.proofs.lemmas.Int.{ints, by_lt_z}
use Rattle.integers.proofs.Order.{le_from_lt, le_trans_ℤ}
use Rattle.integers.proofs.Lists.{before_or_after}
use Rattle.furthest_laws.specs.Rows.{IsFirstGreatest, IsRowGreatest, Crosses, IsLocalGreatest}

-- of two numbers in order the first is less or the same
less_or_same : (a b : ℕ) → a ≤ b → (a < b) ⊎ (a ≡ b)
less_or_same a b h = grind arith

lt_le_trans : {a b c : ℤ} → a <ℤ b → b ≤ℤ c → a <ℤ c
lt_le_trans h k = omega (arith, ints)

lt_trans : {a b c : ℤ} → a <ℤ b → b <ℤ c → a <ℤ c
lt_trans h k = omega (arith, ints)

clash_ℤ : {a b : ℤ} → a <ℤ b → b ≤ℤ a → ⊥
clash_ℤ h k = omega (arith, ints)

same_ℤ : {a b : ℤ} → a ≡ b → a ≤ℤ b
same_ℤ e = omega (arith, ints)

-- ---- one first greatest column

-- there is only one
pub one_first : (f : ℕ → ℤ) (from to x y : ℕ) → IsFirstGreatest f from to x → IsFirstGreatest f from to y → x ≡ y
one_first f from to x y h k = elim (before_or_after x y) [
  | inl less ↦ absurd (clash_ℤ (k.before x h.from_first less) (h.after y less k.to_last))
  | inr not_less ↦ elim (less_or_same y x not_less) [
    | inl more ↦ absurd (clash_ℤ (h.before y k.from_first more) (k.after x more h.to_last))
    | inr same ↦ sym same
  ]
]

-- no column has more
pub greatest_of : {f : ℕ → ℤ} {from to x : ℕ} (k : ℕ) → IsFirstGreatest f from to x → from ≤ k → k < to → f k ≤ℤ f x
greatest_of {f} {from} {to} {x} k h low high = elim (before_or_after k x) [
  | inl less ↦ le_from_lt (h.before k low less)
  | inr not_less ↦ elim (less_or_same x k not_less) [
    | inl more ↦ h.after k more high
    | inr same ↦ same_ℤ (λ i. f (sym same i))
  ]
]

-- ---- they do not fall

-- from one row to a later one, less than a round away
pub rises : (table : ℕ → ℕ → ℤ) (h i j x y : ℕ) → Crosses table h → i < j → j < i + h → IsRowGreatest table h i x → IsRowGreatest table h j y → x ≤ y
rises table h i j x y crosses after near p q = elim (before_or_after y x) [
  | inl falls ↦
      let farther = crosses i j y x after (omega (arith, q.from_first)) falls p.to_last (le_from_lt (p.before y (omega (arith, after, q.from_first)) falls)) in
      absurd (clash_ℤ farther (q.after x falls (omega (arith, p.to_last, after))))
  | inr keeps ↦ keeps
]

-- ---- a row between two others

-- the first greatest column from that of an earlier row to that of a later one is the first greatest of the row
pub between : (table : ℕ → ℕ → ℤ) (h a r b x y low high z : ℕ) → Crosses table h → a < r → r < b → x ≤ y → IsRowGreatest table h a x → IsRowGreatest table h b y → low ≡ max (r + 1) x
    → high ≡ min (r + h) (y + 1)
    → IsFirstGreatest (table r) low high z → IsRowGreatest table h r z
between table h a r b x y low high z crosses after ahead order p q low_is high_is found = record {
  from_first = omega (arith, found.from_first, low_is);
  to_last = omega (arith, found.to_last, high_is);
  before = λ k from less. elim (before_or_after k low) [
    | inl under ↦
        let beyond : k < x = under_first (r + 1) x low k low_is from under in
        let in_first : low ≤ x = omega (arith, low_is, from, beyond) in
        let in_last : x < high = omega (arith, high_is, p.to_last, after, order) in
        lt_le_trans (crosses a r k x after (omega (arith, from)) beyond p.to_last (le_from_lt (p.before k (omega (arith, after, from)) beyond))) (greatest_of x found in_first in_last)
    | inr inside ↦ found.before k inside less
  ];
  after = λ k more below. elim (before_or_after k high) [
    | inl inside ↦ found.after k more inside
    | inr over ↦
        let beyond : y < k = over_last (r + h) y high k high_is below over in
        let in_first : low ≤ y = omega (arith, low_is, order, q.from_first, ahead) in
        let in_last : y < high = omega (arith, high_is, beyond, below) in
        le_trans_ℤ (not_more k beyond below) (greatest_of y found in_first in_last)
  ];
}
  where
    under_first : (a b m k : ℕ) → m ≡ max a b → a ≤ k → k < m → k < b
    under_first a b m k e h l = omega (arith, e)

    over_last : (a y m k : ℕ) → m ≡ min a (y + 1) → k < a → m ≤ k → y < k
    over_last a y m k e h l = omega (arith, e)

    not_more : (k : ℕ) → y < k → k < r + h → table r k ≤ℤ table r y
    not_more k beyond below = by_lt_z (table r y) (table r k)
        (λ farther. absurd (clash_ℤ (crosses r b y k ahead (omega (arith, q.from_first)) beyond below (le_from_lt farther)) (q.after k beyond (omega (arith, below, ahead)))))
        (λ l. l)

-- ---- named columns that are looked at only as far as those of the neighbouring rows

-- above the column that is named for a row, as far as the next row's
local_above : (table : ℕ → ℕ → ℤ) (h : ℕ) (named : ℕ → ℕ) → Crosses table h → ((i : ℕ) → IsLocalGreatest table h named i) → (n i k : ℕ) → k ≤ i + 1 + n → named (i + 1) < k → k < i + 1 + h
    → table (i + 1) k ≤ℤ table (i + 1) (named (i + 1))
local_above table h named crosses local zero i k few above below = absurd (omega (arith, (local i).above, few, above))
local_above table h named crosses local (suc n) i k few above below = elim (before_or_after (named (i + 2)) k) [
  | inl past ↦
      let next : named (i + 1 + 1) ≡ named (i + 2) = λ t. named (same i t) in
      let later = subst (λ c. table (i + 1 + 1) k ≤ℤ table (i + 1 + 1) c) next
      (local_above table h named crosses local n (i + 1) k (omega (arith, few)) (subst (λ c. c < k) (sym next) past) (omega (arith, below))) in
      le_trans_ℤ (not_more later past) (named_more past)
  | inr near ↦ (local i).after k above near below
]
  where
    same : (i : ℕ) → i + 1 + 1 ≡ i + 2
    same i = omega arith

    beyond : i + 1 + 1 < named (i + 2)
    beyond = subst (λ c. i + 1 + 1 < named c) (same i) (local (i + 1)).above

    not_more : table (i + 1 + 1) k ≤ℤ table (i + 1 + 1) (named (i + 2)) → named (i + 2) < k → table (i + 1) k ≤ℤ table (i + 1) (named (i + 2))
    not_more later past = by_lt_z (table (i + 1) (named (i + 2))) (table (i + 1) k)
        (λ farther. absurd (clash_ℤ (crosses (i + 1) (i + 1 + 1) (named (i + 2)) k (omega arith) beyond past below (le_from_lt farther)) later))
        (λ l. l)

    named_more : named (i + 2) < k → table (i + 1) (named (i + 2)) ≤ℤ table (i + 1) (named (i + 1))
    named_more past = elim (less_or_same (named (i + 1)) (named (i + 2)) (subst (λ c. named (i + 1) ≤ named c) (same i) (local (i + 1)).rises)) [
      | inl more ↦ (local i).after (named (i + 2)) more (omega arith) (omega (arith, past, below))
      | inr equal ↦ same_ℤ (λ t. table (i + 1) (sym equal t))
    ]

-- and below it, as far as that of the row before
local_below : (table : ℕ → ℕ → ℤ) (h : ℕ) (named : ℕ → ℕ) → Crosses table h → ((i : ℕ) → IsLocalGreatest table h named i) → (i k : ℕ) → h < k → i < k → k < named i → table i k <ℤ table i (named i)
local_below table h named crosses local zero k far after below = absurd (omega (arith, far, below, (local 0).rises, (local 0).within))
local_below table h named crosses local (suc i) k far after below =
    subst (λ r. table r k <ℤ table r (named r)) (one_up i) (row (local_below table h named crosses local i k far) (subst (λ r. r < k) (sym (one_up i)) after)
    (subst (λ r. k < named r) (sym (one_up i)) below))
  where
    one_up : (i : ℕ) → i + 1 ≡ suc i
    one_up i = omega arith

    near : (i : ℕ) → k < named i → named i < i + h
    near zero under = absurd (omega (arith, far, under, (local 0).rises, (local 0).within))
    near (suc j) under = subst (λ r. named r < r + h) (one_up j) (local j).within

    row : (i < k → k < named i → table i k <ℤ table i (named i)) → i + 1 < k → k < named (i + 1) → table (i + 1) k <ℤ table (i + 1) (named (i + 1))
    row earlier after below = elim (before_or_after k (named i)) [
      | inl under ↦
          let farther = crosses i (i + 1) k (named i) (omega arith) after under (near i under) (le_from_lt (earlier (omega (arith, after)) under)) in
          elim (less_or_same (named i) (named (i + 1)) (local i).rises) [
            | inl more ↦ lt_trans farther ((local i).before (named i) (omega (arith, after, under)) (omega arith) more)
            | inr equal ↦ subst (λ c. table (i + 1) k <ℤ table (i + 1) c) equal farther
          ]
      | inr inside ↦ (local i).before k after inside below
    ]

-- so the columns that are named for the rows past the first round are their first greatest ones
pub rows_of_local : (table : ℕ → ℕ → ℤ) (h : ℕ) (named : ℕ → ℕ) → Crosses table h → ((i : ℕ) → IsLocalGreatest table h named i) → (i : ℕ) → h ≤ i → IsRowGreatest table h (i + 1) (named (i + 1))
rows_of_local table h named crosses local i far = record {
  from_first = omega (arith, (local i).above);
  to_last = (local i).within;
  before = λ k from less. local_below table h named crosses local (i + 1) k (omega (arith, far, from)) (omega (arith, from)) less;
  after = λ k more below. local_above table h named crosses local k i k (omega arith) more below;
}
