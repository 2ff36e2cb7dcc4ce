-- Rows whose numbers are multiples of a stride, and those between them.
use Rattle.std.proofs.Common.{◌≡◌, ◌≢◌, subst, sym, ap, ◌∙◌, ◌⊎◌, inl, inr, ℕ, zero, suc, ◌+◌, ◌*◌, ◌^◌, ◌<◌, ◌≤◌, min, max, arith, List, length, set}
use Rattle.std.proofs.Math.Nat.{pow-suc, mul-lt-mul_of_pos_right, mul-le-mul_right, lt_of_mul-lt-mul_right}
use Rattle.std.proofs.lemmas.Bool.{cases_order}
use Rattle.std.proofs.lemmas.List.{get_or-set_same, get_or-set_other, length-set}
use Rattle.integers.proofs.Lists.{before_or_after}
use Rattle.bounds_model.specs.Plane.{PlanePoint}
use Rattle.furthest_laws.specs.Rows.{IsFirstGreatest, IsRowGreatest, Crosses, distances}
use Rattle.furthest_laws.proofs.RowLaws.{between, rises}
use Rattle.furthest.specs.Columns.{HasColumns, column_at}

-- the next power of two is twice as much
pub twice_power : (m : ℕ) → 2 ^ (m + 1) ≡ 2 ^ m * 2
twice_power m = ap (λ n. 2 ^ n) (let e : m + 1 ≡ suc m = omega arith in e) ∙ pow-suc 2 m

-- ---- multiples

-- a multiple below the next but one is below an odd one, or it, or the even one after it
next_multiples : (t u s : ℕ) → 1 ≤ s → t * s < u * (2 * s) + s + 2 * s → (t * s < u * (2 * s) + s) ⊎ ((t * s ≡ u * (2 * s) + s) ⊎ (t * s ≡ (u + 1) * (2 * s)))
next_multiples t u s some below = elim (cases_order t (2 * u + 1)) [
  | inl same ↦ inr (inl (ap (λ n. n * s) same ∙ odd u s))
  | inr rest ↦ elim rest [
    | inl less ↦ inl (subst (λ n. t * s < n) (odd u s) (mul-lt-mul_of_pos_right less some))
    | inr more ↦
        let high : t < 2 * u + 3 = lt_of_mul-lt-mul_right s (subst (λ n. t * s < n) (after u s) below) in
        let e : t ≡ 2 * u + 2 = omega (arith, more, high) in
        inr (inr (ap (λ n. n * s) e ∙ even u s))
  ]
]
  where
    odd : (u s : ℕ) → (2 * u + 1) * s ≡ u * (2 * s) + s
    odd u s = omega arith

    after : (u s : ℕ) → u * (2 * s) + s + 2 * s ≡ (2 * u + 3) * s
    after u s = omega arith

    even : (u s : ℕ) → (2 * u + 2) * s ≡ (u + 1) * (2 * s)
    even u s = omega arith

-- no even multiple is an odd one
even-not_odd : (t u s : ℕ) → 1 ≤ s → t * (2 * s) ≢ u * (2 * s) + s
even-not_odd t u s some same = elim (before_or_after u t) [
  | inl more ↦ clash_above (t * (2 * s)) (u * (2 * s)) s some same (subst (λ n. n ≤ t * (2 * s)) (one_more u s) (mul-le-mul_right (2 * s) (let l : u + 1 ≤ t = omega (arith, more) in l)))
  | inr not_more ↦ clash_below (t * (2 * s)) (u * (2 * s)) s some same (mul-le-mul_right (2 * s) not_more)
]
  where
    one_more : (u s : ℕ) → (u + 1) * (2 * s) ≡ u * (2 * s) + 2 * s
    one_more u s = omega arith

    clash_above : (a b s : ℕ) → 1 ≤ s → a ≡ b + s → b + 2 * s ≤ a → ⊥
    clash_above a b s some e l = omega (arith, some, e, l)

    clash_below : (a b s : ℕ) → 1 ≤ s → a ≡ b + s → a ≤ b → ⊥
    clash_below a b s some e l = omega (arith, some, e, l)

-- ---- rows

-- the column of this row is its first greatest
abbrev pub IsRight : List PlanePoint → List ℕ → ℕ → Type 0
IsRight corners columns i = IsRowGreatest (distances corners) (length corners) i (column_at columns i)

-- up to a round away, columns do not fall
in_order : (corners : List PlanePoint) (i j x y : ℕ) → Crosses (distances corners) (length corners) → i < j → j ≤ i + length corners → IsRowGreatest (distances corners) (length corners) i x
    → IsRowGreatest (distances corners) (length corners) j y → x ≤ y
in_order corners i j x y crosses after near p q = elim (before_or_after j (i + length corners)) [
  | inl inside ↦ rises (distances corners) (length corners) i j x y crosses after inside p q
  | inr past ↦ omega (arith, past, p.to_last, q.from_first)
]

-- all rows before one are right that are multiples of the stride, and so are those that are multiples of twice the stride
pub record IsFilled (corners : List PlanePoint) (stride : ℕ) (columns : List ℕ) (row : ℕ) : Type 0 where
  pub as_many : length columns ≡ length corners + 1
  pub last : IsRight corners columns (length corners)
  pub even : (t : ℕ) → t * (2 * stride) < length corners → IsRight corners columns (t * (2 * stride))
  pub all : (t : ℕ) → t * stride < row → t * stride < length corners → IsRight corners columns (t * stride)

-- the row is an odd multiple of the stride, with the column of the row before it
pub record IsAtRow (corners : List PlanePoint) (stride row low : ℕ) : Type 0 where
  pub multiple : (u : ℕ) × (row ≡ u * (2 * stride) + stride)
  pub bound : row < length corners + 2 * stride
  pub small : low < 2 * length corners
  pub right : (p : ℕ) → p + stride ≡ row → row < length corners → IsRowGreatest (distances corners) (length corners) p low

-- so it is while the rows between are filled
pub record IsFilling (corners : List PlanePoint) (stride : ℕ) (columns : List ℕ) (row low before steps : ℕ) : Type 0 where
  pub filled : IsFilled corners stride columns row
  pub at : IsAtRow corners stride row low
  pub counted : steps ≤ before + low + row

-- the row after this one that is right
pub next_right : (corners : List PlanePoint) (stride : ℕ) (columns : List ℕ) (row next : ℕ) → IsFilled corners stride columns row → (u : ℕ) → row ≡ u * (2 * stride) + stride
    → next ≡ min (row + stride) (length corners) → IsRight corners columns next
next_right corners stride columns row next f u is next_is = elim (before_or_after (row + stride) (length corners)) [
  | inl inside ↦
      let e : (u + 1) * (2 * stride) ≡ next = even u stride row next (length corners) is next_is inside in
      subst (IsRight corners columns) e (f.even (u + 1) (subst (λ n. n < length corners) (sym e) (omega (arith, next_is, inside))))
  | inr over ↦ subst (IsRight corners columns) (let e : length corners ≡ next = omega (arith, next_is, over) in e) f.last
]
  where
    even : (u s row next h : ℕ) → row ≡ u * (2 * s) + s → next ≡ min (row + s) h → row + s < h → (u + 1) * (2 * s) ≡ next
    even u s row next h e n l = product u s ∙ (let f : u * (2 * s) + 2 * s ≡ next = omega (arith, e, n, l) in f)
      where
        product : (u s : ℕ) → (u + 1) * (2 * s) ≡ u * (2 * s) + 2 * s
        product u s = omega arith

-- the rows to both sides of one
pub record IsBetween (corners : List PlanePoint) (row p next low high : ℕ) : Type 0 where
  pub before : IsRowGreatest (distances corners) (length corners) p low
  pub after : IsRowGreatest (distances corners) (length corners) next high
  pub less : p < row
  pub more : row < next
  pub order : low ≤ high
  pub low_within : low < row + length corners
  pub high_after : row + 1 < high
  pub high_small : high < 2 * length corners

pub sides : (corners : List PlanePoint) (stride : ℕ) (columns : List ℕ) (row p low next high : ℕ) → Crosses (distances corners) (length corners) → 1 ≤ stride → row < length corners
    → p + stride ≡ row → IsRowGreatest (distances corners) (length corners) p low → next ≡ min (row + stride) (length corners) → IsRowGreatest (distances corners) (length corners) next high
    → IsBetween corners row p next low high
sides corners stride columns row p low next high crosses some below back earlier next_is later = record {
  before = earlier;
  after = later;
  less = omega (arith, back, some);
  more = omega (arith, next_is, some, below);
  order = in_order corners p next low high crosses (omega (arith, back, some, next_is, below)) (omega (arith, next_is)) earlier later;
  low_within = omega (arith, earlier.to_last, back);
  high_after = after (row) next high (omega (arith, next_is, some, below)) later.from_first;
  high_small = small next high (length corners) (omega (arith, next_is)) later.to_last;
}
  where
    after : (row next high : ℕ) → row < next → next + 1 ≤ high → row + 1 < high
    after row next high h k = omega (arith, h, k)

    small : (next high h : ℕ) → next ≤ h → high < next + h → high < 2 * h
    small next high h l k = omega (arith, l, k)

-- with the first greatest column of the row
pub row_right : (corners : List PlanePoint) (row p next low high z : ℕ) → Crosses (distances corners) (length corners) → IsBetween corners row p next low high
    → IsFirstGreatest (distances corners row) (max (row + 1) low) (min (row + length corners) (high + 1)) z → IsRowGreatest (distances corners) (length corners) row z
row_right corners row p next low high z crosses b found = between (distances corners) (length corners) p row next low high _ _ z crosses b.less b.more b.order b.before b.after
    (λ i. max (row + 1) low) (λ i. min (row + length corners) (high + 1)) found

-- the columns with this one
fill_row : (corners : List PlanePoint) (stride : ℕ) (columns new : List ℕ) (row z : ℕ) → 1 ≤ stride → row < length corners → (u : ℕ) → row ≡ u * (2 * stride) + stride
    → IsFilled corners stride columns row → new ≡ set columns row z → IsRowGreatest (distances corners) (length corners) row z
    → IsFilled corners stride new (row + 2 * stride)
fill_row corners stride columns new row z some below u is f set_is right = record {
  as_many = ap length set_is ∙ length-set columns row z ∙ f.as_many;
  last = other (length corners) (λ e. none row (length corners) below e) f.last;
  even = λ t low. other (t * (2 * stride)) (λ e. even-not_odd t u stride some (e ∙ is)) (f.even t low);
  all = λ t under low. at t low (next_multiples t u stride some (subst (λ n. t * stride < n + 2 * stride) is under));
}
  where
    none : (row h : ℕ) → row < h → h ≡ row → ⊥
    none row h l e = omega (arith, l, e)

    other : (k : ℕ) → k ≢ row → IsRight corners columns k → IsRight corners new k
    other k apart h = subst (IsRowGreatest (distances corners) (length corners) k) (sym (ap (λ xs. column_at xs k) set_is ∙ get_or-set_other columns row k z 0 apart)) h

    here : IsRight corners new row
    here = subst (IsRowGreatest (distances corners) (length corners) row) (sym (ap (λ xs. column_at xs row) set_is ∙ get_or-set_same columns row z 0 (omega (arith, f.as_many, below)))) right

    at : (t : ℕ) → t * stride < length corners → (t * stride < u * (2 * stride) + stride) ⊎ ((t * stride ≡ u * (2 * stride) + stride) ⊎ (t * stride ≡ (u + 1) * (2 * stride)))
        → IsRight corners new (t * stride)
    at t low h = elim h [
      | inl less ↦ other (t * stride) (λ e. clash (t * stride) (u * (2 * stride) + stride) less (e ∙ is)) (f.all t (subst (λ n. t * stride < n) (sym is) less) low)
      | inr rest ↦ elim rest [
        | inl same ↦ subst (IsRight corners new) (is ∙ sym same) here
        | inr even ↦ subst (IsRight corners new) (sym even) (other ((u + 1) * (2 * stride)) (λ e. even-not_odd (u + 1) u stride some (e ∙ is))
            (f.even (u + 1) (subst (λ n. n < length corners) even low)))
      ]
    ]
      where
        clash : (a b : ℕ) → a < b → a ≡ b → ⊥
        clash a b l e = omega (arith, l, e)

-- ---- the loop

pub fill_start : (corners : List PlanePoint) (stride low old : ℕ) (columns : List ℕ) → 1 ≤ stride → stride < length corners → HasColumns corners (2 * stride) columns
    → low ≡ column_at columns 0 → IsFilling corners stride columns stride low old old
fill_start corners stride low old columns some below h is = record {
  filled = record {
    as_many = h.as_many;
    last = h.last;
    even = h.each;
    all = λ t under l. subst (IsRight corners columns) (sym (none t stride under)) first;
  };
  at = record {
    multiple = (0, let e : stride ≡ 0 * (2 * stride) + stride = omega arith in e);
    bound = omega (arith, below);
    small = omega (arith, is, first.to_last);
    right = λ p back l. let e : 0 ≡ p = omega (arith, back) in subst (λ r. IsRowGreatest (distances corners) (length corners) r low) e
        (subst (IsRowGreatest (distances corners) (length corners) 0) (sym is) first);
  };
  counted = omega arith;
}
  where
    first : IsRight corners columns 0
    first = subst (IsRight corners columns) (let e : 0 * (2 * stride) ≡ 0 = omega arith in e) (h.each 0 (omega (arith, below)))

    none : (t s : ℕ) → t * s < s → t * s ≡ 0
    none zero s l = omega arith
    none (suc t) s l = absurd (let e : suc t * s ≡ t * s + s = omega arith in omega (arith, e, l))

pub fill_more : (corners : List PlanePoint) (stride row p low next high z old steps later : ℕ) (columns new : List ℕ) → Crosses (distances corners) (length corners) → 1 ≤ stride
    → row < length corners → IsFilling corners stride columns row low old steps → p + stride ≡ row
    → next ≡ min (row + stride) (length corners) → high ≡ column_at columns next → IsFirstGreatest (distances corners row) (max (row + 1) low) (min (row + length corners) (high + 1)) z
    → new ≡ set columns row z → later + low ≤ steps + high + 2 → IsFilling corners stride new (row + 2 * stride) high old later
fill_more corners stride row p low next high z old steps later columns new crosses some below f back next_is high_is found set_is cost = record {
  filled = fill_row corners stride columns new row z some below u is f.filled set_is (row_right corners row p next low high z crosses between_rows found);
  at = record {
    multiple = (u + 1, on u stride row is);
    bound = omega (arith, below);
    small = between_rows.high_small;
    right = λ q q_back inside. subst (λ r. IsRowGreatest (distances corners) (length corners) r high) (same q q_back inside) ahead;
  };
  counted = omega (arith, f.counted, cost, some);
}
  where
    u : ℕ
    u = f.at.multiple.0

    is : row ≡ u * (2 * stride) + stride
    is = f.at.multiple.1

    ahead : IsRowGreatest (distances corners) (length corners) next high
    ahead = subst (IsRowGreatest (distances corners) (length corners) next) (sym high_is) (next_right corners stride columns row next f.filled u is next_is)

    between_rows : IsBetween corners row p next low high
    between_rows = sides corners stride columns row p low next high crosses some below back (f.at.right p back below) next_is ahead

    on : (u s row : ℕ) → row ≡ u * (2 * s) + s → row + 2 * s ≡ (u + 1) * (2 * s) + s
    on u s row e = omega (arith, e)

    same : (q : ℕ) → q + stride ≡ row + 2 * stride → row + 2 * stride < length corners → next ≡ q
    same q e l = omega (arith, next_is, e, l)

-- what the call for a row asks
pub fill_asks : (corners : List PlanePoint) (stride row low old steps next high : ℕ) (columns : List ℕ) → Crosses (distances corners) (length corners) → 1 ≤ stride → row < length corners
    → IsFilling corners stride columns row low old steps → next ≡ min (row + stride) (length corners) → high ≡ column_at columns next
    → (p : ℕ) × (p + stride ≡ row) × IsBetween corners row p next low high
fill_asks corners stride row low old steps next high columns crosses some below f next_is high_is =
    (u * (2 * stride), sym is, sides corners stride columns row (u * (2 * stride)) low next high crosses some below (sym is) (f.at.right (u * (2 * stride)) (sym is) below) next_is ahead)
  where
    u : ℕ
    u = f.at.multiple.0

    is : row ≡ u * (2 * stride) + stride
    is = f.at.multiple.1

    ahead : IsRowGreatest (distances corners) (length corners) next high
    ahead = subst (IsRowGreatest (distances corners) (length corners) next) (sym high_is) (next_right corners stride columns row next f.filled u is next_is)

pub fill_end : (corners : List PlanePoint) (stride row low old steps : ℕ) (columns : List ℕ) → length corners ≤ row → IsFilling corners stride columns row low old steps
    → HasColumns corners stride columns
fill_end corners stride row low old steps columns over f = record {
  as_many = f.filled.as_many;
  last = f.filled.last;
  each = λ t l. f.filled.all t (omega (arith, over, l)) l;
}

pub fill_cost : (corners : List PlanePoint) (stride row low old steps : ℕ) (columns : List ℕ) → stride < length corners → IsFilling corners stride columns row low old steps
    → steps ≤ old + 5 * length corners
fill_cost corners stride row low old steps columns below f = omega (arith, f.counted, f.at.bound, f.at.small, below)
