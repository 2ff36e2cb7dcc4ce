-- One column more in the scan of a row.
use Rattle.std.proofs.Common.{◌≡◌, subst, sym, inl, inr, ℕ, ◌+◌, ℤ, ◌≤ℤ◌, ◌<ℤ◌, arith, List}
use Rattle.std.proofs.lemmas.Int.{ints}
use Rattle.integers.specs.Size.{Size}
use Rattle.integers.proofs.Lists.{below_or_at}
use Rattle.bounds_model.specs.Plane.{PlanePoint, squared_distance}
use Rattle.bounds_model.specs.Hull.{around}
use Rattle.furthest_laws.specs.Rows.{IsFirstGreatest, distances}
use Rattle.furthest_laws.proofs.RowLaws.{greatest_of}

-- a column alone
first_alone : (f : ℕ → ℤ) (from : ℕ) → IsFirstGreatest f from (from + 1) from
first_alone f from = record {
  from_first = omega arith;
  to_last = omega arith;
  before = λ k low high. absurd (omega (arith, low, high));
  after = λ k low high. absurd (omega (arith, low, high));
}

-- a greater one
first_rises : (f : ℕ → ℤ) (from to x : ℕ) → IsFirstGreatest f from to x → f x <ℤ f to → IsFirstGreatest f from (to + 1) to
first_rises f from to x h more = record {
  from_first = omega (arith, h.from_first, h.to_last);
  to_last = omega arith;
  before = λ k low less. trans (greatest_of k h low less) more;
  after = λ k low high. absurd (omega (arith, low, high));
}
  where
    trans : {a b c : ℤ} → a ≤ℤ b → b <ℤ c → a <ℤ c
    trans h k = omega (arith, ints)

-- one that is not greater
first_stays : (f : ℕ → ℤ) (from to x : ℕ) → IsFirstGreatest f from to x → f to ≤ℤ f x → IsFirstGreatest f from (to + 1) x
first_stays f from to x h most = record {
  from_first = h.from_first;
  to_last = omega (arith, h.to_last);
  before = h.before;
  after = λ k low high. elim (below_or_at k to high) [ inl less ↦ h.after k low less | inr same ↦ subst (λ c. f c ≤ℤ f x) (sym same) most ];
}

-- the columns before one are seen: the first of those with the greatest distance, this distance, and the steps
pub record HasSeen (corners : List PlanePoint) (row from column first : ℕ) (most : ℤ) (before steps : ℕ) : Type 0 where
  pub found : IsFirstGreatest (distances corners row) from column first
  pub value : most ≡ distances corners row first
  pub small : Size 320000000000 most
  pub counted : steps + from ≡ before + column + 1

pub seen_first : (corners : List PlanePoint) (row from : ℕ) (here there : PlanePoint) (most : ℤ) (old middle new : ℕ) → here ≡ around corners row → there ≡ around corners from
    → most ≡ squared_distance here there → Size 320000000000 most → middle ≡ old + 1 → new ≡ middle + 1
    → HasSeen corners row from (from + 1) from most old new
seen_first corners row from here there most old middle new e f is small one two = record {
  found = first_alone (distances corners row) from;
  value = subst (λ p. most ≡ squared_distance p (around corners from)) e (subst (λ p. most ≡ squared_distance here p) f is);
  small = small;
  counted = omega (arith, one, two);
}

pub seen_rises : (corners : List PlanePoint) (row from column first : ℕ) (here there : PlanePoint) (most distance : ℤ) (old steps new : ℕ)
    → HasSeen corners row from column first most old steps → here ≡ around corners row → there ≡ around corners column → distance ≡ squared_distance here there
    → Size 320000000000 distance → most <ℤ distance → new ≡ steps + 1 → HasSeen corners row from (column + 1) column distance old new
seen_rises corners row from column first here there most distance old steps new h e f is small more one =
    let value : distance ≡ distances corners row column = subst (λ p. distance ≡ squared_distance p (around corners column)) e (subst (λ p. distance ≡ squared_distance here p) f is) in
    record {
      found = first_rises (distances corners row) from column first h.found (less value h.value more);
      value = value;
      small = small;
      counted = omega (arith, h.counted, one);
    }
  where
    less : {a b c d : ℤ} → a ≡ b → c ≡ d → c <ℤ a → d <ℤ b
    less e f h = omega (arith, ints)

pub seen_stays : (corners : List PlanePoint) (row from column first : ℕ) (here there : PlanePoint) (most distance : ℤ) (old steps new : ℕ)
    → HasSeen corners row from column first most old steps → here ≡ around corners row → there ≡ around corners column → distance ≡ squared_distance here there
    → distance ≤ℤ most → new ≡ steps + 1 → HasSeen corners row from (column + 1) first most old new
seen_stays corners row from column first here there most distance old steps new h e f is less one =
    let value : distance ≡ distances corners row column = subst (λ p. distance ≡ squared_distance p (around corners column)) e (subst (λ p. distance ≡ squared_distance here p) f is) in
    record {
      found = first_stays (distances corners row) from column first h.found (most_of value h.value less);
      value = h.value;
      small = h.small;
      counted = omega (arith, h.counted, one);
    }
  where
    most_of : {a b c d : ℤ} → a ≡ b → c ≡ d → a ≤ℤ c → b ≤ℤ d
    most_of e f h = omega (arith, ints)
