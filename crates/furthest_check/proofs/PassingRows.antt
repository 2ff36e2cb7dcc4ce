-- Named corners that pass, each compared with few others, are the first furthest ones.
use Rattle.std.proofs.Common.{◌≡◌, sym, ap, ap₂, subst, ◌∙◌, ◌↔◌, ℕ, ◌+◌, ◌-◌, ◌<◌, ◌≤◌, ◌%◌, max, min, ℤ, ◌≤ℤ◌, ◌<ℤ◌, List, length, false, arith}
use Rattle.std.specs.Prelude.{All}
use Rattle.std.proofs.Math.Nat.{mod-lt, mod-mod, mod-add-mod, add-mod_right, mod-eq_of_lt}
use Rattle.std.proofs.lemmas.List.Elements.{All-get_or}
use Rattle.std.specs.Int.Signed.{le_z}
use Rattle.std.proofs.lemmas.Int.{by_lt_z}
use lib.Dec.{T}
use Rattle.bounds_model.specs.Numbers.{EachBelow}
use Rattle.bounds_model.specs.Plane.{PlanePoint, squared_distance}
use Rattle.bounds_model.specs.Hull.{AreCorners}
use Rattle.bounds_model.specs.Furthest.{positions_after, IsFurthest}
use Rattle.bounds_model.specs.FurthestAnswer.{Entry, far_at}
use Rattle.furthest_laws.specs.Rows.{IsRowGreatest, IsLocalGreatest, Crosses, distances}
use Rattle.furthest_laws.proofs.RowLaws.{rises, rows_of_local}
use Rattle.furthest_laws.proofs.Rounds.{around_first, around_later, after_below}
use Rattle.furthest_laws.proofs.HullRows.{corners_cross}
use Rattle.furthest_laws.proofs.Named.{row_of_furthest, furthest_of_row, only_furthest}
use Rattle.furthest_check.specs.RowTests.{gap, IsRowTest, RowPasses}

-- ---- rows that are the same

-- a later number is so many on
later : (i k : ℕ) → i ≤ k → (n : ℕ) × (k ≡ i + n)
later i k h = (k - i, omega (arith, h))

-- a row that has the same distances as another one, so many positions on
row_moved : (table : ℕ → ℕ → ℤ) (h i r g : ℕ) → ((s : ℕ) → table i (i + s) ≡ table r (r + s)) → IsRowGreatest table h r (r + g) → IsRowGreatest table h i (i + g)
row_moved table h i r g same row = record {
  from_first = omega (arith, row.from_first);
  to_last = omega (arith, row.to_last);
  before = λ k low less.
      let n = later i k (omega (arith, low)) in
      subst (λ c. table i c <ℤ table i (i + g)) (sym n.1) (subst (λ z. table i (i + n.0) <ℤ z) (sym (same g))
      (subst (λ z. z <ℤ table r (r + g)) (sym (same n.0)) (row.before (r + n.0) (omega (arith, low, n.1)) (omega (arith, less, n.1)))));
  after = λ k more high.
      let n = later i k (omega (arith, more)) in
      subst (λ c. table i c ≤ℤ table i (i + g)) (sym n.1) (subst (λ z. table i (i + n.0) ≤ℤ z) (sym (same g))
      (subst (λ z. z ≤ℤ table r (r + g)) (sym (same n.0)) (row.after (r + n.0) (omega (arith, more, n.1)) (omega (arith, high, n.1)))));
}

-- a row is the same as the one of its corner
same_row : (corners : List PlanePoint) (i s : ℕ) → distances corners i (i + s) ≡ distances corners (i % length corners) (i % length corners + s)
same_row corners i s = ap₂ squared_distance (sym (around_first corners i)) (sym (around_later corners i s))

-- ---- positions that are named, counted on around

-- the position is less than a round on, and the same after a round
record IsGap (h : ℕ) (g : ℕ → ℕ) : Type 0 where
  below : (i : ℕ) → g i < h
  again : (i j : ℕ) → i % h ≡ j % h → g i ≡ g j

-- the test of a row, as one of the rows past the first round
local_of_test : (corners : List PlanePoint) (g : ℕ → ℕ) → 0 < length corners → IsGap (length corners) g
    → EachBelow (length corners) (λ r. IsRowTest (distances corners) (length corners) (g (r + (length corners - 1))) (g r) (g (r + 1)) r) → (i : ℕ)
    → IsLocalGreatest (distances corners) (length corners) (λ k. k + g k) i
local_of_test corners g some is tests i = record {
  above = omega (arith, here, test.some);
  within = omega (arith, is.below (i + 1));
  rises = omega (arith, here, before, test.rises);
  before = λ k low from less.
      let n = later (i + 1) k (omega (arith, low)) in
      subst (λ c. distances corners (i + 1) c <ℤ distances corners (i + 1) (i + 1 + g (i + 1))) (sym n.1)
      (seen n.0 (test.nearer n.0 (omega (arith, low, n.1)) (omega (arith, from, n.1, before)) (omega (arith, less, n.1, here))));
  after = λ k more near high.
      let n = later (i + 1) k (omega (arith, more)) in
      subst (λ c. distances corners (i + 1) c ≤ℤ distances corners (i + 1) (i + 1 + g (i + 1))) (sym n.1)
      (seen_too n.0 (test.no_farther n.0 (omega (arith, more, n.1, here)) (omega (arith, near, n.1, after)) (omega (arith, high, n.1))));
}
  where
    h : ℕ
    h = length corners

    r : ℕ
    r = (i + 1) % length corners

    test : IsRowTest (distances corners) (length corners) (g ((i + 1) % length corners + (length corners - 1))) (g ((i + 1) % length corners)) (g ((i + 1) % length corners + 1))
        ((i + 1) % length corners)
    test = tests ((i + 1) % length corners) (mod-lt (i + 1) some)

    here : g ((i + 1) % length corners) ≡ g (i + 1)
    here = is.again ((i + 1) % length corners) (i + 1) (mod-mod (i + 1) (length corners))

    before : g ((i + 1) % length corners + (length corners - 1)) ≡ g i
    before = is.again ((i + 1) % length corners + (length corners - 1)) i (mod-add-mod (i + 1) (length corners) (length corners - 1)
        ∙ ap (λ n. n % length corners) (let e : i + 1 + (length corners - 1) ≡ i + length corners = omega (arith, some) in e) ∙ add-mod_right i (length corners))

    after : g ((i + 1) % length corners + 1) ≡ g (i + 2)
    after = is.again ((i + 1) % length corners + 1) (i + 2) (mod-add-mod (i + 1) (length corners) 1 ∙ ap (λ n. n % length corners) (let e : i + 1 + 1 ≡ i + 2 = omega arith in e))

    seen : (s : ℕ) → distances corners ((i + 1) % length corners) ((i + 1) % length corners + s) <ℤ distances corners ((i + 1) % length corners)
        ((i + 1) % length corners + g ((i + 1) % length corners)) → distances corners (i + 1) (i + 1 + s) <ℤ distances corners (i + 1) (i + 1 + g (i + 1))
    seen s l =
        subst (λ z. z <ℤ distances corners (i + 1) (i + 1 + g (i + 1))) (sym (same_row corners (i + 1) s))
        (subst (λ z. distances corners ((i + 1) % length corners) ((i + 1) % length corners + s) <ℤ z) (sym (same_row corners (i + 1) (g (i + 1))))
        (subst (λ n. distances corners ((i + 1) % length corners) ((i + 1) % length corners + s) <ℤ distances corners ((i + 1) % length corners) ((i + 1) % length corners + n)) here l))

    seen_too : (s : ℕ) → distances corners ((i + 1) % length corners) ((i + 1) % length corners + s) ≤ℤ distances corners ((i + 1) % length corners)
        ((i + 1) % length corners + g ((i + 1) % length corners)) → distances corners (i + 1) (i + 1 + s) ≤ℤ distances corners (i + 1) (i + 1 + g (i + 1))
    seen_too s l =
        subst (λ z. z ≤ℤ distances corners (i + 1) (i + 1 + g (i + 1))) (sym (same_row corners (i + 1) s))
        (subst (λ z. distances corners ((i + 1) % length corners) ((i + 1) % length corners + s) ≤ℤ z) (sym (same_row corners (i + 1) (g (i + 1))))
        (subst (λ n. distances corners ((i + 1) % length corners) ((i + 1) % length corners + s) ≤ℤ distances corners ((i + 1) % length corners) ((i + 1) % length corners + n)) here l))

-- rows that pass name the first greatest columns
rows_of_tests : (corners : List PlanePoint) (g : ℕ → ℕ) → 0 < length corners → Crosses (distances corners) (length corners) → IsGap (length corners) g
    → EachBelow (length corners) (λ r. IsRowTest (distances corners) (length corners) (g (r + (length corners - 1))) (g r) (g (r + 1)) r) → (i : ℕ) → i < length corners
    → IsRowGreatest (distances corners) (length corners) i (i + g i)
rows_of_tests corners g some crosses is tests i low =
    let far = i + length corners + (length corners - 1) in
    let same : (far + 1) % length corners ≡ i % length corners
    = ap (λ n. n % length corners) (let e : far + 1 ≡ i + length corners + length corners = omega (arith, some) in e) ∙ add-mod_right (i + length corners) (length corners)
    ∙ add-mod_right i (length corners) in
    let row = rows_of_local (distances corners) (length corners) (λ k. k + g k) crosses (local_of_test corners g some is tests) far (omega arith) in
    row_moved (distances corners) (length corners) i (far + 1) (g i) (λ s. same_row corners i s ∙ ap (λ n. distances corners n (n + s)) (sym same) ∙ sym (same_row corners (far + 1) s))
    (subst (λ n. IsRowGreatest (distances corners) (length corners) (far + 1) (far + 1 + n)) (is.again (far + 1) i same) row)

-- and first greatest columns pass
tests_of_rows : (corners : List PlanePoint) (g : ℕ → ℕ) → 2 ≤ length corners → Crosses (distances corners) (length corners) → IsGap (length corners) g
    → ((i : ℕ) → i < length corners → IsRowGreatest (distances corners) (length corners) i (i + g i))
    → EachBelow (length corners) (λ r. IsRowTest (distances corners) (length corners) (g (r + (length corners - 1))) (g r) (g (r + 1)) r)
tests_of_rows corners g two crosses is rows r low = record {
  some = omega (arith, (rows r low).from_first);
  rises = omega (arith, climbs, wrapped);
  nearer = λ s some near less. (rows r low).before (r + s) (omega (arith, some)) (omega (arith, less));
  no_farther = λ s more near less. (rows r low).after (r + s) (omega (arith, more)) (omega (arith, less));
}
  where
    any : (i : ℕ) → IsRowGreatest (distances corners) (length corners) i (i + g i)
    any i = row_moved (distances corners) (length corners) i (i % length corners) (g i) (same_row corners i)
        (subst (λ n. IsRowGreatest (distances corners) (length corners) (i % length corners) (i % length corners + n)) (is.again (i % length corners) i (mod-mod i (length corners)))
        (rows (i % length corners) (mod-lt i (omega (arith, two)))))

    before : ℕ
    before = r + (length corners - 1)

    climbs : r + (length corners - 1) + g (r + (length corners - 1)) ≤ r + (length corners - 1) + 1 + g (r + (length corners - 1) + 1)
    climbs = rises (distances corners) (length corners) (r + (length corners - 1)) (r + (length corners - 1) + 1) (r + (length corners - 1) + g (r + (length corners - 1)))
        (r + (length corners - 1) + 1 + g (r + (length corners - 1) + 1)) crosses (omega arith) (omega (arith, two))
        (any (r + (length corners - 1))) (any (r + (length corners - 1) + 1))

    wrapped : g (r + (length corners - 1) + 1) ≡ g r
    wrapped = is.again (r + (length corners - 1) + 1) r (ap (λ n. n % length corners) (let e : r + (length corners - 1) + 1 ≡ r + length corners = omega (arith, two) in e)
        ∙ add-mod_right r (length corners))

-- ---- entries

entry_gap : (entries : List Entry) → 0 < length entries → IsGap (length entries) (gap entries)
entry_gap entries some = record {
  below = λ i. after_below (length entries) (i % length entries) (far_at entries (i % length entries)) some;
  again = λ i j same. ap (λ n. positions_after (length entries) n (far_at entries n)) same;
}

-- the gap of a corner
gap_is : (entries : List Entry) (i : ℕ) → i < length entries → gap entries i ≡ positions_after (length entries) i (far_at entries i)
gap_is entries i low = ap (λ n. positions_after (length entries) n (far_at entries n)) (mod-eq_of_lt {m = length entries} low)

abbrev none : Entry
none = record { corner = 0; far = 0 }

-- two corners or more pass exactly where each names its first furthest one
pub pass_exactly : (points corners : List PlanePoint) (entries : List Entry) (h : ℕ) → AreCorners points corners → h ≡ length corners → h ≡ length entries → 2 ≤ h
    → All (λ e. e.far < length entries) entries
    → EachBelow h (RowPasses corners entries) ↔ EachBelow h (λ i. IsFurthest corners i (far_at entries i))
pass_exactly points corners entries h hull is as_many two fars =
    subst (λ n. EachBelow n (RowPasses corners entries) ↔ EachBelow n (λ i. IsFurthest corners i (far_at entries i))) (sym is) (
      λ tests i low. furthest_of_row points corners i (far_at entries i) hull more low (far i low)
          (subst (IsRowGreatest (distances corners) (length corners) i) (column i low)
          (rows_of_tests corners (gap entries) (omega (arith, more)) cross gaps (λ r l. subst (Test r) same (tests r l)) i low)),
      λ f r l. subst (Test r) (sym same) (tests_of_rows corners (gap entries) more cross gaps
          (λ i low. subst (IsRowGreatest (distances corners) (length corners) i) (sym (column i low)) (row_of_furthest points corners i (far_at entries i) hull more low (f i low))) r l),
    )
  where
    same : length entries ≡ length corners
    same = sym as_many ∙ is

    more : 2 ≤ length corners
    more = subst (λ n. 2 ≤ n) is two

    Test : ℕ → ℕ → Type 0
    Test r n = IsRowTest (distances corners) n (gap entries (r + (n - 1))) (gap entries r) (gap entries (r + 1)) r

    cross : Crosses (distances corners) (length corners)
    cross = corners_cross points corners hull

    gaps : IsGap (length corners) (gap entries)
    gaps = subst (λ n. IsGap n (gap entries)) same (entry_gap entries (subst (λ n. 0 < n) (sym same) (omega (arith, more))))

    in_entries : (i : ℕ) → i < length corners → i < length entries
    in_entries i low = subst (λ n. i < n) (sym same) low

    far : (i : ℕ) → i < length corners → far_at entries i < length corners
    far i low = subst (λ n. far_at entries i < n) same (All-get_or (λ (e : Entry). e.far < length entries) entries i none (in_entries i low) fars)

    column : (i : ℕ) → i < length corners → i + gap entries i ≡ i + positions_after (length corners) i (far_at entries i)
    column i low = ap (λ n. i + n) (gap_is entries i (in_entries i low) ∙ ap (λ n. positions_after n i (far_at entries i)) same)

-- one corner names itself
pub one_exactly : (corners : List PlanePoint) (entries : List Entry) (h : ℕ) → h ≡ length corners → h ≡ length entries → h ≡ 1 → All (λ e. e.far < length entries) entries
    → EachBelow h (λ i. IsFurthest corners i (far_at entries i))
one_exactly corners entries h is as_many one fars i low =
    subst (λ n. IsFurthest corners n (far_at entries n)) (first i (subst (λ n. i < n) one low))
    (subst (IsFurthest corners 0) (first (far_at entries 0) (subst (λ n. far_at entries 0 < n) (sym as_many ∙ one)
    (All-get_or (λ (e : Entry). e.far < length entries) entries 0 none (omega (arith, as_many, one)) fars))) (only_furthest corners (sym is ∙ one)))
  where
    first : (n : ℕ) → n < 1 → 0 ≡ n
    first n l = omega (arith, l)

-- ---- one row

-- what is looked at, before the named corner and after it, makes the test of a row
pub row_test : (table : ℕ → ℕ → ℤ) (h before here after row from to : ℕ) (most : ℤ) → most ≡ table row (row + here) → 1 ≤ here → before ≤ here + 1 → from ≡ max before 2 - 1
    → to ≡ min (after + 2) h → ((s : ℕ) → from ≤ s → s < here → table row (row + s) <ℤ most) → ((s : ℕ) → here + 1 ≤ s → s < to → table row (row + s) ≤ℤ most)
    → IsRowTest table h before here after row
row_test table h before here after row from to most is some rises from_is to_is nearer no_farther = record {
  some = some;
  rises = rises;
  nearer = λ s positive near less. subst (λ z. table row (row + s) <ℤ z) is (nearer s (omega (arith, from_is, positive, near)) less);
  no_farther = λ s more near less. subst (λ z. table row (row + s) ≤ℤ z) is (no_farther s (omega (arith, more)) (omega (arith, to_is, near, less)));
}

-- and is made of it
pub row_nearer : (table : ℕ → ℕ → ℤ) (h before here after row from : ℕ) (most : ℤ) → most ≡ table row (row + here) → from ≡ max before 2 - 1 → IsRowTest table h before here after row
    → (s : ℕ) → from ≤ s → s < here → table row (row + s) <ℤ most
row_nearer table h before here after row from most is from_is t s low less = subst (λ z. table row (row + s) <ℤ z) (sym is)
    (t.nearer s (omega (arith, from_is, low)) (omega (arith, from_is, low)) less)

pub row_no_farther : (table : ℕ → ℕ → ℤ) (h before here after row to : ℕ) (most : ℤ) → most ≡ table row (row + here) → to ≡ min (after + 2) h → IsRowTest table h before here after row
    → (s : ℕ) → here + 1 ≤ s → s < to → table row (row + s) ≤ℤ most
row_no_farther table h before here after row to most is to_is t s more less = subst (λ z. table row (row + s) ≤ℤ z) (sym is)
    (t.no_farther s (omega (arith, more)) (omega (arith, to_is, less)) (omega (arith, to_is, less)))

-- a failed test for at most
pub is_not_most : {a b : ℤ} → le_z a b ≡ false → b <ℤ a
is_not_most {a} {b} e = by_lt_z b a (λ l. l) (λ m. absurd (subst T e m.le))
