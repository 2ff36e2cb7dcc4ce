-- The list of potentials, one row after another.
use Rattle.std.proofs.Common.{◌≡◌, refl, sym, subst, ap, ap₂, ◌∙◌, ◌⊎◌, inl, inr, ℕ, zero, suc, ◌+◌, ◌-◌, ◌*◌, ◌<◌, ◌≤◌, ◌^◌, arith, ℤ, pos, ◌+ℤ◌, ◌≤ℤ◌, ◌<ℤ◌, List, ◌++◌, length, map}
use Rattle.std.specs.Prelude.{All}
use Rattle.std.proofs.Common.{◌/◌, [], ◌∷◌}
use Rattle.std.specs.Prelude.{nat_abs}
use Rattle.std.proofs.lemmas.List.{map-append, length-map}
use Rattle.std.proofs.lemmas.List.Elements.{All-head, All-tail, All-nil}
use Rattle.std.proofs.lemmas.Int.{ints}
use native.Mathlib.Nat.{mul-le-mul}
use Rattle.integers.specs.Size.{Size}
use Rattle.integers.proofs.Lists.{below_or_at}
use Rattle.integers.proofs.Order.{le_trans_ℤ, le_lt_trans_ℤ}
use Rattle.std.proofs.lemmas.List.{length-append, get_or_append_left}
use Rattle.std.proofs.lemmas.List.Elements.{All-append, All-weaker, All-from_get_or}
use Rattle.bounds_model.specs.Plane.{PlanePoint, point_at, turn}
use Rattle.bounds_model.specs.KgonAnswer.{pairs_before}
use Rattle.added_areas.specs.declared.vectors.PlaneVector.{PlaneVector}
use Rattle.extremal_kgon.specs.declared.table.Best.{Best}
use Rattle.added_areas.specs.PlaneVectors.{vector_of}
use Rattle.extremal_kgon.specs.LaterVectors.{AreVectorsAfter}
use Rattle.extremal_kgon.specs.Rows.{at, area_at, IsBestSum, IsNextRow}
use Rattle.extremal_kgon.specs.Tables.{index, ending, potential_or_zero, IsPotential, StandsAt, IsBestOf, IsFoundAt, IsTable, TakesBest}
use Rattle.extremal_kgon.proofs.PotentialIndices.{layer-next, layers-below, potential_or_zero-next, potential_or_zero-more, potential_or_zero-row}
use Rattle.extremal_kgon.proofs.VectorAreas.{area-turn, area-limit}
use Rattle.model_laws.proofs.PairCounts.{pairs-next}

-- the potentials up to a layer of a first corner, the last row of which is also apart
pub record IsPartTable (corners : List PlanePoint) (layers first layer : ℕ) (us row : List ℤ) (best : Best) : Type 0 where
  pub as_many : length us ≡ ending (length corners) layers first layer
  pub ends : (a : ℕ) → a < first → ending (length corners) layers a layers ≤ length us
  pub potentials : (a l last : ℕ) → a < first → l < layers → a < last → last < length corners → IsPotential corners layers us a l last
  pub here : (l last : ℕ) → l < layer → first < last → last < length corners → IsPotential corners layers us first l last
  pub row_length : first + 1 + length row ≡ length corners
  pub in_row : (last : ℕ) → first < last → last < length corners → at row (last - first - 1) ≡ potential_or_zero (length corners) layers us first layer last
  pub low : All (λ u. pos 0 ≤ℤ u) row
  pub high : All (λ u. u ≤ℤ pos (layer * 549755813888)) row
  pub greatest : IsBestOf (length corners) layers us best
  pub begun : best.first ≤ first
  pub none : best.area ≡ pos 0 → best.first ≡ 0
  pub earlier : (a l last : ℕ) → a < best.first → l < layers → a < last → last < length corners → potential_or_zero (length corners) layers us a (l + 1) last <ℤ best.area

-- where the list holds the same in two layers, a potential is one
potential-by : (corners : List PlanePoint) (layers : ℕ) (us vs : List ℤ) (first layer last : ℕ)
    → ((middle : ℕ) → first < middle → middle < last → potential_or_zero (length corners) layers vs first layer middle ≡ potential_or_zero (length corners) layers us first layer middle)
    → potential_or_zero (length corners) layers vs first (layer + 1) last ≡ potential_or_zero (length corners) layers us first (layer + 1) last
    → IsPotential corners layers us first layer last → IsPotential corners layers vs first layer last
potential-by corners layers us vs first layer last below here p =
    let area = λ (m : ℕ). turn (point_at corners first) (point_at corners m) (point_at corners last) in
    record {
      grows = λ m h k. subst (λ z. z ≤ℤ potential_or_zero (length corners) layers vs first (layer + 1) last) (ap (λ z. z +ℤ area m) (sym (below m h k))) (subst (λ z. (potential_or_zero (length corners) layers us first layer m +ℤ area m) ≤ℤ z) (sym here) (p.grows m h k));
      reached = elim p.reached [
        | inl none ↦ inl (here ∙ none)
        | inr some ↦ inr (some.0, record { after = some.1.after; before = some.1.before; sum = here ∙ some.1.sum ∙ ap (λ z. z +ℤ area some.0) (sym (below some.0 some.1.after some.1.before)) })
      ];
    }

-- more numbers change no potential whose layer is in the list
potential-more : (corners : List PlanePoint) (layers : ℕ) (us vs : List ℤ) (first layer last : ℕ) → first < last → last < length corners → ending (length corners) layers first (layer + 1) ≤ length us → IsPotential corners layers us first layer last → IsPotential corners layers (us ++ vs) first layer last
potential-more corners layers us vs first layer last h k within p =
    potential-by corners layers us (us ++ vs) first layer last
    (λ m l n. potential_or_zero-more (length corners) layers us vs first layer m l (under n k) (shorter _ _ _ _ (layer-next layer (length corners - 1 - first)) within))
    (potential_or_zero-more (length corners) layers us vs first (layer + 1) last h k within) p
  where
    under : {m n : ℕ} → m < last → last < n → m < n
    under h k = omega arith

    shorter : {n : ℕ} (p x y w : ℕ) → y ≡ x + w → p + y ≤ n → p + x ≤ n
    shorter p x y w e h = omega arith

-- the new row's numbers are potentials
potential-new : (corners : List PlanePoint) (layers : ℕ) (us row : List ℤ) (first layer : ℕ) (before : List ℤ) (vectors : List PlaneVector) → length us ≡ ending (length corners) layers first layer
    → ((last : ℕ) → first < last → last < length corners → at before (last - first - 1) ≡ potential_or_zero (length corners) layers us first layer last)
    → AreVectorsAfter corners first vectors → IsNextRow (map vector_of vectors) before row → length row ≡ length vectors → (last : ℕ) → first < last → last < length corners → IsPotential corners layers (us ++ row) first layer last
potential-new corners layers us row first layer before vectors as_many in_row w next same last h k = record {
  grows = λ m l n. subst (λ z. z ≤ℤ potential_or_zero (length corners) layers (us ++ row) first (layer + 1) last) (sym (sum_is m l n)) (subst (λ z. (at before (m - first - 1) +ℤ area_at (map vector_of vectors) (last - first - 1) (m - first - 1)) ≤ℤ z) (sym here) (best_sum.grows (m - first - 1) (earlier l n)));
  reached = elim best_sum.reached [
    | inl none ↦ inl (here ∙ none)
    | inr some ↦ inr (
      first + 1 + some.0,
      record {
        after = after some.0;
        before = before_last h some.1.earlier;
        sum = here ∙ some.1.sum ∙ ap (λ j. at before j +ℤ area_at (map vector_of vectors) (last - first - 1) j) (back some.0) ∙ sym (sum_is (first + 1 + some.0) (after some.0) (before_last h some.1.earlier));
      },
    )
  ];
}
  where
    in_vectors : {m : ℕ} → first < m → m < length corners → m - first - 1 < length vectors
    in_vectors h k = omega (arith, w.as_many)

    best_sum : IsBestSum (area_at (map vector_of vectors) (last - first - 1)) before (last - first - 1) (at row (last - first - 1))
    best_sum = next.each (last - first - 1) (subst (λ n. last - first - 1 < n) (sym same) (in_vectors h k))

    here : potential_or_zero (length corners) layers (us ++ row) first (layer + 1) last ≡ at row (last - first - 1)
    here = potential_or_zero-row (length corners) layers us row first layer last h as_many

    under : {m n : ℕ} → m < last → last < n → m < n
    under h k = omega arith

    earlier : {m : ℕ} → first < m → m < last → m - first - 1 < last - first - 1
    earlier h k = omega arith

    again : {m : ℕ} → first < m → first + 1 + (m - first - 1) ≡ m
    again h = omega arith

    after : (j : ℕ) → first < first + 1 + j
    after j = omega arith

    before_last : {j : ℕ} → first < last → j < last - first - 1 → first + 1 + j < last
    before_last h l = omega arith

    back : (j : ℕ) → j ≡ first + 1 + j - first - 1
    back j = omega arith

    area_is : (m : ℕ) → first < m → m < last → area_at (map vector_of vectors) (last - first - 1) (m - first - 1) ≡ turn (point_at corners first) (point_at corners m) (point_at corners last)
    area_is m l n =
        area-turn corners first vectors w (last - first - 1) (m - first - 1) (in_vectors h k) (in_vectors l (under n k)) ∙ ap₂ (λ p q. turn (point_at corners first) (point_at corners p) (point_at corners q)) (again l) (again h)

    sum_is : (m : ℕ) → first < m → m < last → (potential_or_zero (length corners) layers (us ++ row) first layer m +ℤ turn (point_at corners first) (point_at corners m) (point_at corners last)) ≡ (at before (m - first - 1) +ℤ area_at (map vector_of vectors) (last - first - 1) (m - first - 1))
    sum_is m l n = ap₂ (λ p q. p +ℤ q) (potential_or_zero-more (length corners) layers us row first layer m l (under n k) (subst (λ n. ending (length corners) layers first layer ≤ n) (sym as_many) (least (ending (length corners) layers first layer))) ∙ sym (in_row m l (under n k))) (sym (area_is m l n))
      where
        least : (n : ℕ) → n ≤ n
        least n = omega arith

-- a number that stands in the list goes on standing there
stands-more : (count layers : ℕ) (us vs : List ℤ) (best : Best) → StandsAt count layers us best → StandsAt count layers (us ++ vs) best
stands-more count layers us vs best s = record {
  first = s.first;
  last = s.last;
  some = s.some;
  layer = s.layer;
  within = subst (λ n. index count layers best.first (best.layer - 1) best.last < n) (sym (length-append us vs)) (longer _ s.within);
  is = same (us ++ vs) ∙ get_or_append_left us vs (pos 0) (index count layers best.first (best.layer - 1) best.last) s.within ∙ sym (same us) ∙ s.is;
}
  where
    longer : {p n : ℕ} (m : ℕ) → p < n → p < n + m
    longer m h = omega arith

    again : 1 ≤ best.layer → best.layer ≡ best.layer - 1 + 1
    again h = omega arith

    same : (xs : List ℤ) → potential_or_zero count layers xs best.first best.layer best.last ≡ at xs (index count layers best.first (best.layer - 1) best.last)
    same xs = ap (λ m. potential_or_zero count layers xs best.first m best.last) (again s.some) ∙ potential_or_zero-next count layers xs best.first (best.layer - 1) best.last

-- what was found in a new row stands in the list
found-stands : (count layers : ℕ) (us row : List ℤ) (first layer : ℕ) (best : Best) (i : ℕ) → length us ≡ ending count layers first layer → first + 1 + length row ≡ count → layer < layers → IsFoundAt row first (layer + 1) best i → StandsAt count layers (us ++ row) best
found-stands count layers us row first layer best i as_many width below f = record {
  first = subst (λ n. n < best.last) (sym f.from) (subst (λ n. first < n) (sym f.to) (after first i));
  last = subst (λ n. n < count) (sym f.to) (omega (arith, f.below));
  some = subst (λ n. 1 ≤ n) (sym f.in_layer) (omega arith);
  layer = subst (λ n. n ≤ layers) (sym f.in_layer) (omega arith);
  within = subst (λ n. index count layers best.first (best.layer - 1) best.last < n) (sym (length-append us row)) (subst (λ p. p < length us + length row) (sym index_is) (more (length us) f.below));
  is = ap₂ (λ a l. potential_or_zero count layers (us ++ row) a l best.last) f.from f.in_layer ∙ ap (λ b. potential_or_zero count layers (us ++ row) first (layer + 1) b) f.to ∙ potential_or_zero-row count layers us row first layer (first + 1 + i) (after first i) as_many ∙ ap (at row) (back first i) ∙ sym f.area;
}
  where
    after : (a j : ℕ) → a < a + 1 + j
    after a j = omega arith

    back : (a j : ℕ) → a + 1 + j - a - 1 ≡ j
    back a j = omega arith

    one_less : (l : ℕ) → l + 1 - 1 ≡ l
    one_less l = omega arith

    more : (n : ℕ) {j m : ℕ} → j < m → n + j < n + m
    more n h = omega arith

    index_is : index count layers best.first (best.layer - 1) best.last ≡ length us + i
    index_is =
        ap₂ (λ a l. index count layers a (l - 1) best.last) f.from f.in_layer ∙ ap₂ (λ l b. index count layers first l b) (one_less layer) f.to
        ∙ ap₂ (λ n j. n + j) (sym as_many) (back first i)

-- the greatest number with a new row
best-more : (count layers : ℕ) (us row : List ℤ) (first layer : ℕ) (old new : Best) → length us ≡ ending count layers first layer → first + 1 + length row ≡ count → layer < layers → IsBestOf count layers us old → TakesBest old row first (layer + 1) new → IsBestOf count layers (us ++ row) new
best-more count layers us row first layer old new as_many width below b t = record {
  not_negative = le_trans_ℤ b.not_negative t.rises;
  small = t.small;
  above = All-append (λ u. u ≤ℤ new.area) us row (All-weaker (λ u. u ≤ℤ old.area) (λ u. u ≤ℤ new.area) (λ u h. le_trans_ℤ h t.rises) us b.above) t.above;
  stands = elim t.one [
    | inl same ↦ subst (λ x. (x.area ≡ pos 0) ⊎ StandsAt count layers (us ++ row) x) (sym same) (elim b.stands [
      | inl none ↦ inl none
      | inr some ↦ inr (stands-more count layers us row old some)
    ])
    | inr found ↦ inr (found-stands count layers us row first layer new found.0 as_many width below found.1)
  ];
}

-- a number of a list is at most what all are at most, past the end too
pub read_at_most : (us : List ℤ) (i : ℕ) (m : ℤ) → pos 0 ≤ℤ m → All (λ u. u ≤ℤ m) us → at us i ≤ℤ m
read_at_most [] i m h all = h
read_at_most (u ∷ us) zero m h all = All-head (λ u. u ≤ℤ m) u us all
read_at_most (u ∷ us) (suc i) m h all = read_at_most us i m h (All-tail (λ u. u ≤ℤ m) u us all)

-- the potentials of earlier first corners are below the greatest number with a new row
earlier-more : (corners : List PlanePoint) (layers first layer : ℕ) (us row : List ℤ) (old new : Best) → IsBestOf (length corners) layers us old → old.first ≤ first → ((a : ℕ) → a < first → ending (length corners) layers a layers ≤ length us)
    → ((a l last : ℕ) → a < old.first → l < layers → a < last → last < length corners → potential_or_zero (length corners) layers us a (l + 1) last <ℤ old.area)
    → (new ≡ old) ⊎ ((i : ℕ) × IsFoundAt row first layer new i × (old.area <ℤ new.area)) → (a l last : ℕ) → a < new.first → l < layers → a < last → last < length corners → potential_or_zero (length corners) layers (us ++ row) a (l + 1) last <ℤ new.area
earlier-more corners layers first layer us row old new best begun ends earlier one a l last h i j k = elim one [
  | inl same ↦
      let low : a < old.first = subst (λ (x : Best). a < x.first) same h in
      subst (λ x. potential_or_zero (length corners) layers (us ++ row) a (l + 1) last <ℤ x.area) (sym same)
      (subst (λ z. z <ℤ old.area) (sym (potential_or_zero-more (length corners) layers us row a (l + 1) last j k (within (through low begun)))) (earlier a l last low i j k))
  | inr found ↦
      let low : a < first = subst (λ n. a < n) found.1.from h in
      le_lt_trans_ℤ
      (subst (λ z. z ≤ℤ old.area) (sym (potential_or_zero-more (length corners) layers us row a (l + 1) last j k (within low) ∙ potential_or_zero-next (length corners) layers us a l last)) (read_at_most us (index (length corners) layers a l last) old.area best.not_negative best.above))
      found.2
]
  where
    through : {x y z : ℕ} → x < y → y ≤ z → x < z
    through h k = omega arith

    within : a < first → ending (length corners) layers a (l + 1) ≤ length us
    within g = shorter _ _ _ (mul-le-mul (up i) (itself (length corners - 1 - a))) (ends a g)
      where
        up : l < layers → l + 1 ≤ layers
        up h = omega arith

        itself : (n : ℕ) → n ≤ n
        itself n = omega arith

        shorter : (p x y : ℕ) {n : ℕ} → x ≤ y → p + y ≤ n → p + x ≤ n
        shorter p x y h k = omega arith

-- the numbers of a new row are not below 0, and not large
pub row-low : (vectors : List PlaneVector) (before row : List ℤ) → IsNextRow (map vector_of vectors) before row → All (λ u. pos 0 ≤ℤ u) row
row-low vectors before row next = All-from_get_or (λ u. pos 0 ≤ℤ u) row (pos 0) (λ i low. (next.each i low).not_negative)

pub row-high : (corners : List PlanePoint) (first : ℕ) (vectors : List PlaneVector) (before row : List ℤ) (layer : ℕ) → AreVectorsAfter corners first vectors → length before ≡ length vectors → IsNextRow (map vector_of vectors) before row → length row ≡ length vectors
    → All (λ u. u ≤ℤ pos (layer * 549755813888)) before → All (λ u. u ≤ℤ pos ((layer + 1) * 549755813888)) row
row-high corners first vectors before row layer w before_as next as_many high = All-from_get_or (λ u. u ≤ℤ pos ((layer + 1) * 549755813888)) row (pos 0) (λ i low. elim (next.each i low).reached [
  | inl none ↦ subst (λ z. z ≤ℤ pos ((layer + 1) * 549755813888)) (sym none) (omega (arith, ints))
  | inr some ↦ subst (λ z. z ≤ℤ pos ((layer + 1) * 549755813888)) (sym some.1.sum)
      (sum (high some.0 (pos 0) (in_before some.1.earlier low before_as as_many)) (area-limit corners first vectors w i some.0 (in_vectors low as_many) (in_vectors_too some.1.earlier low as_many)))
])
  where
    sum : {x y : ℤ} → x ≤ℤ pos (layer * 549755813888) → y ≤ℤ pos 549755813888 → (x +ℤ y) ≤ℤ pos ((layer + 1) * 549755813888)
    sum {x} {y} h k = omega (arith, ints)

    in_before : {i j b r n : ℕ} → j < i → i < r → b ≡ n → r ≡ n → j < b
    in_before h k e f = omega arith

    in_vectors : {i r n : ℕ} → i < r → r ≡ n → i < n
    in_vectors h e = omega arith

    in_vectors_too : {i j r n : ℕ} → j < i → i < r → r ≡ n → j < n
    in_vectors_too h k e = omega arith

-- one row more
pub row-added : (corners : List PlanePoint) (layers first layer : ℕ) (us vs before row : List ℤ) (old new : Best) (vectors : List PlaneVector) → first < length corners → layer < layers → AreVectorsAfter corners first vectors → IsPartTable corners layers first layer us before old
    → IsNextRow (map vector_of vectors) before row → length row ≡ length vectors → TakesBest old row first (layer + 1) new → vs ≡ us ++ row → IsPartTable corners layers first (layer + 1) vs row new
row-added corners layers first layer us vs before row old new vectors is_first below w t next same takes is = subst (λ xs. IsPartTable corners layers first (layer + 1) xs row new) (sym is) (record {
  as_many = length-append us row ∙ grown _ _ _ (layer-next layer (length corners - 1 - first)) t.as_many same w.as_many;
  ends = λ a l. subst (λ n. ending (length corners) layers a layers ≤ n) (sym (length-append us row)) (longer _ (t.ends a l));
  potentials = λ a l last h i j k. potential-more corners layers us row a l last j k (within _ _ _ _ _ (layers-below (length corners - 1 - a) i) (layer-next l (length corners - 1 - a)) (t.ends a h)) (t.potentials a l last h i j k);
  here = λ l last i j k. elim (below_or_at l layer i) [
    | inl less ↦ potential-more corners layers us row first l last j k (subst (λ n. ending (length corners) layers first (l + 1) ≤ n) (sym t.as_many) (within _ _ _ _ _ (layers-below (length corners - 1 - first) less) (layer-next l (length corners - 1 - first)) (least (ending (length corners) layers first layer)))) (t.here l last less j k)
    | inr at_it ↦ subst (λ m. IsPotential corners layers (us ++ row) first m last) (sym at_it) (potential-new corners layers us row first layer before vectors t.as_many t.in_row w next same last j k)
  ];
  row_length = omega (arith, same, w.as_many);
  in_row = λ last j k. sym (potential_or_zero-row (length corners) layers us row first layer last j t.as_many);
  low = row-low vectors before row next;
  high = row-high corners first vectors before row layer w (omega (arith, t.row_length, w.as_many)) next same t.high;
  greatest = best-more (length corners) layers us row first layer old new t.as_many (omega (arith, same, w.as_many)) below t.greatest takes;
  begun = elim takes.one [ inl e ↦ subst (λ (x : Best). x.first ≤ first) (sym e) t.begun | inr found ↦ subst (λ n. n ≤ first) (sym found.1.from) (least first) ];
  none = λ zero_area. elim takes.one [ inl e ↦ subst (λ (x : Best). x.first ≡ 0) (sym e) (t.none (subst (λ (x : Best). x.area ≡ pos 0) e zero_area)) | inr found ↦ absurd (not_zero found.1.positive zero_area) ];
  earlier = earlier-more corners layers first (layer + 1) us row old new t.greatest t.begun t.ends t.earlier takes.one;
})
  where
    not_zero : {z : ℤ} → pos 0 <ℤ z → z ≡ pos 0 → ⊥
    not_zero h e = omega (arith, ints)

    longer : {p n : ℕ} (m : ℕ) → p ≤ n → p ≤ n + m
    longer m h = omega arith

    least : (n : ℕ) → n ≤ n
    least n = omega arith

    within : (p x y w z : ℕ) {n : ℕ} → x + w ≤ z → y ≡ x + w → p + z ≤ n → p + y ≤ n
    within p x y w z h e k = omega arith

    grown : (p x y : ℕ) {n m l c : ℕ} → y ≡ x + (c - 1 - first) → n ≡ p + x → m ≡ l → first + 1 + l ≡ c → n + m ≡ p + y
    grown p x y e f g h = omega arith

-- numbers between 0 and some times the greatest area are small
pub small_row : (layer : ℕ) (row : List ℤ) → layer ≤ 10 → All (λ u. pos 0 ≤ℤ u) row → All (λ u. u ≤ℤ pos (layer * 549755813888)) row → All (Size (2 ^ 43)) row
small_row layer row few low high = All-from_get_or (Size (2 ^ 43)) row (pos 0) (λ i below. small (at row i) (low i (pos 0) below) (high i (pos 0) below))
  where
    small : (u : ℤ) → pos 0 ≤ℤ u → u ≤ℤ pos (layer * 549755813888) → Size (2 ^ 43) u
    small u h k = record { abs = omega (arith, ints) }

-- a list of so many potentials has room for a row more
pub room_for : (count layers first layer n m : ℕ) → count ≤ 128 → first < count → layers ≤ 10 → layer < layers → n ≡ ending count layers first layer → first + 1 + m ≡ count → n + m ≤ 1000000
room_for count layers first layer n m few is_first ten below as_many width =
    all (mul-le-mul ten (pairs is_first few)) (mul-le-mul (under below ten) (narrow few)) (subst (λ k. n ≡ k) refl as_many) width few
  where
    pairs : first < count → count ≤ 128 → pairs_before count first ≤ 16384
    pairs h k = halved (first * (2 * count - first - 1)) (mul-le-mul (under_count h k) (twice k))
      where
        halved : (p : ℕ) → p ≤ 128 * 256 → p / 2 ≤ 16384
        halved p h = omega arith

        under_count : first < count → count ≤ 128 → first ≤ 128
        under_count h k = omega arith

        twice : count ≤ 128 → 2 * count - first - 1 ≤ 256
        twice k = omega arith

    under : layer < layers → layers ≤ 10 → layer ≤ 10
    under h k = omega arith

    narrow : count ≤ 128 → count - 1 - first ≤ 128
    narrow k = omega arith

    all : layers * pairs_before count first ≤ 10 * 16384 → layer * (count - 1 - first) ≤ 10 * 128 → n ≡ ending count layers first layer → first + 1 + m ≡ count → count ≤ 128 → n + m ≤ 1000000
    all h k e f g = sum (layers * pairs_before count first) (layer * (count - 1 - first)) h k e f g
      where
        sum : (p q : ℕ) → p ≤ 10 * 16384 → q ≤ 10 * 128 → n ≡ p + q → first + 1 + m ≡ count → count ≤ 128 → n + m ≤ 1000000
        sum p q h k e f g = omega arith

-- before a first corner's layers
pub first-begins : (corners : List PlanePoint) (layers first : ℕ) (us row : List ℤ) (best : Best) → IsTable corners layers first us best → first + 1 + length row ≡ length corners → ((i : ℕ) → at row i ≡ pos 0) → IsPartTable corners layers first 0 us row best
first-begins corners layers first us row best t width zeros = record {
  as_many = t.as_many ∙ none_more (layers * pairs_before (length corners) first);
  ends = t.ends;
  potentials = t.potentials;
  here = λ l last i j k. absurd (omega arith);
  row_length = width;
  in_row = λ last j k. zeros (last - first - 1);
  low = All-from_get_or (λ u. pos 0 ≤ℤ u) row (pos 0) (λ i b. not_below (zeros i));
  high = All-from_get_or (λ u. u ≤ℤ pos (0 * 549755813888)) row (pos 0) (λ i b. not_above (zeros i));
  greatest = t.greatest;
  begun = t.begun;
  none = t.none;
  earlier = t.earlier;
}
  where
    none_more : (n : ℕ) → n ≡ n + 0 * (length corners - 1 - first)
    none_more n = omega arith

    not_below : {z : ℤ} → z ≡ pos 0 → pos 0 ≤ℤ z
    not_below {z} e = omega (arith, ints)

    not_above : {z : ℤ} → z ≡ pos 0 → z ≤ℤ pos 0
    not_above {z} e = omega (arith, ints)

-- after them
pub first-ends : (corners : List PlanePoint) (layers first : ℕ) (us row : List ℤ) (best : Best) → first < length corners → IsPartTable corners layers first layers us row best → IsTable corners layers (first + 1) us best
first-ends corners layers first us row best is_first t = record {
  as_many = t.as_many ∙ sym (ap (λ n. layers * n) (pairs-next (length corners) first is_first) ∙ spread layers (pairs_before (length corners) first) (length corners - 1 - first));
  ends = λ a h. elim (below_or_at a first h) [
    | inl less ↦ t.ends a less
    | inr same ↦ subst (λ n. ending (length corners) layers n layers ≤ length us) (sym same) (subst (λ n. ending (length corners) layers first layers ≤ n) (sym t.as_many) (least (ending (length corners) layers first layers)))
  ];
  potentials = λ a l last h i j k. elim (below_or_at a first h) [
    | inl less ↦ t.potentials a l last less i j k
    | inr same ↦ subst (λ n. IsPotential corners layers us n l last) (sym same) (t.here l last i (subst (λ n. n < last) same j) k)
  ];
  greatest = t.greatest;
  begun = more t.begun;
  none = t.none;
  earlier = t.earlier;
}
  where
    more : {k n : ℕ} → k ≤ n → k ≤ n + 1
    more h = omega arith

    spread : (l p w : ℕ) → l * (p + w) ≡ l * p + l * w
    spread l p w = omega arith

    least : (n : ℕ) → n ≤ n
    least n = omega arith

-- pushed magnitudes are the row itself
pub seen-row : (old new : List ℕ) (row : List ℤ) → All (λ u. pos 0 ≤ℤ u) row → new ≡ old ++ map nat_abs row → map pos new ≡ map pos old ++ row
seen-row old new row low is = ap (map pos) is ∙ map-append pos old (map nat_abs row) ∙ ap (λ xs. map pos old ++ xs) (back row low)
  where
    whole : (u : ℤ) → pos 0 ≤ℤ u → pos (nat_abs u) ≡ u
    whole u h = omega (arith, ints)

    back : (xs : List ℤ) → All (λ u. pos 0 ≤ℤ u) xs → map pos (map nat_abs xs) ≡ xs
    back [] h = refl
    back (x ∷ xs) h = ap₂ (λ a b. a ∷ b) (whole x (All-head (λ u. pos 0 ≤ℤ u) x xs h)) (back xs (All-tail (λ u. pos 0 ≤ℤ u) x xs h))

-- a next row has a number for each vector
row-width : (vectors : List PlaneVector) (before row : List ℤ) → IsNextRow (map vector_of vectors) before row → length row ≡ length vectors
row-width vectors before row next = next.as_many ∙ length-map vectors vector_of

-- the numbers of the next row are small
pub next_small : (corners : List PlanePoint) (layers first layer : ℕ) (us before row : List ℤ) (best : Best) (vectors : List PlaneVector) → layers ≤ 10 → layer < layers → AreVectorsAfter corners first vectors → IsPartTable corners layers first layer us before best → IsNextRow (map vector_of vectors) before row → All (Size (2 ^ 43)) row
next_small corners layers first layer us before row best vectors ten below w t next =
    small_row (layer + 1) row (omega arith) (row-low vectors before row next) (row-high corners first vectors before row layer w (omega (arith, t.row_length, w.as_many)) next (row-width vectors before row next) t.high)

-- the next row has room
pub next_room : (corners : List PlanePoint) (layers first layer : ℕ) (us : List ℕ) (before row : List ℤ) (best : Best) (vectors : List PlaneVector) → length corners ≤ 128 → first < length corners → layers ≤ 10 → layer < layers → AreVectorsAfter corners first vectors → IsPartTable corners layers first layer (map pos us) before best → IsNextRow (map vector_of vectors) before row → length us + length row ≤ 1000000
next_room corners layers first layer us before row best vectors few is_first ten below w t next =
    room_for (length corners) layers first layer (length us) (length row) few is_first ten below (sym (length-map us pos) ∙ t.as_many) (omega (arith, row-width vectors before row next, w.as_many))

-- the pushed row
pub next_added : (corners : List PlanePoint) (layers first layer : ℕ) (us vs : List ℕ) (before row : List ℤ) (old new : Best) (vectors : List PlaneVector) → first < length corners → layer < layers → AreVectorsAfter corners first vectors → IsPartTable corners layers first layer (map pos us) before old
    → IsNextRow (map vector_of vectors) before row → TakesBest old row first (layer + 1) new → vs ≡ us ++ map nat_abs row → IsPartTable corners layers first (layer + 1) (map pos vs) row new
next_added corners layers first layer us vs before row old new vectors is_first below w t next takes is =
    row-added corners layers first layer (map pos us) (map pos vs) before row old new vectors is_first below w t next (row-width vectors before row next) takes (seen-row us vs row (row-low vectors before row next) is)

-- no potentials yet
pub table-none : (corners : List PlanePoint) (layers : ℕ) (us : List ℤ) → us ≡ [] → IsTable corners layers 0 us (record { area = pos 0; first = 0; layer = 0; last = 0 })
table-none corners layers us is = subst (λ xs. IsTable corners layers 0 xs (record { area = pos 0; first = 0; layer = 0; last = 0 })) (sym is) (record {
  as_many = nothing (2 * length corners - 0 - 1);
  ends = λ a h. absurd (omega arith);
  potentials = λ a l last h i j k. absurd (omega arith);
  greatest = record { not_negative = omega (arith, ints); small = record { abs = omega arith }; above = All-nil (λ u. u ≤ℤ pos 0); stands = inl refl };
  begun = omega arith;
  none = λ _. refl;
  earlier = λ a l last h i j k. absurd (omega (arith, h));
})
  where
    none : (n : ℕ) → 0 * n ≡ 0
    none n = omega arith

    no_times : layers * 0 ≡ 0
    no_times = omega arith

    nothing : (n : ℕ) → 0 ≡ layers * (0 * n / 2)
    nothing n = sym (ap (λ m. layers * (m / 2)) (none n) ∙ no_times)
