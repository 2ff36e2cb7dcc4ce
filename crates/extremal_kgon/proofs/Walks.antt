-- The chosen corners, from the first one on.
use Rattle.std.proofs.Common.{◌≡◌, refl, sym, subst, ap, ap₂, ◌∙◌, inl, inr, ℕ, zero, suc, ◌+◌, ◌-◌, ◌*◌, ◌<◌, ◌≤◌, ◌^◌, arith, ℤ, pos, ◌+ℤ◌, ◌≤ℤ◌, ◌<ℤ◌, List, [], ◌∷◌, ◌++◌, length, map, take}
use Rattle.std.specs.Prelude.{All, slice_index, slice_index_or}
use Rattle.std.specs.List.Sorted.{IsStrictlyIncreasing}
use Rattle.std.proofs.lemmas.Int.{ints}
use Rattle.std.proofs.lemmas.List.{length-map, length_push, get_or_append_left, get_or_push}
use Rattle.std.proofs.lemmas.List.Elements.{All-nil, All-cons, All-push}
use Rattle.integers.specs.Size.{Size}
use Rattle.integers.proofs.Lists.{below_or_at}
use Rattle.integers.proofs.Sizes.{below_size}
use Rattle.integers.proofs.Order.{le_antisymm_ℤ}
use Rattle.bounds_model.specs.Plane.{PlanePoint, point_at, cross, turn}
use Rattle.bounds_model.specs.Kgon.{twice_area, most_added}
use Rattle.model_laws.proofs.MostAdded.{last_of, rising-uncons, area-push, most_added-nonneg}
use Rattle.added_areas.specs.declared.vectors.PlaneVector.{PlaneVector}
use Rattle.added_areas.specs.PlaneVectors.{vector_of, AreVectorsFrom}
use Rattle.added_areas.specs.AddedRows.{most_after}
use Rattle.added_areas.proofs.AddedNumbers.{most_after-added, most_after-high, turn_is}
use Rattle.extremal_kgon.specs.declared.table.Best.{Best}
use Rattle.extremal_kgon.specs.Choices.{IsNext, NoneBetween, IsFirstChoice, IsReached}

-- ---- rising positions

rising-cons : (a b : ℕ) (rest : List ℕ) → a < b → IsStrictlyIncreasing (b ∷ rest) → IsStrictlyIncreasing (a ∷ b ∷ rest)
rising-cons a b rest h r zero below = h
rising-cons a b rest h r (suc k) below = subst (λ m. slice_index (b ∷ rest) k < slice_index (a ∷ b ∷ rest) m) (one_up k) (r k (fewer below))
  where
    one_up : (k : ℕ) → suc (k + 1) ≡ suc k + 1
    one_up k = omega arith

    fewer : {n : ℕ} → suc k + 1 < suc n → k + 1 < n
    fewer h = omega arith

rising-one : (a : ℕ) → IsStrictlyIncreasing (a ∷ [])
rising-one a k below = absurd (none below)
  where
    none : k + 1 < 1 → ⊥
    none h = omega arith

rising-push : (a : ℕ) (rest : List ℕ) (x : ℕ) → IsStrictlyIncreasing (a ∷ rest) → last_of a rest < x → IsStrictlyIncreasing (a ∷ rest ++ x ∷ [])
rising-push a [] x r h = rising-cons a x [] h (rising-one x)
rising-push a (b ∷ rest) x r h = let next = rising-uncons a b rest r in rising-cons a b (rest ++ x ∷ []) next.0 (rising-push b rest x next.1 h)

last_of-push : (i : ℕ) (xs : List ℕ) (x : ℕ) → last_of i (xs ++ x ∷ []) ≡ x
last_of-push i [] x = refl
last_of-push i (y ∷ xs) x = last_of-push y xs x

at_last : (i : ℕ) (xs ys : List ℕ) → slice_index_or (i ∷ xs ++ ys) (length xs) 0 ≡ last_of i xs
at_last i [] ys = refl
at_last i (x ∷ xs) ys = at_last x xs ys

taken : (xs ys : List ℕ) → take (length xs) (xs ++ ys) ≡ xs
taken [] ys = refl
taken (x ∷ xs) ys = ap (λ zs. x ∷ zs) (taken xs ys)

taken_less : (n : ℕ) (xs ys : List ℕ) → n ≤ length xs → take n (xs ++ ys) ≡ take n xs
taken_less zero xs ys h = refl
taken_less (suc n) [] ys h = absurd (omega (arith, h))
taken_less (suc n) (x ∷ xs) ys h = ap (λ zs. x ∷ zs) (taken_less n xs ys (omega (arith, h)))

-- ---- the walk

-- the chosen corners so far, what they cover, and that with so many more the size is still reached
pub record IsWalk (corners : List PlanePoint) (layers first : ℕ) (size : ℤ) (chosen : List ℕ) (last more : ℕ) (covered : ℤ) : Type 0 where
  pub rest : List ℕ
  pub begins : chosen ≡ first ∷ rest
  pub ends : last_of first rest ≡ last
  pub below : last < length corners
  pub count : length rest + more ≡ layers + 1
  pub alone : layers ≡ 0 → rest ≡ []
  pub rising : IsStrictlyIncreasing chosen
  pub in_range : All (λ i. i < length corners) chosen
  pub covers : twice_area (map (point_at corners) chosen) ≡ covered
  pub reaches : covered +ℤ most_added corners first more last ≡ size
  pub none_between : (place : ℕ) → place + 1 < length chosen → NoneBetween corners layers first size chosen place

-- the first corner alone
pub walk-begins : (corners : List PlanePoint) (layers : ℕ) (best : Best) (chosen : List ℕ) → IsReached corners layers best → chosen ≡ best.first ∷ [] → IsWalk corners layers best.first best.area chosen best.first (layers + 1) (pos 0)
walk-begins corners layers best chosen r is = subst (λ xs. IsWalk corners layers best.first best.area xs best.first (layers + 1) (pos 0)) (sym is) (record {
  rest = [];
  begins = refl;
  ends = refl;
  below = r.first;
  count = from_zero (layers + 1);
  alone = λ _. refl;
  rising = rising-one best.first;
  in_range = All-cons (λ i. i < length corners) best.first [] r.first (All-nil (λ i. i < length corners));
  covers = refl;
  reaches = and_zero (most_added corners best.first (layers + 1) best.first) ∙ r.reached;
  none_between = λ place l. absurd (none place l);
})
  where
    from_zero : (n : ℕ) → 0 + n ≡ n
    from_zero n = omega arith

    and_zero : (z : ℤ) → pos 0 +ℤ z ≡ z
    and_zero z = omega (arith, ints)

    none : (k : ℕ) → k + 1 < 1 → ⊥
    none k h = omega arith

-- one corner more, the first that still reaches the size
pub walk-more : (corners : List PlanePoint) (layers first : ℕ) (size : ℤ) (vectors : List PlaneVector) (chosen pushed : List ℕ) (last more next : ℕ) (covered covered' : ℤ) → AreVectorsFrom corners first vectors → IsWalk corners layers first size chosen last (suc more) covered → 1 ≤ layers
    → IsNext (map vector_of vectors) last more covered size next → pushed ≡ chosen ++ next ∷ [] → covered' ≡ covered +ℤ cross (point_at (map vector_of vectors) last) (point_at (map vector_of vectors) next) → IsWalk corners layers first size pushed next more covered'
walk-more corners layers first size vectors chosen pushed last more next covered covered' w t some n is sum = record {
  rest = t.rest ++ next ∷ [];
  begins = is ∙ ap (λ xs. xs ++ next ∷ []) t.begins;
  ends = last_of-push first t.rest next;
  below = inside;
  count = ap (λ m. m + more) (length_push t.rest next) ∙ counted (length t.rest) more ∙ t.count;
  alone = λ none. absurd (no_layers some none);
  rising = subst IsStrictlyIncreasing (sym (is ∙ ap (λ xs. xs ++ next ∷ []) t.begins)) (rising-push first t.rest next (subst IsStrictlyIncreasing t.begins t.rising) (subst (λ i. i < next) (sym t.ends) n.after));
  in_range = subst (All (λ i. i < length corners)) (sym is) (All-push (λ i. i < length corners) chosen next t.in_range inside);
  covers = ap (λ xs. twice_area (map (point_at corners) xs)) is ∙ area_with next inside ∙ ap (λ z. covered +ℤ z) (sym (turn_is corners first vectors w last next t.below inside)) ∙ sym sum;
  reaches = ap (λ z. z +ℤ most_added corners first more next) sum ∙ ap (λ z. covered +ℤ cross (point_at (map vector_of vectors) last) (point_at (map vector_of vectors) next) +ℤ z) (sym (most_after-added corners first vectors w more next inside)) ∙ n.reaches;
  none_between = λ place l. elim (below_or_at (place + 1) (length chosen) (subst (λ m. place + 1 < m) (ap length is ∙ length_push chosen next) l)) [
    | inl less ↦ λ other after before.
        subst (λ xs. (twice_area (map (point_at corners) (xs ++ other ∷ [])) +ℤ most_added corners first (layers + 1 - (place + 1)) other) <ℤ size) (sym (ap (take (place + 1)) is ∙ taken_less (place + 1) chosen (next ∷ []) (at_most less)))
        (t.none_between place less other (subst (λ i. i < other) (read_old place (omega (arith, less))) after) (subst (λ i. other < i) (read_old (place + 1) less) before))
    | inr here ↦ λ other after before.
        let place_is : place ≡ length t.rest = at_end place (here ∙ ap length t.begins) in
        let low : last < other = subst (λ i. i < other) (ap (λ i. slice_index_or pushed i 0) place_is ∙ ap (λ xs. slice_index_or xs (length t.rest) 0) (is ∙ ap (λ xs. xs ++ next ∷ []) t.begins) ∙ at_last first t.rest (next ∷ []) ∙ t.ends) after in
        let high : other < next = subst (λ i. other < i) (ap (λ i. slice_index_or pushed i 0) here ∙ ap (λ xs. slice_index_or xs (length chosen) 0) is ∙ get_or_push chosen next 0 (length chosen) refl) before in
        let other_inside : other < length corners = omega (arith, high, inside) in
        subst (λ xs. (twice_area (map (point_at corners) (xs ++ other ∷ [])) +ℤ most_added corners first (layers + 1 - (place + 1)) other) <ℤ size) (sym (ap (take (place + 1)) is ∙ ap (λ i. take i (chosen ++ next ∷ [])) here ∙ taken chosen (next ∷ [])))
        (subst (λ m. (twice_area (map (point_at corners) (chosen ++ other ∷ [])) +ℤ most_added corners first m other) <ℤ size) (left_is place (ap (λ i. i + suc more) place_is ∙ t.count))
        (subst (λ z. (z +ℤ most_added corners first more other) <ℤ size) (sym (area_with other other_inside ∙ ap (λ z. covered +ℤ z) (sym (turn_is corners first vectors w last other t.below other_inside))))
        (subst (λ z. (covered +ℤ cross (point_at (map vector_of vectors) last) (point_at (map vector_of vectors) other) +ℤ z) <ℤ size) (most_after-added corners first vectors w more other other_inside) (n.first other low high))))
  ];
}
  where
    inside : next < length corners
    inside = subst (λ m. next < m) (length-map vectors vector_of ∙ w.as_many) n.below

    counted : (m k : ℕ) → m + 1 + k ≡ m + suc k
    counted m k = omega arith

    no_layers : {l : ℕ} → 1 ≤ l → l ≡ 0 → ⊥
    no_layers h e = omega arith

    at_most : {k n : ℕ} → k < n → k ≤ n
    at_most h = omega arith

    at_end : (k : ℕ) {n : ℕ} → k + 1 ≡ suc n → k ≡ n
    at_end k e = omega (arith, e)

    left_is : (k : ℕ) → k + suc more ≡ layers + 1 → more ≡ layers + 1 - (k + 1)
    left_is k e = omega (arith, e)

    read_old : (i : ℕ) → i < length chosen → slice_index_or pushed i 0 ≡ slice_index_or chosen i 0
    read_old i h = ap (λ xs. slice_index_or xs i 0) is ∙ get_or_append_left chosen (next ∷ []) 0 i h

    area_with : (x : ℕ) → x < length corners → twice_area (map (point_at corners) (chosen ++ x ∷ [])) ≡ covered +ℤ turn (point_at corners first) (point_at corners last) (point_at corners x)
    area_with x h =
        ap (λ xs. twice_area (map (point_at corners) (xs ++ x ∷ []))) t.begins ∙ area-push (point_at corners) first t.rest x
        ∙ ap₂ (λ z i. z +ℤ turn (point_at corners first) (point_at corners i) (point_at corners x)) (ap (λ xs. twice_area (map (point_at corners) xs)) (sym t.begins) ∙ t.covers) t.ends

-- where the size is covered, the walk is at its end
pub walk-ends : (corners : List PlanePoint) (layers first : ℕ) (size : ℤ) (chosen : List ℕ) (last more : ℕ) (covered : ℤ) → IsWalk corners layers first size chosen last more covered → size ≤ℤ covered → IsFirstChoice corners layers first size chosen
walk-ends corners layers first size chosen last more covered t all = record {
  some = subst (λ xs. 1 ≤ length xs) (sym t.begins) (one (length t.rest));
  few = subst (λ xs. length xs ≤ layers + 2) (sym t.begins) (few (length t.rest) t.count);
  alone = λ none. ap length t.begins ∙ ap (λ xs. length (first ∷ xs)) (t.alone none);
  begins = ap (λ xs. slice_index_or xs 0 0) t.begins;
  rising = t.rising;
  in_range = t.in_range;
  has_area = t.covers ∙ le_antisymm_ℤ (no_more t.reaches (most_added-nonneg corners first more last)) all;
  none_between = t.none_between;
}
  where
    one : (n : ℕ) → 1 ≤ suc n
    one n = omega arith

    few : (n : ℕ) → n + more ≡ layers + 1 → suc n ≤ layers + 2
    few n e = omega arith

    no_more : {c m s : ℤ} → c +ℤ m ≡ s → pos 0 ≤ℤ m → c ≤ℤ s
    no_more e h = omega (arith, ints)

-- where it is not, there are more corners to come, and layers
pub goes_on : (corners : List PlanePoint) (layers first : ℕ) (best : Best) (chosen : List ℕ) (last more : ℕ) (covered : ℤ) → IsReached corners layers best → IsWalk corners layers first best.area chosen last more covered → covered <ℤ best.area → (1 ≤ more) × (1 ≤ layers)
goes_on corners layers first best chosen last more covered r t unfinished = (by_more more t.reaches, by_layers layers r.alone t)
  where
    by_more : (m : ℕ) → covered +ℤ most_added corners first m last ≡ best.area → 1 ≤ m
    by_more zero e = absurd (none e unfinished)
      where
        none : {c s : ℤ} → c +ℤ pos 0 ≡ s → c <ℤ s → ⊥
        none e h = omega (arith, ints)
    by_more (suc m) e = omega arith

    by_layers : (n : ℕ) → (n ≡ 0 → best.area ≡ pos 0) → IsWalk corners n first best.area chosen last more covered → 1 ≤ n
    by_layers zero alone t = absurd (none (ap (λ xs. twice_area (map (point_at corners) (first ∷ xs))) (t.alone refl)) (sym t.covers ∙ ap (λ xs. twice_area (map (point_at corners) xs)) t.begins) (alone refl) unfinished)
      where
        none : {a c s : ℤ} → a ≡ pos 0 → c ≡ a → s ≡ pos 0 → c <ℤ s → ⊥
        none e f g h = omega (arith, ints)
    by_layers (suc n) alone t = omega arith

-- what is covered so far is not large
pub walk_size : (corners : List PlanePoint) (layers first : ℕ) (size : ℤ) (vectors : List PlaneVector) (chosen : List ℕ) (last more : ℕ) (covered : ℤ) → AreVectorsFrom corners first vectors → IsWalk corners layers first size chosen last more covered → layers ≤ 10 → pos 0 ≤ℤ size → Size (2 ^ 43) size → Size (2 ^ 44) covered
walk_size corners layers first size vectors chosen last more covered w t few some small =
    within (most_added corners first more last) t.reaches (most_added-nonneg corners first more last)
    (subst (λ z. z ≤ℤ pos (more * 549755813888)) (most_after-added corners first vectors w more last t.below) (most_after-high vectors w.short more last (subst (λ n. last < n) (sym w.as_many) t.below)))
    (eleven (length t.rest) t.count few) (below_size small)
  where
    eleven : (n : ℕ) → n + more ≡ layers + 1 → layers ≤ 10 → more ≤ 11
    eleven n e h = omega arith

    within : (m : ℤ) → covered +ℤ m ≡ size → pos 0 ≤ℤ m → m ≤ℤ pos (more * 549755813888) → more ≤ 11 → size ≤ℤ pos (2 ^ 43) → Size (2 ^ 44) covered
    within m e h k l s = record { abs = omega (arith, ints, some) }

-- the next corner of a walk, by the vectors that are read
pub next_is : (corners : List PlanePoint) (layers first : ℕ) (size : ℤ) (vectors : List PlaneVector) (chosen : List ℕ) (last more : ℕ) (covered : ℤ) → AreVectorsFrom corners first vectors → IsWalk corners layers first size chosen last more covered → covered +ℤ most_after (map vector_of vectors) more last ≡ size
next_is corners layers first size vectors chosen last more covered w t = ap (λ z. covered +ℤ z) (most_after-added corners first vectors w more last t.below) ∙ t.reaches
