-- The heights are listed key by key, in an order from below.
use Rattle.std.proofs.Common.{◌≡◌, inl, inr, refl, sym, subst, ap, ◌∙◌, ℕ, ◌+◌, ◌-◌, ◌<◌, ◌≤◌, ℤ, pos, ◌-ℤ◌, ◌≤ℤ◌, ◌<ℤ◌, List, [], ◌∷◌, ◌++◌, length, All, Any, Contains, arith}
use Rattle.std.specs.Prelude.{slice_index_or}
use Rattle.std.proofs.lemmas.Int.{ints, by_lt_z}
use Rattle.std.proofs.lemmas.List.{length_push, get_or_append_left, get_or_push, get_or_default}
use Rattle.std.proofs.lemmas.List.Elements.{All-nil, All-push, Contains-get_or}
use Rattle.integers.proofs.Lists.{before_or_after, below_or_at}
use Rattle.bounds_model.specs.Numbers.{IsWithin}
use Rattle.bounds_model.specs.Plane.{PlanePoint, origin, plane_limit}
use Rattle.four_centres.specs.declared.orders.Key.{Key}
use Rattle.four_centres.specs.Orders.{key_at, point_in, coordinate_of, IsOrder}
use Rattle.four_centres.specs.Heights.{IsHeightUpTo, AreHeightsUpTo, IsNotLast}
use Rattle.four_centres.proofs.Places.{at_some_place}
use Rattle.four_centres.proofs.Spans.{in_plane}

-- ---- heights

-- the heights at the first i places of an order from below
pub record AreHeightsOf (top : ℤ) (points : List PlanePoint) (order : List Key) (i : ℕ) (heights : List ℤ) : Type 0 where
  pub each : All (IsHeightUpTo top points) heights
  pub all : (place : ℕ) → place < i → Contains heights (coordinate_of (key_at order place))
  pub ascending : (j k : ℕ) (d : ℤ) → j < k → k < length heights → slice_index_or heights j d <ℤ slice_index_or heights k d
  pub few : length heights ≤ i
  pub plane : All (IsWithin plane_limit) heights
  pub below : (d : ℤ) (place : ℕ) → 0 < length heights → i ≤ place → place < length order → slice_index_or heights (length heights - 1) d ≤ℤ coordinate_of (key_at order place)

pub no_heights : (top : ℤ) (points : List PlanePoint) (order : List Key) (heights : List ℤ) → heights ≡ [] → AreHeightsOf top points order 0 heights
no_heights top points order heights is = subst (AreHeightsOf top points order 0) (sym is) (record {
  each = All-nil (IsHeightUpTo top points);
  all = λ place low. absurd (omega (arith, low));
  ascending = λ j k d l b. absurd (omega (arith, b));
  few = omega arith;
  plane = All-nil (IsWithin plane_limit);
  below = λ d place some from to. absurd (omega (arith, some));
})

contains_more : (xs : List ℤ) (y x : ℤ) → Contains xs x → Contains (xs ++ y ∷ []) x
contains_more xs y x h = (h.0, longer h.1, get_or_append_left xs (y ∷ []) x h.0 h.1 ∙ h.2)
  where
    longer : {k : ℕ} → k < length xs → k < length (xs ++ y ∷ [])
    longer l = let e = length_push xs y in omega (arith, l, e)

contains_last : (xs : List ℤ) (y : ℤ) → Contains (xs ++ y ∷ []) y
contains_last xs y = (length xs, inside, get_or_push xs y y (length xs) refl)
  where
    inside : length xs < length (xs ++ y ∷ [])
    inside = let e = length_push xs y in omega (arith, e)

le_trans : (a b c : ℤ) → a ≤ℤ b → b ≤ℤ c → a ≤ℤ c
le_trans a b c h k = omega (arith, ints, h, k)

rank_le : (a b : ℕ) → a ≤ b → (pos a -ℤ pos 200000) ≤ℤ (pos b -ℤ pos 200000)
rank_le a b h = omega (arith, ints, h)

-- the coordinate at a place is the y of a point
met : (points : List PlanePoint) (order : List Key) (place : ℕ) → IsOrder (λ p. p.y) points order → place < length order → Any (λ p. p.y ≡ coordinate_of (key_at order place)) points
met points order place h below =
    let key = key_at order place in
    let listed = Contains-get_or points key.number origin (h.names.each place (record { rank = 0; number = 0 }) below) in
    (listed.0, point_in points order place, listed.1, listed.2, sym (h.values place (record { rank = 0; number = 0 }) below).value)

-- a height that is above the last one
pub height_more : (top : ℤ) (points : List PlanePoint) (order : List Key) (i : ℕ) (heights pushed : List ℤ) (height : ℤ) → IsOrder (λ p. p.y) points order → i < length order → AreHeightsOf top points order i heights
    → height ≡ coordinate_of (key_at order i) → height ≤ℤ top → IsNotLast heights height → pushed ≡ heights ++ height ∷ [] → AreHeightsOf top points order (i + 1) pushed
height_more top points order i heights pushed height are inside h is to new pushed_is = subst (AreHeightsOf top points order (i + 1)) (sym pushed_is) (record {
  each = All-push (IsHeightUpTo top points) heights height h.each (record { to = to; meets = subst (λ y. Any (λ p. p.y ≡ y) points) (sym is) (met points order i are inside) });
  all = λ place low. elim (below_or_at place i low) [
    | inl sooner ↦ contains_more heights height (coordinate_of (key_at order place)) (h.all place sooner)
    | inr now ↦ subst (Contains (heights ++ height ∷ [])) (is ∙ ap (λ k. coordinate_of (key_at order k)) (sym now)) (contains_last heights height)
  ];
  ascending = λ j k d l b. elim (below_or_at k (length heights) (subst (λ n. k < n) (length_push heights height) b)) [
    | inl sooner ↦ both (sym (get_or_append_left heights (height ∷ []) d j (omega (arith, l, sooner)))) (sym (get_or_append_left heights (height ∷ []) d k sooner)) (h.ascending j k d l sooner)
    | inr now ↦
        let j_in : j < length heights = omega (arith, l, now) in
        both (sym (get_or_append_left heights (height ∷ []) d j j_in)) (sym (ap (λ n. slice_index_or (heights ++ height ∷ []) n d) now ∙ get_or_push heights height d (length heights) refl)) (below_new d j j_in)
  ];
  few = (let e = length_push heights height in let f = h.few in omega (arith, e, f));
  plane = All-push (IsWithin plane_limit) heights height h.plane (subst (IsWithin plane_limit) (sym is) (in_plane (key_at order i) (are.values i (record { rank = 0; number = 0 }) inside).limit));
  below = λ d place some from last. rank_from place from last d;
})
  where
    both : {a b c d : ℤ} → a ≡ b → c ≡ d → a <ℤ c → b <ℤ d
    both {a} {b} {c} {d} e f l = subst (λ x. x <ℤ d) e (subst (λ y. a <ℤ y) f l)

    below_new : (d : ℤ) (j : ℕ) → j < length heights → slice_index_or heights j d <ℤ height
    below_new d j l = elim (before_or_after j (length heights - 1)) [
      | inl sooner ↦ lt_trans (h.ascending j (length heights - 1) d sooner (omega (arith, l))) (new d (omega (arith, l)))
      | inr late ↦ subst (λ k. slice_index_or heights k d <ℤ height) (omega (arith, l, late)) (new d (omega (arith, l)))
    ]
      where
        lt_trans : {a b c : ℤ} → a <ℤ b → b <ℤ c → a <ℤ c
        lt_trans p q = omega (arith, ints, p, q)

    rank_from : (place : ℕ) → i + 1 ≤ place → place < length order → (d : ℤ) → slice_index_or (heights ++ height ∷ []) (length (heights ++ height ∷ []) - 1) d ≤ℤ coordinate_of (key_at order place)
    rank_from place from last d =
        subst (λ v. v ≤ℤ coordinate_of (key_at order place)) (sym (ap (λ n. slice_index_or (heights ++ height ∷ []) n d) last_is ∙ get_or_push heights height d (length heights) refl ∙ is))
        (rank_le (key_at order i).rank (key_at order place).rank (are.sorted i place (record { rank = 0; number = 0 }) (omega (arith, from)) last))
      where
        last_is : length (heights ++ height ∷ []) - 1 ≡ length heights
        last_is = let e = length_push heights height in omega (arith, e)

-- one that is not: it is the last one again
pub height_again : (top : ℤ) (points : List PlanePoint) (order : List Key) (i : ℕ) (heights : List ℤ) (height : ℤ) → IsOrder (λ p. p.y) points order → i < length order → AreHeightsOf top points order i heights
    → height ≡ coordinate_of (key_at order i) → ¬ IsNotLast heights height → AreHeightsOf top points order (i + 1) heights
height_again top points order i heights height are inside h is old = record {
  each = h.each;
  all = λ place low. elim (below_or_at place i low) [
    | inl sooner ↦ h.all place sooner
    | inr now ↦ subst (λ k. Contains heights (coordinate_of (key_at order k))) (sym now) here
  ];
  ascending = h.ascending;
  few = (let f = h.few in omega (arith, f));
  plane = h.plane;
  below = λ d place some from last. h.below d place some (omega (arith, from)) last;
}
  where
    value : ℤ
    value = coordinate_of (key_at order i)

    -- the last height is not below this one
    some : ((d : ℤ) → 0 < length heights → ¬ (slice_index_or heights (length heights - 1) d <ℤ height)) × (0 < length heights)
    some = elim (before_or_after 0 (length heights)) [
      | inl l ↦ (λ d _ less. old (λ e _. subst (λ v. v <ℤ height) (get_or_default heights (length heights - 1) d e (omega (arith, l))) less), l)
      | inr none ↦ absurd (old (λ e l. absurd (omega (arith, none, l))))
    ]

    equal : (a b : ℤ) → ¬ (a <ℤ b) → a ≤ℤ b → a ≡ b
    equal a b n l = by_lt_z a b (λ less. absurd (n less)) (λ more. antisym a b l more)
      where
        antisym : (a b : ℤ) → a ≤ℤ b → b ≤ℤ a → a ≡ b
        antisym a b h k = omega (arith, ints, h, k)

    here : Contains heights value
    here =
        let l = some.1 in
        (length heights - 1, omega (arith, l), equal (slice_index_or heights (length heights - 1) value) value (λ less. some.0 value l (subst (λ v. slice_index_or heights (length heights - 1) value <ℤ v) (sym is) less)) (h.below value i l (omega arith) inside))

-- all heights, where no later place has one
pub heights_done : (top : ℤ) (points : List PlanePoint) (order : List Key) (i : ℕ) (heights : List ℤ) → IsOrder (λ p. p.y) points order → i ≤ length order → ((place : ℕ) → i ≤ place → place < length order → top <ℤ coordinate_of (key_at order place))
    → AreHeightsOf top points order i heights → AreHeightsUpTo top points heights
heights_done top points order i heights are within past h = record {
  each = h.each;
  all = λ y height.
      let point = height.meets in
      let place = at_some_place points order are.names point.0 point.2 in
      let is : coordinate_of (key_at order place.0) ≡ y = (are.values place.0 (record { rank = 0; number = 0 }) place.1).value ∙ ap (λ p. p.y) (place.2 ∙ get_or_default points point.0 origin point.1 point.2 ∙ point.3) ∙ point.4 in
      elim (before_or_after place.0 i) [
        | inl sooner ↦ subst (Contains heights) is (h.all place.0 sooner)
        | inr late ↦ absurd (not_above y height.to (subst (λ v. top <ℤ v) is (past place.0 late place.1)))
      ];
  ascending = h.ascending;
  few = (let f = h.few in let e = are.names.as_many in omega (arith, f, e, within));
  plane = h.plane;
}
  where
    not_above : (y : ℤ) → y ≤ℤ top → top <ℤ y → ⊥
    not_above y h k = omega (arith, ints, h, k)

-- past a place whose coordinate is higher all are
pub past_all : (top : ℤ) (points : List PlanePoint) (order : List Key) (i : ℕ) → IsOrder (λ p. p.y) points order → top <ℤ coordinate_of (key_at order i) → (place : ℕ) → i ≤ place → place < length order → top <ℤ coordinate_of (key_at order place)
past_all top points order i are above place from last = further (coordinate_of (key_at order i)) (coordinate_of (key_at order place)) above (rank_le (key_at order i).rank (key_at order place).rank (are.sorted i place (record { rank = 0; number = 0 }) from last))
  where
    further : (a b : ℤ) → top <ℤ a → a ≤ℤ b → top <ℤ b
    further a b h k = omega (arith, ints, h, k)
