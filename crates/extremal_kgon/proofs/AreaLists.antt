-- The areas of triangles, one after another in a list.
use Rattle.std.proofs.Common.{◌≡◌, refl, sym, subst, ap, ◌∙◌, inl, inr, ℕ, zero, suc, ◌+◌, ◌<◌, ◌≤◌, ◌^◌, arith, ℤ, pos, ◌+ℤ◌, ◌≤ℤ◌, List, [], ◌∷◌, ◌++◌, length}
use Rattle.std.proofs.lemmas.List.{get_or_append_left, get_or_push, length_push}
use Rattle.std.proofs.lemmas.List.Elements.{All-nil, All-push, All-same}
use Rattle.integers.specs.Size.{Size}
use Rattle.integers.proofs.Lists.{below_or_at}
use Rattle.bounds_model.specs.Plane.{PlanePoint}
use Rattle.extremal_kgon.specs.Rows.{at, area_at, pairs_below, AddsAreas, AreAreas, IsBestSum}

-- the pairs below the next number
pub pairs_next : (n : ℕ) → pairs_below (n + 1) ≡ pairs_below n + n
pairs_next n = ap pairs_below (up n)
  where
    up : (n : ℕ) → n + 1 ≡ suc n
    up n = omega arith

-- the pairs with one index end before those with a later one
pub pairs_within : (k n : ℕ) → k < n → pairs_below k + k ≤ pairs_below n
pairs_within k zero low = absurd (omega (arith, low))
pairs_within k (suc n) low = elim (below_or_at k n (subst (λ m. k < m) (up n) low)) [
  | inl less ↦ more (pairs_below k + k) (pairs_below n) n (pairs_within k n less)
  | inr same ↦ subst (λ m. pairs_below m + m ≤ pairs_below n + n) (sym same) (itself (pairs_below n + n))
]
  where
    up : (n : ℕ) → suc n ≡ n + 1
    up n = omega arith

    more : (x y n : ℕ) → x ≤ y → x ≤ y + n
    more x y n h = omega arith

    itself : (x : ℕ) → x ≤ x
    itself x = omega arith

-- there are no more than for 128 indices
pub pairs_limit : (k n : ℕ) → k < n → n ≤ 128 → pairs_below k + k ≤ 8128
pairs_limit k n low few = pairs_within k 128 (under low few)
  where
    under : k < n → n ≤ 128 → k < 128
    under h l = omega arith

-- none yet
pub adds-none : (area : ℕ → ℤ) (old : List ℤ) → AddsAreas area 0 old old
adds-none area old = record { as_many = plain (length old); same = λ k low. refl; each = λ j low. absurd (omega (arith, low)); small = λ all. all }
  where
    plain : (n : ℕ) → n ≡ n + 0
    plain n = omega arith

-- one area more
pub adds-more : (area : ℕ → ℤ) (j : ℕ) (old new pushed : List ℤ) (u : ℤ) → AddsAreas area j old new → pushed ≡ new ++ u ∷ [] → u ≡ area j → Size (2 ^ 39) u → AddsAreas area (j + 1) old pushed
adds-more area j old new pushed u h is value size = subst (AddsAreas area (j + 1) old) (sym is) (record {
  as_many = length_push new u ∙ ap (λ n. n + 1) h.as_many ∙ together (length old) j;
  same = λ k low. get_or_append_left new (u ∷ []) (pos 0) k (before low h.as_many) ∙ h.same k low;
  each = λ k low. elim (below_or_at k j low) [
    | inl less ↦ get_or_append_left new (u ∷ []) (pos 0) (length old + k) (inside (length old) less h.as_many) ∙ h.each k less
    | inr same ↦ subst (λ m. at (new ++ u ∷ []) (length old + m) ≡ area m) (sym same) (get_or_push new u (pos 0) (length old + j) h.as_many ∙ value)
  ];
  small = λ all. All-push (Size (2 ^ 39)) new u (h.small all) size;
})
  where
    together : (n j : ℕ) → n + j + 1 ≡ n + (j + 1)
    together n j = omega arith

    before : {k m n : ℕ} → k < m → n ≡ m + j → k < n
    before h e = omega arith

    inside : (m : ℕ) {k n : ℕ} → k < j → n ≡ m + j → m + k < n
    inside m h e = omega arith

-- the areas of no vector
pub areas-none : (vectors : List PlanePoint) (areas : List ℤ) → areas ≡ [] → AreAreas vectors 0 areas
areas-none vectors areas is = record { as_many = ap length is; each = λ i low. absurd (omega (arith, low)); small = All-same (Size (2 ^ 39)) areas [] is (All-nil (Size (2 ^ 39))) }

-- those of one vector more
pub areas-more : (vectors : List PlanePoint) (i : ℕ) (old new : List ℤ) → AreAreas vectors i old → AddsAreas (area_at vectors i) i old new → AreAreas vectors (i + 1) new
areas-more vectors i old new h more = record {
  as_many = more.as_many ∙ ap (λ n. n + i) h.as_many ∙ sym (pairs_next i);
  each = λ k low j earlier. elim (below_or_at k i low) [
    | inl less ↦ more.same (pairs_below k + j) (subst (λ n. pairs_below k + j < n) (sym h.as_many) (inside (pairs_below k) (pairs_below i) j k earlier (pairs_within k i less))) ∙ h.each k less j earlier
    | inr same ↦ subst (λ n. at new (n + j) ≡ area_at vectors k j) (h.as_many ∙ ap pairs_below (sym same)) (more.each j (subst (λ n. j < n) same earlier) ∙ ap (λ n. area_at vectors n j) (sym same))
  ];
  small = more.small h.small;
}
  where
    inside : (x y j k : ℕ) → j < k → x + k ≤ y → x + j < y
    inside x y j k h l = omega arith

-- the same best sum, with areas that are the same
pub best_sum-as : (f g : ℕ → ℤ) (before : List ℤ) (i : ℕ) (u : ℤ) → ((j : ℕ) → j < i → f j ≡ g j) → IsBestSum f before i u → IsBestSum g before i u
best_sum-as f g before i u same r = record {
  not_negative = r.not_negative;
  grows = λ j low. subst (λ z. (at before j +ℤ z) ≤ℤ u) (same j low) (r.grows j low);
  reached = elim r.reached [
    | inl none ↦ inl none
    | inr some ↦ inr (some.0, record { earlier = some.1.earlier; sum = some.1.sum ∙ ap (λ z. at before some.0 +ℤ z) (same some.0 some.1.earlier) })
  ];
}
