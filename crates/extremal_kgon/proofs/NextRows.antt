-- A row, number by number.
use Rattle.std.proofs.Common.{◌≡◌, refl, sym, subst, ap, ◌∙◌, inl, inr, ℕ, zero, suc, ◌+◌, ◌<◌, arith, ℤ, pos, List, [], ◌∷◌, ◌++◌, length}
use Rattle.std.proofs.lemmas.List.{get_or_append_left, get_or_push, length_push}
use Rattle.integers.proofs.Lists.{below_or_at}
use Rattle.bounds_model.specs.Plane.{PlanePoint}
use Rattle.extremal_kgon.specs.Rows.{at, area_at, IsBestSum, IsNextRow, IsZeroRow}

-- the first numbers of a row
pub record IsRowSoFar (vectors : List PlanePoint) (before row : List ℤ) (i : ℕ) : Type 0 where
  pub as_many : length row ≡ i
  pub each : (k : ℕ) → k < i → IsBestSum (area_at vectors k) before k (at row k)

-- one number more
pub row-more : (vectors : List PlanePoint) (before row pushed : List ℤ) (i : ℕ) (u : ℤ) → IsRowSoFar vectors before row i → IsBestSum (area_at vectors i) before i u → pushed ≡ row ++ u ∷ [] → IsRowSoFar vectors before pushed (i + 1)
row-more vectors before row pushed i u r best_sum is = subst (λ p. IsRowSoFar vectors before p (i + 1)) (sym is) (record {
  as_many = length_push row u ∙ ap (λ n. n + 1) r.as_many;
  each = λ k low. elim (below_or_at k i low) [
    | inl less ↦ subst (IsBestSum (area_at vectors k) before k) (sym (get_or_append_left row (u ∷ []) (pos 0) k (in_row less r.as_many))) (r.each k less)
    | inr same ↦ subst (λ n. IsBestSum (area_at vectors n) before n (at (row ++ u ∷ []) n)) (sym same) (subst (IsBestSum (area_at vectors i) before i) (sym (get_or_push row u (pos 0) i r.as_many)) best_sum)
  ];
})
  where
    in_row : {k n : ℕ} → k < i → n ≡ i → k < n
    in_row h e = omega arith

-- one 0 more
pub zeros-more : (row pushed : List ℤ) (i : ℕ) → IsZeroRow i row → pushed ≡ row ++ pos 0 ∷ [] → IsZeroRow (i + 1) pushed
zeros-more row pushed i r is = subst (IsZeroRow (i + 1)) (sym is) (record {
  as_many = length_push row (pos 0) ∙ ap (λ n. n + 1) r.as_many;
  zero = zero_pushed row r.zero;
})
  where
    zero_pushed : (row : List ℤ) → ((k : ℕ) → at row k ≡ pos 0) → (k : ℕ) → at (row ++ pos 0 ∷ []) k ≡ pos 0
    zero_pushed [] z k = one_zero k
      where
        one_zero : (k : ℕ) → at (pos 0 ∷ []) k ≡ pos 0
        one_zero zero = refl
        one_zero (suc k) = refl
    zero_pushed (x ∷ xs) z zero = z 0
    zero_pushed (x ∷ xs) z (suc k) = zero_pushed xs (λ j. z (suc j)) k

-- none yet
pub row-none : (vectors : List PlanePoint) (before row : List ℤ) → row ≡ [] → IsRowSoFar vectors before row 0
row-none vectors before row is = record { as_many = ap length is; each = λ k low. absurd (omega arith) }

-- the whole row
pub whole_row : (vectors : List PlanePoint) (before row : List ℤ) (i : ℕ) → IsRowSoFar vectors before row i → i ≡ length vectors → IsNextRow vectors before row
whole_row vectors before row i r is = record { as_many = r.as_many ∙ is; each = λ k low. r.each k (subst (λ n. k < n) r.as_many low) }
