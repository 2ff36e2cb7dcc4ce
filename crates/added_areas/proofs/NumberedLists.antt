-- Lists of which each element has a property that depends on its index.
use Rattle.std.proofs.Common.{◌≡◌, refl, sym, subst, ap, ℕ, ◌<◌, inl, inr, arith, List, [], ◌∷◌, ◌++◌, length}
use Rattle.std.specs.Prelude.{slice_index_or}
use Rattle.std.proofs.lemmas.List.{get_or_append_left, get_or_push, length_push}
use Rattle.integers.proofs.Lists.{below_or_at}
use Rattle.bounds_model.specs.Numbers.{AllNumbered}

-- nothing is asked of a list that is empty
pub numbered-nil : {X : Type 0} (P : ℕ → X → Type 0) (xs : List X) → xs ≡ [] → AllNumbered P xs
numbered-nil P xs is = λ k d low. absurd (none low (ap length is))
  where
    none : {k n : ℕ} → k < n → n ≡ 0 → ⊥
    none h e = omega arith

-- one element more
pub numbered-push : {X : Type 0} (P : ℕ → X → Type 0) (xs pushed : List X) (x : X) → pushed ≡ xs ++ x ∷ [] → AllNumbered P xs → P (length xs) x → AllNumbered P pushed
numbered-push P xs pushed x is all here = subst (AllNumbered P) (sym is) (λ k d low. elim (below_or_at k (length xs) (subst (λ n. k < n) (length_push xs x) low)) [
  | inl less ↦ subst (P k) (sym (get_or_append_left xs (x ∷ []) d k less)) (all k d less)
  | inr same ↦ subst (λ n. P n (slice_index_or (xs ++ x ∷ []) n d)) (sym same) (subst (P (length xs)) (sym (get_or_push xs x d (length xs) refl)) here)
])
