-- The greatest of what the earlier numbers and their areas come to, one after another.
use Rattle.std.proofs.Common.{◌≡◌, refl, sym, subst, ◌∙◌, ◌⊎◌, inl, inr, ℕ, ◌+◌, ◌<◌, arith, ℤ, pos, ◌+ℤ◌, ◌≤ℤ◌, ◌<ℤ◌, List}
use Rattle.std.proofs.lemmas.Int.{ints}
use Rattle.std.proofs.Common.{int_cmp, cond, Ordering}
use Rattle.std.specs.declared.cmp.Ordering.TheVariants.{Less, Equal, Greater}
use Rattle.std.specs.Ordering.{ord_max, is_lt, MatchOrdering}
use Rattle.std.specs.Cmp.{int_ranks}
use Rattle.integers.proofs.Lists.{below_or_at}
use Rattle.integers.proofs.Order.{le_trans_ℤ}
use Rattle.extremal_kgon.specs.Rows.{at, IsBestSum}

-- none comes to less than 0
pub best_sum-none : (area : ℕ → ℤ) (before : List ℤ) → IsBestSum area before 0 (pos 0)
best_sum-none area before = record { not_negative = omega (arith, ints); grows = λ j low. absurd (omega arith); reached = inl refl }

-- the greater of these and what one more earlier number comes to
pub best_sum-more : (area : ℕ → ℤ) (before : List ℤ) (i : ℕ) (u v r : ℤ) → IsBestSum area before i u → v ≡ at before i +ℤ area i → u ≤ℤ r → v ≤ℤ r → (r ≡ u) ⊎ (r ≡ v) → IsBestSum area before (i + 1) r
best_sum-more area before i u v r so_far is below_u below_v pick = record {
  not_negative = le_trans_ℤ so_far.not_negative below_u;
  grows = λ j low. elim (below_or_at j i low) [
    | inl less ↦ le_trans_ℤ (so_far.grows j less) below_u
    | inr same ↦ subst (λ n. (at before n +ℤ area n) ≤ℤ r) (sym same) (subst (λ s. s ≤ℤ r) is below_v)
  ];
  reached = elim pick [
    | inl old ↦ elim so_far.reached [
      | inl none ↦ inl (old ∙ none)
      | inr at_some ↦ inr (at_some.0, record { earlier = later at_some.1.earlier; sum = old ∙ at_some.1.sum })
    ]
    | inr new ↦ inr (i, record { earlier = omega arith; sum = new ∙ is })
  ];
}
  where
    later : {j i : ℕ} → j < i → j < i + 1
    later h = omega arith

-- the greater of two numbers
record IsGreater (x y r : ℤ) : Type 0 where
  above_first : x ≤ℤ r
  above_second : y ≤ℤ r
  one : (r ≡ x) ⊎ (r ≡ y)

greater : (o : Ordering) (x y : ℤ) → MatchOrdering o (y <ℤ x) (y ≡ x) (x <ℤ y) → IsGreater x y (cond (is_lt o) x y)
greater Less x y h = record { above_first = omega (arith, ints); above_second = omega (arith, ints); one = inl refl }
greater Equal x y h = record { above_first = omega (arith, ints); above_second = omega (arith, ints); one = inr refl }
greater Greater x y h = record { above_first = omega (arith, ints); above_second = omega (arith, ints); one = inr refl }

-- the same where the greater one is found by `max`
pub best_sum-max : (area : ℕ → ℤ) (before : List ℤ) (i : ℕ) (u v r : ℤ) → IsBestSum area before i u → r ≡ ord_max int_cmp u v → v ≡ at before i +ℤ area i → IsBestSum area before (i + 1) r
best_sum-max area before i u v r so_far is sum =
    let g : IsGreater u v r = subst (IsGreater u v) (sym is) (greater (int_cmp v u) u v (int_ranks v u)) in
    best_sum-more area before i u v r so_far sum g.above_first g.above_second g.one
