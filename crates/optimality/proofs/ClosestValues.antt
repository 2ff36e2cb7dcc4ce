-- Among a start and the values of points, the one closest to a bound from below or from above.
use Rattle.std.proofs.Common.{◌≡◌, ◌⊎◌, inl, inr, refl, sym, ap, ◌∙◌, subst, ℕ, ◌<◌, ℤ, ◌*ℤ◌, neg_ℤ, ◌≤ℤ◌, Bool, true, false, List, [], ◌∷◌, length, arith}
use Rattle.std.specs.Prelude.{All, Any, slice_index_or, Decides}
use Rattle.std.proofs.lemmas.Int.{ints, by_lt_z}
use Rattle.std.proofs.lemmas.List.Elements.{All-cons, All-nil}
use Rattle.std.specs.Int.Signed.{≤ℤ_refl}
use Rattle.std.proofs.Math.IntN.{neg_ℤ-neg_ℤ}
use Rattle.integers.proofs.Identities.{den-ring, read, polys}
use Rattle.integers.proofs.Order.{le_by, nonneg_difference, le_trans_ℤ, le_from_lt}
use Rattle.bounds_model.specs.Plane.{PlanePoint}
use Rattle.model_laws.proofs.Decisions.{Decision, both, any-cons, most_ℤ, false-not_true}

-- the value is the start, or that of a point that counts
abbrev pub IsValue : List PlanePoint → (PlanePoint → Type 0) → (PlanePoint → ℤ) → ℤ → ℤ → Type 0
IsValue ps Counts f start value = (value ≡ start) ⊎ Any (λ p. Counts p × (f p ≡ value)) ps

-- what holds of the start and of the values of the points that count holds of the value
pub value_has : (ps : List PlanePoint) (Counts : PlanePoint → Type 0) (f : PlanePoint → ℤ) (start value : ℤ) (P : ℤ → Type 0) → IsValue ps Counts f start value → P start → All (λ p. Counts p → P (f p)) ps → P value
value_has ps Counts f start value P source at_start all = elim source [ inl e ↦ subst P (sym e) at_start | inr a ↦ at_point a.0 a.1 a.2 a.3 a.4 ]
  where
    at_point : (k : ℕ) (p : PlanePoint) → k < length ps → slice_index_or ps k p ≡ p → Counts p × (f p ≡ value) → P value
    at_point k p l e c = subst P c.1 (subst (λ q. Counts q → P (f q)) e (all k p l) c.0)

-- w times, the value is at most the bound, and no other value that is so is greater
pub record ClosestBelow (ps : List PlanePoint) (Counts : PlanePoint → Type 0) (f : PlanePoint → ℤ) (w bound start : ℤ) : Type 0 where
  pub value : ℤ
  pub source : IsValue ps Counts f start value
  pub under : (w *ℤ value) ≤ℤ bound
  pub from_start : start ≤ℤ value
  pub greatest : All (λ p. Counts p → (w *ℤ f p) ≤ℤ bound → f p ≤ℤ value) ps

-- one more point, which takes the value or does not
one_more : (p : PlanePoint) (rest : List PlanePoint) (Counts : PlanePoint → Type 0) (f : PlanePoint → ℤ) (w bound start : ℤ) → (w *ℤ start) ≤ℤ bound
    → ((v : ℤ) → (w *ℤ v) ≤ℤ bound → ClosestBelow rest Counts f w bound v)
    → (takes : Bool) → Decides takes (Counts p × (((w *ℤ f p) ≤ℤ bound) × (start ≤ℤ f p))) → ClosestBelow (p ∷ rest) Counts f w bound start
one_more p rest Counts f w bound start h closest true law =
    let takes = law.0 refl in
    let c = closest (f p) takes.1.0 in
    let Has = λ (q : PlanePoint). Counts q × (f q ≡ c.value) in
    record {
      value = c.value;
      source = elim c.source [ inl e ↦ inr (any-cons Has p rest (inl (takes.0, sym e))) | inr a ↦ inr (any-cons Has p rest (inr a)) ];
      under = c.under;
      from_start = le_trans_ℤ takes.1.1 c.from_start;
      greatest = All-cons (λ q. Counts q → (w *ℤ f q) ≤ℤ bound → f q ≤ℤ c.value) p rest (λ _ _. c.from_start) c.greatest;
    }
one_more p rest Counts f w bound start h closest false law =
    let c = closest start h in
    record {
      value = c.value;
      source = elim c.source [ inl e ↦ inl e | inr a ↦ inr (any-cons (λ q. Counts q × (f q ≡ c.value)) p rest (inr a)) ];
      under = c.under;
      from_start = c.from_start;
      greatest = All-cons (λ q. Counts q → (w *ℤ f q) ≤ℤ bound → f q ≤ℤ c.value) p rest
          (λ counts under. by_lt_z (f p) start (λ less. le_trans_ℤ (le_from_lt less) c.from_start) (λ above. absurd (false-not_true (law.1 (counts, (under, above)))))) c.greatest;
    }

-- where w times the start is at most the bound, there is a closest value
pub closest_below : (ps : List PlanePoint) (Counts : PlanePoint → Type 0) → ((p : PlanePoint) → Decision (Counts p)) → (f : PlanePoint → ℤ) (w bound start : ℤ) → (w *ℤ start) ≤ℤ bound → ClosestBelow ps Counts f w bound start
closest_below [] Counts test f w bound start h = record { value = start; source = inl refl; under = h; from_start = ≤ℤ_refl start; greatest = All-nil (λ p. Counts p → (w *ℤ f p) ≤ℤ bound → f p ≤ℤ start) }
closest_below (p ∷ rest) Counts test f w bound start h =
    let takes = both (test p) (both (most_ℤ (w *ℤ f p) bound) (most_ℤ start (f p))) in
    one_more p rest Counts f w bound start h (λ v k. closest_below rest Counts test f w bound v k) takes.test takes.law

-- w times, the value is at least the bound, and no other value that is so is smaller
pub record ClosestAbove (ps : List PlanePoint) (Counts : PlanePoint → Type 0) (f : PlanePoint → ℤ) (w bound start : ℤ) : Type 0 where
  pub value : ℤ
  pub source : IsValue ps Counts f start value
  pub over : bound ≤ℤ (w *ℤ value)
  pub to_start : value ≤ℤ start
  pub least : All (λ p. Counts p → bound ≤ℤ (w *ℤ f p) → value ≤ℤ f p) ps

-- negatives turn an order of a product
negate_product : (w v b : ℤ) → b ≤ℤ (w *ℤ v) → (w *ℤ neg_ℤ v) ≤ℤ neg_ℤ b
negate_product w v b h = le_by (nonneg_difference h) (read (w ∷ v ∷ b ∷ []) (λ xs a b c. simp (a, b, c, polys) (den-ring xs _ _ tt)))

-- and back
negate_bound : (w v b : ℤ) → (w *ℤ v) ≤ℤ neg_ℤ b → b ≤ℤ (w *ℤ neg_ℤ v)
negate_bound w v b h = le_by (nonneg_difference h) (read (w ∷ v ∷ b ∷ []) (λ xs a b c. simp (a, b, c, polys) (den-ring xs _ _ tt)))

-- where w times the start is at least the bound, there is a closest value: the negative of the closest below, for the negatives
pub closest_above : (ps : List PlanePoint) (Counts : PlanePoint → Type 0) → ((p : PlanePoint) → Decision (Counts p)) → (f : PlanePoint → ℤ) (w bound start : ℤ) → bound ≤ℤ (w *ℤ start) → ClosestAbove ps Counts f w bound start
closest_above ps Counts test f w bound start h =
    let c = closest_below ps Counts test (λ p. neg_ℤ (f p)) w (neg_ℤ bound) (neg_ℤ start) (negate_product w start bound h) in
    record {
      value = neg_ℤ c.value;
      source = elim c.source [ inl e ↦ inl (ap neg_ℤ e ∙ neg_ℤ-neg_ℤ start) | inr a ↦ inr (a.0, a.1, a.2, a.3, (a.4.0, sym (neg_ℤ-neg_ℤ (f a.1)) ∙ ap neg_ℤ a.4.1)) ];
      over = negate_bound w c.value bound c.under;
      to_start = negate_le c.from_start;
      least = λ i d l counts over. negate_le (c.greatest i d l counts (negate_product w (f (slice_index_or ps i d)) bound over));
    }
  where
    negate_le : {a b : ℤ} → neg_ℤ a ≤ℤ b → neg_ℤ b ≤ℤ a
    negate_le h = omega (arith, ints)
