-- A step of the walk: where the vectors are dependent, or the weights that balance them are not all at least 1, some vectors can be dropped at no loss of value.
use Rattle.std.proofs.Common.{◌≡◌, sym, ◌∙◌, ap, ap₂, subst, ℕ, ◌≤◌, ◌<◌, ℤ, pos, ◌+ℤ◌, ◌-ℤ◌, ◌*ℤ◌, neg_ℤ, ◌≤ℤ◌, ◌<ℤ◌, List, [], ◌∷◌, length, arith}
use Rattle.std.specs.Prelude.{All}
use Rattle.std.proofs.lemmas.Int.{ints}
use Rattle.std.proofs.lemmas.List.{length-map}
use Rattle.integers.proofs.Identities.{den-ring, read, polys, lits}
use Rattle.integers.proofs.Order.{le_from_lt, positive_from_one, positive_mul, nonneg_mul}
use Rattle.bounds_model.specs.Space.{SpacePoint, origin, dot, plus, times, squared_length}
use Rattle.bounds_model.specs.Fractions.{Fraction, IsAtMost}
use Rattle.bounds_model.specs.Slacks.{WeightedVector, mass, moment, second_moment, slack, value}
use Rattle.corral.specs.Parts.{IsPart}
use Rattle.corral.specs.Supports.{support_vectors}
use Rattle.corral.proofs.Values.{squared_length-blend, towards_is_no_less, along_is_no_less}
use Rattle.corral.proofs.Moments.{mean_is}
use Rattle.corral.proofs.Parts.{part_map}
use Rattle.corral.proofs.Insertions.{IsInserted, at_inserted, inserted_map}
use Rattle.corral.proofs.Blends.{Numbered, by_weight, by_number, blended, vectors-blended, mass-blended, second_moment-blended, moment-blended}
use Rattle.corral.proofs.Kept.{kept, kept_part, kept_shorter, kept_weights, mass-kept, value-kept}
use Rattle.corral.proofs.Ratios.{HasLeast, has_least, least_not_positive, least_negative, blend_not_negative, blend_zero}

-- fewer weighted vectors of no less value
pub record HasFewer (quadratic : ℤ) (items : List WeightedVector) : Type 0 where
  pub fewer : List WeightedVector
  pub is_part : IsPart (support_vectors fewer) (support_vectors items)
  pub shorter : length fewer < length items
  pub some : 1 ≤ length fewer
  pub weights : All (λ item. pos 1 ≤ℤ item.weight) fewer
  pub no_less : IsAtMost (value quadratic items) (value quadratic fewer)

-- ---- what a blend makes 0 is dropped

-- a list of mass above 0 is not empty
some_from_mass : (items : List WeightedVector) → pos 0 <ℤ mass items → 1 ≤ length items
some_from_mass [] h = absurd (never h)
  where
    never : pos 0 <ℤ pos 0 → ⊥
    never h = omega (arith, ints)
some_from_mass (item ∷ items) h = omega arith

-- the least number by its weight makes a blend with a weight of 0, which is dropped
drop_least : (quadratic : ℤ) (ts : List Numbered) (h : HasLeast ts)
    → pos 0 <ℤ mass (blended (neg_ℤ h.at.number) h.at.weight ts)
    → IsAtMost (value quadratic (by_weight ts)) (value quadratic (blended (neg_ℤ h.at.number) h.at.weight ts))
    → HasFewer quadratic (by_weight ts)
drop_least quadratic ts h heavy no_less =
    let k = neg_ℤ h.at.number in
    let l = h.at.weight in
    let blend = blended k l ts in
    record {
      fewer = kept blend;
      is_part = subst (λ vs. IsPart (support_vectors (kept blend)) vs) (vectors-blended k l ts) (part_map (λ item. item.vector) (kept_part blend));
      shorter = short ts (length-map ts (λ t. record { weight = k *ℤ t.weight +ℤ l *ℤ t.number; vector = t.vector })) (kept_shorter (inserted_map (λ t. record { weight = k *ℤ t.weight +ℤ l *ℤ t.number; vector = t.vector }) h.inserted) (blend_zero h.at));
      some = some_from_mass (kept blend) (subst (λ m. pos 0 <ℤ m) (sym (mass-kept blend)) heavy);
      weights = kept_weights blend (blend_not_negative h.at ts h.least);
      no_less = subst (λ v. IsAtMost (value quadratic (by_weight ts)) v) (sym (value-kept quadratic blend)) no_less;
    }
  where
    short : (ts : List Numbered) {m n : ℕ} → n ≡ length ts → m < n → m < length (by_weight ts)
    short ts e h = let f : length (by_weight ts) ≡ length ts = length-map ts (λ (t : Numbered). record { weight = t.weight; vector = t.vector }) in omega arith

-- ---- the values of blends

without : (a l n : ℤ) → n ≡ pos 0 → a +ℤ l *ℤ n ≡ a
without a l n e = ap (λ n. a +ℤ l *ℤ n) e ∙ plain a l
  where
    plain : (a l : ℤ) → a +ℤ l *ℤ pos 0 ≡ a
    plain a l = omega (arith, ints)

mass-along : (k l : ℤ) (ts : List Numbered) → mass (by_number ts) ≡ pos 0 → mass (blended k l ts) ≡ k *ℤ mass (by_weight ts)
mass-along k l ts none = mass-blended k l ts ∙ without (k *ℤ mass (by_weight ts)) l (mass (by_number ts)) none

-- by the sums of the weights and of the numbers
value-blended : (quadratic k l : ℤ) (ts : List Numbered) → (let u = by_weight ts in let w = by_number ts in
    value quadratic (blended k l ts) ≡ (let v : Fraction = record {
      n = quadratic *ℤ ((k *ℤ mass u +ℤ l *ℤ mass w) *ℤ (k *ℤ second_moment u +ℤ l *ℤ second_moment w)) -ℤ (k *ℤ k *ℤ squared_length (moment u) +ℤ pos 2 *ℤ (k *ℤ l *ℤ dot (moment u) (moment w)) +ℤ l *ℤ l *ℤ squared_length (moment w));
      d = (k *ℤ mass u +ℤ l *ℤ mass w) *ℤ (k *ℤ mass u +ℤ l *ℤ mass w);
    } in v))
value-blended quadratic k l ts =
    let u = by_weight ts in
    let w = by_number ts in
    ap₂ (λ m q. record { n = quadratic *ℤ (m *ℤ q) -ℤ squared_length (moment (blended k l ts)); d = m *ℤ m }) (mass-blended k l ts) (second_moment-blended k l ts)
    ∙ ap (λ s. record { n = quadratic *ℤ ((k *ℤ mass u +ℤ l *ℤ mass w) *ℤ (k *ℤ second_moment u +ℤ l *ℤ second_moment w)) -ℤ s; d = (k *ℤ mass u +ℤ l *ℤ mass w) *ℤ (k *ℤ mass u +ℤ l *ℤ mass w) })
    (ap squared_length (moment-blended k l ts) ∙ squared_length-blend k l (moment u) (moment w))

-- where numbers have the sum 0 and the weighted sum 0
value-along : (quadratic k l : ℤ) (ts : List Numbered) → mass (by_number ts) ≡ pos 0 → moment (by_number ts) ≡ origin → (let u = by_weight ts in
    value quadratic (blended k l ts) ≡ (let v : Fraction = record {
      n = quadratic *ℤ ((k *ℤ mass u) *ℤ (k *ℤ second_moment u +ℤ l *ℤ second_moment (by_number ts))) -ℤ k *ℤ k *ℤ squared_length (moment u);
      d = (k *ℤ mass u) *ℤ (k *ℤ mass u);
    } in v))
value-along quadratic k l ts none still =
    let u = by_weight ts in
    ap₂ (λ m q. record { n = quadratic *ℤ (m *ℤ q) -ℤ squared_length (moment (blended k l ts)); d = m *ℤ m }) (mass-along k l ts none) (second_moment-blended k l ts)
    ∙ ap (λ s. record { n = quadratic *ℤ ((k *ℤ mass u) *ℤ (k *ℤ second_moment u +ℤ l *ℤ second_moment (by_number ts))) -ℤ s; d = (k *ℤ mass u) *ℤ (k *ℤ mass u) })
    (ap squared_length (moment-blended k l ts ∙ ap (λ s. plus (times k (moment u)) (times l s)) still) ∙ scaled_length k l (moment u))
  where
    scaled_length : (k l : ℤ) (a : SpacePoint) → squared_length (plus (times k a) (times l origin)) ≡ k *ℤ k *ℤ squared_length a
    scaled_length k l a = read (k ∷ l ∷ a.x ∷ a.y ∷ a.z ∷ []) (λ xs p q r s t. simp (p, q, r, s, t, polys, lits xs) (den-ring xs _ _ tt))

-- ---- dropping

-- towards numbers under which all vectors have one slack, where one of them is at most 0
pub drop_towards : (quadratic p : ℤ) (ts : List Numbered) → 1 ≤ length ts → All (λ t. pos 1 ≤ℤ t.weight) ts
    → pos 0 <ℤ mass (by_weight ts) → pos 0 <ℤ mass (by_number ts)
    → All (λ item. slack quadratic (by_number ts) item.vector ≡ p) (by_weight ts)
    → All (λ item. slack quadratic (by_number ts) item.vector ≡ p) (by_number ts)
    → IsAtMost (value quadratic (by_weight ts)) (value quadratic (by_number ts))
    → {s : Numbered} {rest : List Numbered} → IsInserted s rest ts → s.number ≤ℤ pos 0
    → HasFewer quadratic (by_weight ts)
drop_towards quadratic p ts some weights heavy_u heavy_w level_u level_w best {s} at low =
    let h = has_least ts some weights in
    let u = by_weight ts in
    let w = by_number ts in
    let one = at_inserted (λ (t : Numbered). pos 1 ≤ℤ t.weight) h.inserted weights in
    let n = least_not_positive h.at s one (at_inserted (λ (t : Numbered). pos 1 ≤ℤ t.weight) at weights) (at_inserted (λ (t : Numbered). (h.at.number *ℤ t.weight) ≤ℤ (t.number *ℤ h.at.weight)) at h.least) low in
    let k = turned n in
    let l = le_from_lt (positive_from_one one) in
    drop_least quadratic ts h
    (subst (λ m. pos 0 <ℤ m) (sym (mass-blended (neg_ℤ h.at.number) h.at.weight ts)) (swapped (positive_mul (positive_from_one one) heavy_w) (nonneg_mul k (le_from_lt heavy_u))))
    (subst (λ v. IsAtMost (value quadratic u) v) (sym (value-blended quadratic (neg_ℤ h.at.number) h.at.weight ts))
    (towards_is_no_less quadratic (mass w) (second_moment w) (squared_length (moment w)) (mass u) (second_moment u) (squared_length (moment u)) (dot (moment u) (moment w)) p (neg_ℤ h.at.number) h.at.weight heavy_w heavy_u k l
    (mean_is quadratic w w p level_w) (mean_is quadratic w u p level_u) best))
  where
    swapped : {a b : ℤ} → pos 0 <ℤ a → pos 0 ≤ℤ b → pos 0 <ℤ (b +ℤ a)
    swapped h k = omega (arith, ints)

    turned : {n : ℤ} → n ≤ℤ pos 0 → pos 0 ≤ℤ neg_ℤ n
    turned h = omega (arith, ints)

-- along numbers with the sum 0 and the weighted sum 0, of which one is below 0
pub drop_along : (quadratic : ℤ) (ts : List Numbered) → 1 ≤ length ts → All (λ t. pos 1 ≤ℤ t.weight) ts
    → pos 0 <ℤ mass (by_weight ts) → mass (by_number ts) ≡ pos 0 → moment (by_number ts) ≡ origin
    → pos 0 ≤ℤ (quadratic *ℤ second_moment (by_number ts))
    → {s : Numbered} {rest : List Numbered} → IsInserted s rest ts → s.number <ℤ pos 0
    → HasFewer quadratic (by_weight ts)
drop_along quadratic ts some weights heavy none still side {s} at low =
    let h = has_least ts some weights in
    let u = by_weight ts in
    let one = at_inserted (λ (t : Numbered). pos 1 ≤ℤ t.weight) h.inserted weights in
    let n = least_negative h.at s one (at_inserted (λ (t : Numbered). pos 1 ≤ℤ t.weight) at weights) (at_inserted (λ (t : Numbered). (h.at.number *ℤ t.weight) ≤ℤ (t.number *ℤ h.at.weight)) at h.least) low in
    let k = turned n in
    let l = le_from_lt (positive_from_one one) in
    drop_least quadratic ts h
    (subst (λ m. pos 0 <ℤ m) (sym (mass-along (neg_ℤ h.at.number) h.at.weight ts none)) (positive_mul k heavy))
    (subst (λ v. IsAtMost (value quadratic u) v) (sym (value-along quadratic (neg_ℤ h.at.number) h.at.weight ts none still))
    (along_is_no_less quadratic (mass u) (second_moment u) (squared_length (moment u)) (second_moment (by_number ts)) (neg_ℤ h.at.number) h.at.weight heavy (le_from_lt k) l side))
  where
    turned : {n : ℤ} → n <ℤ pos 0 → pos 0 <ℤ neg_ℤ n
    turned h = omega (arith, ints)
