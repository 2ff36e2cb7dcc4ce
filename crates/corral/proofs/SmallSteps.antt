-- A small step towards a low vector raises the value.
use Rattle.std.proofs.Common.{◌≡◌, refl, sym, ◌∙◌, ap, ap₂, subst, ℤ, pos, ◌+ℤ◌, ◌-ℤ◌, ◌*ℤ◌, ◌≤ℤ◌, List, [], ◌∷◌, map, arith}
use Rattle.std.specs.Prelude.{All}
use Rattle.std.proofs.lemmas.Int.{ints}
use Rattle.std.proofs.lemmas.List.Elements.{All-nil, All-cons, All-head, All-tail}
use Rattle.std.proofs.Math.IntN.{*ℤ-zero}
use Rattle.integers.proofs.Identities.{den-ring, read, polys, lits}
use Rattle.integers.proofs.Order.{combine1, mul_le_both}
use Rattle.integers.proofs.RingLaws.{one-*ℤ}
use Rattle.bounds_model.specs.Space.{SpacePoint, plus, times, dot, squared_length}
use Rattle.bounds_model.specs.Fractions.{Fraction}
use Rattle.bounds_model.specs.Slacks.{WeightedVector, mass, moment, second_moment, slack, value, IsLow}
use Rattle.exact_fractions.specs.Order.{IsBelow}
use Rattle.kernel_laws.proofs.Points.{same_point}
use Rattle.corral.specs.Supports.{support_vectors, AreSupports}
use Rattle.corral.proofs.Values.{outweighs, step_raises}
use Rattle.corral.proofs.Moments.{mean_is, common_slack, below_common, mass_positive}
use Rattle.corral.proofs.Insertions.{IsInserted, total-inserted}
use Rattle.corral.proofs.Insertions.IsInserted.{first, later}

-- ---- k times the weights

-- each weight times k
abbrev pub scaled_items : ℤ → List WeightedVector → List WeightedVector
scaled_items k items = map (λ item. record { weight = k *ℤ item.weight; vector = item.vector }) items

add_scaled : (k w t u : ℤ) → t ≡ k *ℤ u → k *ℤ w +ℤ t ≡ k *ℤ (w +ℤ u)
add_scaled k w t u h = combine1 (pos 1) h (read (k ∷ w ∷ t ∷ u ∷ []) (λ xs a b c d. simp (a, b, c, d, polys, lits xs) (den-ring xs _ _ tt)))

one_scaled : (k w c t u : ℤ) → t ≡ k *ℤ u → k *ℤ w *ℤ c +ℤ t ≡ k *ℤ (w *ℤ c +ℤ u)
one_scaled k w c t u h = combine1 (pos 1) h (read (k ∷ w ∷ c ∷ t ∷ u ∷ []) (λ xs a b c d e. simp (a, b, c, d, e, polys, lits xs) (den-ring xs _ _ tt)))

mass-scaled : (k : ℤ) (items : List WeightedVector) → mass (scaled_items k items) ≡ k *ℤ mass items
mass-scaled k [] = sym (*ℤ-zero k)
mass-scaled k (item ∷ items) = add_scaled k item.weight _ (mass items) (mass-scaled k items)

second_moment-scaled : (k : ℤ) (items : List WeightedVector) → second_moment (scaled_items k items) ≡ k *ℤ second_moment items
second_moment-scaled k [] = sym (*ℤ-zero k)
second_moment-scaled k (item ∷ items) = one_scaled k item.weight (squared_length item.vector) _ (second_moment items) (second_moment-scaled k items)

moment-scaled : (k : ℤ) (items : List WeightedVector) → moment (scaled_items k items) ≡ times k (moment items)
moment-scaled k [] = same_point (sym (*ℤ-zero k)) (sym (*ℤ-zero k)) (sym (*ℤ-zero k))
moment-scaled k (item ∷ items) =
    let v = item.vector in
    let s = moment items in
    ap (λ s. plus (times (k *ℤ item.weight) v) s) (moment-scaled k items)
    ∙ same_point (one_scaled k item.weight v.x _ s.x refl) (one_scaled k item.weight v.y _ s.y refl) (one_scaled k item.weight v.z _ s.z refl)

-- the vectors are the same
pub vectors-scaled : (k : ℤ) (items : List WeightedVector) → support_vectors (scaled_items k items) ≡ support_vectors items
vectors-scaled k [] = refl
vectors-scaled k (item ∷ items) = ap (λ rest. item.vector ∷ rest) (vectors-scaled k items)

-- weights of at least 1 stay so
pub weights-scaled : (k : ℤ) → pos 1 ≤ℤ k → (items : List WeightedVector) → All (λ item. pos 1 ≤ℤ item.weight) items → All (λ item. pos 1 ≤ℤ item.weight) (scaled_items k items)
weights-scaled k h [] all = All-nil (λ (item : WeightedVector). pos 1 ≤ℤ item.weight)
weights-scaled k h (item ∷ items) all =
    All-cons (λ (item : WeightedVector). pos 1 ≤ℤ item.weight) (record { weight = k *ℤ item.weight; vector = item.vector }) (scaled_items k items)
    (product h (All-head (λ (item : WeightedVector). pos 1 ≤ℤ item.weight) item items all))
    (weights-scaled k h items (All-tail (λ (item : WeightedVector). pos 1 ≤ℤ item.weight) item items all))
  where
    product : {k w : ℤ} → pos 1 ≤ℤ k → pos 1 ≤ℤ w → pos 1 ≤ℤ (k *ℤ w)
    product {k} {w} h l = let p : (pos 1 *ℤ pos 1) ≤ℤ (k *ℤ w) = mul_le_both (omega (arith, ints)) (omega (arith, ints)) h l in p

-- ---- one vector more

moment-inserted : {item : WeightedVector} {rest whole : List WeightedVector} → IsInserted item rest whole → moment whole ≡ plus (times item.weight item.vector) (moment rest)
moment-inserted first = refl
moment-inserted (later {x} {y} {rest} {whole} at) =
    let a = times x.weight x.vector in
    let b = times y.weight y.vector in
    let s = moment rest in
    ap (λ s. plus b s) (moment-inserted at) ∙ same_point (swapped b.x a.x s.x) (swapped b.y a.y s.y) (swapped b.z a.z s.z)
  where
    swapped : (b a s : ℤ) → b +ℤ (a +ℤ s) ≡ a +ℤ (b +ℤ s)
    swapped b a s = omega (arith, ints)

-- the value of k times the items and a vector of weight 1
value-inserted : (quadratic k : ℤ) (v : SpacePoint) (items more : List WeightedVector) → IsInserted (record { weight = pos 1; vector = v }) (scaled_items k items) more
    → value quadratic more ≡ (let f : Fraction = record {
      n = quadratic *ℤ ((pos 1 +ℤ k *ℤ mass items) *ℤ (squared_length v +ℤ k *ℤ second_moment items)) -ℤ (squared_length v +ℤ pos 2 *ℤ (k *ℤ dot v (moment items)) +ℤ k *ℤ k *ℤ squared_length (moment items));
      d = (pos 1 +ℤ k *ℤ mass items) *ℤ (pos 1 +ℤ k *ℤ mass items);
    } in f)
value-inserted quadratic k v items more at =
    let s = moment items in
    ap₂ (λ m q. record { n = quadratic *ℤ (m *ℤ q) -ℤ squared_length (moment more); d = m *ℤ m })
    (total-inserted (λ (item : WeightedVector). item.weight) at ∙ ap (λ m. pos 1 +ℤ m) (mass-scaled k items))
    (total-inserted (λ (item : WeightedVector). item.weight *ℤ squared_length item.vector) at ∙ ap₂ (λ y q. y +ℤ q) (one-*ℤ (squared_length v)) (second_moment-scaled k items))
    ∙ ap (λ l. record { n = quadratic *ℤ ((pos 1 +ℤ k *ℤ mass items) *ℤ (squared_length v +ℤ k *ℤ second_moment items)) -ℤ l; d = (pos 1 +ℤ k *ℤ mass items) *ℤ (pos 1 +ℤ k *ℤ mass items) })
    (ap squared_length (moment-inserted at ∙ ap₂ plus (same_point (one-*ℤ v.x) (one-*ℤ v.y) (one-*ℤ v.z)) (moment-scaled k items)) ∙ length_of_sum k v s)
  where
    length_of_sum : (k : ℤ) (v s : SpacePoint) → squared_length (plus v (times k s)) ≡ squared_length v +ℤ pos 2 *ℤ (k *ℤ dot v s) +ℤ k *ℤ k *ℤ squared_length s
    length_of_sum k v s = read (k ∷ v.x ∷ v.y ∷ v.z ∷ s.x ∷ s.y ∷ s.z ∷ []) (λ xs a b c d e f g. simp (a, b, c, d, e, f, g, polys, lits xs) (den-ring xs _ _ tt))

-- k times the items' weights, with the vector, have a greater value
pub record HasStep (quadratic : ℤ) (items : List WeightedVector) (v : SpacePoint) : Type 0 where
  pub k : ℤ
  pub at_least_one : pos 1 ≤ℤ k
  pub raises : (more : List WeightedVector) → IsInserted (record { weight = pos 1; vector = v }) (scaled_items k items) more → IsBelow (value quadratic items) (value quadratic more)

-- where the vector is low
pub has_step : (quadratic : ℤ) (items : List WeightedVector) (v : SpacePoint) → AreSupports quadratic items → IsLow quadratic items v → HasStep quadratic items v
has_step quadratic items v supports low =
    let common = common_slack quadratic items supports.some supports.equal in
    let y = squared_length v in
    let m = mass items in
    let k = outweighs ((quadratic -ℤ pos 1) *ℤ y *ℤ (m *ℤ m) -ℤ (quadratic *ℤ (m *ℤ second_moment items) -ℤ squared_length (moment items))) in
    record {
      k = k.0;
      at_least_one = k.1;
      raises = λ more at.
          subst (λ f. IsBelow (value quadratic items) f) (sym (value-inserted quadratic k.0 v items more at))
          (step_raises quadratic m (second_moment items) (squared_length (moment items)) (dot v (moment items)) y common.0 (slack quadratic items v) k.0
          (mass_positive items supports.some supports.weights) k.1
          (mean_is quadratic items items common.0 common.1) refl
          (below_common quadratic items common.0 supports.some common.1 v low) k.2);
    }
