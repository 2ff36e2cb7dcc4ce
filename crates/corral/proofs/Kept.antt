-- Weighted vectors without those of weight 0.
use Rattle.std.proofs.Common.{◌≡◌, refl, sym, ◌∙◌, ap, ap₂, subst, ℕ, zero, suc, ◌<◌, ℤ, pos, negsuc, ◌+ℤ◌, ◌-ℤ◌, ◌*ℤ◌, ◌≤ℤ◌, List, [], ◌∷◌, length, arith}
use Rattle.std.specs.Prelude.{All}
use Rattle.std.proofs.lemmas.Int.{ints}
use Rattle.std.proofs.lemmas.List.Elements.{All-nil, All-cons, All-head, All-tail}
use Rattle.bounds_model.specs.Space.{plus, times, squared_length}
use Rattle.bounds_model.specs.Slacks.{WeightedVector, mass, moment, second_moment, value}
use Rattle.kernel_laws.proofs.Points.{same_point}
use Rattle.corral.specs.Parts.{IsPart}
use Rattle.corral.specs.Parts.IsPart.{none, omits, keeps}
use Rattle.corral.proofs.Parts.{part_length}
use Rattle.corral.proofs.Insertions.{IsInserted}
use Rattle.corral.proofs.Insertions.IsInserted.{first, later}

-- the item before the others, unless this weight is 0
abbrev kept_if : ℤ → WeightedVector → List WeightedVector → List WeightedVector
kept_if (pos zero) item others = others
kept_if (pos (suc n)) item others = item ∷ others
kept_if (negsuc n) item others = item ∷ others

-- the items whose weight is not 0
abbrev pub kept : List WeightedVector → List WeightedVector
kept [] = []
kept (item ∷ items) = kept_if item.weight item (kept items)

-- ---- they are a part

part_if : (w : ℤ) (item : WeightedVector) {part items : List WeightedVector} → IsPart part items → IsPart (kept_if w item part) (item ∷ items)
part_if (pos zero) item h = omits h
part_if (pos (suc n)) item h = keeps h
part_if (negsuc n) item h = keeps h

-- what is kept is a part
pub kept_part : (items : List WeightedVector) → IsPart (kept items) items
kept_part [] = none
kept_part (item ∷ items) = part_if item.weight item (kept_part items)

shorter_if : (w : ℤ) (item : WeightedVector) (others : List WeightedVector) (n : ℕ) → length others < n → length (kept_if w item others) < suc n
shorter_if (pos zero) item others n h = omega arith
shorter_if (pos (suc m)) item others n h = omega arith
shorter_if (negsuc m) item others n h = omega arith

-- where a weight is 0, it is shorter
pub kept_shorter : {item : WeightedVector} {rest items : List WeightedVector} → IsInserted item rest items → item.weight ≡ pos 0 → length (kept items) < length items
kept_shorter (first {x} {rest}) e =
    let l = part_length (kept_part rest) in
    subst (λ w. length (kept_if w x (kept rest)) < suc (length rest)) (sym e) (omega arith)
kept_shorter (later {x} {y} {rest} {whole} at) e = shorter_if y.weight y (kept whole) (length whole) (kept_shorter at e)

-- ---- their weights

weights_if : (w : ℤ) (item : WeightedVector) (others : List WeightedVector) → item.weight ≡ w → pos 0 ≤ℤ item.weight → All (λ item. pos 1 ≤ℤ item.weight) others → All (λ item. pos 1 ≤ℤ item.weight) (kept_if w item others)
weights_if (pos zero) item others e h all = all
weights_if (pos (suc n)) item others e h all = All-cons (λ (item : WeightedVector). pos 1 ≤ℤ item.weight) item others (omega (arith, ints)) all
weights_if (negsuc n) item others e h all = absurd (never n (subst (λ w. pos 0 ≤ℤ w) e h))
  where
    never : (n : ℕ) → pos 0 ≤ℤ negsuc n → ⊥
    never n h = omega (arith, ints)

-- where none is below 0, those that are kept are at least 1
pub kept_weights : (items : List WeightedVector) → All (λ item. pos 0 ≤ℤ item.weight) items → All (λ item. pos 1 ≤ℤ item.weight) (kept items)
kept_weights [] h = All-nil (λ item. pos 1 ≤ℤ item.weight)
kept_weights (item ∷ items) h =
    weights_if item.weight item (kept items) refl (All-head (λ (item : WeightedVector). pos 0 ≤ℤ item.weight) item items h) (kept_weights items (All-tail (λ (item : WeightedVector). pos 0 ≤ℤ item.weight) item items h))

-- ---- their sums

mass_if : (w : ℤ) (item : WeightedVector) (others : List WeightedVector) → item.weight ≡ w → mass (kept_if w item others) ≡ item.weight +ℤ mass others
mass_if (pos zero) item others e = omega (arith, ints)
mass_if (pos (suc n)) item others e = refl
mass_if (negsuc n) item others e = refl

-- the sum of the weights is the same
pub mass-kept : (items : List WeightedVector) → mass (kept items) ≡ mass items
mass-kept [] = refl
mass-kept (item ∷ items) = mass_if item.weight item (kept items) refl ∙ ap (λ t. item.weight +ℤ t) (mass-kept items)

without : (w c t : ℤ) → w ≡ pos 0 → t ≡ w *ℤ c +ℤ t
without w c t e = plain c t ∙ ap (λ w. w *ℤ c +ℤ t) (sym e)
  where
    plain : (c t : ℤ) → t ≡ pos 0 *ℤ c +ℤ t
    plain c t = omega (arith, ints)

second_moment_if : (w : ℤ) (item : WeightedVector) (others : List WeightedVector) → item.weight ≡ w → second_moment (kept_if w item others) ≡ item.weight *ℤ squared_length item.vector +ℤ second_moment others
second_moment_if (pos zero) item others e = without item.weight (squared_length item.vector) (second_moment others) e
second_moment_if (pos (suc n)) item others e = refl
second_moment_if (negsuc n) item others e = refl

-- so is the second moment
pub second_moment-kept : (items : List WeightedVector) → second_moment (kept items) ≡ second_moment items
second_moment-kept [] = refl
second_moment-kept (item ∷ items) = second_moment_if item.weight item (kept items) refl ∙ ap (λ t. item.weight *ℤ squared_length item.vector +ℤ t) (second_moment-kept items)

moment_if : (w : ℤ) (item : WeightedVector) (others : List WeightedVector) → item.weight ≡ w → moment (kept_if w item others) ≡ plus (times item.weight item.vector) (moment others)
moment_if (pos zero) item others e =
    let v = item.vector in
    let s = moment others in
    same_point (without item.weight v.x s.x e) (without item.weight v.y s.y e) (without item.weight v.z s.z e)
moment_if (pos (suc n)) item others e = refl
moment_if (negsuc n) item others e = refl

-- and the moment
pub moment-kept : (items : List WeightedVector) → moment (kept items) ≡ moment items
moment-kept [] = refl
moment-kept (item ∷ items) = moment_if item.weight item (kept items) refl ∙ ap (λ s. plus (times item.weight item.vector) s) (moment-kept items)

-- so the value is the same
pub value-kept : (quadratic : ℤ) (items : List WeightedVector) → value quadratic (kept items) ≡ value quadratic items
value-kept quadratic items =
    ap₂ (λ m q. record { n = quadratic *ℤ (m *ℤ q) -ℤ squared_length (moment (kept items)); d = m *ℤ m }) (mass-kept items) (second_moment-kept items)
    ∙ ap (λ s. record { n = quadratic *ℤ (mass items *ℤ second_moment items) -ℤ squared_length s; d = mass items *ℤ mass items }) (moment-kept items)
