-- A table and a choice make an answer that passes.
use Rattle.std.proofs.Common.{◌≡◌, refl, sym, subst, ap, ◌∙◌, ◌⊎◌, inl, inr, ℕ, zero, suc, ◌+◌, ◌-◌, ◌*◌, ◌^◌, ◌<◌, ◌≤◌, min, arith, ℤ, pos, ◌+ℤ◌, ◌-ℤ◌, ◌*ℤ◌, ◌≤ℤ◌, ◌<ℤ◌, List, [], ◌∷◌, ◌++◌, length, map, take}
use Rattle.std.specs.Prelude.{All, nat_abs, slice_index_or}
use Rattle.std.proofs.lemmas.Int.{ints}
use Rattle.std.proofs.lemmas.List.{length-map}
use Rattle.std.proofs.lemmas.List.Elements.{All-weaker, All-map, All-nil, All-head, All-tail, All-cons}
use Rattle.integers.proofs.Identities.{den-ring, read, polys}
use Rattle.integers.proofs.Order.{le_by, lt_by, nonneg_mul, nonneg_difference, nonneg_from_one, positive_mul, positive_difference, positive_from_one}
use Rattle.integers.specs.Size.{Size}
use Rattle.integers.proofs.Sizes.{below_size}
use Rattle.bounds_model.specs.Plane.{PlanePoint, point_at, turn}
use Rattle.bounds_model.specs.Fractions.{Fraction, SameValue}
use Rattle.bounds_model.specs.Ranges.{IsFraction, IsNatural}
use Rattle.bounds_model.specs.Hull.{AreCorners}
use Rattle.bounds_model.specs.Kgon.{twice_area, most_added}
use Rattle.bounds_model.specs.KgonAnswer.{PassesKgon, pairs_before}
use Rattle.extremal_kgon.specs.declared.table.Best.{Best}
use Rattle.extremal_kgon.specs.Tables.{potential_or_zero, StandsAt, IsTable}
use Rattle.extremal_kgon.specs.Choices.{IsFirstChoice}
use Rattle.model_laws.proofs.HullCorners.{corners_pass}

-- what all numbers have as whole numbers
All-unmap : (P : ℤ → Type 0) (us : List ℕ) → All P (map pos us) → All (λ u. P (pos u)) us
All-unmap P [] h = All-nil (λ u. P (pos u))
All-unmap P (u ∷ us) h = All-cons (λ v. P (pos v)) u us (All-head P (pos u) (map pos us) h) (All-unmap P us (All-tail P (pos u) (map pos us) h))

-- numbers up to a small one are small
pub small_numbers : (us : List ℕ) (a : ℤ) → All (λ u. u ≤ℤ a) (map pos us) → Size (2 ^ 43) a → All (λ u. u ≤ 2 ^ 43) us
small_numbers us a h s = All-weaker (λ u. pos u ≤ℤ a) (λ u. u ≤ 2 ^ 43) (λ u k. small u k (below_size s)) us (All-unmap (λ u. u ≤ℤ a) us h)
  where
    small : (u : ℕ) → pos u ≤ℤ a → a ≤ℤ pos (2 ^ 43) → u ≤ 2 ^ 43
    small u h k = omega (arith, ints)

-- a size that is half of an area, times two, is the area times its denominator
half : (n d a : ℤ) → n *ℤ pos 2 ≡ a *ℤ d → a *ℤ d ≡ pos 2 *ℤ n
half n d a e = twice n (a *ℤ d) e
  where
    twice : (n p : ℤ) → n *ℤ pos 2 ≡ p → p ≡ pos 2 *ℤ n
    twice n p e = omega (arith, ints)

pub answer_passes : (k : ℕ) (points : List PlanePoint) (numbers chosen us : List ℕ) (layers : ℕ) (best : Best) (size : Fraction) → 3 ≤ k → k ≤ 12 → length points ≤ 10000 → length numbers ≤ 128 → 1 ≤ length numbers
    → All (λ n. n < length points) numbers → AreCorners points (map (point_at points) numbers) → layers ≡ min k (length numbers) - 2
    → IsTable (map (point_at points) numbers) layers (length (map (point_at points) numbers)) (map pos us) best → IsFirstChoice (map (point_at points) numbers) layers best.first best.area chosen
    → IsFraction size → size.n *ℤ pos 2 ≡ best.area *ℤ size.d → PassesKgon k points (record { size = size; corners = numbers; chosen = chosen; layers = layers; potentials = map pos us })
answer_passes k points numbers chosen us layers best size three twelve many few some listed corners layers_is t choice fraction half_is = record {
  ranges = record {
    size = fraction;
    corner_count = record { at_least = some; at_most = few };
    corners = All-weaker (λ n. n < length points) (λ n. n ≤ 9999) (λ n h. omega arith) numbers listed;
    chosen_count = record { at_least = choice.some; at_most = omega (arith, choice.few) };
    chosen = All-weaker (λ i. i < length (map (point_at points) numbers)) (λ i. i ≤ 127) (λ i h. omega (arith, same)) chosen choice.in_range;
    layers = omega arith;
    potential_count = t.as_many ∙ ap (λ n. layers * pairs_before n n) same;
    potentials = All-map IsNatural pos us (All-weaker (λ u. pos u ≤ℤ best.area) (λ u. IsNatural (pos u)) (λ u h. record { low = omega (arith, ints); high = small u h (below_size t.greatest.small) }) us (All-unmap (λ u. u ≤ℤ best.area) us t.greatest.above));
  };
  numbers = listed;
  corners = corners_pass points (map (point_at points) numbers) corners;
  chosen = record { count = record { at_least = choice.some; at_most = counted choice.few choice.alone }; rising = choice.rising; in_range = choice.in_range };
  size = half_is ∙ ap (λ a. a *ℤ size.d) (sym choice.has_area);
  layers = layers_is;
  grows = λ c low_c b low_b a low_a layer low_layer.
      let p = t.potentials a layer c (omega (arith, same)) low_layer (omega arith) (omega (arith, same)) in
      subst (λ n. (potential_or_zero n layers (map pos us) a layer b +ℤ turn (point_at (map (point_at points) numbers) a) (point_at (map (point_at points) numbers) b) (point_at (map (point_at points) numbers) c)) ≤ℤ potential_or_zero n layers (map pos us) a (layer + 1) c) same (p.grows b low_a low_b);
  under_size = All-weaker (λ u. u ≤ℤ best.area) (λ u. (u *ℤ size.d) ≤ℤ (pos 2 *ℤ size.n)) (λ u h. subst (λ z. (u *ℤ size.d) ≤ℤ z) (half size.n size.d best.area half_is) (times u h)) (map pos us) t.greatest.above;
  earlier_below = λ a low last below after layer in_layers.
      under_area (subst (λ n. potential_or_zero n layers (map pos us) a (layer + 1) last <ℤ best.area) same (t.earlier a layer last (subst (λ i. a < i) choice.begins low) in_layers after (subst (λ n. last < n) (sym same) below)));
  few = λ few_corners. alone_is chosen choice.begins (choice.alone (no_layers layers_is few_corners)) (t.none (no_area t.greatest.stands (no_layers layers_is few_corners)));
  none_between = λ place low other before after. under_area
      (subst (λ i. (twice_area (map (point_at (map (point_at points) numbers)) (take (place + 1) chosen ++ other ∷ [])) +ℤ most_added (map (point_at points) numbers) i (layers + 1 - (place + 1)) other) <ℤ best.area) (sym choice.begins) (choice.none_between place (omega (arith, low)) other after before));
}
  where
    same : length (map (point_at points) numbers) ≡ length numbers
    same = length-map numbers (point_at points)

    small : (u : ℕ) → pos u ≤ℤ best.area → best.area ≤ℤ pos (2 ^ 43) → pos u ≤ℤ pos (2 ^ 126)
    small u h k = omega (arith, ints)

    counted : length chosen ≤ layers + 2 → (layers ≡ 0 → length chosen ≡ 1) → length chosen ≤ min k (length (map (point_at points) numbers))
    counted h alone = subst (λ n. length chosen ≤ min k n) (sym same) (by_layers layers layers_is h alone)
      where
        by_layers : (l : ℕ) → l ≡ min k (length numbers) - 2 → length chosen ≤ l + 2 → (l ≡ 0 → length chosen ≡ 1) → length chosen ≤ min k (length numbers)
        by_layers zero e h alone = omega (arith, alone refl)
        by_layers (suc l) e h alone = omega arith

    no_layers : {l n : ℕ} → l ≡ min k n - 2 → n < 3 → l ≡ 0
    no_layers {l} {n} e h = at_most_two (min k n) e (under h)
      where
        under : n < 3 → min k n ≤ 2
        under h = omega arith

        at_most_two : (m : ℕ) → l ≡ m - 2 → m ≤ 2 → l ≡ 0
        at_most_two m e h = omega arith

    no_area : (best.area ≡ pos 0) ⊎ StandsAt (length (map (point_at points) numbers)) layers (map pos us) best → layers ≡ 0 → best.area ≡ pos 0
    no_area s e = elim s [ inl none ↦ none | inr stands ↦ absurd (impossible stands.some stands.layer e) ]
      where
        impossible : {l n : ℕ} → 1 ≤ l → l ≤ n → n ≡ 0 → ⊥
        impossible h k e = omega arith

    alone_is : {first : ℕ} (xs : List ℕ) → slice_index_or xs 0 0 ≡ first → length xs ≡ 1 → first ≡ 0 → xs ≡ 0 ∷ []
    alone_is [] e l z = absurd (omega (arith, l))
    alone_is (x ∷ []) e l z = ap (λ i. i ∷ []) (e ∙ z)
    alone_is (x ∷ y ∷ xs) e l z = absurd (omega (arith, l))

    under_area : {u : ℤ} → u <ℤ best.area → (u *ℤ size.d) <ℤ (pos 2 *ℤ size.n)
    under_area {u} h = subst (λ z. (u *ℤ size.d) <ℤ z) (half size.n size.d best.area half_is) (lt_by (positive_mul (positive_difference h) (positive_from_one fraction.lowest.not_negative.denominator)) (plain u best.area size.d))
      where
        plain : (x y d : ℤ) → y *ℤ d -ℤ x *ℤ d ≡ (y -ℤ x) *ℤ d
        plain x y d = read (x ∷ y ∷ d ∷ []) (λ xs a b c. simp (a, b, c, polys) (den-ring xs _ _ tt))

    times : (u : ℤ) → u ≤ℤ best.area → (u *ℤ size.d) ≤ℤ (best.area *ℤ size.d)
    times u h = mul_le_right u best.area size.d (nonneg_from_one fraction.lowest.not_negative.denominator) h
      where
        mul_le_right : (x y d : ℤ) → pos 0 ≤ℤ d → x ≤ℤ y → (x *ℤ d) ≤ℤ (y *ℤ d)
        mul_le_right x y d p h = le_by (nonneg_mul p (nonneg_difference h)) (read (x ∷ y ∷ d ∷ []) (λ xs a b c. simp (a, b, c, polys) (den-ring xs _ _ tt)))

-- the same where the corners are read from lists that are the same
pub answer_from : (k : ℕ) (points cs ds : List PlanePoint) (numbers chosen us : List ℕ) (layers : ℕ) (best : Best) (size : Fraction) {n : ℕ} → 3 ≤ k → k ≤ 12 → length points ≤ 10000 → length numbers ≤ 128
    → All (λ n. n < length points) numbers → AreCorners points (map (point_at points) numbers) → layers ≡ min k n - 2 → n ≡ length cs → cs ≡ map (point_at points) numbers → ds ≡ map (point_at points) numbers
    → IsTable cs layers (length cs) (map pos us) best → IsFirstChoice ds layers best.first best.area chosen
    → IsFraction size → SameValue size (record { n = pos (nat_abs best.area); d = pos 2 }) → PassesKgon k points (record { size = size; corners = numbers; chosen = chosen; layers = layers; potentials = map pos us })
answer_from k points cs ds numbers chosen us layers best size {n} three twelve many few listed corners layers_is as_many cs_is ds_is t choice fraction half_is =
    answer_passes k points numbers chosen us layers best size three twelve many few (some_corner points numbers corners) listed corners
    (layers_is ∙ ap (λ m. min k m - 2) (as_many ∙ ap length cs_is ∙ length-map numbers (point_at points)))
    (subst (λ xs. IsTable xs layers (length xs) (map pos us) best) cs_is t) (subst (λ xs. IsFirstChoice xs layers best.first best.area chosen) ds_is choice) fraction
    (half_is ∙ ap (λ a. a *ℤ size.d) (whole best.area t.greatest.not_negative))
  where
    whole : (u : ℤ) → pos 0 ≤ℤ u → pos (nat_abs u) ≡ u
    whole u h = omega (arith, ints)

    some_corner : (points : List PlanePoint) (numbers : List ℕ) → AreCorners points (map (point_at points) numbers) → 1 ≤ length numbers
    some_corner points [] h = absurd h
    some_corner points (n ∷ rest) h = omega arith
