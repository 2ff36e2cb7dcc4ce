-- The texts of polygons.
use Rattle.std.proofs.Common.{◌≡◌, ℕ, zero, suc, ◌+◌, ◌-◌, ◌*◌, ◌/◌, ◌≤◌, ℤ, Bool, true, ◌&&◌, List, [], ◌∷◌, ◌++◌, length, map, take, drop, replicate, refl, sym, ap, subst, ◌∙◌, arith}
use Rattle.std.specs.Prelude.{All, nat_lt}
use Rattle.std.specs.List.{list_all}
use Rattle.std.proofs.Math.Nat.{mul-le-mul}
use Rattle.std.proofs.lemmas.List.{length-map, length-append, length-take, length-drop, take-append-drop, nil_from_length, length-replicate}
use Rattle.std.proofs.lemmas.List.Folds.{list_all-append}
use Rattle.std.proofs.lemmas.List.Elements.{All-nil, All-append, All-take, All-drop}
use Rattle.std.proofs.lemmas.Bool.{lt-ltb}
use Rattle.bounds_model.specs.Ranges.{IsNatural, point_limit}
use Rattle.bounds_model.specs.KgonAnswer.{KgonAnswer, KgonRanges, pairs_before}
use Rattle.bounds_model.specs.Answers.{kgon}
use Rattle.bounds_model.specs.AnswerText.Fields.{fraction, naturals, bounded, point_number}
use Rattle.bounds_model.specs.AnswerText.Kinds.{kgon_kind, triangle}
use Rattle.bounds_model.specs.AnswerText.Spelling.{position_values}
use Rattle.text_laws.proofs.AnswerTexts.BodyLaws.{RowsFit}
use Rattle.text_laws.proofs.AnswerTexts.AnswerLaws.{KindLaw, Written, said_at}
use Rattle.text_laws.proofs.AnswerTexts.RangeLaws.{line_ranges, line_fits}
use Rattle.text_laws.proofs.AnswerTexts.ListRanges.{all_ranges, all_fit, count_ranges, count_fits, map_back}

-- ---- rows

-- ---- how many potentials

-- the sum of widths
abbrev width_sum : List ℕ → ℕ
width_sum [] = 0
width_sum (width ∷ widths) = width + width_sum widths

-- rows that fit have as many numbers as their widths say
rows_ranges : (widths : List ℕ) (zs : List ℤ) → RowsFit widths zs → (length zs ≡ width_sum widths) × All IsNatural zs
rows_ranges [] zs fits = subst (λ (ys : List ℤ). (length ys ≡ 0) × All IsNatural ys) (sym fits) (refl, All-nil IsNatural)
rows_ranges (width ∷ widths) zs fits =
    let first = (line_ranges (naturals width ∷ []) (take width zs, tt) fits.0).0 in
    let others = rows_ranges widths (drop width zs) fits.1 in
    let parts = take-append-drop width zs in
    let amount : length zs ≡ width + width_sum widths = omega (arith, ap length parts, length-append (take width zs) (drop width zs), first.0, others.0) in
    (amount, subst (λ (ys : List ℤ). All IsNatural ys) parts (All-append IsNatural (take width zs) (drop width zs) first.1 others.1))

-- numbers as many as the widths say make rows that fit
rows_fit : (widths : List ℕ) (zs : List ℤ) → length zs ≡ width_sum widths → All IsNatural zs → RowsFit widths zs
rows_fit [] zs amount all = nil_from_length zs amount
rows_fit (width ∷ widths) zs amount all =
    (line_fits (naturals width ∷ []) (take width zs, tt) refl ((omega (arith, length-take width zs), All-take IsNatural width zs all), tt), rows_fit widths (drop width zs) (omega (arith, length-drop width zs)) (All-drop IsNatural width zs all))

-- the sum of equal widths
pub sum_replicate : (layers width : ℕ) (more : List ℕ) → width_sum (replicate layers width ++ more) ≡ layers * width + width_sum more
sum_replicate zero width more = omega arith
sum_replicate (suc layers) width more = omega (arith, sum_replicate layers width more)

-- the number of pairs of numbers up to n
abbrev pairs_up_to : ℕ → ℕ
pairs_up_to zero = 0
pairs_up_to (suc n) = suc n + pairs_up_to n

-- twice as many are a product
twice_pairs : (n : ℕ) → 2 * pairs_up_to n ≡ n * (n + 1)
twice_pairs zero = refl
twice_pairs (suc n) = omega (arith, twice_pairs n)

-- how many numbers the layers have
sum_triangle : (longest layers : ℕ) → width_sum (triangle longest layers) ≡ layers * pairs_up_to longest
sum_triangle zero layers = omega arith
sum_triangle (suc longest) layers = omega (arith, sum_replicate layers (suc longest) (triangle longest layers), sum_triangle longest layers)

-- the count of pairs is that of the ranges of potentials
pairs_are : (n : ℕ) → pairs_before (suc n) (suc n) ≡ pairs_up_to n
pairs_are n =
    let inner : 2 * suc n - suc n - 1 ≡ n = omega arith in
    ap (λ (k : ℕ). suc n * k / 2) inner ∙ omega (arith, twice_pairs n)

-- no row is empty
widths_above_zero : (longest layers : ℕ) → list_all (λ w. nat_lt 0 w) (triangle longest layers) ≡ true
widths_above_zero zero layers = refl
widths_above_zero (suc longest) layers =
    list_all-append (λ w. nat_lt 0 w) (replicate layers (suc longest)) (triangle longest layers) ∙ ap (λ (t : Bool). t && list_all (λ w. nat_lt 0 w) (triangle longest layers)) (same_width layers) ∙ widths_above_zero longest layers
  where
    same_width : (k : ℕ) → list_all (λ w. nat_lt 0 w) (replicate k (suc longest)) ≡ true
    same_width zero = refl
    same_width (suc k) = ap (λ (t : Bool). t && list_all (λ w. nat_lt 0 w) (replicate k (suc longest))) (lt-ltb 0 (suc longest) (omega arith)) ∙ same_width k

-- how many potentials there are
amount_is : (corners layers n : ℕ) → corners ≡ suc n → width_sum (triangle n layers) ≡ layers * pairs_before corners corners
amount_is corners layers n is = sum_triangle n layers ∙ ap (λ (k : ℕ). layers * k) (sym (pairs_are n)) ∙ ap (λ (c : ℕ). layers * pairs_before c c) (sym is)

-- how many rows there are
length-triangle : (longest layers : ℕ) → length (triangle longest layers) ≡ layers * longest
length-triangle zero layers = omega arith
length-triangle (suc longest) layers = omega (arith, length-append (replicate layers (suc longest)) (triangle longest layers), length-replicate layers (suc longest), length-triangle longest layers)

-- 128 corners have 8128 pairs at most
pairs_most : (n : ℕ) → n ≤ 127 → pairs_up_to n ≤ 8128
pairs_most n long =
    let next : n + 1 ≤ 128 = omega arith in
    let product : n * (n + 1) ≤ 127 * 128 = mul-le-mul long next in
    omega (arith, twice_pairs n)

-- ten layers over 128 corners at most
few_potentials : (longest layers : ℕ) → longest ≤ 127 → layers ≤ 10 → (length (triangle longest layers) ≤ 1270) × (width_sum (triangle longest layers) ≤ 81280)
few_potentials longest layers long deep =
    let amount : layers * longest ≤ 10 * 127 = mul-le-mul deep long in
    let whole : layers * pairs_up_to longest ≤ 10 * 8128 = mul-le-mul deep (pairs_most longest long) in
    (omega (arith, length-triangle longest layers), omega (arith, sum_triangle longest layers))

-- ---- polygon

-- polygons keep the laws
pub kgon_law : KindLaw kgon_kind
kgon_law = record {
  sound = record { name = refl; parts = λ b. (refl, (refl, (refl, (widths_above_zero (length b.0 + 0 - 1) b.1.1.0, tt)))) };
  named = λ lines. refl;
  named_scaled = λ lines. refl;
  not_plain = λ lines. refl;
  said = λ size b. λ i. said_at kgon_kind size (map_back {X = ℕ} position_values (λ v. v.0) b.0 (λ v. refl) i, (map_back {X = ℕ} position_values (λ v. v.0) b.1.0 (λ v. refl) i, b.1.1));
  power = λ size b. refl;
  size = λ size b. refl;
  short = λ b fits.
      let corners = (line_ranges (bounded 1 128 ∷ []) (length b.0 + 0, tt) fits.0.0).0.1 in
      let layers = (line_ranges (bounded 0 10 ∷ []) (b.1.1.0, tt) fits.1.1.0).0.1 in
      let amount = (rows_ranges (triangle (length b.0 + 0 - 1) b.1.1.0) b.1.1.1.0 fits.1.1.1.0).0 in
      let few = few_potentials (length b.0 + 0 - 1) b.1.1.0 (omega (arith, corners)) layers in
      omega (arith, few.0, few.1, amount);
  ranges = λ size b size-fits fits.
      let corners = count_ranges {Y = ℕ} (λ v. v.0) 1 128 0 b.0 fits.0.0 (omega arith) in
      let rows = rows_ranges (triangle (length b.0 + 0 - 1) b.1.1.0) b.1.1.1.0 fits.1.1.1.0 in
      record {
        size = (line_ranges (fraction ∷ []) (size, tt) size-fits).0;
        corner_count = corners;
        corners = all_ranges (point_number ∷ []) (λ v. v.0) (λ n. n ≤ point_limit) b.0 (λ v p. p.0.1) fits.0.1;
        chosen_count = count_ranges {Y = ℕ} (λ v. v.0) 1 12 0 b.1.0 fits.1.0.0 (omega arith);
        chosen = all_ranges (bounded 0 127 ∷ []) (λ v. v.0) (λ n. n ≤ 127) b.1.0 (λ v p. p.0.1) fits.1.0.1;
        layers = (line_ranges (bounded 0 10 ∷ []) (b.1.1.0, tt) fits.1.1.0).0.1;
        potential_count = rows.0 ∙ amount_is (length (map {B = ℕ} (λ v. v.0) b.0)) b.1.1.0 (length b.0 + 0 - 1) (omega (arith, corners.at_least, length-map {B = ℕ} b.0 (λ v. v.0)));
        potentials = rows.1;
      };
}

-- a polygon that keeps its ranges is one that its format writes
pub kgon_written : (a : KgonAnswer) → KgonRanges a → Written (kgon a)
kgon_written a ranges =
    let longest : ℕ = length (map position_values a.corners) + 0 - 1 in
    let corners : length a.corners ≡ suc longest = omega (arith, ranges.corner_count.at_least, length-map a.corners position_values) in
    record {
      kind = kgon_kind;
      law = kgon_law;
      size = a.size;
      body = (map position_values a.corners, (map position_values a.chosen, (a.layers, (a.potentials, tt))));
      is = λ i. kgon (record {
        size = a.size;
        corners = map_back {Y = ℕ} (λ v. v.0) position_values a.corners (λ n. refl) i;
        chosen = map_back {Y = ℕ} (λ v. v.0) position_values a.chosen (λ n. refl) i;
        layers = a.layers;
        potentials = a.potentials;
      });
      size_fits = line_fits (fraction ∷ []) (a.size, tt) refl (ranges.size, tt);
      body_fits = (
        (
          count_fits position_values 1 128 0 a.corners refl (omega (arith, ranges.corner_count.at_least)) (omega (arith, ranges.corner_count.at_most)),
          all_fit (point_number ∷ []) position_values (λ n. n ≤ point_limit) a.corners refl (λ n p. ((omega arith, p), tt)) ranges.corners,
        ),
        (
          (
            count_fits position_values 1 12 0 a.chosen refl (omega (arith, ranges.chosen_count.at_least)) (omega (arith, ranges.chosen_count.at_most)),
            all_fit (bounded 0 127 ∷ []) position_values (λ n. n ≤ 127) a.chosen refl (λ n p. ((omega arith, p), tt)) ranges.chosen,
          ),
          (
            line_fits (bounded 0 10 ∷ []) (a.layers, tt) refl ((omega arith, ranges.layers), tt),
            (rows_fit (triangle longest a.layers) a.potentials (ranges.potential_count ∙ sym (amount_is (length a.corners) a.layers longest corners)) ranges.potentials, tt),
          ),
        ),
      );
    }
