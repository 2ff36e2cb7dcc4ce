-- Weighted pairs that show a size show it in lowest terms.
use Rattle.std.proofs.Common.{◌≡◌, sym, ◌∙◌, ap, subst, ℕ, ◌*◌, ◌<◌, ◌≤◌, ◌^◌, pos, ◌-ℤ◌, ◌*ℤ◌, ◌≤ℤ◌, List, length, map, get_or, arith}
use Rattle.std.specs.Prelude.{All}
use Rattle.std.proofs.lemmas.Int.{ints}
use Rattle.std.proofs.lemmas.List.{length-map}
use Rattle.std.proofs.lemmas.List.Elements.{All-map, All-weaker}
use Rattle.integers.proofs.Sums.{total_nonneg_all}
use Rattle.integers.proofs.Order.{le_trans_ℤ}
use Rattle.integers.proofs.Lists.{All-unmap}
use Rattle.bounds_model.specs.Space.{SpacePoint, point_at, squared_length}
use Rattle.bounds_model.specs.AnnulusAnswer as model
use Rattle.bounds_model.specs.AnnulusAnswer.{pair_sum}
use Rattle.bounds_model.specs.ShellAnswer.{weighted_differences}
use Rattle.answers.specs.declared.pairs.WeightedPair.{WeightedPair}
use Rattle.answers.specs.Answers.{pair_of}
use Rattle.pair_weights.specs.CommonFactors.{HaveSomeWeight, AreInLowestTerms, times}
use Rattle.pair_weights.proofs.LowestSums.{sum_times, differences_times, no_more, none_of, same_value, lighter}
use Rattle.min_shell.specs.declared.linear_forms.LinearForm.{LinearForm}
use Rattle.pair_weights.specs.declared.extremes.Extremes.{Extremes}
use Rattle.min_shell.specs.Witnesses.{ShowSize}

-- pairs in lowest terms show what the pairs do
pub lowest_show : (points : List SpacePoint) (f : LinearForm) (e : Extremes) (pairs lowest : List WeightedPair) → AreInLowestTerms pairs lowest → ShowSize points f e (map pair_of pairs) → ShowSize points f e (map pair_of lowest)
lowest_show points f e pairs lowest h show_given = record {
  count = record { at_least = subst (λ n. 1 ≤ n) lengths show.count.at_least; at_most = subst (λ n. n ≤ 4) lengths show.count.at_most };
  numbers = All-map (λ pair. (pair.first < length points) × (pair.second < length points)) pair_of lowest (each (λ pair. (pair.first < length points) × (pair.second < length points)) show.numbers);
  weights = All-map (λ pair. (pos 1 ≤ℤ pair.weight) × (pair.weight ≤ℤ pos (2 ^ 50))) pair_of lowest
      (All-weaker (λ (p : WeightedPair). (pos 1 ≤ℤ pos (k * p.weight)) × (pos (k * p.weight) ≤ℤ pos (2 ^ 50))) (λ p. (pos 1 ≤ℤ pos p.weight) × (pos p.weight ≤ℤ pos (2 ^ 50))) (λ p g. lighter (2 ^ 50) k p.weight h.some g) lowest
      (each (λ pair. (pos 1 ≤ℤ pair.weight) × (pair.weight ≤ℤ pos (2 ^ 50))) show.weights));
  weight_limit = le_trans_ℤ (no_more k (pair_sum (map pair_of lowest)) h.some not_negative) (subst (λ z. z ≤ℤ pos (2 ^ 50)) (sum_times k lowest) show.weight_limit);
  balanced_x = none_of k _ h.some (sym (differences_times (λ i. (point_at points i).x) k lowest) ∙ show.balanced_x);
  balanced_y = none_of k _ h.some (sym (differences_times (λ i. (point_at points i).y) k lowest) ∙ show.balanced_y);
  balanced_z = none_of k _ h.some (sym (differences_times (λ i. (point_at points i).z) k lowest) ∙ show.balanced_z);
  value = same_value k (pair_sum (map pair_of lowest)) (e.high -ℤ e.low) f.w (weighted_differences points squared_length (map pair_of lowest)) h.some
      (ap (λ z. z *ℤ (e.high -ℤ e.low)) (sym (sum_times k lowest)) ∙ show.value ∙ ap (λ z. f.w *ℤ z) (differences_times (λ i. squared_length (point_at points i)) k lowest));
}
  where
    k : ℕ
    k = h.factor

    show : ShowSize points f e (map pair_of (map (times k) lowest))
    show = subst (λ s. ShowSize points f e (map pair_of s)) h.same show_given

    lengths : length (map pair_of (map (times k) lowest)) ≡ length (map pair_of lowest)
    lengths = length-map (map (times k) lowest) pair_of ∙ length-map lowest (times k) ∙ sym (length-map lowest pair_of)

    each : (P : model.WeightedPair → Type 0) → All P (map pair_of (map (times k) lowest)) → All (λ p. P (pair_of (times k p))) lowest
    each P all = All-unmap (λ p. P (pair_of p)) (times k) lowest (All-unmap P pair_of (map (times k) lowest) all)

    natural : (n : ℕ) → pos 0 ≤ℤ pos n
    natural n = omega (arith, ints)

    not_negative : pos 0 ≤ℤ pair_sum (map pair_of lowest)
    not_negative = total_nonneg_all (λ (pair : model.WeightedPair). pair.weight) (map pair_of lowest) (All-map (λ (pair : model.WeightedPair). pos 0 ≤ℤ pair.weight) pair_of lowest (λ i d below. natural (get_or lowest i d).weight))

-- pairs that show a size have weights
pub shown_weights : (points : List SpacePoint) (f : LinearForm) (e : Extremes) (pairs : List WeightedPair) → ShowSize points f e (map pair_of pairs) → HaveSomeWeight pairs
shown_weights points f e pairs show = record {
  some = some_length (subst (λ n. 1 ≤ n) (length-map pairs pair_of) show.count.at_least);
  weights = All-weaker (λ (p : WeightedPair). (pos 1 ≤ℤ pos p.weight) × (pos p.weight ≤ℤ pos (2 ^ 50))) (λ p. 0 < p.weight) (λ p h. some_weight p.weight h.0) pairs
      (All-unmap (λ pair. (pos 1 ≤ℤ pair.weight) × (pair.weight ≤ℤ pos (2 ^ 50))) pair_of pairs show.weights);
}
  where
    some_length : {n : ℕ} → 1 ≤ n → 0 < n
    some_length h = omega arith

    some_weight : (n : ℕ) → pos 1 ≤ℤ pos n → 0 < n
    some_weight n h = omega (arith, ints)
