-- Where a potential stands in the list.
use Rattle.std.proofs.Common.{◌≡◌, sym, subst, ap, ◌∙◌, ℕ, zero, suc, ◌+◌, ◌-◌, ◌*◌, ◌<◌, ◌≤◌, arith, pos, ◌≤ℤ◌, List, length, map, get_or}
use Rattle.std.specs.Prelude.{All}
use Rattle.std.proofs.lemmas.Int.{ints}
use Rattle.std.proofs.lemmas.List.{get_or-map, length-map}
use native.Mathlib.Nat.{mul-le-mul_left}
use Rattle.bounds_model.specs.KgonAnswer.{pairs_before}
use Rattle.model_laws.proofs.PairCounts.{pairs-next}

-- the pairs of a first corner begin where those of an earlier one do, or behind
pub pairs-up : (count first later : ℕ) → first ≤ later → later ≤ count → pairs_before count first ≤ pairs_before count later
pairs-up count first later h k = by_steps (later - first) first later (apart h) k
  where
    apart : first ≤ later → first + (later - first) ≡ later
    apart h = omega arith

    by_steps : (left first later : ℕ) → first + left ≡ later → later ≤ count → pairs_before count first ≤ pairs_before count later
    by_steps zero first later is k = subst (λ n. pairs_before count n ≤ pairs_before count later) (sym (same is)) (itself (pairs_before count later))
      where
        same : {m n : ℕ} → m + 0 ≡ n → m ≡ n
        same e = omega arith

        itself : (n : ℕ) → n ≤ n
        itself n = omega arith
    by_steps (suc left) first later is k =
        more (pairs_before count first) (count - 1 - first) (pairs_before count (first + 1)) (pairs_before count later) (pairs-next count first (below first later left count is k)) (by_steps left (first + 1) later (next first later left is) k)
      where
        below : (f l n c : ℕ) → f + suc n ≡ l → l ≤ c → f < c
        below f l n c e h = omega arith

        next : (f l n : ℕ) → f + suc n ≡ l → f + 1 + n ≡ l
        next f l n e = omega arith

        more : (x n y z : ℕ) → y ≡ x + n → y ≤ z → x ≤ z
        more x n y z e h = omega arith

-- the potentials of a first corner are within the list
pub rows-within : (layers first count start total : ℕ) → start ≡ layers * pairs_before count first → total ≡ layers * pairs_before count count → first < count → start + layers * (count - 1 - first) ≤ total
rows-within layers first count start total begins all below =
    under start (layers * (count - 1 - first)) (layers * pairs_before count (first + 1)) (layers * pairs_before count count) total
    (ap (λ n. layers * n) (pairs-next count first below) ∙ spread layers (pairs_before count first) (count - 1 - first) ∙ ap (λ n. n + layers * (count - 1 - first)) (sym begins))
    (mul-le-mul_left layers (pairs-up count (first + 1) count (next below) (itself count)))
    all
  where
    next : first < count → first + 1 ≤ count
    next h = omega arith

    itself : (n : ℕ) → n ≤ n
    itself n = omega arith

    spread : (l x n : ℕ) → l * (x + n) ≡ l * x + l * n
    spread l x n = omega arith

    under : (x w y z t : ℕ) → y ≡ x + w → y ≤ z → t ≡ z → x + w ≤ t
    under x w y z t e m f = omega arith

-- a number of the list is at most what all are
pub read-small : (us : List ℕ) (i n : ℕ) → i < length us → All (λ v. v ≤ℤ pos n) (map pos us) → get_or us i 0 ≤ n
read-small us i n within all = natural (get_or us i 0) n (subst (λ v. v ≤ℤ pos n) (get_or-map pos us i 0 (pos 0) within) (all i (pos 0) (subst (λ m. i < m) (sym (length-map us pos)) within)))
  where
    natural : (u n : ℕ) → pos u ≤ℤ pos n → u ≤ n
    natural u n h = omega (arith, ints)
