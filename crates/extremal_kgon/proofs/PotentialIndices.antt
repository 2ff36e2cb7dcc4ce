-- Where a potential stands, and that it stays as the list grows.
use Rattle.std.proofs.Common.{◌≡◌, refl, sym, subst, ap, ◌∙◌, ℕ, zero, suc, ◌+◌, ◌-◌, ◌*◌, ◌<◌, ◌≤◌, arith, ℤ, pos, List, ◌++◌, length}
use Rattle.std.proofs.lemmas.List.{get_or_append_left, get_or-append-add}
use Rattle.std.specs.Prelude.{nat_lt, if◌then◌else◌}
use Rattle.std.proofs.Common.{true, rules}
use native.Mathlib.Nat.{mul-le-mul_right}
use Rattle.bounds_model.specs.KgonAnswer.{pairs_before}
use Rattle.extremal_kgon.specs.Rows.{at}
use Rattle.extremal_kgon.specs.Tables.{index, ending, potential_or_zero}

-- a layer, times as many corners
pub layer-next : (layer width : ℕ) → (layer + 1) * width ≡ layer * width + width
layer-next layer width = omega arith

pub layers-below : {layer layers : ℕ} (width : ℕ) → layer < layers → layer * width + width ≤ layers * width
layers-below {layer} {layers} width h = subst (λ k. k ≤ layers * width) (layer-next layer width) (mul-le-mul_right width (next h))
  where
    next : layer < layers → layer + 1 ≤ layers
    next h = omega arith

-- the potential of a layer that is not 0 stands at its index
pub potential_or_zero-next : (count layers : ℕ) (us : List ℤ) (first layer last : ℕ) → potential_or_zero count layers us first (layer + 1) last ≡ at us (index count layers first layer last)
potential_or_zero-next count layers us first layer last = subst (λ m. potential_or_zero count layers us first m last ≡ at us (index count layers first layer last)) (one_up layer) (ap (λ yes. if yes then at us (index count layers first (suc layer - 1) last) else pos 0) (positive layer) ∙ ap (λ k. at us (index count layers first k last)) (back layer))
  where
    positive : (k : ℕ) → nat_lt 0 (suc k) ≡ true
    positive k = first_of (search rules, grind arith)

    one_up : (k : ℕ) → suc k ≡ k + 1
    one_up k = omega arith

    back : (k : ℕ) → suc k - 1 ≡ k
    back k = omega arith

-- an index in a layer stands before the layer's end
pub index-below : (count layers first layer last : ℕ) → first < last → last < count → index count layers first layer last < ending count layers first layer + (count - 1 - first)
index-below count layers first layer last h k = omega arith

-- more numbers change no layer that is in the list
pub potential_or_zero-more : (count layers : ℕ) (us vs : List ℤ) (first layer last : ℕ) → first < last → last < count → ending count layers first layer ≤ length us → potential_or_zero count layers (us ++ vs) first layer last ≡ potential_or_zero count layers us first layer last
potential_or_zero-more count layers us vs first zero last h k within = refl
potential_or_zero-more count layers us vs first (suc layer) last h k within =
    subst (λ m. potential_or_zero count layers (us ++ vs) first m last ≡ potential_or_zero count layers us first m last) (up layer)
    (potential_or_zero-next count layers (us ++ vs) first layer last ∙ get_or_append_left us vs (pos 0) (index count layers first layer last) (inside _ _ _ (index-below count layers first layer last h k) (subst (λ m. layers * pairs_before count first + m ≤ length us) (ap (λ m. m * (count - 1 - first)) (sym (up layer)) ∙ layer-next layer (count - 1 - first)) within)) ∙ sym (potential_or_zero-next count layers us first layer last))
  where
    up : (k : ℕ) → k + 1 ≡ suc k
    up k = omega arith

    inside : {p n : ℕ} (x y w : ℕ) → p < x + y + w → x + (y + w) ≤ n → p < n
    inside x y w h k = omega arith

-- a new row is the next layer
pub potential_or_zero-row : (count layers : ℕ) (us row : List ℤ) (first layer last : ℕ) → first < last → length us ≡ ending count layers first layer → potential_or_zero count layers (us ++ row) first (layer + 1) last ≡ at row (last - first - 1)
potential_or_zero-row count layers us row first layer last h as_many =
    potential_or_zero-next count layers (us ++ row) first layer last ∙ ap (λ n. at (us ++ row) (n + (last - first - 1))) (sym as_many) ∙ get_or-append-add us row (last - first - 1) (pos 0)
