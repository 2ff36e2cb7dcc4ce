-- The search among the parts of some candidates.
use Rattle.std.proofs.Common.{◌≡◌, sym, ◌∙◌, ap, subst, inl, inr, ◌⊎◌, ℕ, ◌-◌, ◌<◌, ◌≤◌, ℤ, List, [], ◌∷◌, ◌++◌, length, get_or, arith, append_assoc, append-nil}
use Rattle.corral.specs.declared.search.Candidate.{Candidate}
use Rattle.corral.specs.Parts.{IsPart}
use Rattle.corral.specs.Parts.IsPart.{omits}
use Rattle.corral.specs.Supports.{IsRefuted}
use Rattle.corral.specs.Balances.{vectors, AreRefuted}
use Rattle.corral.proofs.Parts.{part_whole, part_of_empty, part_cases, part_trans, part_append}
use Rattle.corral.proofs.MomentSums.{rest, rest-cons}

-- what is chosen, with the rest but its first
pub part_without : {A : Type 0} (chosen all others : List A) → 1 ≤ length others → IsPart (chosen ++ others) all → IsPart (chosen ++ rest others) all
part_without chosen all [] some h = absurd (omega arith)
part_without chosen all (x ∷ xs) some h =
    subst (λ zs. IsPart (chosen ++ zs) all) (sym (rest-cons x xs)) (part_trans (part_append (part_whole chosen) (omits (part_whole xs))) h)

-- where nothing is left, the chosen ones are the only part
pub refuted_at_end : (quadratic : ℤ) (all chosen given others : List Candidate) → length others < 1 → given ≡ chosen → (1 ≤ length given → IsRefuted quadratic (vectors all) (vectors given)) → AreRefuted quadratic all chosen others
refuted_at_end quadratic all chosen given [] end e h more is_part some =
    let same : chosen ++ more ≡ given = ap (λ zs. chosen ++ zs) (part_of_empty is_part) ∙ append-nil chosen ∙ sym e in
    subst (λ zs. IsRefuted quadratic (vectors all) (vectors zs)) (sym same) (h (subst (λ zs. 1 ≤ length zs) same some))
refuted_at_end quadratic all chosen given (x ∷ xs) end e h more is_part some = absurd (omega arith)

-- the parts with the next one, and those without it, are all
pub refuted_both_ways : (quadratic : ℤ) (all chosen pushed left others : List Candidate) (d : Candidate) → 1 ≤ length others → pushed ≡ chosen ++ get_or others 0 d ∷ [] → left ≡ chosen
    → AreRefuted quadratic all pushed (rest others) → AreRefuted quadratic all left (rest others) → AreRefuted quadratic all chosen others
refuted_both_ways quadratic all chosen pushed left [] d some e f with without more is_part many = absurd (omega arith)
refuted_both_ways quadratic all chosen pushed left (x ∷ xs) d some e f with without more is_part many = go (part_cases is_part)
  where
    other : (part : List Candidate) → IsPart part xs → IsPart part (rest (x ∷ xs))
    other part h = subst (IsPart part) (sym (rest-cons x xs)) h

    go : IsPart more xs ⊎ ((tail : List Candidate) × (more ≡ x ∷ tail) × IsPart tail xs) → IsRefuted quadratic (vectors all) (vectors (chosen ++ more))
    go (inl h) = subst (λ zs. IsRefuted quadratic (vectors all) (vectors (zs ++ more))) f (without more (other more h) (subst (λ zs. 1 ≤ length (zs ++ more)) (sym f) many))
    go (inr (tail, same, h)) =
        let whole : pushed ++ tail ≡ chosen ++ more = ap (λ zs. zs ++ tail) e ∙ append_assoc chosen (x ∷ []) tail ∙ ap (λ zs. chosen ++ zs) (sym same) in
        subst (λ zs. IsRefuted quadratic (vectors all) (vectors zs)) whole (with tail (other tail h) (subst (λ zs. 1 ≤ length zs) (sym whole) many))
