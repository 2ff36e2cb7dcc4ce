-- What the parts of a list offer, and the greatest of it.
use Rattle.std.proofs.Common.{◌≡◌, refl, sym, ◌∙◌, subst, ◌⊎◌, inl, inr, List, [], ◌∷◌}
use Rattle.std.specs.declared.option.Option.{Option}
use Rattle.std.specs.declared.option.Option.TheVariants.{Some, None}
use Rattle.corral.specs.Parts.{IsPart}
use Rattle.corral.specs.Parts.IsPart.{none, omits, keeps}

-- b is at least c, and at least what each part offers
pub record IsGreatest {A C : Type 0} (AtMost : C → C → Type 0) (xs : List A) (offer : (part : List A) → IsPart part xs → Option C) (c b : C) : Type 0 where
  pub first : AtMost c b
  pub each : (part : List A) (is_part : IsPart part xs) (d : C) → offer part is_part ≡ Some d → AtMost d b

same : {C : Type 0} {a b : C} → Some a ≡ Some b → a ≡ b
same e = cc

-- an order of any two
pub record IsTotalOrder {C : Type 0} (AtMost : C → C → Type 0) : Type 0 where
  pub either : (a b : C) → AtMost a b ⊎ AtMost b a
  pub trans : (a b c : C) → AtMost a b → AtMost b c → AtMost a c

itself : {C : Type 0} (AtMost : C → C → Type 0) → IsTotalOrder AtMost → (a : C) → AtMost a a
itself {C} AtMost order a = go (order.either a a)
  where
    go : AtMost a a ⊎ AtMost a a → AtMost a a
    go (inl h) = h
    go (inr h) = h

-- of the empty list
of_empty : {A C : Type 0} (AtMost : C → C → Type 0) (offer : (part : List A) → IsPart part [] → Option C) (b : C) → ((d : C) → offer [] none ≡ Some d → AtMost d b)
    → (part : List A) (is_part : IsPart part []) (d : C) → offer part is_part ≡ Some d → AtMost d b
of_empty AtMost offer b h part none d e = h d e

-- of one element more
of_more : {A C : Type 0} (AtMost : C → C → Type 0) (x : A) (xs : List A) (offer : (part : List A) → IsPart part (x ∷ xs) → Option C) (b : C)
    → ((part : List A) (is_part : IsPart part xs) (d : C) → offer part (omits is_part) ≡ Some d → AtMost d b)
    → ((part : List A) (is_part : IsPart part xs) (d : C) → offer (x ∷ part) (keeps is_part) ≡ Some d → AtMost d b)
    → (part : List A) (is_part : IsPart part (x ∷ xs)) (d : C) → offer part is_part ≡ Some d → AtMost d b
of_more AtMost x xs offer b without with_x rest (omits {part} h) d e = without part h d e
of_more AtMost x xs offer b without with_x rest (keeps {part} h) d e = with_x part h d e

-- there is one
pub has_greatest : {A C : Type 0} (AtMost : C → C → Type 0) → IsTotalOrder AtMost → (c : C) (xs : List A) (offer : (part : List A) → IsPart part xs → Option C) → (b : C) × IsGreatest AtMost xs offer c b
has_greatest {A} {C} AtMost order c [] offer = go (offer [] none) refl
  where
    go : (o : Option C) → offer [] none ≡ o → (b : C) × IsGreatest AtMost [] offer c b
    go None e = (c, record { first = itself AtMost order c; each = of_empty AtMost offer c (λ d f. let g : None ≡ Some d = sym e ∙ f in absurd (cc)) })
    go (Some d) e = by (order.either c d)
      where
        by : AtMost c d ⊎ AtMost d c → (b : C) × IsGreatest AtMost [] offer c b
        by (inl h) = (d, record { first = h; each = of_empty AtMost offer d (λ f g. subst (λ f. AtMost f d) (same (sym e ∙ g)) (itself AtMost order d)) })
        by (inr h) = (c, record { first = itself AtMost order c; each = of_empty AtMost offer c (λ f g. subst (λ f. AtMost f c) (same (sym e ∙ g)) h) })
has_greatest {A} {C} AtMost order c (x ∷ xs) offer =
    go (has_greatest AtMost order c xs (λ part h. offer part (omits h))) (has_greatest AtMost order c xs (λ part h. offer (x ∷ part) (keeps h)))
  where
    go : (b : C) × IsGreatest AtMost xs (λ part h. offer part (omits h)) c b → (b : C) × IsGreatest AtMost xs (λ part h. offer (x ∷ part) (keeps h)) c b → (b : C) × IsGreatest AtMost (x ∷ xs) offer c b
    go a b = by (order.either a.0 b.0)
      where
        by : AtMost a.0 b.0 ⊎ AtMost b.0 a.0 → (b : C) × IsGreatest AtMost (x ∷ xs) offer c b
        by (inl h) = (b.0, record { first = b.1.first; each = of_more AtMost x xs offer b.0 (λ part p d e. order.trans d a.0 b.0 (a.1.each part p d e) h) b.1.each })
        by (inr h) = (a.0, record { first = a.1.first; each = of_more AtMost x xs offer a.0 a.1.each (λ part p d e. order.trans d b.0 a.0 (b.1.each part p d e) h) })
