-- Parts of a list.
use Rattle.std.proofs.Common.{◌≡◌, refl, ◌∙◌, ap, ◌⊎◌, inl, inr, ◌≤◌, List, [], ◌∷◌, ◌++◌, length, map, arith}
use Rattle.std.specs.Prelude.{All}
use Rattle.std.proofs.lemmas.List.Elements.{All-cons, All-head, All-tail}
use Rattle.corral.specs.Parts.{IsPart}
use Rattle.corral.specs.Parts.IsPart.{none, omits, keeps}

-- a list is a part of itself
pub part_whole : {A : Type 0} (xs : List A) → IsPart xs xs
part_whole [] = none
part_whole (x ∷ xs) = keeps (part_whole xs)

-- the empty list has no other part
pub part_of_empty : {A : Type 0} {part : List A} → IsPart part [] → part ≡ []
part_of_empty none = refl

-- a part of x and a rest leaves x out, or begins with it
pub part_cases : {A : Type 0} {x : A} {part xs : List A} → IsPart part (x ∷ xs) → IsPart part xs ⊎ ((rest : List A) × (part ≡ x ∷ rest) × IsPart rest xs)
part_cases (omits h) = inl h
part_cases {x} (keeps {part} h) = inr (part, refl, h)

-- a part is no longer than the whole
pub part_length : {A : Type 0} {part xs : List A} → IsPart part xs → length part ≤ length xs
part_length none = omega arith
part_length (omits h) = let ih = part_length h in omega arith
part_length (keeps h) = let ih = part_length h in omega arith

-- a part of a part is a part
pub part_trans : {A : Type 0} {a b c : List A} → IsPart a b → IsPart b c → IsPart a c
part_trans none none = none
part_trans h (omits k) = omits (part_trans h k)
part_trans (omits h) (keeps k) = omits (part_trans h k)
part_trans (keeps h) (keeps k) = keeps (part_trans h k)

-- what holds of all elements holds of those of a part
pub part_all : {A : Type 0} (P : A → Type 0) {part xs : List A} → IsPart part xs → All P xs → All P part
part_all P none h = h
part_all P (omits {x} {part} {xs} p) h = part_all P p (All-tail P x xs h)
part_all P (keeps {x} {part} {xs} p) h = All-cons P x part (All-head P x xs h) (part_all P p (All-tail P x xs h))

-- a part mapped is a part of the whole mapped
pub part_map : {A B : Type 0} (f : A → B) {part xs : List A} → IsPart part xs → IsPart (map f part) (map f xs)
part_map f none = none
part_map f (omits h) = omits (part_map f h)
part_map f (keeps h) = keeps (part_map f h)

-- and a part of the whole mapped is a part mapped
pub part_of_map : {A B : Type 0} (f : A → B) (xs : List A) {part : List B} → IsPart part (map f xs) → (inner : List A) × IsPart inner xs × (part ≡ map f inner)
part_of_map f [] h = ([], none, part_of_empty h)
part_of_map {A} {B} f (x ∷ xs) {part} h = go (part_cases h) (λ rest k. part_of_map f xs {part = rest} k)
  where
    go : IsPart part (map f xs) ⊎ ((rest : List B) × (part ≡ f x ∷ rest) × IsPart rest (map f xs)) → ((rest : List B) → IsPart rest (map f xs) → (inner : List A) × IsPart inner xs × (rest ≡ map f inner)) → (inner : List A) × IsPart inner (x ∷ xs) × (part ≡ map f inner)
    go (inl k) ih = let r = ih part k in (r.0, omits r.1, r.2)
    go (inr s) ih = let r = ih s.0 s.2 in (x ∷ r.0, keeps r.1, s.1 ∙ ap (λ rest. f x ∷ rest) r.2)

-- parts in a row are a part of the wholes in a row
pub part_append : {A : Type 0} {a b c d : List A} → IsPart a b → IsPart c d → IsPart (a ++ c) (b ++ d)
part_append none k = k
part_append (omits h) k = omits (part_append h k)
part_append (keeps h) k = keeps (part_append h k)
