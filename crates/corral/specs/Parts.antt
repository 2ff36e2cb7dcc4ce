-- Lists with some elements left out.
use Rattle.std.specs.Prelude.{List, [], ◌∷◌}

-- the first list is the second with some elements left out, and the others in their order
pub data IsPart {A : Type 0} : List A → List A → Type 0 where
  none : IsPart [] []
  omits : {x : A} {part xs : List A} → IsPart part xs → IsPart part (x ∷ xs)
  keeps : {x : A} {part xs : List A} → IsPart part xs → IsPart (x ∷ part) (x ∷ xs)
