-- Words that name none of a list of kinds.
use Rattle.std.proofs.Common.{◌≡◌, refl, sym, ℕ, Bool, true, false, List, [], ◌∷◌, None}
use Rattle.std.specs.Prelude.{⊤, find, option_map}
use Rattle.std.specs.Str.{bytes_eq}
use Rattle.std.proofs.lemmas.Slice.Eq.{bytes_eq-Decides}
use Rattle.std.proofs.lemmas.Bool.Decides.{Decides-at}
use Rattle.command_line.specs.declared.kind.Kind.{Kind}

-- texts that are not equal
differ : (a b : List ℕ) → (b ≡ a → ⊥) → bytes_eq a b ≡ false
differ a b other = by_test (bytes_eq a b) refl
  where
    by_test : (t : Bool) → bytes_eq a b ≡ t → bytes_eq a b ≡ false
    by_test true e = absurd (other (sym ((Decides-at (bytes_eq a b) (bytes_eq a b) refl (bytes_eq-Decides a b)).0 e)))
    by_test false e = e

-- the word is none of the names
abbrev pub NamesNone : List (List ℕ × Kind) → List ℕ → Type 0
NamesNone [] word = ⊤
NamesNone (known ∷ rest) word = (word ≡ known.0 → ⊥) × NamesNone rest word

-- so it names no kind
pub none_named : (known : List (List ℕ × Kind)) (word : List ℕ) → NamesNone known word → None ≡ option_map (λ k. k.1) (find (λ k. bytes_eq k.0 word) known)
none_named [] word h = refl
none_named (known ∷ rest) word h = rw (differ known.0 word h.0) (none_named rest word h.1)
