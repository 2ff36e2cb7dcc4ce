-- Names that are not equal.
use Rattle.std.proofs.Common.{◌≡◌, sym, ◌∙◌, ap, ℕ, Bool, false, List}
use Rattle.std.specs.Str.{bytes_eq}
use Rattle.std.proofs.lemmas.Bool.{false_from_ne_true}
use Rattle.std.proofs.lemmas.Bool.Decides.{not_from_Decides}
use Rattle.std.proofs.lemmas.Slice.Eq.{bytes_eq-Decides}

-- a text that was compared with a name's bytes, and is not they
pub other : (text name bytes : List ℕ) (equal : Bool) → bytes ≡ name → equal ≡ bytes_eq text bytes → equal ≡ false → bytes_eq name text ≡ false
other text name bytes equal same compared differ = false_from_ne_true (bytes_eq name text) (λ e. apart (sym ((bytes_eq-Decides name text).0 e)))
  where
    unequal : bytes_eq text name ≡ false
    unequal = ap (bytes_eq text) (sym same) ∙ sym compared ∙ differ

    apart : text ≡ name → ⊥
    apart = not_from_Decides (bytes_eq text name) (bytes_eq-Decides text name) unequal
