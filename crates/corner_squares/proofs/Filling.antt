-- Squares are filled up by a repeated one.
use Rattle.std.proofs.Common.{◌≡◌, sym, subst, ap, ◌∙◌, ℕ, ◌+◌, ◌<◌, List, [], ◌∷◌, ◌++◌, length, get_or, Contains}
use Rattle.std.proofs.lemmas.List.{append-nil, append_assoc, length_push}
use Rattle.std.proofs.lemmas.List.Elements.{All-nil, All-push, Contains-get_or}
use Rattle.corner_squares.specs.declared.square.Square.{Square}
use Rattle.corner_squares.specs.Covers.{IsFilledUp}

pub not_yet : (old : List Square) (count : ℕ) → length old ≡ count → IsFilledUp count old old
not_yet old count is = record { as_many = is; again = []; appended = sym (append-nil old); old_ones = All-nil (Contains old) }

pub one_again : (count : ℕ) (old now new : List Square) (s : Square) → Contains old s → IsFilledUp count old now → new ≡ now ++ s ∷ [] → IsFilledUp (count + 1) old new
one_again count old now new s m h is = record {
  as_many = ap length is ∙ length_push now s ∙ ap (λ n. n + 1) h.as_many;
  again = h.again ++ s ∷ [];
  appended = is ∙ ap (λ ss. ss ++ s ∷ []) h.appended ∙ append_assoc old h.again (s ∷ []);
  old_ones = All-push (Contains old) h.again s h.old_ones m;
}

-- the first of some squares
pub first_there : (squares seen : List Square) (d s : Square) → seen ≡ squares → 0 < length squares → s ≡ get_or seen 0 d → Contains squares s
first_there squares seen d s is some e = subst (Contains squares) (sym (e ∙ ap (λ ss. get_or ss 0 d) is)) (Contains-get_or squares 0 d some)
