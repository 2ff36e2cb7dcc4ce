-- What a sink tells of the pieces that it refused.
use Rattle.std.proofs.Common.{◌≡◌, ◌∙◌, ℕ, List, [], ◌∷◌, ◌++◌, take, drop, inl, inr, sym, ap, append-nil}
use Rattle.std.proofs.lemmas.List.Elements.{All-nil, All-cons}
use Rattle.std.proofs.lemmas.List.{take-append-drop}
use Rattle.bnd_io.specs.Sinks.{SinkState, Refused, IsRestOf, RefusedOf}

-- a sink that tells as many as before tells none that is not of these bytes
pub RefusedOf-none : (a b : SinkState) (bytes : List ℕ) → b.refused ≡ a.refused → RefusedOf a b bytes
RefusedOf-none a b bytes e = ([], e ∙ sym (append-nil a.refused), All-nil (IsRestOf bytes))

-- the rest of the bytes was refused
pub RefusedOf-rest : (a b c : SinkState) (bytes : List ℕ) (done : ℕ) → b.refused ≡ a.refused → Refused b c (drop done bytes) → RefusedOf a c bytes
RefusedOf-rest a b c bytes done e (inl r) = RefusedOf-none a c bytes (r ∙ e)
RefusedOf-rest a b c bytes done e (inr r) =
    let rest = drop done bytes in
    (rest ∷ [], r ∙ ap (λ pieces. pieces ++ rest ∷ []) e, All-cons (IsRestOf bytes) rest [] (take done bytes, sym (take-append-drop done bytes)) (All-nil (IsRestOf bytes)))
