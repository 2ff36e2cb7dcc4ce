-- What a sink keeps that drops the bytes past its room.
use Rattle.std.proofs.Common.{◌≡◌, ◌∙◌, ℕ, ◌+◌, ◌-◌, ◌≤◌, min, List, ◌++◌, length, take, sym, ap, arith}
use Rattle.std.specs.Prelude.{nat_lt}
use Rattle.std.proofs.lemmas.Bool.Decides.{nat_tests}
use Rattle.std.proofs.lemmas.List.{take_min}
use Rattle.std.proofs.Math.Seq.{take-append-add}

-- the first bytes of all that were written
pub kept_bytes : (room n : ℕ) (xs ys : List ℕ) → length xs ≤ room → n ≡ min (length ys) (room - length xs) → xs ++ take n ys ≡ take room (xs ++ ys)
kept_bytes room n xs ys within is =
    let least : n ≡ min (room - length xs) (length ys) = omega arith in
    let whole : length xs + (room - length xs) ≡ room = omega arith in
    ap (λ k. xs ++ take k ys) least ∙ ap (λ zs. xs ++ zs) (take_min (room - length xs) ys) ∙ sym (take-append-add xs ys (room - length xs)) ∙ ap (λ k. take k (xs ++ ys)) whole

-- fewer were taken than were given where there is no room for all
pub fewer_taken : (room n kept given : ℕ) → kept ≤ room → n ≡ min given (room - kept) → nat_lt n given ≡ nat_lt room (kept + given)
fewer_taken room n kept given within is = grind (arith, nat_tests)
