-- What a search for a byte gives, as the first and the last index of the byte.
use Rattle.std.proofs.Common.{◌≡◌, ◌≢◌, ◌∙◌, sym, ap, ℕ, ◌+◌, ◌<◌, true, false, cond, ltb, List, length, length-drop, drop, get_or, Option, Some, None, arith}
use Rattle.std.specs.Prelude.{◌==◌, IfSome, slice_index_or}
use Rattle.std.specs.List.{All, position_from, position_or_len}
use Rattle.std.proofs.lemmas.Bool.{eq-eqb, eqb-true, false_from_ne_true}
use Rattle.std.proofs.lemmas.Bool.Decides.{nat_tests}
use Rattle.std.proofs.lemmas.Iterator.Adapters.{position_from-zero}
use Rattle.std.proofs.lemmas.List.{get_or-drop, get_or_default}
use Rattle.std.proofs.lemmas.List.Sums.{position_or_len_is}
use Rattle.memchr.specs.Find.{IsFirstByte, IsLastByte, is_byte}

-- the number, where it is below the length
below : (n len : ℕ) → n < len → cond (ltb n len) (Some n) None ≡ Some n
below n len lt = let is : ltb n len ≡ true = grind (arith, nat_tests) in ap (λ t. cond t (Some n) None) is

-- none at the length
at_end : (len : ℕ) → cond (ltb len len) (Some len) None ≡ None
at_end len = let is : ltb len len ≡ false = grind (arith, nat_tests) in ap (λ t. cond t (Some len) None) is

-- what a search for the byte gives is the first index
pub searched_index : (byte : ℕ) (xs : List ℕ) (r : Option ℕ) → IsFirstByte (is_byte byte) xs r → r ≡ position_from (λ b. b == byte) 0 xs
searched_index byte xs None h =
    let missing : position_or_len (λ b. b == byte) xs ≡ length xs = position_or_len_is (λ b. b == byte) xs (length xs) 0 (omega arith) (λ k lt. false_from_ne_true _ (h k (omega arith) lt)) (λ lt. absurd (omega arith)) in
    sym (sym (position_from-zero (λ b. b == byte) xs) ∙ (ap (λ n. cond (ltb n (length xs)) (Some n) None) missing ∙ at_end (length xs)))
searched_index byte xs (Some index) h =
    let found : position_or_len (λ b. b == byte) xs ≡ index = position_or_len_is (λ b. b == byte) xs index 0 (omega (arith, h.0.high)) (λ k lt. false_from_ne_true _ (h.0.before k (omega arith) lt)) (λ lt. h.1) in
    sym (sym (position_from-zero (λ b. b == byte) xs) ∙ (ap (λ n. cond (ltb n (length xs)) (Some n) None) found ∙ below index (length xs) h.0.high))

-- ---- the last index

-- at what a search from the end gives stands the byte
pub last_here : (byte : ℕ) (xs : List ℕ) (r : Option ℕ) → IsLastByte (is_byte byte) xs r → IfSome r (λ i. slice_index_or xs i 0 ≡ byte)
last_here byte xs None h = tt
last_here byte xs (Some i) h = eqb-true _ byte h.1

-- behind it the byte stands nowhere
pub last_behind : (byte : ℕ) (xs : List ℕ) (r : Option ℕ) → IsLastByte (is_byte byte) xs r → IfSome r (λ i. All (λ b. b ≢ byte) (drop (i + 1) xs))
last_behind byte xs None h = tt
last_behind byte xs (Some i) h = λ k d lt is.
    let size = length-drop (i + 1) xs in
    let within : i + 1 + k < length xs = omega (arith, lt, size) in
    let there : get_or xs (i + 1 + k) d ≡ byte = sym (get_or-drop (i + 1) xs k d) ∙ is in
    h.0.after (i + 1 + k) (omega arith) within (eq-eqb _ byte (get_or_default xs (i + 1 + k) 0 d within ∙ there))

-- where nothing is found it stands nowhere
pub last_nowhere : (byte : ℕ) (xs : List ℕ) (r : Option ℕ) → IsLastByte (is_byte byte) xs r → r ≡ None → All (λ b. b ≢ byte) xs
last_nowhere byte xs None h none = λ k d lt is. h k (omega arith) lt (eq-eqb _ byte (get_or_default xs k 0 d lt ∙ is))
last_nowhere byte xs (Some i) h none = absurd cc
