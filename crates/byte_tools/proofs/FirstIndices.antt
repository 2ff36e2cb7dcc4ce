-- The first index of a byte, and the parts of a list before and after it.
use Rattle.std.proofs.Common.{◌≡◌, ◌∙◌, refl, sym, ap, ℕ, suc, ◌+◌, ◌<◌, ◌==◌, Bool, true, false, cond, not, ltb, List, [], ◌∷◌, ◌++◌, length, get_or, Some, None, arith, take, drop}
use Rattle.std.proofs.Math.Seq.{take-length}
use Rattle.std.proofs.lemmas.Bool.{eqb-true}
use Rattle.std.proofs.lemmas.Grind.{common_steps}
use Rattle.std.proofs.lemmas.List.Elements.{All-head, All-tail}
use Rattle.std.proofs.lemmas.Bool.Decides.{nat_tests}
use Rattle.std.specs.List.{All, position_from, position_or_len, before_first, after_first}
use Rattle.std.proofs.lemmas.Iterator.Adapters.{position_from-zero}
use Rattle.std.proofs.lemmas.List.Sums.{prefix_len-le-length, fails_before_first, passes_at_first, split_at_first}

-- where an index is found, it is the first one
pub index_found : (p : ℕ → Bool) (xs : List ℕ) (i : ℕ) → Some i ≡ position_from p 0 xs → i ≡ position_or_len p xs
index_found p xs i e =
    let found : (b : Bool) → ltb (position_or_len p xs) (length xs) ≡ b → Some i ≡ cond b (Some (position_or_len p xs)) None → i ≡ position_or_len p xs =
    λ b. elim b as (λ v. ltb (position_or_len p xs) (length xs) ≡ v → Some i ≡ cond v (Some (position_or_len p xs)) None → i ≡ position_or_len p xs) [
      | true ↦ λ below is. cc
      | false ↦ λ below is. cc
    ] in
    found _ refl (e ∙ sym (position_from-zero p xs))

-- where none is found, the first one is past the list
pub index_missing : (p : ℕ → Bool) (xs : List ℕ) → None ≡ position_from p 0 xs → position_or_len p xs ≡ length xs
index_missing p xs e =
    let missing : (b : Bool) → ltb (position_or_len p xs) (length xs) ≡ b → None ≡ cond b (Some (position_or_len p xs)) None → position_or_len p xs ≡ length xs =
    λ b. elim b as (λ v. ltb (position_or_len p xs) (length xs) ≡ v → None ≡ cond v (Some (position_or_len p xs)) None → position_or_len p xs ≡ length xs) [
      | true ↦ λ below is. cc
      | false ↦ λ below is. let most = prefix_len-le-length (λ x. not (p x)) xs in grind (arith, nat_tests)
    ] in
    missing _ refl (e ∙ sym (position_from-zero p xs))

-- ---- the parts of a list whose head is known

pub position-cons_no : (p : ℕ → Bool) (b : ℕ) (xs : List ℕ) → p b ≡ false → position_or_len p (b ∷ xs) ≡ suc (position_or_len p xs)
position-cons_no p b xs other = simp other (omega arith)

pub position-cons_yes : (p : ℕ → Bool) (b : ℕ) (xs : List ℕ) → p b ≡ true → position_or_len p (b ∷ xs) ≡ 0
position-cons_yes p b xs this = simp this

pub before_first-cons_no : (p : ℕ → Bool) (b : ℕ) (xs : List ℕ) → p b ≡ false → before_first p (b ∷ xs) ≡ b ∷ before_first p xs
before_first-cons_no p b xs other = ap (λ n. take n (b ∷ xs)) (position-cons_no p b xs other)

pub before_first-cons_yes : (p : ℕ → Bool) (b : ℕ) (xs : List ℕ) → p b ≡ true → before_first p (b ∷ xs) ≡ []
before_first-cons_yes p b xs this = ap (λ n. take n (b ∷ xs)) (position-cons_yes p b xs this)

pub after_first-cons_no : (p : ℕ → Bool) (b : ℕ) (xs : List ℕ) → p b ≡ false → after_first p (b ∷ xs) ≡ after_first p xs
after_first-cons_no p b xs other =
    let next = position-cons_no p b xs other in
    let more : position_or_len p (b ∷ xs) + 1 ≡ suc (position_or_len p xs + 1) = omega (arith, next) in
    ap (λ n. drop n (b ∷ xs)) more

pub after_first-cons_yes : (p : ℕ → Bool) (b : ℕ) (xs : List ℕ) → p b ≡ true → after_first p (b ∷ xs) ≡ xs
after_first-cons_yes p b xs this = ap (λ n. drop (n + 1) (b ∷ xs)) (position-cons_yes p b xs this)

-- ---- the parts of a list at the first index

before_none : (p : ℕ → Bool) (xs : List ℕ) → All (λ b. p b ≡ false) (before_first p xs)
before_none p xs = λ k e m. let fails = fails_before_first p xs k e (grind (arith, common_steps)) in grind (arith, common_steps)

pub before_index : (p : ℕ → Bool) (xs : List ℕ) (i : ℕ) → Some i ≡ position_from p 0 xs → All (λ b. p b ≡ false) (take i xs)
before_index p xs i is = rw (index_found p xs i is) (before_none p xs)

pub all_before : (p : ℕ → Bool) (xs : List ℕ) → None ≡ position_from p 0 xs → All (λ b. p b ≡ false) xs
all_before p xs is =
    let whole : before_first p xs ≡ xs = ap (λ n. take n xs) (index_missing p xs is) ∙ take-length xs in
    rw whole at (before_none p xs)

pub cut_at_index : (byte : ℕ) (xs : List ℕ) (i : ℕ) → Some i ≡ position_from (λ b. b == byte) 0 xs → i < length xs → xs ≡ take i xs ++ byte ∷ drop (i + 1) xs
cut_at_index byte xs i is within =
    let p : ℕ → Bool = λ b. b == byte in
    let index : i ≡ position_or_len p xs = index_found p xs i is in
    let found : position_or_len p xs < length xs = omega (arith, within, index) in
    let same : get_or xs (position_or_len p xs) 0 ≡ byte = eqb-true _ byte (passes_at_first p xs 0 found) in
    split_at_first p xs 0 found ∙ (ap (λ b. before_first p xs ++ b ∷ after_first p xs) same ∙ ap (λ n. take n xs ++ byte ∷ drop (n + 1) xs) (sym index))

-- ---- the part before the first, where it is known

pub before_first_all : (p : ℕ → Bool) (xs : List ℕ) → All (λ b. p b ≡ false) xs → before_first p xs ≡ xs
before_first_all p [] none = refl
before_first_all p (b ∷ xs) none = before_first-cons_no p b xs (All-head (λ b. p b ≡ false) b xs none) ∙ ap (λ ys. b ∷ ys) (before_first_all p xs (All-tail (λ b. p b ≡ false) b xs none))

pub before_first_at : (p : ℕ → Bool) (xs : List ℕ) (y : ℕ) (ys : List ℕ) → All (λ b. p b ≡ false) xs → p y ≡ true → before_first p (xs ++ y ∷ ys) ≡ xs
before_first_at p [] y ys none here = before_first-cons_yes p y ys here
before_first_at p (b ∷ xs) y ys none here =
    before_first-cons_no p b (xs ++ y ∷ ys) (All-head (λ b. p b ≡ false) b xs none) ∙ ap (λ zs. b ∷ zs) (before_first_at p xs y ys (All-tail (λ b. p b ≡ false) b xs none) here)
