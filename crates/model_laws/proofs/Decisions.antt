-- Tests that decide the conditions, and compute on literals.
use Rattle.std.proofs.Common.{◌≡◌, refl, sym, subst, ℕ, zero, suc, ◌+◌, ◌<◌, ◌≤◌, max, ℤ, ◌≤ℤ◌, ◌<ℤ◌, Bool, true, false, not, ◌&&◌, ◌||◌, List, [], ◌∷◌, length, arith}
use mathlib.Core.Logic.{inl, inr}
use Rattle.std.specs.Prelude.{◌⊎◌, Decides, All, Any, Contains, AllPairs, slice_index_or, int_le, int_lt, nat_le, nat_lt, ◌==◌, if◌then◌else◌, IsSomeAnd, Some, None}
use Rattle.std.specs.declared.option.Option.{Option}
use Rattle.std.specs.Ordering.{int_eq}
use Rattle.std.proofs.lemmas.Bool.Decides.{Decides-eqb, Decides-int_eq, Decides-not, Decides-and, Decides-or, Decides-like, Decides-ltb, Decides-by_and, not_from_Decides, nat_tests}
use Rattle.std.proofs.lemmas.Int.{ints}
use Rattle.bounds_model.specs.Numbers.{AllNumbered, EachBelow}

-- a test that is true exactly where P holds, and how many of the parts of P do not hold
pub record Decision (P : Type 0) : Type 0 where
  pub test : Bool
  pub failures : ℕ
  pub law : Decides test P

-- the test of a condition that has no parts
abbrev pub whole : {P : Type 0} → (test : Bool) → Decides test P → Decision P
whole test law = record { test = test; failures = if test then 0 else 1; law = law }

-- what passes its test holds
pub by_test : {P : Type 0} (d : Decision P) → d.test ≡ true → P
by_test d e = d.law.0 e

-- what fails its test does not
pub by_failed_test : {P : Type 0} (d : Decision P) → d.test ≡ false → ¬ P
by_failed_test d e = not_from_Decides d.test d.law e

-- what fails in one part alone does not: its other parts hold
pub by_one_failure : {P : Type 0} (d : Decision P) → d.test ≡ false → d.failures ≡ 1 → ¬ P
by_one_failure d e one = by_failed_test d e

-- ---- facts from facts

-- facts that follow from each other have one test
abbrev pub like : {P Q : Type 0} → Decision P → (P → Q) → (Q → P) → Decision Q
like d f g = record { test = d.test; failures = d.failures; law = Decides-like d.test f g d.law }

-- a test for two facts
abbrev pub both : {P Q : Type 0} → Decision P → Decision Q → Decision (P × Q)
both p q = record { test = p.test && q.test; failures = p.failures + q.failures; law = Decides-and p.test q.test p.law q.law }

-- for two facts that count as one part
abbrev pub together : {P Q : Type 0} → Decision P → Decision Q → Decision (P × Q)
together p q = record { test = p.test && q.test; failures = max p.failures q.failures; law = Decides-and p.test q.test p.law q.law }

-- for one of two
abbrev pub either : {P Q : Type 0} → Decision P → Decision Q → Decision (P ⊎ Q)
either p q = whole (p.test || q.test) (Decides-or p.test q.test p.law q.law)

-- for the opposite
abbrev pub negated : {P : Type 0} → Decision P → Decision (¬ P)
negated p = whole (not p.test) (Decides-not p.test p.law)

-- an implication fails only where its premise holds and its end does not
pub implies_law : {P Q : Type 0} (x y : Bool) → Decides x P → Decides y Q → Decides (not x || y) (P → Q)
implies_law true true p q = ((λ _. λ _. q.0 refl), (λ _. refl))
implies_law true false p q = ((λ e. absurd (cc)), (λ f. q.1 (f (p.0 refl))))
implies_law false y p q = ((λ _. λ h. let e : false ≡ true = p.1 h in absurd (cc)), (λ _. refl))

-- for an implication
abbrev pub implies : {P Q : Type 0} → Decision P → Decision Q → Decision (P → Q)
implies p q = whole (not p.test || q.test) (implies_law p.test q.test p.law q.law)

-- ---- numbers

-- whether two numbers are equal
abbrev pub equal_ℕ : (a b : ℕ) → Decision (a ≡ b)
equal_ℕ a b = whole (a == b) (Decides-eqb a b)

-- whether one is below the other
abbrev pub less_ℕ : (a b : ℕ) → Decision (a < b)
less_ℕ a b = whole (nat_lt a b) (Decides-ltb a b)

-- the test for at most
pub most_law : (a b : ℕ) → Decides (nat_le a b) (a ≤ b)
most_law a b = (λ e. grind (arith, nat_tests), λ h. grind (arith, nat_tests))

-- whether one is at most the other
abbrev pub most_ℕ : (a b : ℕ) → Decision (a ≤ b)
most_ℕ a b = whole (nat_le a b) (most_law a b)

-- the same for whole numbers
abbrev pub equal_ℤ : (a b : ℤ) → Decision (a ≡ b)
equal_ℤ a b = whole (int_eq a b) (Decides-int_eq a b)

-- the test for below
pub less_ℤ_law : (a b : ℤ) → Decides (int_lt a b) (a <ℤ b)
less_ℤ_law a b = (λ e. grind (arith, ints), λ h. grind (arith, ints))

-- whether one is below the other
abbrev pub less_ℤ : (a b : ℤ) → Decision (a <ℤ b)
less_ℤ a b = whole (int_lt a b) (less_ℤ_law a b)

-- the test for at most
pub most_ℤ_law : (a b : ℤ) → Decides (int_le a b) (a ≤ℤ b)
most_ℤ_law a b = (λ e. grind (arith, ints), λ h. grind (arith, ints))

-- whether one is at most the other
abbrev pub most_ℤ : (a b : ℤ) → Decision (a ≤ℤ b)
most_ℤ a b = whole (int_le a b) (most_ℤ_law a b)

-- ---- lists

-- whether each element passes
abbrev all_test : {X : Type 0} {P : X → Type 0} → ((x : X) → Decision (P x)) → List X → Bool
all_test each [] = true
all_test each (x ∷ xs) = (each x).test && all_test each xs

-- the most parts that do not hold of one element
abbrev most_failures : {X : Type 0} {P : X → Type 0} → ((x : X) → Decision (P x)) → List X → ℕ
most_failures each [] = 0
most_failures each (x ∷ xs) = max (each x).failures (most_failures each xs)

-- a test for each element
abbrev pub all : {X : Type 0} {P : X → Type 0} → ((x : X) → Decision (P x)) → (xs : List X) → Decision (All P xs)
all {P = P} each xs = record {
  test = all_test each xs;
  failures = most_failures each xs;
  law = Decides-by_and (λ x. (each x).test) P (all_test each) (λ x. (each x).law) refl (λ _ _. refl) xs;
}

-- one more element, with the others an index later
pub numbered-cons : {X : Type 0} (P : ℕ → X → Type 0) (x : X) (xs : List X) → P 0 x → AllNumbered (λ k. P (suc k)) xs → AllNumbered P (x ∷ xs)
numbered-cons P x xs p ps zero d h = p
numbered-cons P x xs p ps (suc k) d h = ps k d (omega arith)

-- and back
pub numbered-uncons : {X : Type 0} (P : ℕ → X → Type 0) (x : X) (xs : List X) → AllNumbered P (x ∷ xs) → P 0 x × AllNumbered (λ k. P (suc k)) xs
numbered-uncons P x xs h = (h 0 x (omega arith), λ k d l. h (suc k) d (omega arith))

-- no element
pub numbered-nil : {X : Type 0} (P : ℕ → X → Type 0) → AllNumbered P []
numbered-nil P k d h = absurd (omega arith)

-- a fact that holds
abbrev pub sure : {P : Type 0} → P → Decision P
sure p = whole true ((λ _. p), (λ _. refl))

-- the two answers of a test differ
pub false-not_true : false ≡ true → ⊥
false-not_true e = cc

-- a fact that does not hold
abbrev pub impossible : {P : Type 0} → (¬ P) → Decision P
impossible {P} n = whole false ((λ e. absurd (false-not_true e)), (λ p. absurd (n p)))

-- a test for each index and element
abbrev pub all_numbered : {X : Type 0} {P : ℕ → X → Type 0} → ((k : ℕ) (x : X) → Decision (P k x)) → (xs : List X) → Decision (AllNumbered P xs)
all_numbered {P = P} each [] = sure (numbered-nil P)
all_numbered {P =
    P} each (x ∷ xs) = like (together (each 0 x) (all_numbered (λ k. each (suc k)) xs)) (λ h. numbered-cons P x xs h.0 h.1) (numbered-uncons P x xs)

-- one more number below the bound
pub below-cons : (P : ℕ → Type 0) (n : ℕ) → P n → EachBelow n P → EachBelow (suc n) P
below-cons P n p ps k h = pick (by_less k n (omega arith))
  where
    by_less : (k n : ℕ) → k < suc n → (k < n) ⊎ (k ≡ n)
    by_less k n h = grind arith

    pick : (k < n) ⊎ (k ≡ n) → P k
    pick s = elim s [ inl l ↦ ps k l | inr e ↦ subst P (sym e) p ]

-- P holds of some number below a bound
abbrev pub SomeBelow : ℕ → (ℕ → Type 0) → Type 0
SomeBelow bound P = (i : ℕ) × (i < bound) × P i

-- no number is below 0
pub some-nil : (P : ℕ → Type 0) → ¬ SomeBelow 0 P
some-nil P h = let l : h.0 < 0 = h.1 in absurd (omega arith)

-- one more number below the bound
pub some-more : (P : ℕ → Type 0) (n : ℕ) → P n ⊎ SomeBelow n P → SomeBelow (suc n) P
some-more P n s = elim s [ inl p ↦ (n, here n, p) | inr h ↦ (h.0, further h.0 n h.1, h.2) ]
  where
    here : (n : ℕ) → n < suc n
    here n = omega arith

    further : (i n : ℕ) → i < n → i < suc n
    further i n l = omega arith

-- the last number below the bound, or one before
pub some-last : (P : ℕ → Type 0) (n : ℕ) → SomeBelow (suc n) P → P n ⊎ SomeBelow n P
some-last P n h = elim (split h.0 n h.1) [ inl l ↦ inr (h.0, l, h.2) | inr e ↦ inl (subst P e h.2) ]
  where
    split : (i n : ℕ) → i < suc n → (i < n) ⊎ (i ≡ n)
    split i n l = grind arith

-- a test for some number below a bound
abbrev pub some_below : {P : ℕ → Type 0} → ((i : ℕ) → Decision (P i)) → (n : ℕ) → Decision (SomeBelow n P)
some_below {P} each zero = impossible (some-nil P)
some_below {P} each (suc n) = like (either (each n) (some_below {P = P} each n)) (some-more P n) (some-last P n)

-- a test for each number below a bound
abbrev pub each_below : {P : ℕ → Type 0} → ((k : ℕ) → Decision (P k)) → (n : ℕ) → Decision (EachBelow n P)
each_below each zero = sure (λ k h. absurd (no_less k h))
  where
    no_less : (k : ℕ) → k < 0 → ⊥
    no_less k h = omega arith
each_below {P} each (suc n) =
    like (together (each n) (each_below each n)) (λ h. below-cons P n h.0 h.1) (λ h. (h n (here n), λ k l. h k (there k n l)))
  where
    here : (n : ℕ) → n < suc n
    here n = omega arith

    there : (k n : ℕ) → k < n → k < suc n
    there k n l = omega arith

-- one more element, related to each later one
pub pairs-cons : {X : Type 0} (R : X → X → Type 0) (x : X) (xs : List X) → All (R x) xs → AllPairs R xs → AllPairs R (x ∷ xs)
pairs-cons R x xs a ps zero zero d l m = absurd (omega arith)
pairs-cons R x xs a ps zero (suc j) d l m = a j d (omega arith)
pairs-cons R x xs a ps (suc i) zero d l m = absurd (omega arith)
pairs-cons R x xs a ps (suc i) (suc j) d l m = ps i j d (omega arith) (omega arith)

-- and back
pub pairs-uncons : {X : Type 0} (R : X → X → Type 0) (x : X) (xs : List X) → AllPairs R (x ∷ xs) → All (R x) xs × AllPairs R xs
pairs-uncons R x xs h = (λ k d l. h 0 (suc k) d (omega arith) (omega arith), λ i j d l m. h (suc i) (suc j) d (omega arith) (omega arith))

-- no pairs
pub pairs-nil : {X : Type 0} (R : X → X → Type 0) → AllPairs R []
pairs-nil R i j d l m = absurd (omega arith)

-- a test for each two elements
abbrev pub all_pairs : {X : Type 0} {R : X → X → Type 0} → ((x y : X) → Decision (R x y)) → (xs : List X) → Decision (AllPairs R xs)
all_pairs {R = R} each [] = sure (pairs-nil R)
all_pairs {R = R} each (x ∷ xs) = like (together (all (each x) xs) (all_pairs each xs)) (λ h. pairs-cons R x xs h.0 h.1) (pairs-uncons R x xs)

-- no element
pub any-nil : {X : Type 0} (P : X → Type 0) → ¬ Any P []
any-nil P h = let l : h.0 < 0 = h.2 in absurd (omega arith)

-- one more element
pub any-cons : {X : Type 0} (P : X → Type 0) (x : X) (xs : List X) → P x ⊎ Any P xs → Any P (x ∷ xs)
any-cons P x xs s = elim s [ inl p ↦ (0, x, zero_less _, refl, p) | inr h ↦ (suc h.0, h.1, more_less _ _ h.2, h.3, h.4) ]
  where
    zero_less : (n : ℕ) → 0 < suc n
    zero_less n = omega arith

    more_less : (k n : ℕ) → k < n → suc k < suc n
    more_less k n l = omega arith

-- and back
pub any-uncons : {X : Type 0} (P : X → Type 0) (x : X) (xs : List X) → Any P (x ∷ xs) → P x ⊎ Any P xs
any-uncons P x xs h = by_index h.0 h.1 h.2 h.3 h.4
  where
    by_index : (k : ℕ) (y : _) → k < length (x ∷ xs) → slice_index_or (x ∷ xs) k y ≡ y → P y → P x ⊎ Any P xs
    by_index zero y l e p = inl (subst P (sym e) p)
    by_index (suc k) y l e p = inr (k, y, omega arith, e, p)

-- a test for some element
abbrev pub any : {X : Type 0} {P : X → Type 0} → ((x : X) → Decision (P x)) → (xs : List X) → Decision (Any P xs)
any {P = P} each [] = impossible (any-nil P)
any {P = P} each (x ∷ xs) = like (either (each x) (any each xs)) (any-cons P x xs) (any-uncons P x xs)

-- an element equal to x is x
pub contains_from_any : {X : Type 0} (xs : List X) (x : X) → Any (λ y. y ≡ x) xs → Contains xs x
contains_from_any xs x h = (h.0, h.2, from h.0 h.1 h.2 h.3 h.4)
  where
    from : (k : ℕ) (y : _) → k < length xs → slice_index_or xs k y ≡ y → y ≡ x → slice_index_or xs k x ≡ x
    from k y l e f = subst (λ z. slice_index_or xs k z ≡ z) f e

-- and back
pub any_from_contains : {X : Type 0} (xs : List X) (x : X) → Contains xs x → Any (λ y. y ≡ x) xs
any_from_contains xs x h = (h.0, x, h.1, h.2, refl)

-- a test whether an element is x
abbrev pub contains : {X : Type 0} → ((x y : X) → Decision (x ≡ y)) → (xs : List X) (x : X) → Decision (Contains xs x)
contains same xs x = like (any (λ y. same y x) xs) (contains_from_any xs x) (any_from_contains xs x)

-- a test for what is there, and its fact
abbrev pub some_and : {X : Type 0} {P : X → Type 0} → ((x : X) → Decision (P x)) → (o : Option X) → Decision (IsSomeAnd o P)
some_and each None = impossible (λ h. h)
some_and each (Some x) = each x

-- a list with an element is not empty
pub cons-not_nil : {X : Type 0} (x : X) (xs : List X) → (x ∷ xs) ≡ [] → ⊥
cons-not_nil x xs e = cc

-- whether a list is empty
abbrev pub is_nil : {X : Type 0} → (xs : List X) → Decision (xs ≡ [])
is_nil [] = sure refl
is_nil (x ∷ xs) = impossible (cons-not_nil x xs)

-- the first element, and the others
pub all-uncons : {X : Type 0} (P : X → Type 0) (x : X) (xs : List X) → All P (x ∷ xs) → P x × All P xs
all-uncons P x xs h = (h 0 x (omega arith), λ k d l. h (suc k) d (omega arith))

-- three facts
abbrev pub three : {A B C : Type 0} → Decision A → Decision B → Decision C → Decision (A × B × C)
three a b c = like (both a (both b c)) (λ h. (h.0, h.1.0, h.1.1)) (λ h. (h.0, (h.1, h.2)))

-- four facts
abbrev pub four : {A B C D : Type 0} → Decision A → Decision B → Decision C → Decision D → Decision (A × B × C × D)
four a b c d = like (both a (both b (both c d))) (λ h. (h.0, h.1.0, h.1.1.0, h.1.1.1)) (λ h. (h.0, (h.1, (h.2, h.3))))
