-- The first of the least, in the order of a loop.
use Rattle.std.proofs.Common.{Bool, ◌≡◌, refl, sym, ap, ◌∙◌, subst, ℕ, ◌+◌, ◌<◌, List, length, arith, true, false}
use Rattle.std.specs.Prelude.{slice_get, Option, Some}
use Rattle.std.specs.declared.cmp.Ordering.{Ordering}
use Rattle.std.specs.declared.cmp.Ordering.TheVariants.{Less, Equal, Greater}
use Rattle.std.specs.Ordering.{is_gt, is_lt, is_some_and, partial_lt, ordering_reverse, on}
use Rattle.std.specs.Cmp.{IsTotalOrder, tied_itself, alike_right}
use Rattle.std.proofs.lemmas.Option.{same_Some, slice_get_within}
use borrow.Author.Count.{below_more}
use Rattle.bounded_coords.specs.Firsts.{IsFirstLeast}

-- what a test of the order says
pub is_below : {V : Type 0} {compare : V → V → Ordering} {answer : V → V → Option Ordering} (a b : V) {test : Bool} → ((x y : V) → answer x y ≡ Some (compare x y)) → test ≡ partial_lt answer a b → test ≡ true → compare a b ≡ Less
is_below {compare = compare} a b agree e held = sole (compare a b) (sym (ap (is_some_and is_lt) (agree a b)) ∙ sym e ∙ held)
  where
    sole : (r : Ordering) → is_lt r ≡ true → r ≡ Less
    sole Less k = refl
    sole Equal wrong = absurd (cc)
    sole Greater wrong = absurd (cc)

pub is_not_below : {V : Type 0} {compare : V → V → Ordering} {answer : V → V → Option Ordering} (a b : V) {test : Bool} → ((x y : V) → answer x y ≡ Some (compare x y)) → test ≡ partial_lt answer a b → test ≡ false → is_lt (compare a b) ≡ false
is_not_below a b agree e failed = sym (ap (is_some_and is_lt) (agree a b)) ∙ sym e ∙ failed

-- of the points before `count`, that of this number is the first with the least value
pub record IsLeastBefore {P V : Type 0} (measured : P → V) (compare : V → V → Ordering) (points : List P) (count number : ℕ) (least : V) : Type 0 where
  pub listed : number < count
  pub reached : (p : P) → slice_get points number ≡ Some p → least ≡ measured p
  pub lowest : (other : ℕ) → other < count → (q : P) → slice_get points other ≡ Some q → is_gt (compare least (measured q)) ≡ false
  pub first : (other : ℕ) → other < number → (q : P) → slice_get points other ≡ Some q → compare least (measured q) ≡ Less

same : {P : Type 0} (points : List P) (i : ℕ) {p q : P} → slice_get points i ≡ Some p → slice_get points i ≡ Some q → p ≡ q
same points i e f = same_Some _ _ (sym e ∙ f)

module _ {P V : Type 0} (measured : P → V) (compare : V → V → Ordering) (total : IsTotalOrder compare) (points : List P) where
  not_above : {v w : V} → v ≡ w → is_gt (compare v w) ≡ false
  not_above {v} e = subst (λ w. is_gt (compare v w) ≡ false) e (ap is_gt (tied_itself total v))

  -- of one point
  pub least_of_one : (p : P) (v : V) → slice_get points 0 ≡ Some p → v ≡ measured p → IsLeastBefore measured compare points 1 0 v
  least_of_one p v at e = record {
    listed = omega arith;
    reached = λ q h. e ∙ ap measured (same points 0 at h);
    lowest = λ j k q h. let zero_is : j ≡ 0 = omega arith in not_above (e ∙ ap measured (same points 0 at (subst (λ i. slice_get points i ≡ Some q) zero_is h)));
    first = λ j k q h. absurd (omega arith);
  }

  below_all : (v w u : V) → compare v w ≡ Less → is_gt (compare w u) ≡ false → (r : Ordering) → compare w u ≡ r → compare v u ≡ Less
  below_all v w u e h Less f = total.trans v w u e f
  below_all v w u e h Equal f = sym (alike_right total w u v f) ∙ e
  below_all v w u e h Greater f = absurd (let wrong : true ≡ false = sym (ap is_gt f) ∙ h in cc)

  -- one below it replaces it
  pub least_takes : (i number : ℕ) (least v : V) (p : P) → IsLeastBefore measured compare points i number least → slice_get points i ≡ Some p → v ≡ measured p → compare v least ≡ Less
      → IsLeastBefore measured compare points (i + 1) i v
  least_takes i number least v p h at e less = record {
    listed = omega arith;
    reached = λ q k. e ∙ ap measured (same points i at k);
    lowest = below_more (λ j. (q : P) → slice_get points j ≡ Some q → is_gt (compare v (measured q)) ≡ false) i
        (λ j k q known. ap is_gt (below j k q known)) (λ q k. not_above (e ∙ ap measured (same points i at k)));
    first = below;
  }
    where
      below : (j : ℕ) → j < i → (q : P) → slice_get points j ≡ Some q → compare v (measured q) ≡ Less
      below j k q known = below_all v least (measured q) less (h.lowest j k q known) (compare least (measured q)) refl

  -- another does not
  pub least_keeps : (i number : ℕ) (least v : V) (p : P) → IsLeastBefore measured compare points i number least → slice_get points i ≡ Some p → v ≡ measured p → is_lt (compare v least) ≡ false
      → IsLeastBefore measured compare points (i + 1) number least
  least_keeps i number least v p h at e more = record {
    listed = let old = h.listed in omega arith;
    reached = h.reached;
    lowest = below_more (λ j. (q : P) → slice_get points j ≡ Some q → is_gt (compare least (measured q)) ≡ false) i
        h.lowest (λ q k. subst (λ w. is_gt (compare least w) ≡ false) (e ∙ ap measured (same points i at k)) (ap is_gt (total.antisymm least v) ∙ turned (compare v least) more));
    first = h.first;
  }
    where
      turned : (r : Ordering) → is_lt r ≡ false → is_gt (ordering_reverse r) ≡ false
      turned Less wrong = absurd (cc)
      turned Equal k = refl
      turned Greater k = refl

  -- of all of them
  pub least_of_all : (number : ℕ) (least : V) → IsLeastBefore measured compare points (length points) number least → IsFirstLeast (on measured compare) points number
  least_of_all number least h = record {
    listed = h.listed;
    least = λ other p q at known. subst (λ v. is_gt (compare v (measured q)) ≡ false) (h.reached p at) (h.lowest other (slice_get_within points other q known) q known);
    first = λ other p q before at known. subst (λ v. compare v (measured q) ≡ Less) (h.reached p at) (h.first other before q known);
  }
