-- The first direction of a fan along another one, cone by cone.
use Rattle.std.proofs.Common.{◌≡◌, sym, subst, ◌⊎◌, inl, inr, ℕ, ◌+◌, ◌<◌, List, map, Some, arith}
use Rattle.std.specs.Prelude.{slice_get, slice_index_or}
use Rattle.std.proofs.lemmas.List.{length-map}
use Rattle.std.proofs.lemmas.Option.{slice_get_within}
use Rattle.bounds_model.specs.Plane.{PlanePoint, point_at}
use Rattle.bounds_model.specs.Fans.{IsReduced, IsFirst}
use Rattle.directions.proofs.FanLists as lists

-- the directions before this number pass P, and are none that u is reduced from
abbrev pub Passed : {M : Type 0} → List PlanePoint → (PlanePoint → M → Type 0) → List M → ℕ → Type 0
Passed {M} ds P cones i = (k : ℕ) (d : M) → k < i → P (point_at ds k) (slice_index_or cones k d)

abbrev pub NoneReduced : List PlanePoint → PlanePoint → ℕ → Type 0
NoneReduced ds u i = (k : ℕ) → k < i → IsReduced (point_at ds k) u → ⊥

-- one that is reached is the first
pub first_found : {C M : Type 0} (ds : List PlanePoint) (P : PlanePoint → M → Type 0) (f : C → M) (cones : List C) (u : PlanePoint) (i : ℕ) (x : C) → slice_get cones i ≡ Some x → Passed ds P (map f cones) i → IsReduced (point_at ds i) u → IsFirst ds P (map f cones) u
first_found ds P f cones u i x is before reduced = (i, subst (λ n. i < n) (sym (length-map cones f)) (slice_get_within cones i x is), record { reduced = reduced; before = λ j d l m. before j d m })

-- where this direction is not it and does not pass, there is none
pub none_first : {C M : Type 0} (ds : List PlanePoint) (P : PlanePoint → M → Type 0) (f : C → M) (cones : List C) (u : PlanePoint) (i : ℕ) (x : C) → slice_get cones i ≡ Some x → NoneReduced ds u i → (IsReduced (point_at ds i) u → ⊥) → (P (point_at ds i) (f x) → ⊥) → IsFirst ds P (map f cones) u → ⊥
none_first ds P f cones u i x is none not_here not_passed first = elim (order first.0 i) [
  | inl less ↦ none first.0 less first.2.reduced
  | inr rest ↦ elim rest [
    | inl same ↦ not_here (subst (λ n. IsReduced (point_at ds n) u) same first.2.reduced)
    | inr more ↦ not_passed (subst (λ m. P (point_at ds i) m) (lists.cone_at f cones i x (f x) is) (first.2.before i (f x) (subst (λ n. i < n) (sym (length-map cones f)) (slice_get_within cones i x is)) more))
  ]
]
  where
    order : (n i : ℕ) → (n < i) ⊎ ((n ≡ i) ⊎ (i < n))
    order n i = grind arith

-- one direction more
pub passed_more : {C M : Type 0} (ds : List PlanePoint) (P : PlanePoint → M → Type 0) (f : C → M) (cones : List C) (i : ℕ) (x : C) → slice_get cones i ≡ Some x → Passed ds P (map f cones) i → P (point_at ds i) (f x) → Passed ds P (map f cones) (i + 1)
passed_more ds P f cones i x is before here k d l = elim (split k i l) [
  | inl less ↦ before k d less
  | inr same ↦ subst (λ n. P (point_at ds n) (slice_index_or (map f cones) n d)) (sym same) (subst (P (point_at ds i)) (sym (lists.cone_at f cones i x d is)) here)
]
  where
    split : (k i : ℕ) → k < i + 1 → (k < i) ⊎ (k ≡ i)
    split k i h = grind arith

pub none_more : (ds : List PlanePoint) (u : PlanePoint) (i : ℕ) → NoneReduced ds u i → (IsReduced (point_at ds i) u → ⊥) → NoneReduced ds u (i + 1)
none_more ds u i none here k l = elim (split k i l) [ inl less ↦ none k less | inr same ↦ subst (λ n. IsReduced (point_at ds n) u → ⊥) (sym same) here ]
  where
    split : (k i : ℕ) → k < i + 1 → (k < i) ⊎ (k ≡ i)
    split k i h = grind arith
