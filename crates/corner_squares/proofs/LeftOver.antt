-- The points that squares leave over.
use Rattle.std.proofs.Common.{◌≡◌, inl, inr, refl, sym, subst, ap, ◌∙◌, ℕ, zero, suc, ◌<◌, Bool, true, false, List, [], ◌∷◌, ◌++◌, length, get_or, All, Contains, arith}
use Rattle.std.specs.Prelude.{filter, not, cond, IsTrue}
use Rattle.std.proofs.lemmas.List.Elements.{All-contains, All-filter, All-contains_itself, filter_passes, Contains-append_cases, Contains-append_right}
use Rattle.integers.proofs.Lists.{Contains-head}
use Rattle.bounds_model.specs.Plane.{PlanePoint}
use Rattle.bounds_model.specs.CentresAnswer.{contains, outside}
use Rattle.corner_squares.specs.declared.square.Square.{Square}
use Rattle.corner_squares.specs.Squares.{square_of, IsCovered, left_over}

-- ---- lists

not_both : (b : Bool) → b ≡ true → not b ≡ true → ⊥
not_both true e f = cc
not_both false e f = cc

first_of_one : {X : Type 0} (x p : X) → Contains (x ∷ []) p → x ≡ p
first_of_one x p (zero, below, is) = is
first_of_one x p (suc k, below, is) = absurd (omega arith)

-- what passes a test stays
pub Contains-filter : {X : Type 0} (test : X → Bool) (xs : List X) (p : X) → Contains xs p → test p ≡ true → Contains (filter test xs) p
Contains-filter test [] p m passes = let l = m.1 in absurd (omega arith)
Contains-filter {X} test (x ∷ xs) p m passes = elim (Contains-append_cases (x ∷ []) xs p m) [
  | inl here ↦
      let is = first_of_one x p here in
      let ok : test x ≡ true = ap test is ∙ passes in
      subst (λ b. Contains (cond b (x ∷ filter test xs) (filter test xs)) p) (sym ok) (subst (λ y. Contains (x ∷ filter test xs) y) is (Contains-head x (filter test xs)))
  | inr there ↦ later (test x) (Contains-filter test xs p there passes)
]
  where
    later : (b : Bool) → Contains (filter test xs) p → Contains (cond b (x ∷ filter test xs) (filter test xs)) p
    later true m = Contains-append_right (x ∷ []) (filter test xs) p m
    later false m = m

-- ---- the squares

covered_by_first : (s : Square) (rest : List Square) (p : PlanePoint) → IsTrue (contains (square_of s) p) → IsCovered (s ∷ rest) p
covered_by_first s rest p h = (0, s, omega arith, refl, h)

pub covered_by_later : (s : Square) (rest : List Square) (p : PlanePoint) → IsCovered rest p → IsCovered (s ∷ rest) p
covered_by_later s rest p h = (suc h.0, h.1, more h.2, h.3, h.4)
  where
    more : {k n : ℕ} → k < n → suc k < suc n
    more l = omega arith

-- no empty list of squares contains a point
pub none_covered : (p : PlanePoint) → ¬ IsCovered [] p
none_covered p h = let l = h.2 in absurd (omega (arith, l))

not_true : (b : Bool) → (b ≡ true → ⊥) → not b ≡ true
not_true true n = absurd (n refl)
not_true false n = refl

-- a point that no square contains is left over
pub Contains-left_over : (squares : List Square) (points : List PlanePoint) (p : PlanePoint) → Contains points p → ¬ IsCovered squares p → Contains (left_over squares points) p
Contains-left_over [] points p m free = m
Contains-left_over (s ∷ rest) points p m free =
    Contains-left_over rest (outside (square_of s) points) p
    (Contains-filter (λ q. not (contains (square_of s) q)) points p m (not_true (contains (square_of s) p) (λ covered. free (covered_by_first s rest p covered))))
    (λ covered. free (covered_by_later s rest p covered))

-- and what is left over is one of the points
pub listed : (squares : List Square) (points : List PlanePoint) (p : PlanePoint) → Contains (left_over squares points) p → Contains points p
listed [] points p m = m
listed (s ∷ rest) points p m =
    let kept = listed rest (outside (square_of s) points) p m in
    All-contains (Contains points) (outside (square_of s) points) p (All-filter (λ q. not (contains (square_of s) q)) (Contains points) points (All-contains_itself points)) kept

-- which no square contains
pub free_of_left_over : (squares : List Square) (points : List PlanePoint) (p : PlanePoint) → Contains (left_over squares points) p → ¬ IsCovered squares p
free_of_left_over [] points p m covered = none_covered p covered
free_of_left_over (s ∷ rest) points p m (zero, t, below, is, covered) =
    let kept = listed rest (outside (square_of s) points) p m in
    let passes = All-contains (λ q. not (contains (square_of s) q) ≡ true) (outside (square_of s) points) p (filter_passes (λ q. not (contains (square_of s) q)) points) kept in
    not_both (contains (square_of s) p) (subst (λ t. contains (square_of t) p ≡ true) (sym is) covered) passes
free_of_left_over (s ∷ rest) points p m (suc k, t, below, is, covered) =
    free_of_left_over rest (outside (square_of s) points) p m (k, t, less below, is, covered)
  where
    less : {k n : ℕ} → suc k < suc n → k < n
    less l = omega arith

-- one square more leaves what is outside of it
pub left_over-push : (squares : List Square) (s : Square) (points : List PlanePoint) → left_over (squares ++ s ∷ []) points ≡ outside (square_of s) (left_over squares points)
left_over-push [] s points = refl
left_over-push (t ∷ rest) s points = left_over-push rest s (outside (square_of t) points)

-- what all points have that no square contains, all have that are left over
pub All-left_over : (P : PlanePoint → Type 0) (squares : List Square) (points : List PlanePoint) → ((p : PlanePoint) → Contains points p → ¬ IsCovered squares p → P p) → All P (left_over squares points)
All-left_over P squares points h k d below =
    let rest = left_over squares points in
    let m : Contains rest (get_or rest k d) = (k, below, same rest k d below) in
    h (get_or rest k d) (listed squares points (get_or rest k d) m) (free_of_left_over squares points (get_or rest k d) m)
  where
    same : {X : Type 0} (xs : List X) (k : ℕ) (d : X) → k < length xs → get_or xs k (get_or xs k d) ≡ get_or xs k d
    same [] k d l = refl
    same (x ∷ xs) zero d l = refl
    same (x ∷ xs) (suc k) d l = same xs k d (omega arith)
