-- The bounding box of what squares and one more leave over, point by point.
use Rattle.std.proofs.Common.{◌≡◌, ◌≢◌, ◌⊎◌, inl, inr, sym, subst, ap, ◌∙◌, ℕ, zero, suc, ◌+◌, ◌-◌, ◌%◌, ◌/◌, ◌<◌, ◌≤◌, ℤ, pos, ◌-ℤ◌, List, [], ◌∷◌, ◌++◌, length, IsTrue, arith}
use Rattle.std.specs.Prelude.{slice_get, slice_index_or, Option, Some, None, if◌then◌else◌, ◌==◌}
use Rattle.std.proofs.lemmas.List.{length_push, get_or_append_left, get_or_push}
use Rattle.integers.proofs.Lists.{before_or_after}
use Rattle.bounds_model.specs.Plane.{PlanePoint}
use Rattle.bounds_model.specs.CentresAnswer.{contains}
use Rattle.corner_squares.specs.declared.square.Square.{Square}
use Rattle.corner_squares.specs.declared.bounds.Bounds.{Bounds}
use Rattle.corner_squares.specs.Squares.{square_of, IsCovered}
use Rattle.corner_squares.specs.Extents.{IsFound}
use Rattle.corner_squares.proofs.Boxes.{box_more, found_same}
use Rattle.corner_squares.proofs.Placing.{covered_by_more, covered_by_last}
use Rattle.centres_check.specs.CornerBoxes.{square_in, GrowsOutside}

-- what squares and one more contain, the squares contain or that one does
covered_either : (squares : List Square) (s : Square) (p : PlanePoint) → IsCovered (squares ++ s ∷ []) p → IsCovered squares p ⊎ IsTrue (contains (square_of s) p)
covered_either squares s p (k, t, below, is, covered) = elim (before_or_after k (length squares)) [
  | inl early ↦ inl (k, t, early, sym (get_or_append_left squares (s ∷ []) t k early) ∙ is, covered)
  | inr late ↦ inr (subst (λ u. IsTrue (contains (square_of u) p)) (sym is ∙ get_or_push squares s t k (sym (last k late below))) covered)
]
  where
    last : (k : ℕ) → length squares ≤ k → k < length (squares ++ s ∷ []) → k ≡ length squares
    last k late below = let e = length_push squares s in omega (arith, late, below, e)

-- a point that the squares contain changes nothing
pub beside_same : (points : List PlanePoint) (squares : List Square) (s : Square) (i : ℕ) (p : PlanePoint) (found : Option Bounds) → slice_get points i ≡ Some p → IsCovered squares p
    → IsFound points (squares ++ s ∷ []) i found → IsFound points (squares ++ s ∷ []) (i + 1) found
beside_same points squares s i p found there covered was = found_same points (squares ++ s ∷ []) i p found there (covered_by_more squares (s ∷ []) p covered) was

-- one that they leave over is added where the other square does not contain it
pub beside_more : (points : List PlanePoint) (squares : List Square) (s : Square) (i : ℕ) (p : PlanePoint) (old new : Option Bounds) → slice_get points i ≡ Some p → ¬ IsCovered squares p
    → IsFound points (squares ++ s ∷ []) i old → GrowsOutside s p i old new → IsFound points (squares ++ s ∷ []) (i + 1) new
beside_more points squares s i p old new there free was (inl h) = subst (IsFound points (squares ++ s ∷ []) (i + 1)) (sym h.1) (found_same points (squares ++ s ∷ []) i p old there (covered_by_last squares s p h.0) was)
beside_more points squares s i p old new there free was (inr h) =
    subst (IsFound points (squares ++ s ∷ []) (i + 1)) (sym h.3)
    (box_more points (squares ++ s ∷ []) i p old h.2 there (λ covered. elim (covered_either squares s p covered) [ inl before ↦ free before | inr last ↦ h.0 last ]) h.1 was h.4)

-- before any point
pub none_beside : (points : List PlanePoint) (squares : List Square) → IsFound points squares 0 None
none_beside points squares k below = absurd (omega (arith, below))

-- what holds of four holds of each
pub each_of_four : {X : Type 0} (P : ℕ → X → Type 0) (a b c d e : X) → P 0 a → P 1 b → P 2 c → P 3 d → (k : ℕ) → k < 4 → P k (slice_index_or (a ∷ b ∷ c ∷ d ∷ []) k e)
each_of_four P a b c d e pa pb pc pd zero below = pa
each_of_four P a b c d e pa pb pc pd (suc zero) below = pb
each_of_four P a b c d e pa pb pc pd (suc (suc zero)) below = pc
each_of_four P a b c d e pa pb pc pd (suc (suc (suc zero))) below = pd
each_of_four P a b c d e pa pb pc pd (suc (suc (suc (suc k)))) below = absurd (omega (arith, below))

square_parts : (a b c d : ℤ) (m n : ℕ) → a ≡ b → c ≡ d → m ≡ n → ◌≡◌ {A = Square} (record { left = a; bottom = c; side = m }) (record { left = b; bottom = d; side = n })
square_parts a b c d m n e f g = cc

-- the square in a corner by its parts
pub square_is : (s : Square) (side corner : ℕ) (b : Bounds) → s.left ≡ (if corner % 2 == 0 then b.across.low else (b.across.high -ℤ pos side)) → s.bottom ≡ (if corner / 2 == 0 then b.up.low else (b.up.high -ℤ pos side)) → s.side ≡ side
    → s ≡ square_in side corner b
square_is s side corner b left bottom wide = square_parts _ _ _ _ _ _ left bottom wide

-- after all points
pub beside_all : (points : List PlanePoint) (squares : List Square) (s : Square) (side corner i : ℕ) (b : Bounds) (found : Option Bounds) → s ≡ square_in side corner b → i ≡ length points → IsFound points (squares ++ s ∷ []) i found
    → IsFound points (squares ++ square_in side corner b ∷ []) (length points) found
beside_all points squares s side corner i b found is all h = subst (λ t. IsFound points (squares ++ t ∷ []) (length points) found) is (subst (λ n. IsFound points (squares ++ s ∷ []) n found) all h)

-- the box of the node below a corner is one of the four
pub box_of_next : (points : List PlanePoint) (squares seen kept pushed : List Square) (s : Square) (boxes : List (Option Bounds)) (side corner depth : ℕ) (b : Bounds) (found : Option Bounds) → depth - 1 ≢ 0 → seen ≡ squares → kept ≡ squares
    → s ≡ square_in side corner b → pushed ≡ kept ++ s ∷ [] → found ≡ slice_index_or boxes corner None → corner < 4
    → (depth ≢ 1 → (k : ℕ) → k < 4 → IsFound points (seen ++ square_in side k b ∷ []) (length points) (slice_index_or boxes k None)) → IsFound points pushed (length points) found
box_of_next points squares seen kept pushed s boxes side corner depth b found some same stays is pushed_is read four h =
    subst (λ ss. IsFound points ss (length points) found) (sym (pushed_is ∙ ap (λ ss. ss ++ s ∷ []) (stays ∙ sym same)))
    (subst (λ t. IsFound points (seen ++ t ∷ []) (length points) found) (sym is) (subst (IsFound points (seen ++ square_in side corner b ∷ []) (length points)) (sym read) (h (deeper some) corner four)))
  where
    deeper : depth - 1 ≢ 0 → depth ≢ 1
    deeper n e = n (omega (arith, e))
