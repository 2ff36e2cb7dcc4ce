-- The points strictly inside a frame as obstacles, listed and sorted.
use Rattle.std.proofs.Common.{◌≡◌, sym, ap, ◌∙◌, subst, ℕ, ◌+◌, ◌<◌, List, [], ◌∷◌, ◌++◌, length, take, All, Any, Some, arith}
use Rattle.std.specs.Prelude.{slice_get}
use Rattle.std.specs.List.Sorted.{IsPermutation}
use Rattle.std.proofs.lemmas.List.Elements.{All-more, All-push, All-weaker, All-nil, Contains-append_left}
use Rattle.std.proofs.lemmas.List.Quantifiers.{Any-push}
use Rattle.std.proofs.lemmas.List.Sorted.{All-permutation, Contains-permutation}
use Rattle.std.proofs.lemmas.Option.{slice_get_within, get_or_from_slice_get}
use Rattle.std.proofs.lemmas.Int.{ints}
use Rattle.bounds_model.specs.Plane.{PlanePoint, point_at, origin}
use Rattle.bounds_model.specs.EmptyRectangle.{Box, IsStrictlyInside}
use Rattle.empty_rectangle.specs.declared.obstacles.Obstacle.{Obstacle}
use Rattle.empty_rectangle.specs.declared.obstacles.Extent.{Extent}
use Rattle.empty_rectangle.specs.Rectangles.{IsInExtent}
use Rattle.empty_rectangle.specs.Points.{HasPointInside, IsExtentOf, IsObstacleAt, IsObstacleOf, AreObstacles}

-- an obstacle stays where the list grows
any_kept : (P : Obstacle → Type 0) (obstacles : List Obstacle) (s : Obstacle) → Any P obstacles → Any P (obstacles ++ s ∷ [])
any_kept P obstacles s a =
    let listed = Contains-append_left obstacles (s ∷ []) a.1 (a.0, a.2, a.3) in
    (listed.0, a.1, listed.1, listed.2, a.4)

-- one point was passed that is not strictly inside the frame
pub AreObstacles-skip : (frame : Box) (points : List PlanePoint) (i : ℕ) (obstacles : List Obstacle) (p : PlanePoint) → AreObstacles frame points (take i points) obstacles → slice_get points i ≡ Some p → ¬ IsStrictlyInside frame p → AreObstacles frame points (take (i + 1) points) obstacles
AreObstacles-skip frame points i obstacles p are is outside =
    let P = λ (q : PlanePoint). IsStrictlyInside frame q → Any (IsObstacleAt frame q) obstacles in
    record { each = are.each; every = All-more P points i p (slice_get_within points i p is) are.every (subst P (sym (get_or_from_slice_get points i p p is)) (λ inside. absurd (outside inside))) }

-- one point was added that is
pub AreObstacles-push : (frame : Box) (points : List PlanePoint) (i : ℕ) (obstacles : List Obstacle) (p : PlanePoint) (s : Obstacle) → AreObstacles frame points (take i points) obstacles → slice_get points i ≡ Some p → IsStrictlyInside frame p → IsObstacleAt frame p s → s.number ≡ i
    → AreObstacles frame points (take (i + 1) points) (obstacles ++ s ∷ [])
AreObstacles-push frame points i obstacles p s are is inside at number =
    let P = λ (q : PlanePoint). IsStrictlyInside frame q → Any (IsObstacleAt frame q) (obstacles ++ s ∷ []) in
    let below = slice_get_within points i p is in
    let there : point_at points s.number ≡ p = ap (point_at points) number ∙ get_or_from_slice_get points i p origin is in
    record {
      each = All-push (IsObstacleOf frame points) obstacles s are.each (record { below = omega arith; at = subst (λ q. IsObstacleAt frame q s) (sym there) at; inside = subst (IsStrictlyInside frame) (sym there) inside });
      every = All-more P points i p below (All-weaker (λ q. IsStrictlyInside frame q → Any (IsObstacleAt frame q) obstacles) P (λ q old in_frame. any_kept (IsObstacleAt frame q) obstacles s (old in_frame)) (take i points) are.every)
          (subst P (sym (get_or_from_slice_get points i p p is)) (λ _. Any-push (IsObstacleAt frame p) obstacles s at));
    }

-- the obstacles in another order
any_permuted : (P : Obstacle → Type 0) (xs ys : List Obstacle) → IsPermutation xs ys → Any P xs → Any P ys
any_permuted P xs ys same a =
    let listed = Contains-permutation xs ys a.1 same (a.0, a.2, a.3) in
    (listed.0, a.1, listed.1, listed.2, a.4)

pub AreObstacles-permuted : (frame : Box) (points some : List PlanePoint) (xs ys : List Obstacle) → IsPermutation xs ys → AreObstacles frame points some xs → AreObstacles frame points some ys
AreObstacles-permuted frame points some xs ys same are = record {
  each = All-permutation (IsObstacleOf frame points) xs ys same are.each;
  every = All-weaker (λ p. IsStrictlyInside frame p → Any (IsObstacleAt frame p) xs) (λ p. IsStrictlyInside frame p → Any (IsObstacleAt frame p) ys) (λ p old in_frame. any_permuted (IsObstacleAt frame p) xs ys same (old in_frame)) some are.every;
}

-- no points, no obstacles
pub AreObstacles-none : (frame : Box) (points : List PlanePoint) → AreObstacles frame points [] []
AreObstacles-none frame points = record { each = All-nil (IsObstacleOf frame points); every = All-nil (λ p. IsStrictlyInside frame p → Any (IsObstacleAt frame p) []) }

-- an obstacle of a point strictly inside the frame is strictly inside its extent
in_extent : (frame : Box) (points : List PlanePoint) (extent : Extent) → IsExtentOf frame extent → (s : Obstacle) → IsObstacleOf frame points s → IsInExtent extent s
in_extent frame points extent of s is = record {
  after_left = omega (arith, ints, is.at.x, is.inside.after_left);
  before_right = omega (arith, ints, is.at.x, is.inside.before_right, of.width);
  above_bottom = omega (arith, ints, is.at.y, is.inside.above_bottom);
  below_top = omega (arith, ints, is.at.y, is.inside.below_top, of.height);
}

pub all_in_extent : (frame : Box) (points : List PlanePoint) (extent : Extent) (obstacles : List Obstacle) → IsExtentOf frame extent → All (IsObstacleOf frame points) obstacles → All (IsInExtent extent) obstacles
all_in_extent frame points extent obstacles of each = All-weaker (IsObstacleOf frame points) (IsInExtent extent) (in_extent frame points extent of) obstacles each

-- a point that is strictly inside the frame is one of the list
pub has_point_inside : (frame : Box) (points : List PlanePoint) (i : ℕ) (p : PlanePoint) → slice_get points i ≡ Some p → IsStrictlyInside frame p → HasPointInside frame points
has_point_inside frame points i p is inside = (i, slice_get_within points i p is, subst (IsStrictlyInside frame) (sym (get_or_from_slice_get points i p origin is)) inside)

-- where there is an obstacle, a point is strictly inside the frame
pub point_of_obstacle : (frame : Box) (points : List PlanePoint) (obstacles : List Obstacle) → All (IsObstacleOf frame points) obstacles → 0 < length obstacles → HasPointInside frame points
point_of_obstacle frame points obstacles each some =
    let first = each 0 (record { x = 0; y = 0; number = 0 }) some in
    (_, first.below, first.inside)
