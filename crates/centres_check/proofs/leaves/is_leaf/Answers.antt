use Rattle.std.proofs.Common.{◌≡◌, sym, subst, ◌↔◌, ℕ, List, IsTrue, Bool}
use Rattle.std.specs.Prelude.{slice_get, Some}
use Rattle.std.proofs.lemmas.Option.{get_or_from_slice_get}
use Rattle.bounds_model.specs.Plane.{PlanePoint, point_at, origin}
use Rattle.bounds_model.specs.CentresAnswer.{AreFar}
use Rattle.bounded_coords.specs.Clouds.{points_of}
use Rattle.corner_squares.specs.declared.square.Square.{Square}
use Rattle.corner_squares.specs.Squares.{IsCovered}
use Rattle.centres_check.specs.CentresLimits.{IsFreePair}
use Rattle.centres_check.proofs.leaves.is_leaf.Goals as goal

free_points : {yes : Bool} (side : ℕ) (points : List PlanePoint) (squares : List Square) (i j : ℕ) (p q : PlanePoint) → slice_get points i ≡ Some p → slice_get points j ≡ Some q → ¬ IsCovered squares p → ¬ IsCovered squares q
    → (IsTrue yes ↔ AreFar side p q) → IsTrue yes ↔ IsFreePair side squares (point_at points i) (point_at points j)
free_points {yes} side points squares i j p q at_i at_j first second h =
    let pair : IsTrue yes ↔ IsFreePair side squares p q = (λ t. record { first = first; second = second; far = h.0 t }, λ free. h.1 free.far) in
    subst (λ b. IsTrue yes ↔ IsFreePair side squares (point_at points i) b) (sym (get_or_from_slice_get points j q origin at_j))
    (subst (λ a. IsTrue yes ↔ IsFreePair side squares a q) (sym (get_or_from_slice_get points i p origin at_i)) pair)

pub returns : goal.returns
returns c =
    free_points c.args.side (points_of c.args.cloud) c.args.placed.now c.args.leaf.now.first c.args.leaf.now.second c.at-p.result.now c.at-q.result.now c.at-p.ensures c.at-q.ensures
    (λ covered. let yes = c.any_contains.ensures.1 covered in let no = c.if-any_contains.false in absurd (cc (yes, no)))
    (λ covered. let yes = c.any_contains-2.ensures.1 covered in let no = c.if-any_contains-2.false in absurd (cc (yes, no)))
    c.are_far.ensures
