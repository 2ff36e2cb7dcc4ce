-- The cones that the code reads, and the cones of the full turn.
use Rattle.std.proofs.Common.{◌≡◌, sym, ◌∙◌, ap, subst, ℕ, ◌+◌, ◌-◌, ◌<◌, ◌≤◌, List, length, All, Some, arith}
use Rattle.std.specs.Prelude.{slice_index_or, slice_get}
use Rattle.std.proofs.lemmas.List.{length-map, get_or-map}
use Rattle.std.proofs.lemmas.Option.{get_or_from_slice_get, slice_get_within}
use Rattle.bounds_model.specs.Plane.{PlanePoint}
use Rattle.bounds_model.specs.Fans.{half_directions, IsShort}
use Rattle.bounds_model.specs.Fans as fans
use Rattle.answers.specs.declared.fans.HalfCone.{HalfCone}
use Rattle.answers.specs.declared.fans.HalfFan.{HalfFan}
use Rattle.answers.specs.Answers.{vector_of, half_cone_of, half_fan_of}
use Rattle.parallelogram_strip.specs.FullTurn.{other_side, cone_at, no_cone}
use Rattle.parallelogram_strip.specs.PlainFan.{IsPlainFan}
use Rattle.parallelogram_strip.proofs.FullTurn.{first_half, second_half, of_direction, IsFullTurn, full_turn_of}

-- there are as many cones in the model
pub cones_length : (f : HalfFan) → length (half_fan_of f).cones ≡ length f.cones
cones_length f = length-map f.cones half_cone_of

-- a cone that is read
cone_read : (f : HalfFan) (k : ℕ) (x : HalfCone) → slice_get f.cones k ≡ Some x → slice_index_or (half_fan_of f).cones k no_cone ≡ half_cone_of x
cone_read f k x h = get_or-map half_cone_of f.cones k x no_cone (slice_get_within f.cones k x h) ∙ ap half_cone_of (get_or_from_slice_get f.cones k x x h)

-- it is a number of the model's list
listed : (f : HalfFan) (k : ℕ) (x : HalfCone) → slice_get f.cones k ≡ Some x → k < length (half_fan_of f).cones
listed f k x h = subst (λ n. k < n) (sym (cones_length f)) (slice_get_within f.cones k x h)

-- a cone of the first half
pub around_first : (f : HalfFan) (k : ℕ) (x : HalfCone) → slice_get f.cones k ≡ Some x → half_cone_of x ≡ cone_at (half_fan_of f) k
around_first f k x h = sym (first_half (half_fan_of f) k (listed f k x h) ∙ cone_read f k x h)

-- a cone of the second half
pub around_second : (f : HalfFan) (i m : ℕ) (x : HalfCone) → m ≡ length f.cones → m ≤ i → slice_get f.cones (i - m) ≡ Some x → other_side (half_cone_of x) ≡ cone_at (half_fan_of f) i
around_second f i m x e l h =
    ap other_side (around_first f (i - m) x h)
    ∙ sym (second_half (half_fan_of f) i (i - m) (omega (arith, e, cones_length f)) (listed f (i - m) x h))

-- its direction is within the limit
pub around_short : (f : HalfFan) (k : ℕ) (x : HalfCone) → All IsShort (half_directions (half_fan_of f)) → slice_get f.cones k ≡ Some x → IsShort (vector_of x.dir)
around_short f k x short h = subst (λ (cone : fans.HalfCone). IsShort cone.direction) (cone_read f k x h) (of_direction (half_fan_of f) IsShort short k (listed f k x h))

-- ---- of a fan that holds

-- the full turn of the code's fan
pub turn_of : (points : List PlanePoint) (f : HalfFan) → IsPlainFan points (half_fan_of f) → IsFullTurn points (length f.cones) (cone_at (half_fan_of f))
turn_of points f h = subst (λ m. IsFullTurn points m (cone_at (half_fan_of f))) (cones_length f) (full_turn_of points (half_fan_of f) h)

-- the numbers of a cone that is read are numbers of points
pub around_named : (points : List PlanePoint) (f : HalfFan) (i : ℕ) (x : HalfCone) → IsPlainFan points (half_fan_of f) → i < length f.cones + length f.cones → half_cone_of x ≡ cone_at (half_fan_of f) i → (x.hi < length points) × (x.lo < length points)
around_named points f i x h l e = subst (λ (cone : fans.HalfCone). (cone.high < length points) × (cone.low < length points)) (sym e) ((turn_of points f h).named i l)
