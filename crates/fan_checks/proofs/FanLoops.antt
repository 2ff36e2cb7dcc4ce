-- Loops over the cones of a fan, with the directions that each begins and ends.
use Rattle.std.proofs.Common.{◌≡◌, sym, subst, ap, ◌∙◌, ℕ, ◌+◌, ◌<◌, inl, inr, List, [], ◌∷◌, length}
use Rattle.std.specs.Prelude.{slice_get, Some, All, map, slice_index_or}
use Rattle.std.proofs.lemmas.List.{length-map, length-append}
use Rattle.std.proofs.lemmas.Option.{slice_get_within}
use Rattle.integers.proofs.Lists.{below_or_at}
use Rattle.bounds_model.specs.Plane.{PlanePoint, point_at, origin}
use Rattle.bounds_model.specs.Fans.{IsShort, half_directions, quarter_directions}
use Rattle.bounds_model.specs.Fans.{NamesPoints}
use Rattle.bounds_model.specs.Fans.{NamesAllPoints}
use Rattle.answers.specs.Answers.{vector_of, half_cone_of, half_fan_of, quarter_cone_of, quarter_fan_of}
use Rattle.answers.specs.declared.fans.HalfCone.{HalfCone}
use Rattle.answers.specs.declared.fans.QuarterCone.{QuarterCone}
use Rattle.answers.specs.declared.fans.HalfFan as halves
use Rattle.answers.specs.declared.fans.QuarterFan as quarters
use Rattle.directions.proofs.FanLists.{cone_at, direction_at, seen_at}
use Rattle.fan_checks.specs.Limits.{NamesFour}

-- what each cone before i has with its number, and cone i, each before i + 1 has
pub numbered_more : {C M : Type 0} (P : ℕ → M → Type 0) (f : C → M) (cones : List C) (i : ℕ) (x : C) → slice_get cones i ≡ Some x
    → ((k : ℕ) (d : M) → k < i → P k (slice_index_or (map f cones) k d)) → P i (f x) → (k : ℕ) (d : M) → k < i + 1 → P k (slice_index_or (map f cones) k d)
numbered_more P f cones i x is before here k d low = elim (below_or_at k i low) [
  | inl less ↦ before k d less
  | inr same ↦ subst (λ j. P j (slice_index_or (map f cones) j d)) (sym same) (subst (P i) (sym (cone_at f cones i x d is)) here)
]

-- a cone has with its number what all have
pub numbered_at : {C M : Type 0} (P : ℕ → M → Type 0) (f : C → M) (cones : List C) (i : ℕ) (x : C) → slice_get cones i ≡ Some x
    → ((k : ℕ) (d : M) → k < length (map f cones) → P k (slice_index_or (map f cones) k d)) → P i (f x)
numbered_at P f cones i x is all =
    subst (P i) (cone_at f cones i x (f x) is) (all i (f x) (subst (λ n. i < n) (sym (length-map cones f)) (slice_get_within cones i x is)))

-- ---- fans over half a turn

-- the direction at which a cone begins
pub half_first : (fan : halves.HalfFan) (i : ℕ) (x : HalfCone) → slice_get fan.cones i ≡ Some x → point_at (half_directions (half_fan_of fan)) i ≡ vector_of x.dir
half_first fan i x is = direction_at half_cone_of (λ cone. cone.direction) fan.cones (vector_of fan.last) i x is

-- a direction of this number is short
pub half_short : (fan : halves.HalfFan) (i : ℕ) → i < length fan.cones + 1 → All IsShort (half_directions (half_fan_of fan)) → IsShort (point_at (half_directions (half_fan_of fan)) i)
half_short fan i below all = all i origin (subst (λ n. i < n) (sym (many fan)) below)
  where
    many : (fan : halves.HalfFan) → length (half_directions (half_fan_of fan)) ≡ length fan.cones + 1
    many fan = length-append (map (λ cone. cone.direction) (half_fan_of fan).cones) ((half_fan_of fan).last ∷ []) ∙ ap (λ n. n + 1) (length-map (half_fan_of fan).cones (λ cone. cone.direction) ∙ length-map fan.cones half_cone_of)

-- the numbers of a cone are numbers of points
pub half_names : (points : List PlanePoint) (fan : halves.HalfFan) (i : ℕ) (x : HalfCone) → slice_get fan.cones i ≡ Some x → NamesPoints points (half_fan_of fan) → (x.hi < length points) × (x.lo < length points)
half_names points fan i x is names = seen_at (λ cone. (cone.high < length points) × (cone.low < length points)) half_cone_of fan.cones i x is names

-- ---- fans over a quarter turn

-- the direction at which a cone begins
pub quarter_first : (fan : quarters.QuarterFan) (i : ℕ) (x : QuarterCone) → slice_get fan.cones i ≡ Some x → point_at (quarter_directions (quarter_fan_of fan)) i ≡ vector_of x.dir
quarter_first fan i x is = direction_at quarter_cone_of (λ cone. cone.direction) fan.cones (vector_of fan.last) i x is

-- a direction of this number is short
pub quarter_short : (fan : quarters.QuarterFan) (i : ℕ) → i < length fan.cones + 1 → All IsShort (quarter_directions (quarter_fan_of fan)) → IsShort (point_at (quarter_directions (quarter_fan_of fan)) i)
quarter_short fan i below all = all i origin (subst (λ n. i < n) (sym (many fan)) below)
  where
    many : (fan : quarters.QuarterFan) → length (quarter_directions (quarter_fan_of fan)) ≡ length fan.cones + 1
    many fan = length-append (map (λ cone. cone.direction) (quarter_fan_of fan).cones) ((quarter_fan_of fan).last ∷ []) ∙ ap (λ n. n + 1) (length-map (quarter_fan_of fan).cones (λ cone. cone.direction) ∙ length-map fan.cones quarter_cone_of)

-- the numbers of a cone are numbers of points
pub quarter_names : (points : List PlanePoint) (fan : quarters.QuarterFan) (i : ℕ) (x : QuarterCone) → slice_get fan.cones i ≡ Some x → NamesAllPoints points (quarter_fan_of fan) → NamesFour (length points) (quarter_cone_of x)
quarter_names points fan i x is names = seen_at (NamesFour (length points)) quarter_cone_of fan.cones i x is names
