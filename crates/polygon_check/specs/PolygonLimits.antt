-- What is asked of the lists of a polygon's answer, one after another.
use Rattle.std.specs.Prelude.{◌≡◌, ℕ, ◌+◌, ◌-◌, ◌*◌, ◌^◌, ◌<◌, ◌≤◌, min, ℤ, pos, ◌+ℤ◌, ◌≤ℤ◌, List, length, All}
use Rattle.std.specs.List.Sorted.{IsStrictlyIncreasing}
use Rattle.bounds_model.specs.Numbers.{HasCount, EachBelow}
use Rattle.bounds_model.specs.Plane.{PlanePoint, point_at, cross, turn}
use Rattle.bounds_model.specs.KgonAnswer.{KgonAnswer, pairs_before, potential}

-- 1 to 128 numbers of points, of which there are so many
pub record AreCornerNumbers (count : ℕ) (numbers : List ℕ) : Type 0 where
  pub as_many : HasCount 1 128 numbers
  pub below : All (λ n. n < count) numbers

-- rising positions of corners, of which there are so many: at least one and at most k
pub record IsChoice (k count : ℕ) (chosen : List ℕ) : Type 0 where
  pub as_many : HasCount 1 (min k count) chosen
  pub rising : IsStrictlyIncreasing chosen
  pub below : All (λ i. i < count) chosen

-- as many layers as a polygon of so many corners has triangles, each with a potential for each two corners
pub record HasLayers (k : ℕ) (a : KgonAnswer) : Type 0 where
  pub layers : a.layers ≡ min k (length a.corners) - 2
  pub as_many : length a.potentials ≡ a.layers * pairs_before (length a.corners) (length a.corners)

-- all lists are within their limits
pub record HasPolygonLimits (k count : ℕ) (a : KgonAnswer) : Type 0 where
  pub numbers : AreCornerNumbers count a.corners
  pub choice : IsChoice k (length a.corners) a.chosen
  pub layers : HasLayers k a

-- a whole table of potentials, of which none is large
pub record IsTable (a : KgonAnswer) : Type 0 where
  pub corner_count : HasCount 1 128 a.corners
  pub few : a.layers ≤ 10
  pub as_many : length a.potentials ≡ a.layers * pairs_before (length a.corners) (length a.corners)
  pub small : All (λ u. u ≤ℤ pos (2 ^ 43)) a.potentials

-- in each layer a triangle of this area raises the potential
abbrev pub RaisesOver : KgonAnswer → ℕ → ℕ → ℕ → ℤ → Type 0
RaisesOver a first middle last area = EachBelow a.layers (λ layer. (potential a first layer middle +ℤ area) ≤ℤ potential a first (layer + 1) last)

-- each triangle with this first and last corner does, seen from the first one
abbrev pub RaisesTo : List PlanePoint → KgonAnswer → ℕ → ℕ → Type 0
RaisesTo vectors a first last = EachBelow last (λ middle. first < middle → RaisesOver a first middle last (cross (point_at vectors middle) (point_at vectors last)))

-- the same over corners
abbrev pub RaisesBetween : List PlanePoint → KgonAnswer → ℕ → ℕ → Type 0
RaisesBetween corners a first last =
    EachBelow last (λ middle. first < middle → RaisesOver a first middle last (turn (point_at corners first) (point_at corners middle) (point_at corners last)))

-- each triangle with this first corner does
abbrev pub RaisesFrom : List PlanePoint → KgonAnswer → ℕ → Type 0
RaisesFrom corners a first = EachBelow (length a.corners) (λ last. first < last → RaisesBetween corners a first last)

-- each triangle does
abbrev pub RaisesAll : List PlanePoint → KgonAnswer → Type 0
RaisesAll corners a = EachBelow (length a.corners) (λ first. RaisesFrom corners a first)
