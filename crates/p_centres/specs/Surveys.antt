-- What a pass over the points finds that squares leave over.
use Rattle.std.specs.Prelude.{◌≡◌, ◌⊎◌, ℕ, ◌+◌, ◌<◌, List, All, ℤ, pos, ◌+ℤ◌, ◌≤ℤ◌, ◌<ℤ◌}
use Rattle.std.specs.Prelude.{Option, Some, None}
use Rattle.bounds_model.specs.Plane.{PlanePoint, point_at}
use Rattle.bounds_model.specs.CentresAnswer as model
use Rattle.answers.specs.declared.centres.Leaf.{Leaf}
use Rattle.answers.specs.Answers.{leaf_of}
use Rattle.corner_squares.specs.declared.square.Square.{Square}
use Rattle.corner_squares.specs.declared.extent.Extent.{Extent}
use Rattle.corner_squares.specs.declared.bounds.Bounds.{Bounds}
use Rattle.corner_squares.specs.Squares.{IsCovered}
use Rattle.corner_squares.specs.Extents.{IsRestBox, IsNoLonger, IsBox}
use Rattle.corner_squares.specs.Covers.{IsFarPair}
use Rattle.p_centres.specs.Leaves.{later}
use Rattle.p_centres.specs.declared.surveys.Finding.{Finding}
use Rattle.p_centres.specs.declared.surveys.Finding.TheVariants.{Nothing, Around, Far}

-- the leaf's points are at the ends of an extent that is longer
pub record AreEnds (limit : ℕ) (e : Extent) (leaf : Leaf) : Type 0 where
  pub first : leaf.first ≡ e.low_at
  pub second : leaf.second ≡ e.high_at
  pub longer : (e.low +ℤ pos limit) <ℤ e.high

-- points at the ends of a box that is longer, in x where it is longer in x, or none where it is not
abbrev pub IsFarOrNear : Bounds → ℕ → Option Leaf → Type 0
IsFarOrNear b limit None = IsNoLonger limit b
IsFarOrNear b limit (Some leaf) = AreEnds limit b.across leaf ⊎ (AreEnds limit b.up leaf × (b.across.high ≤ℤ (b.across.low +ℤ pos limit)))

-- the first i points are all covered, or the box is that of the others
abbrev pub IsFound : List PlanePoint → List Square → ℕ → ℕ → Option Bounds → Type 0
IsFound points squares limit i None = (k : ℕ) → k < i → IsCovered squares (point_at points k)
IsFound points squares limit i (Some b) = IsBox points squares i b × IsNoLonger limit b

-- of the first i points, those that no square contains differ by at most the limit in this coordinate
abbrev pub AreNear : (PlanePoint → ℤ) → List PlanePoint → List Square → ℕ → ℕ → Type 0
AreNear of points squares limit i =
    (j k : ℕ) → j < i → k < i → IsCovered squares (point_at points j) ⊎ IsCovered squares (point_at points k) ⊎ (of (point_at points k) ≤ℤ (of (point_at points j) +ℤ pos limit))

-- of those of the first i points that no square contains, the leaf names the first one with the least value, and the first one with the greatest
pub record AreFirstEnds (of : PlanePoint → ℤ) (points : List PlanePoint) (squares : List Square) (i : ℕ) (leaf : model.Leaf) : Type 0 where
  pub least : (k : ℕ) → k < i → IsCovered squares (point_at points k) ⊎ (of (point_at points leaf.first) ≤ℤ of (point_at points k))
  pub first_least : (k : ℕ) → k < leaf.first → IsCovered squares (point_at points k) ⊎ (of (point_at points leaf.first) <ℤ of (point_at points k))
  pub greatest : (k : ℕ) → k < i → IsCovered squares (point_at points k) ⊎ (of (point_at points k) ≤ℤ of (point_at points leaf.second))
  pub first_greatest : (k : ℕ) → k < leaf.second → IsCovered squares (point_at points k) ⊎ (of (point_at points k) <ℤ of (point_at points leaf.second))

-- as far as its later point, the leaf names the ends in one coordinate, far apart; none are before that point, nor the first i beside
pub record IsFirstFarIn (of beside : PlanePoint → ℤ) (points : List PlanePoint) (squares : List Square) (limit i : ℕ) (leaf : model.Leaf) : Type 0 where
  pub ends : AreFirstEnds of points squares (later leaf + 1) leaf
  pub apart : (of (point_at points leaf.first) +ℤ pos limit) <ℤ of (point_at points leaf.second)
  pub before : AreNear of points squares limit (later leaf)
  pub others : AreNear beside points squares limit i

-- the first two points, in the order of the file, that no square contains and that are far apart: in x, or else in y
abbrev pub IsFirstFar : List PlanePoint → List Square → ℕ → model.Leaf → Type 0
IsFirstFar points squares limit leaf = IsFirstFarIn (λ p. p.x) (λ p. p.y) points squares limit (later leaf) leaf ⊎ IsFirstFarIn (λ p. p.y) (λ p. p.x) points squares limit (later leaf + 1) leaf

-- two points that no square contains and that are far apart, the first ones: they are points, so the limit is less than what they can be apart
pub record IsFirstPair (points : List PlanePoint) (squares : List Square) (limit : ℕ) (leaf : Leaf) : Type 0 where
  pub pair : IsFarPair points squares limit leaf
  pub earliest : IsFirstFar points squares limit (leaf_of leaf)
  pub short : limit < 400000

-- what is left over
abbrev pub IsSurvey : List PlanePoint → List Square → ℕ → Finding → Type 0
IsSurvey points squares limit Nothing = All (IsCovered squares) points
IsSurvey points squares limit (Around b) = IsRestBox points squares b × IsNoLonger limit b
IsSurvey points squares limit (Far leaf) = IsFirstPair points squares limit leaf

-- the bounding box of what is left over, where there is something
abbrev pub IsWhole : List PlanePoint → List Square → Option Bounds → Type 0
IsWhole points squares None = All (IsCovered squares) points
IsWhole points squares (Some b) = IsRestBox points squares b
