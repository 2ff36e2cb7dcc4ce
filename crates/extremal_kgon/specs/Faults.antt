-- Why points have no polygon.
use Rattle.std.specs.Prelude.{◌≡◌, ℕ, ◌<◌, ⊤, List, length}
use Rattle.bounds_model.specs.Plane.{PlanePoint}
use Rattle.bounds_model.specs.Hull.{AreCorners}
use Rattle.extremal_kgon.specs.declared.polygon.KgonFault.{KgonFault}
use Rattle.extremal_kgon.specs.declared.polygon.KgonFault.TheVariants.{TooManyCorners, OutOfMemory}

-- the hull has so many corners, more than 128
pub record HasTooMany (points : List PlanePoint) (count : ℕ) : Type 0 where
  pub corners : List PlanePoint
  pub are_corners : AreCorners points corners
  pub as_many : length corners ≡ count
  pub too_many : 128 < count

-- the hull has more than 128 corners
abbrev pub AreTooMany : List PlanePoint → Type 0
AreTooMany points = (count : ℕ) × HasTooMany points count

-- too many corners are told with their number; memory may be wanting at any time
abbrev pub IsCause : List PlanePoint → KgonFault → Type 0
IsCause points (TooManyCorners count) = HasTooMany points count
IsCause points OutOfMemory = ⊤
