-- What directions in machine numbers mean.
use Rattle.bounds_model.specs.Plane.{PlanePoint}
use Rattle.fan_test.specs.declared.direction.Direction.{Direction}

-- the direction
abbrev pub direction_of : Direction → PlanePoint
direction_of d = record { x = d.x; y = d.y }
