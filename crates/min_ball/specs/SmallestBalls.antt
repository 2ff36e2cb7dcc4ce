-- What a smallest ball holds.
use Rattle.std.specs.Prelude.{List, map}
use Rattle.bounds_model.specs.Space.{SpacePoint}
use Rattle.bounds_model.specs.Fractions.{Fraction}
use Rattle.corral.specs.declared.support.Support.{Support}
use Rattle.corral.specs.Items.{first_points}
use Rattle.corral.specs.Supported.{items_of}
use Rattle.min_ball.specs.declared.ball.Ball.{Ball}

-- the supports that determine it
abbrev pub support_of : {K P : Type 0} {g : _} → Ball K P g → Support K P g
support_of ball = ball.support

-- the points that it encloses
abbrev pub points_in : {K P : Type 0} {g : _} → Ball K P g → List P
points_in ball = first_points (items_of ball.support)

-- the same at their places in space
abbrev pub places_in : {K P : Type 0} {g : _} → (P → SpacePoint) → Ball K P g → List SpacePoint
places_in place ball = map place (points_in ball)

-- its squared radius
abbrev pub size_of : {K P : Type 0} {g : _} → Ball K P g → Fraction
size_of ball = ball.size
