-- What an ask and point sets mean.
use Rattle.bounds_model.specs.Asks as model
use Rattle.bounded_coords.specs.Clouds.{points_of}
use Rattle.bounded_coords.specs.declared.ask.Ask.{Ask}
use Rattle.bounded_coords.specs.declared.ask.Ask.TheVariants.{Circle, Sphere, Rectangle, Parallelogram, Strip, Annulus, Empty, Kgon, Distance, Centres, Furthest, Four, Shell}
use Rattle.bounded_coords.specs.declared.ask.Shape.{Shape}
use Rattle.bounded_coords.specs.declared.ask.Shape.TheVariants.{OnePlane, PlaneOrBare, OneSpace, TwoSpace}
use Rattle.bounded_coords.specs.declared.ask.Sets.{Sets}
use Rattle.bounded_coords.specs.declared.ask.Sets.TheVariants.{Plane, Space, Two, Bare}

-- the question
abbrev pub asked : Ask → model.Ask
asked Circle = model.ask_circle
asked Sphere = model.ask_sphere
asked Rectangle = model.ask_rectangle
asked Parallelogram = model.ask_parallelogram
asked Strip = model.ask_strip
asked Annulus = model.ask_annulus
asked (Empty frame) = model.ask_empty frame
asked (Kgon k) = model.ask_kgon k
asked Distance = model.ask_distance
asked (Centres p) = model.ask_centres p
asked Furthest = model.ask_furthest
asked Four = model.ask_four
asked Shell = model.ask_shell

-- the shape of the sets
abbrev pub shaped : Shape → model.Shape
shaped OnePlane = model.one_plane
shaped PlaneOrBare = model.plane_or_bare
shaped OneSpace = model.one_space
shaped TwoSpace = model.two_space

-- the points that are lent
abbrev pub lent : Sets → model.Sets
lent (Plane cloud) = model.plane (points_of cloud)
lent (Space cloud) = model.space (points_of cloud)
lent (Two p q) = model.two (points_of p) (points_of q)
lent Bare = model.bare
