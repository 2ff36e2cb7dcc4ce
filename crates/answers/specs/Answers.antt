-- The answers in the words of the model.
use Rattle.std.specs.Prelude.{pos, map}
use Rattle.bounds_model.specs.Plane.{PlanePoint}
use Rattle.bounds_model.specs.Space.{SpacePoint}
use Rattle.bounds_model.specs.BallAnswer as balls
use Rattle.bounds_model.specs.Strip as spans
use Rattle.bounds_model.specs.Fans as fans
use Rattle.bounds_model.specs.StripAnswer as strips
use Rattle.bounds_model.specs.RectangleAnswer as rectangles
use Rattle.bounds_model.specs.ParallelogramAnswer as parallelograms
use Rattle.bounds_model.specs.AnnulusAnswer as annuli
use Rattle.bounds_model.specs.ShellAnswer as shells
use Rattle.bounds_model.specs.DistanceAnswer as distances
use Rattle.bounds_model.specs.EmptyAnswer as empties
use Rattle.bounds_model.specs.EmptyAnswer.Blocker.{side, point}
use Rattle.bounds_model.specs.KgonAnswer as polygons
use Rattle.bounds_model.specs.CentresAnswer as centres
use Rattle.bounds_model.specs.FurthestAnswer as furthests
use Rattle.bounds_model.specs.Answers as model
use Rattle.answers.specs.declared.balls.Weighted.{Weighted}
use Rattle.answers.specs.declared.balls.BallAnswer2.{BallAnswer2}
use Rattle.answers.specs.declared.balls.BallAnswer3.{BallAnswer3}
use Rattle.answers.specs.declared.fans.Dir.{Dir}
use Rattle.answers.specs.declared.fans.Span.{Span}
use Rattle.answers.specs.declared.fans.HalfCone.{HalfCone}
use Rattle.answers.specs.declared.fans.HalfFan.{HalfFan}
use Rattle.answers.specs.declared.fans.QuarterCone.{QuarterCone}
use Rattle.answers.specs.declared.fans.QuarterFan.{QuarterFan}
use Rattle.answers.specs.declared.fans.StripAnswer.{StripAnswer}
use Rattle.answers.specs.declared.fans.RectAnswer.{RectAnswer}
use Rattle.answers.specs.declared.parallelograms.Chord.{Chord}
use Rattle.answers.specs.declared.parallelograms.ParaAnswer.{ParaAnswer}
use Rattle.answers.specs.declared.pairs.WeightedPair.{WeightedPair}
use Rattle.answers.specs.declared.pairs.AnnulusAnswer.{AnnulusAnswer}
use Rattle.answers.specs.declared.pairs.ShellAnswer.{ShellAnswer}
use Rattle.answers.specs.declared.pairs.Dir3.{Dir3}
use Rattle.answers.specs.declared.pairs.DistanceAnswer.{DistanceAnswer}
use Rattle.answers.specs.declared.empty_rectangles.Blocker.{Blocker}
use Rattle.answers.specs.declared.empty_rectangles.Blocker.TheVariants.{Side, Point}
use Rattle.answers.specs.declared.empty_rectangles.EmptyAnswer.{EmptyAnswer}
use Rattle.answers.specs.declared.polygons.KgonAnswer.{KgonAnswer}
use Rattle.answers.specs.declared.centres.Leaf.{Leaf}
use Rattle.answers.specs.declared.centres.CentresAnswer.{CentresAnswer}
use Rattle.answers.specs.declared.centres.FourAnswer.{FourAnswer}
use Rattle.answers.specs.declared.furthests.Entry.{Entry}
use Rattle.answers.specs.declared.furthests.FurthestAnswer.{FurthestAnswer}
use Rattle.bounds_model.specs.Reports as reports
use Rattle.answers.specs.declared.report.Report.{Report}
use Rattle.answers.specs.declared.answer.Answer.{Answer}
use Rattle.answers.specs.declared.answer.Answer.TheVariants.{Circle, Sphere, Rectangle, Parallelogram, Strip, Annulus, Empty, Kgon, Distance, Centres, Furthest, Four, Shell}

-- ---- circles and spheres

-- the number of a point with its weight
abbrev pub weighted_of : Weighted → balls.Weighted
weighted_of s = record { point = s.point; weight = pos s.weight }

-- a circle, and weighted points on it
abbrev pub circle_of : BallAnswer2 → balls.CircleAnswer
circle_of a = record { size = a.size; centre = a.center; supports = map weighted_of a.supports.items }

-- a sphere, likewise
abbrev pub sphere_of : BallAnswer3 → balls.SphereAnswer
sphere_of a = record { size = a.size; centre = a.center; supports = map weighted_of a.supports.items }

-- ---- fans, strips and rectangles

-- a vector
abbrev pub vector_of : Dir → PlanePoint
vector_of d = record { x = d.x; y = d.y }

-- two bounds
abbrev pub span_of : Span → spans.Span
span_of s = record { low = s.lo; high = s.hi }

-- from a direction to the next, with the numbers of a highest and a lowest point
abbrev pub half_cone_of : HalfCone → fans.HalfCone
half_cone_of c = record { direction = vector_of c.dir; high = c.hi; low = c.lo }

-- cones over half a turn, and the last direction
abbrev pub half_fan_of : HalfFan → fans.HalfFan
half_fan_of f = record { cones = map half_cone_of f.cones; last = vector_of f.last }

-- the same with extreme points for the turned directions
abbrev pub quarter_cone_of : QuarterCone → fans.QuarterCone
quarter_cone_of c = record { direction = vector_of c.dir; high = c.hi; low = c.lo; over = c.over; under = c.under }

-- cones over a quarter turn, and the last direction
abbrev pub quarter_fan_of : QuarterFan → fans.QuarterFan
quarter_fan_of f = record { cones = map quarter_cone_of f.cones; last = vector_of f.last }

-- a strip, and a fan over half a turn
abbrev pub strip_of : StripAnswer → strips.StripAnswer
strip_of a = record { size = a.size; direction = vector_of a.direction; bounds = span_of a.bounds; fan = half_fan_of a.fan }

-- a rectangle, and a fan over a quarter turn
abbrev pub rectangle_of : RectAnswer → rectangles.RectangleAnswer
rectangle_of a = record { size = a.size; direction = vector_of a.direction; along = span_of a.along; across = span_of a.across; fan = quarter_fan_of a.fan }

-- ---- parallelograms

-- a chord
abbrev pub chord_of : Chord → parallelograms.Chord
chord_of c = record { a = c.a; b = c.b; c = c.c; beta = pos c.beta; gamma = pos c.gamma; k = c.k }

-- a parallelogram, a fan over half a turn, and a chord for each of its directions
abbrev pub parallelogram_of : ParaAnswer → parallelograms.ParallelogramAnswer
parallelogram_of a = record {
  size = a.size;
  first = vector_of a.first;
  first_bounds = span_of a.first_span;
  second = vector_of a.second;
  second_bounds = span_of a.second_span;
  fan = half_fan_of a.fan;
  chords = map chord_of a.chords;
}

-- ---- annuli, shells and distances

-- the numbers of two points with a weight
abbrev pub pair_of : WeightedPair → annuli.WeightedPair
pair_of p = record { first = p.first; second = p.second; weight = pos p.weight }

-- an annulus, and weighted pairs of points
abbrev pub annulus_of : AnnulusAnswer → annuli.AnnulusAnswer
annulus_of a = record { size = a.size; centre = a.center; inner = a.inner; outer = a.outer; pairs = map pair_of a.pairs.items }

-- a shell, and weighted pairs of points
abbrev pub shell_of : ShellAnswer → shells.ShellAnswer
shell_of a = record { size = a.size; centre = a.center; low = a.low; high = a.high; pairs = map pair_of a.pairs.items }

-- a vector of space
abbrev pub space_vector_of : Dir3 → SpacePoint
space_vector_of d = record { x = d.x; y = d.y; z = d.z }

-- a point of each hull, and weighted pairs of points
abbrev pub distance_of : DistanceAnswer → distances.DistanceAnswer
distance_of a = record { size = a.size; from = a.from; to = a.to; direction = space_vector_of a.direction; pairs = map pair_of a.pairs.items }

-- ---- empty rectangles

-- what a side rests on
abbrev pub blocker_of : Blocker → empties.Blocker
blocker_of Side = side
blocker_of (Point number) = point number

-- an axis-parallel rectangle, and what each of its sides rests on
abbrev pub empty_of : EmptyAnswer → empties.EmptyAnswer
empty_of a = record {
  size = a.size;
  box = record { left = a.l; bottom = a.b; right = a.r; top = a.t };
  left = blocker_of a.left;
  bottom = blocker_of a.bottom;
  right = blocker_of a.right;
  top = blocker_of a.top;
}

-- ---- polygons

-- the hull's corners, the chosen positions, and potentials
abbrev pub polygon_of : KgonAnswer → polygons.KgonAnswer
polygon_of a = record { size = a.size; corners = a.corners; chosen = a.chosen.items; layers = a.layers; potentials = map pos a.potentials }

-- ---- centres

-- the numbers of two points that are far apart
abbrev pub leaf_of : Leaf → centres.Leaf
leaf_of leaf = record { first = leaf.first; second = leaf.second }

-- squares of one size, and leaves
abbrev pub centres_of : CentresAnswer → centres.CentresAnswer
centres_of a = record { size = a.size; squares = a.squares.items; leaves = map leaf_of a.leaves.items }

-- four squares of one size, and leaves
abbrev pub four_of : FourAnswer → centres.CentresAnswer
four_of a = record { size = a.size; squares = a.squares.items; leaves = map leaf_of a.leaves }

-- ---- furthest corners

-- the number of a corner's point, and the position of its furthest corner
abbrev pub entry_of : Entry → furthests.Entry
entry_of e = record { corner = e.corner; far = e.far }

-- the hull's corners, each with its furthest one
abbrev pub furthest_of : FurthestAnswer → furthests.FurthestAnswer
furthest_of a = record { size = a.size; entries = map entry_of a.entries }

-- ---- all kinds

-- the answer
abbrev pub answer_of : Answer → model.Answer
answer_of (Circle a) = model.circle (circle_of a)
answer_of (Sphere a) = model.sphere (sphere_of a)
answer_of (Rectangle a) = model.rectangle (rectangle_of a)
answer_of (Parallelogram a) = model.parallelogram (parallelogram_of a)
answer_of (Strip a) = model.strip (strip_of a)
answer_of (Annulus a) = model.annulus (annulus_of a)
answer_of (Empty a) = model.empty (empty_of a)
answer_of (Kgon a) = model.kgon (polygon_of a)
answer_of (Distance a) = model.distance (distance_of a)
answer_of (Centres a) = model.centres (centres_of a)
answer_of (Furthest a) = model.furthest (furthest_of a)
answer_of (Four a) = model.four (four_of a)
answer_of (Shell a) = model.shell (shell_of a)

-- the report
abbrev pub report_of : Report → reports.Report
report_of r = record { scale = r.scale; answer = answer_of r.answer }
