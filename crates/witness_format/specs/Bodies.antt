-- The answers as what their formats say: a kind, the size, and the body of the kind.
use Rattle.std.specs.Prelude.{pos, ℕ, map, zip, List, [], ◌∷◌, ◌++◌}
use Rattle.bounds_model.specs.Fractions.{Fraction}
use Rattle.bounds_model.specs.Ranges.{point_limit}
use Rattle.bounds_model.specs.AnswerText.Fields.{number, plane_ratio, bounded, point_number, natural}
use Rattle.bounds_model.specs.AnswerText.LineFormats.{untitled, Values}
use Rattle.bounds_model.specs.AnswerText.Formats.{Body}
use Rattle.bounds_model.specs.AnswerText.Kinds.{Kind, circle_kind, sphere_kind, quarter_fields, rectangle_kind, fan, half_fields, strip_kind, side_fields, chorded_fields, last_fields, parallelogram_kind, annulus_kind, empty_kind, kgon_kind, distance_kind, centres_kind, furthest_kind, four_kind, shell_kind}
use Rattle.bounds_model.specs.AnswerText.Written.{format_line, part_bytes}
use Rattle.answers.specs.Answers.{blocker_of}
use Rattle.answer_lines.specs.Chords.{chord_values}
use Rattle.answers.specs.declared.balls.Weighted.{Weighted}
use Rattle.answers.specs.declared.balls.BallAnswer2.{BallAnswer2}
use Rattle.answers.specs.declared.balls.BallAnswer3.{BallAnswer3}
use Rattle.answers.specs.declared.centres.Leaf.{Leaf}
use Rattle.answers.specs.declared.centres.CentresAnswer.{CentresAnswer}
use Rattle.answers.specs.declared.centres.FourAnswer.{FourAnswer}
use Rattle.answers.specs.declared.furthests.Entry.{Entry}
use Rattle.answers.specs.declared.furthests.FurthestAnswer.{FurthestAnswer}
use Rattle.answers.specs.declared.pairs.ShellAnswer.{ShellAnswer}
use Rattle.answers.specs.declared.fans.Dir.{Dir}
use Rattle.answers.specs.declared.fans.Span.{Span}
use Rattle.answers.specs.declared.fans.HalfCone.{HalfCone}
use Rattle.answers.specs.declared.fans.QuarterCone.{QuarterCone}
use Rattle.answers.specs.declared.fans.StripAnswer.{StripAnswer}
use Rattle.answers.specs.declared.fans.RectAnswer.{RectAnswer}
use Rattle.answers.specs.declared.parallelograms.Chord.{Chord}
use Rattle.answers.specs.declared.parallelograms.ParaAnswer.{ParaAnswer}
use Rattle.answers.specs.declared.pairs.WeightedPair.{WeightedPair}
use Rattle.answers.specs.declared.pairs.Dir3.{Dir3}
use Rattle.answers.specs.declared.pairs.AnnulusAnswer.{AnnulusAnswer}
use Rattle.answers.specs.declared.pairs.DistanceAnswer.{DistanceAnswer}
use Rattle.answers.specs.declared.empty_rectangles.EmptyAnswer.{EmptyAnswer}
use Rattle.answers.specs.declared.polygons.KgonAnswer.{KgonAnswer}
use Rattle.answers.specs.declared.answer.Answer.{Answer}
use Rattle.answers.specs.declared.answer.Answer.TheVariants.{Circle, Sphere, Rectangle, Parallelogram, Strip, Annulus, Empty, Kgon, Distance, Centres, Furthest, Four, Shell}

-- ---- lines

-- the number of a point and its weight
abbrev pub weighted_values : Weighted → Values (point_number ∷ natural ∷ [])
weighted_values s = (s.point, (pos s.weight, tt))

-- the numbers of two points and their weight
abbrev pub pair_values : WeightedPair → Values (point_number ∷ point_number ∷ natural ∷ [])
pair_values p = (p.first, (p.second, (pos p.weight, tt)))

-- the numbers of two points
abbrev pub leaf_values : Leaf → Values (point_number ∷ point_number ∷ [])
leaf_values leaf = (leaf.first, (leaf.second, tt))

-- the number of a corner's point, and the position of its furthest corner
abbrev pub entry_values : Entry → Values (point_number ∷ bounded 0 point_limit ∷ [])
entry_values e = (e.corner, (e.far, tt))

-- a vector
abbrev pub dir_values : Dir → Values (number ∷ number ∷ [])
dir_values d = (d.x, (d.y, tt))

-- a vector of space
abbrev pub space_dir_values : Dir3 → Values (number ∷ number ∷ number ∷ [])
space_dir_values d = (d.x, (d.y, (d.z, tt)))

-- two bounds
abbrev pub span_values : Span → Values (number ∷ number ∷ [])
span_values s = (s.lo, (s.hi, tt))

-- a normal with its bounds
abbrev pub side_values : Dir → Span → Values side_fields
side_values d s = (d.x, (d.y, (s.lo, (s.hi, tt))))

-- a direction, and the numbers of two points
abbrev pub half_cone_values : HalfCone → Values half_fields
half_cone_values c = (c.dir.x, (c.dir.y, (c.hi, (c.lo, tt))))

-- a direction, and the numbers of four points
abbrev pub quarter_cone_values : QuarterCone → Values quarter_fields
quarter_cone_values c = (c.dir.x, (c.dir.y, (c.hi, (c.lo, (c.over, (c.under, tt))))))

-- a cone and its chord
abbrev pub chorded_values : HalfCone × Chord → Values chorded_fields
chorded_values x = (x.0.dir.x, (x.0.dir.y, (x.0.hi, (x.0.lo, chord_values x.1))))

-- the last direction and its chord
abbrev pub chorded_end_values : Dir → Chord → Values last_fields
chorded_end_values d k = (d.x, (d.y, chord_values k))

-- the last of these chords, or a chord of zeros where there is none
abbrev pub last_chord : List Chord → Chord
last_chord [] = record { a = 0; b = 0; c = 0; beta = 0; gamma = 0; k = pos 0 }
last_chord (k ∷ []) = k
last_chord (k ∷ l ∷ chords) = last_chord (l ∷ chords)

-- ---- kinds

-- the centre and the supports
abbrev pub circle_body : BallAnswer2 → Body circle_kind.body
circle_body a = ((a.center, tt), (map weighted_values a.supports.items, tt))

-- likewise
abbrev pub sphere_body : BallAnswer3 → Body sphere_kind.body
sphere_body a = ((a.center, tt), (map weighted_values a.supports.items, tt))

-- the direction, the bounds along and across it, the cones and the last direction
abbrev pub rectangle_body : RectAnswer → Body rectangle_kind.body
rectangle_body a = (dir_values a.direction, (span_values a.along, (span_values a.across, (map quarter_cone_values a.fan.cones, (dir_values a.fan.last, tt)))))

-- the normals with their bounds, the cones with their chords, and the last direction with the last chord
abbrev pub parallelogram_body : ParaAnswer → Body parallelogram_kind.body
parallelogram_body a = (
  side_values a.first a.first_span,
  (
    side_values a.second a.second_span,
    (map chorded_values (zip a.fan.cones a.chords), (chorded_end_values a.fan.last (last_chord a.chords), tt)),
  ),
)

-- the lines of the fan of a parallelogram
abbrev pub chorded_bytes : ParaAnswer → List ℕ
chorded_bytes a = part_bytes (fan chorded_fields) [] (map chorded_values (zip a.fan.cones a.chords)) ++ format_line (untitled last_fields) (chorded_end_values a.fan.last (last_chord a.chords))

-- the normal, the bounds, the cones and the last direction
abbrev pub strip_body : StripAnswer → Body strip_kind.body
strip_body a = (dir_values a.direction, (span_values a.bounds, (map half_cone_values a.fan.cones, (dir_values a.fan.last, tt))))

-- the centre, the radii and the pairs
abbrev pub annulus_body : AnnulusAnswer → Body annulus_kind.body
annulus_body a = ((a.center, tt), ((a.inner, tt), ((a.outer, tt), (map pair_values a.pairs.items, tt))))

-- the sides, and what each of them rests on
abbrev pub empty_body : EmptyAnswer → Body empty_kind.body
empty_body a = ((a.l, (a.b, (a.r, (a.t, tt)))), ((blocker_of a.left, tt), ((blocker_of a.bottom, tt), ((blocker_of a.right, tt), ((blocker_of a.top, tt), tt)))))

-- the corners, the chosen positions, the layers and the potentials
abbrev pub polygon_body : KgonAnswer → Body kgon_kind.body
polygon_body a = (map {B = Values (point_number ∷ [])} (λ n. (n, tt)) a.corners, (map {B = Values (bounded 0 127 ∷ [])} (λ n. (n, tt)) a.chosen.items, (a.layers, (map pos a.potentials, tt))))

-- the ends, the direction and the pairs
abbrev pub distance_body : DistanceAnswer → Body distance_kind.body
distance_body a = ((a.from, tt), ((a.to, tt), (space_dir_values a.direction, (map pair_values a.pairs.items, tt))))

-- the squares and the leaves
abbrev pub centres_body : CentresAnswer → Body centres_kind.body
centres_body a = (map {B = Values (plane_ratio ∷ [])} (λ c. (c, tt)) a.squares.items, (map leaf_values a.leaves.items, tt))

-- the corners, each with its furthest one
abbrev pub furthest_body : FurthestAnswer → Body furthest_kind.body
furthest_body a = (map entry_values a.entries, tt)

-- the four squares and the leaves
abbrev pub four_body : FourAnswer → Body four_kind.body
four_body a = (map {B = Values (plane_ratio ∷ [])} (λ c. (c, tt)) a.squares.items, (map leaf_values a.leaves, tt))

-- the centre, the levels and the pairs
abbrev pub shell_body : ShellAnswer → Body shell_kind.body
shell_body a = ((a.center, tt), ((a.low, (a.high, tt)), (map pair_values a.pairs.items, tt)))

-- ---- all kinds

-- an answer as its format says it
pub record Said : Type 0 where
  pub kind : Kind
  pub size : Fraction
  pub body : Body kind.body

-- the answer so
abbrev pub said_of : Answer → Said
said_of (Circle a) = record { kind = circle_kind; size = a.size; body = circle_body a }
said_of (Sphere a) = record { kind = sphere_kind; size = a.size; body = sphere_body a }
said_of (Rectangle a) = record { kind = rectangle_kind; size = a.size; body = rectangle_body a }
said_of (Parallelogram a) = record { kind = parallelogram_kind; size = a.size; body = parallelogram_body a }
said_of (Strip a) = record { kind = strip_kind; size = a.size; body = strip_body a }
said_of (Annulus a) = record { kind = annulus_kind; size = a.size; body = annulus_body a }
said_of (Empty a) = record { kind = empty_kind; size = a.size; body = empty_body a }
said_of (Kgon a) = record { kind = kgon_kind; size = a.size; body = polygon_body a }
said_of (Distance a) = record { kind = distance_kind; size = a.size; body = distance_body a }
said_of (Centres a) = record { kind = centres_kind; size = a.size; body = centres_body a }
said_of (Furthest a) = record { kind = furthest_kind; size = a.size; body = furthest_body a }
said_of (Four a) = record { kind = four_kind; size = a.size; body = four_body a }
said_of (Shell a) = record { kind = shell_kind; size = a.size; body = shell_body a }
