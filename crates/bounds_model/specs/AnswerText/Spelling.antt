-- The one spelling of an answer, and of a report at a scale: what is written of its kind, its size and its body.
use Rattle.std.specs.Prelude.{◌≡◌, ℕ, ◌==◌, pos, if◌then◌else◌, List, [], ◌∷◌, map, zip}
use Rattle.bounds_model.specs.Fractions.{Fraction}
use Rattle.bounds_model.specs.Plane.{PlanePoint, PlaneRatio}
use Rattle.bounds_model.specs.Space.{SpacePoint}
use Rattle.bounds_model.specs.Strip.{Span}
use Rattle.bounds_model.specs.Fans.{HalfCone, QuarterCone}
use Rattle.bounds_model.specs.BallAnswer.{Weighted}
use Rattle.bounds_model.specs.ParallelogramAnswer.{Chord}
use Rattle.bounds_model.specs.AnnulusAnswer.{WeightedPair}
use Rattle.bounds_model.specs.CentresAnswer.{Leaf}
use Rattle.bounds_model.specs.FurthestAnswer.{Entry}
use Rattle.bounds_model.specs.Ranges.{point_limit}
use Rattle.bounds_model.specs.Answers.{Answer, KeepsRanges, circle, sphere, rectangle, parallelogram, strip, annulus, empty, kgon, distance, centres, furthest, four, shell}
use Rattle.bounds_model.specs.Reports.{Report, ReportRanges}
use Rattle.bounds_model.specs.AnswerText.Fields.{number, natural, bounded, plane_ratio, point_number}
use Rattle.bounds_model.specs.AnswerText.LineFormats.{Values}
use Rattle.bounds_model.specs.AnswerText.Formats.{Body}
use Rattle.bounds_model.specs.AnswerText.Kinds.{Kind, quarter_fields, half_fields, side_fields, chord_fields, chorded_fields, last_fields}
use Rattle.bounds_model.specs.AnswerText.Kinds.{circle_kind, sphere_kind, rectangle_kind, parallelogram_kind, strip_kind, annulus_kind, empty_kind, kgon_kind, distance_kind, centres_kind, furthest_kind, four_kind, shell_kind}
use Rattle.bounds_model.specs.AnswerText.Heads.{Format, plain, scaled, Head}
use Rattle.bounds_model.specs.AnswerText.Written.{text_bytes, kind_bytes}

-- ---- the fields of a line

-- a point with its weight
abbrev pub support_values : Weighted → Values (point_number ∷ natural ∷ [])
support_values s = (s.point, (s.weight, tt))

-- two points with their weight
abbrev pub pair_values : WeightedPair → Values (point_number ∷ point_number ∷ natural ∷ [])
pair_values p = (p.first, (p.second, (p.weight, tt)))

-- two points that are far apart
abbrev pub leaf_values : Leaf → Values (point_number ∷ point_number ∷ [])
leaf_values leaf = (leaf.first, (leaf.second, tt))

-- a corner with its furthest one
abbrev pub entry_values : Entry → Values (point_number ∷ bounded 0 point_limit ∷ [])
entry_values e = (e.corner, (e.far, tt))

-- a vector
abbrev pub vector_values : PlanePoint → Values (number ∷ number ∷ [])
vector_values d = (d.x, (d.y, tt))

-- a vector of space
abbrev pub space_values : SpacePoint → Values (number ∷ number ∷ number ∷ [])
space_values d = (d.x, (d.y, (d.z, tt)))

-- two bounds
abbrev pub span_values : Span → Values (number ∷ number ∷ [])
span_values s = (s.low, (s.high, tt))

-- a normal with its bounds
abbrev pub side_values : PlanePoint → Span → Values side_fields
side_values d s = (d.x, (d.y, (s.low, (s.high, tt))))

-- a direction, and the highest and the lowest point for it
abbrev pub half_values : HalfCone → Values half_fields
half_values c = (c.direction.x, (c.direction.y, (c.high, (c.low, tt))))

-- a direction, and the highest and the lowest point for it and for it turned
abbrev pub quarter_values : QuarterCone → Values quarter_fields
quarter_values c = (c.direction.x, (c.direction.y, (c.high, (c.low, (c.over, (c.under, tt))))))

-- three points, two weights and a factor
abbrev pub chord_values : Chord → Values chord_fields
chord_values k = (k.a, (k.b, (k.c, (k.beta, (k.gamma, (k.k, tt))))))

-- a cone and its chord
abbrev pub chorded_values : HalfCone × Chord → Values chorded_fields
chorded_values x = (x.0.direction.x, (x.0.direction.y, (x.0.high, (x.0.low, chord_values x.1))))

-- the last direction and its chord
abbrev pub end_values : PlanePoint → Chord → Values last_fields
end_values d k = (d.x, (d.y, chord_values k))

-- the last of these chords, or a chord of zeros where there is none
abbrev pub end_chord : List Chord → Chord
end_chord [] = record { a = 0; b = 0; c = 0; beta = pos 0; gamma = pos 0; k = pos 0 }
end_chord (k ∷ []) = k
end_chord (k ∷ l ∷ chords) = end_chord (l ∷ chords)

-- a number alone
abbrev pub position_values : ℕ → ℕ × Unit {0}
position_values n = (n, tt)

-- a point of the plane alone
abbrev pub place_values : PlaneRatio → Values (plane_ratio ∷ [])
place_values c = (c, tt)

-- ---- what an answer says

-- a kind, a size, and the body of the kind
pub record Said : Type 0 where
  pub kind : Kind
  pub size : Fraction
  pub body : Body kind.body

-- what an answer says
abbrev pub said_of : Answer → Said
said_of (circle a) = record { kind = circle_kind; size = a.size; body = ((a.centre, tt), (map support_values a.supports, tt)) }
said_of (sphere a) = record { kind = sphere_kind; size = a.size; body = ((a.centre, tt), (map support_values a.supports, tt)) }
said_of (rectangle a) = record {
  kind = rectangle_kind;
  size = a.size;
  body = (vector_values a.direction, (span_values a.along, (span_values a.across, (map quarter_values a.fan.cones, (vector_values a.fan.last, tt)))));
}
said_of (parallelogram a) = record {
  kind = parallelogram_kind;
  size = a.size;
  body = (
    side_values a.first a.first_bounds,
    (side_values a.second a.second_bounds, (map chorded_values (zip a.fan.cones a.chords), (end_values a.fan.last (end_chord a.chords), tt))),
  );
}
said_of (strip a) = record {
  kind = strip_kind;
  size = a.size;
  body = (vector_values a.direction, (span_values a.bounds, (map half_values a.fan.cones, (vector_values a.fan.last, tt))));
}
said_of (annulus a) = record { kind = annulus_kind; size = a.size; body = ((a.centre, tt), ((a.inner, tt), ((a.outer, tt), (map pair_values a.pairs, tt)))) }
said_of (empty a) = record {
  kind = empty_kind;
  size = a.size;
  body = ((a.box.left, (a.box.bottom, (a.box.right, (a.box.top, tt)))), ((a.left, tt), ((a.bottom, tt), ((a.right, tt), ((a.top, tt), tt)))));
}
said_of (kgon a) = record { kind = kgon_kind; size = a.size; body = (map position_values a.corners, (map position_values a.chosen, (a.layers, (a.potentials, tt)))) }
said_of (distance a) = record { kind = distance_kind; size = a.size; body = ((a.from, tt), ((a.to, tt), (space_values a.direction, (map pair_values a.pairs, tt)))) }
said_of (centres a) = record { kind = centres_kind; size = a.size; body = (map place_values a.squares, (map leaf_values a.leaves, tt)) }
said_of (furthest a) = record { kind = furthest_kind; size = a.size; body = (map entry_values a.entries, tt) }
said_of (four a) = record { kind = four_kind; size = a.size; body = (map place_values a.squares, (map leaf_values a.leaves, tt)) }
said_of (shell a) = record { kind = shell_kind; size = a.size; body = ((a.centre, tt), ((a.low, (a.high, tt)), (map pair_values a.pairs, tt))) }

-- ---- spellings

-- the bytes of an answer
abbrev pub spelling : Answer → List ℕ
spelling answer = kind_bytes (said_of answer).kind (said_of answer).size (said_of answer).body

-- the bytes are the spelling of the answer, which keeps its ranges
pub record Spells (bytes : List ℕ) (answer : Answer) : Type 0 where
  pub ranges : KeepsRanges answer
  pub spelled : bytes ≡ spelling answer

-- a scale of 1 is not written
abbrev pub format_of : ℕ → Format
format_of scale = if scale == 1 then plain else scaled

-- the head of what an answer says, at a scale
abbrev pub head_of : ℕ → Said → Head
head_of scale said = record { kind = said.kind; scale = scale; size = said.size }

-- the bytes of a report
abbrev pub report_bytes : Report → List ℕ
report_bytes r = text_bytes (format_of r.scale) (head_of r.scale (said_of r.answer)) (said_of r.answer).body

-- the bytes are the spelling of the report, which keeps its ranges
pub record SpellsReport (bytes : List ℕ) (r : Report) : Type 0 where
  pub ranges : ReportRanges r
  pub spelled : bytes ≡ report_bytes r
