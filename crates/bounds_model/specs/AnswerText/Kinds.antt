-- The kinds of answers as formats: what stands between the line of the size and the last line.
use Rattle.std.specs.Prelude.{ℕ, zero, suc, ◌-◌, List, [], ◌∷◌, ◌++◌, map, codes, replicate}
use Rattle.bounds_model.specs.Fractions.{Fraction}
use Rattle.bounds_model.specs.Plane.{PlanePoint}
use Rattle.bounds_model.specs.Strip.{Span}
use Rattle.bounds_model.specs.Ranges.{fan_limit, point_limit}
use Rattle.bounds_model.specs.Fans.{HalfCone, QuarterCone}
use Rattle.bounds_model.specs.BallAnswer.{Weighted}
use Rattle.bounds_model.specs.ParallelogramAnswer.{Chord}
use Rattle.bounds_model.specs.AnnulusAnswer.{WeightedPair}
use Rattle.bounds_model.specs.CentresAnswer.{Leaf}
use Rattle.bounds_model.specs.FurthestAnswer.{Entry}
use Rattle.bounds_model.specs.Answers.{Answer, circle, sphere, rectangle, parallelogram, strip, annulus, empty, kgon, distance, centres, furthest, four, shell}
use Rattle.bounds_model.specs.AnswerText.Fields.{Field, number, natural, bounded, fraction, plane_ratio, space_ratio, blocker, point_number}
use Rattle.bounds_model.specs.AnswerText.LineFormats.{titled, untitled, Values}
use Rattle.bounds_model.specs.AnswerText.Formats.{Part, line, counted, count, rows, Body}

-- a kind of answers: its name, of which power of a length its size is, its format, and the answer of a size and what the format reads
pub record Kind : Type 0 where
  pub name : List ℕ
  pub power : ℕ
  pub body : List Part
  pub answer : Fraction → Body body → Answer

-- ---- lists that several kinds have

-- points with weights, at most so many
abbrev pub supports : ℕ → Part
supports most = counted (record { word = codes "supports"; low = 1; high = most }) 0 (point_number ∷ natural ∷ [])

-- pairs of points with weights, at most so many
abbrev pub pairs : ℕ → Part
pairs most = counted (record { word = codes "pairs"; low = 1; high = most }) 0 (point_number ∷ point_number ∷ natural ∷ [])

-- the cones of a fan: a line for each direction but the last
abbrev pub fan : List Field → Part
fan fields = counted (record { word = codes "fan"; low = 2; high = fan_limit }) 1 fields

-- a point with its weight
abbrev pub weighted : Values (point_number ∷ natural ∷ []) → Weighted
weighted v = record { point = v.0; weight = v.1.0 }

-- two points with their weight
abbrev pub weighted_pair : Values (point_number ∷ point_number ∷ natural ∷ []) → WeightedPair
weighted_pair v = record { first = v.0; second = v.1.0; weight = v.1.1.0 }

-- a vector
abbrev pub vector : Values (number ∷ number ∷ []) → PlanePoint
vector v = record { x = v.0; y = v.1.0 }

-- two bounds
abbrev pub span : Values (number ∷ number ∷ []) → Span
span v = record { low = v.0; high = v.1.0 }

-- ---- circle and sphere

-- a circle: its centre and its supports
abbrev pub circle_kind : Kind
circle_kind = record {
  name = codes "circle";
  power = 2;
  body = line (titled (codes "center") (plane_ratio ∷ [])) ∷ supports 3 ∷ [];
  answer = λ size b. circle (record { size = size; centre = b.0.0; supports = map weighted b.1.0 });
}

-- a sphere, likewise
abbrev pub sphere_kind : Kind
sphere_kind = record {
  name = codes "sphere";
  power = 2;
  body = line (titled (codes "center") (space_ratio ∷ [])) ∷ supports 4 ∷ [];
  answer = λ size b. sphere (record { size = size; centre = b.0.0; supports = map weighted b.1.0 });
}

-- ---- rectangle, strip and parallelogram

-- a direction, and the highest and the lowest point for it and for it turned
abbrev pub quarter_fields : List Field
quarter_fields = number ∷ number ∷ point_number ∷ point_number ∷ point_number ∷ point_number ∷ []

-- the cone of such a line
abbrev pub quarter_cone : Values quarter_fields → QuarterCone
quarter_cone v = record {
  direction = record { x = v.0; y = v.1.0 };
  high = v.1.1.0;
  low = v.1.1.1.0;
  over = v.1.1.1.1.0;
  under = v.1.1.1.1.1.0;
}

-- a rectangle: its direction, its bounds, and a fan over a quarter turn
abbrev pub rectangle_kind : Kind
rectangle_kind = record {
  name = codes "rectangle";
  power = 2;
  body = line (titled (codes "direction") (number ∷ number ∷ [])) ∷ line (titled (codes "along") (number ∷ number ∷ []))
      ∷ line (titled (codes "across") (number ∷ number ∷ [])) ∷ fan quarter_fields ∷ line (untitled (number ∷ number ∷ [])) ∷ [];
  answer = λ size b. rectangle (record {
    size = size;
    direction = vector b.0;
    along = span b.1.0;
    across = span b.1.1.0;
    fan = record { cones = map quarter_cone b.1.1.1.0; last = vector b.1.1.1.1.0 };
  });
}

-- a direction, and the highest and the lowest point for it
abbrev pub half_fields : List Field
half_fields = number ∷ number ∷ point_number ∷ point_number ∷ []

-- the cone of such a line
abbrev pub half_cone : Values half_fields → HalfCone
half_cone v = record { direction = record { x = v.0; y = v.1.0 }; high = v.1.1.0; low = v.1.1.1.0 }

-- a strip: its normal, its bounds, and a fan over half a turn
abbrev pub strip_kind : Kind
strip_kind = record {
  name = codes "strip";
  power = 2;
  body = line (titled (codes "direction") (number ∷ number ∷ [])) ∷ line (titled (codes "bounds") (number ∷ number ∷ []))
      ∷ fan half_fields ∷ line (untitled (number ∷ number ∷ [])) ∷ [];
  answer = λ size b. strip (record {
    size = size;
    direction = vector b.0;
    bounds = span b.1.0;
    fan = record { cones = map half_cone b.1.1.0; last = vector b.1.1.1.0 };
  });
}

-- four numbers: a normal with two bounds, or a box
abbrev pub side_fields : List Field
side_fields = number ∷ number ∷ number ∷ number ∷ []

-- the normal
abbrev pub side_vector : Values side_fields → PlanePoint
side_vector v = record { x = v.0; y = v.1.0 }

-- the bounds
abbrev pub side_span : Values side_fields → Span
side_span v = record { low = v.1.1.0; high = v.1.1.1.0 }

-- three points, two weights and a factor
abbrev pub chord_fields : List Field
chord_fields = point_number ∷ point_number ∷ point_number ∷ natural ∷ natural ∷ number ∷ []

-- the chord of these fields
abbrev pub chord : Values chord_fields → Chord
chord v = record { a = v.0; b = v.1.0; c = v.1.1.0; beta = v.1.1.1.0; gamma = v.1.1.1.1.0; k = v.1.1.1.1.1.0 }

-- a cone and the chord at its first direction
abbrev pub chorded_fields : List Field
chorded_fields = number ∷ number ∷ point_number ∷ point_number ∷ chord_fields

-- the cone of such a line
abbrev pub chorded_cone : Values chorded_fields → HalfCone
chorded_cone v = record { direction = record { x = v.0; y = v.1.0 }; high = v.1.1.0; low = v.1.1.1.0 }

-- the chord of such a line
abbrev pub cone_chord : Values chorded_fields → Chord
cone_chord v = chord v.1.1.1.1

-- the last direction and its chord
abbrev pub last_fields : List Field
last_fields = number ∷ number ∷ chord_fields

-- the direction of that line
abbrev pub last_vector : Values last_fields → PlanePoint
last_vector v = record { x = v.0; y = v.1.0 }

-- the chord of that line
abbrev pub last_chord : Values last_fields → Chord
last_chord v = chord v.1.1

-- a parallelogram: two normals with their bounds, and a fan with a chord for each direction
abbrev pub parallelogram_kind : Kind
parallelogram_kind = record {
  name = codes "parallelogram";
  power = 2;
  body = line (titled (codes "first") side_fields) ∷ line (titled (codes "second") side_fields)
      ∷ fan chorded_fields ∷ line (untitled last_fields) ∷ [];
  answer = λ size b. parallelogram (record {
    size = size;
    first = side_vector b.0;
    first_bounds = side_span b.0;
    second = side_vector b.1.0;
    second_bounds = side_span b.1.0;
    fan = record { cones = map chorded_cone b.1.1.0; last = last_vector b.1.1.1.0 };
    chords = map cone_chord b.1.1.0 ++ last_chord b.1.1.1.0 ∷ [];
  });
}

-- ---- annulus

-- an annulus: its centre, its radii and its pairs
abbrev pub annulus_kind : Kind
annulus_kind = record {
  name = codes "annulus";
  power = 2;
  body = line (titled (codes "center") (plane_ratio ∷ [])) ∷ line (titled (codes "inner") (fraction ∷ []))
      ∷ line (titled (codes "outer") (fraction ∷ [])) ∷ pairs 3 ∷ [];
  answer = λ size b. annulus (record {
    size = size;
    centre = b.0.0;
    inner = b.1.0.0;
    outer = b.1.1.0.0;
    pairs = map weighted_pair b.1.1.1.0;
  });
}

-- ---- empty rectangle

-- an empty rectangle: its box, and what each side rests on
abbrev pub empty_kind : Kind
empty_kind = record {
  name = codes "empty";
  power = 2;
  body = line (titled (codes "rectangle") side_fields) ∷ line (titled (codes "left") (blocker ∷ [])) ∷ line (titled (codes "bottom") (blocker ∷ []))
      ∷ line (titled (codes "right") (blocker ∷ [])) ∷ line (titled (codes "top") (blocker ∷ [])) ∷ [];
  answer = λ size b. empty (record {
    size = size;
    box = record { left = b.0.0; bottom = b.0.1.0; right = b.0.1.1.0; top = b.0.1.1.1.0 };
    left = b.1.0.0;
    bottom = b.1.1.0.0;
    right = b.1.1.1.0.0;
    top = b.1.1.1.1.0.0;
  });
}

-- ---- polygon

-- lines of potentials: so many of each width, from the longest down to 1
abbrev pub triangle : ℕ → ℕ → List ℕ
triangle zero layers = []
triangle (suc longest) layers = replicate layers (suc longest) ++ triangle longest layers

-- the counts are those of the layers, of the chosen corners and of all corners
abbrev pub potential_widths : List ℕ → List ℕ
potential_widths (layers ∷ chosen ∷ corners ∷ []) = triangle (corners - 1) layers
potential_widths counts = []

-- a polygon: all corners, the chosen ones, and the potentials in layers
abbrev pub kgon_kind : Kind
kgon_kind = record {
  name = codes "kgon";
  power = 2;
  body = counted (record { word = codes "corners"; low = 1; high = 128 }) 0 (point_number ∷ [])
      ∷ counted (record { word = codes "chosen"; low = 1; high = 12 }) 0 (bounded 0 127 ∷ [])
      ∷ count (record { word = codes "layers"; low = 0; high = 10 }) ∷ rows potential_widths ∷ [];
  answer = λ size b. kgon (record {
    size = size;
    corners = map (λ v. v.0) b.0;
    chosen = map (λ v. v.0) b.1.0;
    layers = b.1.1.0;
    potentials = b.1.1.1.0;
  });
}

-- ---- distance

-- a distance: its two ends, its direction and its pairs
abbrev pub distance_kind : Kind
distance_kind = record {
  name = codes "distance";
  power = 2;
  body = line (titled (codes "from") (space_ratio ∷ [])) ∷ line (titled (codes "to") (space_ratio ∷ []))
      ∷ line (titled (codes "direction") (number ∷ number ∷ number ∷ [])) ∷ pairs 4 ∷ [];
  answer = λ size b. distance (record {
    size = size;
    from = b.0.0;
    to = b.1.0.0;
    direction = record { x = b.1.1.0.0; y = b.1.1.0.1.0; z = b.1.1.0.1.1.0 };
    pairs = map weighted_pair b.1.1.1.0;
  });
}

-- ---- centres

-- two points that are far apart
abbrev pub leaf : Values (point_number ∷ point_number ∷ []) → Leaf
leaf v = record { first = v.0; second = v.1.0 }

-- centres: the squares and the leaves
abbrev pub centres_kind : Kind
centres_kind = record {
  name = codes "centres";
  power = 1;
  body = counted (record { word = codes "squares"; low = 1; high = 3 }) 0 (plane_ratio ∷ [])
      ∷ counted (record { word = codes "leaves"; low = 0; high = 16 }) 0 (point_number ∷ point_number ∷ []) ∷ [];
  answer = λ size b. centres (record { size = size; squares = map (λ v. v.0) b.0; leaves = map leaf b.1.0 });
}

-- ---- furthest corners

-- a corner with its furthest one
abbrev pub entry : Values (point_number ∷ bounded 0 point_limit ∷ []) → Entry
entry v = record { corner = v.0; far = v.1.0 }

-- furthest corners: all corners, each with its furthest one
abbrev pub furthest_kind : Kind
furthest_kind = record {
  name = codes "furthest";
  power = 2;
  body = counted (record { word = codes "corners"; low = 1; high = 10000 }) 0 (point_number ∷ bounded 0 point_limit ∷ []) ∷ [];
  answer = λ size b. furthest (record { size = size; entries = map entry b.0 });
}

-- ---- four centres

-- four centres: the squares, and sixteen leaves for each height
abbrev pub four_kind : Kind
four_kind = record {
  name = codes "centres4";
  power = 1;
  body = counted (record { word = codes "squares"; low = 4; high = 4 }) 0 (plane_ratio ∷ [])
      ∷ counted (record { word = codes "leaves"; low = 0; high = 16000 }) 0 (point_number ∷ point_number ∷ []) ∷ [];
  answer = λ size b. four (record { size = size; squares = map (λ v. v.0) b.0; leaves = map leaf b.1.0 });
}

-- ---- shell

-- a shell: its centre, its levels and its pairs
abbrev pub shell_kind : Kind
shell_kind = record {
  name = codes "shell";
  power = 2;
  body = line (titled (codes "center") (space_ratio ∷ [])) ∷ line (titled (codes "levels") (number ∷ number ∷ [])) ∷ pairs 4 ∷ [];
  answer = λ size b. shell (record { size = size; centre = b.0.0; low = b.1.0.0; high = b.1.0.1.0; pairs = map weighted_pair b.1.1.0 });
}

-- the kinds that are read
abbrev pub kinds : List Kind
kinds = circle_kind ∷ sphere_kind ∷ rectangle_kind ∷ strip_kind ∷ parallelogram_kind ∷ annulus_kind ∷ empty_kind ∷ kgon_kind ∷ distance_kind ∷ centres_kind ∷ furthest_kind ∷ four_kind ∷ shell_kind ∷ []
