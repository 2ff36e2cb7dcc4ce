-- Whole answers and their texts, one of each kind but the sphere.
use Rattle.std.specs.Prelude.{ℕ, ℤ, pos, negsuc, List, [], ◌∷◌, codes}
use Rattle.bounds_model.specs.Fractions.{Fraction}
use Rattle.bounds_model.specs.Plane.{PlanePoint, PlaneRatio}
use Rattle.bounds_model.specs.Space.{SpaceRatio}
use Rattle.bounds_model.specs.Strip.{Span}
use Rattle.bounds_model.specs.Fans.{HalfCone, QuarterCone}
use Rattle.bounds_model.specs.BallAnswer.{Weighted}
use Rattle.bounds_model.specs.ParallelogramAnswer.{Chord}
use Rattle.bounds_model.specs.AnnulusAnswer.{WeightedPair}
use Rattle.bounds_model.specs.EmptyAnswer.{side, point}
use Rattle.bounds_model.specs.CentresAnswer.{Leaf}
use Rattle.bounds_model.specs.Answers.{Answer, circle, rectangle, parallelogram, strip, annulus, empty, kgon, distance, centres}

-- ---- short forms for literals

-- n over d
abbrev over : ℕ → ℕ → Fraction
over n d = record { n = pos n; d = pos d }

-- a vector
abbrev vector : ℤ → ℤ → PlanePoint
vector x y = record { x = x; y = y }

-- two bounds
abbrev span : ℤ → ℤ → Span
span low high = record { low = low; high = high }

-- x and y over w
abbrev ratio : ℕ → ℕ → ℕ → PlaneRatio
ratio x y w = record { x = pos x; y = pos y; w = pos w }

-- a point of space with whole coordinates
abbrev whole : ℕ → ℕ → ℕ → SpaceRatio
whole x y z = record { x = pos x; y = pos y; z = pos z; w = pos 1 }

-- a point with its weight
abbrev support : ℕ → ℕ → Weighted
support number weight = record { point = number; weight = pos weight }

-- two points with their weight
abbrev pair : ℕ → ℕ → ℕ → WeightedPair
pair first second weight = record { first = first; second = second; weight = pos weight }

-- a cone over half a turn
abbrev half : ℕ → ℕ → ℕ → ℕ → HalfCone
half x y high low = record { direction = vector (pos x) (pos y); high = high; low = low }

-- a cone over a quarter turn
abbrev quarter : ℕ → ℕ → ℕ → ℕ → ℕ → ℕ → QuarterCone
quarter x y high low over under = record { direction = vector (pos x) (pos y); high = high; low = low; over = over; under = under }

-- a chord
abbrev chord : ℕ → ℕ → ℕ → ℕ → ℕ → ℤ → Chord
chord a b c beta gamma k = record { a = a; b = b; c = c; beta = pos beta; gamma = pos gamma; k = k }

-- two points that are far apart
abbrev leaf : ℕ → ℕ → Leaf
leaf first second = record { first = first; second = second }

-- ---- the answers

-- the circle around a right triangle with the sides 3, 4 and 5
abbrev pub the_circle : Answer
the_circle = circle (record {
  size = over 25 4;
  centre = ratio 4 3 2;
  supports = support 1 1 ∷ support 2 1 ∷ [];
})

-- its text
abbrev pub circle_text : List ℕ
circle_text = codes "answer 1 circle\nsize 25/4\ncenter 4 3 2\nsupports 2\n1 1\n2 1\nend\n"

-- the tilted square around four points
abbrev pub the_rectangle : Answer
the_rectangle = rectangle (record {
  size = over 2 1;
  direction = vector (pos 1) (pos 1);
  along = span (pos 1) (pos 3);
  across = span (negsuc 0) (pos 1);
  fan = record { cones = quarter 1 0 2 0 3 1 ∷ quarter 1 1 3 1 0 2 ∷ []; last = vector (pos 0) (pos 1) };
})

-- its text
abbrev pub rectangle_text : List ℕ
rectangle_text = codes "answer 1 rectangle\nsize 2/1\ndirection 1 1\nalong 1 3\nacross -1 1\nfan 3\n1 0 2 0 3 1\n1 1 3 1 0 2\n0 1\nend\n"

-- the strip along the longest side of the same triangle
abbrev pub the_strip : Answer
the_strip = strip (record {
  size = over 144 25;
  direction = vector (pos 3) (pos 4);
  bounds = span (pos 0) (pos 12);
  fan = record { cones = half 1 0 1 0 ∷ half 3 4 2 0 ∷ half 0 1 2 1 ∷ []; last = vector (negsuc 0) (pos 0) };
})

-- its text
abbrev pub strip_text : List ℕ
strip_text = codes "answer 1 strip\nsize 144/25\ndirection 3 4\nbounds 0 12\nfan 4\n1 0 1 0\n3 4 2 0\n0 1 2 1\n-1 0\nend\n"

-- a parallelogram around the same triangle
abbrev pub the_parallelogram : Answer
the_parallelogram = parallelogram (record {
  size = over 12 1;
  first = vector (pos 1) (pos 0);
  first_bounds = span (pos 0) (pos 4);
  second = vector (pos 0) (pos 1);
  second_bounds = span (pos 0) (pos 3);
  fan = record { cones = half 1 0 1 0 ∷ half 3 4 2 0 ∷ half 0 1 2 1 ∷ []; last = vector (negsuc 0) (pos 0) };
  chords = chord 0 2 2 1 0 (pos 3) ∷ chord 1 2 2 1 0 (pos 1) ∷ chord 0 1 1 1 0 (negsuc 3) ∷ chord 0 2 2 1 0 (negsuc 2) ∷ [];
})

-- its text
abbrev pub parallelogram_text : List ℕ
parallelogram_text = codes "answer 1 parallelogram\nsize 12/1\nfirst 1 0 0 4\nsecond 0 1 0 3\nfan 4\n1 0 1 0 0 2 2 1 0 3\n3 4 2 0 1 2 2 1 0 1\n0 1 2 1 0 1 1 1 0 -4\n-1 0 0 2 2 1 0 -3\nend\n"

-- an annulus through four points
abbrev pub the_annulus : Answer
the_annulus = annulus (record {
  size = over 6 5;
  centre = ratio 13 13 10;
  inner = over 109 50;
  outer = over 169 50;
  pairs = pair 0 2 3 ∷ pair 3 1 2 ∷ [];
})

-- its text
abbrev pub annulus_text : List ℕ
annulus_text = codes "answer 1 annulus\nsize 6/5\ncenter 13 13 10\ninner 109/50\nouter 169/50\npairs 2\n0 2 3\n3 1 2\nend\n"

-- the widest empty rectangle beside one point
abbrev pub the_empty : Answer
the_empty = empty (record {
  size = over 12 1;
  box = record { left = pos 1; bottom = pos 0; right = pos 4; top = pos 4 };
  left = point 0;
  bottom = side;
  right = side;
  top = side;
})

-- its text
abbrev pub empty_text : List ℕ
empty_text = codes "answer 1 empty\nsize 12/1\nrectangle 1 0 4 4\nleft 0\nbottom box\nright box\ntop box\nend\n"

-- a triangle on the corners of a square
abbrev pub the_kgon : Answer
the_kgon = kgon (record {
  size = over 2 1;
  corners = 0 ∷ 1 ∷ 2 ∷ 3 ∷ [];
  chosen = 0 ∷ 1 ∷ 2 ∷ [];
  layers = 1;
  potentials = pos 0 ∷ pos 4 ∷ pos 4 ∷ pos 0 ∷ pos 4 ∷ pos 0 ∷ [];
})

-- its text
abbrev pub kgon_text : List ℕ
kgon_text = codes "answer 1 kgon\nsize 2/1\ncorners 4\n0\n1\n2\n3\nchosen 3\n0\n1\n2\nlayers 1\n0 4 4\n0 4\n0\nend\n"

-- the way from the origin to a triangle in space
abbrev pub the_distance : Answer
the_distance = distance (record {
  size = over 3 1;
  from = whole 0 0 0;
  to = whole 1 1 1;
  direction = record { x = negsuc 0; y = negsuc 0; z = negsuc 0 };
  pairs = pair 0 0 1 ∷ pair 0 1 1 ∷ pair 0 2 1 ∷ [];
})

-- its text
abbrev pub distance_text : List ℕ
distance_text = codes "answer 1 distance\nsize 3/1\nfrom 0 0 0 1\nto 1 1 1 1\ndirection -1 -1 -1\npairs 3\n0 0 1\n0 1 1\n0 2 1\nend\n"

-- two squares over four points
abbrev pub the_centres : Answer
the_centres = centres (record {
  size = over 1 1;
  squares = ratio 1 1 1 ∷ ratio 11 11 1 ∷ [];
  leaves = leaf 2 3 ∷ leaf 0 3 ∷ leaf 0 3 ∷ leaf 0 2 ∷ [];
})

-- its text
abbrev pub centres_text : List ℕ
centres_text = codes "answer 1 centres\nsize 1/1\nsquares 2\n1 1 1\n11 11 1\nleaves 4\n2 3\n0 3\n0 3\n0 2\nend\n"
