-- An answer that passes has its numbers in their ranges, since each kind's checker asks for them.
use Rattle.bounds_model.specs.Asks.{ask_circle, ask_sphere, ask_rectangle, ask_parallelogram, ask_strip, ask_annulus, ask_empty, ask_kgon, ask_distance, ask_centres, ask_furthest, ask_four, ask_shell, plane, space, two, bare}
use Rattle.bounds_model.specs.Answers.{circle, sphere, rectangle, parallelogram, strip, annulus, empty, kgon, distance, centres, furthest, four, shell}
use Rattle.model_laws.specs.Laws.{PassingAnswersKeepRanges}

pub passing_keeps_ranges : PassingAnswersKeepRanges
passing_keeps_ranges ask_circle (plane points) (circle a) h = h.ranges
passing_keeps_ranges ask_sphere (space points) (sphere a) h = h.ranges
passing_keeps_ranges ask_rectangle (plane points) (rectangle a) h = h.ranges
passing_keeps_ranges ask_parallelogram (plane points) (parallelogram a) h = h.ranges
passing_keeps_ranges ask_strip (plane points) (strip a) h = h.ranges
passing_keeps_ranges ask_annulus (plane points) (annulus a) h = h.ranges
passing_keeps_ranges (ask_empty frame) (plane points) (empty a) h = h.ranges
passing_keeps_ranges (ask_empty frame) bare (empty a) h = h.ranges
passing_keeps_ranges (ask_kgon k) (plane points) (kgon a) h = h.ranges
passing_keeps_ranges ask_distance (two ps qs) (distance a) h = h.ranges
passing_keeps_ranges (ask_centres count) (plane points) (centres a) h = h.ranges
passing_keeps_ranges ask_furthest (plane points) (furthest a) h = h.ranges
passing_keeps_ranges ask_four (plane points) (four a) h = h.ranges
passing_keeps_ranges ask_shell (space points) (shell a) h = h.ranges
passing_keeps_ranges ask sets answer h = absurd h
