-- An answer that passes is the first of the best ones: the law of its kind, where an order of objects is stated.
use Rattle.bounds_model.specs.Asks.{ask_circle, ask_sphere, ask_rectangle, ask_parallelogram, ask_strip, ask_annulus, ask_empty, ask_kgon, ask_distance, ask_centres, ask_furthest, ask_four, ask_shell}
use Rattle.bounds_model.specs.Asks.{plane, space, two, bare}
use Rattle.bounds_model.specs.Answers.{circle, sphere, rectangle, parallelogram, strip, annulus, empty, kgon, distance, centres, furthest, four, shell}
use Rattle.optimality.specs.Laws.{AllPassingAnswersAreFirst}
use Rattle.optimality.proofs.FirstStripLaw.{strip_first_law}
use Rattle.optimality.proofs.FirstRectangleLaw.{rectangle_first_law}
use Rattle.optimality.proofs.FirstKgonLaw.{kgon_first_law}

pub answer_first_law : AllPassingAnswersAreFirst
answer_first_law ask_rectangle (plane points) (rectangle a) valid h = rectangle_first_law points a h
answer_first_law ask_strip (plane points) (strip a) valid h = strip_first_law points a h
answer_first_law (ask_kgon k) (plane points) (kgon a) valid h = kgon_first_law k points a valid.0 h
answer_first_law ask_circle (plane points) (circle a) valid h = tt
answer_first_law ask_sphere (space points) (sphere a) valid h = tt
answer_first_law ask_parallelogram (plane points) (parallelogram a) valid h = tt
answer_first_law ask_annulus (plane points) (annulus a) valid h = tt
answer_first_law (ask_empty frame) (plane points) (empty a) valid h = tt
answer_first_law (ask_empty frame) bare (empty a) valid h = tt
answer_first_law ask_distance (two ps qs) (distance a) valid h = tt
answer_first_law (ask_centres count) (plane points) (centres a) valid h = tt
answer_first_law ask_furthest (plane points) (furthest a) valid h = tt
answer_first_law ask_four (plane points) (four a) valid h = tt
answer_first_law ask_shell (space points) (shell a) valid h = tt
answer_first_law ask sets answer valid h = absurd h
