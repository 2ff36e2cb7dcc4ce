-- What fits points fits them in another order.
use Rattle.std.proofs.Common.{◌≡◌, ℕ, ◌+◌, ◌*ℤ◌, pos, ◌≤ℤ◌, List, [], ◌∷◌, map}
use Rattle.std.specs.Prelude.{Any, Contains, IsPermutation}
use Rattle.std.proofs.lemmas.List.Sorted.{All-permutation, Contains-permutation, IsPermutation-map}
use Rattle.std.proofs.lemmas.List.Elements.{All-from_get_or, All-get_or}
use Rattle.bounds_model.specs.Plane.{PlanePoint, origin, dot, quarter_turn, times, turn, IsBefore, IsLeastPoint, IsGreatestPoint}
use Rattle.bounds_model.specs.Space.{SpacePoint, flat}
use Rattle.bounds_model.specs.Ball.{Ball, IsInBall, FitsBall, FitsCircle}
use Rattle.bounds_model.specs.Strip.{Strip, IsInSpan, FitsStrip}
use Rattle.bounds_model.specs.Rectangle.{Rectangle, FitsRectangle}
use Rattle.bounds_model.specs.Parallelogram.{Parallelogram, FitsParallelogram}
use Rattle.bounds_model.specs.Annulus.{Annulus, IsInAnnulus, FitsAnnulus}
use Rattle.bounds_model.specs.Shell.{Shell, IsInShell, FitsShell}
use Rattle.bounds_model.specs.EmptyRectangle.{Box, EmptyRectangle, IsStrictlyInside, FitsEmpty}
use Rattle.bounds_model.specs.Centres.{Cover, IsNear, FitsCentres}
use Rattle.bounds_model.specs.Shell.{Shell, IsInShell, FitsShell}
use Rattle.bounds_model.specs.Hull.{around, AreCornerCycle, AreCorners}

-- a ball stays around the points
pub ball_stays : (ps qs : List SpacePoint) → IsPermutation ps qs → (ball : Ball) → FitsBall ps ball → FitsBall qs ball
ball_stays ps qs s ball h = record { denominator = h.denominator; radius = h.radius; inside = All-permutation (IsInBall ball) ps qs s h.inside }

-- a circle stays around the points
pub circle_stays : (ps qs : List PlanePoint) → IsPermutation ps qs → (circle : Ball) → FitsCircle ps circle → FitsCircle qs circle
circle_stays ps qs s circle h = record { in_plane = h.in_plane; ball = ball_stays (map flat ps) (map flat qs) (IsPermutation-map flat ps qs s) circle h.ball }

-- a strip stays around the points
pub strip_stays : (ps qs : List PlanePoint) → IsPermutation ps qs → (strip : Strip) → FitsStrip ps strip → FitsStrip qs strip
strip_stays ps qs s strip h = record {
  normal = h.normal;
  bounds = h.bounds;
  denominator = h.denominator;
  inside = All-permutation (λ p. IsInSpan strip.bounds (strip.w *ℤ dot strip.normal p)) ps qs s h.inside;
}

-- a rectangle stays around the points
pub rectangle_stays : (ps qs : List PlanePoint) → IsPermutation ps qs → (r : Rectangle) → FitsRectangle ps r → FitsRectangle qs r
rectangle_stays ps qs s r h = record {
  direction = h.direction;
  along = h.along;
  across = h.across;
  denominator = h.denominator;
  inside_along = All-permutation (λ p. IsInSpan r.along (r.w *ℤ dot r.direction p)) ps qs s h.inside_along;
  inside_across = All-permutation (λ p. IsInSpan r.across (r.w *ℤ dot (quarter_turn r.direction) p)) ps qs s h.inside_across;
}

-- a parallelogram stays around the points
pub parallelogram_stays : (ps qs : List PlanePoint) → IsPermutation ps qs → (r : Parallelogram) → FitsParallelogram ps r → FitsParallelogram qs r
parallelogram_stays ps qs s r h = record {
  normals = h.normals;
  first_bounds = h.first_bounds;
  second_bounds = h.second_bounds;
  denominator = h.denominator;
  inside_first = All-permutation (λ p. IsInSpan r.first_bounds (r.w *ℤ dot r.first p)) ps qs s h.inside_first;
  inside_second = All-permutation (λ p. IsInSpan r.second_bounds (r.w *ℤ dot r.second p)) ps qs s h.inside_second;
}

-- an annulus stays around the points
pub annulus_stays : (ps qs : List PlanePoint) → IsPermutation ps qs → (annulus : Annulus) → FitsAnnulus ps annulus → FitsAnnulus qs annulus
annulus_stays ps qs s annulus h = record { denominator = h.denominator; inner = h.inner; outer = h.outer; inside = All-permutation (IsInAnnulus annulus) ps qs s h.inside }

-- a shell stays around the points
pub shell_stays : (ps qs : List SpacePoint) → IsPermutation ps qs → (shell : Shell) → FitsShell ps shell → FitsShell qs shell
shell_stays ps qs s shell h = record { denominator = h.denominator; inner = h.inner; outer = h.outer; inside = All-permutation (IsInShell shell) ps qs s h.inside }

-- an empty rectangle stays empty
pub empty_stays : (frame : Box) (ps qs : List PlanePoint) → IsPermutation ps qs → (r : EmptyRectangle) → FitsEmpty frame ps r → FitsEmpty frame qs r
empty_stays frame ps qs s r h = record {
  denominator = h.denominator;
  width = h.width;
  height = h.height;
  left = h.left;
  right = h.right;
  bottom = h.bottom;
  top = h.top;
  empty = All-permutation (λ p. ¬ IsStrictlyInside r.box (times r.w p)) ps qs s h.empty;
}

-- squares stay a cover
pub centres_stay : (count : ℕ) (ps qs : List PlanePoint) → IsPermutation ps qs → (cover : Cover) → FitsCentres count ps cover → FitsCentres count qs cover
centres_stay count ps qs s cover h = record {
  as_many = h.as_many;
  denominators = h.denominators;
  radius = h.radius;
  near = All-permutation (λ p. Any (IsNear cover.radius p) cover.centres) ps qs s h.near;
}

-- ---- corners of the hull

-- the least point stays the least
least_stays : (ps qs : List PlanePoint) → IsPermutation ps qs → (a : PlanePoint) → IsLeastPoint ps a → IsLeastPoint qs a
least_stays ps qs s a h = record { listed = Contains-permutation ps qs a s h.listed; least = All-permutation (IsBefore a) ps qs s h.least }

-- and the greatest the greatest
greatest_stays : (ps qs : List PlanePoint) → IsPermutation ps qs → (a : PlanePoint) → IsGreatestPoint ps a → IsGreatestPoint qs a
greatest_stays ps qs s a h = record { listed = Contains-permutation ps qs a s h.listed; greatest = All-permutation (λ p. IsBefore p a) ps qs s h.greatest }

-- a cycle of corners stays one
cycle_stays : (ps qs xs : List PlanePoint) → IsPermutation ps qs → AreCornerCycle ps xs → AreCornerCycle qs xs
cycle_stays ps qs xs s h = record {
  listed = All-from_get_or (Contains qs) xs origin (λ i l. Contains-permutation ps qs _ s (All-get_or (Contains ps) xs i origin l h.listed));
  from_least = least_stays ps qs s (around xs 0) h.from_least;
  distinct = h.distinct;
  left_turns = h.left_turns;
  inside = λ i l. All-permutation (λ p. pos 0 ≤ℤ turn (around xs i) (around xs (i + 1)) p) ps qs s (h.inside i l);
}

-- the corners stay the corners
pub corners_stay : (ps qs xs : List PlanePoint) → IsPermutation ps qs → AreCorners ps xs → AreCorners qs xs
corners_stay ps qs [] s h = h
corners_stay ps qs (a ∷ []) s h = record { listed = Contains-permutation ps qs a s h.listed; only = All-permutation (λ p. p ≡ a) ps qs s h.only }
corners_stay ps qs (a ∷ b ∷ []) s h = record {
  from_least = least_stays ps qs s a h.from_least;
  to_greatest = greatest_stays ps qs s b h.to_greatest;
  distinct = h.distinct;
  on_line = All-permutation (λ p. turn a b p ≡ pos 0) ps qs s h.on_line;
}
corners_stay ps qs (a ∷ b ∷ c ∷ xs) s h = cycle_stays ps qs (a ∷ b ∷ c ∷ xs) s h
