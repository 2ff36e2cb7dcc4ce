-- Objects in whole units and in units of a file, of which so many make a whole one: growing an object turns the first into the second.
use Rattle.std.specs.Prelude.{◌≡◌, ℕ, ◌*◌, ℤ, pos, ◌*ℤ◌, List, [], ◌∷◌, map}
use Rattle.bounds_model.specs.Plane.{PlaneRatio}
use Rattle.bounds_model.specs.Space.{SpaceRatio, SamePlace}
use Rattle.bounds_model.specs.Fractions.{SameValue, multiple}
use Rattle.bounds_model.specs.Ball.{Ball}
use Rattle.bounds_model.specs.Strip.{Span, Strip}
use Rattle.bounds_model.specs.Rectangle.{Rectangle}
use Rattle.bounds_model.specs.Parallelogram.{Parallelogram}
use Rattle.bounds_model.specs.Annulus.{Annulus}
use Rattle.bounds_model.specs.EmptyRectangle.{Box, EmptyRectangle}
use Rattle.bounds_model.specs.Centres.{Cover}
use Rattle.bounds_model.specs.Shell.{Shell}

-- ---- growing: centres, bounds, sides and radii are multiplied, squared radii twice; directions, normals and denominators stay

abbrev pub grown_plane_ratio : ℕ → PlaneRatio → PlaneRatio
grown_plane_ratio scale c = record { x = pos scale *ℤ c.x; y = pos scale *ℤ c.y; w = c.w }

abbrev pub grown_space_ratio : ℕ → SpaceRatio → SpaceRatio
grown_space_ratio scale c = record { x = pos scale *ℤ c.x; y = pos scale *ℤ c.y; z = pos scale *ℤ c.z; w = c.w }

abbrev pub grown_span : ℕ → Span → Span
grown_span scale span = record { low = pos scale *ℤ span.low; high = pos scale *ℤ span.high }

abbrev pub grown_ball : ℕ → Ball → Ball
grown_ball scale ball = record { centre = grown_space_ratio scale ball.centre; squared_radius = multiple (scale * scale) ball.squared_radius }

abbrev pub grown_rectangle : ℕ → Rectangle → Rectangle
grown_rectangle scale r = record { direction = r.direction; along = grown_span scale r.along; across = grown_span scale r.across; w = r.w }

abbrev pub grown_parallelogram : ℕ → Parallelogram → Parallelogram
grown_parallelogram scale p =
    record { first = p.first; first_bounds = grown_span scale p.first_bounds; second = p.second; second_bounds = grown_span scale p.second_bounds; w = p.w }

abbrev pub grown_strip : ℕ → Strip → Strip
grown_strip scale strip = record { normal = strip.normal; bounds = grown_span scale strip.bounds; w = strip.w }

abbrev pub grown_annulus : ℕ → Annulus → Annulus
grown_annulus scale annulus =
    record { centre = grown_plane_ratio scale annulus.centre; inner = multiple (scale * scale) annulus.inner; outer = multiple (scale * scale) annulus.outer }

abbrev pub grown_box : ℕ → Box → Box
grown_box scale box = record { left = pos scale *ℤ box.left; bottom = pos scale *ℤ box.bottom; right = pos scale *ℤ box.right; top = pos scale *ℤ box.top }

abbrev pub grown_empty : ℕ → EmptyRectangle → EmptyRectangle
grown_empty scale rectangle = record { box = grown_box scale rectangle.box; w = rectangle.w }

abbrev pub grown_cover : ℕ → Cover → Cover
grown_cover scale cover = record { centres = map (grown_plane_ratio scale) cover.centres; radius = multiple scale cover.radius }

abbrev pub grown_shell : ℕ → Shell → Shell
grown_shell scale shell =
    record { centre = grown_space_ratio scale shell.centre; inner = multiple (scale * scale) shell.inner; outer = multiple (scale * scale) shell.outer }

-- ---- the same object: numbers over a denominator have one value, and directions are equal

pub record SamePlaneRatio (a b : PlaneRatio) : Type 0 where
  pub in_x : a.x *ℤ b.w ≡ b.x *ℤ a.w
  pub in_y : a.y *ℤ b.w ≡ b.y *ℤ a.w

-- the spans, each over its own denominator
pub record SameSpan (w : ℤ) (a : Span) (v : ℤ) (b : Span) : Type 0 where
  pub low : a.low *ℤ v ≡ b.low *ℤ w
  pub high : a.high *ℤ v ≡ b.high *ℤ w

pub record SameBall (a b : Ball) : Type 0 where
  pub centre : SamePlace a.centre b.centre
  pub squared_radius : SameValue a.squared_radius b.squared_radius

pub record SameRectangle (a b : Rectangle) : Type 0 where
  pub direction : a.direction ≡ b.direction
  pub along : SameSpan a.w a.along b.w b.along
  pub across : SameSpan a.w a.across b.w b.across

pub record SameParallelogram (a b : Parallelogram) : Type 0 where
  pub first : a.first ≡ b.first
  pub first_bounds : SameSpan a.w a.first_bounds b.w b.first_bounds
  pub second : a.second ≡ b.second
  pub second_bounds : SameSpan a.w a.second_bounds b.w b.second_bounds

pub record SameStrip (a b : Strip) : Type 0 where
  pub normal : a.normal ≡ b.normal
  pub bounds : SameSpan a.w a.bounds b.w b.bounds

pub record SameAnnulus (a b : Annulus) : Type 0 where
  pub centre : SamePlaneRatio a.centre b.centre
  pub inner : SameValue a.inner b.inner
  pub outer : SameValue a.outer b.outer

pub record SameEmpty (a b : EmptyRectangle) : Type 0 where
  pub left : a.box.left *ℤ b.w ≡ b.box.left *ℤ a.w
  pub bottom : a.box.bottom *ℤ b.w ≡ b.box.bottom *ℤ a.w
  pub right : a.box.right *ℤ b.w ≡ b.box.right *ℤ a.w
  pub top : a.box.top *ℤ b.w ≡ b.box.top *ℤ a.w

-- the centres in their order
abbrev pub SameCentres : List PlaneRatio → List PlaneRatio → Type 0
SameCentres [] [] = Unit {0}
SameCentres (a ∷ rest) (b ∷ others) = SamePlaneRatio a b × SameCentres rest others
SameCentres centres others = ⊥

pub record SameCover (a b : Cover) : Type 0 where
  pub centres : SameCentres a.centres b.centres
  pub radius : SameValue a.radius b.radius

pub record SameShell (a b : Shell) : Type 0 where
  pub centre : SamePlace a.centre b.centre
  pub inner : SameValue a.inner b.inner
  pub outer : SameValue a.outer b.outer
