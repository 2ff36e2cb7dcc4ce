-- What answering a question takes.
use Rattle.std.specs.Prelude.{◌≡◌, ◌⊎◌, ⊤, ℕ, ◌+◌, ◌*◌, ◌<◌, length}
use Rattle.bounded_coords.specs.declared.ask.Ask.{Ask}
use Rattle.bounded_coords.specs.declared.ask.Ask.TheVariants.{Rectangle, Parallelogram, Strip, Empty, Kgon, Furthest, Four}
use Rattle.bounds_model.specs.Asks as model
use Rattle.bounds_model.specs.Asks.{Sets, plane, space, two, bare, ask_kgon, ask_four}
use Rattle.bounded_coords.specs.Asked.{asked}
use Rattle.extremal_kgon.specs.Faults.{HasTooMany}
use Rattle.solving.specs.declared.fault.SolveFault.{SolveFault}
use Rattle.solving.specs.declared.fault.SolveFault.TheVariants.{TooManyCorners, TooManyPoints, OutOfMemory}

-- how many points there are
abbrev pub point_count : Sets → ℕ
point_count (plane points) = length points
point_count (space points) = length points
point_count (two ps qs) = length ps + length qs
point_count bare = 0

-- how many points are read at most for four centres
abbrev pub steps_of_four : ℕ → ℕ
steps_of_four n = 600 * (n * n) + 1000 * n

-- the kinds whose answers take memory
abbrev pub WantsMemory : Ask → Type 0
WantsMemory Rectangle = ⊤
WantsMemory Parallelogram = ⊤
WantsMemory Strip = ⊤
WantsMemory (Empty frame) = ⊤
WantsMemory (Kgon k) = ⊤
WantsMemory Furthest = ⊤
WantsMemory Four = ⊤
WantsMemory ask = ⊥

-- a polygon is asked of points whose hull has so many corners, more than 128
abbrev pub HasTooManyCorners : model.Ask → Sets → ℕ → Type 0
HasTooManyCorners (ask_kgon k) (plane points) count = HasTooMany points count
HasTooManyCorners ask sets count = ⊥

-- four centres are asked of so many points, more than 1000
abbrev pub HasTooManyPoints : model.Ask → Sets → ℕ → Type 0
HasTooManyPoints ask_four (plane points) count = (count ≡ length points) × (1000 < length points)
HasTooManyPoints ask sets count = ⊥

-- a polygon is asked of points whose hull has more than 128 corners, or four centres are asked of more than 1000 points
abbrev pub AreTooMany : model.Ask → Sets → Type 0
AreTooMany ask sets = ((count : ℕ) × HasTooManyCorners ask sets count) ⊎ ((count : ℕ) × HasTooManyPoints ask sets count)

-- why there is no answer to what is asked of these points: too many corners or points, with their number, or want of memory, where the kind wants any
abbrev pub IsUnsolved : Ask → Sets → SolveFault → Type 0
IsUnsolved ask sets (TooManyCorners count) = HasTooManyCorners (asked ask) sets count
IsUnsolved ask sets (TooManyPoints count) = HasTooManyPoints (asked ask) sets count
IsUnsolved ask sets OutOfMemory = WantsMemory ask
