-- The direction that comes next in a turn to the left.
use Rattle.std.specs.Prelude.{◌≡◌, ◌⊎◌, ℕ, ◌*◌, ◌<◌, ◌≤◌}
use Rattle.hull_calipers.specs.declared.directions.Direction.{Direction}

-- the direction n comes before m in a turn to the left from right to up, or is along it
abbrev pub ComesBefore : Direction → Direction → Type 0
ComesBefore n m = n.y * m.x ≤ n.x * m.y

-- m is the one of two directions that comes first
abbrev pub IsFirstOf : Direction → Direction → Direction → Type 0
IsFirstOf a b m = (m ≡ a × ComesBefore a b) ⊎ (m ≡ b × (a.x * b.y < a.y * b.x))

-- m is along n, and as long or longer
abbrev pub IsScaled : Direction → Direction → Type 0
IsScaled m n = (g : ℕ) × (0 < g) × (m.x ≡ g * n.x) × (m.y ≡ g * n.y)
