-- The whole numbers that a fraction is multiplied with or divided by.
use Rattle.std.specs.Prelude.{ℕ}

-- the greatest of them
abbrev pub factor_limit : ℕ
factor_limit = 1000000
