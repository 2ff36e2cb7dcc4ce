-- The kinds of questions, by the words that name them.
use Rattle.std.specs.Prelude.{ℕ, List, [], ◌∷◌, find, option_map, codes}
use Rattle.std.specs.Str.{bytes_eq}
use Rattle.std.specs.declared.option.Option.{Option}
use Rattle.command_line.specs.declared.kind.Kind.{Kind}
use Rattle.command_line.specs.declared.kind.Kind.TheVariants.{Circle, Sphere, Rectangle, Parallelogram, Strip, Annulus, Empty, Kgon, Distance, Centres, Furthest, Shell}

-- the kinds, each with its word
abbrev pub kinds : List (List ℕ × Kind)
kinds =
    (codes "circle", Circle) ∷ (codes "sphere", Sphere) ∷ (codes "rectangle", Rectangle) ∷ (codes "parallelogram", Parallelogram) ∷ (codes "strip", Strip) ∷ (codes "annulus", Annulus)
    ∷ (codes "empty", Empty) ∷ (codes "kgon", Kgon) ∷ (codes "distance", Distance) ∷ (codes "centres", Centres)
    ∷ (codes "furthest", Furthest) ∷ (codes "shell", Shell) ∷ []

-- the kind that a word names
unfoldable pub kind_named : List ℕ → Option Kind
kind_named word = option_map (λ kind. kind.1) (find (λ kind. bytes_eq kind.0 word) kinds)
