-- Triangles around the target.
use Rattle.std.specs.Prelude.{◌≡◌, ◌⊎◌, ◌++◌, List}
use Rattle.bounds_model.specs.AnnulusAnswer.{WeightedPair}
use Rattle.bounds_model.specs.Plane.{PlanePoint}
use Rattle.min_annulus.specs.declared.pairs.Pair.{Pair}
use Rattle.min_annulus.specs.declared.target_triangle.Triangle.{Triangle}
use Rattle.min_annulus.specs.DifferenceVectors.{IsDifference, IsAround, cross}
use Rattle.min_annulus.specs.Pairs.{IsPair}
use Rattle.min_annulus.specs.Witnesses.{weighted}

-- three differences around the target
pub record IsAroundTarget (t : Triangle) : Type 0 where
  pub a : IsDifference t.a.difference
  pub b : IsDifference t.b.difference
  pub c : IsDifference t.c.difference
  pub around : IsAround t.a.difference t.b.difference t.c.difference

-- three pairs of the points, around the target
pub record IsTriangle (points : List PlanePoint) (t : Triangle) : Type 0 where
  pub a : IsPair points t.a
  pub b : IsPair points t.b
  pub c : IsPair points t.c
  pub around : IsAround t.a.difference t.b.difference t.c.difference

-- a pair has replaced one of the three
abbrev pub IsExchange : Triangle → Pair → Triangle → Type 0
IsExchange t d new =
    (new ≡ record { a = t.a; b = t.b; c = d }) ⊎ ((new ≡ record { a = d; b = t.b; c = t.c }) ⊎ (new ≡ record { a = t.a; b = d; c = t.c }))

-- the pairs with the weights of the origin in the triangle, without those of weight 0
abbrev pub origin_weights : Triangle → List WeightedPair
origin_weights t =
    weighted t.a (cross t.b.difference t.c.difference)
    ++ weighted t.b (cross t.c.difference t.a.difference)
    ++ weighted t.c (cross t.a.difference t.b.difference)
