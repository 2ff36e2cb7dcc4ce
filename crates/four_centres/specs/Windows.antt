-- Where what squares leave over stands in both orders, and how many points a tree below it reads.
use Rattle.std.specs.Prelude.{ℕ, zero, suc, ◌+◌, ◌*◌, List}
use Rattle.bounds_model.specs.Plane.{PlanePoint}
use Rattle.corner_squares.specs.declared.square.Square.{Square}
use Rattle.four_centres.specs.declared.orders.Orders.{Orders}
use Rattle.four_centres.specs.declared.tree.Window.{Window}
use Rattle.four_centres.specs.Ends.{AreAround, AreEnds}

-- all points that are left over stand between the ends, in both orders
pub record IsWindow (points : List PlanePoint) (orders : Orders) (squares : List Square) (window : Window) : Type 0 where
  pub across : AreAround points orders.across.items squares window.across
  pub up : AreAround points orders.up.items squares window.up

-- and the points at the ends are left over
pub record IsTight (points : List PlanePoint) (orders : Orders) (squares : List Square) (window : Window) : Type 0 where
  pub across : AreEnds points orders.across.items squares window.across
  pub up : AreEnds points orders.up.items squares window.up

-- how many points are read at most for a tree of this depth: of so many at a leaf, two are read twice, and at a node all are read twice
abbrev pub reads : ℕ → ℕ → ℕ
reads count zero = count + 2
reads count (suc depth) = 2 * count + 4 * reads count depth
