-- Where what is left over stands in both orders: its bounding box, and how many points a tree reads.
use Rattle.std.proofs.Common.{◌≡◌, ◌≢◌, refl, sym, subst, ap, ℕ, zero, suc, ◌+◌, ◌-◌, ◌*◌, ◌<◌, List, [], ◌∷◌, ◌++◌, length, arith}
use Rattle.bounds_model.specs.Plane.{PlanePoint}
use Rattle.corner_squares.specs.declared.square.Square.{Square}
use Rattle.corner_squares.specs.declared.bounds.Bounds.{Bounds}
use Rattle.corner_squares.specs.Extents.{IsSpan, IsRestBox}
use Rattle.corner_squares.proofs.Placing.{covered_by_more}
use Rattle.four_centres.specs.declared.orders.Orders.{Orders}
use Rattle.four_centres.specs.declared.orders.Key.{Key}
use Rattle.four_centres.specs.declared.ends.Ends.{Ends}
use Rattle.four_centres.specs.declared.tree.Window.{Window}
use Rattle.four_centres.specs.Orders.{AreOrders, point_in}
use Rattle.four_centres.specs.Ends.{AreAround, AreEnds, extent_of}
use Rattle.four_centres.specs.Windows.{IsWindow, IsTight, reads}
use Rattle.four_centres.proofs.Spans.{span_of_ends}

around_more : (points : List PlanePoint) (order : List Key) (squares more : List Square) (ends : Ends) → AreAround points order squares ends → AreAround points order (squares ++ more) ends
around_more points order squares more ends h = record {
  ordered = h.ordered;
  within = h.within;
  before = λ k low high. covered_by_more squares more (point_in points order k) (h.before k low high);
  after = λ k low high. covered_by_more squares more (point_in points order k) (h.after k low high);
}

-- with a square more, all that is left over stands there too
pub window_more : (points : List PlanePoint) (orders : Orders) (squares pushed : List Square) (s : Square) (inner : Window) → IsTight points orders squares inner → pushed ≡ squares ++ s ∷ [] → IsWindow points orders pushed inner
window_more points orders squares pushed s inner h is = subst (λ ss. IsWindow points orders ss inner) (sym is) (record {
  across = around_more points orders.across.items squares (s ∷ []) inner.across h.across.around;
  up = around_more points orders.up.items squares (s ∷ []) inner.up h.up.around;
})

-- the bounding box
pub box_of_window : (points : List PlanePoint) (orders : Orders) (squares : List Square) (inner : Window) (b : Bounds) → AreOrders points orders → IsTight points orders squares inner
    → b.across ≡ extent_of orders.across.items inner.across → b.up ≡ extent_of orders.up.items inner.up → IsRestBox points squares b
box_of_window points orders squares inner b are h across up = record {
  across = subst (IsSpan (λ p. p.x) points squares) (sym across) (span_of_ends (λ p. p.x) points orders.across.items squares inner.across are.across h.across);
  up = subst (IsSpan (λ p. p.y) points squares) (sym up) (span_of_ends (λ p. p.y) points orders.up.items squares inner.up are.up h.up);
}

-- the ends are places of the order
pub ends_within : {points : List PlanePoint} {order : List Key} {squares : List Square} {ends : Ends} → AreEnds points order squares ends → (ends.low < length order) × (ends.high < length order)
ends_within h = let o = h.around.ordered in let w = h.around.within in (omega (arith, o, w), w)

-- a node reads all points twice, and what the four nodes below it read
pub reads_at : (count depth : ℕ) → depth ≢ 0 → reads count depth ≡ 2 * count + 4 * reads count (depth - 1)
reads_at count zero some = absurd (some refl)
reads_at count (suc depth) some = ap (λ d. 2 * count + 4 * reads count d) one_less
  where
    one_less : depth ≡ suc depth - 1
    one_less = omega arith
