-- The search starts with one square as wide as the bounding box, and its reads are few.
use Rattle.std.proofs.Common.{◌≡◌, refl, sym, subst, ap, ◌∙◌, ℕ, ◌+◌, ◌-◌, ◌*◌, ◌/◌, ◌≤◌, pos, ◌+ℤ◌, ◌≤ℤ◌, List, [], ◌∷◌, ◌++◌, length, arith}
use Rattle.std.specs.Prelude.{max}
use Rattle.std.proofs.Math.Nat.{mul-le-mul_right}
use Rattle.std.proofs.lemmas.Int.{ints}
use Rattle.std.proofs.lemmas.List.Elements.{All-nil}
use Rattle.bounds_model.specs.Plane.{PlanePoint}
use Rattle.corner_squares.specs.declared.square.Square.{Square}
use Rattle.corner_squares.specs.declared.extent.Extent.{Extent}
use Rattle.corner_squares.proofs.LeftOver.{none_covered}
use Rattle.four_centres.specs.declared.orders.Key.{Key}
use Rattle.four_centres.specs.declared.orders.Orders.{Orders}
use Rattle.four_centres.specs.declared.search.Best.{Best}
use Rattle.four_centres.specs.Orders.{NamesAll, AreOrders, point_in}
use Rattle.four_centres.specs.Ends.{AreEnds, extent_of}
use Rattle.four_centres.specs.Windows.{reads}
use Rattle.four_centres.specs.Search.{IsBestSoFar}
use Rattle.four_centres.proofs.Places.{none_between}
use Rattle.four_centres.proofs.Spans.{span_of_ends}
use Rattle.corner_squares.specs.Extents.{IsSpan}
use Rattle.corner_squares.specs.Covers.{IsPlaced}
use Rattle.corner_squares.proofs.Placing.{IsCorner, cover_by_more, cover_with_one_more}

-- ---- the first square

-- without squares all points are left over
all_ends : (points : List PlanePoint) (order : List Key) (count : ℕ) → NamesAll points order → count ≡ length points → 1 ≤ count → AreEnds points order [] (record { low = 0; high = count - 1 })
all_ends points order count names is some = record {
  around = record {
    ordered = omega arith;
    within = (let e = names.as_many in omega (arith, e, is, some));
    before = none_between points order [] 0 0 (omega arith);
    after = none_between points order [] (count - 1 + 1) (length order) (let e = names.as_many in omega (arith, e, is, some));
  };
  low = none_covered (point_in points order 0);
  high = none_covered (point_in points order (count - 1));
}

pub start_across : (points : List PlanePoint) (orders : Orders) (count : ℕ) (e : Extent) → AreOrders points orders → count ≡ length points → 1 ≤ count → e ≡ extent_of orders.across.items (record { low = 0; high = count - 1 }) → IsSpan (λ p. p.x) points [] e
start_across points orders count e are is some e_is = subst (IsSpan (λ p. p.x) points []) (sym e_is) (span_of_ends (λ p. p.x) points orders.across.items [] (record { low = 0; high = count - 1 }) are.across (all_ends points orders.across.items count are.across.names is some))

pub start_up : (points : List PlanePoint) (orders : Orders) (count : ℕ) (e : Extent) → AreOrders points orders → count ≡ length points → 1 ≤ count → e ≡ extent_of orders.up.items (record { low = 0; high = count - 1 }) → IsSpan (λ p. p.y) points [] e
start_up points orders count e are is some e_is = subst (IsSpan (λ p. p.y) points []) (sym e_is) (span_of_ends (λ p. p.y) points orders.up.items [] (record { low = 0; high = count - 1 }) are.up (all_ends points orders.up.items count are.up.names is some))

-- one square in the corner of the box, which is as wide as the longer side
pub start_best : (points : List PlanePoint) (across up : Extent) (wide high : ℕ) (s : Square) (best : Best) → IsSpan (λ p. p.x) points [] across → IsSpan (λ p. p.y) points [] up → across.high ≡ (across.low +ℤ pos wide) → up.high ≡ (up.low +ℤ pos high)
    → best.side ≡ max wide high → IsCorner best.side 0 (record { across = across; up = up }) s → best.squares.items ≡ [] ++ s ∷ [] → IsBestSoFar points best
start_best points across up wide high s best in_x in_y wide_is high_is side_is corner is = record {
  limit = limit best.side side_is;
  cover = cover_by_more points best.side 1 4 best.squares.items (omega arith)
      (cover_with_one_more points best.side [] best.squares.items (record { across = across; up = up }) s (All-nil (IsPlaced best.side)) (record { across = in_x; up = in_y }, record { in_x = short_x best.side side_is; in_y = short_y best.side side_is }) corner is);
}
  where
    limit : (side : ℕ) → side ≡ max wide high → side ≤ 400000
    limit side e = let a = in_x.plane.low.low in let b = in_x.plane.high.high in let c = in_y.plane.low.low in let d = in_y.plane.high.high in omega (arith, ints, e, wide_is, high_is, a, b, c, d)

    short_x : (side : ℕ) → side ≡ max wide high → across.high ≤ℤ (across.low +ℤ pos side)
    short_x side e = omega (arith, ints, e, wide_is)

    short_y : (side : ℕ) → side ≡ max wide high → up.high ≤ℤ (up.low +ℤ pos side)
    short_y side e = omega (arith, ints, e, high_is)

-- ---- reads

-- a trial reads each point 26 times at most, and a few twice
pub reads_are : (n : ℕ) → reads n 2 ≡ 26 * n + 32
reads_are n = omega arith

-- twenty trials at each height and at each sixteenth once more, and one at each for its leaves
pub reads_in_all : (n h s0 s1 s2 s3 s4 : ℕ) → 1 ≤ n → h ≤ n → s1 ≤ s0 + n → s2 ≤ s1 + n → s3 ≤ s2 + (h / 16 + h) * (20 * reads n 2) → s4 ≤ s3 + h * reads n 2 → s4 ≤ s0 + 600 * (n * n) + 1000 * n
reads_in_all n h s0 s1 s2 s3 s4 some few a b c d = total (h / 16) (26 * n + 32) refl (subst (λ m. s3 ≤ s2 + (h / 16 + h) * (20 * m)) (reads_are n) c) (subst (λ m. s4 ≤ s3 + h * m) (reads_are n) d) (sixteenth few)
  where
    sixteenth : h ≤ n → 4 * ((h / 16 + h) * 20 + h) ≤ 89 * n
    sixteenth l = omega (arith, l)

    total : (q m : ℕ) → m ≡ 26 * n + 32 → s3 ≤ s2 + (q + h) * (20 * m) → s4 ≤ s3 + h * m → 4 * ((q + h) * 20 + h) ≤ 89 * n → s4 ≤ s0 + 600 * (n * n) + 1000 * n
    total q m is c d few =
        let l = mul-le-mul_right m few in
        let product : 89 * n * m ≡ 2314 * (n * n) + 2848 * n = ap (λ m. 89 * n * m) is ∙ expanded in
        finish (q * m) (h * m) (n * n) (spread c) d (subst (λ k. 80 * (q * m) + 84 * (h * m) ≤ k) product (left l))
      where
        expanded : 89 * n * (26 * n + 32) ≡ 2314 * (n * n) + 2848 * n
        expanded = omega arith

        spread : s3 ≤ s2 + (q + h) * (20 * m) → s3 ≤ s2 + 20 * (q * m) + 20 * (h * m)
        spread l = omega (arith, l)

        left : 4 * ((q + h) * 20 + h) * m ≤ 89 * n * m → 80 * (q * m) + 84 * (h * m) ≤ 89 * n * m
        left l = omega (arith, l)

        finish : (u v w : ℕ) → s3 ≤ s2 + 20 * u + 20 * v → s4 ≤ s3 + v → 80 * u + 84 * v ≤ 2314 * w + 2848 * n → s4 ≤ s0 + 600 * w + 1000 * n
        finish u v w c d l = omega (arith, a, b, c, d, l)
