use Rattle.std.proofs.Common.{rules, refl, sym, subst, ap, ◌≡◌, ◌∙◌, ◌↔◌, ℕ, ◌+◌, ◌*◌, ◌/◌, ◌%◌, ◌<◌, ◌≤◌, ℤ, pos, ◌+ℤ◌, ◌-ℤ◌, ◌≤ℤ◌, List, length, map, Bool, IsTrue, SFits, w32, to_z, of_z, arith}
use Rattle.std.specs.Prelude.{Option, Some, None, IsNone}
use Rattle.std.proofs.lemmas.Int.{to_z-of_z, ints}
use Rattle.std.proofs.lemmas.List.{length-map}
use Rattle.bounds_model.specs.Plane.{PlanePoint, point_at}
use Rattle.bounds_model.specs.CentresAnswer.{Leaf, outside}
use Rattle.corner_squares.specs.Trees.{AreLeavesAt}
use Rattle.bounded_coords.specs.Clouds.{points_of}
use Rattle.answers.specs.Answers.{leaf_of}
use Rattle.bounds_model.specs.FourAnswer.{first_square, AreHeights, AreLeavesByHeight}
use Rattle.corner_squares.specs.LeastPoints.{point_of}
use Rattle.centres_check.specs.Heights.{sixteen_from, IsBetween, IsLowestOf, IsLowestFrom}
use Rattle.centres_check.proofs.Walk.{AreFound, IsAtPlace, none_found, first_place, found_more, place_has, place_more, place_is_last, sixteen_hold, leaves_of_heights, heights_of, each_of, names_points}
use Rattle.centres_check.proofs.four.are_leaves_by_height.Goals as goal

at_start : (a b : ℤ) → a ≡ b → b ≤ℤ a
at_start a b e = omega (arith, ints, e)

pub heights-init : goal.heights-init
heights-init c =
    let points = points_of c.args.cloud in
    let least = point_of c.least_point-least.result in
    let fits : SFits w32 c.reach-from.result = search rules in
    let is = c.reach-from.ensures in
    simp to_z-of_z (record {
      found = none_found c.args.side least points (map leaf_of c.args.leaves.now) c.reach-from.result is;
      places = λ heights h. first_place c.args.side least points c.reach-from.result is heights h;
      start = at_start c.reach-from.result (c.least_point-least.result.y -ℤ pos c.args.side) is;
    })

-- so many leaves as sixteen times their sixteenth part
whole : (n m : ℕ) → m ≡ n → n % 16 ≡ 0 → m ≡ 16 * (n / 16)
whole n m e h = omega (arith, e, h)

more_left : (k n m : ℕ) → k < n / 16 → m ≡ n → m ≡ 16 * k → ⊥
more_left k n m l e f = omega (arith, l, e, f)

room : (k n m : ℕ) → k < n / 16 → m ≡ n → 16 * k + 16 ≤ m
room k n m l e = omega (arith, l, e)

all_done : (k n : ℕ) → k ≤ n / 16 → n / 16 ≤ k → n / 16 ≡ k
all_done k n l m = omega (arith, l, m)

up_to_next : (a b h : ℤ) → a ≤ℤ b → b ≤ℤ h → a ≤ℤ (h +ℤ pos 1)
up_to_next a b h l m = omega (arith, ints, l, m)

pub returns-in_default : goal.returns-in_default
returns-in_default c = (
  λ yes. absurd (cc yes),
  λ l.
      let points = points_of c.args.cloud in
      let least = point_of c.least_point-least.result in
      let leaves = map leaf_of c.args.leaves.now in
      let fits : SFits w32 c.least_point-least.result.y = search rules in
      let none = (simp to_z-of_z at c.in_default.ensures) in
      let are = heights_of c.args.side least points leaves c.least_point-least.ensures.is_least l in
      let last = place_is_last c.args.side least points c.heights.k (to_z w32 c.heights.from-bits) l.heights are (c.heights.invariant.places l.heights are) none in
      absurd (more_left c.heights.k (length c.args.leaves.now) (length leaves) c.heights-test.true (length-map c.args.leaves.now leaf_of) (l.as_many ∙ ap (λ n. 16 * n) last)),
)

pub returns-then-not-are_leaves_at : goal.returns-then-not-are_leaves_at
returns-then-not-are_leaves_at c = (
  λ yes. absurd (cc yes),
  λ l.
      let points = points_of c.args.cloud in
      let least = point_of c.least_point-least.result in
      let leaves = map leaf_of c.args.leaves.now in
      let fits : SFits w32 c.least_point-least.result.y = search rules in
      let fits_height : SFits w32 c.in-Some.height = search rules in
      let low : IsLowestOf points (length points) (to_z w32 c.heights.from-bits) least.y c.in-Some.height = simp to_z-of_z at c.in-Some.ensures in
      let are = heights_of c.args.side least points leaves c.least_point-least.ensures.is_least l in
      let has = place_has c.args.side least points c.heights.k (to_z w32 c.heights.from-bits) c.in-Some.height l.heights c.heights.invariant.start are (c.heights.invariant.places l.heights are) low in
      let holds = sixteen_hold c.args.side least points leaves c.heights.k c.in-Some.height l.heights (names_points points leaves c.requires.names) (room c.heights.k (length c.args.leaves.now) (length leaves) c.heights-test.true (length-map c.args.leaves.now leaf_of)) has.1
      (each_of c.args.side least points leaves c.least_point-least.ensures.is_least l) in
      let judged = simp to_z-of_z at c.are_leaves_at.ensures in
      let yes = judged.1 holds in
      let no = c.if-not-are_leaves_at.true in
      absurd (cc (yes, no)),
)

not_above : (h y : ℤ) → h ≤ℤ y → y ≤ℤ pos 200000 → h ≤ℤ pos 200000
not_above h y l m = omega (arith, ints, l, m)

pub above-from-requires : goal.above-from-requires
above-from-requires c =
    let points = points_of c.args.cloud in
    let fits : SFits w32 c.least_point-least.result.y = search rules in
    let fits_height : SFits w32 c.in-Some.height = search rules in
    let low : IsLowestOf points (length points) (to_z w32 c.heights.from-bits) c.least_point-least.result.y c.in-Some.height = simp to_z-of_z at c.in-Some.ensures in
    simp to_z-of_z (not_above c.in-Some.height c.least_point-least.result.y low.between.to_above c.least_point-least.ensures.y.high)

-- one height more
next_found : (side : ℕ) (least : PlanePoint) (points : List PlanePoint) (leaves : List Leaf) (k : ℕ) (from height next : ℤ) → (least.y -ℤ pos side) ≤ℤ from → AreFound side least points leaves k from → ((heights : List ℤ) → AreHeights side least points heights → IsAtPlace heights k from)
    → IsLowestOf points (length points) from least.y height → next ≡ (height +ℤ pos 1) → 16 * k + 16 ≤ length leaves → AreLeavesAt side 2 points (outside (first_square side least height) points) (sixteen_from k leaves)
    → AreFound side least points leaves (k + 1) next × ((heights : List ℤ) → AreHeights side least points heights → IsAtPlace heights (k + 1) next) × ((least.y -ℤ pos side) ≤ℤ next)
next_found side least points leaves k from height next start found places low is enough new = (
  found_more side least points leaves k from height next start found low is enough new,
  λ heights are. place_more side least points k from height next heights start are (places heights are) low is,
  subst (λ v. (least.y -ℤ pos side) ≤ℤ v) (sym is) (up_to_next (least.y -ℤ pos side) from height start low.between.from_below),
)

pub heights-preserved : goal.heights-preserved
heights-preserved c =
    let points = points_of c.args.cloud in
    let least = point_of c.least_point-least.result in
    let leaves = map leaf_of c.args.leaves.now in
    let fits : SFits w32 c.least_point-least.result.y = search rules in
    let fits_height : SFits w32 c.in-Some.height = search rules in
    let fits_next : SFits w32 c.above-from.result = search rules in
    let low : IsLowestOf points (length points) (to_z w32 c.heights.from-bits) least.y c.in-Some.height = simp to_z-of_z at c.in-Some.ensures in
    let judged = simp to_z-of_z at c.are_leaves_at.ensures in
    let is = simp to_z-of_z at c.above-from.ensures in
    let next = next_found c.args.side least points leaves c.heights.k (to_z w32 c.heights.from-bits) c.in-Some.height c.above-from.result c.heights.invariant.start c.heights.invariant.found c.heights.invariant.places low is
    (room c.heights.k (length c.args.leaves.now) (length leaves) c.heights-test.true (length-map c.args.leaves.now leaf_of)) (judged.0 c.if-not-are_leaves_at.false) in
    let back : to_z w32 (of_z w32 c.above-from.result) ≡ c.above-from.result = to_z-of_z w32 c.above-from.result fits_next in
    record {
      found = subst (AreFound c.args.side least points leaves (c.heights.k + 1)) (sym back) next.0;
      places = λ heights are. subst (IsAtPlace heights (c.heights.k + 1)) (sym back) (next.1 heights are);
      start = subst (λ v. (c.least_point-least.result.y -ℤ pos c.args.side) ≤ℤ v) (sym back) next.2;
    }

-- what was found last decides
decides : {yes : Bool} (side : ℕ) (points : List PlanePoint) (least : PlanePoint) (from : ℤ) (found : Option ℤ) (Leaves : Type 0) → IsLowestFrom points from least.y found → (IsTrue yes ↔ IsNone found)
    → ((((k : ℕ) → k < length points → ¬ IsBetween from least.y (point_at points k).y)) → Leaves) → ((height : ℤ) → IsLowestOf points (length points) from least.y height → Leaves → ⊥) → IsTrue yes ↔ Leaves
decides side points least from None Leaves h is good bad = (λ _. good h, λ _. is.1 refl)
decides side points least from (Some height) Leaves h is good bad = (λ yes. absurd (some_not_none (is.0 yes)), λ leaves. absurd (bad height h leaves))
  where
    some_not_none : IsNone (Some height) → ⊥
    some_not_none e = cc

pub returns : goal.returns
returns c =
    let points = points_of c.args.cloud in
    let least = point_of c.least_point-least.result in
    let leaves = map leaf_of c.args.leaves.now in
    let fits : SFits w32 c.least_point-least.result.y = search rules in
    let found : IsLowestFrom points (to_z w32 c.heights.from-bits) least.y c.lowest_from-2.result = simp to_z-of_z at c.lowest_from-2.ensures in
    let k_is = all_done c.heights.k (length c.args.leaves.now) c.heights.auto.k-end c.heights-test.false in
    let as_many = whole (length c.args.leaves.now) (length leaves) (length-map c.args.leaves.now leaf_of) c.requires.count ∙ ap (λ n. 16 * n) k_is in
    decides c.args.side points least (to_z w32 c.heights.from-bits) c.lowest_from-2.result (AreLeavesByHeight c.args.side points leaves) found (search rules)
    (λ none. leaves_of_heights c.args.side least points leaves c.heights.k (to_z w32 c.heights.from-bits) c.least_point-least.ensures.is_least c.heights.invariant.found as_many none)
    (λ height low l.
    let are = heights_of c.args.side least points leaves c.least_point-least.ensures.is_least l in
    let has = place_has c.args.side least points c.heights.k (to_z w32 c.heights.from-bits) height l.heights c.heights.invariant.start are (c.heights.invariant.places l.heights are) low in
    too_many c.heights.k (length l.heights) (length leaves) has.0 l.as_many as_many)
  where
    too_many : (k h n : ℕ) → k < h → n ≡ 16 * h → n ≡ 16 * k → ⊥
    too_many k h n l e f = omega (arith, l, e, f)
