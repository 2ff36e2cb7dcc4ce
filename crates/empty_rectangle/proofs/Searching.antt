-- The rectangles over all seeds: each rectangle with no obstacle strictly inside it grows from one of them.
use Rattle.std.proofs.Common.{◌≡◌, ◌⊎◌, inl, inr, refl, sym, ◌∙◌, subst, ℕ, ◌+◌, ◌-◌, ◌*◌, ◌≤◌, ◌<◌, le_refl, List, [], ◌∷◌, length, get_or, All, Contains, arith}
use Rattle.std.specs.List.{AllWithin}
use Rattle.std.specs.List.Sorted.{IsNonDecreasingBy}
use Rattle.std.proofs.lemmas.Nat.{mul-le}
use Rattle.std.proofs.lemmas.List.{get_or_read}
use Rattle.std.proofs.lemmas.List.Elements.{All-cons, All-nil, All-contains, AllWithin-none, AllWithin-more, at_read, Contains-append_right}
use Rattle.empty_rectangle.specs.declared.obstacles.Obstacle.{Obstacle}
use Rattle.empty_rectangle.specs.declared.obstacles.Extent.{Extent}
use Rattle.empty_rectangle.specs.declared.rectangles.Rectangle.{Rectangle}
use Rattle.empty_rectangle.specs.declared.sweep.Seed.{Seed}
use Rattle.empty_rectangle.specs.Rectangles.{IsInExtent, IsFree, IsRestricted, IsSeed, IsThrough, Covers}
use Rattle.empty_rectangle.specs.Seeds.{corner, above, beside, IsGap, NoneExceeds}
use Rattle.empty_rectangle.proofs.Sweeping.{by_order}

-- ---- the obstacle below a rectangle

-- an obstacle strictly between two vertical sides, no higher than a bottom, and as high as any such obstacle
pub record IsHighestUnder (obstacles : List Obstacle) (left right bottom : ℕ) (p : Obstacle) : Type 0 where
  pub listed : Contains obstacles p
  pub after : left < p.x
  pub before : p.x < right
  pub below : p.y ≤ bottom
  pub highest : All (λ s. left < s.x → s.x < right → s.y ≤ bottom → s.y ≤ p.y) obstacles

-- there is one, or no obstacle between the sides is so low
abbrev pub HasHighestUnder : List Obstacle → ℕ → ℕ → ℕ → Type 0
HasHighestUnder obstacles left right bottom = ((p : Obstacle) × IsHighestUnder obstacles left right bottom p) ⊎ All (λ s. left < s.x → s.x < right → bottom < s.y) obstacles

-- one obstacle more, which is between the sides and so low, or not
highest_more : (s : Obstacle) (rest : List Obstacle) (left right bottom : ℕ) → HasHighestUnder rest left right bottom → HasHighestUnder (s ∷ rest) left right bottom
highest_more s rest left right bottom found = by_order left s.x (λ after. by_order s.x right (λ before. by_order bottom s.y (λ high. skips (λ _ _. high)) (λ low. takes found after before low)) (λ beyond. skips (λ _ before. absurd (omega arith)))) (λ early. skips (λ after _. absurd (omega arith)))
  where
    old : (p : Obstacle) → IsHighestUnder rest left right bottom p → (left < s.x → s.x < right → s.y ≤ bottom → s.y ≤ p.y) → IsHighestUnder (s ∷ rest) left right bottom p
    old p is here = record {
      listed = Contains-append_right (s ∷ []) rest p is.listed;
      after = is.after;
      before = is.before;
      below = is.below;
      highest = All-cons (λ q. left < q.x → q.x < right → q.y ≤ bottom → q.y ≤ p.y) s rest here is.highest;
    }

    new : left < s.x → s.x < right → s.y ≤ bottom → All (λ q. left < q.x → q.x < right → q.y ≤ bottom → q.y ≤ s.y) rest → IsHighestUnder (s ∷ rest) left right bottom s
    new after before low highest = record {
      listed = (0, omega arith, refl);
      after = after;
      before = before;
      below = low;
      highest = All-cons (λ q. left < q.x → q.x < right → q.y ≤ bottom → q.y ≤ s.y) s rest (λ _ _ _. le_refl s.y) highest;
    }

    skips : (left < s.x → s.x < right → bottom < s.y) → HasHighestUnder (s ∷ rest) left right bottom
    skips high = elim found [
      | inl p ↦ inl (p.0, old p.0 p.1 (λ after before low. absurd (omega (arith, high after before, low))))
      | inr none ↦ inr (All-cons (λ q. left < q.x → q.x < right → bottom < q.y) s rest high none)
    ]

    takes : HasHighestUnder rest left right bottom → left < s.x → s.x < right → s.y ≤ bottom → HasHighestUnder (s ∷ rest) left right bottom
    takes (inl p) after before low = by_order p.0.y s.y (λ higher. inl (s, new after before low (λ k d lt a b c. omega (arith, higher, p.1.highest k d lt a b c)))) (λ lower. inl (p.0, old p.0 p.1 (λ _ _ _. lower)))
    takes (inr none) after before low = inl (s, new after before low (λ k d lt a b c. absurd (omega (arith, none k d lt a b, c))))

pub has_highest_under : (obstacles : List Obstacle) (left right bottom : ℕ) → HasHighestUnder obstacles left right bottom
has_highest_under [] left right bottom = inr (All-nil (λ s. left < s.x → s.x < right → bottom < s.y))
has_highest_under (s ∷ rest) left right bottom = highest_more s rest left right bottom (has_highest_under rest left right bottom)

-- ---- each gap grows from a seed

-- the gap reaches down to the obstacle below it
gap_above : (obstacles : List Obstacle) (extent : Extent) (area left bottom right top : ℕ) → All (λ s. Covers obstacles extent (above s) area) obstacles → IsGap obstacles extent left bottom right top → (p : Obstacle) → IsHighestUnder obstacles left right bottom p → (right - left) * (top - bottom) ≤ area
gap_above obstacles extent area left bottom right top covers gap p is =
    let through : IsThrough obstacles extent (above p) left right top = record {
      from_left = omega arith;
      before = omega (arith, is.after);
      after = omega (arith, is.before);
      to_right = gap.in_right;
      over = omega (arith, is.below, gap.high);
      to_top = gap.in_top;
      free = λ k d lt between. by_order bottom (get_or obstacles k d).y
          (λ high. gap.free k d lt (record { enters = record { after_left = between.enters.after_left; before_right = between.enters.before_right; above = high }; below = between.below }))
          (λ low. omega (arith, is.highest k d lt between.enters.after_left between.enters.before_right low, between.enters.above));
    } in
    omega (arith, All-contains (λ s. Covers obstacles extent (above s) area) obstacles p covers is.listed left right top through, mul-le (right - left) (top - bottom) (right - left) (top - p.y) (le_refl (right - left)) (omega (arith, is.below)))

-- with no obstacle below it, the gap reaches down to the bottom of the frame
free_down : (obstacles : List Obstacle) (extent : Extent) (left bottom right top : ℕ) → IsGap obstacles extent left bottom right top → All (λ s. left < s.x → s.x < right → bottom < s.y) obstacles → IsFree obstacles left 0 right top
free_down obstacles extent left bottom right top gap none k d lt between =
    gap.free k d lt (record { enters = record { after_left = between.enters.after_left; before_right = between.enters.before_right; above = none k d lt between.enters.after_left between.enters.before_right }; below = between.below })

-- it stands on the bottom, and its left side is on the frame's, or goes through an obstacle
gap_below : (obstacles : List Obstacle) (extent : Extent) (area left bottom right top : ℕ) → Covers obstacles extent corner area → All (λ s. Covers obstacles extent (beside s) area) obstacles → IsGap obstacles extent left bottom right top → All (λ s. left < s.x → s.x < right → bottom < s.y) obstacles
    → (right - left) * (top - bottom) ≤ area
gap_below obstacles extent area left bottom right top at_corner covers gap none = omega (arith, down gap.start, mul-le (right - left) (top - bottom) (right - left) (top - 0) (le_refl (right - left)) (omega arith))
  where
    down : (left ≡ 0) ⊎ ((s : Obstacle) × Contains obstacles s × (s.x ≡ left) × (bottom < s.y) × (s.y < top)) → (right - left) * (top - 0) ≤ area
    down (inl at_side) = at_corner left right top (record {
      from_left = omega arith;
      before = omega arith;
      after = omega (arith, gap.wide);
      to_right = gap.in_right;
      over = omega (arith, gap.high);
      to_top = gap.in_top;
      free = free_down obstacles extent left bottom right top gap none;
    })
    down (inr s) = All-contains (λ q. Covers obstacles extent (beside q) area) obstacles s.0 covers s.1 left right top (record {
      from_left = omega (arith, s.2);
      before = omega (arith, s.2);
      after = omega (arith, s.2, gap.wide);
      to_right = gap.in_right;
      over = s.4;
      to_top = gap.in_top;
      free = free_down obstacles extent left bottom right top gap none;
    })

-- no gap exceeds an area that covers all seeds
pub NoneExceeds-seeds : (obstacles : List Obstacle) (extent : Extent) (area : ℕ) → Covers obstacles extent corner area → All (λ s. Covers obstacles extent (above s) area) obstacles → All (λ s. Covers obstacles extent (beside s) area) obstacles → NoneExceeds obstacles extent area
NoneExceeds-seeds obstacles extent area at_corner all_above all_beside left bottom right top gap = elim (has_highest_under obstacles left right bottom) [
  | inl p ↦ gap_above obstacles extent area left bottom right top all_above gap p.0 p.1
  | inr none ↦ gap_below obstacles extent area left bottom right top at_corner all_beside gap none
]

-- ---- the seeds

pub IsSeed-above : (obstacles : List Obstacle) (extent : Extent) (i : ℕ) (s : Obstacle) → IsNonDecreasingBy (λ q. q.y) obstacles → All (IsInExtent extent) obstacles → i < length obstacles → s ≡ get_or obstacles i s → IsSeed obstacles extent (i + 1) (above s)
IsSeed-above obstacles extent i s sorted inside below is =
    let in_extent = All-contains (IsInExtent extent) obstacles s inside (i, below, sym is) in
    record {
      start = omega arith;
      earlier = λ k d low before. subst (λ (q : Obstacle). (get_or obstacles k d).y ≤ q.y) (sym (get_or_read obstacles i s below is d)) (sorted k i d (omega arith) below);
      order = le_refl s.y;
      below_top = in_extent.below_top;
      after_left = omega (arith, in_extent.after_left);
      before_right = omega (arith, in_extent.before_right);
      left = inl refl;
      bottom = inr (s, (i, below, sym is), refl, refl);
    }

pub IsSeed-beside : (obstacles : List Obstacle) (extent : Extent) (i : ℕ) (s : Obstacle) → All (IsInExtent extent) obstacles → i < length obstacles → s ≡ get_or obstacles i s → IsSeed obstacles extent 0 (beside s)
IsSeed-beside obstacles extent i s inside below is =
    let in_extent = All-contains (IsInExtent extent) obstacles s inside (i, below, sym is) in
    record {
      start = omega arith;
      earlier = AllWithin-none (λ q. q.y ≤ 0) obstacles 0;
      order = omega arith;
      below_top = in_extent.below_top;
      after_left = omega arith;
      before_right = omega (arith, in_extent.before_right);
      left = inr (record { obstacle = s; listed = (i, below, sym is); is = refl; after = in_extent.above_bottom; before = omega arith });
      bottom = inl refl;
    }

-- ---- the loops

-- a greater area covers too
pub Covers-more : (obstacles : List Obstacle) (extent : Extent) (seed : Seed) (area more : ℕ) → Covers obstacles extent seed area → area ≤ more → Covers obstacles extent seed more
Covers-more obstacles extent seed area more covers less left right top t = omega (arith, covers left right top t, less)

-- the seeds of the obstacles before i are covered, and one more
pub covered_more : (obstacles : List Obstacle) (extent : Extent) (of : Obstacle → Seed) (i area more : ℕ) (s : Obstacle) → AllWithin (λ q. Covers obstacles extent (of q) area) obstacles 0 i → i < length obstacles → s ≡ get_or obstacles i s → area ≤ more → Covers obstacles extent (of s) more
    → AllWithin (λ q. Covers obstacles extent (of q) more) obstacles 0 (i + 1)
covered_more obstacles extent of i area more s before below is less here =
    let P = λ (q : Obstacle). Covers obstacles extent (of q) more in
    AllWithin-more P obstacles 0 i (λ k d low under. Covers-more obstacles extent (of (get_or obstacles k d)) area more (before k d low under) less) (at_read obstacles P i s below is here)

-- the seeds that were covered stay so
pub still_covered : (obstacles : List Obstacle) (extent : Extent) (of : Obstacle → Seed) (n area more : ℕ) → AllWithin (λ q. Covers obstacles extent (of q) area) obstacles 0 n → area ≤ more → AllWithin (λ q. Covers obstacles extent (of q) more) obstacles 0 n
still_covered obstacles extent of n area more before less k d low under = Covers-more obstacles extent (of (get_or obstacles k d)) area more (before k d low under) less

-- the best rectangle so far is the start or a restricted one
pub restricted_more : (obstacles : List Obstacle) (extent : Extent) (start old new : Rectangle) → (old ≡ start) ⊎ IsRestricted obstacles extent old → (new ≡ old) ⊎ IsRestricted obstacles extent new → (new ≡ start) ⊎ IsRestricted obstacles extent new
restricted_more obstacles extent start old new before (inr restricted) = inr restricted
restricted_more obstacles extent start old new (inl e) (inl f) = inl (f ∙ e)
restricted_more obstacles extent start old new (inr restricted) (inl f) = inr (subst (IsRestricted obstacles extent) (sym f) restricted)
