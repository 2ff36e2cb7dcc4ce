-- The rectangles that grow from a seed: what a window and the best rectangle so far say of the obstacles that were passed, step by step.
use Rattle.std.proofs.Common.{◌≡◌, ◌⊎◌, inl, inr, refl, sym, ap, ◌∙◌, subst, ℕ, ◌+◌, ◌-◌, ◌*◌, ◌≤◌, ◌<◌, Bool, true, false, ltb, ltb-true, ltb-false, le_refl, List, length, get_or, All, Contains, arith}
use Rattle.std.proofs.Math.Nat.{lt_of_mul-lt-mul_left}
use Rattle.std.specs.List.{AllWithin}
use Rattle.std.specs.List.Sorted.{IsNonDecreasingBy}
use Rattle.std.proofs.lemmas.Nat.{mul-le}
use Rattle.std.proofs.lemmas.List.{get_or_default, get_or-map}
use Rattle.std.proofs.lemmas.List.Elements.{All-from_get_or, AllWithin-more, at_read, All-contains}
use Rattle.empty_rectangle.specs.declared.obstacles.Obstacle.{Obstacle}
use Rattle.empty_rectangle.specs.declared.obstacles.Extent.{Extent}
use Rattle.empty_rectangle.specs.declared.rectangles.RestingSide.{RestingSide}
use Rattle.empty_rectangle.specs.declared.rectangles.Rectangle.{Rectangle}
use Rattle.empty_rectangle.specs.declared.rectangles.Window.{Window}
use Rattle.empty_rectangle.specs.declared.sweep.Seed.{Seed}
use Rattle.empty_rectangle.specs.Rectangles.{columns, IsStrictlyBetween, IsInExtent, Enters, NoneEnters, IsBetween, IsFree, side, vertical, level, RestsVertical, RestsLevel, IsRestricted, rectangle_in, Larger, Narrows, IsSeed, IsThrough, Covers}

-- a number is below another, or not
pub by_order : {P : Type 0} (a b : ℕ) → (a < b → P) → (b ≤ a → P) → P
by_order {P} a b less most = decide (ltb a b) refl
  where
    decide : (t : Bool) → ltb a b ≡ t → P
    decide true e = less (ltb-true a b e)
    decide false e = most (ltb-false a b e)

-- a vertical side through an obstacle above the bottom, which is no higher than the least, or the rectangle up to it has at most this area
pub record Narrowed (obstacles : List Obstacle) (bottom least width area : ℕ) (resting_side : RestingSide) : Type 0 where
  pub obstacle : Obstacle
  pub listed : Contains obstacles obstacle
  pub is : resting_side ≡ vertical obstacle
  pub after : bottom < obstacle.y
  pub small : (obstacle.y ≤ least) ⊎ (width * (obstacle.y - bottom) ≤ area)

-- the obstacles before k were passed
pub record Scanned (obstacles : List Obstacle) (extent : Extent) (seed : Seed) (start : Rectangle) (k : ℕ) (window : Window) (best : Rectangle) : Type 0 where
  pub from_left : 2 * window.left.at < seed.column
  pub to_right : seed.column < 2 * window.right.at
  pub in_extent : window.right.at ≤ extent.width
  pub left : (window.left ≡ side 0) ⊎ Narrowed obstacles seed.bottom.at seed.least (window.right.at - window.left.at) best.area window.left
  pub right : (window.right ≡ side extent.width) ⊎ Narrowed obstacles seed.bottom.at seed.least (window.right.at - window.left.at) best.area window.right
  pub passed : AllWithin (λ s. ¬ Enters window.left.at seed.bottom.at window.right.at s) obstacles 0 k
  pub covered : (left right top : ℕ) → IsThrough obstacles extent seed left right top → ((right - left) * (top - seed.bottom.at) ≤ best.area) ⊎ ((window.left.at ≤ left) × (right ≤ window.right.at))
  pub restricted : (best ≡ start) ⊎ IsRestricted obstacles extent best
  pub grown : start.area ≤ best.area

-- ---- the start

-- the window is as wide as the seed lets it be
pub Scanned-start : (obstacles : List Obstacle) (extent : Extent) (from : ℕ) (seed : Seed) (start : Rectangle) → IsSeed obstacles extent from seed → Scanned obstacles extent seed start from (record { left = seed.left; right = side extent.width }) start
Scanned-start obstacles extent from seed start is = record {
  from_left = is.after_left;
  to_right = is.before_right;
  in_extent = le_refl extent.width;
  left = elim is.left [ inl e ↦ inl e | inr r ↦ inr (record { obstacle = r.obstacle; listed = r.listed; is = r.is; after = r.after; small = inl (omega (arith, r.before)) }) ];
  right = inl refl;
  passed = λ k d low below enters. omega (arith, is.earlier k d low below, enters.above);
  covered = λ left right top t. inr (t.from_left, t.to_right);
  restricted = inl refl;
  grown = le_refl start.area;
}

-- ---- obstacles that are not in the window

pub Scanned-on : (obstacles : List Obstacle) (extent : Extent) (seed : Seed) (start : Rectangle) (i k : ℕ) (window : Window) (best : Rectangle) → Scanned obstacles extent seed start i window best
    → NoneEnters obstacles window.left.at seed.bottom.at window.right.at i k → Scanned obstacles extent seed start k window best
Scanned-on obstacles extent seed start i k window best s none = record {
  from_left = s.from_left;
  to_right = s.to_right;
  in_extent = s.in_extent;
  left = s.left;
  right = s.right;
  passed = λ j d low below enters. by_order j i (λ before. s.passed j d low before enters) (λ later. none j d later below enters);
  covered = s.covered;
  restricted = s.restricted;
  grown = s.grown;
}

-- obstacles whose x are not between the sides
pub NoneEnters-beside : (obstacles : List Obstacle) (xs : List ℕ) (left bottom right i k : ℕ) → xs ≡ columns obstacles → k ≤ length obstacles → AllWithin (λ x. ¬ IsStrictlyBetween left right x) xs i k → NoneEnters obstacles left bottom right i k
NoneEnters-beside obstacles xs left bottom right i k are within none = λ j d low below enters.
    let at : get_or xs j 0 ≡ (get_or obstacles j d).x = ap (λ l. get_or l j 0) are ∙ get_or-map (λ s. s.x) obstacles j d 0 (omega (arith, below, within)) in
    none j 0 low below (subst (IsStrictlyBetween left right) (sym at) (record { after_left = enters.after_left; before_right = enters.before_right }))

-- ---- a rectangle in the window

-- a side that was narrowed rests below the top of a rectangle that has more than the area, and is higher than the least
rests_below : (obstacles : List Obstacle) (bottom least width area top e : ℕ) (resting_side : RestingSide) → (resting_side ≡ side e) ⊎ Narrowed obstacles bottom least width area resting_side → least < top → area < width * (top - bottom) → (resting_side ≡ side e) ⊎ RestsVertical obstacles bottom top resting_side
rests_below obstacles bottom least width area top e resting_side (inl is) high more = inl is
rests_below obstacles bottom least width area top e resting_side (inr n) high more = inr (record { obstacle = n.obstacle; listed = n.listed; is = n.is; after = n.after; before = below n.small })
  where
    below : (n.obstacle.y ≤ least) ⊎ (width * (n.obstacle.y - bottom) ≤ area) → n.obstacle.y < top
    below (inl low) = omega arith
    below (inr small) =
        let h : width * (n.obstacle.y - bottom) < width * (top - bottom) = omega arith in
        let k : (n.obstacle.y - bottom) < (top - bottom) = lt_of_mul-lt-mul_left width h in
        omega arith

-- the rectangle in the window up to a top is restricted, where no obstacle is strictly inside it, and it is larger and higher than asked
pub IsRestricted-window : (obstacles : List Obstacle) (extent : Extent) (from : ℕ) (seed : Seed) (start : Rectangle) (k : ℕ) (window : Window) (best : Rectangle) (top : RestingSide) → IsSeed obstacles extent from seed → Scanned obstacles extent seed start k window best
    → seed.least < top.at → top.at ≤ extent.height → best.area < (window.right.at - window.left.at) * (top.at - seed.bottom.at) → IsFree obstacles window.left.at seed.bottom.at window.right.at top.at
    → (top ≡ side extent.height) ⊎ RestsLevel obstacles window.left.at window.right.at top → IsRestricted obstacles extent (rectangle_in window seed.bottom top)
IsRestricted-window obstacles extent from seed start k window best top is s high in_top more free rests = record {
  area = refl;
  wide = omega (arith, s.from_left, s.to_right);
  high = omega (arith, is.order, high);
  in_right = s.in_extent;
  in_top = in_top;
  free = free;
  left = rests_below obstacles seed.bottom.at seed.least (window.right.at - window.left.at) best.area top.at 0 window.left s.left high more;
  bottom = elim is.bottom [ inl e ↦ inl e | inr b ↦ inr (record { obstacle = b.0; listed = b.1; is = b.2; after = omega (arith, s.from_left, b.3); before = omega (arith, s.to_right, b.3) }) ];
  right = rests_below obstacles seed.bottom.at seed.least (window.right.at - window.left.at) best.area top.at extent.width window.right s.right high more;
  top = rests;
}

-- a rectangle that is inside the window and no higher than a top has at most the area of the window up to the top
narrower : (l r wl wr bottom t top : ℕ) → wl ≤ l → r ≤ wr → t ≤ top → (r - l) * (t - bottom) ≤ (wr - wl) * (top - bottom)
narrower l r wl wr bottom t top a b c = mul-le (r - l) (t - bottom) (wr - wl) (top - bottom) (omega arith) (omega arith)

-- no obstacle is strictly inside the window up to the obstacle at k
free_below : (obstacles : List Obstacle) (extent : Extent) (seed : Seed) (start : Rectangle) (k : ℕ) (window : Window) (best : Rectangle) (obstacle : Obstacle) → IsNonDecreasingBy (λ q. q.y) obstacles → Scanned obstacles extent seed start k window best
    → obstacle ≡ get_or obstacles k obstacle → IsFree obstacles window.left.at seed.bottom.at window.right.at obstacle.y
free_below obstacles extent seed start k window best obstacle sorted s is = All-from_get_or (λ q. ¬ IsBetween window.left.at seed.bottom.at window.right.at obstacle.y q) obstacles obstacle (λ j below between.
    by_order j k (λ before. s.passed j obstacle (omega arith) before between.enters) (λ later. omega (arith, sorted k j obstacle later below, between.below, ap (λ (q : Obstacle). q.y) is)))

-- ---- the obstacle that ends a rectangle

-- after the rectangle up to the obstacle was offered
pub record Offered (obstacles : List Obstacle) (extent : Extent) (seed : Seed) (start : Rectangle) (window : Window) (obstacle : Obstacle) (old best : Rectangle) : Type 0 where
  pub kept : old.area ≤ best.area
  pub offered : seed.least < obstacle.y → (window.right.at - window.left.at) * (obstacle.y - seed.bottom.at) ≤ best.area
  pub covered : (left right top : ℕ) → IsThrough obstacles extent seed left right top → ((right - left) * (top - seed.bottom.at) ≤ best.area) ⊎ ((window.left.at ≤ left) × (right ≤ window.right.at) × (obstacle.y < top))
  pub restricted : (best ≡ start) ⊎ IsRestricted obstacles extent best

pub Offered-obstacle : (obstacles : List Obstacle) (extent : Extent) (from : ℕ) (seed : Seed) (start : Rectangle) (k : ℕ) (window : Window) (old best : Rectangle) (obstacle : Obstacle) → IsNonDecreasingBy (λ q. q.y) obstacles → All (IsInExtent extent) obstacles → IsSeed obstacles extent from seed
    → Scanned obstacles extent seed start k window old → k < length obstacles → obstacle ≡ get_or obstacles k obstacle → Enters window.left.at seed.bottom.at window.right.at obstacle → Larger old (rectangle_in window seed.bottom (level obstacle)) seed.least best
    → Offered obstacles extent seed start window obstacle old best
Offered-obstacle obstacles extent from seed start k window old best obstacle sorted inside seeded s below is enters larger = record {
  kept = larger.kept;
  offered = larger.taken;
  covered = λ left right top t. elim (s.covered left right top t) [
    | inl h ↦ inl (omega (arith, h, larger.kept))
    | inr w ↦ by_order obstacle.y top (λ under. inr (w.0, w.1, under)) (λ over.
        inl (omega (arith, larger.taken (omega (arith, t.over, over)), narrower left right window.left.at window.right.at seed.bottom.at top obstacle.y w.0 w.1 over)))
  ];
  restricted = elim larger.is [
    | inl e ↦ elim s.restricted [ inl f ↦ inl (e ∙ f) | inr h ↦ inr (subst (IsRestricted obstacles extent) (sym e) h) ]
    | inr n ↦ inr (subst (IsRestricted obstacles extent) (sym n.0)
        (IsRestricted-window obstacles extent from seed start k window old (level obstacle) seeded s n.2 (omega (arith, in_extent.below_top)) n.1 (free_below obstacles extent seed start k window old obstacle sorted s is)
        (inr (record { obstacle = obstacle; listed = listed; is = refl; after = enters.after_left; before = enters.before_right }))))
  ];
}
  where
    listed : Contains obstacles obstacle
    listed = (k, below, sym is)

    in_extent : IsInExtent extent obstacle
    in_extent = All-contains (IsInExtent extent) obstacles obstacle inside listed

-- likewise, as the loop reads the obstacle and computes the rectangle
pub Offered-read : (obstacles : List Obstacle) (extent : Extent) (from : ℕ) (seed : Seed) (start : Rectangle) (k : ℕ) (window : Window) (old best ended : Rectangle) (d : Obstacle) → IsNonDecreasingBy (λ q. q.y) obstacles → All (IsInExtent extent) obstacles → IsSeed obstacles extent from seed
    → Scanned obstacles extent seed start k window old → k < length obstacles → Enters window.left.at seed.bottom.at window.right.at (get_or obstacles k d) → ended ≡ rectangle_in window seed.bottom (level (get_or obstacles k d)) → Larger old ended seed.least best
    → Offered obstacles extent seed start window (get_or obstacles k d) old best
Offered-read obstacles extent from seed start k window old best ended d sorted inside seeded s below enters is larger =
    Offered-obstacle obstacles extent from seed start k window old best (get_or obstacles k d) sorted inside seeded s below (get_or_default obstacles k d (get_or obstacles k d) below) enters (subst (λ r. Larger old r seed.least best) is larger)

-- ---- the end of the scan

-- the obstacle stands in the column, so that no higher rectangle passes it
pub Covers-column : (obstacles : List Obstacle) (extent : Extent) (seed : Seed) (start : Rectangle) (window : Window) (obstacle : Obstacle) (old best : Rectangle) → Contains obstacles obstacle → seed.bottom.at < obstacle.y → Offered obstacles extent seed start window obstacle old best → 2 * obstacle.x ≡ seed.column → Covers obstacles extent seed best.area
Covers-column obstacles extent seed start window obstacle old best listed above o in_column left right top t = elim (o.covered left right top t) [
  | inl h ↦ h
  | inr w ↦ absurd (All-contains (λ q. ¬ IsBetween left seed.bottom.at right top q) obstacles obstacle t.free listed (record { enters = record { after_left = omega (arith, t.before); before_right = omega (arith, t.after); above = above }; below = w.2 }))
]

-- the window up to the ceiling is not larger than the best rectangle
pub Covers-narrow : (obstacles : List Obstacle) (extent : Extent) (seed : Seed) (start : Rectangle) (k : ℕ) (window : Window) (best : Rectangle) (area : ℕ) → Scanned obstacles extent seed start k window best
    → best.area ≤ area → (window.right.at - window.left.at) * (extent.height - seed.bottom.at) ≤ area → Covers obstacles extent seed area
Covers-narrow obstacles extent seed start k window best area s kept small left right top t = elim (s.covered left right top t) [
  | inl h ↦ omega (arith, h, kept)
  | inr w ↦ omega (arith, small, narrower left right window.left.at window.right.at seed.bottom.at top extent.height w.0 w.1 t.to_top)
]

-- all obstacles were passed, and the rectangle up to the ceiling was offered
pub IsRestricted-ceiling : (obstacles : List Obstacle) (extent : Extent) (from : ℕ) (seed : Seed) (start : Rectangle) (k : ℕ) (window : Window) (old best : Rectangle) → IsSeed obstacles extent from seed → Scanned obstacles extent seed start k window old → length obstacles ≤ k
    → Larger old (rectangle_in window seed.bottom (side extent.height)) seed.least best → (best ≡ start) ⊎ IsRestricted obstacles extent best
IsRestricted-ceiling obstacles extent from seed start k window old best seeded s all larger = elim larger.is [
  | inl e ↦ elim s.restricted [ inl f ↦ inl (e ∙ f) | inr h ↦ inr (subst (IsRestricted obstacles extent) (sym e) h) ]
  | inr n ↦ inr (subst (IsRestricted obstacles extent) (sym n.0) (IsRestricted-window obstacles extent from seed start k window old (side extent.height) seeded s n.2 (le_refl extent.height) n.1
      (λ j d below between. s.passed j d (omega arith) (omega (arith, below, all)) between.enters) (inl refl)))
]

-- ---- a narrower window

-- a rectangle that is free and higher than the obstacle stays on its side of it
one_side : (obstacles : List Obstacle) (seed : Seed) (left right top : ℕ) (obstacle : Obstacle) → Contains obstacles obstacle → seed.bottom.at < obstacle.y → obstacle.y < top → IsFree obstacles left seed.bottom.at right top → left < obstacle.x → obstacle.x < right → ⊥
one_side obstacles seed left right top obstacle listed above under free after before =
    All-contains (λ q. ¬ IsBetween left seed.bottom.at right top q) obstacles obstacle free listed (record { enters = record { after_left = after; before_right = before; above = above }; below = under })

-- a side stays narrowed where the window grows narrower and the area greater
still_narrowed : (obstacles : List Obstacle) (bottom least width area new_width new_area e : ℕ) (resting_side : RestingSide) → (resting_side ≡ side e) ⊎ Narrowed obstacles bottom least width area resting_side → new_width ≤ width → area ≤ new_area → (resting_side ≡ side e) ⊎ Narrowed obstacles bottom least new_width new_area resting_side
still_narrowed obstacles bottom least width area new_width new_area e resting_side (inl is) less more = inl is
still_narrowed obstacles bottom least width area new_width new_area e resting_side (inr n) less more = inr (record { obstacle = n.obstacle; listed = n.listed; is = n.is; after = n.after; small = small n.small })
  where
    small : (n.obstacle.y ≤ least) ⊎ (width * (n.obstacle.y - bottom) ≤ area) → (n.obstacle.y ≤ least) ⊎ (new_width * (n.obstacle.y - bottom) ≤ new_area)
    small (inl low) = inl low
    small (inr h) = inr (omega (arith, h, mul-le new_width (n.obstacle.y - bottom) width (n.obstacle.y - bottom) less (le_refl (n.obstacle.y - bottom))))

-- the side through the obstacle is narrowed
newly_narrowed : (obstacles : List Obstacle) (seed : Seed) (window : Window) (obstacle : Obstacle) (new_width area : ℕ) → Contains obstacles obstacle → seed.bottom.at < obstacle.y → (seed.least < obstacle.y → (window.right.at - window.left.at) * (obstacle.y - seed.bottom.at) ≤ area)
    → new_width ≤ (window.right.at - window.left.at) → Narrowed obstacles seed.bottom.at seed.least new_width area (vertical obstacle)
newly_narrowed obstacles seed window obstacle new_width area listed above offered less = record {
  obstacle = obstacle;
  listed = listed;
  is = refl;
  after = above;
  small = by_order seed.least obstacle.y (λ high. inr (omega (arith, offered high, mul-le new_width (obstacle.y - seed.bottom.at) (window.right.at - window.left.at) (obstacle.y - seed.bottom.at) less (le_refl (obstacle.y - seed.bottom.at))))) (λ low. inl low);
}

-- the obstacles that were passed, and the obstacle itself, are not in the part of the window beside the obstacle
passed_beside : (obstacles : List Obstacle) (bottom k left right new_left new_right : ℕ) (obstacle : Obstacle) → AllWithin (λ s. ¬ Enters left bottom right s) obstacles 0 k → k < length obstacles → obstacle ≡ get_or obstacles k obstacle → left ≤ new_left → new_right ≤ right
    → ¬ Enters new_left bottom new_right obstacle → AllWithin (λ s. ¬ Enters new_left bottom new_right s) obstacles 0 (k + 1)
passed_beside obstacles bottom k left right new_left new_right obstacle passed below is from to outside =
    let P = λ (q : Obstacle). ¬ Enters new_left bottom new_right q in
    AllWithin-more P obstacles 0 k (λ j d low before enters. passed j d low before (record { after_left = omega (arith, enters.after_left); before_right = omega (arith, enters.before_right); above = enters.above })) (at_read obstacles P k obstacle below is outside)

-- the part of the window on the right of the obstacle
pub Scanned-right : (obstacles : List Obstacle) (extent : Extent) (seed : Seed) (start : Rectangle) (k : ℕ) (window : Window) (old best : Rectangle) (obstacle : Obstacle) → Scanned obstacles extent seed start k window old → Offered obstacles extent seed start window obstacle old best → k < length obstacles → obstacle ≡ get_or obstacles k obstacle
    → Enters window.left.at seed.bottom.at window.right.at obstacle → 2 * obstacle.x < seed.column → Scanned obstacles extent seed start (k + 1) (record { left = vertical obstacle; right = window.right }) best
Scanned-right obstacles extent seed start k window old best obstacle s o below is enters before = record {
  from_left = before;
  to_right = s.to_right;
  in_extent = s.in_extent;
  left = inr (newly_narrowed obstacles seed window obstacle (window.right.at - obstacle.x) best.area (k, below, sym is) enters.above o.offered (omega (arith, enters.after_left)));
  right = still_narrowed obstacles seed.bottom.at seed.least (window.right.at - window.left.at) old.area (window.right.at - obstacle.x) best.area extent.width window.right s.right (omega (arith, enters.after_left)) o.kept;
  passed = passed_beside obstacles seed.bottom.at k window.left.at window.right.at obstacle.x window.right.at obstacle s.passed below is (omega (arith, enters.after_left)) (le_refl window.right.at) (λ e. omega (arith, e.after_left));
  covered = λ left right top t. elim (o.covered left right top t) [
    | inl h ↦ inl h
    | inr w ↦ by_order left obstacle.x (λ crosses. absurd (one_side obstacles seed left right top obstacle (k, below, sym is) enters.above w.2 t.free crosses (omega (arith, before, t.after)))) (λ beside. inr (beside, w.1))
  ];
  restricted = o.restricted;
  grown = omega (arith, s.grown, o.kept);
}

-- the part of the window on the left of the obstacle
pub Scanned-left : (obstacles : List Obstacle) (extent : Extent) (seed : Seed) (start : Rectangle) (k : ℕ) (window : Window) (old best : Rectangle) (obstacle : Obstacle) → Scanned obstacles extent seed start k window old → Offered obstacles extent seed start window obstacle old best → k < length obstacles → obstacle ≡ get_or obstacles k obstacle
    → Enters window.left.at seed.bottom.at window.right.at obstacle → seed.column < 2 * obstacle.x → Scanned obstacles extent seed start (k + 1) (record { left = window.left; right = vertical obstacle }) best
Scanned-left obstacles extent seed start k window old best obstacle s o below is enters after = record {
  from_left = s.from_left;
  to_right = after;
  in_extent = omega (arith, enters.before_right, s.in_extent);
  left = still_narrowed obstacles seed.bottom.at seed.least (window.right.at - window.left.at) old.area (obstacle.x - window.left.at) best.area 0 window.left s.left (omega (arith, enters.before_right)) o.kept;
  right = inr (newly_narrowed obstacles seed window obstacle (obstacle.x - window.left.at) best.area (k, below, sym is) enters.above o.offered (omega (arith, enters.before_right)));
  passed = passed_beside obstacles seed.bottom.at k window.left.at window.right.at window.left.at obstacle.x obstacle s.passed below is (le_refl window.left.at) (omega (arith, enters.before_right)) (λ e. omega (arith, e.before_right));
  covered = λ left right top t. elim (o.covered left right top t) [
    | inl h ↦ inl h
    | inr w ↦ by_order obstacle.x right (λ crosses. absurd (one_side obstacles seed left right top obstacle (k, below, sym is) enters.above w.2 t.free (omega (arith, after, t.before)) crosses)) (λ beside. inr (w.0, beside))
  ];
  restricted = o.restricted;
  grown = omega (arith, s.grown, o.kept);
}

-- the part of the window that meets the column
pub Scanned-beside : (obstacles : List Obstacle) (extent : Extent) (seed : Seed) (start : Rectangle) (k : ℕ) (window new : Window) (old best : Rectangle) (obstacle : Obstacle) → Scanned obstacles extent seed start k window old → Offered obstacles extent seed start window obstacle old best → k < length obstacles → obstacle ≡ get_or obstacles k obstacle
    → Enters window.left.at seed.bottom.at window.right.at obstacle → (2 * obstacle.x ≡ seed.column → ⊥) → Narrows window obstacle seed.column new → Scanned obstacles extent seed start (k + 1) new best
Scanned-beside obstacles extent seed start k window new old best obstacle s o below is enters off narrows = by_order (2 * obstacle.x) seed.column
    (λ before. subst (λ w. Scanned obstacles extent seed start (k + 1) w best) (sym (narrows.to_right before)) (Scanned-right obstacles extent seed start k window old best obstacle s o below is enters before))
    (λ after. subst (λ w. Scanned obstacles extent seed start (k + 1) w best) (sym (narrows.to_left after)) (Scanned-left obstacles extent seed start k window old best obstacle s o below is enters (omega (arith, off, after))))
