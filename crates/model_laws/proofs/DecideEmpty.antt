-- Tests of the conditions on empty rectangles. Each decides the definition of the like name.
use Rattle.std.proofs.Common.{ℕ, ℤ, ◌*ℤ◌, List, length}
use Rattle.bounds_model.specs.Plane.{PlanePoint, point_at}
use Rattle.bounds_model.specs.Fractions.{Fraction}
use Rattle.bounds_model.specs.EmptyRectangle.{Box, IsStrictlyInside, area, empty_size}
use Rattle.bounds_model.specs.Ranges.{number_limit}
use Rattle.bounds_model.specs.EmptyAnswer.{Blocker, EmptyAnswer, EmptyRanges, IsBlockerBelow, NamesBlockers, BlocksVertical, BlocksLevel, AreBlocked, EachY, EachX, IsEmpty, IsNotLarger, NoneLargerInBand, NoneLarger, PassesEmpty, empty_of}
use Rattle.bounds_model.specs.EmptyAnswer.Blocker.{side, point}
use Rattle.model_laws.proofs.Decisions.{Decision, like, both, three, negated, implies, all, sure, less_ℕ, equal_ℤ, most_ℤ, less_ℤ}
use Rattle.model_laws.proofs.DecideParts.{within, same_value, fraction_in_range}

abbrev pub strictly_inside : (box : Box) (p : PlanePoint) → Decision (IsStrictlyInside box p)
strictly_inside box p =
    like (both (less_ℤ box.left p.x) (both (less_ℤ p.x box.right) (both (less_ℤ box.bottom p.y) (less_ℤ p.y box.top))))
    (λ h. record { after_left = h.0; before_right = h.1.0; above_bottom = h.1.1.0; below_top = h.1.1.1 }) (λ h. (h.after_left, (h.before_right, (h.above_bottom, h.below_top))))

abbrev pub blocker_below : (bound : ℕ) (b : Blocker) → Decision (IsBlockerBelow bound b)
blocker_below bound side = sure tt
blocker_below bound (point number) = less_ℕ number bound

abbrev pub blocks_vertical : (points : List PlanePoint) (frame_x x low high : ℤ) (b : Blocker) → Decision (BlocksVertical points frame_x x low high b)
blocks_vertical points frame_x x low high side = equal_ℤ x frame_x
blocks_vertical points frame_x x low high (point number) = three (equal_ℤ (point_at points number).x x) (less_ℤ low (point_at points number).y) (less_ℤ (point_at points number).y high)

abbrev pub blocks_level : (points : List PlanePoint) (frame_y y low high : ℤ) (b : Blocker) → Decision (BlocksLevel points frame_y y low high b)
blocks_level points frame_y y low high side = equal_ℤ y frame_y
blocks_level points frame_y y low high (point number) = three (equal_ℤ (point_at points number).y y) (less_ℤ low (point_at points number).x) (less_ℤ (point_at points number).x high)

abbrev pub empty_ranges : (a : EmptyAnswer) → Decision (EmptyRanges a)
empty_ranges a =
    like (both (fraction_in_range a.size) (both (within number_limit a.box.left) (both (within number_limit a.box.bottom) (both (within number_limit a.box.right) (both (within number_limit a.box.top) (both (blocker_below 10000 a.left) (both (blocker_below 10000 a.bottom) (both (blocker_below 10000 a.right) (blocker_below 10000 a.top)))))))))
    (λ h. record { size = h.0; box_left = h.1.0; box_bottom = h.1.1.0; box_right = h.1.1.1.0; box_top = h.1.1.1.1.0; left = h.1.1.1.1.1.0; bottom = h.1.1.1.1.1.1.0; right = h.1.1.1.1.1.1.1.0; top = h.1.1.1.1.1.1.1.1 })
    (λ h. (h.size, (h.box_left, (h.box_bottom, (h.box_right, (h.box_top, (h.left, (h.bottom, (h.right, h.top)))))))))

abbrev pub names_blockers : (points : List PlanePoint) (a : EmptyAnswer) → Decision (NamesBlockers points a)
names_blockers points a =
    like (both (blocker_below (length points) a.left) (both (blocker_below (length points) a.bottom) (both (blocker_below (length points) a.right) (blocker_below (length points) a.top))))
    (λ h. record { left = h.0; bottom = h.1.0; right = h.1.1.0; top = h.1.1.1 }) (λ h. (h.left, (h.bottom, (h.right, h.top))))

abbrev pub are_blocked : (frame : Box) (points : List PlanePoint) (a : EmptyAnswer) → Decision (AreBlocked frame points a)
are_blocked frame points a =
    like (both (blocks_vertical points frame.left a.box.left a.box.bottom a.box.top a.left) (both (blocks_level points frame.bottom a.box.bottom a.box.left a.box.right a.bottom) (both (blocks_vertical points frame.right a.box.right a.box.bottom a.box.top a.right) (blocks_level points frame.top a.box.top a.box.left a.box.right a.top))))
    (λ h. record { left = h.0; bottom = h.1.0; right = h.1.1.0; top = h.1.1.1 }) (λ h. (h.left, (h.bottom, (h.right, h.top))))

abbrev pub each_y : (frame : Box) (points : List PlanePoint) {P : ℤ → Type 0} → ((y : ℤ) → Decision (P y)) → Decision (EachY frame points P)
each_y frame points {P} each =
    like (both (each frame.bottom) (both (each frame.top) (all {P = λ p. IsStrictlyInside frame p → P p.y} (λ p. implies (strictly_inside frame p) (each p.y)) points)))
    (λ h. record { bottom = h.0; top = h.1.0; inside = h.1.1 }) (λ h. (h.bottom, (h.top, h.inside)))

abbrev pub each_x : (band : Box) (points : List PlanePoint) {P : ℤ → Type 0} → ((x : ℤ) → Decision (P x)) → Decision (EachX band points P)
each_x band points {P} each =
    like (both (each band.left) (both (each band.right) (all {P = λ p. IsStrictlyInside band p → P p.x} (λ p. implies (strictly_inside band p) (each p.x)) points)))
    (λ h. record { left = h.0; right = h.1.0; inside = h.1.1 }) (λ h. (h.left, (h.right, h.inside)))

abbrev pub is_empty : (points : List PlanePoint) (box : Box) → Decision (IsEmpty points box)
is_empty points box = all (λ p. negated (strictly_inside box p)) points

abbrev pub not_larger : (points : List PlanePoint) (size : Fraction) (box : Box) → Decision (IsNotLarger points size box)
not_larger points size box = implies (less_ℤ box.left box.right) (implies (is_empty points box) (most_ℤ (area box *ℤ size.d) size.n))

abbrev pub none_larger_in_band : (points : List PlanePoint) (size : Fraction) (band : Box) → Decision (NoneLargerInBand points size band)
none_larger_in_band points size band = each_x band points (λ left. each_x band points (λ right. not_larger points size (record band { left = left; right = right })))

abbrev pub none_larger : (frame : Box) (points : List PlanePoint) (size : Fraction) → Decision (NoneLarger frame points size)
none_larger frame points size = each_y frame points (λ bottom. each_y frame points (λ top. implies (less_ℤ bottom top) (none_larger_in_band points size (record frame { bottom = bottom; top = top }))))

abbrev pub empty_passes : (frame : Box) (points : List PlanePoint) (a : EmptyAnswer) → Decision (PassesEmpty frame points a)
empty_passes frame points a =
    like
    (both (empty_ranges a)
    (both (names_blockers points a)
    (both (most_ℤ frame.left a.box.left)
    (both (less_ℤ a.box.left a.box.right)
    (both (most_ℤ a.box.right frame.right)
    (both (most_ℤ frame.bottom a.box.bottom)
    (both (less_ℤ a.box.bottom a.box.top)
    (both (most_ℤ a.box.top frame.top)
    (both (is_empty points a.box)
    (both (same_value a.size (empty_size (empty_of a)))
    (both (are_blocked frame points a)
    (none_larger frame points a.size))))))))))))
    (λ h. record { ranges = h.0; numbers = h.1.0; in_left = h.1.1.0; wide = h.1.1.1.0; in_right = h.1.1.1.1.0; in_bottom = h.1.1.1.1.1.0; high = h.1.1.1.1.1.1.0; in_top = h.1.1.1.1.1.1.1.0; empty = h.1.1.1.1.1.1.1.1.0; size = h.1.1.1.1.1.1.1.1.1.0; blocked = h.1.1.1.1.1.1.1.1.1.1.0; none_larger = h.1.1.1.1.1.1.1.1.1.1.1 })
    (λ h. (h.ranges, (h.numbers, (h.in_left, (h.wide, (h.in_right, (h.in_bottom, (h.high, (h.in_top, (h.empty, (h.size, (h.blocked, h.none_larger))))))))))))
