use Rattle.std.proofs.Common.{rules, ◌≡◌, ◌≢◌, refl, sym, subst, ap, ◌∙◌, ℕ, ◌+◌, ◌-◌, ◌*◌, ◌/◌, ◌^◌, ◌≤◌, ◌%◌, pos, ◌-ℤ◌, [], ◌∷◌, ◌++◌, List, length, map, take, arith}
use Rattle.std.specs.Prelude.{if◌then◌else◌, ◌==◌, None, slice_index_or}
use Rattle.std.proofs.lemmas.List.{length-map}
use Rattle.bounds_model.specs.Plane.{PlanePoint}
use Rattle.bounds_model.specs.CentresAnswer as model
use Rattle.bounded_coords.specs.Clouds.{points_of}
use Rattle.answers.specs.Answers.{leaf_of}
use Rattle.corner_squares.specs.declared.square.Square.{Square}
use Rattle.corner_squares.specs.declared.bounds.Bounds.{Bounds}
use Rattle.corner_squares.specs.Squares.{left_over}
use Rattle.corner_squares.specs.Extents.{IsBox, IsFound}
use Rattle.corner_squares.specs.Trees.{AreLeavesAt}
use Rattle.corner_squares.proofs.Boxes.{rest_box}
use Rattle.corner_squares.proofs.RestBoxes.{left_over_corner}
use Rattle.corner_squares.proofs.Trees.{AreBelowFirst}
use Rattle.centres_check.specs.CentresLimits.{NamesPoints}
use Rattle.integers.proofs.Lists.{All-unmap, popped}
use Rattle.centres_check.proofs.BoxesBeside.{square_is, box_of_next}
use Rattle.centres_check.proofs.CornerLeaves.{leaf_alone, part_is, slice_is, slice_count, slice_names, below_more, below_all, below_one, none_found}
use Rattle.centres_check.proofs.leaves.+are_leaves_in.Goals as goal

pub is_leaf-requires : goal.is_leaf-requires
is_leaf-requires t c =
    let one = c.requires.count ∙ ap (λ k. 4 ^ k) c.if-depth-eq0.true in
    All-unmap (NamesPoints (length (points_of c.args.cloud))) leaf_of c.args.leaves.now c.requires.names 0 (record { first = 0; second = 0 }) (omega (arith, one))

pub returns-then-depth-eq0-clause-leaves : goal.returns-then-depth-eq0-clause-leaves
returns-then-depth-eq0-clause-leaves t c =
    let one = c.requires.count ∙ ap (λ k. 4 ^ k) c.if-depth-eq0.true in
    leaf_alone c.args.side c.args.depth (points_of c.args.cloud) c.args.placed.now.items c.as_slice.result.now c.args.leaves.now (record { first = 0; second = 0 }) c.if-depth-eq0.true c.as_slice.ensures.value c.requires.count
    (All-unmap (NamesPoints (length (points_of c.args.cloud))) leaf_of c.args.leaves.now c.requires.names 0 (record { first = 0; second = 0 }) (omega (arith, one))) c.is_leaf.ensures

pub returns-in_default-clause-leaves : goal.returns-in_default-clause-leaves
returns-in_default-clause-leaves t c = (
  λ yes. absurd (cc yes),
  λ leaves. absurd (none_found c.args.side c.args.depth (points_of c.args.cloud) c.args.placed.now.items c.args.placed.now.items c.args.found (map leaf_of c.args.leaves.now) refl c.in_default.is (c.requires.found c.if-depth-eq0.false) leaves),
)

room_for_square : (was depth kept pushed : ℕ) → was + depth ≤ 3 → depth ≢ 0 → kept ≡ was → pushed ≡ kept + 1 → pushed + (depth - 1) ≤ 3
room_for_square was depth kept pushed h some e f = omega (arith, h, some, e, f)

pub are_leaves_in-requires : goal.are_leaves_in-requires
are_leaves_in-requires t c =
    let points = points_of c.args.cloud in
    let some = c.if-depth-eq0.false in
    let corner = c.loop-corner.corner in
    let four = c.loop-corner-test.true in
    let shallow = c.requires.shallow in
    let square = square_is c.corner_square.result c.args.side corner c.in-Some.bounds c.corner_square.ensures.left c.corner_square.ensures.bottom c.corner_square.ensures.side in (
      search rules,
      (
        slice_count c.args.leaves.now c.args.depth c.from.result corner some c.requires.count c.from.ensures four,
        (
          slice_names points c.args.leaves.now c.from.result corner (length c.args.leaves.now / 4) c.from.ensures c.requires.names,
          (
            c.requires.limit,
            (
              room_for_square (length c.args.placed.now.items) c.args.depth (length c.loop-corner.placed.items) (length c.push.new.self.items) c.requires.room some (ap length c.loop-corner.invariant.stays) c.push.ensures.len,
              (
                omega (arith, shallow),
                (λ inner. box_of_next points c.args.placed.now.items c.as_slice-2.result.now c.loop-corner.placed.items c.push.new.self.items c.corner_square.result c.boxes_below-boxes.result c.args.side corner c.args.depth c.in-Some.bounds _ inner
                    c.as_slice-2.ensures.value c.loop-corner.invariant.stays square c.push.ensures.items (ap (λ k. slice_index_or c.boxes_below-boxes.result k None) c.from-in-loop-corner.ensures) four c.boxes_below-boxes.ensures),
              ),
            ),
          ),
        ),
      ),
    )

-- what is left over once the square in this corner is placed
rest_is : (points : List PlanePoint) (placed seen kept pushed : List Square) (b : Bounds) (s : Square) (corner side : ℕ) → seen ≡ placed → kept ≡ placed → IsBox points seen (length points) b
    → s.left ≡ (if corner % 2 == 0 then b.across.low else (b.across.high -ℤ pos side)) → s.bottom ≡ (if corner / 2 == 0 then b.up.low else (b.up.high -ℤ pos side)) → s.side ≡ side → pushed ≡ kept ++ s ∷ []
    → left_over pushed points ≡ model.outside (model.corner_square side corner (left_over placed points)) (left_over placed points)
rest_is points placed seen kept pushed b s corner side same stays box left bottom wide is =
    left_over_corner points placed pushed b s corner side (rest_box points placed (length points) b (itself (length points)) (subst (λ ss. IsBox points ss (length points) b) same box)) left bottom wide (is ∙ ap (λ ss. ss ++ s ∷ []) stays)
  where
    itself : (n : ℕ) → n ≤ n
    itself n = omega arith

pub returns-then-not-are_leaves_in-clause-leaves : goal.returns-then-not-are_leaves_in-clause-leaves
returns-then-not-are_leaves_in-clause-leaves t c = (
  λ yes. absurd (cc yes),
  λ leaves.
      let points = points_of c.args.cloud in
      let part = part_is c.args.depth (length c.args.leaves.now) c.if-depth-eq0.false c.requires.count in
      let box = subst (IsFound points c.args.placed.now.items (length points)) c.in-Some.is (c.requires.found c.if-depth-eq0.false) in
      let rest = rest_is points c.args.placed.now.items c.args.placed.now.items c.loop-corner.placed.items c.push.new.self.items c.in-Some.bounds c.corner_square.result c.loop-corner.corner c.args.side
      refl c.loop-corner.invariant.stays box c.corner_square.ensures.left c.corner_square.ensures.bottom c.corner_square.ensures.side c.push.ensures.items in
      let below = below_one c.args.side c.args.depth c.loop-corner.corner (length c.args.leaves.now / 4) points (left_over c.args.placed.now.items points) (left_over c.push.new.self.items points) (map leaf_of c.args.leaves.now)
      c.if-depth-eq0.false c.requires.shallow c.loop-corner-test.true part rest leaves in
      let yes = c.are_leaves_in.ensures.leaves.1 (subst (AreLeavesAt c.args.side (c.args.depth - 1) points (left_over c.push.new.self.items points)) (sym (slice_is c.args.leaves.now c.from.result c.loop-corner.corner (length c.args.leaves.now / 4) c.from.ensures)) below) in
      let no = c.if-not-are_leaves_in.true in
      absurd (cc (yes, no)),
)

pub loop-corner-preserved : goal.loop-corner-preserved
loop-corner-preserved t c =
    let points = points_of c.args.cloud in
    let part = part_is c.args.depth (length c.args.leaves.now) c.if-depth-eq0.false c.requires.count in
    let box = subst (IsFound points c.args.placed.now.items (length points)) c.in-Some.is (c.requires.found c.if-depth-eq0.false) in
    let rest = rest_is points c.args.placed.now.items c.args.placed.now.items c.loop-corner.placed.items c.push.new.self.items c.in-Some.bounds c.corner_square.result c.loop-corner.corner c.args.side
    refl c.loop-corner.invariant.stays box c.corner_square.ensures.left c.corner_square.ensures.bottom c.corner_square.ensures.side c.push.ensures.items in
    let new = subst (AreLeavesAt c.args.side (c.args.depth - 1) points (left_over c.push.new.self.items points)) (slice_is c.args.leaves.now c.from.result c.loop-corner.corner (length c.args.leaves.now / 4) c.from.ensures)
    (c.are_leaves_in.ensures.leaves.0 c.if-not-are_leaves_in.false) in
    record {
      stays = popped c.loop-corner.placed.items c.push.new.self.items c.are_leaves_in.new.placed.items c.pop.new.self.items c.corner_square.result c.push.ensures.items (c.are_leaves_in.ensures.same c.if-not-are_leaves_in.false) c.pop.ensures.rest
          ∙ c.loop-corner.invariant.stays;
      below = below_more c.args.side (c.args.depth - 1) c.loop-corner.corner (length c.args.leaves.now / 4) points (left_over c.args.placed.now.items points) (left_over c.push.new.self.items points) (map leaf_of c.args.leaves.now)
          (let shallow = c.requires.shallow in omega (arith, shallow)) c.loop-corner-test.true part rest c.loop-corner.invariant.below new;
    }

pub returns-clause-leaves : goal.returns-clause-leaves
returns-clause-leaves t c = (
  λ yes. below_all c.args.side c.args.depth c.loop-corner.corner (points_of c.args.cloud) (left_over c.args.placed.now.items (points_of c.args.cloud)) (map leaf_of c.args.leaves.now) c.if-depth-eq0.false
      (let some = c.loop-corner-test.false in let most = c.loop-corner.auto.corner-end in omega (arith, some, most)) (length-map c.args.leaves.now leaf_of ∙ c.requires.count)
      (subst (λ n. AreBelowFirst c.args.side (c.args.depth - 1) c.loop-corner.corner (points_of c.args.cloud) (left_over c.args.placed.now.items (points_of c.args.cloud)) (take (c.loop-corner.corner * (n / 4)) (map leaf_of c.args.leaves.now)))
      (sym (length-map c.args.leaves.now leaf_of)) c.loop-corner.invariant.below),
  λ leaves. refl,
)
