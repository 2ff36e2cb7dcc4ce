use Rattle.std.proofs.Common.{subst, ap, refl, ◌≡◌, ◌+◌, ◌-◌, length, [], arith}
use Rattle.bounded_coords.specs.Clouds.{counted_points}
use Rattle.corner_squares.specs.Covers.{IsCover}
use Rattle.p_centres.specs.Covers.{IsFirstRefuted}
use Rattle.p_centres.proofs.Halving.{bracket_lowered, bracket_raised, room_for_tree, tree_steps}
use Rattle.p_centres.proofs.sides.try_side.Goals as goal

pub cover-requires-clause-leaf_room : goal.cover-requires-clause-leaf_room
cover-requires-clause-leaf_room g c =
    let none : length c.new-leaves.result.items ≡ 0 = ap length c.new-leaves.ensures in
    let room = room_for_tree c.args.p c.requires.some c.requires.few in
    omega (arith, none, room)

pub returns-then-cover-clause-steps : goal.returns-then-cover-clause-steps
returns-then-cover-clause-steps g c = tree_steps c.args.p (length (counted_points c.args.cloud)) c.args.steps.now c.cover.new.steps c.requires.some c.requires.few c.if-cover.ensures.steps

pub returns-clause-steps : goal.returns-clause-steps
returns-clause-steps g c = tree_steps c.args.p (length (counted_points c.args.cloud)) c.args.steps.now c.cover.new.steps c.requires.some c.requires.few c.if-cover.ensures.steps

pub returns-then-cover-clause-bracket : goal.returns-then-cover-clause-bracket
returns-then-cover-clause-bracket g c =
    bracket_lowered (counted_points c.args.cloud) c.args.p c.args.side c.args.bracket.now _ c.requires.some c.requires.bracket c.requires.low c.requires.high refl refl refl
    (subst (λ squares. IsCover (counted_points c.args.cloud) c.args.side (length squares + (c.args.p - 1) + 1) c.cover.new.placed.items) c.new-squares.ensures (c.if-cover.ensures.covered refl))

pub returns-clause-bracket : goal.returns-clause-bracket
returns-clause-bracket g c =
    bracket_raised (counted_points c.args.cloud) c.args.p c.args.side c.cover.new.placed.items c.args.bracket.now _ c.requires.bracket c.requires.low c.requires.high refl refl refl
    (subst (λ placed. IsFirstRefuted (counted_points c.args.cloud) c.args.side (c.args.p - 1) placed c.cover.new.placed.items [] c.cover.new.leaves.items) c.new-squares.ensures
    (subst (λ leaves. IsFirstRefuted (counted_points c.args.cloud) c.args.side (c.args.p - 1) c.new-squares.result.items c.cover.new.placed.items leaves c.cover.new.leaves.items) c.new-leaves.ensures (c.if-cover.ensures.refuted refl)))
