use Rattle.std.proofs.Common.{rules, ◌≡◌, ◌↔◌, ◌∙◌, subst, ap, [], ◌∷◌, ◌++◌, map, IsTrue, SFits, w32}
use Rattle.std.proofs.lemmas.Int.{to_z-of_z}
use Rattle.bounded_coords.specs.Clouds.{points_of}
use Rattle.answers.specs.Answers.{leaf_of}
use Rattle.corner_squares.specs.Squares.{left_over}
use Rattle.corner_squares.specs.Trees.{AreLeavesAt}
use Rattle.centres_check.specs.Heights.{sixteen_from}
use Rattle.centres_check.proofs.Walk.{sixteen_are, sixteen_names}
use Rattle.centres_check.proofs.four.are_leaves_at.Goals as goal

pub are_leaves_below-requires-clause-names : goal.are_leaves_below-requires-clause-names
are_leaves_below-requires-clause-names c = sixteen_names (points_of c.args.cloud) c.args.leaves.now c.args.k c.requires.names

pub returns : goal.returns
returns c =
    let fits : SFits w32 c.args.height = c.ranges.height in
    let fits_x : SFits w32 c.args.least.x = search rules in
    let square = simp to_z-of_z at c.square.ensures in
    let pushed : c.push.new.self.items ≡ record { left = c.args.least.x; bottom = c.args.height; side = c.args.side } ∷ [] =
    c.push.ensures.items ∙ ap (λ ss. ss ++ c.square.result ∷ []) c.new-placed.ensures ∙ ap (λ s. s ∷ []) square in
    let rest = ap (λ squares. left_over squares (points_of c.args.cloud)) pushed in
    subst (λ rest. IsTrue c.are_leaves_below.result ↔ AreLeavesAt c.args.side 2 (points_of c.args.cloud) rest (sixteen_from c.args.k (map leaf_of c.args.leaves.now))) rest
    (subst (λ leaves. IsTrue c.are_leaves_below.result ↔ AreLeavesAt c.args.side 2 (points_of c.args.cloud) (left_over c.push.new.self.items (points_of c.args.cloud)) leaves) (sixteen_are c.args.k c.args.leaves.now) c.are_leaves_below.ensures)
