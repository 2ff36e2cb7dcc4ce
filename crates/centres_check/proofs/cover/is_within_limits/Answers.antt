use Rattle.std.proofs.Common.{◌≡◌, ◌∙◌, ◌↔◌, sym, subst, ℕ, List, length, map, All, IsTrue, Bool}
use Rattle.std.proofs.lemmas.Bool.{eqb-true}
use Rattle.std.proofs.lemmas.List.Elements.{All-map}
use Rattle.bounds_model.specs.Plane.{PlanePoint}
use Rattle.bounded_coords.specs.Clouds.{points_of}
use Rattle.answers.specs.Answers.{leaf_of}
use Rattle.answers.specs.declared.centres.Leaf.{Leaf}
use Rattle.centres_check.specs.CentresLimits.{NamesPoints}
use Rattle.integers.proofs.Lists.{All-unmap, clash}
use Rattle.centres_check.proofs.cover.is_within_limits.Goals as goal
use Rattle.centres_check.proofs.cover.is_within_limits.Goals.{then-squares-from, else-squares-from, then-is_small_radius, else-is_small_radius}

numbered : {yes : Bool} {count : ℕ} (points : List PlanePoint) (leaves : List Leaf) → count ≡ length points → (IsTrue yes ↔ All (λ leaf. NamesPoints count (leaf_of leaf)) leaves)
    → IsTrue yes ↔ All (NamesPoints (length points)) (map leaf_of leaves)
numbered {yes} {count} points leaves is h =
    subst (λ n. IsTrue yes ↔ All (NamesPoints n) (map leaf_of leaves)) is
    (λ t. All-map (NamesPoints count) leaf_of leaves (h.0 t), λ all. h.1 (All-unmap (NamesPoints count) leaf_of leaves all))

pub returns-then-are_small_centres : goal.returns-then-are_small_centres
returns-then-are_small_centres c =
    let names = numbered (points_of c.args.cloud) c.args.leaves.now c.len.ensures.count c.are_numbers.ensures in
    elim c.if-is_small_radius.branch [
      | then-is_small_radius w ↦ elim c.if-squares-from.branch [
        | then-squares-from v ↦ (
          λ yes. record {
            as_many = v.if-squares-from.true ∙ c.from.ensures;
            radius = v.is_small_radius.ensures.0 (cc);
            centres = w.are_small_centres.ensures.0 (cc);
            numbers = names.0 yes;
          },
          λ limits. names.1 limits.numbers,
        )
        | else-squares-from v ↦ absurd (v.if-squares-from.false (eqb-true _ _ (sym v.value-is ∙ w.if-is_small_radius.true)))
      ]
      | else-is_small_radius w ↦ absurd (clash c.if-are_small_centres.true (w.value-is ∙ w.if-is_small_radius.false))
    ]
