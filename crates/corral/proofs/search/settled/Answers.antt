use Rattle.std.proofs.Common.{refl, sym, ◌∙◌, ap, subst, pos, ◌≤◌, ◌≤ℤ◌, inl, length, take, arith, rules, SFits, to_z-of_z}
use Rattle.std.specs.Prelude.{All}
use Rattle.std.proofs.lemmas.List.{length-map}
use Rattle.std.proofs.lemmas.List.Elements.{All-get_or}
use mir.Syntax.{w128}
use Rattle.bounds_model.specs.Slacks.{AreAffinelyDependent}
use Rattle.kernel_laws.specs.Vectors.{vector_of}
use Rattle.kernel_laws.specs.declared.vectors.Vector.{Vector}
use Rattle.kernel_laws.specs.Limits.{IsVectorWithin, IsDifference, difference_limit}
use Rattle.kernel_laws.specs.Solutions.{AreItems, IsWeighting, weight_limit}
use Rattle.corral.specs.Moments.{slack_at}
use Rattle.corral.specs.Balances.{vectors}
use Rattle.corral.proofs.Outcomes.{one_outcome}
use Rattle.corral.proofs.Parts.{part_all}
use Rattle.corral.proofs.Solutions.{same_vectors, few_candidates, items_of_part, vectors_part, within_difference_limit, within_plane_limit, refuted_by_weight, IsSolution, solution_within, solution_few, solution_level, refuted_by_low, found, solution, first_of_part, not_empty}
use Rattle.corral.proofs.search.settled.Goals as goal

-- the zero vector
abbrev zero : Vector
zero = record { x = pos 0; y = pos 0; z = pos 0 }

pub vectors-padded-requires : goal.vectors-padded-requires
vectors-padded-requires g c = few_candidates g.K.Kernel.DIM g.met.K.Kernel.two_or_three c.requires.part c.requires.all.few

pub solve-requires : goal.solve-requires
solve-requires g c =
    let some : 1 ≤ length (vectors c.args.part.now) = let same = length-map c.args.part.now (λ c. vector_of c.vector) in let some = (not_empty (length c.args.part.now) c.is_empty.result c.is_empty.ensures c.if-is_empty.false) in omega arith in
    subst (AreItems g.T.Potential.SQUARE g.K.Kernel.DIM) (sym (same_vectors c.args.part.now c.vectors-padded.result c.vectors-padded.ensures))
    (items_of_part g.T.Potential.SQUARE g.K.Kernel.DIM (vectors_part c.requires.part) some c.requires.all)

pub returns-in_default-clause-none : goal.returns-in_default-clause-none
returns-in_default-clause-none g c e some =
    inl (subst AreAffinelyDependent (same_vectors c.args.part.now c.vectors-padded.result c.vectors-padded.ensures) (c.in_default.field-0.items, c.in_default.ensures.answer))

pub returns-then-not-are_positive-clause-none : goal.returns-then-not-are_positive-clause-none
returns-then-not-are_positive-clause-none g c e some =
    refuted_by_weight g.T.Potential.SQUARE (weight_limit g.T.Potential.SQUARE g.K.Kernel.DIM) (vectors c.args.all.now) (vectors c.args.part.now) c.in-Weights.solution.items
    (subst (λ vs. IsWeighting g.T.Potential.SQUARE (weight_limit g.T.Potential.SQUARE g.K.Kernel.DIM) vs c.in-Weights.solution.items) (same_vectors c.args.part.now c.vectors-padded.result c.vectors-padded.ensures) c.in-Weights.ensures.answer)
    (λ all. one_outcome c.if-not-are_positive.true (c.are_positive.ensures.1 (subst (All (λ w. pos 1 ≤ℤ w)) (sym c.as_slice-weights.ensures.value) all)))

pub moments-moments-requires-clause-near : goal.moments-moments-requires-clause-near
moments-moments-requires-clause-near g c =
    subst (All (IsVectorWithin 400000)) (sym (same_vectors c.args.part.now c.vectors-padded.result c.vectors-padded.ensures))
    (within_plane_limit g.K.Kernel.DIM g.met.K.Kernel.two_or_three (vectors c.args.part.now) (part_all (IsDifference g.K.Kernel.DIM) (vectors_part c.requires.part) c.requires.all.each))

pub slack-level-requires-clause-within : goal.slack-level-requires-clause-within
slack-level-requires-clause-within g c = solution_within g.T.Potential.SQUARE g.K.Kernel.DIM c.args.all.now c.args.part.now c.as_slice-weights.result.now c.moments-moments.result (solution g.T.Potential.SQUARE g.K.Kernel.DIM c.args.all.now c.args.part.now (take (length c.args.part.now) c.vectors-padded.result) c.as_slice-weights.result.now c.in-Weights.solution.items c.moments-moments.result c.requires.part (not_empty (length c.args.part.now) c.is_empty.result c.is_empty.ensures c.if-is_empty.false) c.requires.all (same_vectors c.args.part.now c.vectors-padded.result c.vectors-padded.ensures) c.in-Weights.ensures.answer c.as_slice-weights.ensures.value c.in-Weights.ensures.null.1 (c.are_positive.ensures.0 c.if-not-are_positive.false) c.moments-moments.ensures)

pub slack-level-requires-clause-vector : goal.slack-level-requires-clause-vector
slack-level-requires-clause-vector g c =
    subst (IsVectorWithin (difference_limit g.K.Kernel.DIM)) (sym (first_of_part c.args.part.now (take (length c.args.part.now) c.vectors-padded.result) zero (same_vectors c.args.part.now c.vectors-padded.result c.vectors-padded.ensures)))
    (All-get_or (IsVectorWithin (difference_limit g.K.Kernel.DIM)) (vectors c.args.part.now) 0 (vector_of zero) (let same = length-map c.args.part.now (λ c. vector_of c.vector) in let some = (not_empty (length c.args.part.now) c.is_empty.result c.is_empty.ensures c.if-is_empty.false) in omega arith)
    (within_difference_limit g.K.Kernel.DIM (vectors c.args.part.now) (part_all (IsDifference g.K.Kernel.DIM) (vectors_part c.requires.part) c.requires.all.each)))

pub are_above-requires-clause-within : goal.are_above-requires-clause-within
are_above-requires-clause-within g c = solution_within g.T.Potential.SQUARE g.K.Kernel.DIM c.args.all.now c.args.part.now c.as_slice-weights.result.now c.moments-moments.result (solution g.T.Potential.SQUARE g.K.Kernel.DIM c.args.all.now c.args.part.now (take (length c.args.part.now) c.vectors-padded.result) c.as_slice-weights.result.now c.in-Weights.solution.items c.moments-moments.result c.requires.part (not_empty (length c.args.part.now) c.is_empty.result c.is_empty.ensures c.if-is_empty.false) c.requires.all (same_vectors c.args.part.now c.vectors-padded.result c.vectors-padded.ensures) c.in-Weights.ensures.answer c.as_slice-weights.ensures.value c.in-Weights.ensures.null.1 (c.are_positive.ensures.0 c.if-not-are_positive.false) c.moments-moments.ensures)

pub are_above-requires-clause-vectors : goal.are_above-requires-clause-vectors
are_above-requires-clause-vectors g c = within_difference_limit g.K.Kernel.DIM (vectors c.args.all.now) c.requires.all.each

pub returns-then-not-are_above-clause-none : goal.returns-then-not-are_above-clause-none
returns-then-not-are_above-clause-none g c e some =
    let fits : SFits w128 c.slack-level.result = search rules in
    let solved : IsSolution g.T.Potential.SQUARE g.K.Kernel.DIM c.args.all.now c.args.part.now c.as_slice-weights.result.now c.moments-moments.result = (solution g.T.Potential.SQUARE g.K.Kernel.DIM c.args.all.now c.args.part.now (take (length c.args.part.now) c.vectors-padded.result) c.as_slice-weights.result.now c.in-Weights.solution.items c.moments-moments.result c.requires.part (not_empty (length c.args.part.now) c.is_empty.result c.is_empty.ensures c.if-is_empty.false) c.requires.all (same_vectors c.args.part.now c.vectors-padded.result c.vectors-padded.ensures) c.in-Weights.ensures.answer c.as_slice-weights.ensures.value c.in-Weights.ensures.null.1 (c.are_positive.ensures.0 c.if-not-are_positive.false) c.moments-moments.ensures) in
    let level = to_z-of_z fits ∙ c.slack-level.ensures ∙ ap (slack_at g.T.Potential.SQUARE c.moments-moments.result) (first_of_part c.args.part.now (take (length c.args.part.now) c.vectors-padded.result) zero (same_vectors c.args.part.now c.vectors-padded.result c.vectors-padded.ensures)) in
    let each = solution_level g.T.Potential.SQUARE g.K.Kernel.DIM c.args.all.now c.args.part.now c.as_slice-weights.result.now c.moments-moments.result solved _ (vector_of zero) level in
    refuted_by_low g.T.Potential.SQUARE g.K.Kernel.DIM c.args.all.now c.args.part.now c.as_slice-weights.result.now c.moments-moments.result solved _ each (λ all. one_outcome c.if-not-are_above.true (c.are_above.ensures.1 all))

pub weighted-requires-clause-few : goal.weighted-requires-clause-few
weighted-requires-clause-few g c = solution_few g.T.Potential.SQUARE g.K.Kernel.DIM c.args.all.now c.args.part.now c.as_slice-weights.result.now c.moments-moments.result (solution g.T.Potential.SQUARE g.K.Kernel.DIM c.args.all.now c.args.part.now (take (length c.args.part.now) c.vectors-padded.result) c.as_slice-weights.result.now c.in-Weights.solution.items c.moments-moments.result c.requires.part (not_empty (length c.args.part.now) c.is_empty.result c.is_empty.ensures c.if-is_empty.false) c.requires.all (same_vectors c.args.part.now c.vectors-padded.result c.vectors-padded.ensures) c.in-Weights.ensures.answer c.as_slice-weights.ensures.value c.in-Weights.ensures.null.1 (c.are_positive.ensures.0 c.if-not-are_positive.false) c.moments-moments.ensures) g.met.K.Kernel.two_or_three

pub returns-clause-found : goal.returns-clause-found
returns-clause-found g c =
    let fits : SFits w128 c.slack-level.result = search rules in
    let solved : IsSolution g.T.Potential.SQUARE g.K.Kernel.DIM c.args.all.now c.args.part.now c.as_slice-weights.result.now c.moments-moments.result = (solution g.T.Potential.SQUARE g.K.Kernel.DIM c.args.all.now c.args.part.now (take (length c.args.part.now) c.vectors-padded.result) c.as_slice-weights.result.now c.in-Weights.solution.items c.moments-moments.result c.requires.part (not_empty (length c.args.part.now) c.is_empty.result c.is_empty.ensures c.if-is_empty.false) c.requires.all (same_vectors c.args.part.now c.vectors-padded.result c.vectors-padded.ensures) c.in-Weights.ensures.answer c.as_slice-weights.ensures.value c.in-Weights.ensures.null.1 (c.are_positive.ensures.0 c.if-not-are_positive.false) c.moments-moments.ensures) in
    let level = to_z-of_z fits ∙ c.slack-level.ensures ∙ ap (slack_at g.T.Potential.SQUARE c.moments-moments.result) (first_of_part c.args.part.now (take (length c.args.part.now) c.vectors-padded.result) zero (same_vectors c.args.part.now c.vectors-padded.result c.vectors-padded.ensures)) in
    let each = solution_level g.T.Potential.SQUARE g.K.Kernel.DIM c.args.all.now c.args.part.now c.as_slice-weights.result.now c.moments-moments.result solved _ (vector_of zero) level in
    found g.T.Potential.SQUARE g.K.Kernel.DIM c.args.all.now c.args.part.now c.as_slice-weights.result.now c.moments-moments.result solved _ _ each (c.are_above.ensures.0 c.if-not-are_above.false) c.weighted.ensures.names c.weighted.ensures.weights refl refl
