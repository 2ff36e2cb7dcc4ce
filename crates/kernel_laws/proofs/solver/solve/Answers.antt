use Rattle.std.proofs.Common.{sym, subst, ◌≤◌, pos, [], ◌∷◌, get_or, arith, le_trans}
use Rattle.std.specs.Prelude.{All, ◌↔◌}
use Rattle.bounds_model.specs.Slacks.{AreAffinelyDependent}
use Rattle.kernel_laws.specs.declared.vectors.Vector.{Vector}
use Rattle.kernel_laws.specs.Vectors.{vector_of}
use Rattle.kernel_laws.specs.Limits.{IsDifference}
use Rattle.kernel_laws.specs.Solutions.{IsWeighting, AreItems, weight_limit}
use Rattle.kernel_laws.specs.Answers.{Answers, IsNull}
use Rattle.kernel_laws.proofs.Independence.{independent_of_one}
use Rattle.kernel_laws.proofs.WeightLimits.{limit_at_least}
use Rattle.kernel_laws.proofs.ItemLists.{one_item, two_items, three_items, four_items, five_items, any_within, at_0, at_1, at_2, at_3, one_weight, answer_shown, null_shown, five_count, five_within}
use Rattle.kernel_laws.proofs.solver.solve.Goals as goal

-- what stands at indices that are not there
abbrev zero : Vector
zero = record { x = pos 0; y = pos 0; z = pos 0 }

pub returns-then-count-eq1-clause-answer : goal.returns-then-count-eq1-clause-answer
returns-then-count-eq1-clause-answer g c =
    let limit : 1 ≤ weight_limit g.T.Potential.SQUARE c.args.dim = le_trans (omega arith) (limit_at_least g.T.Potential.SQUARE c.args.dim g.T.Potential.zero_or_one c.requires.dim) in
    subst (λ vs. IsWeighting g.T.Potential.SQUARE (weight_limit g.T.Potential.SQUARE c.args.dim) vs c.of_one.result.items) (sym (one_item c.args.items.now zero c.if-count-eq1.true)) (subst (IsWeighting g.T.Potential.SQUARE (weight_limit g.T.Potential.SQUARE c.args.dim) ((vector_of (get_or c.args.items.now 0 zero)) ∷ [])) (sym c.of_one.ensures) (one_weight g.T.Potential.SQUARE (weight_limit g.T.Potential.SQUARE c.args.dim) (vector_of (get_or c.args.items.now 0 zero)) limit))

pub returns-then-count-eq1-clause-null : goal.returns-then-count-eq1-clause-null
returns-then-count-eq1-clause-null g c = (λ none. absurd none, λ dependent. independent_of_one (vector_of (get_or c.args.items.now 0 zero)) (subst AreAffinelyDependent (one_item c.args.items.now zero c.if-count-eq1.true) dependent))

pub solve_two-requires-clause-a : goal.solve_two-requires-clause-a
solve_two-requires-clause-a g c = any_within c.args.dim (vector_of (get_or c.args.items.now 0 zero)) c.requires.dim (at_0 (IsDifference c.args.dim) (vector_of (get_or c.args.items.now 0 zero)) ((vector_of (get_or c.args.items.now 1 zero)) ∷ []) (subst (All (IsDifference c.args.dim)) (two_items c.args.items.now zero c.if-count-eq2.true) c.requires.items.each))

pub solve_two-requires-clause-b : goal.solve_two-requires-clause-b
solve_two-requires-clause-b g c = any_within c.args.dim (vector_of (get_or c.args.items.now 1 zero)) c.requires.dim (at_1 (IsDifference c.args.dim) (vector_of (get_or c.args.items.now 0 zero)) (vector_of (get_or c.args.items.now 1 zero)) ([]) (subst (All (IsDifference c.args.dim)) (two_items c.args.items.now zero c.if-count-eq2.true) c.requires.items.each))

pub returns-then-count-eq2-clause-answer : goal.returns-then-count-eq2-clause-answer
returns-then-count-eq2-clause-answer g c = subst (λ vs. Answers g.T.Potential.SQUARE (weight_limit g.T.Potential.SQUARE c.args.dim) vs c.solve_two.result) (sym (two_items c.args.items.now zero c.if-count-eq2.true)) c.solve_two.ensures.answer

pub returns-then-count-eq2-clause-null : goal.returns-then-count-eq2-clause-null
returns-then-count-eq2-clause-null g c = subst (λ vs. IsNull c.solve_two.result ↔ AreAffinelyDependent vs) (sym (two_items c.args.items.now zero c.if-count-eq2.true)) c.solve_two.ensures.null

pub solve_three-requires-clause-items : goal.solve_three-requires-clause-items
solve_three-requires-clause-items g c = subst (AreItems g.T.Potential.SQUARE c.args.dim) (three_items c.args.items.now zero c.if-count-eq3.true) c.requires.items

pub solve_three-requires-clause-a : goal.solve_three-requires-clause-a
solve_three-requires-clause-a g c = any_within c.args.dim (vector_of (get_or c.args.items.now 0 zero)) c.requires.dim (at_0 (IsDifference c.args.dim) (vector_of (get_or c.args.items.now 0 zero)) ((vector_of (get_or c.args.items.now 1 zero)) ∷ (vector_of (get_or c.args.items.now 2 zero)) ∷ []) (subst (All (IsDifference c.args.dim)) (three_items c.args.items.now zero c.if-count-eq3.true) c.requires.items.each))

pub solve_three-requires-clause-b : goal.solve_three-requires-clause-b
solve_three-requires-clause-b g c = any_within c.args.dim (vector_of (get_or c.args.items.now 1 zero)) c.requires.dim (at_1 (IsDifference c.args.dim) (vector_of (get_or c.args.items.now 0 zero)) (vector_of (get_or c.args.items.now 1 zero)) ((vector_of (get_or c.args.items.now 2 zero)) ∷ []) (subst (All (IsDifference c.args.dim)) (three_items c.args.items.now zero c.if-count-eq3.true) c.requires.items.each))

pub solve_three-requires-clause-c : goal.solve_three-requires-clause-c
solve_three-requires-clause-c g c = any_within c.args.dim (vector_of (get_or c.args.items.now 2 zero)) c.requires.dim (at_2 (IsDifference c.args.dim) (vector_of (get_or c.args.items.now 0 zero)) (vector_of (get_or c.args.items.now 1 zero)) (vector_of (get_or c.args.items.now 2 zero)) ([]) (subst (All (IsDifference c.args.dim)) (three_items c.args.items.now zero c.if-count-eq3.true) c.requires.items.each))

pub returns-then-count-eq3-clause-answer : goal.returns-then-count-eq3-clause-answer
returns-then-count-eq3-clause-answer g c = subst (λ vs. Answers g.T.Potential.SQUARE (weight_limit g.T.Potential.SQUARE c.args.dim) vs c.solve_three.result) (sym (three_items c.args.items.now zero c.if-count-eq3.true)) c.solve_three.ensures.answer

pub returns-then-count-eq3-clause-null : goal.returns-then-count-eq3-clause-null
returns-then-count-eq3-clause-null g c = subst (λ vs. IsNull c.solve_three.result ↔ AreAffinelyDependent vs) (sym (three_items c.args.items.now zero c.if-count-eq3.true)) c.solve_three.ensures.null

pub solve_four-requires-clause-items : goal.solve_four-requires-clause-items
solve_four-requires-clause-items g c = subst (AreItems g.T.Potential.SQUARE c.args.dim) (four_items c.args.items.now zero c.if-count-eq4.true) c.requires.items

pub solve_four-requires-clause-a : goal.solve_four-requires-clause-a
solve_four-requires-clause-a g c = any_within c.args.dim (vector_of (get_or c.args.items.now 0 zero)) c.requires.dim (at_0 (IsDifference c.args.dim) (vector_of (get_or c.args.items.now 0 zero)) ((vector_of (get_or c.args.items.now 1 zero)) ∷ (vector_of (get_or c.args.items.now 2 zero)) ∷ (vector_of (get_or c.args.items.now 3 zero)) ∷ []) (subst (All (IsDifference c.args.dim)) (four_items c.args.items.now zero c.if-count-eq4.true) c.requires.items.each))

pub solve_four-requires-clause-b : goal.solve_four-requires-clause-b
solve_four-requires-clause-b g c = any_within c.args.dim (vector_of (get_or c.args.items.now 1 zero)) c.requires.dim (at_1 (IsDifference c.args.dim) (vector_of (get_or c.args.items.now 0 zero)) (vector_of (get_or c.args.items.now 1 zero)) ((vector_of (get_or c.args.items.now 2 zero)) ∷ (vector_of (get_or c.args.items.now 3 zero)) ∷ []) (subst (All (IsDifference c.args.dim)) (four_items c.args.items.now zero c.if-count-eq4.true) c.requires.items.each))

pub solve_four-requires-clause-c : goal.solve_four-requires-clause-c
solve_four-requires-clause-c g c = any_within c.args.dim (vector_of (get_or c.args.items.now 2 zero)) c.requires.dim (at_2 (IsDifference c.args.dim) (vector_of (get_or c.args.items.now 0 zero)) (vector_of (get_or c.args.items.now 1 zero)) (vector_of (get_or c.args.items.now 2 zero)) ((vector_of (get_or c.args.items.now 3 zero)) ∷ []) (subst (All (IsDifference c.args.dim)) (four_items c.args.items.now zero c.if-count-eq4.true) c.requires.items.each))

pub solve_four-requires-clause-d : goal.solve_four-requires-clause-d
solve_four-requires-clause-d g c = any_within c.args.dim (vector_of (get_or c.args.items.now 3 zero)) c.requires.dim (at_3 (IsDifference c.args.dim) (vector_of (get_or c.args.items.now 0 zero)) (vector_of (get_or c.args.items.now 1 zero)) (vector_of (get_or c.args.items.now 2 zero)) (vector_of (get_or c.args.items.now 3 zero)) ([]) (subst (All (IsDifference c.args.dim)) (four_items c.args.items.now zero c.if-count-eq4.true) c.requires.items.each))

pub returns-then-count-eq4-clause-answer : goal.returns-then-count-eq4-clause-answer
returns-then-count-eq4-clause-answer g c = subst (λ vs. Answers g.T.Potential.SQUARE (weight_limit g.T.Potential.SQUARE c.args.dim) vs c.solve_four.result) (sym (four_items c.args.items.now zero c.if-count-eq4.true)) c.solve_four.ensures.answer

pub returns-then-count-eq4-clause-null : goal.returns-then-count-eq4-clause-null
returns-then-count-eq4-clause-null g c = subst (λ vs. IsNull c.solve_four.result ↔ AreAffinelyDependent vs) (sym (four_items c.args.items.now zero c.if-count-eq4.true)) c.solve_four.ensures.null

pub solve_five-requires-clause-a : goal.solve_five-requires-clause-a
solve_five-requires-clause-a g c = (five_within g.T.Potential.SQUARE c.args.dim c.args.items.now zero c.requires.dim c.requires.items (five_count g.T.Potential.SQUARE c.args.dim c.args.items.now c.requires.dim c.requires.items c.if-count-eq1.false c.if-count-eq2.false c.if-count-eq3.false c.if-count-eq4.false)).first

pub solve_five-requires-clause-b : goal.solve_five-requires-clause-b
solve_five-requires-clause-b g c = (five_within g.T.Potential.SQUARE c.args.dim c.args.items.now zero c.requires.dim c.requires.items (five_count g.T.Potential.SQUARE c.args.dim c.args.items.now c.requires.dim c.requires.items c.if-count-eq1.false c.if-count-eq2.false c.if-count-eq3.false c.if-count-eq4.false)).second

pub solve_five-requires-clause-c : goal.solve_five-requires-clause-c
solve_five-requires-clause-c g c = (five_within g.T.Potential.SQUARE c.args.dim c.args.items.now zero c.requires.dim c.requires.items (five_count g.T.Potential.SQUARE c.args.dim c.args.items.now c.requires.dim c.requires.items c.if-count-eq1.false c.if-count-eq2.false c.if-count-eq3.false c.if-count-eq4.false)).third

pub solve_five-requires-clause-d : goal.solve_five-requires-clause-d
solve_five-requires-clause-d g c = (five_within g.T.Potential.SQUARE c.args.dim c.args.items.now zero c.requires.dim c.requires.items (five_count g.T.Potential.SQUARE c.args.dim c.args.items.now c.requires.dim c.requires.items c.if-count-eq1.false c.if-count-eq2.false c.if-count-eq3.false c.if-count-eq4.false)).fourth

pub solve_five-requires-clause-e : goal.solve_five-requires-clause-e
solve_five-requires-clause-e g c = (five_within g.T.Potential.SQUARE c.args.dim c.args.items.now zero c.requires.dim c.requires.items (five_count g.T.Potential.SQUARE c.args.dim c.args.items.now c.requires.dim c.requires.items c.if-count-eq1.false c.if-count-eq2.false c.if-count-eq3.false c.if-count-eq4.false)).fifth

pub returns-clause-answer : goal.returns-clause-answer
returns-clause-answer g c = subst (λ vs. Answers g.T.Potential.SQUARE (weight_limit g.T.Potential.SQUARE c.args.dim) vs c.solve_five.result) (sym (five_items c.args.items.now zero (five_count g.T.Potential.SQUARE c.args.dim c.args.items.now c.requires.dim c.requires.items c.if-count-eq1.false c.if-count-eq2.false c.if-count-eq3.false c.if-count-eq4.false))) (answer_shown g.T.Potential.SQUARE (weight_limit g.T.Potential.SQUARE c.args.dim) ((vector_of (get_or c.args.items.now 0 zero)) ∷ (vector_of (get_or c.args.items.now 1 zero)) ∷ (vector_of (get_or c.args.items.now 2 zero)) ∷ (vector_of (get_or c.args.items.now 3 zero)) ∷ (vector_of (get_or c.args.items.now 4 zero)) ∷ []) c.solve_five.result c.solve_five.ensures)

pub returns-clause-null : goal.returns-clause-null
returns-clause-null g c = subst (λ vs. IsNull c.solve_five.result ↔ AreAffinelyDependent vs) (sym (five_items c.args.items.now zero (five_count g.T.Potential.SQUARE c.args.dim c.args.items.now c.requires.dim c.requires.items c.if-count-eq1.false c.if-count-eq2.false c.if-count-eq3.false c.if-count-eq4.false))) (null_shown ((vector_of (get_or c.args.items.now 0 zero)) ∷ (vector_of (get_or c.args.items.now 1 zero)) ∷ (vector_of (get_or c.args.items.now 2 zero)) ∷ (vector_of (get_or c.args.items.now 3 zero)) ∷ (vector_of (get_or c.args.items.now 4 zero)) ∷ []) c.solve_five.result c.solve_five.ensures)
