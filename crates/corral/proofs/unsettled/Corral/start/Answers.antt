use Rattle.std.proofs.Common.{◌≡◌, sym, ◌∙◌, ap, subst, pos, ◌++◌, ◌∷◌, [], arith, rules, SFits, to_z, of_z, to_z-of_z}
use Rattle.std.proofs.lemmas.List.Elements.{All-nil, All-cons}
use mir.Syntax.{w128}
use Rattle.kernel_laws.specs.Vectors.{vector_of}
use Rattle.corral.specs.declared.items.Id.{Id}
use Rattle.corral.specs.declared.support.WeightedItem.{WeightedItem}
use Rattle.corral.specs.Items.{IsItem}
use Rattle.corral.specs.WeightedItems.{AreSupportItems, weighted_items}
use Rattle.corral.specs.Balances.{IsBalance}
use Rattle.corral.proofs.Balancing.{one_within, sums_of_one, balance_of_one}
use Rattle.corral.proofs.unsettled.Corral.start.Goals as goal

pub slack-level-requires-clause-within : goal.slack-level-requires-clause-within
slack-level-requires-clause-within g c =
    one_within g.K.Kernel.DIM g.T.Potential.SQUARE (vector_of c.vector-vector.result) c.with-moments.result g.T.Potential.zero_or_one g.met.K.Kernel.two_or_three c.vector-vector.ensures.difference
    (sums_of_one (vector_of c.vector-vector.result) c.none.result c.with-moments.result c.none.ensures.mass c.none.ensures.sum c.with-moments.ensures.mass c.with-moments.ensures.sum)

-- the one support
abbrev one : Id → WeightedItem
one id = record { id = id; weight = 1 }

pub invariant_of-result : goal.invariant_of-result
invariant_of-result g c =
    let fits : SFits w128 c.slack-level.result = search rules in
    let whole : c.push.new.self.items ≡ one c.args.id ∷ [] = c.push.ensures.items ∙ ap (λ members. members ++ one c.args.id ∷ []) c.new-members.ensures in
    let sums = sums_of_one (vector_of c.vector-vector.result) c.none.result c.with-moments.result c.none.ensures.mass c.none.ensures.sum c.with-moments.ensures.mass c.with-moments.ensures.sum in
    let level = to_z-of_z fits ∙ c.slack-level.ensures in
    record {
      suited = c.requires.suited;
      members = subst (λ members. AreSupportItems {K = g.row.K.Denot} g.K.Kernel.DIM c.args.items members) (sym whole) (record {
        count = record { at_least = omega arith; at_most = omega arith };
        listed = All-cons (λ (s : WeightedItem). IsItem c.args.items s.id) (one c.args.id) [] c.requires.item (All-nil (λ (s : WeightedItem). IsItem c.args.items s.id));
      });
      balanced = subst (λ members. IsBalance g.K.Kernel.DIM g.T.Potential.SQUARE (weighted_items g.K.Kernel.place c.args.items members) (record { members = c.push.new.self; moments = c.with-moments.result; level = to_z w128 (of_z w128 c.slack-level.result) })) (sym whole)
          (subst (λ u. IsBalance g.K.Kernel.DIM g.T.Potential.SQUARE (record { weight = pos 1; vector = u } ∷ []) (record { members = c.push.new.self; moments = c.with-moments.result; level = to_z w128 (of_z w128 c.slack-level.result) })) c.vector-vector.ensures.value
          (balance_of_one g.K.Kernel.DIM g.T.Potential.SQUARE (vector_of c.vector-vector.result) _ g.T.Potential.zero_or_one g.met.K.Kernel.two_or_three c.vector-vector.ensures.difference sums level));
    }
