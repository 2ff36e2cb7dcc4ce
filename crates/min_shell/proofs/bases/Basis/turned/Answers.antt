use Rattle.std.proofs.Common.{◌≡◌, ◌∙◌, ap, subst, inr, length, ℤ, pos, ◌<ℤ◌, arith}
use Rattle.std.proofs.lemmas.Int.{ints}
use mir.Syntax.{w128}
use mir.Val.{of_z}
use Rattle.bounds_model.specs.Space.{point_at}
use Rattle.bounded_coords.specs.Clouds.{points_of}
use Rattle.min_shell.specs.Vectors.{cross}
use Rattle.min_shell.specs.LinearForms.{level, normal_form}
use Rattle.pair_weights.specs.Extremes.{AreExtremes}
use Rattle.min_shell.proofs.MachineNumbers.{same_bits, wide_of}
use Rattle.min_shell.proofs.Starting.{basis_turned, first_aside, none_along, some_along, pair_flat, settled_first, settled_second}
use Rattle.min_shell.proofs.bases.Basis.turned.Goals as goal

pub cross-normal-requires-clause-from : goal.cross-normal-requires-clause-from
cross-normal-requires-clause-from c = wide_of c.requires.second

pub cross-normal-requires-clause-to : goal.cross-normal-requires-clause-to
cross-normal-requires-clause-to c = wide_of c.requires.third

pub returns-then-extremes-clause-basis : goal.returns-then-extremes-clause-basis
returns-then-extremes-clause-basis c = basis_turned c.args.self c.requires

pub returns-then-extremes-clause-third : goal.returns-then-extremes-clause-third
returns-then-extremes-clause-third c =
    let points = points_of c.args.cloud in
    let form_is = c.of_normal.ensures.value ∙ ap normal_form c.cross-normal.ensures.value in
    inr (first_aside points c.args.self c.requires
    (none_along points (cross c.args.self.second.vector c.args.self.third.vector) c.extremes_of-extremes.result
    (subst (λ f. AreExtremes (λ i. level f (point_at points i)) (length points) c.extremes_of-extremes.result) form_is c.extremes_of-extremes.ensures.extremes)
    (same_bits c.extremes_of-extremes.ensures.extremes.high_size c.extremes_of-extremes.ensures.extremes.low_size c.if-extremes.true)))

pub returns-clause-basis : goal.returns-clause-basis
returns-clause-basis c =
    let points = points_of c.args.cloud in
    let form_is = c.of_normal.ensures.value ∙ ap normal_form c.cross-normal.ensures.value in
    record {
      first = c.requires.second;
      second = c.requires.third;
      third = c.of.ensures.pair.within;
      positive = some_along points (cross c.args.self.second.vector c.args.self.third.vector) c.extremes_of-extremes.result c.of.result
          (subst (λ f. AreExtremes (λ i. level f (point_at points i)) (length points) c.extremes_of-extremes.result) form_is c.extremes_of-extremes.ensures.extremes)
          c.of.ensures.pair c.of.ensures.first c.of.ensures.second (λ same. c.if-extremes.false (ap (of_z w128) same));
    }

pub returns-clause-first : goal.returns-clause-first
returns-clause-first c settled = settled_second (points_of c.args.cloud) c.args.self.second c.args.self.third c.args.self.first c.of.result c.of.ensures.pair settled

pub returns-clause-second : goal.returns-clause-second
returns-clause-second c settled = settled_first (points_of c.args.cloud) c.args.self.third c.args.self.first c.args.self.second c.of.result c.of.ensures.pair settled

pub returns-clause-remains : goal.returns-clause-remains
returns-clause-remains c flat =
    let points = points_of c.args.cloud in
    let form_is = c.of_normal.ensures.value ∙ ap normal_form c.cross-normal.ensures.value in
    let normal = cross c.args.self.second.vector c.args.self.third.vector in
    absurd (clash (pair_flat points normal c.of.result flat c.of.ensures.pair)
    (some_along points normal c.extremes_of-extremes.result c.of.result (subst (λ f. AreExtremes (λ i. level f (point_at points i)) (length points) c.extremes_of-extremes.result) form_is c.extremes_of-extremes.ensures.extremes)
    c.of.ensures.pair c.of.ensures.first c.of.ensures.second (λ same. c.if-extremes.false (ap (of_z w128) same))))
  where
    clash : {z : ℤ} → z ≡ pos 0 → pos 0 <ℤ z → ⊥
    clash e h = omega (arith, ints)
