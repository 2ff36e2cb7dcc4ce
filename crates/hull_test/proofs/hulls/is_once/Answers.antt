use Rattle.std.proofs.Common.{rules, ◌≡◌, sym, subst, ◌∙◌, ℕ, ◌<◌, ◌≤◌, inl, inr, map, arith}
use Rattle.std.proofs.lemmas.List.{length-map}
use Rattle.integers.proofs.Lists.{below_or_at}
use Rattle.bounds_model.specs.Plane.{point_at}
use Rattle.bounded_coords.specs.Clouds.{points_of}
use Rattle.hull_test.proofs.HullReads.{once_from, once_at}
use Rattle.hull_test.proofs.hulls.is_once.Goals as goal

pub loop-i-init : goal.loop-i-init
loop-i-init c = λ k some low. absurd (none some low)
  where
    none : {k : ℕ} → 1 ≤ k → k < 1 → ⊥
    none h k = omega arith

pub loop-i-preserved : goal.loop-i-preserved
loop-i-preserved c = λ k some low. elim (below_or_at k c.loop-i.i low) [
  | inl less ↦ c.loop-i.invariant k some less
  | inr same ↦ λ e. let yes = c.is_same.ensures.1 (c.corner.ensures ∙ sym (subst (λ n. point_at (map (point_at (points_of c.args.cloud)) c.args.numbers.now) 0 ≡ point_at
      (map (point_at (points_of c.args.cloud)) c.args.numbers.now) n) same (sym e)) ∙ sym c.corner-first.ensures) in absurd (cc yes)
]

pub returns-then-is_same : goal.returns-then-is_same
returns-then-is_same c = (
  λ yes. absurd (cc yes),
  λ once. absurd (once_at (map (point_at (points_of c.args.cloud)) c.args.numbers.now) once c.loop-i.i (omega (arith, c.loop-i.auto))
      (omega (arith, c.loop-i-test.true, length-map c.args.numbers.now (point_at (points_of c.args.cloud)))) (sym c.corner.ensures ∙ c.is_same.ensures.0 c.if-is_same.true ∙ c.corner-first.ensures)),
)

pub returns : goal.returns
returns c = (
  λ yes. once_from (map (point_at (points_of c.args.cloud)) c.args.numbers.now) (omega
      (arith, c.requires.as_many.at_least, length-map c.args.numbers.now (point_at (points_of c.args.cloud))))
      (λ k some low. c.loop-i.invariant k some (omega (arith, low, c.loop-i-test.false, length-map c.args.numbers.now (point_at (points_of c.args.cloud))))),
  λ once. search rules,
)
