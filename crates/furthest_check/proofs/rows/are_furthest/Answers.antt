use Rattle.std.proofs.Common.{rules, sym, ◌∙◌, ℕ, ◌≤◌, ◌≢◌, length, map, arith}
use Rattle.std.proofs.lemmas.List.{length-map}
use Rattle.bounds_model.specs.Plane.{point_at}
use Rattle.bounded_coords.specs.Clouds.{points_of}
use Rattle.answers.specs.Answers.{entry_of}
use Rattle.furthest_check.proofs.Entries.{model_fars}
use Rattle.furthest_check.proofs.PassingRows.{pass_exactly, one_exactly}
use Rattle.furthest_check.proofs.rows.are_furthest.Goals as goal

-- two or more
more : (n : ℕ) → 1 ≤ n → n ≢ 1 → 2 ≤ n
more n some h = omega (arith, some, h)

pub returns-then-numbers-eq1 : goal.returns-then-numbers-eq1
returns-then-numbers-eq1 c = (
  λ yes. one_exactly (map (point_at (points_of c.args.cloud)) c.args.numbers.now) (map entry_of c.args.entries.now) (length c.args.numbers.now)
      (sym (length-map c.args.numbers.now (point_at (points_of c.args.cloud)))) (sym c.requires.same ∙ sym (length-map c.args.entries.now entry_of)) c.if-numbers-eq1.true
      (model_fars c.args.entries.now c.requires.fars),
  λ f. search rules,
)

pub returns : goal.returns
returns c =
    let exactly = pass_exactly (points_of c.args.cloud) (map (point_at (points_of c.args.cloud)) c.args.numbers.now) (map entry_of c.args.entries.now)
    (length c.args.numbers.now) c.requires.corners (sym (length-map c.args.numbers.now (point_at (points_of c.args.cloud)))) (sym c.requires.same ∙ sym (length-map c.args.entries.now entry_of))
    (more (length c.args.numbers.now) c.requires.some c.if-numbers-eq1.false) (model_fars c.args.entries.now c.requires.fars) in
    (λ yes. exactly.0 (c.all_pass.ensures.0 yes), λ f. c.all_pass.ensures.1 (exactly.1 f))
