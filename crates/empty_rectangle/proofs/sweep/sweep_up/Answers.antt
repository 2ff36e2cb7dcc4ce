use Rattle.std.proofs.Common.{◌+◌, ◌≤◌, length, sym, ap, ap₂, ◌∙◌, subst, get_or, le_refl, arith}
use Rattle.std.proofs.lemmas.List.{get_or_default}
use Rattle.std.proofs.lemmas.List.Elements.{Contains-get_or}
use Rattle.empty_rectangle.specs.Rectangles.{Larger, side, rectangle_in}
use Rattle.empty_rectangle.specs.declared.obstacles.Obstacle.{Obstacle}
use Rattle.empty_rectangle.proofs.Sweeping.{Scanned, Scanned-start, Scanned-on, Offered-read, Covers-column, Covers-narrow, IsRestricted-ceiling, Scanned-beside}
use Rattle.empty_rectangle.proofs.sweep.sweep_up.Goals as goal

-- what an index would give past the end
abbrev none : Obstacle
none = record { x = 0; y = 0; number = 0 }

pub returns-then-whole-best-clause-covers : goal.returns-then-whole-best-clause-covers
returns-then-whole-best-clause-covers c =
    let started = Scanned-start c.args.obstacles.now c.args.extent c.args.from c.args.seed c.args.best c.requires.seed in
    let small = subst (λ r. r.area ≤ c.args.best.area) (c.rectangle-whole.ensures ∙ ap₂ (λ right top. rectangle_in (record { left = c.args.seed.left; right = right }) c.args.seed.bottom top) c.side.ensures c.side-ceiling.ensures) c.if-whole-best.true in
    Covers-narrow c.args.obstacles.now c.args.extent c.args.seed c.args.best c.args.from (record { left = c.args.seed.left; right = side c.args.extent.width }) c.args.best c.args.best.area started (le_refl c.args.best.area) small

pub rise-init : goal.rise-init
rise-init c = record {
  below = c.requires.seed.start;
  scanned = subst (λ right. Scanned c.args.obstacles.now c.args.extent c.args.seed c.args.best c.args.from (record { left = c.args.seed.left; right = right }) c.args.best) (sym c.side.ensures)
      (Scanned-start c.args.obstacles.now c.args.extent c.args.from c.args.seed c.args.best c.requires.seed);
}

pub rise-preserved : goal.rise-preserved
rise-preserved c =
    let obstacles = c.args.obstacles.now in
    let k = c.in-Some.k in
    let next = c.in-Some.ensures in
    let scanned = Scanned-on obstacles c.args.extent c.args.seed c.args.best c.rise.passed k c.rise.window c.rise.best c.rise.invariant.scanned next.earlier in
    let offered = Offered-read obstacles c.args.extent c.args.from c.args.seed c.args.best k c.rise.window c.rise.best c.or-best.result c.rectangle-ended.result none c.requires.sorted c.requires.inside c.requires.seed scanned next.below (next.enters none) (c.rectangle-ended.ensures ∙ ap (rectangle_in c.rise.window c.args.seed.bottom) c.level.ensures) c.or-best.ensures in
    let rest = Scanned-beside obstacles c.args.extent c.args.seed c.args.best k c.rise.window c.beside-window.result c.rise.best c.or-best.result (get_or obstacles k none) scanned offered next.below
    (get_or_default obstacles k none (get_or obstacles k none) next.below) (next.enters none) c.if-obstacle-seed.false c.beside-window.ensures in
    record { below = omega (arith, next.below); scanned = rest }

pub returns-then-obstacle-seed-clause-covers : goal.returns-then-obstacle-seed-clause-covers
returns-then-obstacle-seed-clause-covers c =
    let obstacles = c.args.obstacles.now in
    let k = c.in-Some.k in
    let next = c.in-Some.ensures in
    let scanned = Scanned-on obstacles c.args.extent c.args.seed c.args.best c.rise.passed k c.rise.window c.rise.best c.rise.invariant.scanned next.earlier in
    let offered = Offered-read obstacles c.args.extent c.args.from c.args.seed c.args.best k c.rise.window c.rise.best c.or-best.result c.rectangle-ended.result none c.requires.sorted c.requires.inside c.requires.seed scanned next.below (next.enters none) (c.rectangle-ended.ensures ∙ ap (rectangle_in c.rise.window c.args.seed.bottom) c.level.ensures) c.or-best.ensures in
    Covers-column obstacles c.args.extent c.args.seed c.args.best c.rise.window (get_or obstacles k none) c.rise.best c.or-best.result (Contains-get_or obstacles k none next.below) (next.enters none).above offered c.if-obstacle-seed.true

pub returns-then-obstacle-seed-clause-restricted : goal.returns-then-obstacle-seed-clause-restricted
returns-then-obstacle-seed-clause-restricted c =
    let obstacles = c.args.obstacles.now in
    let k = c.in-Some.k in
    let next = c.in-Some.ensures in
    let scanned = Scanned-on obstacles c.args.extent c.args.seed c.args.best c.rise.passed k c.rise.window c.rise.best c.rise.invariant.scanned next.earlier in
    let offered = Offered-read obstacles c.args.extent c.args.from c.args.seed c.args.best k c.rise.window c.rise.best c.or-best.result c.rectangle-ended.result none c.requires.sorted c.requires.inside c.requires.seed scanned next.below (next.enters none) (c.rectangle-ended.ensures ∙ ap (rectangle_in c.rise.window c.args.seed.bottom) c.level.ensures) c.or-best.ensures in
    offered.restricted

pub returns-then-rest-best-clause-covers : goal.returns-then-rest-best-clause-covers
returns-then-rest-best-clause-covers c =
    let obstacles = c.args.obstacles.now in
    let k = c.in-Some.k in
    let next = c.in-Some.ensures in
    let scanned = Scanned-on obstacles c.args.extent c.args.seed c.args.best c.rise.passed k c.rise.window c.rise.best c.rise.invariant.scanned next.earlier in
    let offered = Offered-read obstacles c.args.extent c.args.from c.args.seed c.args.best k c.rise.window c.rise.best c.or-best.result c.rectangle-ended.result none c.requires.sorted c.requires.inside c.requires.seed scanned next.below (next.enters none) (c.rectangle-ended.ensures ∙ ap (rectangle_in c.rise.window c.args.seed.bottom) c.level.ensures) c.or-best.ensures in
    let rest = Scanned-beside obstacles c.args.extent c.args.seed c.args.best k c.rise.window c.beside-window.result c.rise.best c.or-best.result (get_or obstacles k none) scanned offered next.below
    (get_or_default obstacles k none (get_or obstacles k none) next.below) (next.enters none) c.if-obstacle-seed.false c.beside-window.ensures in
    let small = subst (λ r. r.area ≤ c.or-best.result.area) (c.rectangle-rest.ensures ∙ ap (rectangle_in c.beside-window.result c.args.seed.bottom) c.side-ceiling.ensures) c.if-rest-best.true in
    Covers-narrow obstacles c.args.extent c.args.seed c.args.best (k + 1) c.beside-window.result c.or-best.result c.or-best.result.area rest (le_refl c.or-best.result.area) small

pub returns-then-rest-best-clause-restricted : goal.returns-then-rest-best-clause-restricted
returns-then-rest-best-clause-restricted c =
    let obstacles = c.args.obstacles.now in
    let k = c.in-Some.k in
    let next = c.in-Some.ensures in
    let scanned = Scanned-on obstacles c.args.extent c.args.seed c.args.best c.rise.passed k c.rise.window c.rise.best c.rise.invariant.scanned next.earlier in
    let offered = Offered-read obstacles c.args.extent c.args.from c.args.seed c.args.best k c.rise.window c.rise.best c.or-best.result c.rectangle-ended.result none c.requires.sorted c.requires.inside c.requires.seed scanned next.below (next.enters none) (c.rectangle-ended.ensures ∙ ap (rectangle_in c.rise.window c.args.seed.bottom) c.level.ensures) c.or-best.ensures in
    offered.restricted

pub rectangle-requires-clause-width : goal.rectangle-requires-clause-width
rectangle-requires-clause-width c = omega (arith, c.rise.invariant.scanned.from_left, c.rise.invariant.scanned.to_right)

pub returns-clause-covers : goal.returns-clause-covers
returns-clause-covers c =
    let larger = subst (λ r. Larger c.rise.best r c.args.seed.least c.or.result) (c.rectangle.ensures ∙ ap (rectangle_in c.rise.window c.args.seed.bottom) c.side-ceiling.ensures) c.or.ensures in
    Covers-narrow c.args.obstacles.now c.args.extent c.args.seed c.args.best c.rise.passed c.rise.window c.rise.best c.or.result.area c.rise.invariant.scanned larger.kept (larger.taken c.requires.seed.below_top)

pub returns-clause-restricted : goal.returns-clause-restricted
returns-clause-restricted c =
    let obstacles = c.args.obstacles.now in
    let larger = subst (λ r. Larger c.rise.best r c.args.seed.least c.or.result) (c.rectangle.ensures ∙ ap (rectangle_in c.rise.window c.args.seed.bottom) c.side-ceiling.ensures) c.or.ensures in
    let scanned = Scanned-on obstacles c.args.extent c.args.seed c.args.best c.rise.passed (length obstacles) c.rise.window c.rise.best c.rise.invariant.scanned c.in_default.ensures in
    IsRestricted-ceiling obstacles c.args.extent c.args.from c.args.seed c.args.best (length obstacles) c.rise.window c.rise.best c.or.result c.requires.seed scanned (le_refl (length obstacles)) larger
