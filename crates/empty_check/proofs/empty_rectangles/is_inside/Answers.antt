use Rattle.empty_check.proofs.empty_rectangles.is_inside.Goals as goal

pub returns-then-is_across : goal.returns-then-is_across
returns-then-is_across c =
    let across = c.is_across.ensures.0 c.if-is_across.true in (
      λ yes. let along = c.is_along.ensures.0 yes in record { after_left = across.0; before_right = across.1; above_bottom = along.0; below_top = along.1 },
      λ inside. c.is_along.ensures.1 (inside.above_bottom, inside.below_top),
    )
