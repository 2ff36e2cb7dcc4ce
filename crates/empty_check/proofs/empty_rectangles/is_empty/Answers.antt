use Rattle.empty_check.proofs.empty_rectangles.is_empty.Goals as goal

pub returns-in-Some : goal.returns-in-Some
returns-in-Some c = rw c.in-Some.is c.is_none_inside.ensures
