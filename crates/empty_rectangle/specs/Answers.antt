-- The answer with a restricted rectangle, in the words of the model.
use Rattle.std.specs.Prelude.{pos, ◌+ℤ◌}
use Rattle.bounds_model.specs.EmptyRectangle.{Box}
use Rattle.bounds_model.specs.EmptyAnswer.{EmptyAnswer}
use Rattle.answers.specs.Answers.{blocker_of}
use Rattle.empty_rectangle.specs.declared.rectangles.Rectangle.{Rectangle}

-- the rectangle, measured as the frame is
abbrev pub box_of : Box → Rectangle → Box
box_of frame h = record { left = frame.left +ℤ pos h.left.at; bottom = frame.bottom +ℤ pos h.bottom.at; right = frame.left +ℤ pos h.right.at; top = frame.bottom +ℤ pos h.top.at }

-- the answer with it
abbrev pub answer_of : Box → Rectangle → EmptyAnswer
answer_of frame h = record {
  size = record { n = pos h.area; d = pos 1 };
  box = box_of frame h;
  left = blocker_of h.left.by;
  bottom = blocker_of h.bottom.by;
  right = blocker_of h.right.by;
  top = blocker_of h.top.by;
}
