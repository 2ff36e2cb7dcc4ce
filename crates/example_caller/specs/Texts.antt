-- What the text of a best answer says.
use Rattle.std.specs.Prelude.{ℕ, List}
use Rattle.bounds_model.specs.Asks.{Ask, Sets}
use Rattle.bounds_model.specs.Answers.{Answer, IsBest}
use Rattle.bounds_model.specs.AnswerText.Spelling.{Spells}

-- it spells an object that fits the points, with its exact size, and no object of the kind is better
pub record SpellsBest (ask : Ask) (sets : Sets) (text : List ℕ) : Type 0 where
  pub answer : Answer
  pub spelled : Spells text answer
  pub best : IsBest ask sets answer
