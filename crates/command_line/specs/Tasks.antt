-- The tasks of the code, in the words of the definitions.
use Rattle.std.specs.Prelude.{◌^◌, ◌<◌, ◌≤◌, ⊤, ℕ, List}
use Rattle.bounded_coords.specs.declared.ask.Ask.{Ask}
use Rattle.bounded_coords.specs.Asked.{asked}
use Rattle.bounds_model.specs.Asks.{IsValid}
use Rattle.command_line.specs.Words as model
use Rattle.command_line.specs.declared.task.Name.{Name}
use Rattle.command_line.specs.declared.task.Task.{Task}
use Rattle.command_line.specs.declared.task.Task.TheVariants.{Solve, Check, Demo}

-- the name of a file
abbrev pub text_of : Name → List ℕ
text_of name = name.text.now

-- the task
abbrev pub meant_task : Task → model.Task
meant_task (Solve ask form brief file) = model.solve_task (asked ask) form brief (text_of file)
meant_task (Check ask form points answer) = model.check_task (asked ask) form (text_of points) (text_of answer)
meant_task (Demo ask seed count) = model.demo_task (asked ask) seed count

-- what is asked
abbrev pub ask_of : Task → Ask
ask_of (Solve ask form brief file) = ask
ask_of (Check ask form points answer) = ask
ask_of (Demo ask seed count) = ask

-- a demonstration has a seed below 2^31 and makes 1 to 10000 points in each set
abbrev pub HasDemoCounts : Task → Type 0
HasDemoCounts (Demo ask seed count) = (seed < 2 ^ 31) × (1 ≤ count) × (count ≤ 10000)
HasDemoCounts task = ⊤

-- what a task asks is valid, and so many points can be made
pub record CanBeDone (task : Task) : Type 0 where
  pub valid : IsValid (asked (ask_of task))
  pub counts : HasDemoCounts task
