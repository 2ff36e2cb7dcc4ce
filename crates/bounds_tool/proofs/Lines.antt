-- The lines of causes, in parts.
use Rattle.std.proofs.Common.{◌≡◌, refl, ◌++◌, codes}
use Rattle.bounds_model.specs.ErrorLines.{InputFile, points_file, answer_file, file_name, open_fault, read_fault, too_long, error_line}
use Rattle.command_line.specs.Faults.{meant_fault}
use Rattle.command_line.specs.Messages.{usage_message}
use Rattle.command_line.specs.declared.fault.UsageFault as usage
use Rattle.point_text.specs.Refusals.{refusal_of}
use Rattle.point_text.specs.Messages.{text_message}
use Rattle.point_text.specs.declared.text.TextFault as text
use Rattle.answer_lines.specs.Messages.{read_message}
use Rattle.answer_lines.specs.declared.fault.ReadFault as answer
use Rattle.solving.specs.Messages.{solve_message}
use Rattle.solving.specs.declared.fault.SolveFault as solving
use Rattle.bounds_tool.specs.Causes.{without_sets, unread, unsolved}

-- ---- of files

pub open_line : (file : InputFile) → error_line (open_fault file) ≡ codes "bounds: " ++ (file_name file ++ codes ": cannot be opened\n")
unfolding error_line
open_line points_file = refl
open_line answer_file = refl

pub read_line : (file : InputFile) → error_line (read_fault file) ≡ codes "bounds: " ++ (file_name file ++ codes ": cannot be read\n")
unfolding error_line
read_line points_file = refl
read_line answer_file = refl

pub long_line : (file : InputFile) → error_line (too_long file) ≡ codes "bounds: " ++ (file_name file ++ codes ": file is too long\n")
unfolding error_line
long_line points_file = refl
long_line answer_file = refl

-- ---- of faults, but for want of memory

pub usage_line : (fault : usage.UsageFault) → (fault ≡ usage.TheVariants.OutOfMemory → ⊥) → error_line (meant_fault fault) ≡ codes "bounds: usage: " ++ (usage_message fault ++ codes "\n")
unfolding error_line
usage_line usage.TheVariants.Words other = refl
usage_line usage.TheVariants.UnknownCommand other = refl
usage_line usage.TheVariants.FileCount other = refl
usage_line (usage.TheVariants.MissingOption option) other = refl
usage_line (usage.TheVariants.UnneededOption option) other = refl
usage_line (usage.TheVariants.BadValue option) other = refl
usage_line usage.TheVariants.OutOfMemory other = absurd (other refl)

pub points_line : (fault : text.TextFault) → (fault ≡ text.TheVariants.OutOfMemory → ⊥) → error_line (without_sets (refusal_of fault)) ≡ codes "bounds: points: " ++ (text_message fault ++ codes "\n")
unfolding error_line
points_line (text.TheVariants.BadLine line) other = refl
points_line (text.TheVariants.OutOfRange line) other = refl
points_line (text.TheVariants.TooMany line) other = refl
points_line (text.TheVariants.NoPoints set) other = refl
points_line (text.TheVariants.WrongSets count) other = refl
points_line text.TheVariants.OutOfMemory other = absurd (other refl)

pub answer_line : (fault : answer.ReadFault) → (fault ≡ answer.TheVariants.OutOfMemory → ⊥) → error_line (unread fault) ≡ codes "bounds: answer: " ++ (read_message fault ++ codes "\n")
unfolding error_line
answer_line (answer.TheVariants.BadAnswer line) other = refl
answer_line (answer.TheVariants.BigNumber line) other = refl
answer_line answer.TheVariants.OutOfMemory other = absurd (other refl)

pub solving_line : (fault : solving.SolveFault) → (fault ≡ solving.TheVariants.OutOfMemory → ⊥) → error_line (unsolved fault) ≡ codes "bounds: points: " ++ (solve_message fault ++ codes "\n")
unfolding error_line
solving_line (solving.TheVariants.TooManyCorners count) other = refl
solving_line (solving.TheVariants.TooManyPoints count) other = refl
solving_line solving.TheVariants.OutOfMemory other = absurd (other refl)
