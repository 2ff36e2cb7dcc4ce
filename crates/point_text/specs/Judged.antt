-- What was judged of the lines so far.
use Rattle.std.specs.Prelude.{◌≡◌, ℕ, Bool, true, false, List, [], length, map, MatchOption}
use Rattle.std.specs.declared.option.Option.{Option}
use Rattle.std.specs.declared.option.Option.TheVariants.{Some, None}
use Rattle.std.specs.declared.result.Result.{Result}
use Rattle.bounds_model.specs.Plane.{PlanePoint}
use Rattle.bounds_model.specs.Space.{SpacePoint}
use Rattle.bounds_model.specs.Asks.{Sets, Shape, one_plane, plane_or_bare, one_space, two_space}
use Rattle.bounds_model.specs.PointText.{Meaning, Refusal, fields_meaning, plane_meaning, space_meaning, plane_set, plane_set_or_bare, space_set, space_sets, sets_of, scale_of, begins, first_refusal}
use Rattle.std.specs.List.{list_any}
use Rattle.point_text.specs.declared.judge.Judge.{Judge}
use Rattle.point_text.specs.declared.judgement.Judgement.{Judgement}
use Rattle.point_text.specs.declared.kept.KeptSets.{KeptSets}
use Rattle.point_text.specs.declared.judgement.Judgement.TheVariants.{Plane, Space}
use Rattle.point_text.specs.declared.text.TextFault.{TextFault}
use Rattle.point_text.specs.declared.text.TextFault.TheVariants.{OutOfMemory}
use Rattle.point_text.specs.Refusals.{refusal_of}
use Rattle.point_text.specs.Kept.{Keeps}
use Rattle.point_text.specs.Keeping.{keeps_point}

-- none of these lines is refused, there are so many, and their sets and their scale are kept, and whether a scale may still follow
pub record Accepts {P : Type 0} (kept : KeptSets P) (count units : ℕ) (late : Bool) (lines : List (Meaning P)) : Type 0 where
  pub accepted : first_refusal [] lines ≡ None
  pub as_many : length lines ≡ count
  pub keeps : Keeps kept (sets_of lines)
  pub scale : scale_of lines ≡ units
  pub begun : list_any begins lines ≡ late

-- the fault is that of the first refused line, or memory was refused, which is so at a point that would be kept
abbrev pub IsFaultOf : {P : Type 0} → TextFault → List (Meaning P) → Type 0
IsFaultOf fault lines = MatchOption (refusal_of fault) (keeps_point lines ≡ true) (λ refusal. first_refusal [] lines ≡ Some refusal)

-- the lines are accepted, or there is a fault of theirs
abbrev pub HasJudged : {P : Type 0} → Judge P → List (Meaning P) → Type 0
HasJudged judge lines = MatchOption judge.fault (Accepts judge.sets judge.lines judge.scale judge.begun lines) (λ fault. IsFaultOf fault lines)

abbrev pub plane_meanings : List (List (List ℕ)) → List (Meaning PlanePoint)
plane_meanings lines = map (fields_meaning plane_meaning) lines

abbrev pub space_meanings : List (List (List ℕ)) → List (Meaning SpacePoint)
space_meanings lines = map (fields_meaning space_meaning) lines

-- the shape of one set of the plane, which may have no points, or not
abbrev pub plane_shape : Bool → Shape
plane_shape true = plane_or_bare
plane_shape false = one_plane

-- the one set of these, which may have no points, or not
abbrev pub plane_outcome : Bool → List (List PlanePoint) → Result Sets Refusal
plane_outcome true sets = plane_set_or_bare sets
plane_outcome false sets = plane_set sets

-- the two sets of these, or the one
abbrev pub space_outcome : Bool → List (List SpacePoint) → Result Sets Refusal
space_outcome true sets = space_sets sets
space_outcome false sets = space_set sets

-- the shape of two sets of space, or of one
abbrev pub space_shape : Bool → Shape
space_shape true = two_space
space_shape false = one_space

-- lines of these fields were judged for sets of this shape
abbrev pub IsJudgement : Judgement → Shape → List (List (List ℕ)) → Type 0
IsJudgement (Plane judge may_be_bare) shape lines = (shape ≡ plane_shape may_be_bare) × HasJudged judge (plane_meanings lines)
IsJudgement (Space judge are_two) shape lines = (shape ≡ space_shape are_two) × HasJudged judge (space_meanings lines)

-- how many lines were judged, up to the first refused one
abbrev pub lines_judged : Judgement → ℕ
lines_judged (Plane judge may_be_bare) = judge.lines
lines_judged (Space judge are_two) = judge.lines

-- the fault of the lines so far
abbrev pub fault_of : Judgement → Option TextFault
fault_of (Plane judge may_be_bare) = judge.fault
fault_of (Space judge are_two) = judge.fault

-- memory was refused
abbrev pub WantsMemory : Judgement → Type 0
WantsMemory (Plane judge may_be_bare) = judge.fault ≡ Some OutOfMemory
WantsMemory (Space judge are_two) = judge.fault ≡ Some OutOfMemory
