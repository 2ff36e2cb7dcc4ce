-- The sets of a text have the shape that is called for.
use Rattle.std.proofs.Common.{ℕ, List, [], ◌∷◌, Option, Some, None, Result, Ok, Err, IfOk}
use Rattle.std.proofs.lemmas.Result.{IfOk-at_ok}
use Rattle.bounds_model.specs.Plane.{PlanePoint}
use Rattle.bounds_model.specs.Space.{SpacePoint}
use Rattle.bounds_model.specs.Asks.{Shape, one_plane, plane_or_bare, one_space, two_space, Sets, plane, space, two, bare, HasShape, PointFile}
use Rattle.bounds_model.specs.PointText.{Meaning, Refusal, sets_of, scale_of, first_refusal, at_scale, unless_refused, judged, plane_meaning, space_meaning, meanings, plane_set, plane_set_or_bare, space_set, space_sets, file_of_text}
use Rattle.point_text.specs.declared.text.Form.{Form}
use Rattle.point_text.specs.declared.text.Form.TheVariants.{Text, Csv}
use Rattle.point_text.specs.declared.text.TextFault.{TextFault}
use Rattle.point_text.specs.declared.reader.Reader.{Reader}
use Rattle.point_text.specs.Reading.{StandsFor}
use Rattle.point_text.specs.Files.{file_of_fields, records_of, file_of_bytes}
use Rattle.point_text.specs.Judged.{plane_meanings, space_meanings}
use Rattle.point_text.specs.Refusals.{Answers}

module _ (Q : Sets → Type 0) where
  plane_set_gives : ((points : List PlanePoint) → Q (plane points)) → (sets : List (List PlanePoint)) → IfOk (plane_set sets) Q
  plane_set_gives each [] = tt
  plane_set_gives each ([] ∷ []) = tt
  plane_set_gives each ((p ∷ points) ∷ []) = each (p ∷ points)
  plane_set_gives each ([] ∷ second ∷ sets) = tt
  plane_set_gives each ((p ∷ points) ∷ second ∷ sets) = tt

  plane_set_or_bare_gives : Q bare → ((points : List PlanePoint) → Q (plane points)) → (sets : List (List PlanePoint)) → IfOk (plane_set_or_bare sets) Q
  plane_set_or_bare_gives none each [] = tt
  plane_set_or_bare_gives none each ([] ∷ []) = none
  plane_set_or_bare_gives none each ((p ∷ points) ∷ []) = each (p ∷ points)
  plane_set_or_bare_gives none each ([] ∷ second ∷ sets) = tt
  plane_set_or_bare_gives none each ((p ∷ points) ∷ second ∷ sets) = tt

  space_set_gives : ((points : List SpacePoint) → Q (space points)) → (sets : List (List SpacePoint)) → IfOk (space_set sets) Q
  space_set_gives each [] = tt
  space_set_gives each ([] ∷ []) = tt
  space_set_gives each ((p ∷ points) ∷ []) = each (p ∷ points)
  space_set_gives each ([] ∷ second ∷ sets) = tt
  space_set_gives each ((p ∷ points) ∷ second ∷ sets) = tt

  space_sets_gives : ((ps qs : List SpacePoint) → Q (two ps qs)) → (sets : List (List SpacePoint)) → IfOk (space_sets sets) Q
  space_sets_gives each [] = tt
  space_sets_gives each ([] ∷ []) = tt
  space_sets_gives each ((p ∷ ps) ∷ []) = tt
  space_sets_gives each ([] ∷ qs ∷ []) = tt
  space_sets_gives each ((p ∷ ps) ∷ [] ∷ []) = tt
  space_sets_gives each ((p ∷ ps) ∷ (q ∷ qs) ∷ []) = each (p ∷ ps) (q ∷ qs)
  space_sets_gives each ([] ∷ second ∷ third ∷ sets) = tt
  space_sets_gives each ((p ∷ ps) ∷ [] ∷ third ∷ sets) = tt
  space_sets_gives each ((p ∷ ps) ∷ (q ∷ qs) ∷ third ∷ sets) = tt

  at_scale_gives : (scale : ℕ) (answer : Result Sets Refusal) → IfOk answer Q → IfOk (at_scale scale answer) (λ file. Q file.sets)
  at_scale_gives scale (Ok sets) gives = gives
  at_scale_gives scale (Err refusal) gives = tt

  unless_gives : (first : Option Refusal) (answer : Result PointFile Refusal) → IfOk answer (λ file. Q file.sets) → IfOk (unless_refused first answer) (λ file. Q file.sets)
  unless_gives None answer gives = gives
  unless_gives (Some r) answer gives = tt

  judged_gives : {P : Type 0} (judge : List (List P) → Result Sets Refusal) (lines : List (Meaning P)) → IfOk (judge (sets_of lines)) Q → IfOk (judged judge lines) (λ file. Q file.sets)
  judged_gives judge lines gives = unless_gives (first_refusal [] lines) (at_scale (scale_of lines) (judge (sets_of lines))) (at_scale_gives (scale_of lines) (judge (sets_of lines)) gives)

  -- what was judged has what its answers have
  pub answer_gives : (outcome : Result PointFile TextFault) (judgement : Result PointFile Refusal) → Answers outcome judgement → IfOk judgement (λ file. Q file.sets) → IfOk outcome (λ file. Q file.sets)
  answer_gives (Ok file) judgement is gives = IfOk-at_ok (λ file. Q file.sets) is gives
  answer_gives (Err fault) judgement is gives = tt

-- ---- what is judged has its shape

one_plane_set : (lines : List (Meaning PlanePoint)) → IfOk (judged plane_set lines) (λ file. HasShape one_plane file.sets)
one_plane_set lines = judged_gives (HasShape one_plane) plane_set lines (plane_set_gives (HasShape one_plane) (λ points. tt) (sets_of lines))

plane_set_or_none : (lines : List (Meaning PlanePoint)) → IfOk (judged plane_set_or_bare lines) (λ file. HasShape plane_or_bare file.sets)
plane_set_or_none lines = judged_gives (HasShape plane_or_bare) plane_set_or_bare lines (plane_set_or_bare_gives (HasShape plane_or_bare) tt (λ points. tt) (sets_of lines))

one_space_set : (lines : List (Meaning SpacePoint)) → IfOk (judged space_set lines) (λ file. HasShape one_space file.sets)
one_space_set lines = judged_gives (HasShape one_space) space_set lines (space_set_gives (HasShape one_space) (λ points. tt) (sets_of lines))

two_space_sets : (lines : List (Meaning SpacePoint)) → IfOk (judged space_sets lines) (λ file. HasShape two_space file.sets)
two_space_sets lines = judged_gives (HasShape two_space) space_sets lines (space_sets_gives (HasShape two_space) (λ ps qs. tt) (sets_of lines))

-- the sets of a text have the shape
pub file_of_text-shaped : (shape : Shape) (bytes : List ℕ) → IfOk (file_of_text shape bytes) (λ file. HasShape shape file.sets)
unfolding file_of_text
file_of_text-shaped one_plane bytes = one_plane_set (meanings plane_meaning bytes)
file_of_text-shaped plane_or_bare bytes = plane_set_or_none (meanings plane_meaning bytes)
file_of_text-shaped one_space bytes = one_space_set (meanings space_meaning bytes)
file_of_text-shaped two_space bytes = two_space_sets (meanings space_meaning bytes)

-- so do those of lines with these fields
file_of_fields-shaped : (shape : Shape) (lines : List (List (List ℕ))) → IfOk (file_of_fields shape lines) (λ file. HasShape shape file.sets)
unfolding file_of_fields
file_of_fields-shaped one_plane lines = one_plane_set (plane_meanings lines)
file_of_fields-shaped plane_or_bare lines = plane_set_or_none (plane_meanings lines)
file_of_fields-shaped one_space lines = one_space_set (space_meanings lines)
file_of_fields-shaped two_space lines = two_space_sets (space_meanings lines)

-- and those of a file
pub file_of_bytes-shaped : (form : Form) (shape : Shape) (bytes : List ℕ) → IfOk (file_of_bytes form shape bytes) (λ file. HasShape shape file.sets)
file_of_bytes-shaped Text shape bytes = file_of_text-shaped shape bytes
file_of_bytes-shaped Csv shape bytes = file_of_fields-shaped shape (records_of bytes)

-- the sets that a reader gives have every shape for which it stands for bytes
pub all_shaped : (reader : Reader) (outcome : Result PointFile TextFault) → ((shape : Shape) (bytes : List ℕ) → StandsFor reader shape bytes → IfOk outcome (λ file. HasShape shape file.sets))
    → IfOk outcome (λ file. (shape : Shape) (bytes : List ℕ) → StandsFor reader shape bytes → HasShape shape file.sets)
all_shaped reader (Ok file) each = each
all_shaped reader (Err fault) each = tt
