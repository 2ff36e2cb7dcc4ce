-- Lines that come behind the first fault.
use Rattle.std.proofs.Common.{◌≡◌, ◌∙◌, refl, sym, ap, ℕ, ◌+◌, Bool, true, false, List, [], ◌∷◌, ◌++◌, length, length-append, map, append_assoc, append-nil, arith}
use Rattle.std.specs.List.{slice_split}
use Rattle.std.specs.Option.{is_some}
use Rattle.std.proofs.lemmas.List.{map-append}
use Rattle.bounds_model.specs.Asks.{Shape}
use Rattle.bounds_model.specs.PointText.{is_line_feed, fields_meaning, plane_meaning, space_meaning}
use Rattle.point_text.specs.declared.judgement.Judgement.{Judgement}
use Rattle.point_text.specs.declared.judgement.Judgement.TheVariants.{Plane, Space}
use Rattle.point_text.specs.declared.reader.Reader.{Reader}
use Rattle.point_text.specs.InHand.{IsLineInHand}
use Rattle.point_text.specs.Judged.{IsJudgement, fault_of, plane_meanings, space_meanings}
use Rattle.point_text.specs.Reading.{Reads, StandsFor, HasFailed, line_fields}
use Rattle.point_text.specs.Keeping.{fields_keep_point, KeepsPoint}
use Rattle.point_text.proofs.KeptPoints.{fields_keep_more, judgement_keeps}
use Rattle.point_text.proofs.TextLines.{text_keeps}
use Rattle.point_text.proofs.Refusing.{fault_stays}
use Rattle.point_text.proofs.Splits.{split_joined, split_parted}

-- the parts of a longer list begin with the whole parts of the shorter one
record Longer {X : Type 0} (p : X → Bool) (xs ys : List X) (whole : List (List X)) : Type 0 where
  pub more : List (List X)
  pub last : List X
  pub parts : slice_split p (xs ++ ys) ≡ (whole ++ more) ++ last ∷ []

longer : {X : Type 0} (p : X → Bool) (ys xs : List X) (whole : List (List X)) (last : List X) → slice_split p xs ≡ whole ++ last ∷ [] → Longer p xs ys whole
longer p [] xs whole last is = record { more = []; last = last; parts = ap (slice_split p) (append-nil xs) ∙ (is ∙ ap (λ ws. ws ++ last ∷ []) (sym (append-nil whole))) }
longer p (b ∷ ys) xs whole last is = by (p b) refl (longer p ys (xs ++ b ∷ []) whole (last ++ b ∷ [])) (longer p ys (xs ++ b ∷ []) (whole ++ last ∷ []) [])
  where
    whole_list : (xs ++ b ∷ []) ++ ys ≡ xs ++ b ∷ ys
    whole_list = append_assoc xs (b ∷ []) ys

    by : (t : Bool) → p b ≡ t → (slice_split p (xs ++ b ∷ []) ≡ whole ++ (last ++ b ∷ []) ∷ [] → Longer p (xs ++ b ∷ []) ys whole)
        → (slice_split p (xs ++ b ∷ []) ≡ (whole ++ last ∷ []) ++ [] ∷ [] → Longer p (xs ++ b ∷ []) ys (whole ++ last ∷ [])) → Longer p xs (b ∷ ys) whole
    by false e joined parted = let l = joined (split_joined p xs b whole last is e) in record { more = l.more; last = l.last; parts = ap (slice_split p) (sym whole_list) ∙ l.parts }
    by true e joined parted =
        let l = parted (split_parted p xs b whole last is e) in
        record { more = last ∷ l.more; last = l.last; parts = ap (slice_split p) (sym whole_list) ∙ (l.parts ∙ ap (λ ws. ws ++ l.last ∷ []) (append_assoc whole (last ∷ []) l.more)) }

-- a fault stays the first one
judgement_stays : (judgement : Judgement) (shape : Shape) (lines more : List (List (List ℕ))) → is_some (fault_of judgement) ≡ true → IsJudgement judgement shape lines
    → IsJudgement judgement shape (lines ++ more)
judgement_stays (Plane judge may_be_bare) shape lines more some (called, judged) =
    (called, rw (map-append (fields_meaning plane_meaning) lines more) (fault_stays judge.fault (plane_meanings lines) (plane_meanings more) _ _ some judged))
judgement_stays (Space judge are_two) shape lines more some (called, judged) =
    (called, rw (map-append (fields_meaning space_meaning) lines more) (fault_stays judge.fault (space_meanings lines) (space_meanings more) _ _ some judged))

-- lines that were passed over
pub reads_passed : (old now : Reader) (piece part after : List ℕ) → is_some (fault_of old.judgement) ≡ true → piece ≡ part ++ 10 ∷ after → now.taken ≡ old.taken + (length part + 1)
    → now.judgement ≡ old.judgement → IsLineInHand now.line [] → Reads old now piece after
reads_passed old now piece part after fault parts taken same line = record {
  done = part ++ 10 ∷ [];
  all = parts ∙ sym (append_assoc part (10 ∷ []) after);
  taken = let size = length-append part (10 ∷ []) in omega (arith, taken, size);
  stands = λ shape bytes is.
      let l = longer is_line_feed part bytes is.whole is.last is.lines in
      let first = length-append bytes (part ++ 10 ∷ []) in
      let second = length-append part (10 ∷ []) in
      record {
        taken = omega (arith, is.taken, taken, first, second);
        whole = is.whole ++ (l.more ++ l.last ∷ []);
        last = [];
        lines =
            ap (slice_split is_line_feed) (sym (append_assoc bytes part (10 ∷ [])))
            ∙ (split_parted is_line_feed (bytes ++ part) 10 (is.whole ++ l.more) l.last l.parts refl ∙ ap (λ ws. ws ++ [] ∷ []) (append_assoc is.whole l.more (l.last ∷ [])));
        judged = rw (same, map-append line_fields is.whole (l.more ++ l.last ∷ [])) (judgement_stays old.judgement shape (map line_fields is.whole) (map line_fields (l.more ++ l.last ∷ [])) fault is.judged);
        in_hand = line;
        begun = λ none. refl;
      };
  stays = λ failed. rw same failed;
}

-- of a text that begins with these bytes a point is kept, where memory was refused
pub failed_keeps : (reader : Reader) (shape : Shape) (bytes more : List ℕ) → HasFailed reader → StandsFor reader shape bytes → KeepsPoint shape (bytes ++ more)
failed_keeps reader shape bytes more failed is =
    let l = longer is_line_feed more bytes is.whole is.last is.lines in
    let kept = judgement_keeps reader.judgement shape (map line_fields is.whole) failed is.judged in
    text_keeps shape (bytes ++ more) (is.whole ++ l.more) l.last l.parts
    (ap (fields_keep_point shape) (map-append line_fields is.whole l.more) ∙ fields_keep_more shape (map line_fields is.whole) (map line_fields l.more) kept)
