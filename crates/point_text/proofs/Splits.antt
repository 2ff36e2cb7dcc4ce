-- The parts of a list, as one more element comes.
use Rattle.std.proofs.Common.{◌≡◌, ◌∙◌, refl, sym, ap, ◌<◌, Bool, true, false, List, [], ◌∷◌, ◌++◌, length, append_assoc, append-nil, arith}
use Rattle.std.specs.List.{All, onto_first, slice_split}
use Rattle.std.proofs.lemmas.List.Elements.{All-head, All-tail}
use Rattle.std.proofs.lemmas.List.Splits.{slice_split-cons_yes, slice_split-cons_no, length-slice_split}
use Rattle.point_text.specs.Kept.{with_point}
use Rattle.point_text.proofs.SetLaws.{onto_first-end, onto_first-with_point, with_point-after}

module _ {X : Type 0} (p : X → Bool) where
  split_some : (xs : List X) → 0 < length (slice_split p xs)
  split_some xs = let many = length-slice_split p xs in omega (arith, many)

  -- an element that parts nothing joins the last part
  split_no : (xs : List X) (b : X) → p b ≡ false → slice_split p (xs ++ b ∷ []) ≡ with_point b (slice_split p xs)
  split_no [] b joins = slice_split-cons_no p b [] joins
  split_no (x ∷ xs) b joins = by (p x) refl (split_no xs b joins)
    where
      by : (t : Bool) → p x ≡ t → slice_split p (xs ++ b ∷ []) ≡ with_point b (slice_split p xs) → slice_split p (x ∷ xs ++ b ∷ []) ≡ with_point b (slice_split p (x ∷ xs))
      by true e more =
          slice_split-cons_yes p x (xs ++ b ∷ []) e
          ∙ (ap (λ parts. [] ∷ parts) more ∙ (with_point-after b (slice_split p xs) (split_some xs) ∙ ap (with_point b) (sym (slice_split-cons_yes p x xs e))))
      by false e more =
          slice_split-cons_no p x (xs ++ b ∷ []) e
          ∙ (ap (onto_first x) more ∙ (onto_first-with_point x b (slice_split p xs) (split_some xs) ∙ ap (with_point b) (sym (slice_split-cons_no p x xs e))))

  -- one that parts begins another part
  split_yes : (xs : List X) (b : X) → p b ≡ true → slice_split p (xs ++ b ∷ []) ≡ slice_split p xs ++ [] ∷ []
  split_yes [] b parts_here = slice_split-cons_yes p b [] parts_here
  split_yes (x ∷ xs) b parts_here = by (p x) refl (split_yes xs b parts_here)
    where
      by : (t : Bool) → p x ≡ t → slice_split p (xs ++ b ∷ []) ≡ slice_split p xs ++ [] ∷ [] → slice_split p (x ∷ xs ++ b ∷ []) ≡ slice_split p (x ∷ xs) ++ [] ∷ []
      by true e more =
          slice_split-cons_yes p x (xs ++ b ∷ []) e ∙ (ap (λ parts. [] ∷ parts) more ∙ ap (λ parts. parts ++ [] ∷ []) (sym (slice_split-cons_yes p x xs e)))
      by false e more =
          slice_split-cons_no p x (xs ++ b ∷ []) e
          ∙ (ap (onto_first x) more ∙ (onto_first-end x (slice_split p xs) (split_some xs) ∙ ap (λ parts. parts ++ [] ∷ []) (sym (slice_split-cons_no p x xs e))))

  with_point-last : (b : X) (whole : List (List X)) (last : List X) → with_point b (whole ++ last ∷ []) ≡ whole ++ (last ++ b ∷ []) ∷ []
  with_point-last b [] last = refl
  with_point-last b (part ∷ []) last = refl
  with_point-last b (part ∷ next ∷ whole) last = ap (λ parts. part ∷ parts) (with_point-last b (next ∷ whole) last)

  pub split_joined : (xs : List X) (b : X) (whole : List (List X)) (last : List X) → slice_split p xs ≡ whole ++ last ∷ [] → p b ≡ false
      → slice_split p (xs ++ b ∷ []) ≡ whole ++ (last ++ b ∷ []) ∷ []
  split_joined xs b whole last is joins = split_no xs b joins ∙ (ap (with_point b) is ∙ with_point-last b whole last)

  pub split_parted : (xs : List X) (b : X) (whole : List (List X)) (last : List X) → slice_split p xs ≡ whole ++ last ∷ [] → p b ≡ true
      → slice_split p (xs ++ b ∷ []) ≡ (whole ++ last ∷ []) ++ [] ∷ []
  split_parted xs b whole last is parts_here = split_yes xs b parts_here ∙ ap (λ parts. parts ++ [] ∷ []) is

  -- elements that part nothing join the last part
  pub split_joined_all : (more xs : List X) (whole : List (List X)) (last : List X) → slice_split p xs ≡ whole ++ last ∷ [] → All (λ b. p b ≡ false) more
      → slice_split p (xs ++ more) ≡ whole ++ (last ++ more) ∷ []
  split_joined_all [] xs whole last is none = ap (slice_split p) (append-nil xs) ∙ (is ∙ ap (λ part. whole ++ part ∷ []) (sym (append-nil last)))
  split_joined_all (b ∷ more) xs whole last is none =
      let joined = split_joined xs b whole last is (All-head (λ b. p b ≡ false) b more none) in
      ap (slice_split p) (sym (append_assoc xs (b ∷ []) more))
      ∙ (split_joined_all more (xs ++ b ∷ []) whole (last ++ b ∷ []) joined (All-tail (λ b. p b ≡ false) b more none)
      ∙ ap (λ part. whole ++ part ∷ []) (append_assoc last (b ∷ []) more))
