-- The fields of a line, cut off one by one.
use Rattle.std.proofs.Common.{◌≡◌, ◌∙◌, refl, sym, ap, ℕ, ◌+◌, ◌<◌, inl, inr, Bool, true, false, cond, not, nat_le, List, [], ◌∷◌, length, filter, drop, arith}
use Rattle.std.proofs.lemmas.Bool.{cases_lt}
use Rattle.std.proofs.lemmas.Bool.Decides.{nat_tests}
use Rattle.std.proofs.Math.ListN.{drop_of_length-le}
use Rattle.std.proofs.lemmas.List.{take_all, length-take-le}
use Rattle.std.specs.List.{slice_split, position_or_len, before_first, after_first}
use Rattle.std.proofs.lemmas.List.Sums.{fails_before_first, prefix_len-le-length}
use Rattle.std.proofs.lemmas.List.Splits.{slice_split_first, slice_split_none, slice_split-cons_yes}
use Rattle.bounds_model.specs.PointText.{is_blank, fields_of}
use Rattle.byte_tools.proofs.FirstIndices.{position-cons_no, position-cons_yes}

abbrev pub is_filled : List ℕ → Bool
is_filled field = nat_le 1 (length field)

abbrev pub is_no_blank : ℕ → Bool
is_no_blank b = not (is_blank b)

-- ---- blanks before a field

pub fields_of-blank : (b : ℕ) (rest : List ℕ) → is_blank b ≡ true → fields_of (b ∷ rest) ≡ fields_of rest
fields_of-blank b rest blank = ap (filter is_filled) (slice_split-cons_yes is_blank b rest blank)

-- blanks before the first field are skipped
pub fields_of-start : (xs : List ℕ) → fields_of (drop (position_or_len is_no_blank xs) xs) ≡ fields_of xs
fields_of-start [] = refl
fields_of-start (b ∷ rest) =
    elim (is_blank b) as (λ v. is_blank b ≡ v → fields_of (drop (position_or_len is_no_blank (b ∷ rest)) (b ∷ rest)) ≡ fields_of (b ∷ rest)) [
      | true ↦ λ blank. ap (λ n. fields_of (drop n (b ∷ rest))) (position-cons_no is_no_blank b rest (ap not blank)) ∙ (fields_of-start rest ∙ sym (fields_of-blank b rest blank))
      | false ↦ λ other. ap (λ n. fields_of (drop n (b ∷ rest))) (position-cons_yes is_no_blank b rest (ap not other))
    ] refl

-- where there are blanks alone, there is no field
pub fields_of-none : (xs : List ℕ) → position_or_len is_no_blank xs ≡ length xs → fields_of xs ≡ []
fields_of-none xs missing =
    let nothing : drop (position_or_len is_no_blank xs) xs ≡ [] = drop_of_length-le xs {i = position_or_len is_no_blank xs} (omega arith) in
    sym (fields_of-start xs) ∙ ap fields_of nothing

-- what is left of blanks does not begin with one
pub start_is_filled : (xs : List ℕ) → position_or_len is_no_blank xs < length xs → 0 < position_or_len is_blank (drop (position_or_len is_no_blank xs) xs)
start_is_filled [] some = absurd (omega arith)
start_is_filled (b ∷ rest) some =
    elim (is_blank b) as (λ v. is_blank b ≡ v → 0 < position_or_len is_blank (drop (position_or_len is_no_blank (b ∷ rest)) (b ∷ rest))) [
      | true ↦ λ blank. let next = position-cons_no is_no_blank b rest (ap not blank) in rw next (start_is_filled rest (omega (arith, next)))
      | false ↦ λ other. let here = position-cons_yes is_no_blank b rest (ap not other) in rw here (omega (arith, position-cons_no is_blank b rest other))
    ] refl

-- ---- a field

-- a first field with a byte is kept
kept : (field : List ℕ) (fields : List (List ℕ)) → 0 < length field → filter is_filled (field ∷ fields) ≡ field ∷ filter is_filled fields
kept field fields some =
    let filled : is_filled field ≡ true = grind (arith, nat_tests) in
    ap (λ v. cond v (field ∷ filter is_filled fields) (filter is_filled fields)) filled

-- a line that does not begin with a blank is its first field and the fields behind it
pub fields_of-first : (xs : List ℕ) → 0 < position_or_len is_blank xs → fields_of xs ≡ before_first is_blank xs ∷ fields_of (after_first is_blank xs)
fields_of-first xs some =
    let most = prefix_len-le-length is_no_blank xs in
    let size = length-take-le (position_or_len is_blank xs) xs most in
    elim (cases_lt (position_or_len is_blank xs) (length xs)) [
      | inl lt ↦ ap (filter is_filled) (slice_split_first is_blank xs 0 lt) ∙ kept (before_first is_blank xs) (slice_split is_blank (after_first is_blank xs)) (omega arith)
      | inr past ↦
          let whole : before_first is_blank xs ≡ xs = take_all (position_or_len is_blank xs) xs past in
          let nothing : after_first is_blank xs ≡ [] = drop_of_length-le xs {i = position_or_len is_blank xs + 1} (omega arith) in
          ap (filter is_filled) (slice_split_none is_blank xs (λ k d lt. fails_before_first is_blank xs k d (omega arith)))
          ∙ (kept xs [] (omega arith) ∙ (ap (λ field. field ∷ []) (sym whole) ∙ ap (λ rest. before_first is_blank xs ∷ fields_of rest) (sym nothing)))
    ]
