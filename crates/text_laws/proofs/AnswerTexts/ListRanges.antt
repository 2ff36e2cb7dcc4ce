-- Lists in answers: their counts and their lines keep their ranges exactly where the elements do.
use Rattle.std.proofs.Common.{◌≡◌, ℕ, ◌+◌, ◌-◌, ◌≤◌, Bool, true, ◌&&◌, List, [], ◌∷◌, length, map, refl, ap, arith}
use Rattle.std.specs.Prelude.{All, nat_le}
use Rattle.std.specs.List.{list_all}
use Rattle.std.proofs.lemmas.List.{length-map}
use Rattle.std.proofs.lemmas.List.Elements.{All-nil, All-cons, All-head, All-tail}
use Rattle.bounds_model.specs.Numbers.{HasCount}
use Rattle.bounds_model.specs.Ranges.{number_limit}
use Rattle.bounds_model.specs.AnswerText.Fields.{Field, bounded}
use Rattle.bounds_model.specs.AnswerText.LineFormats.{untitled, Values}
use Rattle.text_laws.proofs.AnswerTexts.ValueLaws.{Fits}
use Rattle.text_laws.proofs.AnswerTexts.BodyLaws.{AllFit}
use Rattle.text_laws.proofs.AnswerTexts.RangeLaws.{is_limited, FieldRanges, line_ranges, line_fits}

-- lines that fit give elements that keep their ranges
pub all_ranges : {Y : Type 0} (fields : List Field) (make : Values fields → Y) (P : Y → Type 0) (vs : List (Values fields)) → ((v : Values fields) → FieldRanges fields v → P (make v)) → AllFit (untitled fields) vs → All P (map make vs)
all_ranges fields make P [] each fits = All-nil P
all_ranges fields make P (v ∷ vs) each fits = All-cons P (make v) (map make vs) (each v (line_ranges fields v fits.0)) (all_ranges fields make P vs each fits.1)

-- elements that keep their ranges give lines that fit
pub all_fit : {Y : Type 0} (fields : List Field) (parts : Y → Values fields) (P : Y → Type 0) (ys : List Y) → list_all is_limited fields ≡ true → ((y : Y) → P y → FieldRanges fields (parts y)) → All P ys → AllFit (untitled fields) (map parts ys)
all_fit fields parts P [] limited each all = tt
all_fit fields parts P (y ∷ ys) limited each all = (line_fits fields (parts y) limited (each y (All-head P y ys all)), all_fit fields parts P ys limited each (All-tail P y ys all))

-- a count of lines, of which some may be no elements
pub count_ranges : {X Y : Type 0} (make : X → Y) (low high less : ℕ) (xs : List X) → Fits (bounded low high ∷ []) (length xs + less, tt) → less ≤ low → HasCount (low - less) (high - less) (map make xs)
count_ranges make low high less xs fits below =
    let range = (line_ranges (bounded low high ∷ []) (length xs + less, tt) fits).0 in
    record { at_least = omega (arith, length-map xs make, range.0); at_most = omega (arith, length-map xs make, range.1) }

-- a list of a length in range gives a count that fits
pub count_fits : {X Y : Type 0} (parts : Y → X) (low high less : ℕ) (ys : List Y) → nat_le high number_limit ≡ true → low ≤ length ys + less → length ys + less ≤ high → Fits (bounded low high ∷ []) (length (map parts ys) + less, tt)
count_fits parts low high less ys limited least most =
    line_fits (bounded low high ∷ []) (length (map parts ys) + less, tt) (ap (λ (t : Bool). t && true) limited) ((omega (arith, length-map ys parts), omega (arith, length-map ys parts)), tt)

-- what is taken apart is put together again
pub map_back : {X Y : Type 0} (make : X → Y) (parts : Y → X) (ys : List Y) → ((y : Y) → make (parts y) ≡ y) → map make (map parts ys) ≡ ys
map_back make parts [] same = refl
map_back make parts (y ∷ ys) same = λ i. same y i ∷ map_back make parts ys same i
