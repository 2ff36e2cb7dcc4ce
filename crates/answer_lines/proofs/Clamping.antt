-- Clamped numbers lead to the same judgement as the numbers themselves.
use Rattle.std.proofs.Common.{◌≡◌, ◌∙◌, refl, sym, ap, ℕ, ℤ, nat_abs, Bool, true, false, ◌&&◌, List, ◌∷◌, Some, arith}
use Rattle.std.specs.Prelude.{nat_le, ◌==◌}
use Rattle.std.specs.List.{before_first, after_first}
use Rattle.std.specs.Option.{option_map}
use Rattle.bounds_model.specs.Ranges.{number_limit}
use Rattle.bounds_model.specs.AnswerText.Numerals.{whole_number}
use Rattle.bounds_model.specs.AnswerText.Fields.{number, fraction, plane_ratio, space_ratio, is_in_range}
use Rattle.text_laws.proofs.AnswerTexts.NumberLaws.{both_true}
use Rattle.byte_tools.specs.Clamps as tools
use Rattle.byte_tools.proofs.Clamping.{number_found, within-clamped, clamped-same}
use Rattle.answer_lines.specs.Judging.{judged_by, judged_field, field_at}

-- the number with its magnitude clamped past the limit of all numbers
abbrev pub clamped : ℤ → ℤ
clamped z = tools.clamped number_limit z

-- ---- judgements

-- the number is within the limit
abbrev within : ℤ → Bool
within z = nat_le (nat_abs z) number_limit

-- a number is within the limit where its clamped one is
within-limit : (z : ℤ) → within (clamped z) ≡ within z
within-limit z = within-clamped number_limit number_limit z (omega arith)

-- a number within the limit is its own clamped number
same-within : (z : ℤ) → within z ≡ true → clamped z ≡ z
same-within z small = clamped-same number_limit number_limit z (omega arith) small

-- two values of which both or none is within the limit, and which are one where they are
by_limit : {A : Type 0} (small other : Bool) (in_range : A → Bool) (v w : A) → small ≡ other → (other ≡ true → v ≡ w) → judged_by small (in_range v) v ≡ judged_by other (in_range w) w
by_limit true true in_range v w same one = ap (λ x. judged_by true (in_range x) x) (one refl)
by_limit false false in_range v w same one = refl
by_limit true false in_range v w same one = absurd cc
by_limit false true in_range v w same one = absurd cc

-- a clamped number
pub number-clamped : (z : ℤ) → judged_field number (clamped z) ≡ judged_field number z
number-clamped z = by_limit _ _ (is_in_range number) (clamped z) z (λ i. within-limit z i && true) (λ small. same-within z (both_true (within z) true small).0)

-- the clamped numbers of a fraction
pub fraction-clamped : (n d : ℤ) → judged_field fraction (record { n = clamped n; d = clamped d }) ≡ judged_field fraction (record { n = n; d = d })
fraction-clamped n d =
    by_limit _ _ (is_in_range fraction) (record { n = clamped n; d = clamped d }) (record { n = n; d = d }) (λ i. within-limit n i && (within-limit d i && true))
    (λ small.
    let first = both_true (within n) (within d && true) small in
    let second = both_true (within d) true first.1 in
    λ i. record { n = same-within n first.0 i; d = same-within d second.0 i })

-- those of a point of the plane
pub plane_ratio-clamped : (x y w : ℤ) → judged_field plane_ratio (record { x = clamped x; y = clamped y; w = clamped w }) ≡ judged_field plane_ratio (record { x = x; y = y; w = w })
plane_ratio-clamped x y w =
    by_limit _ _ (is_in_range plane_ratio) (record { x = clamped x; y = clamped y; w = clamped w }) (record { x = x; y = y; w = w }) (λ i. within-limit x i && (within-limit y i && (within-limit w i && true)))
    (λ small.
    let first = both_true (within x) (within y && (within w && true)) small in
    let second = both_true (within y) (within w && true) first.1 in
    let third = both_true (within w) true second.1 in
    λ i. record { x = same-within x first.0 i; y = same-within y second.0 i; w = same-within w third.0 i })

-- those of a point of space
pub space_ratio-clamped : (x y z w : ℤ) → judged_field space_ratio (record { x = clamped x; y = clamped y; z = clamped z; w = clamped w }) ≡ judged_field space_ratio (record { x = x; y = y; z = z; w = w })
space_ratio-clamped x y z w =
    by_limit _ _ (is_in_range space_ratio) (record { x = clamped x; y = clamped y; z = clamped z; w = clamped w }) (record { x = x; y = y; z = z; w = w })
    (λ i. within-limit x i && (within-limit y i && (within-limit z i && (within-limit w i && true))))
    (λ small.
    let first = both_true (within x) (within y && (within z && (within w && true))) small in
    let second = both_true (within y) (within z && (within w && true)) first.1 in
    let third = both_true (within z) (within w && true) second.1 in
    let fourth = both_true (within w) true third.1 in
    λ i. record { x = same-within x first.0 i; y = same-within y second.0 i; z = same-within z third.0 i; w = same-within w fourth.0 i })

-- ---- fields by their clamped numbers

-- a whole number that is known
number_known : (word : List ℕ) (rest : List (List ℕ)) (n : ℤ) → whole_number word ≡ Some n → field_at number (word ∷ rest) ≡ Some (judged_field number n, rest)
number_known word rest n p = rw p refl

-- a fraction whose numbers are known
fraction_numbers : (word : List ℕ) (rest : List (List ℕ)) (n d : ℤ) → whole_number (before_first (λ b. b == 47) word) ≡ Some n → whole_number (after_first (λ b. b == 47) word) ≡ Some d
    → field_at fraction (word ∷ rest) ≡ Some (judged_field fraction (record { n = n; d = d }), rest)
fraction_numbers word rest n d p q = rw (p, q) refl

-- a point whose numbers are known
plane_ratio_numbers : (a b c : List ℕ) (rest : List (List ℕ)) (x y w : ℤ) → whole_number a ≡ Some x → whole_number b ≡ Some y → whole_number c ≡ Some w
    → field_at plane_ratio (a ∷ b ∷ c ∷ rest) ≡ Some (judged_field plane_ratio (record { x = x; y = y; w = w }), rest)
plane_ratio_numbers a b c rest x y w p q r = rw (p, q, r) refl

-- a point of space whose numbers are known
space_ratio_numbers : (a b c d : List ℕ) (rest : List (List ℕ)) (x y z w : ℤ) → whole_number a ≡ Some x → whole_number b ≡ Some y → whole_number c ≡ Some z → whole_number d ≡ Some w
    → field_at space_ratio (a ∷ b ∷ c ∷ d ∷ rest) ≡ Some (judged_field space_ratio (record { x = x; y = y; z = z; w = w }), rest)
space_ratio_numbers a b c d rest x y z w p q r s = rw (p, q, r, s) refl

-- a whole number
pub number_at : (word : List ℕ) (words rest : List (List ℕ)) (n : ℤ) → words ≡ word ∷ rest → Some n ≡ option_map clamped (whole_number word) → field_at number words ≡ Some (judged_field number n, rest)
number_at word words rest n is read =
    let found = number_found number_limit (whole_number word) n read in
    ap (field_at number) is ∙ (number_known word rest found.0 found.2 ∙ (ap (λ j. Some (j, rest)) (sym (number-clamped found.0)) ∙ (λ i. Some (judged_field number (sym found.1 i), rest))))

-- a fraction
pub fraction_at : (word : List ℕ) (words rest : List (List ℕ)) (n d : ℤ) → words ≡ word ∷ rest → Some n ≡ option_map clamped (whole_number (before_first (λ b. b == 47) word))
    → Some d ≡ option_map clamped (whole_number (after_first (λ b. b == 47) word)) → field_at fraction words ≡ Some (judged_field fraction (record { n = n; d = d }), rest)
fraction_at word words rest n d is n-read d-read =
    let n-found = number_found number_limit (whole_number (before_first (λ b. b == 47) word)) n n-read in
    let d-found = number_found number_limit (whole_number (after_first (λ b. b == 47) word)) d d-read in
    ap (field_at fraction) is ∙ (fraction_numbers word rest n-found.0 d-found.0 n-found.2 d-found.2
    ∙ (ap (λ j. Some (j, rest)) (sym (fraction-clamped n-found.0 d-found.0)) ∙ (λ i. Some (judged_field fraction (record { n = sym n-found.1 i; d = sym d-found.1 i }), rest))))

-- a point of the plane
pub plane_ratio_at : (a b c : List ℕ) (words rest : List (List ℕ)) (x y w : ℤ) → words ≡ a ∷ b ∷ c ∷ rest → Some x ≡ option_map clamped (whole_number a) → Some y ≡ option_map clamped (whole_number b)
    → Some w ≡ option_map clamped (whole_number c) → field_at plane_ratio words ≡ Some (judged_field plane_ratio (record { x = x; y = y; w = w }), rest)
plane_ratio_at a b c words rest x y w is x-read y-read w-read =
    let x-found = number_found number_limit (whole_number a) x x-read in
    let y-found = number_found number_limit (whole_number b) y y-read in
    let w-found = number_found number_limit (whole_number c) w w-read in
    ap (field_at plane_ratio) is ∙ (plane_ratio_numbers a b c rest x-found.0 y-found.0 w-found.0 x-found.2 y-found.2 w-found.2
    ∙ (ap (λ j. Some (j, rest)) (sym (plane_ratio-clamped x-found.0 y-found.0 w-found.0)) ∙ (λ i. Some (judged_field plane_ratio (record { x = sym x-found.1 i; y = sym y-found.1 i; w = sym w-found.1 i }), rest))))

-- a point of space
pub space_ratio_at : (a b c d : List ℕ) (words rest : List (List ℕ)) (x y z w : ℤ) → words ≡ a ∷ b ∷ c ∷ d ∷ rest → Some x ≡ option_map clamped (whole_number a) → Some y ≡ option_map clamped (whole_number b)
    → Some z ≡ option_map clamped (whole_number c) → Some w ≡ option_map clamped (whole_number d) → field_at space_ratio words ≡ Some (judged_field space_ratio (record { x = x; y = y; z = z; w = w }), rest)
space_ratio_at a b c d words rest x y z w is x-read y-read z-read w-read =
    let x-found = number_found number_limit (whole_number a) x x-read in
    let y-found = number_found number_limit (whole_number b) y y-read in
    let z-found = number_found number_limit (whole_number c) z z-read in
    let w-found = number_found number_limit (whole_number d) w w-read in
    ap (field_at space_ratio) is ∙ (space_ratio_numbers a b c d rest x-found.0 y-found.0 z-found.0 w-found.0 x-found.2 y-found.2 z-found.2 w-found.2
    ∙ (ap (λ j. Some (j, rest)) (sym (space_ratio-clamped x-found.0 y-found.0 z-found.0 w-found.0))
    ∙ (λ i. Some (judged_field space_ratio (record { x = sym x-found.1 i; y = sym y-found.1 i; z = sym z-found.1 i; w = sym w-found.1 i }), rest))))
