-- What a line says whose fields come to this.
use Rattle.std.proofs.Common.{◌≡◌, ◌∙◌, refl, sym, ap, ℕ, ℤ, List, [], ◌∷◌, map, codes, append-nil, Option, Some, None}
use Rattle.std.specs.Option.{option_map}
use Rattle.bounds_model.specs.PointText.{Meaning, says_scale, scale_of_number, natural, number, fields_meaning, plane_meaning, space_meaning, bad_form}
use Rattle.point_text.specs.Clamps.{clamped_size, clamped}
use Rattle.point_text.specs.Fields.{AreFields, Write, clamped_number}
use Rattle.point_text.specs.declared.fields.Keyword.{Keyword}
use Rattle.point_text.specs.declared.fields.Fields.{Fields}
use Rattle.point_text.specs.declared.fields.Fields.TheVariants as fields
use Rattle.point_text.proofs.FieldLaws.{no_separator, no_scale, one_number, two_numbers, three_numbers}
use Rattle.point_text.proofs.Clamping.{plane_clamped, space_clamped}

-- ---- a scale

written_size : (digits : List ℕ) (size : ℕ) (a : Option ℕ) → natural digits ≡ a → option_map clamped_size a ≡ Some size → (n : ℕ) × (natural digits ≡ Some n) × (size ≡ clamped_size n)
written_size digits size None is e = cc
written_size digits size (Some n) is e = (n, is, cc)

-- digits behind the word `scale` say their number
pub scale_said : {P : Type 0} (say : List (Option ℤ) → Meaning P) (line : List (List ℕ)) (digits : List ℕ) (size : ℕ) → line ≡ codes "scale" ∷ digits ∷ [] → Write digits size
    → (scale : ℕ) × (says_scale scale ≡ fields_meaning say line) × (size ≡ clamped_size scale)
scale_said say line digits size is write =
    let w = written_size digits size (natural digits) refl write in
    (w.0, sym (ap (fields_meaning say) is ∙ ap scale_of_number w.1), w.2)

-- ---- in the plane

plane_fields : (a b : List ℕ) (x y z w : ℤ) → number a ≡ Some z → number b ≡ Some w → x ≡ clamped z → y ≡ clamped w
    → plane_meaning (Some x ∷ Some y ∷ []) ≡ fields_meaning plane_meaning (a ∷ b ∷ [])
plane_fields a b x y z w first second is_x is_y = rw (no_scale a z first, first, second, is_x, is_y) (plane_clamped z w)

pub plane_two : (line : List (List ℕ)) (x y : ℤ) → map clamped_number line ≡ Some x ∷ Some y ∷ [] → plane_meaning (Some x ∷ Some y ∷ []) ≡ fields_meaning plane_meaning line
plane_two line x y is =
    let two = two_numbers line x y is in
    plane_fields two.first two.second x y two.z two.w two.first_number two.second_number two.first_clamped two.second_clamped ∙ ap (fields_meaning plane_meaning) (sym two.fields)

one_in_plane : (line : List (List ℕ)) (x : ℤ) → map clamped_number line ≡ Some x ∷ [] → fields_meaning plane_meaning line ≡ bad_form
one_in_plane line x is =
    let one = one_number line x is in
    rw (one.fields, no_separator one.first one.z one.first_number, no_scale one.first one.z one.first_number, one.first_number) refl

three_in_plane : (line : List (List ℕ)) (x y z : ℤ) → map clamped_number line ≡ Some x ∷ Some y ∷ Some z ∷ [] → fields_meaning plane_meaning line ≡ bad_form
three_in_plane line x y z is =
    let three = three_numbers line x y z is in
    let two = three.two in
    rw (three.fields, two.fields, no_scale three.first three.u three.first_number, three.first_number, two.first_number) refl

-- fields that are nothing, no end of a set and not two numbers are bad
pub plane_other : (seen : Fields) (line : List (List ℕ)) → AreFields seen line → (seen ≡ fields.Empty → ⊥) → ((word : Keyword) → seen ≡ fields.Word word → ⊥) → ((size : ℕ) → seen ≡ fields.Scale size → ⊥)
    → ((x y : ℤ) → seen ≡ fields.Two x y → ⊥) → bad_form ≡ fields_meaning plane_meaning line
plane_other fields.Empty line are empty ends scale two = absurd (empty refl)
plane_other (fields.Word word) line are empty ends scale two = absurd (ends word refl)
plane_other (fields.Scale size) line are empty ends scale two = absurd (scale size refl)
plane_other (fields.One x) line are empty ends scale two = sym (one_in_plane line x are)
plane_other (fields.Two x y) line are empty ends scale two = absurd (two x y refl)
plane_other (fields.Three x y z) line are empty ends scale two = sym (three_in_plane line x y z are)
plane_other fields.Other line are empty ends scale two = sym (ap (fields_meaning plane_meaning) (sym (append-nil line)) ∙ (are []).0)

-- ---- in space

space_fields : (a b c : List ℕ) (x y z u v w : ℤ) → number a ≡ Some u → number b ≡ Some v → number c ≡ Some w → x ≡ clamped u → y ≡ clamped v → z ≡ clamped w
    → space_meaning (Some x ∷ Some y ∷ Some z ∷ []) ≡ fields_meaning space_meaning (a ∷ b ∷ c ∷ [])
space_fields a b c x y z u v w first second third is_x is_y is_z = rw (no_scale a u first, first, second, third, is_x, is_y, is_z) (space_clamped u v w)

pub space_three : (line : List (List ℕ)) (x y z : ℤ) → map clamped_number line ≡ Some x ∷ Some y ∷ Some z ∷ []
    → space_meaning (Some x ∷ Some y ∷ Some z ∷ []) ≡ fields_meaning space_meaning line
space_three line x y z is =
    let three = three_numbers line x y z is in
    let two = three.two in
    space_fields three.first two.first two.second x y z three.u two.z two.w three.first_number two.first_number two.second_number three.first_clamped two.first_clamped two.second_clamped
    ∙ ap (fields_meaning space_meaning) (sym (three.fields ∙ ap (λ l. three.first ∷ l) two.fields))

one_in_space : (line : List (List ℕ)) (x : ℤ) → map clamped_number line ≡ Some x ∷ [] → fields_meaning space_meaning line ≡ bad_form
one_in_space line x is =
    let one = one_number line x is in
    rw (one.fields, no_separator one.first one.z one.first_number, no_scale one.first one.z one.first_number, one.first_number) refl

two_in_space : (line : List (List ℕ)) (x y : ℤ) → map clamped_number line ≡ Some x ∷ Some y ∷ [] → fields_meaning space_meaning line ≡ bad_form
two_in_space line x y is =
    let two = two_numbers line x y is in
    rw (two.fields, no_scale two.first two.z two.first_number, two.first_number, two.second_number) refl

-- fields that are nothing, no end of a set and not three numbers are bad
pub space_other : (seen : Fields) (line : List (List ℕ)) → AreFields seen line → (seen ≡ fields.Empty → ⊥) → ((word : Keyword) → seen ≡ fields.Word word → ⊥) → ((size : ℕ) → seen ≡ fields.Scale size → ⊥)
    → ((x y z : ℤ) → seen ≡ fields.Three x y z → ⊥) → bad_form ≡ fields_meaning space_meaning line
space_other fields.Empty line are empty ends scale three = absurd (empty refl)
space_other (fields.Word word) line are empty ends scale three = absurd (ends word refl)
space_other (fields.Scale size) line are empty ends scale three = absurd (scale size refl)
space_other (fields.One x) line are empty ends scale three = sym (one_in_space line x are)
space_other (fields.Two x y) line are empty ends scale three = sym (two_in_space line x y are)
space_other (fields.Three x y z) line are empty ends scale three = absurd (three x y z refl)
space_other fields.Other line are empty ends scale three = sym (ap (fields_meaning space_meaning) (sym (append-nil line)) ∙ (are []).1)
