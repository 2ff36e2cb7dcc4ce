-- A field that was read was written so.
use Rattle.std.proofs.Common.{◌≡◌, ℕ, zero, suc, ◌^◌, ◌<◌, ℤ, pos, nat_abs, Bool, true, false, cond, List, [], ◌∷◌, ◌++◌, map, refl, sym, ap, subst, ◌∙◌}
use Rattle.std.specs.Prelude.{Option, Some, decimal, codes}
use Rattle.std.specs.Fmt.{signed_decimal}
use Rattle.std.specs.List.{list_all}
use Rattle.std.specs.Str.{bytes_eq}
use Rattle.std.proofs.lemmas.Slice.Eq.{bytes_eq-Decides}
use Rattle.bounds_model.specs.Fractions.{Fraction}
use Rattle.bounds_model.specs.Plane.{PlaneRatio}
use Rattle.bounds_model.specs.Space.{SpaceRatio}
use Rattle.bounds_model.specs.EmptyAnswer.{Blocker, side, point}
use Rattle.bounds_model.specs.AnswerText.Numerals.{◌>>=◌, natural_number, whole_number, fraction_number}
use Rattle.bounds_model.specs.AnswerText.Fields.{Field, number, natural, naturals, bounded, fraction, plane_ratio, space_ratio, blocker, Value, naturals_of, blocker_of, value_of, is_small}
use Rattle.bounds_model.specs.AnswerText.Written.{fraction_text}
use Rattle.bounds_model.specs.AnswerText.Written.{blocker_text}
use Rattle.bounds_model.specs.AnswerText.Written.{field_words}
use Rattle.text_laws.proofs.AnswerTexts.NumberLaws.{bind_some, some_is, natural_back}
use Rattle.text_laws.proofs.AnswerTexts.WholeLaws.{whole_back, fraction_back}
use Rattle.text_laws.proofs.AnswerTexts.FieldLaws.{within, first_within, rest_within, two_within, three_within, four_within}

-- what is kept of a word that was read, and the words behind it
abbrev kept : {A B : Type 0} → (A → B) → List (List ℕ) → A → Option (B × List (List ℕ))
kept make words x = Some (make x, words)

-- one word that was read
one_back : {A B : Type 0} (read : Option A) (make : A → B) (word text : List ℕ) (words : List (List ℕ)) (v : B) (rest : List (List ℕ)) → ((x : A) → read ≡ Some x → make x ≡ v → word ≡ text)
    → (read >>= kept make words) ≡ Some (v, rest) → word ∷ words ≡ text ∷ rest
one_back {A} {B} read make word text words v rest back e =
    let r = bind_some read (kept make words) (v, rest) e in
    let is : ◌≡◌ {A = B × List (List ℕ)} (make r.0, words) (v, rest) = some_is (make r.0, words) (v, rest) r.2 in
    ap (λ (w : List ℕ). w ∷ words) (back r.0 r.1 (ap (λ (p : B × List (List ℕ)). p.0) is)) ∙ ap (λ (ws : List (List ℕ)). text ∷ ws) (ap (λ (p : B × List (List ℕ)). p.1) is)

-- a word that was read as a number without a sign
natural_word : (word : List ℕ) (z : ℤ) (n : ℕ) → natural_number word ≡ Some n → pos n ≡ z → nat_abs z < 10 ^ 64 → word ≡ signed_decimal z
natural_word word z n read is small = natural_back word n read (subst (λ (y : ℤ). nat_abs y < 10 ^ 64) (sym is) small) ∙ ap signed_decimal is

-- numbers without a sign that were read were written so
naturals_back : (count : ℕ) (words : List (List ℕ)) (zs : List ℤ) (rest : List (List ℕ)) → naturals_of count words ≡ Some (zs, rest) → list_all within zs ≡ true → words ≡ map signed_decimal zs ++ rest
naturals_back zero words zs rest e small =
    let is : ◌≡◌ {A = List ℤ × List (List ℕ)} ([], words) (zs, rest) = some_is ([], words) (zs, rest) e in
    ap (λ (p : List ℤ × List (List ℕ)). p.1) is ∙ ap (λ (ys : List ℤ). map signed_decimal ys ++ rest) (ap (λ (p : List ℤ × List (List ℕ)). p.0) is)
naturals_back (suc count) [] zs rest e small = absurd cc
naturals_back (suc count) (word ∷ words) zs rest e small =
    let r = bind_some (natural_number word) (λ n. ◌>>=◌ {B = List ℤ × List (List ℕ)} (naturals_of count words) (λ others. Some (pos n ∷ others.0, others.1))) (zs, rest) e in
    let q = bind_some (naturals_of count words) (λ others. put r.0 others) (zs, rest) r.2 in
    let is : ◌≡◌ {A = List ℤ × List (List ℕ)} (pos r.0 ∷ q.0.0, q.0.1) (zs, rest) = some_is (pos r.0 ∷ q.0.0, q.0.1) (zs, rest) q.2 in
    let all-is : pos r.0 ∷ q.0.0 ≡ zs = ap (λ (p : List ℤ × List (List ℕ)). p.0) is in
    let all-small : list_all within (pos r.0 ∷ q.0.0) ≡ true = subst (λ (ys : List ℤ). list_all within ys ≡ true) (sym all-is) small in
    ap (λ (w : List ℕ). w ∷ words) (natural_back word r.0 r.1 (first_within (pos r.0) q.0.0 all-small))
    ∙ ap (λ (ws : List (List ℕ)). decimal r.0 ∷ ws) (naturals_back count words q.0.0 q.0.1 q.1 (rest_within (pos r.0) q.0.0 all-small))
    ∙ ap (λ (p : List ℤ × List (List ℕ)). map signed_decimal p.0 ++ p.1) is
  where
    put : ℕ → List ℤ × List (List ℕ) → Option (List ℤ × List (List ℕ))
    put n others = Some (pos n ∷ others.0, others.1)

-- a blocker that was read was written so
blocker_back : (t : Bool) (word : List ℕ) (b : Blocker) → bytes_eq word (codes "box") ≡ t → cond t (Some side) (natural_number word >>= λ n. Some (point n)) ≡ Some b → is_small blocker b ≡ true → word ≡ blocker_text b
blocker_back true word b test e small = (bytes_eq-Decides word (codes "box")).0 test ∙ ap blocker_text (some_is side b e)
blocker_back false word b test e small =
    let r = bind_some (natural_number word) (λ n. Some (point n)) b e in
    let is : point r.0 ≡ b = some_is (point r.0) b r.2 in
    let point-small : is_small blocker (point r.0) ≡ true = subst (λ (c : Blocker). is_small blocker c ≡ true) (sym is) small in
    natural_back word r.0 r.1 (first_within (pos r.0) [] point-small) ∙ ap blocker_text is

-- x and y over w
abbrev plane_of : ℤ → ℤ → ℤ → PlaneRatio
plane_of x y w = record { x = x; y = y; w = w }

-- a word that was read as a number is the number's
whole_word : (word : List ℕ) (read z : ℤ) → whole_number word ≡ Some read → read ≡ z → nat_abs z < 10 ^ 64 → word ≡ signed_decimal z
whole_word word read z e is small = whole_back word z (e ∙ ap (λ (y : ℤ). Some y) is) small

-- three words that were read are the words of their numbers
plane_words : (x y w : List ℕ) (words : List (List ℕ)) (c : PlaneRatio) (rest : List (List ℕ)) (x' y' w' : ℤ) → whole_number x ≡ Some x' → whole_number y ≡ Some y' → whole_number w ≡ Some w'
    → ◌≡◌ {A = PlaneRatio × List (List ℕ)} (plane_of x' y' w', words) (c, rest) → is_small plane_ratio c ≡ true → x ∷ y ∷ w ∷ words ≡ field_words plane_ratio c ++ rest
plane_words x y w words c rest x' y' w' p q r is small =
    let x-is = whole_word x x' c.x p (ap (λ (k : PlaneRatio × List (List ℕ)). k.0.x) is) (first_within c.x (c.y ∷ c.w ∷ []) small) in
    let y-is = whole_word y y' c.y q (ap (λ (k : PlaneRatio × List (List ℕ)). k.0.y) is) (two_within c.x c.y (c.w ∷ []) small) in
    let w-is = whole_word w w' c.w r (ap (λ (k : PlaneRatio × List (List ℕ)). k.0.w) is) (three_within c.x c.y c.w [] small) in
    let rest-is : words ≡ rest = ap (λ (k : PlaneRatio × List (List ℕ)). k.1) is in
    cc

-- a point of the plane that was read was written so
plane_back : (x y w : List ℕ) (words : List (List ℕ)) (c : PlaneRatio) (rest : List (List ℕ)) → value_of plane_ratio (x ∷ y ∷ w ∷ words) ≡ Some (c, rest) → is_small plane_ratio c ≡ true
    → x ∷ y ∷ w ∷ words ≡ field_words plane_ratio c ++ rest
plane_back x y w words c rest e small =
    let r = bind_some (whole_number x) (λ x'. whole_number y >>= λ y'. whole_number w >>= λ w'. kept (plane_of x' y') words w') (c, rest) e in
    let q = bind_some (whole_number y) (λ y'. whole_number w >>= λ w'. kept (plane_of r.0 y') words w') (c, rest) r.2 in
    let p = bind_some (whole_number w) (λ w'. kept (plane_of r.0 q.0) words w') (c, rest) q.2 in
    plane_words x y w words c rest r.0 q.0 p.0 r.1 q.1 p.1 (some_is (plane_of r.0 q.0 p.0, words) (c, rest) p.2) small

-- x, y and z over w
abbrev space_of : ℤ → ℤ → ℤ → ℤ → SpaceRatio
space_of x y z w = record { x = x; y = y; z = z; w = w }

-- four words that were read are the words of their numbers
space_words : (x y z w : List ℕ) (words : List (List ℕ)) (c : SpaceRatio) (rest : List (List ℕ)) (x' y' z' w' : ℤ) → whole_number x ≡ Some x' → whole_number y ≡ Some y' → whole_number z ≡ Some z' → whole_number w ≡ Some w'
    → ◌≡◌ {A = SpaceRatio × List (List ℕ)} (space_of x' y' z' w', words) (c, rest) → is_small space_ratio c ≡ true → x ∷ y ∷ z ∷ w ∷ words ≡ field_words space_ratio c ++ rest
space_words x y z w words c rest x' y' z' w' o p q r is small =
    let x-is = whole_word x x' c.x o (ap (λ (k : SpaceRatio × List (List ℕ)). k.0.x) is) (first_within c.x (c.y ∷ c.z ∷ c.w ∷ []) small) in
    let y-is = whole_word y y' c.y p (ap (λ (k : SpaceRatio × List (List ℕ)). k.0.y) is) (two_within c.x c.y (c.z ∷ c.w ∷ []) small) in
    let z-is = whole_word z z' c.z q (ap (λ (k : SpaceRatio × List (List ℕ)). k.0.z) is) (three_within c.x c.y c.z (c.w ∷ []) small) in
    let w-is = whole_word w w' c.w r (ap (λ (k : SpaceRatio × List (List ℕ)). k.0.w) is) (four_within c.x c.y c.z c.w [] small) in
    let rest-is : words ≡ rest = ap (λ (k : SpaceRatio × List (List ℕ)). k.1) is in
    cc

-- a point of space that was read was written so
space_back : (x y z w : List ℕ) (words : List (List ℕ)) (c : SpaceRatio) (rest : List (List ℕ)) → value_of space_ratio (x ∷ y ∷ z ∷ w ∷ words) ≡ Some (c, rest) → is_small space_ratio c ≡ true
    → x ∷ y ∷ z ∷ w ∷ words ≡ field_words space_ratio c ++ rest
space_back x y z w words c rest e small =
    let r = bind_some (whole_number x) (λ x'. whole_number y >>= λ y'. whole_number z >>= λ z'. whole_number w >>= λ w'. kept (space_of x' y' z') words w') (c, rest) e in
    let q = bind_some (whole_number y) (λ y'. whole_number z >>= λ z'. whole_number w >>= λ w'. kept (space_of r.0 y' z') words w') (c, rest) r.2 in
    let p = bind_some (whole_number z) (λ z'. whole_number w >>= λ w'. kept (space_of r.0 q.0 z') words w') (c, rest) q.2 in
    let o = bind_some (whole_number w) (λ w'. kept (space_of r.0 q.0 p.0) words w') (c, rest) p.2 in
    space_words x y z w words c rest r.0 q.0 p.0 o.0 r.1 q.1 p.1 o.1 (some_is (space_of r.0 q.0 p.0 o.0, words) (c, rest) o.2) small

-- a field that was read was written so
pub value_back : (field : Field) (words : List (List ℕ)) (v : Value field) (rest : List (List ℕ)) → value_of field words ≡ Some (v, rest) → is_small field v ≡ true → words ≡ field_words field v ++ rest
value_back number [] v rest e small = absurd cc
value_back number (word ∷ words) z rest e small =
    one_back (whole_number word) (λ y. y) word (signed_decimal z) words z rest (λ y read is. whole_back word z (read ∙ ap (λ (x : ℤ). Some x) is) (first_within z [] small)) e
value_back natural [] v rest e small = absurd cc
value_back natural (word ∷ words) z rest e small =
    one_back (natural_number word) pos word (signed_decimal z) words z rest (λ n read is. natural_word word z n read is (first_within z [] small)) e
value_back (naturals count) words zs rest e small = naturals_back count words zs rest e small
value_back (bounded low high) [] v rest e small = absurd cc
value_back (bounded low high) (word ∷ words) n rest e small =
    one_back (natural_number word) (λ k. k) word (decimal n) words n rest (λ k read is. natural_back word n (read ∙ ap (λ (x : ℕ). Some x) is) (first_within (pos n) [] small)) e
value_back fraction [] v rest e small = absurd cc
value_back fraction (word ∷ words) a rest e small =
    one_back (fraction_number word) (λ b. b) word (fraction_text a) words a rest
    (λ b read is. fraction_back word a (read ∙ ap (λ (x : Fraction). Some x) is) (first_within a.n (a.d ∷ []) small) (two_within a.n a.d [] small)) e
value_back plane_ratio [] v rest e small = absurd cc
value_back plane_ratio (x ∷ []) v rest e small = absurd cc
value_back plane_ratio (x ∷ y ∷ []) v rest e small = absurd cc
value_back plane_ratio (x ∷ y ∷ w ∷ words) c rest e small = plane_back x y w words c rest e small
value_back space_ratio [] v rest e small = absurd cc
value_back space_ratio (x ∷ []) v rest e small = absurd cc
value_back space_ratio (x ∷ y ∷ []) v rest e small = absurd cc
value_back space_ratio (x ∷ y ∷ z ∷ []) v rest e small = absurd cc
value_back space_ratio (x ∷ y ∷ z ∷ w ∷ words) c rest e small = space_back x y z w words c rest e small
value_back blocker [] v rest e small = absurd cc
value_back blocker (word ∷ words) b rest e small =
    one_back (blocker_of word) (λ c. c) word (blocker_text b) words b rest
    (λ c read is. blocker_back (bytes_eq word (codes "box")) word b refl (read ∙ ap (λ (x : Blocker). Some x) is) small) e
