-- Cones and chords in two lists, and their lines.
use Rattle.std.proofs.Common.{◌≡◌, ◌∙◌, refl, sym, ap, ℕ, zero, suc, ◌+◌, ◌<◌, List, [], ◌∷◌, ◌++◌, length, map, drop, get_or, append_assoc, codes, arith}
use Rattle.std.specs.Prelude.{zip}
use Rattle.std.specs.List.{flat_map}
use Rattle.std.proofs.lemmas.List.{length-append, length-map, drop_more}
use Rattle.std.proofs.lemmas.Slice.Zip.{length-zip}
use Rattle.bounds_model.specs.AnswerText.LineFormats.{untitled}
use Rattle.bounds_model.specs.AnswerText.Kinds.{fan, chorded_fields, last_fields}
use Rattle.bounds_model.specs.AnswerText.Written.{format_line, part_bytes}
use Rattle.bounds_model.specs.Answers.{parallelogram}
use Rattle.bounds_model.specs.AnswerText.Kinds.{parallelogram_kind}
use Rattle.answers.specs.Answers.{parallelogram_of}
use Rattle.answers.specs.declared.fans.Dir.{Dir}
use Rattle.answers.specs.declared.fans.HalfCone.{HalfCone}
use Rattle.answers.specs.declared.parallelograms.Chord.{Chord}
use Rattle.answers.specs.declared.parallelograms.ParaAnswer.{ParaAnswer}
use Rattle.witness_format.specs.Bodies.{side_values, chorded_values, chorded_end_values, last_chord}
use Rattle.answer_lines.specs.Printed.{count_bytes}
use Rattle.answer_lines.proofs.PrintedWords.{one_behind}
use Rattle.witness_format.proofs.SaidAnswers.{parallelogram_is}

-- two lists of one length, each with an element more
pub zip_push : {A B : Type 0} (xs : List A) (ys : List B) (x : A) (y : B) → length xs ≡ length ys → zip (xs ++ x ∷ []) (ys ++ y ∷ []) ≡ zip xs ys ++ (x, y) ∷ []
zip_push [] [] x y e = refl
zip_push [] (v ∷ ys) x y e = absurd (omega arith)
zip_push (u ∷ xs) [] x y e = absurd (omega arith)
zip_push (u ∷ xs) (v ∷ ys) x y e = ap (λ zs. (u, v) ∷ zs) (zip_push xs ys x y (omega arith))

-- the lines of cones with their chords
abbrev pub chord_lines : List HalfCone → List Chord → List ℕ
chord_lines cones chords = flat_map (format_line (untitled chorded_fields)) (map chorded_values (zip cones chords))

-- the first of the lines that are left
pub lines_more : (cones : List HalfCone) (chords : List Chord) (i : ℕ) (cone : HalfCone) (chord : Chord) → i < length cones → i < length chords
    → chord_lines (drop i cones) (drop i chords) ≡ format_line (untitled chorded_fields) (chorded_values (get_or cones i cone, get_or chords i chord)) ++ chord_lines (drop (i + 1) cones) (drop (i + 1) chords)
lines_more cones chords i cone chord l m = λ j. chord_lines (drop_more cones i cone l j) (drop_more chords i chord m j)

-- the chord at the last index is the last one
pub last_is : (chords : List Chord) (n : ℕ) (d : Chord) → length chords ≡ n + 1 → get_or chords n d ≡ last_chord chords
last_is [] n d e = absurd (omega arith)
last_is (k ∷ []) zero d e = refl
last_is (k ∷ []) (suc n) d e = absurd (omega arith)
last_is (k ∷ l ∷ chords) zero d e = absurd (omega arith)
last_is (k ∷ l ∷ chords) (suc n) d e = last_is (l ∷ chords) n d (omega arith)

-- a chord behind those of the cones
zip_longer : (cones : List HalfCone) (chords : List Chord) (k : Chord) → length cones ≡ length chords → zip cones (chords ++ k ∷ []) ≡ zip cones chords
zip_longer [] [] k e = refl
zip_longer [] (l ∷ chords) k e = absurd (omega arith)
zip_longer (c ∷ cones) [] k e = absurd (omega arith)
zip_longer (c ∷ cones) (l ∷ chords) k e = ap (λ zs. (c, l) ∷ zs) (zip_longer cones chords k (omega arith))

-- is the last one
last_pushed : (chords : List Chord) (k : Chord) → last_chord (chords ++ k ∷ []) ≡ k
last_pushed [] k = refl
last_pushed (l ∷ []) k = refl
last_pushed (l ∷ m ∷ chords) k = last_pushed (m ∷ chords) k

-- a parallelogram whose last chord was read behind the others
pub read_parallelogram_is : (a : ParaAnswer) (chords : List Chord) (k : Chord) → a.chords ≡ chords ++ k ∷ [] → length a.fan.cones ≡ length chords
    → parallelogram_kind.answer a.size (side_values a.first a.first_span, (side_values a.second a.second_span, (map chorded_values (zip a.fan.cones chords), (chorded_end_values a.fan.last k, tt)))) ≡ parallelogram (parallelogram_of a)
read_parallelogram_is a chords k pushed amount =
    let pairs : zip a.fan.cones a.chords ≡ zip a.fan.cones chords = ap (zip a.fan.cones) pushed ∙ zip_longer a.fan.cones chords k amount in
    let last : last_chord a.chords ≡ k = ap last_chord pushed ∙ last_pushed chords k in
    (λ i. parallelogram_kind.answer a.size (side_values a.first a.first_span, (side_values a.second a.second_span, (map chorded_values (sym pairs i), (chorded_end_values a.fan.last (sym last i), tt)))))
    ∙ parallelogram_is a (omega (arith, amount, ap length pushed, length-append chords (k ∷ [])))

-- the lines of a fan with chords, written one behind the other
pub chords_printed : (one two three four : List ℕ) (cones : List HalfCone) (chords : List Chord) (dir : Dir) (k : Chord) → length chords ≡ length cones + 1 → two ≡ one ++ count_bytes (codes "fan") (length cones + 1)
    → three ≡ two ++ chord_lines cones chords → four ≡ three ++ format_line (untitled last_fields) (chorded_end_values dir (get_or chords (length cones) k))
    → four ≡ one ++ (part_bytes (fan chorded_fields) [] (map chorded_values (zip cones chords)) ++ format_line (untitled last_fields) (chorded_end_values dir (last_chord chords)))
chords_printed one two three four cones chords dir k amount first second third =
    let count : length (map chorded_values (zip cones chords)) ≡ length cones = omega (arith, length-map (zip cones chords) chorded_values, length-zip cones chords, amount) in
    let last = ap (λ (l : Chord). format_line (untitled last_fields) (chorded_end_values dir l)) (last_is chords (length cones) k amount) in
    let lines : two ≡ one ++ count_bytes (codes "fan") (length (map chorded_values (zip cones chords)) + 1) = first ∙ ap (λ (n : ℕ). one ++ count_bytes (codes "fan") (n + 1)) (sym count) in
    let fan_written = one_behind one two three (count_bytes (codes "fan") (length (map chorded_values (zip cones chords)) + 1)) (chord_lines cones chords) lines second in
    third ∙ (λ i. fan_written i ++ last i) ∙ append_assoc one (part_bytes (fan chorded_fields) [] (map chorded_values (zip cones chords))) (format_line (untitled last_fields) (chorded_end_values dir (last_chord chords)))
