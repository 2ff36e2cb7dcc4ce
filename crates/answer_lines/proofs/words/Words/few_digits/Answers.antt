use Rattle.std.proofs.Common.{◌≡◌, ◌∙◌, sym, ap, [], ◌<◌, ◌+◌, ◌-◌, length, length-drop, pos, Some, take, drop, get_or, arith}
use Rattle.std.specs.List.{slice_split}
use Rattle.std.proofs.lemmas.List.{take_all}
use Rattle.std.proofs.lemmas.Grind.{common_steps}
use Rattle.answer_lines.specs.Lines.{words_in, words_left}
use Rattle.answer_lines.proofs.FewDigits.{is_blank, last_word, next_word, natural_first}
use Rattle.answer_lines.proofs.words.Words.few_digits.Goals as goal
use Rattle.answer_lines.proofs.words.Words.few_digits.Goals.{then-count-gt1, else-count-gt1}

pub returns-then-count-text-clause-number : goal.returns-then-count-text-clause-number
returns-then-count-text-clause-number c =
    let text = c.in_ok-text.text.now in
    let read = c.leading_number-size in
    let count = read.result.1 in
    let first : 1 < count → get_or text 0 0 ≡ 48 → ⊥ = λ several zero. grind (arith, common_steps) in
    let word = last_word text count (omega arith) read.ensures.digits in
    natural_first text count (words_left c.args.self) [] (omega arith) read.ensures.within first read.ensures.digits (ap words_in c.in_ok-text.was ∙ word)
    ∙ ap (λ n. Some (pos n, [])) (sym read.ensures.number)

pub returns-then-text-count-eq32-clause-number : goal.returns-then-text-count-eq32-clause-number
returns-then-text-count-eq32-clause-number c =
    let text = c.in_ok-text.text.now in
    let read = c.leading_number-size in
    let count = read.result.1 in
    let first : 1 < count → get_or text 0 0 ≡ 48 → ⊥ = λ several zero. grind (arith, common_steps) in
    let within : count < length text = grind (arith, common_steps) in
    let blank : get_or text count 0 ≡ 32 = grind (arith, common_steps) in
    let behind : take (length text - (count + 1)) (drop (count + 1) text) ≡ drop (count + 1) text = take_all (length text - (count + 1)) (drop (count + 1) text) (omega (arith, length-drop (count + 1) text)) in
    let others : words_left c.new.result ≡ slice_split is_blank (drop (count + 1) text) = c.new.ensures ∙ ap (slice_split is_blank) behind in
    let word = next_word text count within read.ensures.digits blank in
    natural_first text count (words_left c.args.self) (slice_split is_blank (drop (count + 1) text)) (omega arith) read.ensures.within first read.ensures.digits (ap words_in c.in_ok-text.was ∙ word)
    ∙ (λ i. Some (pos (sym read.ensures.number i), sym others i))
