use Rattle.std.proofs.Common.{◌≡◌, ◌+◌, ◌-◌, ◌∷◌, ◌++◌, ◌∙◌, refl, sym, ap, suc, take, drop, length, length-drop, arith}
use Rattle.std.proofs.Math.Seq.{drop-cons}
use Rattle.std.proofs.lemmas.List.{take-append-drop, take_all, length-take-le}
use Rattle.point_text.proofs.PassedLines.{reads_passed}
use Rattle.point_text.proofs.reader.Reader.pass_lines.Goals as goal

pub returns-in-Some : goal.returns-in-Some
returns-in-Some c =
    let piece = c.args.piece.now in
    let index = c.in-Some.index in
    let within = c.in-Some.ensures.within in
    let rest : take (length piece - (index + 1)) (drop (index + 1) piece) ≡ drop (index + 1) piece =
    take_all (length piece - (index + 1)) (drop (index + 1) piece) (let size = length-drop (index + 1) piece in omega (arith, size)) in
    let next : suc index ≡ index + 1 = omega arith in
    let cut : drop index piece ≡ 10 ∷ drop (index + 1) piece = drop-cons piece index 0 within ∙ (ap (λ b. b ∷ drop (suc index) piece) c.in-Some.ensures.here ∙ ap (λ n. 10 ∷ drop n piece) next) in
    let parts : piece ≡ take index piece ++ 10 ∷ drop (index + 1) piece = sym (take-append-drop index piece) ∙ ap (λ ys. take index piece ++ ys) cut in
    let size = length-take-le index piece (omega (arith, within)) in
    reads_passed c.args.self.now _ piece (take index piece) _ (sym c.if-not-has_fault.ensures) (parts ∙ ap (λ ys. take index piece ++ 10 ∷ ys) (sym rest)) (omega (arith, size)) refl c.new-self.ensures
