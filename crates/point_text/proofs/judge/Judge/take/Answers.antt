use Rattle.std.proofs.Common.{◌≡◌, ◌∙◌, ◌+◌, ◌<◌, ◌≤◌, ◌∷◌, [], refl, sym, ap, inl, inr, arith, true, Err, Some, length}
use Rattle.bounds_model.specs.PointText.{says_nothing, ends_set, says_point, says_scale, bad_form, out_of_bounds, bad_line, out_of_range, too_many, sets_of, last_set, most_points}
use Rattle.point_text.proofs.SetLaws.{sets_of-nothing, sets_of-end, sets_of-point, sets_of-scale}
use Rattle.point_text.proofs.ScaleLaws.{scale_of-more, scale_of-first, begun-same, begun-now, scale_late, scale_far, scale_read, scale_taken}
use Rattle.point_text.proofs.Refusing.{fault_stays, without_fault, no_fault, accepts_next, refusal_of_next, point_taken, point_refused}
use Rattle.point_text.proofs.KeptPoints.{keeps_next}
use Rattle.point_text.proofs.judge.Judge.take.Goals as goal

pub returns-then-is_some-clause-judged : goal.returns-then-is_some-clause-judged
returns-then-is_some-clause-judged g c before meaning judged means = fault_stays c.args.self.now.fault before _ _ _ (sym c.is_some.ensures ∙ c.if-is_some.true) judged

pub returns-in-Nothing-clause-judged : goal.returns-in-Nothing-clause-judged
returns-in-Nothing-clause-judged g c before meaning judged means =
    let judge = c.args.self.now in
    let said : says_nothing ≡ meaning = rw c.in-Nothing.is at means in
    let is = without_fault judge.fault _ _ c.if-is_some.ensures judged in
    let scale = scale_of-more before (says_nothing ∷ []) refl ∙ is.scale in
    let begun = begun-same before says_nothing refl ∙ is.begun in
    rw⁻¹ said (rw (no_fault judge.fault c.if-is_some.ensures)
    (accepts_next judge.sets judge.sets judge.lines judge.scale judge.scale judge.begun judge.begun before says_nothing is refl (rw (sets_of-nothing before) is.keeps) scale begun))

pub returns-in-EndOfSet-clause-judged : goal.returns-in-EndOfSet-clause-judged
returns-in-EndOfSet-clause-judged g c before meaning judged means =
    let judge = c.args.self.now in
    let said : ends_set ≡ meaning = rw c.in-EndOfSet.is at means in
    let is = without_fault judge.fault _ _ c.if-is_some.ensures judged in
    let keeps = c.end_set.ensures.sets (sets_of before) is.keeps in
    let scale = scale_of-more before (ends_set ∷ []) refl ∙ is.scale in
    rw⁻¹ said (rw (no_fault judge.fault c.if-is_some.ensures)
    (accepts_next judge.sets c.end_set.new.self judge.lines judge.scale judge.scale judge.begun true before ends_set is refl (rw (sets_of-end before) keeps) scale (begun-now before ends_set refl)))

pub returns-in-Scale-clause-judged : goal.returns-in-Scale-clause-judged
returns-in-Scale-clause-judged g c before meaning judged means =
    let (scale, said, clamped) = rw c.in-Scale.is at means in
    let is = without_fault c.args.self.now.fault _ _ c.if-is_some.ensures judged in
    rw⁻¹ said (refusal_of_next before (says_scale scale) is.accepted ∙ (scale_late before scale (is.begun ∙ c.if-self.true) ∙ ap (λ n. Some (bad_line (n + 1))) is.as_many))

pub returns-in-Scale-2-clause-judged : goal.returns-in-Scale-2-clause-judged
returns-in-Scale-2-clause-judged g c before meaning judged means =
    let (scale, said, clamped) = rw c.in-Scale-2.is at means in
    let is = without_fault c.args.self.now.fault _ _ c.if-is_some.ensures judged in
    let far : 1 ≤ c.in-Scale-2.scale → c.in-Scale-2.scale ≤ 1000 → ⊥ = λ from to. elim c.if-scale-gt-MOST_UNITS.either [ inl none ↦ omega (arith, none, from) | inr past ↦ omega (arith, past.1, to) ] in
    rw⁻¹ said (refusal_of_next before (says_scale scale) is.accepted
    ∙ (scale_far before c.in-Scale-2.scale scale (is.begun ∙ c.if-self.false) clamped far ∙ ap (λ n. Some (out_of_range (n + 1))) is.as_many))

pub returns-in-Scale-3-clause-judged : goal.returns-in-Scale-3-clause-judged
returns-in-Scale-3-clause-judged g c before meaning judged means =
    let judge = c.args.self.now in
    let size = c.in-Scale-3.scale in
    let (scale, said, clamped) = rw c.in-Scale-3.is at means in
    let is = without_fault judge.fault _ _ c.if-is_some.ensures judged in
    let same : c.in-Scale-2.scale ≡ size = let one = c.in-Scale-2.is in let other = c.in-Scale-3.is in cc in
    let range = c.if-scale-gt-MOST_UNITS.false in
    let to : size ≤ 1000 = omega (arith, same, range.1) in
    let from : 1 ≤ size = let some = range.0 in omega (arith, same, some) in
    let read : scale ≡ size = scale_read size scale clamped to in
    let first = is.begun ∙ c.if-self.false in
    let taken = scale_taken before scale first (omega (arith, read, from)) (omega (arith, read, to)) in
    rw⁻¹ said (rw (no_fault judge.fault c.if-is_some.ensures)
    (accepts_next judge.sets judge.sets judge.lines judge.scale size judge.begun true before (says_scale scale) is taken (rw (sets_of-scale before scale) is.keeps) (scale_of-first before scale first ∙ read)
    (begun-now before (says_scale scale) refl)))

pub returns-in-Ok-clause-judged : goal.returns-in-Ok-clause-judged
returns-in-Ok-clause-judged g c before meaning judged means =
    let judge = c.args.self.now in
    let p = c.in-Point.p in
    let said : says_point p ≡ meaning = rw c.in-Point.is at means in
    let is = without_fault judge.fault _ _ c.if-is_some.ensures judged in
    let other : length (last_set (sets_of before)) ≡ most_points → ⊥ = λ full. let wrong = (c.in-Ok.ensures.full (sets_of before) is.keeps).1 full in cc in
    let free : length (last_set (sets_of before)) < most_points = omega (arith, is.keeps.room, other) in
    let keeps = c.in-Ok.ensures.sets (sets_of before) is.keeps in
    let scale = scale_of-more before (says_point p ∷ []) refl ∙ is.scale in
    rw⁻¹ said (rw (no_fault judge.fault c.if-is_some.ensures)
    (accepts_next judge.sets c.add.new.self judge.lines judge.scale judge.scale judge.begun true before (says_point p) is (point_taken before p free) (rw (sets_of-point before p) keeps) scale
    (begun-now before (says_point p) refl)))

pub returns-in-Err-Full-clause-judged : goal.returns-in-Err-Full-clause-judged
returns-in-Err-Full-clause-judged g c before meaning judged means =
    let judge = c.args.self.now in
    let p = c.in-Point.p in
    let said : says_point p ≡ meaning = rw c.in-Point.is at means in
    let is = without_fault judge.fault _ _ c.if-is_some.ensures judged in
    let full : length (last_set (sets_of before)) ≡ most_points = (c.in-Err-Full.ensures.full (sets_of before) is.keeps).0 (ap Err c.in-Err-Full.field-0-is) in
    rw⁻¹ said (refusal_of_next before (says_point p) is.accepted ∙ (point_refused before p full ∙ ap (λ n. Some (too_many (n + 1))) is.as_many))

pub returns-in-Err-OutOfMemory-clause-judged : goal.returns-in-Err-OutOfMemory-clause-judged
returns-in-Err-OutOfMemory-clause-judged g c before meaning judged means =
    let said : says_point c.in-Point.p ≡ meaning = rw c.in-Point.is at means in
    let is = without_fault c.args.self.now.fault _ _ c.if-is_some.ensures judged in
    rw⁻¹ said (keeps_next [] before c.in-Point.p is.accepted)

pub returns-in-Bad-clause-judged : goal.returns-in-Bad-clause-judged
returns-in-Bad-clause-judged g c before meaning judged means =
    let said : bad_form ≡ meaning = rw c.in-Bad.is at means in
    let is = without_fault c.args.self.now.fault _ _ c.if-is_some.ensures judged in
    rw⁻¹ said (refusal_of_next before bad_form is.accepted ∙ ap (λ n. Some (bad_line (n + 1))) is.as_many)

pub returns-in-OutOfRange-clause-judged : goal.returns-in-OutOfRange-clause-judged
returns-in-OutOfRange-clause-judged g c before meaning judged means =
    let said : out_of_bounds ≡ meaning = rw c.in-OutOfRange.is at means in
    let is = without_fault c.args.self.now.fault _ _ c.if-is_some.ensures judged in
    rw⁻¹ said (refusal_of_next before out_of_bounds is.accepted ∙ ap (λ n. Some (out_of_range (n + 1))) is.as_many)
