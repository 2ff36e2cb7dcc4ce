use Rattle.std.proofs.Common.{◌≡◌, ◌∙◌, refl, sym, ap, ℤ, Option, None, Some, rules, SFits, w64, to_z-of_z}
use Rattle.command_line.specs.Values.{coordinate, before_comma, after_comma}
use Rattle.command_line.proofs.Boxes.{box_of, box_of-no_bottom, box_of-no_right, box_of-no_top, frame_written-parts}
use Rattle.command_line.proofs.values.frame_written.Goals as goal

numbers : (l b r t l' b' r' t' : Option ℤ) → l ≡ l' → b ≡ b' → r ≡ r' → t ≡ t' → box_of l b r t ≡ box_of l' b' r' t'
numbers l b r t l' b' r' t' el eb er et = rw (el, eb, er, et) refl

pub returns-in_err-left : goal.returns-in_err-left
returns-in_err-left c =
    let parts =
    frame_written-parts c.args.word.now c.cut.result.0.now c.cut.result.1.now c.cut-2.result.0.now c.cut-2.result.1.now c.cut-3.result.0.now c.cut-3.result.1.now
    (c.cut.ensures.before ∙ ap before_comma c.as_bytes.ensures.value) (c.cut.ensures.after ∙ ap after_comma c.as_bytes.ensures.value) c.cut-2.ensures.before c.cut-2.ensures.after c.cut-3.ensures.before c.cut-3.ensures.after in
    let none : coordinate c.cut.result.0.now ≡ None = sym c.coordinate.ensures.number ∙ c.in_err-left.was in
    c.from_residual.ensures ∙ sym (parts ∙ ap (λ o. box_of o (coordinate c.cut-2.result.0.now) (coordinate c.cut-3.result.0.now) (coordinate c.cut-3.result.1.now)) none)

pub returns-in_err-bottom : goal.returns-in_err-bottom
returns-in_err-bottom c =
    let parts =
    frame_written-parts c.args.word.now c.cut.result.0.now c.cut.result.1.now c.cut-2.result.0.now c.cut-2.result.1.now c.cut-3.result.0.now c.cut-3.result.1.now
    (c.cut.ensures.before ∙ ap before_comma c.as_bytes.ensures.value) (c.cut.ensures.after ∙ ap after_comma c.as_bytes.ensures.value) c.cut-2.ensures.before c.cut-2.ensures.after c.cut-3.ensures.before c.cut-3.ensures.after in
    let none : coordinate c.cut-2.result.0.now ≡ None = sym c.coordinate-2.ensures.number ∙ c.in_err-bottom.was in
    c.from_residual-in_err-bottom.ensures ∙ sym (parts ∙ (ap (λ o. box_of (coordinate c.cut.result.0.now) o (coordinate c.cut-3.result.0.now) (coordinate c.cut-3.result.1.now)) none ∙ box_of-no_bottom (coordinate c.cut.result.0.now) (coordinate c.cut-3.result.0.now) (coordinate c.cut-3.result.1.now)))

pub returns-in_err-right : goal.returns-in_err-right
returns-in_err-right c =
    let parts =
    frame_written-parts c.args.word.now c.cut.result.0.now c.cut.result.1.now c.cut-2.result.0.now c.cut-2.result.1.now c.cut-3.result.0.now c.cut-3.result.1.now
    (c.cut.ensures.before ∙ ap before_comma c.as_bytes.ensures.value) (c.cut.ensures.after ∙ ap after_comma c.as_bytes.ensures.value) c.cut-2.ensures.before c.cut-2.ensures.after c.cut-3.ensures.before c.cut-3.ensures.after in
    let none : coordinate c.cut-3.result.0.now ≡ None = sym c.coordinate-3.ensures.number ∙ c.in_err-right.was in
    c.from_residual-in_err-right.ensures ∙ sym (parts ∙ (ap (λ o. box_of (coordinate c.cut.result.0.now) (coordinate c.cut-2.result.0.now) o (coordinate c.cut-3.result.1.now)) none ∙ box_of-no_right (coordinate c.cut.result.0.now) (coordinate c.cut-2.result.0.now) (coordinate c.cut-3.result.1.now)))

pub returns-in_err-top : goal.returns-in_err-top
returns-in_err-top c =
    let parts =
    frame_written-parts c.args.word.now c.cut.result.0.now c.cut.result.1.now c.cut-2.result.0.now c.cut-2.result.1.now c.cut-3.result.0.now c.cut-3.result.1.now
    (c.cut.ensures.before ∙ ap before_comma c.as_bytes.ensures.value) (c.cut.ensures.after ∙ ap after_comma c.as_bytes.ensures.value) c.cut-2.ensures.before c.cut-2.ensures.after c.cut-3.ensures.before c.cut-3.ensures.after in
    let none : coordinate c.cut-3.result.1.now ≡ None = sym c.coordinate-4.ensures.number ∙ c.in_err-top.was in
    c.from_residual-in_err-top.ensures ∙ sym (parts ∙ (ap (λ o. box_of (coordinate c.cut.result.0.now) (coordinate c.cut-2.result.0.now) (coordinate c.cut-3.result.0.now) o) none ∙ box_of-no_top (coordinate c.cut.result.0.now) (coordinate c.cut-2.result.0.now) (coordinate c.cut-3.result.0.now)))

pub returns : goal.returns
returns c =
    let parts =
    frame_written-parts c.args.word.now c.cut.result.0.now c.cut.result.1.now c.cut-2.result.0.now c.cut-2.result.1.now c.cut-3.result.0.now c.cut-3.result.1.now
    (c.cut.ensures.before ∙ ap before_comma c.as_bytes.ensures.value) (c.cut.ensures.after ∙ ap after_comma c.as_bytes.ensures.value) c.cut-2.ensures.before c.cut-2.ensures.after c.cut-3.ensures.before c.cut-3.ensures.after in
    let is_l : coordinate c.cut.result.0.now ≡ Some c.in_ok-left.left = sym c.coordinate.ensures.number ∙ c.in_ok-left.was in
    let is_b : coordinate c.cut-2.result.0.now ≡ Some c.in_ok-bottom.bottom = sym c.coordinate-2.ensures.number ∙ c.in_ok-bottom.was in
    let is_r : coordinate c.cut-3.result.0.now ≡ Some c.in_ok-right.right = sym c.coordinate-3.ensures.number ∙ c.in_ok-right.was in
    let is_t : coordinate c.cut-3.result.1.now ≡ Some c.in_ok-top.top = sym c.coordinate-4.ensures.number ∙ c.in_ok-top.was in
    let left : SFits w64 c.in_ok-left.left = search rules in
    let bottom : SFits w64 c.in_ok-bottom.bottom = search rules in
    let right : SFits w64 c.in_ok-right.right = search rules in
    let top : SFits w64 c.in_ok-top.top = search rules in
    simp to_z-of_z at c.frame_of.ensures ∙ sym (parts ∙ numbers _ _ _ _ _ _ _ _ is_l is_b is_r is_t)
