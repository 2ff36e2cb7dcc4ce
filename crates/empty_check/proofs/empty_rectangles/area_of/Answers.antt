use Rattle.std.proofs.Common.{◌≡◌, ◌∙◌, ap₂, ℤ, ◌-ℤ◌, ◌*ℤ◌, to_z, of_z, w32, SFits, to_z-of_z, rules}
use Rattle.empty_check.proofs.empty_rectangles.area_of.Goals as goal

-- a difference, as the code has it
difference : {a b v w : ℤ} → SFits w32 a → SFits w32 b → a ≡ v → b ≡ w → (to_z w32 (of_z w32 a) -ℤ to_z w32 (of_z w32 b)) ≡ (v -ℤ w)
difference h k e f = ap₂ ◌-ℤ◌ (to_z-of_z h ∙ e) (to_z-of_z k ∙ f)

pub returns : goal.returns
returns c =
    let l : SFits w32 c.l.result = search rules in
    let r : SFits w32 c.r.result = search rules in
    let b : SFits w32 c.b.result = search rules in
    let t : SFits w32 c.t.result = search rules in
    ap₂ ◌*ℤ◌ (c.length.ensures.length ∙ difference r l c.r.ensures.value c.l.ensures.value) (c.length-2.ensures.length ∙ difference t b c.t.ensures.value c.b.ensures.value)
