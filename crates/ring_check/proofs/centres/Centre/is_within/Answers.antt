use Rattle.std.proofs.Common.{subst, ℕ, ℤ, Bool, ◌↔◌, IsTrue, SFits, to_z-of_z, rules}
use mir.Syntax.{w128}
use Rattle.integers.proofs.Lists.{clash}
use Rattle.bounds_model.specs.Numbers.{IsWithin}
use Rattle.ring_check.proofs.RingNumbers.{back128}
use Rattle.ring_check.proofs.centres.Centre.is_within.Goals as goal

-- what the test of a number says of it
of_bits : {yes : Bool} {n : ℕ} {z : ℤ} → SFits w128 z → (IsTrue yes ↔ IsWithin n (back128 z)) → IsTrue yes ↔ IsWithin n z
of_bits {yes} {n} fits test = subst (λ v. IsTrue yes ↔ IsWithin n v) (to_z-of_z fits) test

pub returns-then-not-is_within : goal.returns-then-not-is_within
returns-then-not-is_within c =
    let fits : SFits w128 c.args.self.w = search rules in
    (λ no. absurd (cc no), λ h. absurd (clash ((of_bits fits c.is_within.ensures).1 h.w) c.if-not-is_within.true))

pub returns-then-not-is_within-2 : goal.returns-then-not-is_within-2
returns-then-not-is_within-2 c =
    let fits : SFits w128 c.args.self.x = search rules in
    (λ no. absurd (cc no), λ h. absurd (clash ((of_bits fits c.is_within-2.ensures).1 h.x) c.if-not-is_within-2.true))

pub returns-then-not-is_within-3 : goal.returns-then-not-is_within-3
returns-then-not-is_within-3 c =
    let fits : SFits w128 c.args.self.y = search rules in
    (λ no. absurd (cc no), λ h. absurd (clash ((of_bits fits c.is_within-3.ensures).1 h.y) c.if-not-is_within-3.true))

pub returns : goal.returns
returns c =
    let fits_w : SFits w128 c.args.self.w = search rules in
    let fits_x : SFits w128 c.args.self.x = search rules in
    let fits_y : SFits w128 c.args.self.y = search rules in
    let fits_z : SFits w128 c.args.self.z = search rules in (
      λ yes. record {
        w = (of_bits fits_w c.is_within.ensures).0 c.if-not-is_within.false;
        x = (of_bits fits_x c.is_within-2.ensures).0 c.if-not-is_within-2.false;
        y = (of_bits fits_y c.is_within-3.ensures).0 c.if-not-is_within-3.false;
        z = (of_bits fits_z c.is_within-4.ensures).0 yes;
      },
      λ h. (of_bits fits_z c.is_within-4.ensures).1 h.z,
    )
