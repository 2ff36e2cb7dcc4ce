use Rattle.std.proofs.Common.{◌≡◌, sym, subst, refl, length, ◌<◌, arith}
use Rattle.extremal_kgon.specs.Rows.{IsZeroRow}
use Rattle.extremal_kgon.proofs.NextRows.{zeros-more}
use Rattle.extremal_kgon.proofs.rows.zero_row.Goals as goal

pub later-init : goal.later-init
later-init c = subst (IsZeroRow 0) (sym c.new-row.ensures) (record { as_many = refl; zero = λ i. refl })

pub push-requires : goal.push-requires
push-requires c = let room : length c.later.row.items < 128 = omega (arith, c.later.invariant.as_many, c.requires) in (omega arith, room)

pub later-preserved : goal.later-preserved
later-preserved c = zeros-more c.later.row.items c.push.new.self.items c.later._i c.later.invariant c.push.ensures.items

pub returns : goal.returns
returns c = let all : c.later._i ≡ c.args.count = omega arith in subst (λ n. IsZeroRow n c.later.row.items) all c.later.invariant
