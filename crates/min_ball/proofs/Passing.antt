-- There are at most 10000 points in a ball.
use Rattle.std.proofs.Common.{◌≤◌, length}
use Rattle.corral.specs.declared.items.Items.{Items}
use Rattle.corral.specs.declared.items.Items.TheVariants.{Points, Differences}
use Rattle.corral.specs.Items.{first_points}

pub few_points : {K P : Type 0} (items : Items K P) → length (first_points items) ≤ 10000
few_points (Points cloud) = cloud.limited
few_points (Differences p q) = p.limited
