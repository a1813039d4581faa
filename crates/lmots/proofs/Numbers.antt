-- The numbers of each type follow from the width of its digits.
use Rattle.std.proofs.Common.{◌≤◌, refl, lit<, lit≤}
use Rattle.lmots.specs.declared.ots_type.OtsType.{OtsType}
use Rattle.lmots.specs.declared.ots_type.OtsType.TheVariants.{W1, W2, W4, W8}
use Rattle.lmots.specs.OtsType.{FollowFromWidth, chain_count}

pub follow : (kind : OtsType) → FollowFromWidth kind
follow W1 = record { u = 256; v = 9; digest = refl; enough = lit< tt; fewest = lit≤ tt; chains = refl; shifted = refl }
follow W2 = record { u = 128; v = 5; digest = refl; enough = lit< tt; fewest = lit≤ tt; chains = refl; shifted = refl }
follow W4 = record { u = 64; v = 3; digest = refl; enough = lit< tt; fewest = lit≤ tt; chains = refl; shifted = refl }
follow W8 = record { u = 32; v = 2; digest = refl; enough = lit< tt; fewest = lit≤ tt; chains = refl; shifted = refl }

pub few_chains : (kind : OtsType) → chain_count kind ≤ 265
few_chains W1 = lit≤ tt
few_chains W2 = lit≤ tt
few_chains W4 = lit≤ tt
few_chains W8 = lit≤ tt
