use Rattle.std.proofs.Common.{refl}
use Rattle.protocol.proofs.theorem.confirmations_happen.Goals as goal

-- src/theorem.rt
pub returns : goal.returns
returns c = record { by_one = refl; by_three = refl; by_five = refl; by_seven = refl; by_nine = refl }
