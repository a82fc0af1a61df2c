use Rattle.std.proofs.Common.{ℕ, refl}
use Rattle.protocol.specs.Counts.{tolerated, electing, confirming, recovering, blocking_number}
use Rattle.protocol.specs.Cases.{Counted}
use Rattle.protocol.proofs.theorem.cases.Goals as goal

-- the counts are what they compute to
counts : (n : ℕ) → Counted n (tolerated n) (electing n) (confirming n) (recovering n) (blocking_number n)
counts n = record { tolerates = refl; elects = refl; confirms = refl; recovers = refl; blocks = refl }

-- src/theorem.rt
pub returns : goal.returns
returns c = record {
  one_box = counts 1;
  three_boxes = counts 3;
  five_boxes = counts 5;
  seven_boxes = counts 7;
  nine_boxes = counts 9;
  clashes = record { same_slot = refl; other_slot = refl; next_hours = refl; common_hour = refl; other_vehicle = refl; all_fit = refl; code = refl };
  held_by_two = refl;
  held_by_one = refl;
}
