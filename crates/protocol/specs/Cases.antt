-- Worked cases, computed over the definitions.
use Rattle.std.specs.Prelude.{◌≡◌, ℕ, true, false, List, [], ◌∷◌}
use Rattle.books.specs.Cases.{ClashCases}
use Rattle.terms.specs.declared.calls.Call.{Call}
use Rattle.terms.specs.declared.calls.Call.TheVariants.{Propose, Receive}
use Rattle.terms.specs.declared.voters.Voters.{Voters}
use Rattle.protocol.specs.Counts.{tolerated, electing, confirming, recovering, blocking_number}
use Rattle.protocol.specs.State.{State, blank}
use Rattle.protocol.specs.Steps.{recovered}
use Rattle.protocol.specs.Histories.{history}
use Rattle.protocol.specs.Confirms.{counter}

-- all the counts of n boxes
pub record Counted (n f voters fast recover give_up : ℕ) : Type 0 where
  pub tolerates : tolerated n ≡ f
  pub elects : electing n ≡ voters
  pub confirms : confirming n ≡ fast
  pub recovers : recovering n ≡ recover
  pub blocks : blocking_number n ≡ give_up

-- five boxes led by box 0, with one job that the boxes named have received
abbrev pub received_by : List Call → State ℕ
received_by calls = history counter 9 (record { size = 5; leader = 0; fast = true }) (Propose blank ∷ calls)

-- boxes 0, 1 and 2
abbrev pub first_three : Voters
first_three = record { named = true ∷ true ∷ true ∷ false ∷ false ∷ false ∷ false ∷ false ∷ false ∷ false ∷ [] }

pub record Cases : Type 0 where
  pub one_box : Counted 1 0 1 1 1 1
  pub three_boxes : Counted 3 1 2 3 2 1
  pub five_boxes : Counted 5 2 3 4 2 2
  pub seven_boxes : Counted 7 3 4 6 3 2
  pub nine_boxes : Counted 9 4 5 7 3 3
  -- slots 7 and 7, 7 and 8; vehicle 3 at 8 to 10 with 10 to 12, with 9 to 12, with vehicle 4
  pub clashes : ClashCases (true ∷ false ∷ false ∷ true ∷ false ∷ [])
  -- held by pools 0 and 1 of the voters 0, 1, 2; and by pool 0 alone
  pub held_by_two : recovered (received_by (Receive 0 0 ∷ Receive 1 0 ∷ [])) first_three 0 ≡ true
  pub held_by_one : recovered (received_by (Receive 0 0 ∷ [])) first_three 0 ≡ false
