-- Confirmations do happen: on one box to nine, a job that every box receives and answers becomes fast.
use Rattle.std.specs.Prelude.{◌≡◌, ℕ, zero, suc, true, List, [], ◌∷◌, ◌++◌, None}
use Rattle.base.specs.Meaning.{Meaning}
use Rattle.terms.specs.declared.calls.Call.{Call}
use Rattle.terms.specs.declared.calls.Call.TheVariants.{Propose, Receive, Hear}
use Rattle.terms.specs.declared.answers.Phase.{Phase}
use Rattle.terms.specs.declared.answers.Phase.TheVariants.{Fast}
use Rattle.protocol.specs.State.{blank}
use Rattle.protocol.specs.Histories.{history}

-- a book that counts its jobs from 7 on, all of which clash
abbrev pub counter : Meaning ℕ
counter = record { initial = 7; misfit = λ x. None; clashes = λ a b. true; result = λ n x. n; after = λ n x. suc n }

abbrev pub all_receive : ℕ → List Call
all_receive zero = []
all_receive (suc r) = Receive r 0 ∷ all_receive r

abbrev pub all_hear : ℕ → List Call
all_hear zero = []
all_hear (suc r) = Hear r 0 ∷ all_hear r

-- n boxes, led by the last of them: the phase of the first job after all have received and all answers are heard
abbrev pub phase_among : ℕ → ℕ → Phase
phase_among n leader =
    (history counter 9 (record { size = n; leader = leader; fast = true }) (Propose blank ∷ all_receive n ++ all_hear n)).jobs.phase 0

pub record ConfirmationsHappen : Type 0 where
  pub by_one : phase_among 1 0 ≡ Fast 7 1
  pub by_three : phase_among 3 2 ≡ Fast 7 1
  pub by_five : phase_among 5 4 ≡ Fast 7 1
  pub by_seven : phase_among 7 6 ≡ Fast 7 1
  pub by_nine : phase_among 9 8 ≡ Fast 7 1
