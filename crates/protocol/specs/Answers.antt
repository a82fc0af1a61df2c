-- What answers say, and what the client makes of them.
use Rattle.std.specs.Prelude.{ℕ, zero, suc, Bool, true, false, cond, ◌==◌, nat_le}
use Rattle.terms.specs.declared.answers.Reply.{Reply}
use Rattle.terms.specs.declared.answers.Reply.TheVariants.{No, Yes, Told}
use Rattle.terms.specs.declared.answers.Answer.{Answer}
use Rattle.terms.specs.declared.answers.Answer.TheVariants.{Empty, Transit, Heard}
use Rattle.terms.specs.declared.answers.Phase.{Phase}
use Rattle.terms.specs.declared.answers.Phase.TheVariants.{Waiting, Slow, Fast}
use Rattle.terms.specs.Tests.{tally}
use Rattle.protocol.specs.Counts.{confirming, blocking_number}

-- what was heard; where nothing was, a no that no epoch has
abbrev pub heard : Answer → Reply
heard Empty = No 0
heard (Transit x) = No 0
heard (Heard x) = x

-- a yes of epoch e, a leader's or another's
abbrev pub agrees : ℕ → Reply → Bool
agrees e (No d) = false
agrees e (Yes d) = d == e
agrees e (Told d t) = d == e

-- a no that was heard
abbrev pub declined : Answer → Bool
declined Empty = false
declined (Transit x) = false
declined (Heard (No e)) = true
declined (Heard (Yes e)) = false
declined (Heard (Told e t)) = false

abbrev pub in_transit : Answer → Bool
in_transit Empty = false
in_transit (Transit x) = true
in_transit (Heard x) = false

-- the answer once it has come to the client
abbrev pub delivered : Answer → Answer
delivered Empty = Empty
delivered (Transit x) = Heard x
delivered (Heard x) = Heard x

-- The client's decision on a job's answers, by box, among n boxes.
-- how many heard answers agree in epoch e
abbrev pub agreeing : ℕ → (ℕ → Answer) → ℕ → ℕ
agreeing n answers e = tally n (λ r. agrees e (heard (answers r)))

abbrev pub declining : ℕ → (ℕ → Answer) → ℕ
declining n answers = tally n (λ r. declined (answers r))

-- a told result is confirmed by enough heard answers of its epoch
abbrev pub by_told : ℕ → (ℕ → Answer) → Reply → Phase → Phase
by_told n answers (No e) other = other
by_told n answers (Yes e) other = other
by_told n answers (Told e t) other = cond (nat_le (confirming n) (agreeing n answers e)) (Fast t e) other

-- the boxes below r looked at for a told result that is confirmed
abbrev pub by_any_told : ℕ → (ℕ → Answer) → ℕ → Phase → Phase
by_any_told n answers zero other = other
by_any_told n answers (suc r) other = by_told n answers (heard (answers r)) (by_any_told n answers r other)

abbrev pub decision : ℕ → (ℕ → Answer) → Phase
decision n answers =
    by_any_told n answers n (cond (nat_le (blocking_number n) (declining n answers)) Slow Waiting)

-- a phase that is settled stays
abbrev pub decide : ℕ → (ℕ → Answer) → Phase → Phase
decide n answers Waiting = decision n answers
decide n answers Slow = Slow
decide n answers (Fast t e) = Fast t e
