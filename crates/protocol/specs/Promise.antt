-- The promise: no history of calls breaks a confirmation.
use Rattle.std.specs.Prelude.{◌≡◌, ℕ, ◌≤◌, Bool, true, false, ◌&&◌, ◌≢◌, ◌⊎◌, List, [], ◌∷◌, ◌++◌, length, Some}
use Rattle.base.specs.Meaning.{Meaning}
use Rattle.protocol.specs.declared.setting.Setting.{Setting}
use Rattle.terms.specs.declared.calls.Call.{Call}
use Rattle.terms.specs.declared.calls.Call.TheVariants.{Receive}
use Rattle.terms.specs.declared.answers.Reply.TheVariants.{Told}
use Rattle.terms.specs.declared.answers.Answer.TheVariants.{Transit}
use Rattle.terms.specs.declared.answers.Phase.TheVariants.{Fast}
use Rattle.terms.specs.Tests.{tally, any_of, mem, distinct}
use Rattle.protocol.specs.Counts.{electing, recovering}
use Rattle.protocol.specs.State.{State, meets}
use Rattle.protocol.specs.Histories.{history}

module _ {S : Type 0} (m : Meaning S) where
  -- c is confirmed: its client has it as fast, with the told result t, by the answers of epoch e
  abbrev pub Confirmed : State S → ℕ → ℕ → ℕ → Type 0
  Confirmed s c t e = s.jobs.phase c ≡ Fast t e

  -- c waits, and no job ahead of it meets it
  abbrev pub WaitsFirst : State S → ℕ → Type 0
  WaitsFirst s c =
      (ahead : List ℕ) × (behind : List ℕ) × (s.lead.waiting ≡ ahead ++ c ∷ behind) × (any_of (meets m s.jobs.job c) ahead ≡ false)

  -- Of one point of a history.
  pub record Kept (s : State S) : Type 0 where
    -- a confirmed job is in the log, or waits with nothing ahead of it that meets it
    pub in_place : (c t e : ℕ) → Confirmed s c t e → (mem c s.lead.log ≡ true) ⊎ WaitsFirst s c
    -- while it is not in the log, enough pools of any f + 1 boxes hold it
    pub pooled : (c t e : ℕ) → Confirmed s c t e → mem c s.lead.log ≡ false →
        (some : ℕ → Bool) → tally s.fixed.size some ≡ electing s.fixed.size →
        recovering s.fixed.size ≤ tally s.fixed.size (λ r. some r && s.boxes.pool r c)
    -- once it is in the log, the result given is the one told
    pub answered : (c t e : ℕ) → Confirmed s c t e → mem c s.lead.log ≡ true → s.jobs.given c ≡ Some t
    -- the log holds no job twice
    pub once : distinct s.lead.log ≡ true
    -- the log has room for all that waits
    pub roomy : length (s.lead.log ++ s.lead.waiting) ≤ s.fixed.capacity

  -- From the yes that told a confirmed job's result until the job is in the log, the log takes in no other job that meets it:
  -- box r told c's result in epoch e after the calls h₁; in the end epoch e confirms c; d is in the log before c, and meets it.
  abbrev pub NeverOvertaken : ℕ → Setting → Type 0
  NeverOvertaken capacity k =
      (h₁ h₂ h₃ : List Call) (r c e t u : ℕ) →
      (history m capacity k (h₁ ++ Receive r c ∷ [])).boxes.answer r c ≡ Transit (Told e t) →
      Confirmed (history m capacity k (h₁ ++ Receive r c ∷ h₂ ++ h₃)) c u e →
      mem c (history m capacity k (h₁ ++ Receive r c ∷ h₂)).lead.log ≡ false →
      (d : ℕ) → d ≢ c →
      mem d (history m capacity k (h₁ ++ Receive r c ∷ h₂)).lead.log ≡ true →
      meets m (history m capacity k (h₁ ++ Receive r c ∷ h₂)).jobs.job c d ≡ true →
      mem d (history m capacity k h₁).lead.log ≡ true

  -- A confirmed job stays confirmed.
  abbrev pub StaysConfirmed : ℕ → Setting → Type 0
  StaysConfirmed capacity k =
      (h₁ h₂ : List Call) (c t e : ℕ) →
      Confirmed (history m capacity k h₁) c t e → Confirmed (history m capacity k (h₁ ++ h₂)) c t e

  -- a state that some history leads to
  abbrev pub Reached : ℕ → State S → Type 0
  Reached capacity s = (k : Setting) × (calls : List Call) × (s ≡ history m capacity k calls)

-- The whole, of a book and a log's capacity: for every setting, every history and every point of it.
pub record ConfirmationsStand {S : Type 0} (m : Meaning S) (capacity : ℕ) : Type 0 where
  pub every_point : (k : Setting) (calls : List Call) → Kept m (history m capacity k calls)
  pub never_overtaken : (k : Setting) → NeverOvertaken m capacity k
  pub stays_confirmed : (k : Setting) → StaysConfirmed m capacity k
