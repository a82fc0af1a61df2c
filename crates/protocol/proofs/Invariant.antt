-- What holds of every state: the invariant that the calls keep.
use Rattle.std.proofs.Common.{◌≡◌, ℕ, ◌<◌, ◌≤◌, Bool, true, false, ◌≢◌, ◌⊎◌, ◌++◌, Some, refl, zero-le, arith}
use Rattle.terms.specs.Tests.{tally, mem, distinct}
use Rattle.std.proofs.lemmas.Bool.Decides.{nat_tests}
use Rattle.terms.specs.declared.answers.Reply.TheVariants.{Told}
use Rattle.terms.specs.declared.answers.Answer.{Answer}
use Rattle.terms.specs.declared.answers.Answer.TheVariants.{Empty}
use Rattle.terms.specs.declared.answers.Phase.TheVariants.{Fast}
use Rattle.base.specs.Meaning.{Meaning}
use Rattle.protocol.specs.declared.setting.Setting.{Setting}
use Rattle.protocol.specs.State.{State, meets, new_group}
use Rattle.protocol.specs.Refusals.{job_limit}
use Rattle.protocol.specs.Counts.{confirming}
use Rattle.protocol.proofs.Said.{said}
use Rattle.protocol.specs.Answers.{agrees}
use Rattle.terms.proofs.Lists.{clear}

-- `confirming` boxes agreed to c in epoch e
abbrev pub Quorum : ℕ → (ℕ → ℕ → Answer) → ℕ → ℕ → Type 0
Quorum n answer e c = confirming n ≤ tally n (λ r. agrees e (said (answer r c)))

-- a told result of this kind counts: its epoch is the present one, or it has its quorum
abbrev pub Live : {S : Type 0} → State S → ℕ → ℕ → Type 0
Live s e c = (e ≡ s.lead.epoch) ⊎ Quorum s.fixed.size s.boxes.answer e c

-- t is and stays the result of c: given already, or c waits clear and the book would give t now
abbrev pub Firm : {S : Type 0} → Meaning S → State S → ℕ → ℕ → Type 0
Firm m s c t =
    ((mem c s.lead.log ≡ true) × (s.jobs.given c ≡ Some t)) ⊎
    ((mem c s.lead.log ≡ false) × (clear (meets m s.jobs.job) c s.lead.waiting ≡ true) × (m.result s.lead.book (s.jobs.job c) ≡ t))

pub record Inv {S : Type 0} (m : Meaning S) (s : State S) : Type 0 where
  -- no job stands twice in the log and the waiting list, and each is a job
  pub once : distinct (s.lead.log ++ s.lead.waiting) ≡ true
  pub known : (c : ℕ) → mem c (s.lead.log ++ s.lead.waiting) ≡ true → c < s.jobs.count
  -- there are no more jobs than the log has room for
  pub few : s.jobs.count ≤ job_limit s.fixed.capacity
  -- no two jobs of a pool meet
  pub pooled : (r c : ℕ) → s.boxes.pool r c ≡ true → c < s.jobs.count
  pub apart : (r c d : ℕ) → s.boxes.pool r c ≡ true → s.boxes.pool r d ≡ true → meets m s.jobs.job c d ≡ true → c ≡ d
  -- an answer is to a job, and given once
  pub asked : (r c : ℕ) → s.jobs.count ≤ c → s.boxes.answer r c ≡ Empty
  pub open_request : (r c : ℕ) → s.boxes.request r c ≡ true → s.boxes.answer r c ≡ Empty
  pub past : (r c e : ℕ) → agrees e (said (s.boxes.answer r c)) ≡ true → e ≤ s.lead.epoch
  -- a notice is of a job in the log
  pub noticed : (r c : ℕ) → s.boxes.notice r c ≡ true → mem c s.lead.log ≡ true
  -- a box that agreed holds the job until it is in the log
  pub held : (r c e : ℕ) → agrees e (said (s.boxes.answer r c)) ≡ true → Live s e c → mem c s.lead.log ≡ false → s.boxes.pool r c ≡ true
  -- what a leader told is firm
  pub firm : (r c e t : ℕ) → said (s.boxes.answer r c) ≡ Told e t → Live s e c → Firm m s c t
  -- a client has a job as fast by what was told, with a quorum
  pub confirmed : (c t e : ℕ) → s.jobs.phase c ≡ Fast t e → (r : ℕ) × (said (s.boxes.answer r c) ≡ Told e t) × Quorum s.fixed.size s.boxes.answer e c

pub inv_new : {S : Type 0} (m : Meaning S) (capacity : ℕ) (k : Setting) → Inv m (new_group m capacity k)
inv_new m capacity k = record {
  once = refl;
  known = λ c h. grind arith;
  few = zero-le;
  pooled = λ r c h. grind arith;
  apart = λ r c d h. grind arith;
  asked = λ r c h. refl;
  open_request = λ r c h. refl;
  past = λ r c e h. grind arith;
  noticed = λ r c h. grind arith;
  held = λ r c e h. grind arith;
  firm = λ r c e t h. absurd (grind arith);
  confirmed = λ c t e h. absurd (grind arith);
}

-- what was agreed to is a job
pub answered : {S : Type 0} (m : Meaning S) (s : State S) → Inv m s →
    (r c e : ℕ) → agrees e (said (s.boxes.answer r c)) ≡ true → c < s.jobs.count
answered m s i r c e h = let a = i.asked r c in grind arith

pub told_agrees : (a : Answer) (e t : ℕ) → said a ≡ Told e t → agrees e (said a) ≡ true
told_agrees a e t h = grind (arith, nat_tests)

pub confirmed_job : {S : Type 0} (m : Meaning S) (s : State S) → Inv m s → (c t e : ℕ) → s.jobs.phase c ≡ Fast t e → c < s.jobs.count
confirmed_job m s i c t e h =
    let why = i.confirmed c t e h in
    answered m s i why.0 c e (told_agrees (s.boxes.answer why.0 c) e t why.1)

-- What each call keeps from one state to the next.
pub record Onward {S : Type 0} (m : Meaning S) (s s' : State S) : Type 0 where
  pub epoch_up : s.lead.epoch ≤ s'.lead.epoch
  pub count_up : s.jobs.count ≤ s'.jobs.count
  pub job_on : (c : ℕ) → c < s.jobs.count → s'.jobs.job c ≡ s.jobs.job c
  pub log_on : (c : ℕ) → mem c s.lead.log ≡ true → mem c s'.lead.log ≡ true
  pub told_on : (r c e t : ℕ) → said (s.boxes.answer r c) ≡ Told e t → said (s'.boxes.answer r c) ≡ Told e t
  -- a confirmed job stays so
  pub fast_on : (c t e : ℕ) → s.jobs.phase c ≡ Fast t e → s'.jobs.phase c ≡ Fast t e
  -- the agreements of a past epoch never grow
  pub live_back : (e c : ℕ) → e ≤ s.lead.epoch → Live s' e c → Live s e c
  -- no job enters the log before one that is firm and meets it
  pub in_turn : (c d t : ℕ) → Firm m s c t → mem c s'.lead.log ≡ false → mem d s'.lead.log ≡ true →
      d ≢ c → meets m s'.jobs.job c d ≡ true → mem d s.lead.log ≡ true

-- A call that moves messages and pools only keeps all of it.
pub on_boxes : {S : Type 0} (m : Meaning S) (s : State S) (request notice taken pool : ℕ → ℕ → Bool) →
    Onward m s (record {
      fixed = s.fixed;
      lead = s.lead;
      jobs = s.jobs;
      boxes = record { request = request; notice = notice; taken = taken; pool = pool; answer = s.boxes.answer };
    })
on_boxes m s request notice taken pool = record {
  epoch_up = omega arith;
  count_up = omega arith;
  job_on = λ c h. refl;
  log_on = λ c h. h;
  told_on = λ r c e t h. h;
  fast_on = λ c t e h. h;
  live_back = λ e c past l. l;
  in_turn = λ c d t f out h other meet. h;
}
