-- Two states whose fields agree at every place are equal: how code meets the definitions, place by place.
use Rattle.std.proofs.Common.{◌≡◌, ℕ}
use Rattle.protocol.specs.State.{State, Jobs, Boxes}

pub record SameJobs (s s' : Jobs) : Type 0 where
  pub count : s.count ≡ s'.count
  pub job : (c : ℕ) → s.job c ≡ s'.job c
  pub phase : (c : ℕ) → s.phase c ≡ s'.phase c
  pub given : (c : ℕ) → s.given c ≡ s'.given c

pub same_jobs : {s s' : Jobs} → SameJobs s s' → s ≡ s'
same_jobs e = λ i. record { count = e.count i; job = λ c. e.job c i; phase = λ c. e.phase c i; given = λ c. e.given c i }

pub record SameBoxes (s s' : Boxes) : Type 0 where
  pub request : (r c : ℕ) → s.request r c ≡ s'.request r c
  pub notice : (r c : ℕ) → s.notice r c ≡ s'.notice r c
  pub taken : (r c : ℕ) → s.taken r c ≡ s'.taken r c
  pub pool : (r c : ℕ) → s.pool r c ≡ s'.pool r c
  pub answer : (r c : ℕ) → s.answer r c ≡ s'.answer r c

pub same_boxes : {s s' : Boxes} → SameBoxes s s' → s ≡ s'
same_boxes e = λ i. record {
  request = λ r c. e.request r c i;
  notice = λ r c. e.notice r c i;
  taken = λ r c. e.taken r c i;
  pool = λ r c. e.pool r c i;
  answer = λ r c. e.answer r c i;
}

pub same_state : {S : Type 0} {s s' : State S} → s.fixed ≡ s'.fixed → s.lead ≡ s'.lead → s.jobs ≡ s'.jobs → s.boxes ≡ s'.boxes → s ≡ s'
same_state f l j b = λ i. record { fixed = f i; lead = l i; jobs = j i; boxes = b i }
