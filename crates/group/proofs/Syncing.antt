-- The head of the waiting list goes to the log: what the code does is what the protocol does.
use Rattle.std.proofs.Common.{◌≡◌, ℕ, ◌<◌, true, false, cond, eqb, List, [], ◌∷◌, ◌++◌, length, set, Some, None, Ok, Result, refl, ap, ◌∙◌, arith, length-set}
use Rattle.std.proofs.lemmas.Bool.Decides.{nat_tests}
use Rattle.base.specs.declared.fault.Fault.{Fault}
use Rattle.base.specs.Faults.{log_full}
use Rattle.base.specs.Meaning.{Meaning}
use Rattle.logs.specs.Entries.{added, added_outcome}
use Rattle.terms.specs.Tests.{all_below}
use Rattle.protocol.specs.State.{State}
use Rattle.protocol.specs.Refusals.{sync_refusal}
use Rattle.protocol.specs.Steps.{told_result, log_job}
use Rattle.protocol.proofs.Same.{same_state, same_jobs, same_boxes}
use Rattle.group.specs.declared.job.Job.{Job}
use Rattle.group.specs.declared.replica.Replica.{Replica}
use Rattle.group.specs.Sets.{has, Notified, first_of, rest_of}
use Rattle.group.specs.Jobs.{Holds, answer_of}
use Rattle.group.specs.View.{Parts, seen, no_job, job_at, AllBecame}
use Rattle.group.proofs.Places.{kept, changed}
use Rattle.group.proofs.Sending.{spread, unspread}

pub head_first : (xs : List ℕ) (c : ℕ) → first_of xs ≡ Some c → xs ≡ c ∷ rest_of xs
head_first [] c h = absurd (grind arith)
head_first (x ∷ xs) c h = grind arith

pub head_below : (n : ℕ) (xs : List ℕ) (c : ℕ) → first_of xs ≡ Some c → all_below n xs ≡ true → c < n
head_below n [] c e h = absurd (grind arith)
head_below n (x ∷ xs) c e h = grind (arith, nat_tests)

-- what the log answers to an addition
pub log_took : (limit : ℕ) (xs : List ℕ) (n : ℕ) → ◌≡◌ {A = Result (Unit {0}) Fault} (Ok tt) (added_outcome limit xs) →
    (eqb (length xs) limit ≡ false) × (added limit xs n ≡ xs ++ n ∷ [])
log_took limit xs n h = (grind arith, grind arith)

module _ {S : Type 0} (m : Meaning S) (g : Parts S) where
  abbrev before : State S
  before = seen g

  pub may_sync : (c : ℕ) (rest : List ℕ) → g.waiting ≡ c ∷ rest → eqb (length g.log) g.capacity ≡ false → sync_refusal g.waiting before ≡ None
  may_sync c rest line room = ap (λ xs. sync_refusal xs before) line ∙ ap (λ b. cond b (Some log_full) None) room

  pub sync_moves : (c : ℕ) (rest : List ℕ) (q : Job) (told_boxes : List Replica) → c < length g.jobs →
      Holds q (job_at g.jobs c).«record» (answer_of (job_at g.jobs c)) (job_at g.jobs c).phase (Some (told_result m before c)) →
      AllBecame (Notified c) g.boxes told_boxes →
      seen (record { fast = g.fast; capacity = g.capacity; leader = g.leader; epoch = g.epoch; waiting = rest; log = g.log ++ c ∷ []; book = m.after g.book (job_at g.jobs c).«record»; jobs = set g.jobs c q; boxes = told_boxes }) ≡ log_job m c rest before
  sync_moves c rest q told_boxes hc new sent =
      same_state
      (ap (λ (n : ℕ). record { size = n; fast = g.fast; capacity = g.capacity }) sent.many)
      refl
      (same_jobs (record {
        count = length-set g.jobs c q;
        job = kept g.jobs c q no_job hc (λ j. j.«record») new.job;
        phase = kept g.jobs c q no_job hc (λ j. j.phase) new.phase;
        given = changed g.jobs c q no_job hc (λ j. j.given) (Some (told_result m before c)) new.given;
      }))
      (same_boxes (record {
        request = unspread g.boxes told_boxes sent.many (λ b. has b.requests) (λ r h. (sent.each r h).requests);
        notice = spread g.boxes told_boxes sent.many (λ b. has b.notices) c (λ r h. (sent.each r h).notices);
        taken = unspread g.boxes told_boxes sent.many (λ b. has b.taken) (λ r h. (sent.each r h).taken);
        pool = unspread g.boxes told_boxes sent.many (λ b. has b.pool) (λ r h. (sent.each r h).pool);
        answer = λ r c'. kept g.jobs c q no_job hc (λ j. answer_of j r) (new.answer r) c';
      }))
