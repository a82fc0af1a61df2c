-- A request that is taken: what the code does is what the protocol does.
use Rattle.std.proofs.Common.{◌≡◌, ℕ, ◌<◌, false, ◌||◌, List, ◌++◌, length, set, ap, ◌∙◌, length-set}
use Rattle.base.specs.Meaning.{Meaning}
use Rattle.terms.specs.declared.answers.Answer.TheVariants.{Transit}
use Rattle.terms.specs.Tests.{put}
use Rattle.protocol.specs.State.{State}
use Rattle.protocol.specs.Steps.{joins, pools, reply, take}
use Rattle.protocol.proofs.Same.{same_state, same_jobs, same_boxes}
use Rattle.group.specs.declared.job.Job.{Job}
use Rattle.group.specs.declared.replica.Replica.{Replica}
use Rattle.group.specs.Sets.{has, Has}
use Rattle.group.specs.Jobs.{Holds, answer_of}
use Rattle.group.specs.View.{Parts, seen, no_box, no_job, box_at, job_at}
use Rattle.group.proofs.Held.{held}
use Rattle.group.proofs.Places.{kept, kept_at, changed_at}
use Rattle.group.proofs.Hearing.{swapped}

module _ {S : Type 0} (m : Meaning S) (g : Parts S) where
  abbrev before : State S
  before = seen g

  pub take_moves : (r c : ℕ) (in_line : List ℕ) (p : Replica) (q : Job) → r < length g.boxes → c < length g.jobs →
      in_line ≡ g.waiting ++ joins before r c →
      Has p (put (has (box_at g.boxes r).requests) c false) (has (box_at g.boxes r).notices) (has (box_at g.boxes r).taken) (put (has (box_at g.boxes r).pool) c (pools m before r c || has (box_at g.boxes r).pool c)) →
      Holds q (job_at g.jobs c).«record» (put (answer_of (job_at g.jobs c)) r (Transit (reply m before r c))) (job_at g.jobs c).phase (job_at g.jobs c).given →
      seen (held g in_line (set g.jobs c q) (set g.boxes r p)) ≡ take m r c before
  take_moves r c in_line p q hr hc line box_new job_new =
      same_state
      (ap (λ (n : ℕ). record { size = n; fast = g.fast; capacity = g.capacity }) (length-set g.boxes r p))
      (ap (λ (xs : List ℕ). record { leader = g.leader; epoch = g.epoch; waiting = xs; log = g.log; book = g.book }) line)
      (same_jobs (record {
        count = length-set g.jobs c q;
        job = kept g.jobs c q no_job hc (λ j. j.«record») job_new.job;
        phase = kept g.jobs c q no_job hc (λ j. j.phase) job_new.phase;
        given = kept g.jobs c q no_job hc (λ j. j.given) job_new.given;
      }))
      (same_boxes (record {
        request = changed_at g.boxes r p no_box hr (λ b. has b.requests) c false box_new.requests;
        notice = kept_at g.boxes r p no_box hr (λ b. has b.notices) box_new.notices;
        taken = kept_at g.boxes r p no_box hr (λ b. has b.taken) box_new.taken;
        pool = changed_at g.boxes r p no_box hr (λ b. has b.pool) c (pools m before r c || has (box_at g.boxes r).pool c) box_new.pool;
        answer = λ b j.
            changed_at g.jobs c q no_job hc answer_of r (Transit (reply m before r c)) job_new.answer j b ∙
            swapped g.jobs r c (Transit (reply m before r c)) b j;
      }))
