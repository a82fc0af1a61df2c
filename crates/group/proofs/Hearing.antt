-- An answer that is heard: what the code does to the job is what the protocol does.
use Rattle.std.proofs.Common.{◌≡◌, ℕ, ◌<◌, List, length, set, refl, ap, ◌∙◌, arith, length-set}
use Rattle.std.proofs.lemmas.Bool.Decides.{nat_tests}
use Rattle.terms.specs.declared.answers.Answer.{Answer}
use Rattle.terms.specs.declared.answers.Answer.TheVariants.{Transit, Heard}
use Rattle.terms.specs.declared.answers.Reply.{Reply}
use Rattle.terms.specs.Tests.{put, put2}
use Rattle.protocol.specs.Answers.{decide, delivered}
use Rattle.protocol.specs.State.{State}
use Rattle.protocol.specs.Steps.{hear, phase_after, answers_after}
use Rattle.protocol.proofs.Same.{same_state, same_jobs, same_boxes}
use Rattle.group.specs.declared.job.Job.{Job}
use Rattle.group.specs.Jobs.{Holds, answer_of}
use Rattle.group.specs.View.{Parts, seen, no_job, job_at}
use Rattle.group.proofs.Held.{held}
use Rattle.group.proofs.Places.{kept, changed, changed_at}

-- one answer changed, by box and job or by job and box
pub swapped : (jobs : List Job) (r c : ℕ) (v : Answer) (x y : ℕ) →
    put2 (λ y x. answer_of (job_at jobs y) x) c r v y x ≡ put2 (λ x y. answer_of (job_at jobs y) x) r c v x y
swapped jobs r c v x y = grind (arith, nat_tests)

module _ {S : Type 0} (g : Parts S)
    (r c : ℕ) (q : Job) (x : Reply) (within : c < length g.jobs) (sent : answer_of (job_at g.jobs c) r ≡ Transit x)
    (new : Holds q (job_at g.jobs c).«record» (put (answer_of (job_at g.jobs c)) r (Heard x)) (decide (length g.boxes) (answer_of q) (job_at g.jobs c).phase) (job_at g.jobs c).given) where
  abbrev before : State S
  before = seen g

  answers_heard : answer_of q ≡ (λ b. answers_after before r c b c)
  answers_heard = λ i b. each b i
    where
      each : (b : ℕ) → answer_of q b ≡ answers_after before r c b c
      each b = let n = new.answer b in let come = ap delivered sent in grind (arith, nat_tests)

  pub phase_heard : q.phase ≡ phase_after before r c
  phase_heard = new.phase ∙ ap (λ a. decide (length g.boxes) a (job_at g.jobs c).phase) answers_heard

  pub hear_moves : seen (held g g.waiting (set g.jobs c q) g.boxes) ≡ hear r c before
  hear_moves =
      same_state refl refl
      (same_jobs (record {
        count = length-set g.jobs c q;
        job = kept g.jobs c q no_job within (λ j. j.«record») new.job;
        phase = changed g.jobs c q no_job within (λ j. j.phase) (phase_after before r c) phase_heard;
        given = kept g.jobs c q no_job within (λ j. j.given) new.given;
      }))
      (same_boxes (record {
        request = λ b j. refl;
        notice = λ b j. refl;
        taken = λ b j. refl;
        pool = λ b j. refl;
        answer = λ b j.
            changed_at g.jobs c q no_job within answer_of r (delivered (answer_of (job_at g.jobs c) r)) (λ y. let n = new.answer y in let come = ap delivered sent in grind (arith, nat_tests)) j b ∙
            swapped g.jobs r c (delivered (answer_of (job_at g.jobs c) r)) b j;
      }))
