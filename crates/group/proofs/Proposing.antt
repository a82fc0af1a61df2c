-- A new job: what the code does is what the protocol does.
use Rattle.std.proofs.Common.{◌≡◌, ℕ, ◌<◌, min, List, [], ◌∷◌, ◌++◌, length, None, refl, ap, add-one, arith, length-append}
use Rattle.std.proofs.lemmas.Bool.Decides.{nat_tests}
use Rattle.base.specs.declared.«record».Record.{Record}
use Rattle.terms.specs.declared.answers.Answer.TheVariants.{Empty}
use Rattle.terms.specs.declared.answers.Phase.TheVariants.{Waiting}
use Rattle.protocol.specs.Refusals.{room_refusal}
use Rattle.protocol.specs.Steps.{propose}
use Rattle.protocol.proofs.Same.{same_state, same_jobs, same_boxes}
use Rattle.group.specs.declared.job.Job.{Job}
use Rattle.group.specs.declared.replica.Replica.{Replica}
use Rattle.group.specs.Sets.{has, Requested}
use Rattle.group.specs.Jobs.{Holds, answer_of}
use Rattle.group.specs.View.{Parts, seen, no_job, AllBecame}
use Rattle.group.proofs.Held.{held}
use Rattle.group.proofs.Places.{appended, appended_kept}
use Rattle.group.proofs.Sending.{spread, unspread}

module _ {S : Type 0} (g : Parts S) where
  pub has_room : length g.jobs < min g.capacity 256 → room_refusal (seen g) ≡ None
  has_room h = grind (arith, nat_tests)

  pub propose_moves : (x : Record) (q : Job) (sent_boxes : List Replica) → Holds q x (λ _. Empty) Waiting None → AllBecame (Requested (length g.jobs)) g.boxes sent_boxes →
      seen (held g g.waiting (g.jobs ++ q ∷ []) sent_boxes) ≡ propose x (seen g)
  propose_moves x q sent_boxes new sent =
      same_state (ap (λ (n : ℕ). record { size = n; fast = g.fast; capacity = g.capacity }) sent.many) refl
      (same_jobs (record {
        count = simp (length-append, add-one);
        job = appended g.jobs q no_job (λ j. j.«record») x new.job;
        phase = appended g.jobs q no_job (λ j. j.phase) Waiting new.phase;
        given = appended_kept g.jobs q no_job (λ j. j.given) new.given;
      }))
      (same_boxes (record {
        request = spread g.boxes sent_boxes sent.many (λ b. has b.requests) (length g.jobs) (λ r h. (sent.each r h).requests);
        notice = unspread g.boxes sent_boxes sent.many (λ b. has b.notices) (λ r h. (sent.each r h).notices);
        taken = unspread g.boxes sent_boxes sent.many (λ b. has b.taken) (λ r h. (sent.each r h).taken);
        pool = unspread g.boxes sent_boxes sent.many (λ b. has b.pool) (λ r h. (sent.each r h).pool);
        answer = λ r c. appended_kept g.jobs q no_job (λ j. answer_of j r) (new.answer r) c;
      }))
