use Rattle.std.proofs.Common.{◌≡◌, ℕ, ◌<◌, Bool, true, false, cond, not, ◌&&◌, ◌||◌, [], ◌∷◌, ◌++◌, sym, ap, ◌∙◌, subst, append-nil, arith}
use Rattle.std.proofs.lemmas.Bool.Decides.{nat_tests}
use Rattle.terms.specs.declared.answers.Answer.TheVariants.{Transit}
use Rattle.terms.specs.declared.answers.Reply.{Reply}
use Rattle.terms.specs.Tests.{mem, put, all_below}
use Rattle.group.specs.declared.job.Job.{Job}
use Rattle.group.specs.declared.replica.Replica.{Replica}
use Rattle.group.specs.Sets.{has, Has}
use Rattle.group.specs.Jobs.{Holds, answer_of}
use Rattle.group.specs.View.{parts_of, state_of, seen, no_box, no_job, box_at, job_at}
use Rattle.group.proofs.Places.{read_any}
use Rattle.group.proofs.Queues.{below_append}
use Rattle.group.proofs.Receiving.{take_moves}
use Rattle.group.proofs.group.Group.take.Goals.{then-leads, else-leads}
use Rattle.group.proofs.group.Group.take.Goals as goal

-- who joins the line is a job
joins_below : (n c : ℕ) (b : Bool) → c < n → all_below n (cond b (c ∷ []) []) ≡ true
joins_below n c b h = grind (arith, nat_tests)

-- src/group/receive.rt
pub invariant_of-self-then-leads : goal.invariant_of-self-then-leads
invariant_of-self-then-leads g c =
    let self = c.args.self.now in
    let waiting = self.waiting.jobs.items in
    let n = self.jobs.len in
    let boxes_few = self.few_boxes in
    let jobs_few = self.few_jobs in
    let big = self.roomy in
    let many = self.jobs.ok.0 in
    let proposed = c.requires.proposed in
    let new : c.args.message.job < n = omega arith in
    let line = below_append n waiting (cond (not (mem c.args.message.job waiting)) (c.args.message.job ∷ []) []) self.known (joins_below n c.args.message.job (not (mem c.args.message.job waiting)) new) in
    record { few_boxes = boxes_few; few_jobs = jobs_few; roomy = big; known = subst (λ xs. all_below n xs ≡ true) (sym c.join.ensures) line }

-- src/group/receive.rt
pub returns-clause-state : goal.returns-clause-state
returns-clause-state g c =
    let self = c.args.self.now in
    let r = c.args.message.replica in
    let j = c.args.message.job in
    let boxes = self.boxes.items in
    let jobs = self.jobs.items in
    let waiting = self.waiting.jobs.items in
    let m = g.B.Book.meaning in
    let ps = parts_of g.B.Book g.L.Log self in
    let s = seen ps in
    let p = c.take_request.new.self in
    let q = c.answer.new.self in
    let lines = λ (b : Bool). waiting ++ cond (b && not (mem j waiting)) (j ∷ []) [] in
    let leads = c.leads.ensures in
    let old : c.index_mut.result.now ≡ box_at boxes r = c.index_mut.ensures.value ∙ read_any boxes r c.index_mut.result.now no_box c.requires.in_group in
    let was : c.index_mut-2.result.now ≡ job_at jobs j = c.index_mut-2.ensures.value ∙ read_any jobs j c.index_mut-2.result.now no_job c.requires.proposed in
    let box_new₀ = subst (λ (b : Replica). Has p (put (has b.requests) j false) (has b.notices) (has b.taken) (put (has b.pool) j (c.pools-joins.result || has b.pool j))) old c.take_request.ensures in
    let box_new = subst (λ (x : Bool). Has p (put (has (box_at boxes r).requests) j false) (has (box_at boxes r).notices) (has (box_at boxes r).taken) (put (has (box_at boxes r).pool) j (x || has (box_at boxes r).pool j))) c.pools-joins.ensures box_new₀ in
    let job_new₀ = subst (λ (b : Job). Holds q b.«record» (put (answer_of b) r (Transit c.reply-reply.result)) b.phase b.given) was c.answer.ensures in
    let job_new = subst (λ (x : Reply). Holds q (job_at jobs j).«record» (put (answer_of (job_at jobs j)) r (Transit x)) (job_at jobs j).phase (job_at jobs j).given) c.reply-reply.ensures job_new₀ in
    elim c.if-leads.branch [
      | then-leads w ↦ ap (state_of g.B.Book g.L.Log) w.self-is ∙
          take_moves m ps r j w.join.new.self.jobs.items p q c.requires.in_group c.requires.proposed (w.join.ensures ∙ sym (ap lines (sym leads ∙ w.if-leads.true))) box_new job_new
      | else-leads w ↦ ap (state_of g.B.Book g.L.Log) w.self-is ∙
          take_moves m ps r j waiting p q c.requires.in_group c.requires.proposed (sym (append-nil waiting) ∙ sym (ap lines (sym leads ∙ w.if-leads.false))) box_new job_new
    ]
