use Rattle.std.proofs.Common.{◌≡◌, false, List, length, set, Some, None, sym, ap, ◌∙◌, subst, arith}
use Rattle.std.proofs.lemmas.List.{set-get_or}
use Rattle.terms.specs.declared.answers.Answer.{Answer}
use Rattle.terms.specs.declared.answers.Answer.TheVariants.{Transit, Heard}
use Rattle.terms.specs.declared.answers.Reply.{Reply}
use Rattle.terms.specs.declared.calls.Call.TheVariants.{Hear}
use Rattle.terms.specs.Tests.{put}
use Rattle.protocol.specs.Answers.{decide, in_transit}
use Rattle.protocol.specs.Outcomes.{settled}
use Rattle.protocol.specs.Refusals.{hear_refusal}
use Rattle.protocol.specs.Steps.{hear, phase_after}
use Rattle.protocol.specs.Histories.{step}
use Rattle.group.specs.declared.job.Job.{Job}
use Rattle.group.specs.declared.messages.Message.{Message}
use Rattle.group.specs.Jobs.{Holds, answer_of, transit_of}
use Rattle.group.specs.View.{parts_of, state_of, seen, no_job, job_at}
use Rattle.group.proofs.Places.{read_any}
use Rattle.group.proofs.Accepted.{step_made, told, step_refused}
use Rattle.group.proofs.Noting.{under_way, not_under_way}
use Rattle.group.proofs.Held.{held}
use Rattle.group.proofs.Hearing.{hear_moves, phase_heard}
use Rattle.group.proofs.group.Group.hear.Goals as goal

-- src/group/hear.rt
pub returns-in_err-message-clause-state : goal.returns-in_err-message-clause-state
returns-in_err-message-clause-state g c =
    let self = c.args.self.now in
    let s = state_of g.B.Book g.L.Log self in
    step_refused (hear_refusal c.args.replica c.args.job s) s (hear c.args.replica c.args.job s)
    (c.in_err-message.ensures (in_transit (answer_of (job_at self.jobs.items c.args.job) c.args.replica)))

-- an answer that is not on its way
not_sent : (a : Answer) → transit_of a ≡ None → in_transit a ≡ false
not_sent a h = grind arith

-- src/group/hear.rt
pub returns-in_default-clause-state : goal.returns-in_default-clause-state
returns-in_default-clause-state g c =
    let self = c.args.self.now in
    let m = c.in_ok-message.message in
    let names = c.in_ok-message.ensures in
    let jobs = self.jobs.items in
    let ps = parts_of g.B.Book g.L.Log self in
    let s = seen ps in
    let read = c.index_mut-it.ensures.value in
    let old : c.index_mut-it.result.now ≡ job_at jobs m.job = read ∙ read_any jobs m.job c.index_mut-it.result.now no_job names.1.proposed in
    let none : transit_of (answer_of (job_at jobs m.job) m.replica) ≡ None = ap (λ (b : Job). transit_of (answer_of b m.replica)) (sym old) ∙ sym c.in_transit.ensures ∙ c.in_default.is in
    let why = not_under_way ps m.replica m.job (in_transit (answer_of (job_at jobs m.job) m.replica)) names.1.in_group names.1.proposed (not_sent (answer_of (job_at jobs m.job) m.replica) none) in
    let back : set jobs m.job c.index_mut-it.result.now ≡ jobs = ap (set jobs m.job) read ∙ set-get_or jobs m.job c.index_mut-it.result.now in
    ap (λ (js : List Job). seen (held ps ps.waiting js ps.boxes)) back ∙
    step_refused (hear_refusal m.replica m.job s) s (hear m.replica m.job s) why ∙
    ap (λ (n : Message). step g.B.Book.meaning (Hear n.replica n.job) s) names.0

sent : (a : Answer) (x : Reply) → transit_of a ≡ Some x → a ≡ Transit x
sent a x h = grind arith

-- src/group/hear.rt
pub returns : goal.returns
returns g c =
    let self = c.args.self.now in
    let m = c.in_ok-message.message in
    let names = c.in_ok-message.ensures in
    let r = m.replica in
    let j = m.job in
    let q = c.hear.new.self in
    let x = c.in-Some.reply in
    let boxes = self.boxes.items in
    let jobs = self.jobs.items in
    let ps = parts_of g.B.Book g.L.Log self in
    let s = seen ps in
    let old : c.index_mut-it.result.now ≡ job_at jobs j = c.index_mut-it.ensures.value ∙ read_any jobs j c.index_mut-it.result.now no_job names.1.proposed in
    let some : transit_of (answer_of (job_at jobs j) r) ≡ Some x = ap (λ (b : Job). transit_of (answer_of b r)) (sym old) ∙ sym c.in_transit.ensures ∙ c.in-Some.is in
    let transit = sent (answer_of (job_at jobs j) r) x some in
    let free = under_way ps r j (in_transit (answer_of (job_at jobs j) r)) names.1.in_group names.1.proposed (ap in_transit transit) in
    let size : c.len.result ≡ length boxes = c.len.ensures ∙ self.boxes.ok.0 in
    let new₀ = subst (λ (b : Job). Holds q b.«record» (put (answer_of b) r (Heard x)) (decide c.len.result (answer_of q) b.phase) b.given) old c.hear.ensures in
    let new = subst (λ n. Holds q (job_at jobs j).«record» (put (answer_of (job_at jobs j)) r (Heard x)) (decide n (answer_of q) (job_at jobs j).phase) (job_at jobs j).given) size new₀ in
    record {
      state = step_made (hear_refusal r j s) s free (hear_moves ps r j q x names.1.proposed transit new) ∙ ap (λ (n : Message). step g.B.Book.meaning (Hear n.replica n.job) s) names.0;
      outcome = told (hear_refusal r j s) free (phase_heard ps r j q x names.1.proposed transit new) ∙ ap (λ (n : Message). settled (hear_refusal n.replica n.job s) (phase_after s n.replica n.job)) names.0;
    }
