use Rattle.std.proofs.Common.{◌≡◌, ℕ, ◌<◌, min, List, length, None, Ok, Option, Result, sym, ap, ◌∙◌, subst, arith, rules}
use Rattle.base.specs.declared.fault.Fault.{Fault}
use Rattle.books.specs.Accepted.{accepted}
use Rattle.protocol.specs.State.{State}
use Rattle.protocol.specs.Refusals.{propose_refusal, room_refusal}
use Rattle.protocol.specs.Steps.{propose}
use Rattle.std.specs.Vec.{with_items}
use Rattle.std.proofs.lemmas.List.{with_items_is}
use Rattle.group.specs.declared.replica.Replica.{Replica}
use Rattle.group.specs.Sets.{Requested}
use Rattle.group.specs.View.{parts_of, seen, AllBecame}
use Rattle.group.proofs.Queues.{below_more}
use Rattle.group.proofs.Held.{held}
use Rattle.group.proofs.Accepted.{step_made}
use Rattle.group.proofs.Sending.{all_as}
use Rattle.group.proofs.Proposing.{has_room, propose_moves}
use Rattle.group.proofs.group.Group.propose.Goals as goal

-- what the book has nothing to say against
fits : (o : Option ℕ) → ◌≡◌ {A = Result (Unit {0}) Fault} (Ok tt) (accepted o) → o ≡ None
fits o h = grind arith

allowed : {S : Type 0} (o : Option ℕ) (s : State S) → o ≡ None → room_refusal s ≡ None → propose_refusal o s ≡ None
allowed o s e room = rw e room

-- src/group/propose.rt
pub invariant_of-self : goal.invariant_of-self
invariant_of-self g c =
    let self = c.args.self.now in
    let boxes_few = self.few_boxes in
    let jobs_few = self.few_jobs in
    let big = self.roomy in
    let len = c.push_reserved.ensures.len in
    let cap = c.push_reserved.ensures.capacity in
    let least = c.min.ensures in
    let left = c.if-job-min.false in
    let at = c.len-job.ensures in
    record { few_boxes = boxes_few; few_jobs = omega arith; roomy = omega arith; known = below_more _ _ self.waiting.jobs.items (omega arith) self.known }

-- src/group/propose.rt
pub returns-clause-state : goal.returns-clause-state
returns-clause-state g c =
    let self = c.args.self.now in
    let boxes = self.boxes.items in
    let jobs = self.jobs.items in
    let limit = g.L.Log.limit in
    let ps = parts_of g.B.Book g.L.Log self in
    let s = seen ps in
    let misfit = g.B.Book.meaning.misfit c.args.record in
    let number : c.len-job.result ≡ length jobs = c.len-job.ensures ∙ self.jobs.ok.0 in
    let most : c.min.result ≡ min limit 256 = c.min.ensures ∙ ap (λ n. min n 256) c.capacity.ensures in
    let left : c.len-job.result < c.min.result = c.if-job-min.false in
    let room = has_room ps (subst (λ n. length jobs < n) most (subst (λ n. n < c.min.result) number left)) in
    let free = allowed misfit s (fits misfit c.in_ok-check.ensures) room in
    let sent₀ : AllBecame (Requested c.len-job.result) c.deref_mut.result.now c.send_all.new.boxes = all_as (λ p q h. search rules) c.send_all.ensures in
    let sent₁ = subst (λ n. AllBecame (Requested n) c.deref_mut.result.now c.send_all.new.boxes) number sent₀ in
    let sent = subst (λ (b : List Replica). AllBecame (Requested (length jobs)) b c.send_all.new.boxes) c.deref_mut.ensures.value sent₁ in
    let moves = propose_moves ps c.args.record c.new.result c.send_all.new.boxes c.new.ensures sent in
    let refills = with_items_is self.boxes c.send_all.new.boxes (sent.many ∙ sym self.boxes.ok.0) in
    let pushed : seen (held ps ps.waiting c.push_reserved.new.self.items (with_items self.boxes c.send_all.new.boxes).items) ≡ propose c.args.record s =
    (λ i. seen (held ps ps.waiting (c.push_reserved.ensures.items i) (refills i))) ∙ moves in
    step_made (propose_refusal misfit s) s free pushed
