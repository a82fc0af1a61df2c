use Rattle.std.proofs.Common.{◌≡◌, ℕ, ◌<◌, List, [], ◌∷◌, ◌++◌, length, set, Some, sym, ap, ◌∙◌, subst, arith, rules}
use Rattle.std.specs.Vec.{with_items}
use Rattle.std.proofs.lemmas.List.{with_items_is}
use Rattle.protocol.specs.Refusals.{sync_refusal}
use Rattle.protocol.specs.Steps.{sync, told_result, log_job}
use Rattle.group.specs.declared.job.Job.{Job}
use Rattle.group.specs.declared.replica.Replica.{Replica}
use Rattle.group.specs.Sets.{Notified, rest_of}
use Rattle.group.specs.Jobs.{Holds, answer_of}
use Rattle.group.specs.View.{Parts, parts_of, seen, no_job, job_at, AllBecame}
use Rattle.group.proofs.Places.{read_any}
use Rattle.group.proofs.Accepted.{step_made}
use Rattle.group.proofs.Sending.{all_as}
use Rattle.group.proofs.Syncing.{head_first, head_below, log_took, may_sync, sync_moves}
use Rattle.group.proofs.group.Group.sync.Goals as goal

-- src/group/sync.rt
pub returns-clause-state : goal.returns-clause-state
returns-clause-state g c =
    let self = c.args.self.now in
    let boxes = self.boxes.items in
    let jobs = self.jobs.items in
    let book = g.B.Book.state self.book in
    let log = g.L.Log.entries self.log in
    let waiting = self.waiting.jobs.items in
    let limit = g.L.Log.limit in
    let m = g.B.Book.meaning in
    let ps = parts_of g.B.Book g.L.Log self in
    let s = seen ps in
    let j = c.in-Some.head in
    let was = c.index_mut-it.result.now in
    let q : Job = record { «record» = was.«record»; answers = was.answers; phase = was.phase; given = Some c.apply-result.result } in
    let rest = rest_of waiting in
    let at_head = sym c.head.ensures ∙ c.in-Some.is in
    let line : waiting ≡ j ∷ rest = head_first waiting j at_head in
    let many = self.jobs.ok.0 in
    let below : j < length jobs = let h = head_below self.jobs.len waiting j at_head self.known in omega arith in
    let took = log_took limit log j c.in_ok-add.ensures.value in
    let grown : g.L.Log.entries c.add.new.self ≡ log ++ j ∷ [] = c.add.ensures.after ∙ took.1 in
    let old : was ≡ job_at jobs j = c.index_mut-it.ensures.value ∙ read_any jobs j was no_job below in
    let given : c.apply-result.result ≡ told_result m s j = c.apply-result.ensures.value ∙ ap (λ (b : Job). m.result book b.«record») old in
    let moved_on : g.B.Book.state c.apply-result.new.self ≡ m.after book (job_at jobs j).«record» = c.apply-result.ensures.after ∙ ap (λ (b : Job). m.after book b.«record») old in
    let new : Holds q (job_at jobs j).«record» (answer_of (job_at jobs j)) (job_at jobs j).phase (Some (told_result m s j)) =
    record { job = ap (λ (b : Job). b.«record») old; answer = λ r. ap (λ (b : Job). answer_of b r) old; phase = ap (λ (b : Job). b.phase) old; given = ap Some given } in
    let sent₀ : AllBecame (Notified j) c.deref_mut.result.now c.send_all.new.boxes = all_as (λ p q h. search rules) c.send_all.ensures in
    let sent = subst (λ (b : List Replica). AllBecame (Notified j) b c.send_all.new.boxes) c.deref_mut.ensures.value sent₀ in
    let refills = with_items_is self.boxes c.send_all.new.boxes (sent.many ∙ sym self.boxes.ok.0) in
    let free = may_sync m ps j rest line took.0 in
    let moves = sync_moves m ps j rest q c.send_all.new.boxes below new sent in
    let after : List ℕ → List ℕ → g.B.Book.State → List Replica → Parts g.B.Book.State = λ xs ys b bs. record { fast = self.fast; capacity = limit; leader = self.leader; epoch = self.epoch; waiting = xs; log = ys; book = b; jobs = set jobs j q; boxes = bs } in
    let all : seen (after c.advance.new.self.jobs.items (g.L.Log.entries c.add.new.self) (g.B.Book.state c.apply-result.new.self) (with_items self.boxes c.send_all.new.boxes).items) ≡ log_job m j rest s =
    (λ i. seen (after (c.advance.ensures i) (grown i) (moved_on i) (refills i))) ∙ moves in
    step_made (sync_refusal waiting s) s free (all ∙ sym (ap (λ xs. sync m xs s) line))
