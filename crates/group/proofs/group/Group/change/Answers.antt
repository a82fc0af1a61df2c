use Rattle.std.proofs.Common.{◌≡◌, ℕ, ◌+◌, true, List, length, set, refl, sym, ap, ◌∙◌, subst, arith}
use Rattle.terms.specs.Tests.{tally, ascending, all_below}
use Rattle.protocol.specs.Refusals.{change_refusal}
use Rattle.protocol.specs.Steps.{change, changed}
use Rattle.group.specs.declared.replica.Replica.{Replica}
use Rattle.group.specs.Sets.{has, Has}
use Rattle.group.specs.View.{Parts, state_of, parts_of, seen, no_box, box_at}
use Rattle.group.proofs.Places.{read_any}
use Rattle.group.proofs.Queues.{below_ascending}
use Rattle.group.proofs.Accepted.{step_made, told, step_refused, told_on}
use Rattle.group.proofs.Changing.{settled_ok, settled_err, seats, change_moves, change_told}
use Rattle.group.proofs.group.Group.change.Goals as goal

-- src/group/change.rt
pub returns-in_err-allows : goal.returns-in_err-allows
returns-in_err-allows g c =
    let s = state_of g.B.Book g.L.Log c.args.self.now in
    let l = c.args.leader in
    let v = c.args.voters in
    let why = settled_err (change_refusal l v s) c.in_err-allows.field-0.0 c.in_err-allows.ensures in
    record {
      state = step_refused (change_refusal l v s) s (change l v s) why;
      outcome = told_on c.from_residual.result (change_refusal l v s) (changed v s) c.from_residual.ensures.1 why;
    }

-- src/group/change.rt
pub invariant_of-self : goal.invariant_of-self
invariant_of-self g c =
    let self = c.args.self.now in
    let n = self.jobs.len in
    let boxes_few = self.few_boxes in
    let jobs_few = self.few_jobs in
    let big = self.roomy in
    let many = c.len-jobs.ensures in
    let line = below_ascending c.len-jobs.result n (has c.recover-kept.result) (omega arith) in
    record { few_boxes = boxes_few; few_jobs = jobs_few; roomy = big; known = subst (λ xs. all_below n xs ≡ true) (sym c.refill.ensures) line }

-- src/group/change.rt
pub returns : goal.returns
returns g c =
    let self = c.args.self.now in
    let l = c.args.leader in
    let v = c.args.voters in
    let boxes = self.boxes.items in
    let jobs = self.jobs.items in
    let ps = parts_of g.B.Book g.L.Log self in
    let s = seen ps in
    let kept = c.recover-kept.result in
    let was = c.index_mut.result.now in
    let p : Replica = record { requests = was.requests; notices = was.notices; taken = was.taken; pool = kept } in
    let free = settled_ok (change_refusal l v s) c.in_ok-allows.ensures in
    let in_group = (seats ps l v free).0 in
    let old : was ≡ box_at boxes l = c.index_mut.ensures.value ∙ read_any boxes l was no_box in_group in
    let new : Has p (has (box_at boxes l).requests) (has (box_at boxes l).notices) (has (box_at boxes l).taken) (has kept) = record { requests = λ d. ap (λ (b : Replica). has b.requests d) old; notices = λ d. ap (λ (b : Replica). has b.notices d) old; taken = λ d. ap (λ (b : Replica). has b.taken d) old; pool = λ d. refl } in
    let number : c.len-jobs.result ≡ length jobs = c.len-jobs.ensures ∙ self.jobs.ok.0 in
    let line : c.refill.new.self.jobs.items ≡ ascending (length jobs) (has kept) = c.refill.ensures ∙ ap (λ n. ascending n (has kept)) number in
    let moves = change_moves ps l v in_group kept p c.recover-kept.ensures new in
    let after : List ℕ → Parts g.B.Book.State = λ xs. record { fast = ps.fast; capacity = ps.capacity; leader = l; epoch = ps.epoch + 1; waiting = xs; log = ps.log; book = ps.book; jobs = jobs; boxes = set boxes l p } in
    let all : seen (after c.refill.new.self.jobs.items) ≡ change l v s =
    ap (λ (xs : List ℕ). seen (after xs)) line ∙ moves in
    record {
      state = step_made (change_refusal l v s) s free all;
      outcome = told (change_refusal l v s) free
          (change_told ps l v in_group kept p c.recover-kept.ensures new c.size.result
          (c.size.ensures.members ∙ ap (λ n. tally n (has kept)) number));
    }
