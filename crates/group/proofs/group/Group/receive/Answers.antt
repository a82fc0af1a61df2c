use Rattle.std.proofs.Common.{◌≡◌, true, false, cond, sym, ap, ◌∙◌, subst}
use Rattle.terms.specs.declared.calls.Call.TheVariants.{Receive}
use Rattle.terms.specs.Tests.{put}
use Rattle.protocol.specs.Refusals.{receive_refusal}
use Rattle.protocol.specs.Steps.{drops, dropped, take}
use Rattle.protocol.specs.Histories.{step}
use Rattle.group.specs.declared.messages.Message.{Message}
use Rattle.group.specs.declared.replica.Replica.{Replica}
use Rattle.group.specs.Sets.{has, Has}
use Rattle.group.specs.View.{parts_of, seen, no_box, box_at}
use Rattle.group.proofs.Places.{read_any}
use Rattle.group.proofs.Accepted.{step_made}
use Rattle.group.proofs.Noting.{under_way, drop_moves}
use Rattle.group.proofs.group.Group.receive.Goals as goal

-- src/group/receive.rt
pub returns-then-drops-clause-state : goal.returns-then-drops-clause-state
returns-then-drops-clause-state g c =
    let self = c.args.self.now in
    let m = c.in_ok-message.message in
    let names = c.in_ok-message.ensures in
    let r = m.replica in
    let j = m.job in
    let q = c.drop_request.new.self in
    let boxes = self.boxes.items in
    let ps = parts_of g.B.Book g.L.Log self in
    let s = seen ps in
    let looked : c.index.result.now ≡ box_at boxes r = c.index.ensures ∙ read_any boxes r c.index.result.now no_box names.1.in_group in
    let old : c.index_mut.result.now ≡ box_at boxes r = c.index_mut.ensures.value ∙ read_any boxes r c.index_mut.result.now no_box names.1.in_group in
    let sent : has c.index.result.now.requests j ≡ true = sym c.has.ensures ∙ c.if-not-has.false in
    let free = under_way ps r j (has (box_at boxes r).requests j) names.1.in_group names.1.proposed (subst (λ (b : Replica). has b.requests j ≡ true) looked sent) in
    let new = subst (λ (b : Replica). Has q (put (has b.requests) j false) (has b.notices) (has b.taken) (has b.pool)) old c.drop_request.ensures in
    let gone : drops s r j ≡ true = sym c.drops.ensures ∙ c.if-drops.true in
    step_made (receive_refusal r j s) s free
    (drop_moves ps r j q names.1.in_group new ∙ sym (ap (λ b. cond b (dropped r j s) (take g.B.Book.meaning r j s)) gone)) ∙
    ap (λ (n : Message). step g.B.Book.meaning (Receive n.replica n.job) s) names.0
