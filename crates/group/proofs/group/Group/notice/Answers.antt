use Rattle.std.proofs.Common.{◌≡◌, true, false, sym, ap, ◌∙◌, subst}
use Rattle.terms.specs.declared.calls.Call.TheVariants.{Notice}
use Rattle.terms.specs.Tests.{put}
use Rattle.protocol.specs.Refusals.{notice_refusal}
use Rattle.protocol.specs.Histories.{step}
use Rattle.group.specs.declared.messages.Message.{Message}
use Rattle.group.specs.declared.replica.Replica.{Replica}
use Rattle.group.specs.Sets.{has, Has}
use Rattle.group.specs.View.{parts_of, seen, no_box, box_at}
use Rattle.group.proofs.Places.{read_any}
use Rattle.group.proofs.Accepted.{step_made}
use Rattle.group.proofs.Noting.{under_way, note_moves}
use Rattle.group.proofs.group.Group.notice.Goals as goal

-- src/group/notice.rt
pub returns-clause-state : goal.returns-clause-state
returns-clause-state g c =
    let self = c.args.self.now in
    let m = c.in_ok-message.message in
    let names = c.in_ok-message.ensures in
    let q = c.take_notice.new.self in
    let boxes = self.boxes.items in
    let ps = parts_of g.B.Book g.L.Log self in
    let s = seen ps in
    let old : c.index_mut-at.result.now ≡ box_at boxes m.replica = c.index_mut-at.ensures.value ∙ read_any boxes m.replica c.index_mut-at.result.now no_box names.1.in_group in
    let sent : has c.index_mut-at.result.now.notices m.job ≡ true = sym c.has.ensures ∙ c.if-not-has.false in
    let free = under_way ps m.replica m.job (has (box_at boxes m.replica).notices m.job) names.1.in_group names.1.proposed (subst (λ (b : Replica). has b.notices m.job ≡ true) old sent) in
    let new = subst (λ (b : Replica). Has q (has b.requests) (put (has b.notices) m.job false) (put (has b.taken) m.job true) (put (has b.pool) m.job false)) old c.take_notice.ensures in
    step_made (notice_refusal m.replica m.job s) s free (note_moves ps m.replica m.job q names.1.in_group new) ∙
    ap (λ (n : Message). step g.B.Book.meaning (Notice n.replica n.job) s) names.0
