use Rattle.std.proofs.Common.{◌≡◌, ◌<◌, true, false, sym, ◌∙◌, subst, arith}
use Rattle.terms.specs.Tests.{mem, distinct, all_below}
use Rattle.group.proofs.Queues.{room_for, joined_once, joined_below}
use Rattle.group.proofs.waiting.WaitingList.join.Goals as goal

-- src/waiting.rt
pub push_back_reserved-requires : goal.push_back_reserved-requires
push_back_reserved-requires c =
    let self = c.args.self.now in
    let small : c.args.job < 256 = omega arith in
    let new : mem c.args.job self.jobs.items ≡ false = sym c.has.ensures ∙ c.if-not-has.true in
    let room = room_for self.jobs.items c.args.job self.once self.small new small in
    let big = self.roomy in
    let len = self.jobs.ok.0 in
    omega arith

-- src/waiting.rt
pub invariant_of-self : goal.invariant_of-self
invariant_of-self c =
    let self = c.args.self.now in
    let small : c.args.job < 256 = omega arith in
    let new : mem c.args.job self.jobs.items ≡ false = sym c.has.ensures ∙ c.if-not-has.true in
    let grown = sym c.push_back_reserved.ensures.items in
    let big = self.roomy in
    let cap = c.push_back_reserved.ensures.capacity in
    record {
      once = subst (λ xs. distinct xs ≡ true) grown (joined_once self.jobs.items c.args.job self.once self.small new small);
      small = subst (λ xs. all_below 256 xs ≡ true) grown (joined_below self.jobs.items c.args.job self.once self.small new small);
      roomy = omega arith;
    }
