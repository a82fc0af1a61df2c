use Rattle.std.proofs.Common.{◌≡◌, true, sym, subst, arith}
use Rattle.terms.specs.Tests.{distinct, all_below}
use Rattle.terms.proofs.Lists.{distinct_ascending}
use Rattle.group.specs.Sets.{has}
use Rattle.group.proofs.Queues.{below_ascending}
use Rattle.group.proofs.waiting.WaitingList.refill.Goals as goal

-- src/waiting.rt
pub invariant_of-self : goal.invariant_of-self
invariant_of-self c =
    let filled = sym c.fill.ensures.items in
    let big = c.args.self.now.roomy in
    let cap = c.fill.ensures.capacity in
    let few = c.requires in
    record {
      once = subst (λ xs. distinct xs ≡ true) filled (distinct_ascending c.args.count (has c.args.set.now));
      small = subst (λ xs. all_below 256 xs ≡ true) filled (below_ascending c.args.count 256 (has c.args.set.now) few);
      roomy = omega arith;
    }
