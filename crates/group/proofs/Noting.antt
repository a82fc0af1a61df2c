-- Messages to one box: what the code does to it is what the protocol does.
use Rattle.std.proofs.Common.{◌≡◌, ℕ, ◌<◌, Bool, true, false, List, length, set, Some, None, refl, ap, arith, length-set}
use Rattle.std.proofs.lemmas.Bool.Decides.{nat_tests}
use Rattle.base.specs.declared.fault.Refusal.TheVariants.{NotInTransit}
use Rattle.base.specs.declared.fault.Layer.TheVariants.{Group}
use Rattle.base.specs.Faults.{plain}
use Rattle.terms.specs.Tests.{put}
use Rattle.protocol.specs.State.{State}
use Rattle.protocol.specs.Refusals.{message_refusal}
use Rattle.protocol.specs.Steps.{note, dropped}
use Rattle.protocol.proofs.Same.{same_state, same_boxes}
use Rattle.group.specs.declared.replica.Replica.{Replica}
use Rattle.group.specs.Sets.{has, Has}
use Rattle.group.specs.View.{Parts, seen, no_box, box_at}
use Rattle.group.proofs.Held.{held}
use Rattle.group.proofs.Places.{kept_at, changed_at}

module _ {S : Type 0} (g : Parts S) where
  abbrev before : State S
  before = seen g

  abbrev after : List Replica → State S
  after boxes' = seen (held g g.waiting g.jobs boxes')

  same_size : (r : ℕ) (q : Replica) → (after (set g.boxes r q)).fixed ≡ before.fixed
  same_size r q = ap (λ (n : ℕ). record { size = n; fast = g.fast; capacity = g.capacity }) (length-set g.boxes r q)

  -- a message that is in transit to a box of the group is not refused
  pub under_way : (r c : ℕ) (b : Bool) → r < length g.boxes → c < length g.jobs → b ≡ true → message_refusal r c b before ≡ None
  under_way r c b hr hc sent = grind (arith, nat_tests)

  pub not_under_way : (r c : ℕ) (b : Bool) → r < length g.boxes → c < length g.jobs → b ≡ false → message_refusal r c b before ≡ Some (plain NotInTransit Group)
  not_under_way r c b hr hc none = grind (arith, nat_tests)

  pub note_moves : (r c : ℕ) (q : Replica) → r < length g.boxes →
      Has q (has (box_at g.boxes r).requests) (put (has (box_at g.boxes r).notices) c false) (put (has (box_at g.boxes r).taken) c true) (put (has (box_at g.boxes r).pool) c false) →
      after (set g.boxes r q) ≡ note r c before
  note_moves r c q h new =
      same_state (same_size r q) refl refl (same_boxes (record {
        request = kept_at g.boxes r q no_box h (λ b. has b.requests) new.requests;
        notice = changed_at g.boxes r q no_box h (λ b. has b.notices) c false new.notices;
        taken = changed_at g.boxes r q no_box h (λ b. has b.taken) c true new.taken;
        pool = changed_at g.boxes r q no_box h (λ b. has b.pool) c false new.pool;
        answer = λ x y. refl;
      }))

  pub drop_moves : (r c : ℕ) (q : Replica) → r < length g.boxes →
      Has q (put (has (box_at g.boxes r).requests) c false) (has (box_at g.boxes r).notices) (has (box_at g.boxes r).taken) (has (box_at g.boxes r).pool) →
      after (set g.boxes r q) ≡ dropped r c before
  drop_moves r c q h new =
      same_state (same_size r q) refl refl (same_boxes (record {
        request = changed_at g.boxes r q no_box h (λ b. has b.requests) c false new.requests;
        notice = kept_at g.boxes r q no_box h (λ b. has b.notices) new.notices;
        taken = kept_at g.boxes r q no_box h (λ b. has b.taken) new.taken;
        pool = kept_at g.boxes r q no_box h (λ b. has b.pool) new.pool;
        answer = λ x y. refl;
      }))
