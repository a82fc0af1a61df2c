-- A change of leader: what the code does is what the protocol does.
use Rattle.std.proofs.Common.{◌≡◌, ℕ, zero, suc, ◌+◌, ◌<◌, Bool, cond, eqb, [], ◌∷◌, length, set, Some, None, Ok, Err, Option, Result, sym, refl, ap, ◌∙◌, add-one, arith, length-append, length-set}
use Rattle.std.proofs.lemmas.Bool.Decides.{nat_tests}
use Rattle.base.specs.declared.fault.Fault.{Fault}
use Rattle.terms.specs.declared.voters.Voters.{Voters}
use Rattle.terms.specs.declared.calls.Changed.{Changed}
use Rattle.terms.specs.Tests.{tally, ascending}
use Rattle.protocol.specs.Outcomes.{settled}
use Rattle.protocol.specs.State.{State}
use Rattle.protocol.specs.Refusals.{change_refusal, last_epoch}
use Rattle.protocol.specs.Steps.{recovered, recovered_jobs, change, changed}
use Rattle.protocol.proofs.Same.{same_state, same_boxes}
use Rattle.group.specs.declared.job_set.JobSet.{JobSet}
use Rattle.group.specs.declared.replica.Replica.{Replica}
use Rattle.group.specs.Sets.{has, Has}
use Rattle.group.specs.View.{Parts, seen, no_box, box_at}
use Rattle.group.proofs.Places.{kept_at, read_set}

pub settled_ok : (o : Option Fault) → ◌≡◌ {A = Result (Unit {0}) Fault} (Ok tt) (settled o tt) → o ≡ None
settled_ok o h = grind arith

pub settled_err : (o : Option Fault) (f : Fault) → ◌≡◌ {A = Result (Unit {0}) Fault} (Err f) (settled o tt) → o ≡ Some f
settled_err o f h = grind arith

pub length_ascending : (n : ℕ) (p : ℕ → Bool) → length (ascending n p) ≡ tally n p
length_ascending zero p = refl
length_ascending (suc n) p =
    let rest = length_ascending n p in
    let both = length-append (ascending n p) (cond (p n) (n ∷ []) []) in
    grind arith

module _ {S : Type 0} (g : Parts S)
    (l : ℕ) (voters : Voters) where
  abbrev before : State S
  before = seen g

  pub seats : change_refusal l voters before ≡ None → (l < length g.boxes) × (g.epoch < last_epoch)
  seats free = (grind (arith, nat_tests), grind (arith, nat_tests))

  module _ (within : l < length g.boxes) (set_kept : JobSet) (p : Replica) (same : (c : ℕ) → has set_kept c ≡ recovered before voters c)
      (new : Has p (has (box_at g.boxes l).requests) (has (box_at g.boxes l).notices) (has (box_at g.boxes l).taken) (has set_kept)) where
    keeps : has set_kept ≡ recovered before voters
    keeps = λ i c. same c i

    pool_new : (r c : ℕ) → has (box_at (set g.boxes l p) r).pool c ≡ cond (eqb r l) (recovered before voters c) (has (box_at g.boxes r).pool c)
    pool_new r c =
        let e = ap (λ (b : Replica). has b.pool c) (read_set g.boxes l p no_box within r) in
        let n = new.pool c in
        let k = same c in
        grind (arith, nat_tests)

    pub change_moves : seen (record { fast = g.fast; capacity = g.capacity; leader = l; epoch = g.epoch + 1; waiting = ascending (length g.jobs) (has set_kept); log = g.log; book = g.book; jobs = g.jobs; boxes = set g.boxes l p }) ≡ change l voters before
    change_moves =
        same_state
        (ap (λ (n : ℕ). record { size = n; fast = g.fast; capacity = g.capacity }) (length-set g.boxes l p))
        (λ i. record { leader = l; epoch = add-one g.epoch i; waiting = ascending (length g.jobs) (keeps i); log = g.log; book = g.book })
        refl
        (same_boxes (record {
          request = kept_at g.boxes l p no_box within (λ b. has b.requests) new.requests;
          notice = kept_at g.boxes l p no_box within (λ b. has b.notices) new.notices;
          taken = kept_at g.boxes l p no_box within (λ b. has b.taken) new.taken;
          pool = pool_new;
          answer = λ r c. refl;
        }))

    pub change_told : (n : ℕ) → n ≡ tally (length g.jobs) (has set_kept) → ◌≡◌ {A = Changed} (record { epoch = g.epoch + 1; recovered = n }) (changed voters before)
    change_told n e =
        let many : n ≡ length (recovered_jobs before voters) =
        e ∙ ap (tally (length g.jobs)) keeps ∙ sym (length_ascending (length g.jobs) (recovered before voters)) in
        λ i. record { epoch = add-one g.epoch i; recovered = many i }
