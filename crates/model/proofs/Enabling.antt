-- A call is refused exactly where its action is not enabled.
use Rattle.std.proofs.Common.{◌≡◌, ℕ, ◌<◌, Bool, true, false, ◌&&◌, eqb, ltb, leb, List, [], ◌∷◌, ◌++◌, length, Some, None, Option, refl, ap, arith, length-append}
use Rattle.std.proofs.lemmas.Bool.Decides.{nat_tests}
use Rattle.base.specs.Meaning.{Meaning}
use Rattle.terms.specs.declared.voters.Voters.{Voters}
use Rattle.terms.specs.declared.calls.Call.{Call}
use Rattle.terms.specs.declared.calls.Call.TheVariants.{Propose, Receive, Hear, Sync, Notice, Change, Query}
use Rattle.terms.specs.Tests.{tally, any_below, mem}
use Rattle.terms.specs.Votes.{votes, vote_count, has_stranger}
use Rattle.protocol.specs.Answers.{in_transit}
use Rattle.protocol.specs.Refusals.{job_limit, message_refusal, propose_refusal, sync_refusal}
use Rattle.protocol.specs.State.{State, Fixed}
use Rattle.protocol.specs.Histories.{refusal}
use Rattle.terms.proofs.Counting.{tally_same_bound}
use Rattle.terms.proofs.Lists.{any_append, none_below}
use Rattle.protocol.proofs.Room.{few_distinct}
use Rattle.protocol.proofs.Invariant.{Inv}
use Rattle.model.specs.Variables.{Constants}
use Rattle.model.specs.Next.{Enabled}
use Rattle.model.specs.Reading.{Past, reading}
use Rattle.model.proofs.Sequences.{any_found, count_below}
use Rattle.model.proofs.Past.{Ties}

-- the constants, as a state has them
abbrev pub constants_of : Fixed → Constants
constants_of k = record { replica_count = k.size; command_count = job_limit k.capacity; fast = k.fast }

-- the voters that are named are all boxes of the group, and a count of boxes has them all
all_inside : (n : ℕ) (voters : Voters) → has_stranger n voters ≡ false → (d : ℕ) → votes voters d ≡ true → ltb d n ≡ true
unfolding has_stranger
all_inside n voters none d h = let here = none_below 10 (λ d. leb n d && votes voters d) none d in grind (arith, nat_tests)

none_strange : (n : ℕ) (voters : Voters) → ((d : ℕ) → votes voters d ≡ true → ltb d n ≡ true) → has_stranger n voters ≡ false
unfolding has_stranger
none_strange n voters inside = go (any_below 10 (λ d. leb n d && votes voters d)) refl
  where
    go : (b : Bool) → any_below 10 (λ d. leb n d && votes voters d) ≡ b → b ≡ false
    go false e = refl
    go true e =
        let found = any_found 10 (λ d. leb n d && votes voters d) e in
        let strange = found.2 in
        let inside_it = inside found.0 in
        absurd (grind (arith, nat_tests))

counted : (n : ℕ) (voters : Voters) → ((d : ℕ) → votes voters d ≡ true → ltb d n ≡ true) → tally n (votes voters) ≡ vote_count voters
unfolding vote_count
counted n voters inside =
    tally_same_bound 10 n (votes voters) (λ d h. let here = inside d in grind (arith, nat_tests)) (λ d h. grind (arith, nat_tests))

module _ {S : Type 0} (m : Meaning S) (s : State S) (i : Inv m s) where
  -- the log has room for what waits
  pub sync_ok : (ws : List ℕ) → s.lead.waiting ≡ ws → (ws ≡ [] → ⊥) → sync_refusal ws s ≡ None
  sync_ok [] e some = absurd (some refl)
  sync_ok (c ∷ cs) e some =
      let most = few_distinct s.jobs.count (s.lead.log ++ s.lead.waiting) i.once i.known in
      let few = i.few in
      let split = length-append s.lead.log s.lead.waiting in
      let long = ap length e in
      let room : length s.lead.log < s.fixed.capacity = omega arith in
      grind (arith, nat_tests)

module _ {S : Type 0} (m : Meaning S) (s : State S) (p : Past) (i : Inv m s) (ties : Ties m s p) where
  message_parts : (r c : ℕ) (b : Bool) → message_refusal r c b s ≡ None → (ltb r s.fixed.size ≡ true) × (b ≡ true)
  message_parts r c b ok = (grind (arith, nat_tests), grind (arith, nat_tests))

  message_ok : (r c : ℕ) (b : Bool) → ltb r s.fixed.size ≡ true → c < s.jobs.count → b ≡ true → message_refusal r c b s ≡ None
  message_ok r c b inside job under_way = grind (arith, nat_tests)

  logged_job : (c : ℕ) → mem c s.lead.log ≡ true → c < s.jobs.count
  logged_job c h = i.known c (let split = any_append (eqb c) s.lead.log s.lead.waiting in grind arith)

  answered_job : (r c : ℕ) → in_transit (s.boxes.answer r c) ≡ true → c < s.jobs.count
  answered_job r c h = let none = i.asked r c in grind (arith, nat_tests)

  -- the next number is the count
  pub next_is : tally (job_limit s.fixed.capacity) (λ c. ltb c s.jobs.count) ≡ s.jobs.count
  next_is = count_below (job_limit s.fixed.capacity) s.jobs.count i.few

  propose_enabled : (x : Option ℕ) → propose_refusal x s ≡ None → (x ≡ None) × (s.jobs.count < job_limit s.fixed.capacity)
  propose_enabled None ok = (refl, grind (arith, nat_tests))
  propose_enabled (Some field) ok = absurd (grind arith)

  propose_ok : (x : Option ℕ) → x ≡ None → s.jobs.count < job_limit s.fixed.capacity → propose_refusal x s ≡ None
  propose_ok None fits room = grind (arith, nat_tests)
  propose_ok (Some field) fits room = absurd (grind arith)

  sync_some : (ws : List ℕ) → sync_refusal ws s ≡ None → ws ≡ [] → ⊥
  sync_some [] ok e = grind arith
  sync_some (c ∷ cs) ok e = grind arith

  pub accepted_enabled : (call : Call) → refusal m call s ≡ None → Enabled m (constants_of s.fixed) call (reading (record { present = s; past = p }))
  accepted_enabled (Propose x) ok =
      let parts = propose_enabled (m.misfit x) ok in
      let room = parts.1 in
      (parts.0, rw next_is (grind (arith, nat_tests)))
  accepted_enabled (Receive r c) ok = message_parts r c (s.boxes.request r c) ok
  accepted_enabled (Hear r c) ok = message_parts r c (in_transit (s.boxes.answer r c)) ok
  accepted_enabled Sync ok = sync_some s.lead.waiting ok
  accepted_enabled (Notice r c) ok = message_parts r c (s.boxes.notice r c) ok
  accepted_enabled (Change l voters) ok =
      let inside = all_inside s.fixed.size voters (grind (arith, nat_tests)) in
      let many = counted s.fixed.size voters inside in
      (grind (arith, nat_tests), inside, rw many (grind (arith, nat_tests)), grind (arith, nat_tests))
  accepted_enabled (Query c) ok = grind (arith, nat_tests)

  pub enabled_accepted : (call : Call) → Enabled m (constants_of s.fixed) call (reading (record { present = s; past = p })) → refusal m call s ≡ None
  enabled_accepted (Propose x) on = propose_ok (m.misfit x) on.0 (let room = rw next_is at on.1 in grind (arith, nat_tests))
  enabled_accepted (Receive r c) on = message_ok r c (s.boxes.request r c) on.0 (ties.of_job r c on.1) on.1
  enabled_accepted (Hear r c) on = message_ok r c (in_transit (s.boxes.answer r c)) on.0 (answered_job r c on.1) on.1
  enabled_accepted Sync on = sync_ok m s i s.lead.waiting refl on
  enabled_accepted (Notice r c) on = message_ok r c (s.boxes.notice r c) on.0 (logged_job c (i.noticed r c on.1)) on.1
  enabled_accepted (Change l voters) on =
      let none = none_strange s.fixed.size voters on.1 in
      let many = rw (counted s.fixed.size voters on.1) at on.2 in
      let inside = on.0 in
      let before_last = on.3 in
      grind (arith, nat_tests)
  enabled_accepted (Query c) on = grind (arith, nat_tests)
