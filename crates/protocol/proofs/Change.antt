-- A change of leader keeps the invariant: what a quorum confirmed is recovered.
use Rattle.std.proofs.Common.{◌≡◌, ℕ, ◌<◌, ◌≤◌, true, false, eqb, refl, inl, inr, arith}
use Rattle.std.proofs.lemmas.Bool.Decides.{nat_tests}
use Rattle.terms.specs.Tests.{tally, mem, ascending}
use Rattle.base.specs.Meaning.{Meaning}
use Rattle.protocol.specs.State.{State, meets}
use Rattle.protocol.specs.Counts.{electing}
use Rattle.protocol.proofs.Said.{said}
use Rattle.protocol.specs.Answers.{agrees}
use Rattle.terms.specs.declared.voters.Voters.{Voters}
use Rattle.terms.specs.Votes.{votes}
use Rattle.protocol.specs.Steps.{recovered, change}
use Rattle.protocol.proofs.Invariant.{Quorum, Live, Firm, Inv, answered, told_agrees, Onward}
use Rattle.protocol.proofs.Sharing.{shared, common}
use Rattle.terms.proofs.Lists.{any_append, ascending_mem, mem_ascending, distinct_left, distinct_join, distinct_ascending, clear_alone}

module _ {S : Type 0} (m : Meaning S) (l₀ : ℕ) (voters : Voters) (s : State S) (i : Inv m s)
    (enough_voters : tally s.fixed.size (votes voters) ≡ electing s.fixed.size) where
  -- two recovered jobs share a pool, so they do not meet
  recovered_apart : (c d : ℕ) → recovered s voters c ≡ true → recovered s voters d ≡ true → meets m s.jobs.job c d ≡ true → c ≡ d
  recovered_apart c d hc hd meet =
      let both = common s.fixed.size (votes voters) (λ r. s.boxes.pool r c) (λ r. s.boxes.pool r d) enough_voters (grind (arith, nat_tests)) (grind (arith, nat_tests)) in
      i.apart both.0 c d both.1 both.2 meet

  -- a job that a quorum agreed to in a past epoch is recovered
  quorum_recovered : (c e : ℕ) → c < s.jobs.count → Quorum s.fixed.size s.boxes.answer e c → mem c s.lead.log ≡ false → recovered s voters c ≡ true
  quorum_recovered c e job q out =
      let in_pools = shared s.fixed.size (λ r. agrees e (said (s.boxes.answer r c))) (votes voters) (λ r. s.boxes.pool r c) q enough_voters
      (λ r h. i.held r c e h (inr q) out) in
      grind (arith, nat_tests)

  -- no answer is of the epoch that begins
  past_live : (e c : ℕ) → e ≤ s.lead.epoch → Live (change l₀ voters s) e c → Quorum s.fixed.size s.boxes.answer e c
  past_live e c past (inl p) = omega arith
  past_live e c past (inr q) = q

  firm_change : (c t : ℕ) → (mem c s.lead.log ≡ false → recovered s voters c ≡ true) → Firm m s c t → Firm m (change l₀ voters s) c t
  firm_change c t back (inl p) = inl p
  firm_change c t back (inr q) =
      let in_List = mem_ascending s.jobs.count (recovered s voters) c (grind (arith, nat_tests)) (back q.0) in
      inr (
        q.0,
        clear_alone (meets m s.jobs.job) c (ascending s.jobs.count (recovered s voters)) in_List
            (λ d h. recovered_apart c d (back q.0) (ascending_mem s.jobs.count (recovered s voters) d h).1),
        q.2,
      )

  pub inv_change : Inv m (change l₀ voters s)
  inv_change = record {
    once = distinct_join s.lead.log (ascending s.jobs.count (recovered s voters)) (distinct_left s.lead.log s.lead.waiting i.once)
        (distinct_ascending s.jobs.count (recovered s voters))
        (λ d h. let in_List = ascending_mem s.jobs.count (recovered s voters) d in grind arith);
    few = i.few;
    known = λ c h.
        let split = any_append (eqb c) s.lead.log (ascending s.jobs.count (recovered s voters)) in
        let split₂ = any_append (eqb c) s.lead.log s.lead.waiting in
        let old = i.known c in
        let new = ascending_mem s.jobs.count (recovered s voters) c in
        grind arith;
    pooled = λ r c h. let old = i.pooled r c in grind (arith, nat_tests);
    apart = λ r c d hc hd meet. let old = i.apart r c d in let new = recovered_apart c d in grind (arith, nat_tests);
    asked = i.asked;
    open_request = i.open_request;
    past = λ r c e h. let old = i.past r c e h in omega arith;
    noticed = i.noticed;
    held = λ r c e h l out.
        let q = past_live e c (i.past r c e h) l in
        let old = i.held r c e h (inr q) out in
        let back = quorum_recovered c e (answered m s i r c e h) q out in
        grind (arith, nat_tests);
    firm = λ r c e t h l.
        let said_so = told_agrees (s.boxes.answer r c) e t h in
        let q = past_live e c (i.past r c e said_so) l in
        firm_change c t (quorum_recovered c e (answered m s i r c e said_so) q) (i.firm r c e t h (inr q));
    confirmed = i.confirmed;
  }

  pub on_change : Onward m s (change l₀ voters s)
  on_change = record {
    epoch_up = omega arith;
    count_up = omega arith;
    job_on = λ c h. refl;
    log_on = λ c h. h;
    told_on = λ r c e t h. h;
    fast_on = λ c t e h. h;
    live_back = λ e c past l. inr (past_live e c past l);
    in_turn = λ c d t f out h other meet. h;
  }
