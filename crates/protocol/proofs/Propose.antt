-- A proposal keeps the invariant.
use Rattle.std.proofs.Common.{◌≡◌, ℕ, ◌<◌, eqb, sym, ◌∙◌, inl, inr, arith}
use Rattle.std.proofs.lemmas.Bool.Decides.{nat_tests}
use Rattle.base.specs.declared.«record».Record.{Record}
use Rattle.terms.specs.Tests.{put}
use Rattle.base.specs.Meaning.{Meaning}
use Rattle.protocol.specs.State.{State, meets}
use Rattle.protocol.specs.Refusals.{job_limit}
use Rattle.protocol.specs.Steps.{propose}
use Rattle.protocol.proofs.Invariant.{Firm, Inv, answered, told_agrees, confirmed_job, Onward}
use Rattle.terms.proofs.Lists.{any_append, clear_same}

module _ {S : Type 0} (m : Meaning S) where
  -- a new job changes nothing for the earlier ones
  meets_put : (s : State S) (x : Record) (c d : ℕ) → c < s.jobs.count → d < s.jobs.count →
      meets m (put s.jobs.job s.jobs.count x) c d ≡ meets m s.jobs.job c d
  meets_put s x c d hc hd = grind (arith, nat_tests)

  firm_propose : (x : Record) (s : State S) → Inv m s → (c t : ℕ) → c < s.jobs.count → Firm m s c t → Firm m (propose x s) c t
  firm_propose x s i c t l (inl p) = inl p
  firm_propose x s i c t l (inr q) =
      let same = clear_same (meets m (put s.jobs.job s.jobs.count x)) (meets m s.jobs.job) c s.lead.waiting
      (λ d h. meets_put s x c d l (i.known d (let split = any_append (eqb d) s.lead.log s.lead.waiting in grind arith))) in
      inr (q.0, same ∙ q.1, grind (arith, nat_tests))

  pub inv_propose : (x : Record) (s : State S) → Inv m s → s.jobs.count < job_limit s.fixed.capacity → Inv m (propose x s)
  inv_propose x s i room = record {
    few = omega arith;
    once = i.once;
    known = λ c h. let old = i.known c h in omega arith;
    pooled = λ r c h. let old = i.pooled r c h in omega arith;
    apart = λ r c d hc hd h. i.apart r c d hc hd (sym (meets_put s x c d (i.pooled r c hc) (i.pooled r d hd)) ∙ h);
    asked = λ r c h. i.asked r c (omega arith);
    open_request = λ r c h. let a = i.asked r c in let b = i.open_request r c in grind (arith, nat_tests);
    past = i.past;
    noticed = i.noticed;
    held = i.held;
    firm = λ r c e t h l. firm_propose x s i c t (answered m s i r c e (told_agrees (s.boxes.answer r c) e t h)) (i.firm r c e t h l);
    confirmed = λ c t e h. i.confirmed c t e (grind (arith, nat_tests));
  }

  pub on_propose : (x : Record) (s : State S) → Inv m s → Onward m s (propose x s)
  on_propose x s i = record {
    epoch_up = omega arith;
    count_up = omega arith;
    job_on = λ c h. grind (arith, nat_tests);
    log_on = λ c h. h;
    told_on = λ r c e t h. h;
    fast_on = λ c t e h. let old = confirmed_job m s i c t e h in grind (arith, nat_tests);
    live_back = λ e c past l. l;
    in_turn = λ c d t f out h other meet. h;
  }
