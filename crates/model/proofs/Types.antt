-- The published TypeOK, from the invariants.
use Rattle.std.proofs.Common.{◌≡◌, ℕ, ◌<◌, ◌≤◌, eqb, List, [], ◌∷◌, Some, None, Option, refl, ap, ◌∙◌, subst, arith}
use Rattle.std.proofs.lemmas.Bool.Decides.{nat_tests}
use Rattle.base.specs.declared.fault.Fault.{Fault}
use Rattle.base.specs.Meaning.{Meaning, Laws}
use Rattle.terms.specs.declared.calls.Call.{Call}
use Rattle.terms.specs.declared.calls.Call.TheVariants.{Propose, Receive, Hear, Sync, Notice, Change, Query}
use Rattle.protocol.specs.Outcomes.{unless_refused}
use Rattle.protocol.specs.State.{State}
use Rattle.protocol.specs.Histories.{refusal, moved}
use Rattle.terms.proofs.Lists.{any_append}
use Rattle.protocol.proofs.Invariant.{Inv}
use Rattle.model.specs.Reading.{Past, Trace, noted, onward, traced, new_trace, trace, reading}
use Rattle.model.specs.Types.{TypeOK, TypesHold}
use Rattle.model.proofs.Past.{Ties, present_onward, ties_trace, inv_trace}
use Rattle.model.proofs.Enabling.{constants_of}
use Rattle.model.proofs.Following.{fixed_step, constants_same}

module _ {S : Type 0} (m : Meaning S) where
  -- a leader is a box, or none where there is none yet
  led_moved : (call : Call) (s : State S) (p : Past) → refusal m call s ≡ None → ((e : ℕ) → p.led e ≤ s.fixed.size) → (e : ℕ) → (noted m call s p).led e ≤ s.fixed.size
  led_moved (Propose x) s p ok h e = h e
  led_moved (Receive r c) s p ok h e = h e
  led_moved (Hear r c) s p ok h e = h e
  led_moved Sync s p ok h e = h e
  led_moved (Notice r c) s p ok h e = h e
  led_moved (Change l voters) s p ok h e = let old = h e in grind (arith, nat_tests)
  led_moved (Query c) s p ok h e = h e

  led_onward : (call : Call) (t : Trace S) → ((e : ℕ) → t.past.led e ≤ t.present.fixed.size) → (e : ℕ) → (onward m call t).past.led e ≤ t.present.fixed.size
  led_onward call t h e = go (refusal m call t.present) refl
    where
      go : (o : Option Fault) → refusal m call t.present ≡ o →
          (unless_refused o (record { present = moved m call t.present; past = noted m call t.present t.past }) t).past.led e ≤ t.present.fixed.size
      go None ok = led_moved call t.present t.past ok h e
      go (Some fault) refused = h e

  size_onward : (call : Call) (t : Trace S) → (onward m call t).present.fixed.size ≡ t.present.fixed.size
  size_onward call t = ap (λ (s : State S). s.fixed.size) (present_onward m call t) ∙ ap (λ k. k.size) (fixed_step m call t.present)

  led_run : (calls : List Call) (t : Trace S) → ((e : ℕ) → t.past.led e ≤ t.present.fixed.size) →
      (e : ℕ) → (traced m calls t).past.led e ≤ (traced m calls t).present.fixed.size
  led_run [] t h e = h e
  led_run (call ∷ calls) t h e = led_run calls (onward m call t) (λ d. rw (size_onward call t) (led_onward call t h d)) e

  types : (s : State S) (p : Past) → Inv m s → Ties m s p → ((e : ℕ) → p.led e ≤ s.fixed.size) → TypeOK (constants_of s.fixed) (reading (record { present = s; past = p }))
  types s p i ties led =
      let few = i.few in
      record {
        leader_in = λ e. let at = led e in grind (arith, nat_tests);
        proposed_cmds_in = λ c h. grind (arith, nat_tests);
        propose_requests_in = λ r c h. let job = ties.of_job r c h in grind (arith, nat_tests);
        propose_responses_in = λ c e r h. let box = ties.inside r c e in grind (arith, nat_tests);
        spec_pools_in = λ r c h. let job = i.pooled r c h in grind (arith, nat_tests);
        cmds_in = λ c h. let job = i.known c h in grind (arith, nat_tests);
        cmds_once = i.once;
        commit_msgs_in = λ r c h.
            let logged = i.noticed r c h in
            let job = i.known c (let split = any_append (eqb c) s.lead.log s.lead.waiting in grind arith) in
            grind (arith, nat_tests);
        spec_exec_prev_cmd_in = λ c. let at = ties.low c in omega arith;
      }

  module _ (laws : Laws m) (capacity : ℕ) where
    pub types_hold : TypesHold m capacity
    types_hold k fine calls =
        let t = trace m capacity k calls in
        let inside : k.leader < k.size = grind (arith, nat_tests) in
        let led = led_run calls (new_trace m capacity k) (λ e. grind (arith, nat_tests)) in
        subst (λ C. TypeOK C (reading t)) (constants_same m capacity k calls)
        (types t.present t.past (inv_trace m laws capacity k calls) (ties_trace m laws capacity k calls) led)
