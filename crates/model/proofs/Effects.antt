-- Each accepted call is the action of its name.
use Rattle.std.proofs.Common.{◌≡◌, ℕ, ◌<◌, Bool, true, false, cond, not, ◌&&◌, eqb, List, [], ◌∷◌, None, sym, refl, ap, ◌∙◌, subst, arith}
use mathlib.Core.Path.{fun_ext}
use Rattle.std.proofs.lemmas.Bool.Decides.{nat_tests}
use Rattle.base.specs.declared.«record».Record.{Record}
use Rattle.base.specs.Meaning.{Meaning}
use Rattle.terms.specs.declared.answers.Answer.TheVariants.{Empty, Transit}
use Rattle.terms.specs.declared.answers.Reply.TheVariants.{No, Yes, Told}
use Rattle.terms.specs.declared.voters.Voters.{Voters}
use Rattle.terms.specs.declared.calls.Call.{Call}
use Rattle.terms.specs.declared.calls.Call.TheVariants.{Propose, Receive, Hear, Sync, Notice, Change, Query}
use Rattle.protocol.specs.Answers.{heard}
use Rattle.protocol.specs.Refusals.{job_limit}
use Rattle.terms.specs.Tests.{tally, any_of, ascending, mem, put}
use Rattle.terms.specs.Votes.{votes}
use Rattle.protocol.specs.State.{State, meets}
use Rattle.protocol.specs.Steps.{drops, pools, reply, propose, answers_after, phase_after, hear, note, sync, recovered, change}
use Rattle.protocol.specs.Histories.{refusal, moved}
use Rattle.protocol.proofs.Said.{said}
use Rattle.terms.proofs.Counting.{tally_some}
use Rattle.terms.proofs.Lists.{ascending_mem, mem_ascending, distinct_ascending}
use Rattle.protocol.proofs.Invariant.{Inv, told_agrees}
use Rattle.model.specs.Sets.{IF◌THEN◌ELSE◌}
use Rattle.model.specs.Variables.{Model}
use Rattle.model.specs.Amendments.{Drops, Decides}
use Rattle.model.specs.Actions.{pool_takes, leader_accepts, new_spec_pool, Propose as ProposeAction, DropPropose, ProcessProposeLeader, ProcessProposeNonLeader, Commit, ProcessCommitMsg, LeaderChange, HearResponse}
use Rattle.model.specs.Next.{Action}
use Rattle.model.specs.Reading.{Past, is_told, noted, reading}
use Rattle.model.proofs.Sequences.{idx_none, any_bound, ascending_ascends}
use Rattle.model.proofs.Cells.{put_here, put_except, put2_except, put2_taken_out, put2_put_in, put2_if, to_each, responses, responses_heard, joined_once, joined_not, any_tally}
use Rattle.model.proofs.Client.{decide_fits, decide_only}
use Rattle.model.proofs.Only.{Decided}
use Rattle.model.proofs.Past.{Ties}
use Rattle.model.proofs.Enabling.{constants_of, next_is, accepted_enabled}

-- a choice of three by two tests
pick : (a b : Bool) {A B C : Type 0} → (a ≡ true → A) → (a ≡ false → b ≡ true → B) → (a ≡ false → b ≡ false → C) → IF a THEN A ELSE (IF b THEN B ELSE C)
pick true b x y z = x refl
pick false true x y z = y refl refl
pick false false x y z = z refl refl

module _ {S : Type 0} (m : Meaning S) (s : State S) (p : Past) (i : Inv m s) (ties : Ties m s p) where
  abbrev here : Model S
  here = reading (record { present = s; past = p })

  abbrev after : State S → Model S
  after s' = reading (record { present = s'; past = p })

  propose_action : (x : Record) → ProposeAction m (constants_of s.fixed) x here (after (propose x s))
  propose_action x =
      let count = next_is m s p i ties in
      record {
        proposed_cmds_is = fun_ext (λ c. grind (arith, nat_tests));
        propose_requests_is = to_each s.boxes.request s.fixed.size s.jobs.count _ (sym count);
        unchanged = (refl, (refl, (refl, (refl, (refl, (refl, (refl, (refl, tt))))))));
        content_is = rw count;
        phase_is = rw count;
        also = (refl, (refl, (refl, (refl, tt))));
      }

  -- what the pools hold are jobs, so all bounds above the jobs are one
  pools_same : (r c : ℕ) → pools m s r c ≡ pool_takes m (constants_of s.fixed) here r c
  pools_same r c =
      let few = i.few in
      let same = any_bound s.jobs.count (job_limit s.fixed.capacity) (λ d. s.boxes.pool r d && meets m s.jobs.job c d)
      (λ d h. i.pooled r d (grind arith)) (λ d h. let job = i.pooled r d (grind arith) in omega arith) in
      ap (λ b. s.fixed.fast && not b) same

  accepts_same : (r c : ℕ) → pools m s r c && not (any_of (meets m s.jobs.job c) s.lead.waiting) ≡ leader_accepts m (constants_of s.fixed) here r c
  accepts_same r c =
      let none = idx_none (meets m s.jobs.job c) s.lead.waiting in
      let same = pools_same r c in
      rw (same, none) (grind arith)

  module _ (r c : ℕ) (fresh : s.boxes.answer r c ≡ Empty) where
    -- putting back what is there
    put_back : put p.recorded c (p.recorded c) ≡ p.recorded
    put_back = fun_ext (λ d. grind (arith, nat_tests))

    drop_action : drops s r c ≡ true → DropPropose m (constants_of s.fixed) r c here (reading (record { present = moved m (Receive r c) s; past = noted m (Receive r c) s p }))
    drop_action e = rw e (record {
      propose_requests_is = put2_taken_out s.boxes.request r c;
      unchanged = (refl, (refl, (refl, (refl, (refl, (refl, (refl, (refl, (put_back, tt)))))))));
      also = (refl, (refl, (refl, (refl, (refl, (refl, tt))))));
    })

    -- the leader's reply, and another's
    leader_reply : eqb r s.lead.leader ≡ true →
        reply m s r c ≡ IF leader_accepts m (constants_of s.fixed) here r c THEN Told s.lead.epoch (m.result s.lead.book (s.jobs.job c)) ELSE No s.lead.epoch
    leader_reply lead = rw (← (accepts_same r c)) (grind (arith, nat_tests))

    other_reply : eqb r s.lead.leader ≡ false →
        reply m s r c ≡ IF pool_takes m (constants_of s.fixed) here r c THEN Yes s.lead.epoch ELSE No s.lead.epoch
    other_reply other = rw (← (pools_same r c)) (grind (arith, nat_tests))

    leader_action : drops s r c ≡ false → eqb r s.lead.leader ≡ true →
        ProcessProposeLeader m (constants_of s.fixed) r c here (reading (record { present = moved m (Receive r c) s; past = noted m (Receive r c) s p }))
    leader_action e lead =
        let says = leader_reply lead in
        let accept = leader_accepts m (constants_of s.fixed) here r c in
        rw e (record {
          propose_requests_is = put2_taken_out s.boxes.request r c;
          spec_pools_is = put2_if s.boxes.pool r c (pools m s r c) _ (pools_same r c);
          uncommitted_cmds_is = joined_once s.lead.waiting c (eqb r s.lead.leader) lead;
          propose_responses_is = responses s.boxes.answer r c s.lead.epoch (reply m s r c) accept fresh (λ d. rw says (grind (arith, nat_tests)));
          spec_exec_prev_cmd_is = put_except p.recorded c _ _ (rw says (grind arith));
          unchanged = (refl, (refl, (refl, (refl, (refl, tt)))));
          answers_is = put2_except s.boxes.answer r c _ _ (ap Transit says);
          also = (refl, (refl, (refl, (refl, (refl, tt)))));
        })

    other_action : drops s r c ≡ false → eqb r s.lead.leader ≡ false →
        ProcessProposeNonLeader m (constants_of s.fixed) r c here (reading (record { present = moved m (Receive r c) s; past = noted m (Receive r c) s p }))
    other_action e other =
        let says = other_reply other in
        let accept = pool_takes m (constants_of s.fixed) here r c in
        let not_told : is_told (reply m s r c) ≡ false = rw says (grind arith) in
        rw e (record {
          propose_requests_is = put2_taken_out s.boxes.request r c;
          spec_pools_is = put2_if s.boxes.pool r c (pools m s r c) _ (pools_same r c);
          propose_responses_is = responses s.boxes.answer r c s.lead.epoch (reply m s r c) accept fresh (λ d. rw says (grind (arith, nat_tests)));
          unchanged = (refl, (refl, (refl, (joined_not s.lead.waiting c (eqb r s.lead.leader) other, (refl, (refl, (rw not_told put_back, tt)))))));
          answers_is = put2_except s.boxes.answer r c _ _ (ap Transit says);
          also = (refl, (refl, (refl, (refl, (refl, tt)))));
        })

    receive_action : Action m (constants_of s.fixed) (Receive r c) here (reading (record { present = moved m (Receive r c) s; past = noted m (Receive r c) s p }))
    receive_action =
        let now = ties.leads in
        let drops_same : Drops here r c ≡ drops s r c = rw now in
        pick (Drops here r c) (eqb (p.led s.lead.epoch) r)
        (λ d. drop_action (sym drops_same ∙ d))
        (λ d l. leader_action (sym drops_same ∙ d) (grind (arith, nat_tests)))
        (λ d l. other_action (sym drops_same ∙ d) (grind (arith, nat_tests)))

  commit_action : (ws : List ℕ) → s.lead.waiting ≡ ws → (ws ≡ [] → ⊥) → Commit m (constants_of s.fixed) here (after (sync m ws s))
  commit_action [] e some = absurd (some refl)
  commit_action (c ∷ cs) e some = rw e (record {
    committed_cmds_is = refl;
    commit_msgs_is = to_each s.boxes.notice s.fixed.size c c refl;
    uncommitted_cmds_is = refl;
    unchanged = (refl, (refl, (refl, (refl, (refl, (refl, (refl, tt)))))));
    book_is = refl;
    given_is = refl;
    also = (refl, (refl, (refl, (refl, tt))));
  })

  note_action : (r c : ℕ) → ProcessCommitMsg m (constants_of s.fixed) r c here (after (note r c s))
  note_action r c = record {
    commit_msgs_is = put2_taken_out s.boxes.notice r c;
    spec_pools_is = put2_taken_out s.boxes.pool r c;
    unchanged = (refl, (refl, (refl, (refl, (refl, (refl, (refl, (refl, tt))))))));
    commits_taken_is = put2_put_in s.boxes.taken r c;
    also = (refl, (refl, (refl, (refl, (refl, tt)))));
  }

  -- what enough of the voters' pools hold is a job
  recovered_same : (voters : Voters) (c : ℕ) → recovered s voters c ≡ new_spec_pool m (constants_of s.fixed) here (votes voters) c
  recovered_same voters c =
      let held = any_tally s.fixed.size (λ r. votes voters r && s.boxes.pool r c) in
      let job = λ (some : 0 < tally s.fixed.size (λ r. votes voters r && s.boxes.pool r c)).
      let found = tally_some s.fixed.size (λ r. votes voters r && s.boxes.pool r c) some in
      i.pooled found.0 c (let at = found.1 in grind arith) in
      rw held (grind (arith, nat_tests))

  listed_same : (voters : Voters) (c : ℕ) → mem c (ascending s.jobs.count (recovered s voters)) ≡ recovered s voters c
  listed_same voters c =
      let one = ascending_mem s.jobs.count (recovered s voters) c in
      let two = mem_ascending s.jobs.count (recovered s voters) c in
      by_parts (mem c (ascending s.jobs.count (recovered s voters))) (recovered s voters c) (λ h. (one h).1) (λ h. two (grind (arith, nat_tests)) h)
    where
      by_parts : (a b : Bool) → (a ≡ true → b ≡ true) → (b ≡ true → a ≡ true) → a ≡ b
      by_parts a b f g = grind arith

  change_action : (l : ℕ) (voters : Voters) →
      LeaderChange m (constants_of s.fixed) l (votes voters) here (reading (record { present = change l voters s; past = noted m (Change l voters) s p }))
  change_action l voters = record {
    leader_is = refl;
    epoch_is = refl;
    spec_pools_is = fun_ext (λ r. fun_ext (λ c. let same = recovered_same voters c in pointed r c (eqb r l) same));
    uncommitted_cmds_in = record {
      members = λ c. listed_same voters c ∙ recovered_same voters c;
      once = distinct_ascending s.jobs.count (recovered s voters);
    };
    uncommitted_cmds_order = ascending_ascends s.jobs.count (recovered s voters);
    unchanged = (refl, (refl, (refl, (refl, (refl, (refl, tt))))));
    also = (refl, (refl, (refl, (refl, (refl, (refl, tt))))));
  }
    where
      pointed : (r c : ℕ) (b : Bool) → recovered s voters c ≡ new_spec_pool m (constants_of s.fixed) here (votes voters) c →
          cond b (recovered s voters c) (s.boxes.pool r c) ≡ (cond b (new_spec_pool m (constants_of s.fixed) here (votes voters)) (s.boxes.pool r)) c
      pointed r c true same = same
      pointed r c false same = refl

  -- what is heard was told by the leader of its epoch
  told_by : (r₀ c₀ r e t : ℕ) → heard (answers_after s r₀ c₀ r c₀) ≡ Told e t → (p.led e ≡ r) × (r < s.fixed.size)
  told_by r₀ c₀ r e t h =
      let said_so : said (s.boxes.answer r c₀) ≡ Told e t = grind (arith, nat_tests) in
      (ties.told_led r c₀ e t said_so, ties.inside r c₀ e (told_agrees (s.boxes.answer r c₀) e t said_so))

  decides_by : (r c : ℕ) → Decides (answers_after s r c) c (constants_of s.fixed) p.led (s.jobs.phase c) (phase_after s r c)
  decides_by r c = decide_fits (constants_of s.fixed) p.led (answers_after s r c) c (told_by r c) (s.jobs.phase c)

  hear_action : (r c : ℕ) → HearResponse m (constants_of s.fixed) r c here (after (hear r c s))
  hear_action r c = record {
    answers_is = put2_except s.boxes.answer r c _ _ refl;
    phase_others = λ d other. grind (arith, nat_tests);
    phase_decides = subst (Decides (answers_after s r c) c (constants_of s.fixed) p.led (s.jobs.phase c)) (sym (put_here s.jobs.phase c (phase_after s r c))) (decides_by r c);
    unchanged = (refl, (refl, (refl, (refl, (responses_heard s.boxes.answer r c, (refl, (refl, (refl, (refl, (refl, tt))))))))));
    also = (refl, (refl, (refl, (refl, tt))));
  }

  -- and the phase that the client then has is this one
  pub phase_only : (call : Call) (a : Model S) → Action m (constants_of s.fixed) call here a →
      Decided m (constants_of s.fixed) here a (reading (record { present = moved m call s; past = noted m call s p })) call
  phase_only (Propose x) a act = tt
  phase_only (Receive r c) a act = tt
  phase_only (Hear r c) a act =
      let same = act.answers_is ∙ sym (put2_except s.boxes.answer r c _ _ refl) in
      let decides = subst (λ answers. Decides answers c (constants_of s.fixed) p.led (s.jobs.phase c) (a.phase c)) same act.phase_decides in
      decide_only (constants_of s.fixed) p.led (answers_after s r c) c (told_by r c) (s.jobs.phase c) (a.phase c) decides ∙
      sym (put_here s.jobs.phase c (phase_after s r c))
  phase_only Sync a act = tt
  phase_only (Notice r c) a act = tt
  phase_only (Change l voters) a act = tt
  phase_only (Query c) a act = tt

  pub takes_action : (call : Call) → refusal m call s ≡ None →
      Action m (constants_of s.fixed) call here (reading (record { present = moved m call s; past = noted m call s p }))
  takes_action (Propose x) ok = propose_action x
  takes_action (Receive r c) ok = receive_action r c (i.open_request r c (grind arith))
  takes_action (Hear r c) ok = hear_action r c
  takes_action Sync ok = commit_action s.lead.waiting refl (accepted_enabled m s p i ties Sync ok)
  takes_action (Notice r c) ok = note_action r c
  takes_action (Change l voters) ok = change_action l voters
  takes_action (Query c) ok = record {
    unchanged = (refl, (refl, (refl, (refl, (refl, (refl, (refl, (refl, (refl, (refl, tt))))))))));
    also = (refl, (refl, (refl, (refl, (refl, (refl, tt))))));
  }
