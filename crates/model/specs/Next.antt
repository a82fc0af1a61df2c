-- Init and Next: where an action may be taken, by the call that takes it.
use Rattle.std.specs.Prelude.{◌≡◌, ℕ, ◌<◌, true, false, [], None, nat_eq}
use Rattle.base.specs.Meaning.{Meaning}
use Rattle.terms.specs.declared.answers.Answer.TheVariants.{Empty}
use Rattle.terms.specs.declared.answers.Phase.TheVariants.{Waiting}
use Rattle.terms.specs.declared.calls.Call.{Call}
use Rattle.terms.specs.declared.calls.Call.TheVariants.{Propose as ProposeCall, Receive, Hear, Sync, Notice, Change, Query}
use Rattle.protocol.specs.State.{blank}
use Rattle.protocol.specs.Answers.{in_transit}
use Rattle.terms.specs.Votes.{votes}
use Rattle.model.specs.Sets.{◌∈◌, ◌⊆◌, ◌∖◌, IF◌THEN◌ELSE◌}
use Rattle.model.specs.Variables.{Constants, replicas, commands, no_leader, Model, quorums}
use Rattle.model.specs.Amendments.{Drops, next}
use Rattle.model.specs.Actions.{Propose, DropPropose, ProcessProposeLeader, ProcessProposeNonLeader, Commit, ProcessCommitMsg, LeaderChange, HearResponse, Stutter}

module _ {S : Type 0} (m : Meaning S) (C : Constants) where
  pub record Init (init_leader : ℕ) (s : Model S) : Type 0 where
    pub inside : init_leader ∈ replicas C
    pub leader_is : s.leader ≡ (λ e. IF nat_eq e 1 THEN init_leader ELSE no_leader C)
    pub epoch_is : s.epoch ≡ 1
    pub proposed_cmds_is : s.proposed_cmds ≡ (λ cmd. false)
    pub propose_requests_is : s.propose_requests ≡ (λ r cmd. false)
    pub propose_responses_is : s.propose_responses ≡ (λ cmd e r. false)
    pub spec_pools_is : s.spec_pools ≡ (λ r cmd. false)
    pub uncommitted_cmds_is : s.uncommitted_cmds ≡ []
    pub committed_cmds_is : s.committed_cmds ≡ []
    pub commit_msgs_is : s.commit_msgs ≡ (λ r cmd. false)
    pub spec_exec_prev_cmd_is : s.spec_exec_prev_cmd ≡ (λ cmd. 0)
    -- the amendments'
    pub commits_taken_is : s.commits_taken ≡ (λ r cmd. false)
    pub content_is : s.content ≡ (λ cmd. blank)
    pub book_is : s.book ≡ m.initial
    pub given_is : s.given ≡ (λ cmd. None)
    pub answers_is : s.answers ≡ (λ r cmd. Empty)
    pub phase_is : s.phase ≡ (λ cmd. Waiting)

  -- What Next asks before each action. 7 and 9: the voters, what fits, how many commands, the last epoch.
  abbrev pub Enabled : Call → Model S → Type 0
  Enabled (ProposeCall x) s = (m.misfit x ≡ None) × (next C s ∈ (commands C ∖ s.proposed_cmds))
  Enabled (Receive r cmd) s = (r ∈ replicas C) × (cmd ∈ s.propose_requests r)
  Enabled (Hear r cmd) s = (r ∈ replicas C) × (in_transit (s.answers r cmd) ≡ true)
  Enabled Sync s = s.uncommitted_cmds ≡ [] → ⊥
  Enabled (Notice r cmd) s = (r ∈ replicas C) × (cmd ∈ s.commit_msgs r)
  Enabled (Change l voters) s = (l ∈ replicas C) × (votes voters ⊆ replicas C) × (votes voters ∈ quorums C) × (s.epoch < 9999)
  Enabled (Query cmd) s = cmd ∈ s.proposed_cmds

  -- The action that each call is.
  abbrev pub Action : Call → Model S → Model S → Type 0
  Action (ProposeCall x) s s' = Propose m C x s s'
  Action (Receive r cmd) s s' =
      IF Drops s r cmd
      THEN DropPropose m C r cmd s s'
      ELSE (IF nat_eq (s.leader s.epoch) r
      THEN ProcessProposeLeader m C r cmd s s'
      ELSE ProcessProposeNonLeader m C r cmd s s')
  Action (Hear r cmd) s s' = HearResponse m C r cmd s s'
  Action Sync s s' = Commit m C s s'
  Action (Notice r cmd) s s' = ProcessCommitMsg m C r cmd s s'
  Action (Change l voters) s s' = LeaderChange m C l (votes voters) s s'
  Action (Query cmd) s s' = Stutter m C s s'
