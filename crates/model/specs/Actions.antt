-- The actions of the published model, line by line: what each one changes, and what it leaves UNCHANGED.
-- A number above a line is that of its amendment; `also` has the variables that the amendments add.
use Rattle.std.specs.Prelude.{◌≡◌, ℕ, suc, Bool, true, not, ◌&&◌, [], ◌∷◌, Some, ◌==◌, ◌≢◌}
use Rattle.base.specs.declared.«record».Record.{Record}
use Rattle.base.specs.Meaning.{Meaning}
use Rattle.terms.specs.declared.answers.Reply.TheVariants.{No, Yes, Told}
use Rattle.terms.specs.declared.answers.Answer.TheVariants.{Transit}
use Rattle.terms.specs.declared.answers.Phase.TheVariants.{Waiting}
use Rattle.protocol.specs.Answers.{delivered}
use Rattle.terms.specs.Tests.{any_below, mem}
use Rattle.model.specs.Sets.{Set, ◌∪◌, ◌∖◌, ｛◌｝, ◌EXCEPT![◌]=◌, IF◌THEN◌ELSE◌, Append, Head, Tail, GetIdxInSeq, SetToSeqs}
use Rattle.model.specs.Variables.{Constants, replicas, Model, recover_quorums, UNCHANGED, leader, epoch, proposed_cmds, propose_requests, propose_responses, spec_pools, uncommitted_cmds, committed_cmds, commit_msgs, spec_exec_prev_cmd, commits_taken, content, book, given, answers, phase}
use Rattle.model.specs.Amendments.{AppendOnce, ascends, next, same_key, Decides}

module _ {S : Type 0} (m : Meaning S) (C : Constants) where
  -- [r ∈ replicas ↦ sets[r] ∪ {cmd}]
  abbrev pub each_with : (ℕ → Set) → ℕ → ℕ → Set
  each_with sets cmd r = IF replicas C r THEN sets r ∪ ｛ cmd ｝ ELSE sets r

  -- 3
  abbrev pub spec_pool_has_conflict : Model S → ℕ → ℕ → Bool
  spec_pool_has_conflict s r cmd = any_below C.command_count (λ spec_cmd. s.spec_pools r spec_cmd && same_key m s cmd spec_cmd)

  -- 3
  abbrev pub uncommitted_cmds_has_conflict : Model S → ℕ → Bool
  uncommitted_cmds_has_conflict s cmd = not (GetIdxInSeq s.uncommitted_cmds (same_key m s cmd) == 0)

  -- 4. published: ¬specPoolHasConflict
  abbrev pub pool_takes : Model S → ℕ → ℕ → Bool
  pool_takes s r cmd = C.fast && not (spec_pool_has_conflict s r cmd)

  abbrev pub leader_accepts : Model S → ℕ → ℕ → Bool
  leader_accepts s r cmd = pool_takes s r cmd && not (uncommitted_cmds_has_conflict s cmd)

  -- 8
  abbrev pub result_of : Model S → ℕ → ℕ
  result_of s cmd = m.result s.book (s.content cmd)

  pub record Propose (x : Record) (s s' : Model S) : Type 0 where
    pub proposed_cmds_is : s'.proposed_cmds ≡ s.proposed_cmds ∪ ｛ next C s ｝
    pub propose_requests_is : s'.propose_requests ≡ each_with s.propose_requests (next C s)
    pub unchanged :
        UNCHANGED (leader ∷ epoch ∷ spec_pools ∷ propose_responses ∷ uncommitted_cmds ∷ committed_cmds ∷ commit_msgs ∷ spec_exec_prev_cmd ∷ []) s s'
    -- 3, 10
    pub content_is : s'.content ≡ s.content EXCEPT![ next C s ]= x
    pub phase_is : s'.phase ≡ s.phase EXCEPT![ next C s ]= Waiting
    pub also : UNCHANGED (commits_taken ∷ book ∷ given ∷ answers ∷ []) s s'

  -- 1
  pub record DropPropose (r cmd : ℕ) (s s' : Model S) : Type 0 where
    pub propose_requests_is : s'.propose_requests ≡ s.propose_requests EXCEPT![ r ]= (s.propose_requests r ∖ ｛ cmd ｝)
    pub unchanged :
        UNCHANGED (leader ∷ epoch ∷ proposed_cmds ∷ propose_responses ∷ spec_pools ∷ uncommitted_cmds ∷ committed_cmds ∷ commit_msgs ∷ spec_exec_prev_cmd ∷ []) s s'
    pub also : UNCHANGED (commits_taken ∷ content ∷ book ∷ given ∷ answers ∷ phase ∷ []) s s'

  pub record ProcessProposeLeader (r cmd : ℕ) (s s' : Model S) : Type 0 where
    pub propose_requests_is : s'.propose_requests ≡ s.propose_requests EXCEPT![ r ]= (s.propose_requests r ∖ ｛ cmd ｝)
    pub spec_pools_is :
        s'.spec_pools ≡ s.spec_pools EXCEPT![ r ]=
        (IF pool_takes s r cmd THEN s.spec_pools r ∪ ｛ cmd ｝ ELSE s.spec_pools r)
    -- 5
    pub uncommitted_cmds_is : s'.uncommitted_cmds ≡ AppendOnce s.uncommitted_cmds cmd
    pub propose_responses_is :
        s'.propose_responses ≡ s.propose_responses EXCEPT![ cmd ]= (s.propose_responses cmd EXCEPT![ s.epoch ]=
        (IF leader_accepts s r cmd THEN s.propose_responses cmd s.epoch ∪ ｛ r ｝ ELSE s.propose_responses cmd s.epoch))
    pub spec_exec_prev_cmd_is :
        s'.spec_exec_prev_cmd ≡ s.spec_exec_prev_cmd EXCEPT![ cmd ]=
        (IF leader_accepts s r cmd THEN GetIdxInSeq s.committed_cmds (same_key m s cmd) ELSE s.spec_exec_prev_cmd cmd)
    pub unchanged : UNCHANGED (leader ∷ epoch ∷ proposed_cmds ∷ committed_cmds ∷ commit_msgs ∷ []) s s'
    -- 8, 10
    pub answers_is :
        s'.answers ≡ s.answers EXCEPT![ r ]= (s.answers r EXCEPT![ cmd ]=
        Transit (IF leader_accepts s r cmd THEN Told s.epoch (result_of s cmd) ELSE No s.epoch))
    pub also : UNCHANGED (commits_taken ∷ content ∷ book ∷ given ∷ phase ∷ []) s s'

  pub record ProcessProposeNonLeader (r cmd : ℕ) (s s' : Model S) : Type 0 where
    pub propose_requests_is : s'.propose_requests ≡ s.propose_requests EXCEPT![ r ]= (s.propose_requests r ∖ ｛ cmd ｝)
    pub spec_pools_is :
        s'.spec_pools ≡ s.spec_pools EXCEPT![ r ]=
        (IF pool_takes s r cmd THEN s.spec_pools r ∪ ｛ cmd ｝ ELSE s.spec_pools r)
    pub propose_responses_is :
        s'.propose_responses ≡ s.propose_responses EXCEPT![ cmd ]= (s.propose_responses cmd EXCEPT![ s.epoch ]=
        (IF pool_takes s r cmd THEN s.propose_responses cmd s.epoch ∪ ｛ r ｝ ELSE s.propose_responses cmd s.epoch))
    pub unchanged : UNCHANGED (leader ∷ epoch ∷ proposed_cmds ∷ uncommitted_cmds ∷ committed_cmds ∷ commit_msgs ∷ spec_exec_prev_cmd ∷ []) s s'
    -- 10
    pub answers_is :
        s'.answers ≡ s.answers EXCEPT![ r ]= (s.answers r EXCEPT![ cmd ]=
        Transit (IF pool_takes s r cmd THEN Yes s.epoch ELSE No s.epoch))
    pub also : UNCHANGED (commits_taken ∷ content ∷ book ∷ given ∷ phase ∷ []) s s'

  pub record Commit (s s' : Model S) : Type 0 where
    pub committed_cmds_is : s'.committed_cmds ≡ Append s.committed_cmds (Head s.uncommitted_cmds)
    pub commit_msgs_is : s'.commit_msgs ≡ each_with s.commit_msgs (Head s.uncommitted_cmds)
    pub uncommitted_cmds_is : s'.uncommitted_cmds ≡ Tail s.uncommitted_cmds
    pub unchanged : UNCHANGED (leader ∷ epoch ∷ spec_pools ∷ proposed_cmds ∷ propose_requests ∷ propose_responses ∷ spec_exec_prev_cmd ∷ []) s s'
    -- 8
    pub book_is : s'.book ≡ m.after s.book (s.content (Head s.uncommitted_cmds))
    pub given_is : s'.given ≡ s.given EXCEPT![ Head s.uncommitted_cmds ]= Some (result_of s (Head s.uncommitted_cmds))
    pub also : UNCHANGED (commits_taken ∷ content ∷ answers ∷ phase ∷ []) s s'

  pub record ProcessCommitMsg (r cmd : ℕ) (s s' : Model S) : Type 0 where
    pub commit_msgs_is : s'.commit_msgs ≡ s.commit_msgs EXCEPT![ r ]= (s.commit_msgs r ∖ ｛ cmd ｝)
    pub spec_pools_is : s'.spec_pools ≡ s.spec_pools EXCEPT![ r ]= (s.spec_pools r ∖ ｛ cmd ｝)
    pub unchanged :
        UNCHANGED (leader ∷ epoch ∷ proposed_cmds ∷ propose_requests ∷ propose_responses ∷ uncommitted_cmds ∷ committed_cmds ∷ spec_exec_prev_cmd ∷ []) s s'
    -- 1
    pub commits_taken_is : s'.commits_taken ≡ s.commits_taken EXCEPT![ r ]= (s.commits_taken r ∪ ｛ cmd ｝)
    pub also : UNCHANGED (content ∷ book ∷ given ∷ answers ∷ phase ∷ []) s s'

  -- UNION {specPools[r] : r ∈ q}
  abbrev pub spec_cmds : Model S → Set → Set
  spec_cmds s q cmd = any_below C.replica_count (λ r. q r && s.spec_pools r cmd)

  -- 6. published: whatever a recover quorum of q holds
  abbrev pub new_spec_pool : Model S → Set → Set
  new_spec_pool s q cmd = spec_cmds s q cmd && recover_quorums C (λ r. q r && s.spec_pools r cmd) && not (mem cmd s.committed_cmds)

  pub record LeaderChange (l : ℕ) (q : Set) (s s' : Model S) : Type 0 where
    pub leader_is : s'.leader ≡ s.leader EXCEPT![ suc s.epoch ]= l
    pub epoch_is : s'.epoch ≡ suc s.epoch
    pub spec_pools_is : s'.spec_pools ≡ s.spec_pools EXCEPT![ l ]= new_spec_pool s q
    pub uncommitted_cmds_in : SetToSeqs (new_spec_pool s q) s'.uncommitted_cmds
    -- 12. published: in any order
    pub uncommitted_cmds_order : ascends s'.uncommitted_cmds ≡ true
    pub unchanged : UNCHANGED (proposed_cmds ∷ propose_requests ∷ propose_responses ∷ committed_cmds ∷ commit_msgs ∷ spec_exec_prev_cmd ∷ []) s s'
    pub also : UNCHANGED (commits_taken ∷ content ∷ book ∷ given ∷ answers ∷ phase ∷ []) s s'

  -- 2, 10. The client hears an answer and decides.
  pub record HearResponse (r cmd : ℕ) (s s' : Model S) : Type 0 where
    pub answers_is : s'.answers ≡ s.answers EXCEPT![ r ]= (s.answers r EXCEPT![ cmd ]= delivered (s.answers r cmd))
    pub phase_others : (d : ℕ) → (d ≢ cmd) → s'.phase d ≡ s.phase d
    pub phase_decides : Decides s'.answers cmd C s.leader (s.phase cmd) (s'.phase cmd)
    pub unchanged :
        UNCHANGED (leader ∷ epoch ∷ proposed_cmds ∷ propose_requests ∷ propose_responses ∷ spec_pools ∷ uncommitted_cmds ∷ committed_cmds ∷ commit_msgs ∷ spec_exec_prev_cmd ∷ []) s s'
    pub also : UNCHANGED (commits_taken ∷ content ∷ book ∷ given ∷ []) s s'

  -- a query looks, and changes nothing
  pub record Stutter (s s' : Model S) : Type 0 where
    pub unchanged :
        UNCHANGED (leader ∷ epoch ∷ proposed_cmds ∷ propose_requests ∷ propose_responses ∷ spec_pools ∷ uncommitted_cmds ∷ committed_cmds ∷ commit_msgs ∷ spec_exec_prev_cmd ∷ []) s s'
    pub also : UNCHANGED (commits_taken ∷ content ∷ book ∷ given ∷ answers ∷ phase ∷ []) s s'
