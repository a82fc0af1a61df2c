-- The constants and variables of the published model, by its names in snake case, and the variables that the amendments add.
use Rattle.std.specs.Prelude.{◌≡◌, ℕ, ◌+◌, ◌/◌, Bool, List, [], ◌∷◌, Option, ◌==◌, nat_le, nat_lt}
use Rattle.base.specs.declared.«record».Record.{Record}
use Rattle.terms.specs.declared.answers.Answer.{Answer}
use Rattle.terms.specs.declared.answers.Phase.{Phase}
use Rattle.terms.specs.Tests.{tally}
use Rattle.model.specs.Sets.{Set}

-- CONSTANTS. Replicas and commands are numbers from 0 on: how many there are of each.
pub record Constants : Type 0 where
  pub replica_count : ℕ
  pub command_count : ℕ
  -- amendment 4: whether commands may be confirmed the fast way
  pub fast : Bool

abbrev pub replicas : Constants → Set
replicas C r = nat_lt r C.replica_count

abbrev pub commands : Constants → Set
commands C cmd = nat_lt cmd C.command_count

-- the first number that is no replica
abbrev pub no_leader : Constants → ℕ
no_leader C = C.replica_count

-- VARIABLES
pub record Model (S : Type 0) : Type 0 where
  -- by epoch
  pub leader : ℕ → ℕ
  pub epoch : ℕ
  pub proposed_cmds : Set
  -- by replica: commands
  pub propose_requests : ℕ → Set
  -- by command, then epoch: replicas
  pub propose_responses : ℕ → ℕ → Set
  -- by replica: commands
  pub spec_pools : ℕ → Set
  pub uncommitted_cmds : List ℕ
  pub committed_cmds : List ℕ
  -- by replica: commands
  pub commit_msgs : ℕ → Set
  -- by command
  pub spec_exec_prev_cmd : ℕ → ℕ
  -- The rest is the amendments'.
  -- 1. by replica: the commands whose commit message it has taken
  pub commits_taken : ℕ → Set
  -- 3. by command: its record, which stands for its key
  pub content : ℕ → Record
  -- 8. the book, and by command: the result that it gave when it was committed
  pub book : S
  pub given : ℕ → Option ℕ
  -- 10. by replica, then command: the answer, on its way to the client or heard
  pub answers : ℕ → ℕ → Answer
  -- 2, 10. by command: where its client stands
  pub phase : ℕ → Phase

-- UNCHANGED ⟨..⟩
pub data Variable : Type 0 where
  leader epoch proposed_cmds propose_requests propose_responses spec_pools uncommitted_cmds committed_cmds commit_msgs spec_exec_prev_cmd : Variable
  commits_taken content book given answers phase : Variable

module _ {S : Type 0} where
  abbrev pub Same : Variable → Model S → Model S → Type 0
  Same leader s s' = s'.leader ≡ s.leader
  Same epoch s s' = s'.epoch ≡ s.epoch
  Same proposed_cmds s s' = s'.proposed_cmds ≡ s.proposed_cmds
  Same propose_requests s s' = s'.propose_requests ≡ s.propose_requests
  Same propose_responses s s' = s'.propose_responses ≡ s.propose_responses
  Same spec_pools s s' = s'.spec_pools ≡ s.spec_pools
  Same uncommitted_cmds s s' = s'.uncommitted_cmds ≡ s.uncommitted_cmds
  Same committed_cmds s s' = s'.committed_cmds ≡ s.committed_cmds
  Same commit_msgs s s' = s'.commit_msgs ≡ s.commit_msgs
  Same spec_exec_prev_cmd s s' = s'.spec_exec_prev_cmd ≡ s.spec_exec_prev_cmd
  Same commits_taken s s' = s'.commits_taken ≡ s.commits_taken
  Same content s s' = s'.content ≡ s.content
  Same book s s' = s'.book ≡ s.book
  Same given s s' = s'.given ≡ s.given
  Same answers s s' = s'.answers ≡ s.answers
  Same phase s s' = s'.phase ≡ s.phase

  abbrev pub UNCHANGED : List Variable → Model S → Model S → Type 0
  UNCHANGED [] s s' = Unit {0}
  UNCHANGED (v ∷ vs) s s' = Same v s s' × UNCHANGED vs s s'

-- Sets of replicas. In N = 2 * f + 1 replicas:
abbrev pub Cardinality : ℕ → Set → ℕ
Cardinality n set = tally n set

abbrev pub f : Constants → ℕ
f C = C.replica_count / 2

-- amendment 7: exactly f + 1 (published: at least)
abbrev pub quorums : Constants → Set → Bool
quorums C q = Cardinality C.replica_count q == f C + 1

abbrev pub super_quorum : Constants → ℕ
super_quorum C = f C + (f C + 1) / 2 + 1

abbrev pub super_quorums : Constants → Set → Bool
super_quorums C q = nat_le (super_quorum C) (Cardinality C.replica_count q)

abbrev pub recover_quorums : Constants → Set → Bool
recover_quorums C q = nat_le ((f C + 1) / 2 + 1) (Cardinality C.replica_count q)
