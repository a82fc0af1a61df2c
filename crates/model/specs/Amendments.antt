-- What is added to the published model, or put in the place of a part of it. The numbers are those of docs/model.md.
use Rattle.std.specs.Prelude.{◌≡◌, ℕ, ◌+◌, ◌-◌, Bool, true, false, ◌&&◌, ◌||◌, List, [], ◌∷◌, ◌==◌, ◌≢◌, nat_le}
use Rattle.base.specs.Meaning.{Meaning}
use Rattle.terms.specs.declared.answers.Reply.TheVariants.{Told}
use Rattle.terms.specs.declared.answers.Answer.{Answer}
use Rattle.terms.specs.declared.answers.Answer.TheVariants.{Heard}
use Rattle.terms.specs.declared.answers.Phase.{Phase}
use Rattle.terms.specs.declared.answers.Phase.TheVariants.{Waiting, Slow, Fast}
use Rattle.protocol.specs.Answers.{agrees, heard, declined}
use Rattle.terms.specs.Tests.{mem}
use Rattle.model.specs.Sets.{Set, ◌∈◌, Append, IF◌THEN◌ELSE◌}
use Rattle.model.specs.Variables.{Constants, Model, Cardinality, super_quorum, super_quorums}

-- 5. No command waits twice.
abbrev pub AppendOnce : List ℕ → ℕ → List ℕ
AppendOnce seq cmd = IF mem cmd seq THEN seq ELSE Append seq cmd

-- 12. What a new leader recovered waits in ascending order.
abbrev pub ascends : List ℕ → Bool
ascends [] = true
ascends (x ∷ []) = true
ascends (x ∷ y ∷ rest) = nat_le x y && ascends (y ∷ rest)

module _ {S : Type 0} where
  -- 1. A request is dropped where the replica has taken the command's commit message, or leads and the command is committed.
  abbrev pub Drops : Model S → ℕ → ℕ → Bool
  Drops s r cmd = s.commits_taken r cmd || (r == s.leader s.epoch && mem cmd s.committed_cmds)

  -- 11. Commands go by number, in the order in which they are proposed: the next one.
  abbrev pub next : Constants → Model S → ℕ
  next C s = Cardinality C.command_count s.proposed_cmds

-- 3. In the place of equal keys: the same command, or records that clash.
abbrev pub same_key : {S : Type 0} → Meaning S → Model S → ℕ → ℕ → Bool
same_key m s cmd e = cmd == e || m.clashes (s.content cmd) (s.content e)

-- 2, 10. The client.
module _ (answers : ℕ → ℕ → Answer) (cmd : ℕ) where
  -- the replicas whose yes of epoch e it has heard, and those whose no
  abbrev pub heard_yes : ℕ → Set
  heard_yes e r = agrees e (heard (answers r cmd))

  abbrev pub heard_no : Set
  heard_no r = declined (answers r cmd)

  module _ (C : Constants) (leader : ℕ → ℕ) where
    -- epoch e confirms the command with result t: a super quorum that the leader of e belongs to, as heard
    pub record Confirms (e t : ℕ) : Type 0 where
      pub led : answers (leader e) cmd ≡ Heard (Told e t)
      pub enough : heard_yes e ∈ super_quorums C

    -- so many said no that no super quorum can come of the others
    abbrev pub gives_up : Bool
    gives_up = nat_le (C.replica_count - super_quorum C + 1) (Cardinality C.replica_count heard_no)

    -- the phase before an answer is heard, and after
    pub record Decides (before after : Phase) : Type 0 where
      pub settled : (before ≢ Waiting) → after ≡ before
      pub fast : before ≡ Waiting → (e t : ℕ) → Confirms e t → after ≡ Fast t e
      pub slow : before ≡ Waiting → ((e t : ℕ) → Confirms e t → ⊥) → gives_up ≡ true → after ≡ Slow
      pub waits : before ≡ Waiting → ((e t : ℕ) → Confirms e t → ⊥) → gives_up ≡ false → after ≡ Waiting
