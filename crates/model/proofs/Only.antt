-- Each action leads to one state.
use Rattle.std.proofs.Common.{◌≡◌, ℕ, Bool, true, false, eqb, ◌⊎◌, sym, ◌∙◌, inl, inr}
use mathlib.Core.Path.{fun_ext}
use Rattle.base.specs.declared.«record».Record.{Record}
use Rattle.base.specs.Meaning.{Meaning}
use Rattle.std.proofs.lemmas.Bool.{cases_eq}
use Rattle.terms.specs.declared.calls.Call.{Call}
use Rattle.terms.specs.declared.calls.Call.TheVariants.{Propose as ProposeCall, Receive, Hear, Sync, Notice, Change, Query}
use Rattle.terms.specs.Votes.{votes}
use Rattle.model.specs.Sets.{Set, IF◌THEN◌ELSE◌}
use Rattle.model.specs.Amendments.{Drops}
use Rattle.model.specs.Variables.{Constants, Model}
use Rattle.model.specs.Actions.{Propose, DropPropose, ProcessProposeLeader, ProcessProposeNonLeader, Commit, ProcessCommitMsg, LeaderChange, HearResponse, Stutter}
use Rattle.model.specs.Next.{Init, Action}
use Rattle.model.proofs.Sequences.{ascends_one}

-- two states whose variables agree are one
equal : {S : Type 0} {a b : Model S} →
    a.leader ≡ b.leader →
    a.epoch ≡ b.epoch →
    a.proposed_cmds ≡ b.proposed_cmds →
    a.propose_requests ≡ b.propose_requests →
    a.propose_responses ≡ b.propose_responses →
    a.spec_pools ≡ b.spec_pools →
    a.uncommitted_cmds ≡ b.uncommitted_cmds →
    a.committed_cmds ≡ b.committed_cmds →
    a.commit_msgs ≡ b.commit_msgs →
    a.spec_exec_prev_cmd ≡ b.spec_exec_prev_cmd →
    a.commits_taken ≡ b.commits_taken →
    a.content ≡ b.content →
    a.book ≡ b.book →
    a.given ≡ b.given →
    a.answers ≡ b.answers →
    a.phase ≡ b.phase →
    a ≡ b
equal e₀ e₁ e₂ e₃ e₄ e₅ e₆ e₇ e₈ e₉ e₁₀ e₁₁ e₁₂ e₁₃ e₁₄ e₁₅ = λ i. record {
  leader = e₀ i;
  epoch = e₁ i;
  proposed_cmds = e₂ i;
  propose_requests = e₃ i;
  propose_responses = e₄ i;
  spec_pools = e₅ i;
  uncommitted_cmds = e₆ i;
  committed_cmds = e₇ i;
  commit_msgs = e₈ i;
  spec_exec_prev_cmd = e₉ i;
  commits_taken = e₁₀ i;
  content = e₁₁ i;
  book = e₁₂ i;
  given = e₁₃ i;
  answers = e₁₄ i;
  phase = e₁₅ i;
}

module _ {S : Type 0} (m : Meaning S) (C : Constants) (s a b : Model S) where
  only_propose : (x : Record) → Propose m C x s a → Propose m C x s b → a ≡ b
  only_propose x p q = equal (cc) (cc) (cc) (cc) (cc) (cc) (cc) (cc) (cc) (cc) (cc) (cc) (cc) (cc) (cc) (cc)

  only_drop : (r c : ℕ) → DropPropose m C r c s a → DropPropose m C r c s b → a ≡ b
  only_drop r c p q = equal (cc) (cc) (cc) (cc) (cc) (cc) (cc) (cc) (cc) (cc) (cc) (cc) (cc) (cc) (cc) (cc)

  only_leader : (r c : ℕ) → ProcessProposeLeader m C r c s a → ProcessProposeLeader m C r c s b → a ≡ b
  only_leader r c p q = equal (cc) (cc) (cc) (cc) (cc) (cc) (cc) (cc) (cc) (cc) (cc) (cc) (cc) (cc) (cc) (cc)

  only_other : (r c : ℕ) → ProcessProposeNonLeader m C r c s a → ProcessProposeNonLeader m C r c s b → a ≡ b
  only_other r c p q = equal (cc) (cc) (cc) (cc) (cc) (cc) (cc) (cc) (cc) (cc) (cc) (cc) (cc) (cc) (cc) (cc)

  only_receive : (r c : ℕ) → Action m C (Receive r c) s a → Action m C (Receive r c) s b → a ≡ b
  only_receive r c = go (Drops s r c) (eqb (s.leader s.epoch) r)
    where
      either : Bool → Bool → Model S → Type 0
      either dropped leads s' =
          IF dropped THEN DropPropose m C r c s s' ELSE (IF leads THEN ProcessProposeLeader m C r c s s' ELSE ProcessProposeNonLeader m C r c s s')

      go : (dropped leads : Bool) → either dropped leads a → either dropped leads b → a ≡ b
      go true leads = only_drop r c
      go false true = only_leader r c
      go false false = only_other r c

  only_commit : Commit m C s a → Commit m C s b → a ≡ b
  only_commit p q = equal (cc) (cc) (cc) (cc) (cc) (cc) (cc) (cc) (cc) (cc) (cc) (cc) (cc) (cc) (cc) (cc)

  only_notice : (r c : ℕ) → ProcessCommitMsg m C r c s a → ProcessCommitMsg m C r c s b → a ≡ b
  only_notice r c p q = equal (cc) (cc) (cc) (cc) (cc) (cc) (cc) (cc) (cc) (cc) (cc) (cc) (cc) (cc) (cc) (cc)

  only_change : (l : ℕ) (q : Set) → LeaderChange m C l q s a → LeaderChange m C l q s b → a ≡ b
  only_change l v p q = equal (cc) (cc) (cc) (cc) (cc) (cc) (sequence) (cc) (cc) (cc) (cc) (cc) (cc) (cc) (cc) (cc)
    where
      sequence : a.uncommitted_cmds ≡ b.uncommitted_cmds
      sequence =
          ascends_one a.uncommitted_cmds b.uncommitted_cmds p.uncommitted_cmds_order q.uncommitted_cmds_order p.uncommitted_cmds_in.once q.uncommitted_cmds_in.once
          (λ c. p.uncommitted_cmds_in.members c ∙ sym (q.uncommitted_cmds_in.members c))

  only_hear : (r c : ℕ) → a.phase c ≡ b.phase c → HearResponse m C r c s a → HearResponse m C r c s b → a ≡ b
  only_hear r c same p q = equal (cc) (cc) (cc) (cc) (cc) (cc) (cc) (cc) (cc) (cc) (cc) (cc) (cc) (cc) (cc) (fun_ext (λ d. phases d (cases_eq d c)))
    where
      phases : (d : ℕ) → (d ≡ c) ⊎ (d ≡ c → ⊥) → a.phase d ≡ b.phase d
      phases d (inl here) = rw here same
      phases d (inr other) = p.phase_others d other ∙ sym (q.phase_others d other)

  only_query : Stutter m C s a → Stutter m C s b → a ≡ b
  only_query p q = equal (cc) (cc) (cc) (cc) (cc) (cc) (cc) (cc) (cc) (cc) (cc) (cc) (cc) (cc) (cc) (cc)

  -- what is to be known apart: the phase that the client decides on
  abbrev pub Decided : Call → Type 0
  Decided (ProposeCall x) = Unit {0}
  Decided (Receive r c) = Unit {0}
  Decided (Hear r c) = a.phase c ≡ b.phase c
  Decided Sync = Unit {0}
  Decided (Notice r c) = Unit {0}
  Decided (Change l voters) = Unit {0}
  Decided (Query c) = Unit {0}

  pub only : (call : Call) → Decided call → Action m C call s a → Action m C call s b → a ≡ b
  only (ProposeCall x) same p q = only_propose x p q
  only (Receive r c) same p q = only_receive r c p q
  only (Hear r c) same p q = only_hear r c same p q
  only Sync same p q = only_commit p q
  only (Notice r c) same p q = only_notice r c p q
  only (Change l voters) same p q = only_change l (votes voters) p q
  only (Query c) same p q = only_query p q

  pub only_init : (l : ℕ) → Init m C l a → Init m C l b → a ≡ b
  only_init l p q = equal (cc) (cc) (cc) (cc) (cc) (cc) (cc) (cc) (cc) (cc) (cc) (cc) (cc) (cc) (cc) (cc)
