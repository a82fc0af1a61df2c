-- How a group's state is read as a state of the published model.
use Rattle.std.specs.Prelude.{ℕ, suc, Bool, true, false, cond, not, ◌&&◌, List, [], ◌∷◌, ◌==◌, nat_lt}
use Rattle.base.specs.Meaning.{Meaning}
use Rattle.protocol.specs.declared.setting.Setting.{Setting}
use Rattle.terms.specs.declared.answers.Reply.{Reply}
use Rattle.terms.specs.declared.answers.Reply.TheVariants.{No, Yes, Told}
use Rattle.terms.specs.declared.answers.Answer.{Answer}
use Rattle.terms.specs.declared.answers.Answer.TheVariants.{Empty, Transit, Heard}
use Rattle.terms.specs.declared.calls.Call.{Call}
use Rattle.terms.specs.declared.calls.Call.TheVariants.{Propose, Receive, Hear, Sync, Notice, Change, Query}
use Rattle.protocol.specs.Answers.{agrees}
use Rattle.terms.specs.Tests.{put}
use Rattle.protocol.specs.Outcomes.{unless_refused}
use Rattle.protocol.specs.Refusals.{job_limit}
use Rattle.protocol.specs.State.{State, new_group, meets}
use Rattle.protocol.specs.Steps.{drops, reply}
use Rattle.protocol.specs.Histories.{refusal, moved}
use Rattle.model.specs.Sets.{GetIdxInSeq}
use Rattle.model.specs.Variables.{Constants, Model}

-- the constants, by a log's capacity and a group's setting
abbrev pub constants : ℕ → Setting → Constants
constants capacity k = record { replica_count = k.size; command_count = job_limit capacity; fast = k.fast }

-- The published model keeps two things of the past that a group does not: who led in each epoch,
-- and for each command the index that was recorded when a leader said yes to it.
pub record Past : Type 0 where
  pub led : ℕ → ℕ
  pub recorded : ℕ → ℕ

-- a state with its past
pub record Trace (S : Type 0) : Type 0 where
  pub present : State S
  pub past : Past

abbrev pub is_told : Reply → Bool
is_told (No e) = false
is_told (Yes e) = false
is_told (Told e t) = true

module _ {S : Type 0} (m : Meaning S) where
  -- box r now says yes to c, as the leader
  abbrev pub tells_now : State S → ℕ → ℕ → Bool
  tells_now s r c = not (drops s r c) && is_told (reply m s r c)

  -- the past after a call that is not refused
  abbrev pub noted : Call → State S → Past → Past
  noted (Propose x) s p = p
  noted (Receive r c) s p = record {
    led = p.led;
    recorded = put p.recorded c (cond (tells_now s r c) (GetIdxInSeq s.lead.log (meets m s.jobs.job c)) (p.recorded c));
  }
  noted (Hear r c) s p = p
  noted Sync s p = p
  noted (Notice r c) s p = p
  noted (Change l voters) s p = record { led = put p.led (suc s.lead.epoch) l; recorded = p.recorded }
  noted (Query c) s p = p

  abbrev pub onward : Call → Trace S → Trace S
  onward call t =
      unless_refused (refusal m call t.present) (record { present = moved m call t.present; past = noted call t.present t.past }) t

  abbrev pub traced : List Call → Trace S → Trace S
  traced [] t = t
  traced (call ∷ calls) t = traced calls (onward call t)

  -- a new group, led in epoch 1 only
  abbrev pub new_trace : ℕ → Setting → Trace S
  new_trace capacity k = record {
    present = new_group m capacity k;
    past = record { led = λ e. cond (e == 1) k.leader k.size; recorded = λ c. 0 };
  }

  -- what comes of a list of calls on a new group
  abbrev pub trace : ℕ → Setting → List Call → Trace S
  trace capacity k calls = traced calls (new_trace capacity k)

-- a yes of epoch e, on its way or heard
abbrev pub yes_of : ℕ → Answer → Bool
yes_of e Empty = false
yes_of e (Transit x) = agrees e x
yes_of e (Heard x) = agrees e x

abbrev pub reading : {S : Type 0} → Trace S → Model S
reading t = record {
  leader = t.past.led;
  epoch = t.present.lead.epoch;
  proposed_cmds = λ c. nat_lt c t.present.jobs.count;
  propose_requests = t.present.boxes.request;
  propose_responses = λ c e r. yes_of e (t.present.boxes.answer r c);
  spec_pools = t.present.boxes.pool;
  uncommitted_cmds = t.present.lead.waiting;
  committed_cmds = t.present.lead.log;
  commit_msgs = t.present.boxes.notice;
  spec_exec_prev_cmd = t.past.recorded;
  commits_taken = t.present.boxes.taken;
  content = t.present.jobs.job;
  book = t.present.lead.book;
  given = t.present.jobs.given;
  answers = t.present.boxes.answer;
  phase = t.present.jobs.phase;
}
