-- Where each call is refused, and with what; the lowest number that applies comes first.
use Rattle.std.specs.Prelude.{ℕ, min, Bool, cond, List, [], ◌∷◌, length, Some, None, Option, ◌==◌, nat_le}
use Rattle.base.specs.declared.fault.Fault.{Fault}
use Rattle.base.specs.declared.fault.Refusal.{Refusal}
use Rattle.base.specs.declared.fault.Refusal.TheVariants.{BadLeader, Full, NoReplica, NoJob, NotInTransit, NothingWaits, WrongVoters, LastEpoch}
use Rattle.base.specs.declared.fault.Layer.TheVariants.{Group}
use Rattle.base.specs.Faults.{plain, misfit_at, log_full}
use Rattle.terms.specs.declared.voters.Voters.{Voters}
use Rattle.protocol.specs.Counts.{electing}
use Rattle.terms.specs.Votes.{vote_count, has_stranger}
use Rattle.protocol.specs.Answers.{in_transit}
use Rattle.protocol.specs.State.{State}

abbrev pub refuse : Refusal → Option Fault
refuse n = Some (plain n Group)

-- at most as many jobs as the log has room for, and never more than 256
abbrev pub job_limit : ℕ → ℕ
job_limit capacity = min capacity 256

abbrev pub last_epoch : ℕ
last_epoch = 9999

module _ {S : Type 0} where
  abbrev pub room_refusal : State S → Option Fault
  room_refusal s = cond (nat_le (job_limit s.fixed.capacity) s.jobs.count) (refuse Full) None

  abbrev pub propose_refusal : Option ℕ → State S → Option Fault
  propose_refusal (Some field) s = Some (misfit_at field)
  propose_refusal None s = room_refusal s

  -- a message to or from box r about job c, which is in transit or not
  abbrev pub message_refusal : ℕ → ℕ → Bool → State S → Option Fault
  message_refusal r c under_way s =
      cond (nat_le s.fixed.size r) (refuse NoReplica)
      (cond (nat_le s.jobs.count c) (refuse NoJob)
      (cond under_way None (refuse NotInTransit)))

  abbrev pub receive_refusal : ℕ → ℕ → State S → Option Fault
  receive_refusal r c s = message_refusal r c (s.boxes.request r c) s

  abbrev pub hear_refusal : ℕ → ℕ → State S → Option Fault
  hear_refusal r c s = message_refusal r c (in_transit (s.boxes.answer r c)) s

  abbrev pub notice_refusal : ℕ → ℕ → State S → Option Fault
  notice_refusal r c s = message_refusal r c (s.boxes.notice r c) s

  -- A log that has no room refuses by itself; no history comes to that.
  abbrev pub sync_refusal : List ℕ → State S → Option Fault
  sync_refusal [] s = refuse NothingWaits
  sync_refusal (c ∷ cs) s = cond (length s.lead.log == s.fixed.capacity) (Some log_full) None

  abbrev pub change_refusal : ℕ → Voters → State S → Option Fault
  change_refusal l voters s =
      cond (nat_le s.fixed.size l) (refuse BadLeader)
      (cond (has_stranger s.fixed.size voters) (refuse NoReplica)
      (cond (vote_count voters == electing s.fixed.size)
      (cond (nat_le last_epoch s.lead.epoch) (refuse LastEpoch) None)
      (refuse WrongVoters)))

  abbrev pub query_refusal : ℕ → State S → Option Fault
  query_refusal c s = cond (nat_le s.jobs.count c) (refuse NoJob) None
