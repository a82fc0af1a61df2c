-- The refusals by number, and the faults that carry them.
use Rattle.std.specs.Prelude.{ℕ, List, Some, None, codes}
use Rattle.base.specs.declared.fault.Refusal.{Refusal}
use Rattle.base.specs.declared.fault.Refusal.TheVariants.{BadSize, BadLeader, Misfit, Full, NoReplica, NoJob, NotInTransit, NothingWaits, WrongVoters, LastEpoch, BadLine, UnknownLetter, WrongFieldCount, BadField, MisplacedSetting, ShortBuffer, LongFile}
use Rattle.base.specs.declared.fault.Layer.{Layer}
use Rattle.base.specs.declared.fault.Layer.TheVariants.{Book, Log, Group, Text}
use Rattle.base.specs.declared.fault.Fault.{Fault}

-- the number of each refusal
abbrev pub number_of : Refusal → ℕ
number_of BadSize = 1
number_of BadLeader = 2
number_of Misfit = 3
number_of Full = 4
number_of NoReplica = 5
number_of NoJob = 6
number_of NotInTransit = 7
number_of NothingWaits = 8
number_of WrongVoters = 9
number_of LastEpoch = 10
number_of BadLine = 11
number_of UnknownLetter = 12
number_of WrongFieldCount = 13
number_of BadField = 14
number_of MisplacedSetting = 15
number_of ShortBuffer = 16
number_of LongFile = 17

-- the word for each layer
abbrev pub name_of : Layer → List ℕ
name_of Book = codes "book"
name_of Log = codes "log"
name_of Group = codes "group"
name_of Text = codes "text"

-- a refusal that is about no field
abbrev pub plain : Refusal → Layer → Fault
plain n l = record { number = n; field = None; layer = l }

-- a refusal that is about the field at a place
abbrev pub about : ℕ → Refusal → Layer → Fault
about f n l = record { number = n; field = Some f; layer = l }

-- a record that does not fit its book, by its first wrong field
abbrev pub misfit_at : ℕ → Fault
misfit_at f = about f Misfit Book

-- a log that is full
abbrev pub log_full : Fault
log_full = plain Full Log
