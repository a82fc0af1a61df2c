-- The state of a group. What goes by box or job is a function of their numbers, so no list has to be long enough.
use Rattle.std.specs.Prelude.{ℕ, Bool, false, ◌||◌, List, [], None, Option, ◌==◌}
use Rattle.base.specs.declared.«record».Record.{Record}
use Rattle.base.specs.Meaning.{Meaning}
use Rattle.protocol.specs.declared.setting.Setting.{Setting}
use Rattle.terms.specs.declared.answers.Answer.{Answer}
use Rattle.terms.specs.declared.answers.Answer.TheVariants.{Empty}
use Rattle.terms.specs.declared.answers.Phase.{Phase}
use Rattle.terms.specs.declared.answers.Phase.TheVariants.{Waiting}

-- What no call changes.
pub record Fixed : Type 0 where
  pub size : ℕ
  pub fast : Bool
  pub capacity : ℕ

-- The leader's side: who leads in which epoch, the waiting jobs from the head on, the log, the book.
pub record Lead (S : Type 0) : Type 0 where
  pub leader : ℕ
  pub epoch : ℕ
  pub waiting : List ℕ
  pub log : List ℕ
  pub book : S

-- By job: how many were proposed; each one's record, its client's phase, the result that the log gave.
pub record Jobs : Type 0 where
  pub count : ℕ
  pub job : ℕ → Record
  pub phase : ℕ → Phase
  pub given : ℕ → Option ℕ

-- By box, then job: requests and notices in transit, notices taken, the pool, the answer to the client.
pub record Boxes : Type 0 where
  pub request : ℕ → ℕ → Bool
  pub notice : ℕ → ℕ → Bool
  pub taken : ℕ → ℕ → Bool
  pub pool : ℕ → ℕ → Bool
  pub answer : ℕ → ℕ → Answer

pub record State (S : Type 0) : Type 0 where
  pub fixed : Fixed
  pub lead : Lead S
  pub jobs : Jobs
  pub boxes : Boxes

-- what stands for the record of a job that there is not
abbrev pub blank : Record
blank = record { book = 0; act = 0; x = 0; y = 0; z = 0 }

-- A new group is empty, its book and its log are fresh, and it is in epoch 1.
abbrev pub new_group : {S : Type 0} → Meaning S → ℕ → Setting → State S
new_group m capacity k = record {
  fixed = record { size = k.size; fast = k.fast; capacity = capacity };
  lead = record { leader = k.leader; epoch = 1; waiting = []; log = []; book = m.initial };
  jobs = record { count = 0; job = λ _. blank; phase = λ _. Waiting; given = λ _. None };
  boxes = record {
    request = λ _ _. false;
    notice = λ _ _. false;
    taken = λ _ _. false;
    pool = λ _ _. false;
    answer = λ _ _. Empty;
  };
}

-- Two jobs meet when they are the same job or their records clash.
abbrev pub meets : {S : Type 0} → Meaning S → (ℕ → Record) → ℕ → ℕ → Bool
meets m job c d = c == d || m.clashes (job c) (job d)
