-- One job, place by place.
use Rattle.std.specs.Prelude.{◌≡◌, ℕ, Some, None, Option, slice_index_or}
use Rattle.base.specs.declared.«record».Record.{Record}
use Rattle.terms.specs.declared.answers.Answer.{Answer}
use Rattle.terms.specs.declared.answers.Answer.TheVariants.{Empty, Transit, Heard}
use Rattle.terms.specs.declared.answers.Reply.{Reply}
use Rattle.terms.specs.declared.answers.Phase.{Phase}
use Rattle.group.specs.declared.job.Job.{Job}

-- the answer of box r
abbrev pub answer_of : Job → ℕ → Answer
answer_of j r = slice_index_or j.answers r Empty

-- the reply that is on its way to the client
abbrev pub transit_of : Answer → Option Reply
transit_of Empty = None
transit_of (Transit x) = Some x
transit_of (Heard x) = None

pub record Holds (q : Job) (of : Record) (answers : ℕ → Answer) (stands : Phase) (result : Option ℕ) : Type 0 where
  pub job : q.«record» ≡ of
  pub answer : (r : ℕ) → answer_of q r ≡ answers r
  pub phase : q.phase ≡ stands
  pub given : q.given ≡ result
