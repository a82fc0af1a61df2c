-- A group read as a state of the protocol.
use Rattle.std.specs.Prelude.{◌≡◌, ℕ, ◌<◌, Bool, List, [], length, None, vec_items, slice_index_or}
use Rattle.std.specs.Borrow.{MutBor}
use Rattle.terms.specs.declared.answers.Phase.TheVariants.{Waiting}
use Rattle.protocol.specs.State.{State, Jobs, Boxes, blank}
use Rattle.books.specs.declared.book.Book.{Ghosts as BookOf}
use Rattle.logs.specs.declared.log.Log.{Ghosts as LogOf}
use Rattle.group.specs.declared.job_set.JobSet.{JobSet}
use Rattle.group.specs.declared.replica.Replica.{Replica}
use Rattle.group.specs.declared.job.Job.{Job}
use Rattle.group.specs.declared.group.Group.{Group}
use Rattle.group.specs.Sets.{has}
use Rattle.group.specs.Jobs.{answer_of}

-- what stands for a job or a box that there is not
abbrev pub no_job : Job
no_job = record { «record» = blank; answers = []; phase = Waiting; given = None }

abbrev pub no_jobs : JobSet
no_jobs = record { members = [] }

abbrev pub no_box : Replica
no_box = record { requests = no_jobs; notices = no_jobs; taken = no_jobs; pool = no_jobs }

abbrev pub job_at : List Job → ℕ → Job
job_at jobs c = slice_index_or jobs c no_job

abbrev pub box_at : List Replica → ℕ → Replica
box_at boxes r = slice_index_or boxes r no_box

abbrev pub jobs_seen : List Job → Jobs
jobs_seen jobs = record {
  count = length jobs;
  job = λ c. (job_at jobs c).«record»;
  phase = λ c. (job_at jobs c).phase;
  given = λ c. (job_at jobs c).given;
}

abbrev pub boxes_seen : List Replica → List Job → Boxes
boxes_seen boxes jobs = record {
  request = λ r c. has (box_at boxes r).requests c;
  notice = λ r c. has (box_at boxes r).notices c;
  taken = λ r c. has (box_at boxes r).taken c;
  pool = λ r c. has (box_at boxes r).pool c;
  answer = λ r c. answer_of (job_at jobs c) r;
}

-- what a state is read from
pub record Parts (S : Type 0) : Type 0 where
  pub fast : Bool
  pub capacity : ℕ
  pub leader : ℕ
  pub epoch : ℕ
  pub waiting : List ℕ
  pub log : List ℕ
  pub book : S
  pub jobs : List Job
  pub boxes : List Replica

abbrev pub seen : {S : Type 0} → Parts S → State S
seen p = record {
  fixed = record { size = length p.boxes; fast = p.fast; capacity = p.capacity };
  lead = record { leader = p.leader; epoch = p.epoch; waiting = p.waiting; log = p.log; book = p.book };
  jobs = jobs_seen p.jobs;
  boxes = boxes_seen p.boxes p.jobs;
}

-- the group, by what its book and its log mean
abbrev pub parts : {B L S : Type 0} → (B → S) → (L → List ℕ) → ℕ → Group B L → Parts S
parts state entries capacity g = record {
  fast = g.fast;
  capacity = capacity;
  leader = g.leader;
  epoch = g.epoch;
  waiting = g.waiting.jobs.items;
  log = entries g.log;
  book = state g.book;
  jobs = vec_items g.jobs;
  boxes = vec_items g.boxes;
}

abbrev pub view : {B L S : Type 0} → (B → S) → (L → List ℕ) → ℕ → Group B L → State S
view state entries capacity g = seen (parts state entries capacity g)

-- the same, of the book and the log that the bounds name
abbrev pub parts_of : {B L : Type 0} (b : BookOf B) (l : LogOf L) → Group B L → Parts b.State
parts_of b l g = parts b.state l.entries l.limit g

abbrev pub state_of : {B L : Type 0} (b : BookOf B) (l : LogOf L) → Group B L → State b.State
state_of b l g = view b.state l.entries l.limit g

-- each box became what P says, and none came or went
pub record AllBecame (P : Replica → Replica → Type 0) (old new : List Replica) : Type 0 where
  pub each : (r : ℕ) → r < length old → P (box_at old r) (box_at new r)
  pub many : length new ≡ length old

-- a call that `post` allows may find a box as p and leave it as q
pub record Leaves (post : MutBor Replica → Unit {0} → MutBor Replica → Type 0) (p q : Replica) : Type 0 where
  pub found : MutBor Replica
  pub finds : found.now ≡ p
  pub left : MutBor Replica
  pub called : post found tt left
  pub leaves : left.now ≡ q

-- a box and a job that there are
pub record Named {B L : Type 0} (replica job : ℕ) (g : Group B L) : Type 0 where
  pub in_group : replica < length (vec_items g.boxes)
  pub proposed : job < length (vec_items g.jobs)
