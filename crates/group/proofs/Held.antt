-- The parts of a group with other waiting jobs, jobs and boxes.
use Rattle.std.proofs.Common.{ℕ, List}
use Rattle.group.specs.declared.job.Job.{Job}
use Rattle.group.specs.declared.replica.Replica.{Replica}
use Rattle.group.specs.View.{Parts}

abbrev pub held : {S : Type 0} → Parts S → List ℕ → List Job → List Replica → Parts S
held p waiting jobs boxes = record {
  fast = p.fast;
  capacity = p.capacity;
  leader = p.leader;
  epoch = p.epoch;
  waiting = waiting;
  log = p.log;
  book = p.book;
  jobs = jobs;
  boxes = boxes;
}
