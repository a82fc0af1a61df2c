-- What each call does where it is not refused, and what it tells.
use Rattle.std.specs.Prelude.{ℕ, suc, Bool, true, false, cond, not, ◌&&◌, ◌||◌, List, [], ◌∷◌, ◌++◌, length, Some, None, Option, ◌==◌, nat_le, nat_lt}
use Rattle.base.specs.declared.«record».Record.{Record}
use Rattle.base.specs.Meaning.{Meaning}
use Rattle.terms.specs.declared.answers.Reply.{Reply}
use Rattle.terms.specs.declared.answers.Reply.TheVariants.{No, Yes, Told}
use Rattle.terms.specs.declared.answers.Answer.{Answer}
use Rattle.terms.specs.declared.answers.Answer.TheVariants.{Transit}
use Rattle.terms.specs.declared.answers.Phase.{Phase}
use Rattle.terms.specs.declared.answers.Phase.TheVariants.{Waiting}
use Rattle.terms.specs.declared.calls.Received.{Received}
use Rattle.terms.specs.declared.calls.Received.TheVariants.{Dropped}
use Rattle.terms.specs.declared.calls.Synced.{Synced}
use Rattle.terms.specs.declared.calls.Changed.{Changed}
use Rattle.terms.specs.declared.calls.Status.{Status}
use Rattle.terms.specs.declared.voters.Voters.{Voters}
use Rattle.terms.specs.Tests.{tally, any_below, any_of, ascending, mem, put, put2}
use Rattle.protocol.specs.Counts.{recovering}
use Rattle.terms.specs.Votes.{votes}
use Rattle.terms.specs.Written.{told_of}
-- what a receive tells of its reply
pub use Rattle.terms.specs.Written.{verdict}
use Rattle.protocol.specs.Answers.{delivered, decide}
use Rattle.protocol.specs.State.{State, meets}

-- the place of c in a list, counted from 1
abbrev pub place_after : ℕ → ℕ → List ℕ → Option ℕ
place_after n c [] = None
place_after n c (x ∷ xs) = cond (c == x) (Some (suc n)) (place_after (suc n) c xs)

-- Those that ask nothing of the book.
module _ {S : Type 0} where
  -- Propose: the next job, in transit to every box.
  abbrev pub propose : Record → State S → State S
  propose x s = record {
    fixed = s.fixed;
    lead = s.lead;
    jobs = record {
      count = suc s.jobs.count;
      job = put s.jobs.job s.jobs.count x;
      phase = put s.jobs.phase s.jobs.count Waiting;
      given = s.jobs.given;
    };
    boxes = record {
      request = λ r c. (c == s.jobs.count && nat_lt r s.fixed.size) || s.boxes.request r c;
      notice = s.boxes.notice;
      taken = s.boxes.taken;
      pool = s.boxes.pool;
      answer = s.boxes.answer;
    };
  }

  -- A request is dropped where the box has taken the job's notice, or leads and the job is in the log.
  abbrev pub drops : State S → ℕ → ℕ → Bool
  drops s r c = s.boxes.taken r c || (r == s.lead.leader && mem c s.lead.log)

  abbrev pub dropped : ℕ → ℕ → State S → State S
  dropped r c s = record {
    fixed = s.fixed;
    lead = s.lead;
    jobs = s.jobs;
    boxes = record {
      request = put2 s.boxes.request r c false;
      notice = s.boxes.notice;
      taken = s.boxes.taken;
      pool = s.boxes.pool;
      answer = s.boxes.answer;
    };
  }

  -- A job that the leader receives joins the end of the waiting list, once.
  abbrev pub joins : State S → ℕ → ℕ → List ℕ
  joins s r c = cond (r == s.lead.leader && not (mem c s.lead.waiting)) (c ∷ []) []

  -- Hear: the answer comes to the client, who decides.
  abbrev pub answers_after : State S → ℕ → ℕ → ℕ → ℕ → Answer
  answers_after s r c = put2 s.boxes.answer r c (delivered (s.boxes.answer r c))

  abbrev pub phase_after : State S → ℕ → ℕ → Phase
  phase_after s r c = decide s.fixed.size (λ b. answers_after s r c b c) (s.jobs.phase c)

  abbrev pub hear : ℕ → ℕ → State S → State S
  hear r c s = record {
    fixed = s.fixed;
    lead = s.lead;
    jobs = record {
      count = s.jobs.count;
      job = s.jobs.job;
      phase = put s.jobs.phase c (phase_after s r c);
      given = s.jobs.given;
    };
    boxes = record {
      request = s.boxes.request;
      notice = s.boxes.notice;
      taken = s.boxes.taken;
      pool = s.boxes.pool;
      answer = answers_after s r c;
    };
  }

  -- Notice: the box takes it, and the job leaves its pool.
  abbrev pub note : ℕ → ℕ → State S → State S
  note r c s = record {
    fixed = s.fixed;
    lead = s.lead;
    jobs = s.jobs;
    boxes = record {
      request = s.boxes.request;
      notice = put2 s.boxes.notice r c false;
      taken = put2 s.boxes.taken r c true;
      pool = put2 s.boxes.pool r c false;
      answer = s.boxes.answer;
    };
  }

  -- how many jobs a box's pool holds
  abbrev pub pool_size : State S → ℕ → ℕ
  pool_size s r = tally s.jobs.count (s.boxes.pool r)

  -- Change: recovered is each job that enough of the voters' pools hold and that is not in the log.
  abbrev pub holders : State S → Voters → ℕ → ℕ
  holders s voters c = tally s.fixed.size (λ r. votes voters r && s.boxes.pool r c)

  abbrev pub recovered : State S → Voters → ℕ → Bool
  recovered s voters c =
      nat_lt c s.jobs.count && not (mem c s.lead.log) && nat_le (recovering s.fixed.size) (holders s voters c)

  abbrev pub recovered_jobs : State S → Voters → List ℕ
  recovered_jobs s voters = ascending s.jobs.count (recovered s voters)

  abbrev pub change : ℕ → Voters → State S → State S
  change l voters s = record {
    fixed = s.fixed;
    lead = record {
      leader = l;
      epoch = suc s.lead.epoch;
      waiting = recovered_jobs s voters;
      log = s.lead.log;
      book = s.lead.book;
    };
    jobs = s.jobs;
    boxes = record {
      request = s.boxes.request;
      notice = s.boxes.notice;
      taken = s.boxes.taken;
      pool = λ r c. cond (r == l) (recovered s voters c) (s.boxes.pool r c);
      answer = s.boxes.answer;
    };
  }

  abbrev pub changed : Voters → State S → Changed
  changed voters s = record { epoch = suc s.lead.epoch; recovered = length (recovered_jobs s voters) }

  -- Query
  abbrev pub status : ℕ → State S → Status
  status c s = record {
    phase = s.jobs.phase c;
    told = told_of (s.jobs.phase c);
    place = place_after 0 c s.lead.log;
    given = s.jobs.given c;
  }

module _ {S : Type 0} (m : Meaning S) where
  -- Receive: a box takes the job into its pool on the fast way if no job in it meets the new one.
  abbrev pub pools : State S → ℕ → ℕ → Bool
  pools s r c =
      s.fixed.fast && not (any_below s.jobs.count (λ d. s.boxes.pool r d && meets m s.jobs.job c d))

  abbrev pub told_result : State S → ℕ → ℕ
  told_result s c = m.result s.lead.book (s.jobs.job c)

  -- A yes; from the leader only if no waiting job meets it either, and with the result.
  abbrev pub reply : State S → ℕ → ℕ → Reply
  reply s r c =
      cond (pools s r c)
      (cond (r == s.lead.leader)
      (cond (any_of (meets m s.jobs.job c) s.lead.waiting) (No s.lead.epoch) (Told s.lead.epoch (told_result s c)))
      (Yes s.lead.epoch))
      (No s.lead.epoch)

  abbrev pub take : ℕ → ℕ → State S → State S
  take r c s = record {
    fixed = s.fixed;
    lead = record {
      leader = s.lead.leader;
      epoch = s.lead.epoch;
      waiting = s.lead.waiting ++ joins s r c;
      log = s.lead.log;
      book = s.lead.book;
    };
    jobs = s.jobs;
    boxes = record {
      request = put2 s.boxes.request r c false;
      notice = s.boxes.notice;
      taken = s.boxes.taken;
      pool = put2 s.boxes.pool r c (pools s r c || s.boxes.pool r c);
      answer = put2 s.boxes.answer r c (Transit (reply s r c));
    };
  }

  abbrev pub receive : ℕ → ℕ → State S → State S
  receive r c s = cond (drops s r c) (dropped r c s) (take r c s)

  abbrev pub received : ℕ → ℕ → State S → Received
  received r c s = cond (drops s r c) Dropped (verdict (reply s r c))

  -- Sync: the head of the waiting list goes to the log and is applied, and a notice goes to every box.
  abbrev pub log_job : ℕ → List ℕ → State S → State S
  log_job c rest s = record {
    fixed = s.fixed;
    lead = record {
      leader = s.lead.leader;
      epoch = s.lead.epoch;
      waiting = rest;
      log = s.lead.log ++ c ∷ [];
      book = m.after s.lead.book (s.jobs.job c);
    };
    jobs = record {
      count = s.jobs.count;
      job = s.jobs.job;
      phase = s.jobs.phase;
      given = put s.jobs.given c (Some (told_result s c));
    };
    boxes = record {
      request = s.boxes.request;
      notice = λ r d. (d == c && nat_lt r s.fixed.size) || s.boxes.notice r d;
      taken = s.boxes.taken;
      pool = s.boxes.pool;
      answer = s.boxes.answer;
    };
  }

  abbrev pub sync : List ℕ → State S → State S
  sync [] s = s
  sync (c ∷ rest) s = log_job c rest s

  abbrev pub synced : List ℕ → State S → Synced
  synced [] s = record { job = 0; result = 0 }
  synced (c ∷ rest) s = record { job = c; result = told_result s c }
