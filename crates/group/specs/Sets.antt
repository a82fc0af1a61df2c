-- Sets and lists of jobs.
use Rattle.std.specs.Prelude.{◌≡◌, ℕ, Bool, true, false, ◌&&◌, List, [], ◌∷◌, Some, None, Option, nat_lt, slice_index_or}
use Rattle.terms.specs.Tests.{put}
use Rattle.group.specs.declared.job_set.JobSet.{JobSet}
use Rattle.group.specs.declared.replica.Replica.{Replica}

-- the job is in the set
abbrev pub has : JobSet → ℕ → Bool
has s c = nat_lt c 256 && slice_index_or s.members c false

-- the head of a list, and the rest
abbrev pub first_of : List ℕ → Option ℕ
first_of [] = None
first_of (x ∷ xs) = Some x

abbrev pub rest_of : List ℕ → List ℕ
rest_of [] = []
rest_of (x ∷ xs) = xs

-- a box's four sets, place by place
pub record Has (q : Replica) (requested notified noticed pooled : ℕ → Bool) : Type 0 where
  pub requests : (c : ℕ) → has q.requests c ≡ requested c
  pub notices : (c : ℕ) → has q.notices c ≡ notified c
  pub taken : (c : ℕ) → has q.taken c ≡ noticed c
  pub pool : (c : ℕ) → has q.pool c ≡ pooled c

-- q is p with a request for the job, or a notice of it, on its way
abbrev pub Requested : ℕ → Replica → Replica → Type 0
Requested c p q = Has q (put (has p.requests) c true) (has p.notices) (has p.taken) (has p.pool)

abbrev pub Notified : ℕ → Replica → Replica → Type 0
Notified c p q = Has q (has p.requests) (put (has p.notices) c true) (has p.taken) (has p.pool)
