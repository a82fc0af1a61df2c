-- The counts that the protocol goes by, of n boxes; division rounds down.
use Rattle.std.specs.Prelude.{ℕ, ◌+◌, ◌-◌, ◌/◌}

-- f: how many boxes may fail
abbrev pub tolerated : ℕ → ℕ
tolerated n = n / 2

-- f + 1: how many voters a change of leader names
abbrev pub electing : ℕ → ℕ
electing n = tolerated n + 1

-- S: how many agreeing answers of one epoch confirm a job
abbrev pub confirming : ℕ → ℕ
confirming n = tolerated n + (tolerated n + 1) / 2 + 1

-- R: how many of the voters' pools recover a job
abbrev pub recovering : ℕ → ℕ
recovering n = (tolerated n + 1) / 2 + 1

-- G: how many answers of no rule the fast way out
abbrev pub blocking_number : ℕ → ℕ
blocking_number n = n - confirming n + 1
