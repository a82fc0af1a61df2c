-- The three counts that a new group of n boxes reports.
use Rattle.std.specs.Prelude.{ℕ}
use Rattle.protocol.specs.declared.counts.Quorums.{Quorums}
use Rattle.protocol.specs.Counts.{confirming, recovering, blocking_number}

abbrev pub quorums : ℕ → Quorums
quorums n = record { fast = confirming n; recovery = recovering n; blocking = blocking_number n }
