-- A set of voters: some of the digits 0 to 9.
use Rattle.std.specs.Prelude.{ℕ, Bool, true, false, cond, ◌&&◌, replicate, nat_le, nat_lt, slice_index_or, slice_set}
use Rattle.terms.specs.declared.voters.Voters.{Voters}
use Rattle.terms.specs.Tests.{tally, any_below}

-- d is among the voters
abbrev pub votes : Voters → ℕ → Bool
votes v d = nat_lt d 10 && slice_index_or v.named d false

abbrev pub no_voters : Voters
no_voters = record { named = replicate 10 false }

-- the set with one digit more; a number above 9 adds nothing
abbrev pub with_voter : Voters → ℕ → Voters
with_voter v d = record { named = cond (nat_lt d 10) (slice_set v.named d true) v.named }

-- how many voters are named; shut, since it would open to ten tests
unfoldable pub vote_count : Voters → ℕ
vote_count v = tally 10 (votes v)

-- a voter is named that is none of n boxes
unfoldable pub has_stranger : ℕ → Voters → Bool
has_stranger n v = any_below 10 (λ d. nat_le n d && votes v d)
