use Rattle.std.proofs.Common.{refl}
use Rattle.terms.specs.Votes.{vote_count, has_stranger}
use Rattle.model.proofs.theorem.model_cases.Goals as goal

-- src/theorem.rt
pub returns : goal.returns
unfolding vote_count has_stranger
returns c = record {
  accepted = record { by_leader = refl; by_super_quorum = refl };
  records = refl;
  waits = refl;
  leads = refl;
  recovers = refl;
  keeps = refl;
  commits_second = refl;
  before_it = refl;
}
