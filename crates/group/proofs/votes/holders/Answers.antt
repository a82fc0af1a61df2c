use Rattle.std.proofs.Common.{◌≡◌, ℕ, ◌&&◌, filter, length, refl, ◌∙◌, rules, tests}
use Rattle.std.specs.List.{range_with_len, zip}
use Rattle.std.proofs.lemmas.Iterator.{YieldsList-from_slice, YieldsList-from_range, YieldsList-from_zip}
use Rattle.std.proofs.lemmas.Iterator.Consumers.{YieldsList-at, YieldsList-from_filter, count_from_yields_List}
use Rattle.terms.specs.Votes.{votes}
use Rattle.terms.proofs.Chains.{count_zip}
use Rattle.group.specs.declared.replica.Replica.{Replica}
use Rattle.group.specs.Sets.{has}
use Rattle.group.specs.View.{no_box}
use Rattle.group.proofs.votes.holders.Goals as goal

-- src/votes.rt
pub returns : goal.returns
returns c =
    let boxes = c.args.boxes.now in
    let test = λ (p : Replica × ℕ). votes c.args.voters p.1 && has p.0.pool c.args.job in
    let counted : c.count.result ≡ length (filter test (zip boxes (range_with_len 0 9))) =
    count_from_yields_List c.filter.result _ c.count.ensures.ran
    (YieldsList-from_filter _ test
    (YieldsList-at c.filter.ensures.source (YieldsList-from_zip (YieldsList-at c.zip.ensures.first (YieldsList-from_slice boxes cc)) (YieldsList-at c.zip.ensures.second (YieldsList-from_range 0 9 9 refl refl))))
    c.filter.ensures.closure (λ x b q k. search (rules, tests))) in
    counted ∙ count_zip test boxes 9 no_box c.requires
