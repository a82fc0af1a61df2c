use Rattle.std.proofs.Common.{◌≡◌, ℕ, ◌+◌, ◌-◌, length, sym, ap, ◌∙◌, arith, rules, tests}
use Rattle.std.specs.List.{range_with_len, find}
use Rattle.std.proofs.lemmas.Iterator.Adapters.{option_map_id}
use Rattle.std.proofs.lemmas.Iterator.Search.{find_from_yields_List}
use Rattle.terms.proofs.Chains.{YieldsList-from_inclusive}
use Rattle.group.proofs.Logged.{stands, find_place}
use Rattle.group.proofs.group.reads.place_in.Goals as goal

-- src/group/reads.rt
pub returns : goal.returns
returns g c =
    let xs = g.L.Log.entries c.args.log.now in
    let n = length xs in
    let test = λ (place : ℕ). stands xs place c.args.job in
    let found : c.find.result ≡ find test (range_with_len 1 (n + 1 - 1)) =
    sym (option_map_id c.find.result) ∙ find_from_yields_List test _ _ c.find.result c.find.ensures.ran (YieldsList-from_inclusive 1 n (omega arith) c.new.ensures.start (c.new.ensures.end ∙ c.length.ensures.value) c.new.ensures.exhausted) (λ x b q k. search (rules, tests)) in
    found ∙ ap (λ m. find test (range_with_len 1 m)) (let e : n + 1 - 1 ≡ n = omega arith in e) ∙ find_place xs c.args.job n 0 (omega arith)
