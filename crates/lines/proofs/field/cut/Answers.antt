use Rattle.std.proofs.Common.{◌≡◌, eqb, position, sym, ◌∙◌, rules, tests}
use Rattle.std.proofs.lemmas.Iterator.{YieldsList-from_slice}
use Rattle.std.proofs.lemmas.Iterator.Search.{position_from_yields_List}
use Rattle.lines.proofs.Parts.{cut_front, cut_back, all_front, no_back}
use Rattle.lines.proofs.field.cut.Goals as goal

pub returns-in-Some : goal.returns-in-Some
returns-in-Some c =
    let at : c.position.result ≡ position (λ b. eqb b 9) c.args.bytes.now = position_from_yields_List (λ b. eqb b 9) _ _ c.position.result c.position.ensures.ran (YieldsList-from_slice c.args.bytes.now cc) (λ x b q k. search (rules, tests)) in
    let tab = sym at ∙ c.in-Some.is in
    record { front = cut_front c.args.bytes.now c.in-Some.n tab; back = cut_back c.args.bytes.now c.in-Some.n tab }

pub returns-in-None : goal.returns-in-None
returns-in-None c =
    let at : c.position.result ≡ position (λ b. eqb b 9) c.args.bytes.now = position_from_yields_List (λ b. eqb b 9) _ _ c.position.result c.position.ensures.ran (YieldsList-from_slice c.args.bytes.now cc) (λ x b q k. search (rules, tests)) in
    let none = sym at ∙ c.in-None.is in
    record { front = all_front c.args.bytes.now none; back = no_back c.args.bytes.now none }
