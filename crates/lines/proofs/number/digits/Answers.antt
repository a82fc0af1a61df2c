use Rattle.std.proofs.Common.{◌≡◌, ◌&&◌, refl, ◌∙◌, rules, tests}
use Rattle.std.specs.Char.{is_ascii_digit}
use Rattle.std.specs.List.{list_all}
use Rattle.std.specs.Str.{all_ascii_digits}
use Rattle.std.proofs.lemmas.Iterator.{YieldsList-from_slice}
use Rattle.std.proofs.lemmas.Iterator.Search.{all_from_yields_List}
use Rattle.std.proofs.lemmas.List.Recursion.{same_from_clauses}
use Rattle.lines.proofs.number.digits.Goals as goal

pub returns : goal.returns
returns c =
    let bs = c.args.bytes.now in
    let all : c.all.result ≡ list_all is_ascii_digit bs = all_from_yields_List is_ascii_digit _ _ c.all.result c.all.ensures.ran (YieldsList-from_slice bs cc) (λ x b q k. search (rules, tests)) in
    all ∙ same_from_clauses (list_all is_ascii_digit) all_ascii_digits (λ x b. is_ascii_digit x && b) refl (λ _ _. refl) (λ _ _. refl) bs
