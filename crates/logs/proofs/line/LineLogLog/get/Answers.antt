use Rattle.std.proofs.Common.{◌≡◌, Ok, sym, ap, ◌∙◌, arith}
use Rattle.std.specs.Result.{result_ok}
use Rattle.std.proofs.lemmas.Fmt.{parse-decimal}
use Rattle.std.proofs.lemmas.Iterator.Consumers.{nth_from_yields_List}
use Rattle.std.proofs.lemmas.Iterator.Splits.{YieldsList-from_lines}
use Rattle.logs.proofs.Reading.{no_line, the_line}
use Rattle.logs.proofs.line.LineLogLog.get.Goals as goal

pub returns-in_err-line : goal.returns-in_err-line
returns-in_err-line c =
    let s = c.args.self.now in
    let nth = nth_from_yields_List _ _ _ c.nth.ensures.ran (YieldsList-from_lines s.text.bytes (c.lines.ensures.rest ∙ c.deref.ensures.0)) in
    let none = no_line s.text.bytes c.args.place _ s.written s.fit (rw c.in_ok-checked_sub.was at c.checked_sub.ensures) c.nth.result nth c.in_err-line.was in
    c.from_residual-in_err-line.ensures ∙ sym none

pub returns : goal.returns
returns c =
    let s = c.args.self.now in
    let nth = nth_from_yields_List _ _ _ c.nth.ensures.ran (YieldsList-from_lines s.text.bytes (c.lines.ensures.rest ∙ c.deref.ensures.0)) in
    let line = the_line s.text.bytes c.args.place _ s.written s.fit (rw c.in_ok-checked_sub.was at c.checked_sub.ensures) c.nth.result nth c.in_ok-line.line c.in_ok-line.was in
    let read : c.parse.result ≡ Ok line.0 = parse-decimal 16 line.0 _ _ line.1 (omega (arith, line.1)) line.2 c.parse.ensures.value.0 in
    c.ok.ensures.value ∙ (ap result_ok read ∙ sym line.3)
