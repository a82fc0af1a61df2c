use Rattle.std.proofs.Common.{◌≡◌, Ok, Err, sym, ◌∙◌, rules}
use Rattle.lines.specs.Forms.{front, back, number}
use Rattle.lines.specs.Reading.{with_field}
use Rattle.lines.proofs.Parts.{goes_on, stops}
use Rattle.lines.proofs.read.read_proposal.Goals as goal

pub returns-in_err-y : goal.returns-in_err-y
returns-in_err-y c =
    let bs = c.args.fields.now in
    let book : with_field 2 (number (front bs)) Ok ≡ Ok c.in_ok-book.book = search rules in
    let act : with_field 3 (number (front (back bs))) Ok ≡ Ok c.in_ok-act.act = search rules in
    let x : with_field 4 (number (front (back (back bs)))) Ok ≡ Ok c.in_ok-x.x = search rules in
    let y : with_field 5 (number (front (back (back (back bs))))) Ok ≡ Err c.in_err-y.field-0.0 = search rules in
    let told : c.from_residual-in_err-y.result ≡ Err c.in_err-y.field-0.0 = search rules in
    told ∙ sym (goes_on 2 _ _ _ book ∙ goes_on 3 _ _ _ act ∙ goes_on 4 _ _ _ x ∙ stops 5 _ _ _ y)

pub returns-in_err-z : goal.returns-in_err-z
returns-in_err-z c =
    let bs = c.args.fields.now in
    let book : with_field 2 (number (front bs)) Ok ≡ Ok c.in_ok-book.book = search rules in
    let act : with_field 3 (number (front (back bs))) Ok ≡ Ok c.in_ok-act.act = search rules in
    let x : with_field 4 (number (front (back (back bs)))) Ok ≡ Ok c.in_ok-x.x = search rules in
    let y : with_field 5 (number (front (back (back (back bs))))) Ok ≡ Ok c.in_ok-y.y = search rules in
    let z : with_field 6 (number (front (back (back (back (back bs)))))) Ok ≡ Err c.in_err-z.field-0.0 = search rules in
    let told : c.from_residual-in_err-z.result ≡ Err c.in_err-z.field-0.0 = search rules in
    told ∙ sym (goes_on 2 _ _ _ book ∙ goes_on 3 _ _ _ act ∙ goes_on 4 _ _ _ x ∙ goes_on 5 _ _ _ y ∙ stops 6 _ _ _ z)
