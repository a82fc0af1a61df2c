use Rattle.std.proofs.Common.{length, sym, ap, ◌∙◌, lit<, arith}
use Rattle.std.proofs.lemmas.List.{length_push}
use Rattle.logs.specs.Lines.{numbers_in}
use Rattle.logs.proofs.Adding.{room_added}
use Rattle.logs.proofs.Reading.{one_more, still_written, still_fit, appended}
use Rattle.logs.proofs.line.LineLogLog.add.Goals as goal

pub invariant_of-self : goal.invariant_of-self
invariant_of-self c =
    let s = c.args.self.now in
    let was = s.text.bytes in
    let is = c.push.new.self.bytes in
    let n = c.args.number in
    let e = appended was c.push_str.new.self.bytes is c.format.result.now n c.push_str.ensures.bytes (c.push.ensures.ascii (lit< tt)) c.format.ensures.text in
    let l = ap length (one_more was is n s.written s.fit (omega arith) e) ∙ length_push (numbers_in was) n in
    let m = ap length (c.push.ensures.ascii (lit< tt)) ∙ length_push c.push_str.new.self.bytes 10 in
    record {
      counted = omega arith;
      room = omega arith;
      short = omega arith;
      written = still_written was is n s.written s.fit (omega arith) e;
      fit = still_fit was is n s.written s.fit (omega arith) e;
    }

pub returns-clause-after : goal.returns-clause-after
returns-clause-after c =
    let s = c.args.self.now in
    let was = s.text.bytes in
    let n = c.args.number in
    let e = appended was c.push_str.new.self.bytes c.push.new.self.bytes c.format.result.now n c.push_str.ensures.bytes (c.push.ensures.ascii (lit< tt)) c.format.ensures.text in
    one_more was c.push.new.self.bytes n s.written s.fit (omega arith) e ∙ sym (room_added 100 (numbers_in was) n (omega arith))
