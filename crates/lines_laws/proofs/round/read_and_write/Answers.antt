use Rattle.std.proofs.Common.{length}
use Rattle.lines_laws.proofs.Rounds.{copy_told, copy_buffer}
use Rattle.lines_laws.proofs.round.read_and_write.Goals as goal

pub returns : goal.returns
returns c =
    let e = c.in_ok-read_line.ensures in
    record {
      told = copy_told c.args.line.now _ (length c.args.out.now) c.write_line.result e c.write_line.ensures.told;
      buffer = copy_buffer c.args.line.now _ c.args.out.now c.write_line.new.out c.write_line.result e c.write_line.ensures.told c.write_line.ensures.buffer;
    }
