-- How a field of a report line is written.
use Rattle.std.specs.Prelude.{ℕ, List, decimal, encode_utf8}
use Rattle.week.specs.declared.text.Cell.{Cell}
use Rattle.week.specs.declared.text.Cell.TheVariants.{Sign, Number}

abbrev pub written : Cell → List ℕ
written (Sign c) = encode_utf8 c
written (Number n) = decimal n
