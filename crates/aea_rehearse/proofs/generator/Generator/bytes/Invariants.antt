use Rattle.std.proofs.Common.{◌≡◌}
use Rattle.aea_records.specs.TableLaws.{AreBytes}
use Rattle.aea_rehearse.specs.Generator.{state_after, bytes_from}
use Rattle.aea_rehearse.proofs.generator.Generator.bytes.Given as goal

abbrev pub invariant-loop : goal.invariant-loop
invariant-loop l = record {
  state : l.self.state ≡ state_after l.initial.self.state l.counter;
  bytes : l.bytes.items ≡ bytes_from l.initial.self.state l.counter;
  are : AreBytes l.bytes.items;
}
