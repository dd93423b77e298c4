use Rattle.std.proofs.Common.{subst}
use Rattle.aea_records.specs.TableLaws.{AreBytes}
use Rattle.aea_ledger.proofs.Digests.{each_part}
use Rattle.aea_ledger.proofs.append.are_digests.Goals as goal

pub returns : goal.returns
returns c = each_part 32 c.args.digests.now c.told-digests (subst AreBytes c.as_flattened.ensures.value c.are_bytes.ensures)
