-- What a call leaves is described alike by two tests of the blocks that it restores, where both name the same blocks.
use Rattle.std.proofs.Common.{Ok, Err, inl, inr}
use Rattle.aea_lattice.specs.declared.blocks.BlockId.{BlockId}
use Rattle.aea_lattice.specs.declared.grid.Lattice.{Lattice}
use Rattle.aea_disk.specs.Files.{Files}
use Rattle.aea_disk.specs.State.{State}
use Rattle.aea_view.specs.Marked.{Marked}
use Rattle.aea_ledger.specs.Values.{Opened}
use Rattle.aea_restore.specs.declared.fault.RestoreFault.TheVariants.{Clash, DiskFault}
use Rattle.aea_restore.specs.Repairs.{Answer, IsLeft, WritesBlocks, IsRepaired, IsPartlyRepaired, IsTornRepair, Leaves, MarksMore}
use Rattle.aea_archive.proofs.Writes.{cells_less_as}
use Rattle.aea_restore.proofs.Loops.{some_more}

module _ (mends others : BlockId → Type 0) (to : (b : BlockId) → mends b → others b) (from : (b : BlockId) → others b → mends b) where
  repaired_same : (v : Opened) (old new : Files) → IsRepaired v mends old new → IsRepaired v others old new
  repaired_same v old new is = record {
    grown = λ a a_of left. is.grown a a_of (λ one. left (to a one));
    restored = λ b one. is.restored b (from b one);
  }

  partly_same : (v : Opened) (old new : Files) → IsPartlyRepaired v mends old new → IsPartlyRepaired v others old new
  partly_same v old new is = record {
    grown = λ a a_of left. is.grown a a_of (λ one. left (to a one));
    restored = λ b one. is.restored b (from b one);
  }

  torn_same : (v : Opened) (torn : BlockId) (old new : Files) → IsTornRepair v mends torn old new → IsTornRepair v others torn old new
  torn_same v torn old new is = record {
    one = to torn is.one;
    grown = λ a a_of kept. is.grown a a_of (λ one. kept.0 (to a one), kept.1);
    restored = λ b one other. is.restored b (from b one) other;
    elsewhere = λ b one away. is.elsewhere b (from b one) away;
  }

  -- what each result says of the files
  pub leaves_same : (v : Opened) (old new : Files) (result : Answer) → Leaves v mends old new result → Leaves v others old new result
  leaves_same v old new (Ok done) is = repaired_same v old new is
  leaves_same v old new (Err (Clash b revealed computed)) is = partly_same v old new is
  leaves_same v old new (Err DiskFault) is = elim is [
    | inl partly ↦ inl (partly_same v old new partly)
    | inr torn ↦ inr (torn.0, torn_same v torn.0 old new torn.1)
  ]

  -- the marks after each result
  pub marks_same : (l : Lattice) (old new : Marked) (result : Answer) → MarksMore l mends old new result → MarksMore l others old new result
  marks_same l old new (Ok done) is = (some_more l mends others old new to is.0, λ b one. is.1 b (from b one))
  marks_same l old new (Err fault) is = some_more l mends others old new to is

  -- what is written
  pub writes_same : (reveals fault : Type 0) (v : Opened) (old new : State) → WritesBlocks reveals v (IsLeft mends) fault old new → WritesBlocks reveals v (IsLeft others) fault old new
  writes_same reveals fault v old new writes = cells_less_as reveals fault fault v.shape v.lattice.n (IsLeft mends) (IsLeft others) old new (λ a left one. left (to a one)) (λ is. is) (λ is. is) writes
