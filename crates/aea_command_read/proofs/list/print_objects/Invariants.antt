use Rattle.std.proofs.Common.{◌≤◌, ◌-◌, Ok, take}
use Rattle.std.specs.List.{flat_map}
use Rattle.std.specs.FinMap.{entries, len}
use Rattle.aea_io.specs.declared.traits.WriteFault.{WriteFault}
use Rattle.aea_io.specs.Pages.{Prints}
use Rattle.aea_catalog.specs.Catalogs.{named_object}
use Rattle.aea_command_read.specs.List.{object_line}
use Rattle.aea_command_read.proofs.list.print_objects.Given as goal

-- the lines of the first objects are printed
abbrev pub invariant-loop-k : goal.invariant-loop-k
invariant-loop-k g l = let O = g.O.Sink in record {
  printed : Prints {T = Unit {0}} {E = WriteFault} (O.state l.fn.out) l.fn.page (O.state l.out) l.page (Ok tt) (flat_map (λ e. object_line (named_object e)) (take l.k (entries l.catalog.objects)));
  within : l.k ≤ len l.catalog.objects;
}

abbrev pub decreases-loop-k : goal.decreases-loop-k
decreases-loop-k g l = len l.catalog.objects - l.k
