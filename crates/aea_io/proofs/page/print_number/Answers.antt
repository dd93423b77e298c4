use Rattle.aea_io.proofs.Printing.{prints_then}
use Rattle.aea_io.proofs.page.print_number.Goals as goal

pub returns : goal.returns
returns g c = prints_then c.in_ok-print.ensures (rw (c.as_bytes.ensures.value, c.format.ensures.text) at c.print-2.ensures)
