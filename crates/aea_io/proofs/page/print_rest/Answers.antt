use Rattle.aea_io.proofs.Printing.{prints_in_two, prints_past, prints_cut}
use Rattle.aea_io.proofs.page.print_rest.Goals as goal

pub returns-in_err-send : goal.returns-in_err-send
returns-in_err-send g c = prints_cut c.push-count.result tt c.from_residual.ensures.0 c.push-count.ensures.gathered c.in_err-send.ensures.prints

pub returns : goal.returns
returns g c =
    prints_in_two c.push-count.result c.push-count.ensures.gathered c.in_ok-send.ensures.prints
    (prints_past c.in_ok-send.ensures.empty c.put_all.ensures.bytes c.put_all.ensures.in_room c.put_all.ensures.cause)
