use Rattle.aea_sites.proofs.ByFates.{named_first}
use Rattle.aea_sites.proofs.few.first_lost.Goals as goal

pub returns : goal.returns
returns c =
    let word = c.in-Some.ensures in
    named_first c.args.fates c.in-Some.k c.in-Some-take.fate c.named.result word.0 word.1 word.2 c.in-Some-take.ensures.0 c.named.ensures
