use Rattle.std.proofs.Common.{◌∙◌, arith}
use Rattle.std.proofs.lemmas.List.{take_all}
use Rattle.aea_ledger.proofs.input.digest_in.Goals as goal

pub returns : goal.returns
returns c = c.in-Some.ensures.cases.same ∙ take_all 32 c.args.bytes.now (omega (arith, c.requires))
