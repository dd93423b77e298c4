use Rattle.std.proofs.Common.{◌∙◌, drop, arith}
use Rattle.std.proofs.lemmas.List.{take-take}
use Rattle.aea_records.proofs.fields.digest_at.Goals as goal

pub returns : goal.returns
returns c = c.in-Some.ensures.cases.same ∙ take-take 32 _ (drop c.args.at c.args.bytes.now) (omega (arith, c.requires))
