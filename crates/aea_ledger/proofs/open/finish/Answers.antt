use Rattle.std.proofs.Common.{sym, subst}
use Rattle.sha2.specs.declared.Sha256.{Sha256}
use Rattle.sha2.specs.Hashers.{Holds256}
use Rattle.aea_records.specs.Format.{spelled}
use Rattle.aea_ledger.proofs.Starts.{finished}
use Rattle.aea_ledger.proofs.open.finish.Goals as goal

pub invariant_of-result : goal.invariant_of-result
invariant_of-result c =
    let records = c.requires.0 in
    let read = c.requires.1 in (
      c.requires.0,
      finished c.args.reader c.requires.0 _ _ c.requires.1
          (c.finalize-seal.ensures (spelled c.args.reader.shape c.requires.0) (subst (λ (h : Sha256). Holds256 h (spelled c.args.reader.shape c.requires.0)) (sym c.in_ok-clone.ensures.cases) c.requires.1.holds))
          c.place.ensures,
    )
