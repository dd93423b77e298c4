use Rattle.std.proofs.Common.{ℕ, List, length, sym, subst, arith}
use Rattle.std.specs.Prelude.{drop}
use Rattle.aea_view.specs.Marked.{is_marked}
use Rattle.aea_sums.specs.Sums.{AreSums}
use Rattle.aea_sums.proofs.Found.{taken_front}
use Rattle.aea_sums.proofs.sums.SumTable.find.Goals as goal

pub returns-clause-sums : goal.returns-clause-sums
returns-clause-sums c =
    let new = c.find_in-self.new.table in
    let old = c.as_mut_slice-4.ensures.len in
    let same = c.find_in-self.ensures.table in
    subst (λ (xs : List ℕ). AreSums c.args.lattice.now (is_marked c.args.known.now) c.args.wanted.now xs c.find_in-self.result)
    (sym (taken_front c.args.self.now.table.len new (drop (length new) c.args.self.now.table.items) (omega arith)))
    c.find_in-self.ensures.sums
