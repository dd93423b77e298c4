use Rattle.std.proofs.Common.{◌≡◌, ◌≢◌, ℕ, ◌+◌, ◌-◌, ◌*◌, ◌<◌, ◌≤◌, min, Err, refl, sym, ◌∙◌, ap, subst, arith}
use Rattle.std.proofs.lemmas.Bool.Decides.{nat_tests}
use Rattle.aea_shelf.specs.Writes.{KeepsPadded}
use Rattle.aea_shelf.proofs.Runs.{padded_none, padded_both, padded_less}
use Rattle.aea_records.specs.Format.{nodes_for}
use Rattle.aea_archive.specs.Blocks.{IsBlockIn}
use Rattle.aea_append.specs.declared.fault.PutFault.TheVariants.{DiskFault, ReadFault}
use Rattle.aea_archive.specs.Cells.{WritesCells}
use Rattle.aea_append.specs.Taking.{Takes}
use Rattle.aea_append.proofs.Cuts.{some_bytes, nodes_one, nodes-past}
use Rattle.aea_append.proofs.Faults.{fault_as, ok_no_fault}
use Rattle.aea_append.proofs.Takings.{takes_none, takes_both, counts_none, counts_more, counts_then}
use Rattle.aea_archive.proofs.Writes.{cells_none, cells_then, cells_as}
use Rattle.aea_append.proofs.piece.weave_all.Given.{Over}
use Rattle.aea_append.proofs.piece.weave_all.Goals.{In-Err, In-Ok, Then-count-want, Else-count-want}
use Rattle.aea_append.proofs.piece.weave_all.Goals as goal

pub loop-done-init : goal.loop-done-init
loop-done-init g c = record {
  within = omega arith;
  whole = λ lt. (0, (let e : 0 ≡ 0 * c.args.shape.now.block = omega arith in e), (let e : c.args.heads.now.lattice.n ≡ c.args.heads.now.lattice.n + 0 = omega arith in e));
  alpha = c.requires.alpha;
  size = c.requires.size;
  block = c.requires.block;
  cell = c.requires.buffer;
  took = takes_none g.D.Disk.reveals c.args.shape.now (g.S.Source.state c.args.source.now).left c.args.hasher.now c.args.heads.now c.args.digests.now.items (g.D.Disk.state c.args.disk.now).files;
  writes = λ nodes within. cells_none g.D.Disk.reveals ⊥ c.args.shape.now nodes (IsBlockIn c.args.shape.now c.args.heads.now.lattice.n) (g.D.Disk.state c.args.disk.now) (λ none. none);
  padded = λ revealed. padded_none c.args.shape.now (IsBlockIn c.args.shape.now c.args.heads.now.lattice.n) (g.D.Disk.state c.args.disk.now).files;
  exact = omega arith;
  counted = counts_none (g.S.Source.state c.args.source.now).left c.args.at.now 0;
  still = refl;
}

-- what was written and taken then
writes_err : (g : Over) (c : In-Err g) (nodes : ℕ) → c.args.heads.now.lattice.n + nodes_for c.args.shape.now c.args.limit ≤ nodes → WritesCells g.D.Disk.reveals c.args.shape.now nodes (IsBlockIn c.args.shape.now c.args.heads.now.lattice.n) (c.weave_piece.result ≡ Err DiskFault) (g.D.Disk.state c.args.disk.now) (g.D.Disk.state c.weave_piece.new.disk)
writes_err g c nodes within =
    let keep = IsBlockIn c.args.shape.now c.args.heads.now.lattice.n in
    let lt : c.loop-done.done < c.args.limit = grind (arith, nat_tests, c.loop-done-test.true) in
    let whole = c.loop-done.invariant.whole lt in
    let past = nodes-past c.args.shape.now whole.0 c.args.limit (omega (arith, whole.1, lt)) in
    cells_then g.D.Disk.reveals ⊥ (c.weave_piece.result ≡ Err DiskFault) c.args.shape.now nodes (IsBlockIn c.args.shape.now c.args.heads.now.lattice.n) (λ a. a.node ≢ c.loop-done.heads.lattice.n + 1) (g.D.Disk.state c.args.disk.now) (g.D.Disk.state c.loop-done.disk) (g.D.Disk.state c.weave_piece.new.disk) (λ none. none)
    (λ a block same. (let most = block.most in omega (arith, most, same, whole.2)))
    (c.loop-done.invariant.writes nodes within) (c.weave_piece.ensures.writes nodes (omega (arith, within, whole.2, past)))

padded_err : (g : Over) (c : In-Err g) → (c.weave_piece.result ≢ Err DiskFault) → g.D.Disk.reveals → KeepsPadded c.args.shape.now (IsBlockIn c.args.shape.now c.args.heads.now.lattice.n) (g.D.Disk.state c.args.disk.now).files (g.D.Disk.state c.weave_piece.new.disk).files
padded_err g c fine revealed =
    let lt : c.loop-done.done < c.args.limit = grind (arith, nat_tests, c.loop-done-test.true) in
    let whole = c.loop-done.invariant.whole lt in
    padded_both c.args.shape.now (IsBlockIn c.args.shape.now c.args.heads.now.lattice.n) (g.D.Disk.state c.args.disk.now).files (g.D.Disk.state c.loop-done.disk).files (g.D.Disk.state c.weave_piece.new.disk).files
    (c.loop-done.invariant.padded revealed)
    (padded_less c.args.shape.now (λ a. a.node ≢ c.loop-done.heads.lattice.n + 1) (IsBlockIn c.args.shape.now c.args.heads.now.lattice.n) (g.D.Disk.state c.loop-done.disk).files (g.D.Disk.state c.weave_piece.new.disk).files
    (λ a block same. (let most = block.most in omega (arith, most, same, whole.2))) (c.weave_piece.ensures.padded fine revealed))

-- what was written and taken then
writes_then : (g : Over) (c : Then-count-want g) (nodes : ℕ) → c.args.heads.now.lattice.n + nodes_for c.args.shape.now c.args.limit ≤ nodes → WritesCells g.D.Disk.reveals c.args.shape.now nodes (IsBlockIn c.args.shape.now c.args.heads.now.lattice.n) (c.weave_piece.result ≡ Err DiskFault) (g.D.Disk.state c.args.disk.now) (g.D.Disk.state c.weave_piece.new.disk)
writes_then g c nodes within =
    let keep = IsBlockIn c.args.shape.now c.args.heads.now.lattice.n in
    let lt : c.loop-done.done < c.args.limit = grind (arith, nat_tests, c.loop-done-test.true) in
    let whole = c.loop-done.invariant.whole lt in
    let past = nodes-past c.args.shape.now whole.0 c.args.limit (omega (arith, whole.1, lt)) in
    cells_then g.D.Disk.reveals ⊥ (c.weave_piece.result ≡ Err DiskFault) c.args.shape.now nodes (IsBlockIn c.args.shape.now c.args.heads.now.lattice.n) (λ a. a.node ≢ c.loop-done.heads.lattice.n + 1) (g.D.Disk.state c.args.disk.now) (g.D.Disk.state c.loop-done.disk) (g.D.Disk.state c.weave_piece.new.disk) (λ none. none)
    (λ a block same. (let most = block.most in omega (arith, most, same, whole.2)))
    (c.loop-done.invariant.writes nodes within) (c.weave_piece.ensures.writes nodes (omega (arith, within, whole.2, past)))

padded_then : (g : Over) (c : Then-count-want g) → (c.weave_piece.result ≢ Err DiskFault) → g.D.Disk.reveals → KeepsPadded c.args.shape.now (IsBlockIn c.args.shape.now c.args.heads.now.lattice.n) (g.D.Disk.state c.args.disk.now).files (g.D.Disk.state c.weave_piece.new.disk).files
padded_then g c fine revealed =
    let lt : c.loop-done.done < c.args.limit = grind (arith, nat_tests, c.loop-done-test.true) in
    let whole = c.loop-done.invariant.whole lt in
    padded_both c.args.shape.now (IsBlockIn c.args.shape.now c.args.heads.now.lattice.n) (g.D.Disk.state c.args.disk.now).files (g.D.Disk.state c.loop-done.disk).files (g.D.Disk.state c.weave_piece.new.disk).files
    (c.loop-done.invariant.padded revealed)
    (padded_less c.args.shape.now (λ a. a.node ≢ c.loop-done.heads.lattice.n + 1) (IsBlockIn c.args.shape.now c.args.heads.now.lattice.n) (g.D.Disk.state c.loop-done.disk).files (g.D.Disk.state c.weave_piece.new.disk).files
    (λ a block same. (let most = block.most in omega (arith, most, same, whole.2))) (c.weave_piece.ensures.padded fine revealed))

took_then : (g : Over) (c : Then-count-want g) → Takes g.D.Disk.reveals c.args.shape.now (c.loop-done.done + c.in-Ok.count) (g.S.Source.state c.args.source.now).left (g.S.Source.state c.weave_piece.new.source).left c.args.hasher.now c.weave_piece.new.hasher c.args.heads.now c.weave_piece.new.heads c.args.digests.now.items c.weave_piece.new.digests.items (g.D.Disk.state c.args.disk.now).files (g.D.Disk.state c.weave_piece.new.disk).files
took_then g c =
    let lt : c.loop-done.done < c.args.limit = grind (arith, nat_tests, c.loop-done-test.true) in
    let whole = c.loop-done.invariant.whole lt in
    let piece = c.in-Ok.ensures.took in
    let narrow : c.min-want.result ≤ c.args.shape.now.block = omega (arith, c.min-want.ensures, c.block.ensures, c.from.ensures) in
    let first = subst (λ (k : ℕ). Takes g.D.Disk.reveals c.args.shape.now k (g.S.Source.state c.args.source.now).left (g.S.Source.state c.loop-done.source).left c.args.hasher.now c.loop-done.hasher c.args.heads.now c.loop-done.heads c.args.digests.now.items c.loop-done.digests.items (g.D.Disk.state c.args.disk.now).files (g.D.Disk.state c.loop-done.disk).files) whole.1 c.loop-done.invariant.took in
    subst (λ (k : ℕ). Takes g.D.Disk.reveals c.args.shape.now k (g.S.Source.state c.args.source.now).left (g.S.Source.state c.weave_piece.new.source).left c.args.hasher.now c.weave_piece.new.hasher c.args.heads.now c.weave_piece.new.heads c.args.digests.now.items c.weave_piece.new.digests.items (g.D.Disk.state c.args.disk.now).files (g.D.Disk.state c.weave_piece.new.disk).files)
    (ap (λ (k : ℕ). k + c.in-Ok.count) (sym whole.1))
    (takes_both g.D.Disk.reveals c.args.shape.now whole.0 c.in-Ok.count (g.S.Source.state c.args.source.now).left (g.S.Source.state c.loop-done.source).left (g.S.Source.state c.weave_piece.new.source).left c.args.hasher.now c.loop-done.hasher c.weave_piece.new.hasher
    c.args.heads.now c.loop-done.heads c.weave_piece.new.heads c.args.digests.now.items c.loop-done.digests.items c.weave_piece.new.digests.items (g.D.Disk.state c.args.disk.now).files (g.D.Disk.state c.loop-done.disk).files (g.D.Disk.state c.weave_piece.new.disk).files
    (let most = piece.most in omega (arith, most, narrow)) first piece.takes)

fine_then : (g : Over) (c : Then-count-want g) → c.weave_piece.result ≢ Err DiskFault
fine_then g c bad = let is = c.in-Ok.is in cc

-- what was written and taken then
writes_else : (g : Over) (c : Else-count-want g) (nodes : ℕ) → c.args.heads.now.lattice.n + nodes_for c.args.shape.now c.args.limit ≤ nodes → WritesCells g.D.Disk.reveals c.args.shape.now nodes (IsBlockIn c.args.shape.now c.args.heads.now.lattice.n) (c.weave_piece.result ≡ Err DiskFault) (g.D.Disk.state c.args.disk.now) (g.D.Disk.state c.weave_piece.new.disk)
writes_else g c nodes within =
    let keep = IsBlockIn c.args.shape.now c.args.heads.now.lattice.n in
    let lt : c.loop-done.done < c.args.limit = grind (arith, nat_tests, c.loop-done-test.true) in
    let whole = c.loop-done.invariant.whole lt in
    let past = nodes-past c.args.shape.now whole.0 c.args.limit (omega (arith, whole.1, lt)) in
    cells_then g.D.Disk.reveals ⊥ (c.weave_piece.result ≡ Err DiskFault) c.args.shape.now nodes (IsBlockIn c.args.shape.now c.args.heads.now.lattice.n) (λ a. a.node ≢ c.loop-done.heads.lattice.n + 1) (g.D.Disk.state c.args.disk.now) (g.D.Disk.state c.loop-done.disk) (g.D.Disk.state c.weave_piece.new.disk) (λ none. none)
    (λ a block same. (let most = block.most in omega (arith, most, same, whole.2)))
    (c.loop-done.invariant.writes nodes within) (c.weave_piece.ensures.writes nodes (omega (arith, within, whole.2, past)))

padded_else : (g : Over) (c : Else-count-want g) → (c.weave_piece.result ≢ Err DiskFault) → g.D.Disk.reveals → KeepsPadded c.args.shape.now (IsBlockIn c.args.shape.now c.args.heads.now.lattice.n) (g.D.Disk.state c.args.disk.now).files (g.D.Disk.state c.weave_piece.new.disk).files
padded_else g c fine revealed =
    let lt : c.loop-done.done < c.args.limit = grind (arith, nat_tests, c.loop-done-test.true) in
    let whole = c.loop-done.invariant.whole lt in
    padded_both c.args.shape.now (IsBlockIn c.args.shape.now c.args.heads.now.lattice.n) (g.D.Disk.state c.args.disk.now).files (g.D.Disk.state c.loop-done.disk).files (g.D.Disk.state c.weave_piece.new.disk).files
    (c.loop-done.invariant.padded revealed)
    (padded_less c.args.shape.now (λ a. a.node ≢ c.loop-done.heads.lattice.n + 1) (IsBlockIn c.args.shape.now c.args.heads.now.lattice.n) (g.D.Disk.state c.loop-done.disk).files (g.D.Disk.state c.weave_piece.new.disk).files
    (λ a block same. (let most = block.most in omega (arith, most, same, whole.2))) (c.weave_piece.ensures.padded fine revealed))

took_else : (g : Over) (c : Else-count-want g) → Takes g.D.Disk.reveals c.args.shape.now (c.loop-done.done + c.in-Ok.count) (g.S.Source.state c.args.source.now).left (g.S.Source.state c.weave_piece.new.source).left c.args.hasher.now c.weave_piece.new.hasher c.args.heads.now c.weave_piece.new.heads c.args.digests.now.items c.weave_piece.new.digests.items (g.D.Disk.state c.args.disk.now).files (g.D.Disk.state c.weave_piece.new.disk).files
took_else g c =
    let lt : c.loop-done.done < c.args.limit = grind (arith, nat_tests, c.loop-done-test.true) in
    let whole = c.loop-done.invariant.whole lt in
    let piece = c.in-Ok.ensures.took in
    let narrow : c.min-want.result ≤ c.args.shape.now.block = omega (arith, c.min-want.ensures, c.block.ensures, c.from.ensures) in
    let first = subst (λ (k : ℕ). Takes g.D.Disk.reveals c.args.shape.now k (g.S.Source.state c.args.source.now).left (g.S.Source.state c.loop-done.source).left c.args.hasher.now c.loop-done.hasher c.args.heads.now c.loop-done.heads c.args.digests.now.items c.loop-done.digests.items (g.D.Disk.state c.args.disk.now).files (g.D.Disk.state c.loop-done.disk).files) whole.1 c.loop-done.invariant.took in
    subst (λ (k : ℕ). Takes g.D.Disk.reveals c.args.shape.now k (g.S.Source.state c.args.source.now).left (g.S.Source.state c.weave_piece.new.source).left c.args.hasher.now c.weave_piece.new.hasher c.args.heads.now c.weave_piece.new.heads c.args.digests.now.items c.weave_piece.new.digests.items (g.D.Disk.state c.args.disk.now).files (g.D.Disk.state c.weave_piece.new.disk).files)
    (ap (λ (k : ℕ). k + c.in-Ok.count) (sym whole.1))
    (takes_both g.D.Disk.reveals c.args.shape.now whole.0 c.in-Ok.count (g.S.Source.state c.args.source.now).left (g.S.Source.state c.loop-done.source).left (g.S.Source.state c.weave_piece.new.source).left c.args.hasher.now c.loop-done.hasher c.weave_piece.new.hasher
    c.args.heads.now c.loop-done.heads c.weave_piece.new.heads c.args.digests.now.items c.loop-done.digests.items c.weave_piece.new.digests.items (g.D.Disk.state c.args.disk.now).files (g.D.Disk.state c.loop-done.disk).files (g.D.Disk.state c.weave_piece.new.disk).files
    (let most = piece.most in omega (arith, most, narrow)) first piece.takes)

fine_else : (g : Over) (c : Else-count-want g) → c.weave_piece.result ≢ Err DiskFault
fine_else g c bad = let is = c.in-Ok.is in cc

pub returns-in-Err-clause-writes : goal.returns-in-Err-clause-writes
returns-in-Err-clause-writes g c nodes within =
    cells_as g.D.Disk.reveals (c.weave_piece.result ≡ Err DiskFault) _ c.args.shape.now nodes (IsBlockIn c.args.shape.now c.args.heads.now.lattice.n) (g.D.Disk.state c.args.disk.now) (g.D.Disk.state c.weave_piece.new.disk)
    (λ is. c.in-Err.is ∙ fault_as c.in-Err.fault DiskFault is) (λ is. cc) (writes_err g c nodes within)

pub returns-in-Err-clause-padded : goal.returns-in-Err-clause-padded
returns-in-Err-clause-padded g c fine revealed = padded_err g c (λ bad. fine (fault_as c.in-Err.fault DiskFault (sym c.in-Err.is ∙ bad))) revealed

pub returns-in-Err-clause-counted : goal.returns-in-Err-clause-counted
returns-in-Err-clause-counted g c =
    (counts_more (g.S.Source.state c.args.source.now).left (g.S.Source.state c.weave_piece.new.source).left c.args.at.now c.weave_piece.new.at (c.loop-done.done + c.min-want.result) c.args.limit
    (counts_then (g.S.Source.state c.args.source.now).left (g.S.Source.state c.loop-done.source).left (g.S.Source.state c.weave_piece.new.source).left c.args.at.now c.loop-done.at c.weave_piece.new.at c.loop-done.done c.min-want.result c.loop-done.invariant.counted c.weave_piece.ensures.counted)
    (let lt : c.loop-done.done < c.args.limit = grind (arith, nat_tests, c.loop-done-test.true) in omega (arith, lt, c.min-want.ensures)))

pub returns-then-count-want-clause-writes : goal.returns-then-count-want-clause-writes
returns-then-count-want-clause-writes g c nodes within =
    cells_as g.D.Disk.reveals (c.weave_piece.result ≡ Err DiskFault) _ c.args.shape.now nodes (IsBlockIn c.args.shape.now c.args.heads.now.lattice.n) (g.D.Disk.state c.args.disk.now) (g.D.Disk.state c.weave_piece.new.disk)
    (λ is. absurd (let e = is in cc)) (λ is. absurd (fine_then g c is)) (writes_then g c nodes within)

pub returns-then-count-want-clause-padded : goal.returns-then-count-want-clause-padded
returns-then-count-want-clause-padded g c fine revealed = padded_then g c (fine_then g c) revealed

pub returns-then-count-want-clause-counted : goal.returns-then-count-want-clause-counted
returns-then-count-want-clause-counted g c =
    (counts_more (g.S.Source.state c.args.source.now).left (g.S.Source.state c.weave_piece.new.source).left c.args.at.now c.weave_piece.new.at (c.loop-done.done + c.min-want.result) c.args.limit
    (counts_then (g.S.Source.state c.args.source.now).left (g.S.Source.state c.loop-done.source).left (g.S.Source.state c.weave_piece.new.source).left c.args.at.now c.loop-done.at c.weave_piece.new.at c.loop-done.done c.min-want.result c.loop-done.invariant.counted c.weave_piece.ensures.counted)
    (let lt : c.loop-done.done < c.args.limit = grind (arith, nat_tests, c.loop-done-test.true) in omega (arith, lt, c.min-want.ensures)))

pub returns-then-count-want-clause-took : goal.returns-then-count-want-clause-took
returns-then-count-want-clause-took g c = took_then g c

pub returns-clause-writes : goal.returns-clause-writes
returns-clause-writes g c nodes within =
    cells_as g.D.Disk.reveals ⊥ _ c.args.shape.now nodes (IsBlockIn c.args.shape.now c.args.heads.now.lattice.n) (g.D.Disk.state c.args.disk.now) (g.D.Disk.state c.loop-done.disk)
    (λ is. absurd (let e = is in cc)) (λ none. absurd none) (c.loop-done.invariant.writes nodes within)

pub returns-clause-counted : goal.returns-clause-counted
returns-clause-counted g c = counts_more (g.S.Source.state c.args.source.now).left (g.S.Source.state c.loop-done.source).left c.args.at.now c.loop-done.at c.loop-done.done c.args.limit c.loop-done.invariant.counted c.loop-done.invariant.within

pub loop-done-preserved : goal.loop-done-preserved
loop-done-preserved g c =
    let lt : c.loop-done.done < c.args.limit = grind (arith, nat_tests, c.loop-done-test.true) in
    let whole = c.loop-done.invariant.whole lt in
    let piece = c.in-Ok.ensures.took in
    let grown = piece.takes.grown in
    let all : c.min-want.result ≤ c.in-Ok.count = grind (arith, nat_tests, c.if-count-want.false) in
    let count : c.in-Ok.count ≡ c.min-want.result = (let most = piece.most in omega (arith, most, all)) in
    let want : c.min-want.result ≡ min (c.args.limit - c.loop-done.done) c.args.shape.now.block = omega (arith, c.min-want.ensures, c.block.ensures, c.from.ensures) in
    let least = some_bytes c.args.shape.now in
    record {
      within = omega (arith, count, want, lt);
      whole = λ more.
          let full : c.in-Ok.count ≡ c.args.shape.now.block = omega (arith, count, want, more) in (
            whole.0 + 1,
            (let e : (whole.0 + 1) * c.args.shape.now.block ≡ whole.0 * c.args.shape.now.block + c.args.shape.now.block = omega arith in omega (arith, e, whole.1, full)),
            (let n = grown.nodes in let o = nodes_one c.args.shape.now c.in-Ok.count (omega (arith, full, least)) (omega (arith, full)) in omega (arith, n, o, whole.2)),
          );
      alpha = grown.shape.alpha ∙ c.loop-done.invariant.alpha;
      size = piece.takes.size ∙ c.loop-done.invariant.size;
      block = c.weave_piece.auto.block ∙ c.loop-done.invariant.block;
      cell = c.weave_piece.auto.cell ∙ c.loop-done.invariant.cell;
      took = took_else g c;
      writes = λ nodes within. cells_as g.D.Disk.reveals (c.weave_piece.result ≡ Err DiskFault) ⊥ c.args.shape.now nodes (IsBlockIn c.args.shape.now c.args.heads.now.lattice.n) (g.D.Disk.state c.args.disk.now) (g.D.Disk.state c.weave_piece.new.disk)
          (λ none. absurd none) (fine_else g c) (writes_else g c nodes within);
      padded = λ revealed. padded_else g c (fine_else g c) revealed;
      exact = (let e = c.in-Ok.ensures.exact in omega (arith, e, c.loop-done.invariant.exact));
      counted = counts_more (g.S.Source.state c.args.source.now).left (g.S.Source.state c.weave_piece.new.source).left c.args.at.now c.weave_piece.new.at (c.loop-done.done + c.min-want.result) (c.loop-done.done + c.in-Ok.count)
          (counts_then (g.S.Source.state c.args.source.now).left (g.S.Source.state c.loop-done.source).left (g.S.Source.state c.weave_piece.new.source).left c.args.at.now c.loop-done.at c.weave_piece.new.at c.loop-done.done c.min-want.result c.loop-done.invariant.counted c.weave_piece.ensures.counted)
          (omega (arith, all));
      still = c.weave_piece.ensures.source_still (λ bad. ok_no_fault c.in-Ok.is bad) ∙ c.loop-done.invariant.still;
    }

-- a read fails only before the limit
pub returns-in-Err-clause-short : goal.returns-in-Err-clause-short
returns-in-Err-clause-short g c is =
    let short = c.weave_piece.ensures.short (c.in-Err.is ∙ fault_as c.in-Err.fault ReadFault is) in
    let lt : c.loop-done.done < c.args.limit = grind (arith, nat_tests, c.loop-done-test.true) in
    omega (arith, short, lt, c.min-want.ensures, c.loop-done.invariant.exact)
