use Rattle.std.proofs.Common.{◌≡◌, [], ◌∷◌, filter, Err, ◌∙◌, ap}
use Rattle.aea_lattice.specs.declared.grid.Lattice.{Lattice}
use Rattle.aea_lattice.specs.Equations.{equation_blocks}
use Rattle.aea_view.specs.Marked.{is_marked}
use Rattle.aea_disk.proofs.Frames.{reads_both, reads_as}
use Rattle.aea_restore.specs.declared.fault.RestoreFault.TheVariants.{DiskFault}
use Rattle.aea_restore.specs.Drawn.{is_other}
use Rattle.aea_restore.proofs.Judging.{judged_equation, judged_moved, clash_moved, among_input, among_datum, among_output}
use Rattle.aea_restore.proofs.sum.add_equation.Goals as goal

pub returns-in-Err-add_other-clause-reads : goal.returns-in-Err-add_other-clause-reads
returns-in-Err-add_other-clause-reads g c =
    reads_as g.D.Disk.reveals (c.add_other.result ≡ Err DiskFault) _ (g.D.Disk.state c.args.disk.now) (g.D.Disk.state c.add_other.new.disk) (λ is. c.in-Err-add_other.is ∙ is) (λ is. cc)
    (reads_both g.D.Disk.reveals (c.add_input.result ≡ Err DiskFault) (c.add_other.result ≡ Err DiskFault) (g.D.Disk.state c.args.disk.now) (g.D.Disk.state c.add_input.new.disk) (g.D.Disk.state c.add_other.new.disk) (λ is. absurd (cc)) c.add_input.ensures.reads c.add_other.ensures.reads)

pub returns-in-Ok-add_other-2-clause-judged : goal.returns-in-Ok-add_other-2-clause-judged
returns-in-Ok-add_other-2-clause-judged g c =
    let reveals = g.D.Disk.reveals in
    let v = c.args.ledger.now in
    let picks = is_marked c.args.marks.now in
    let old = (g.D.Disk.state c.args.disk.now).files in
    let q = c.equation-blocks.result in
    let listed = c.equation-blocks.ensures.listed ∙ ap (λ (l : Lattice). equation_blocks l c.args.e) c.lattice.ensures.value in
    judged_equation reveals v old picks c.args.b c.args.e q c.args.sum.now c.add_input.new.sum c.add_other.new.sum c.add_other-2.new.sum listed c.in-Ok.ensures.judged
    (judged_moved reveals v old (g.D.Disk.state c.add_input.new.disk).files c.add_input.new.sum c.add_other.new.sum (filter (is_other picks c.args.b) (q.datum ∷ [])) c.add_input.ensures.reads.contents c.in-Ok-add_other.ensures.judged)
    (judged_moved reveals v old (g.D.Disk.state c.add_other.new.disk).files c.add_other.new.sum c.add_other-2.new.sum (filter (is_other picks c.args.b) (q.output ∷ []))
    (λ revealed. c.add_other.ensures.reads.contents revealed ∙ c.add_input.ensures.reads.contents revealed) c.in-Ok-add_other-2.ensures.judged)

pub returns-in-Ok-add_other-2-clause-reads : goal.returns-in-Ok-add_other-2-clause-reads
returns-in-Ok-add_other-2-clause-reads g c =
    reads_as g.D.Disk.reveals (c.add_other-2.result ≡ Err DiskFault) _ (g.D.Disk.state c.args.disk.now) (g.D.Disk.state c.add_other-2.new.disk) (λ is. absurd (let e = is in cc)) (λ is. absurd (cc))
    (reads_both g.D.Disk.reveals (c.add_other.result ≡ Err DiskFault) (c.add_other-2.result ≡ Err DiskFault) (g.D.Disk.state c.args.disk.now) (g.D.Disk.state c.add_other.new.disk) (g.D.Disk.state c.add_other-2.new.disk) (λ is. absurd (cc))
    (reads_both g.D.Disk.reveals (c.add_input.result ≡ Err DiskFault) (c.add_other.result ≡ Err DiskFault) (g.D.Disk.state c.args.disk.now) (g.D.Disk.state c.add_input.new.disk) (g.D.Disk.state c.add_other.new.disk) (λ is. absurd (cc)) c.add_input.ensures.reads c.add_other.ensures.reads)
    c.add_other-2.ensures.reads)

pub returns-in-Err-clause-found : goal.returns-in-Err-clause-found
returns-in-Err-clause-found g c d revealed computed is =
    let v = c.args.ledger.now in
    let picks = is_marked c.args.marks.now in
    let q = c.equation-blocks.result in
    let listed = c.equation-blocks.ensures.listed ∙ ap (λ (l : Lattice). equation_blocks l c.args.e) c.lattice.ensures.value in
    let found = c.add_input.ensures.found d revealed computed (c.in-Err.is ∙ is) in
    (among_input v.lattice picks c.args.b c.args.e q d listed found.0, found.1)

pub returns-in-Err-add_other-clause-found : goal.returns-in-Err-add_other-clause-found
returns-in-Err-add_other-clause-found g c d revealed computed is =
    let v = c.args.ledger.now in
    let picks = is_marked c.args.marks.now in
    let q = c.equation-blocks.result in
    let listed = c.equation-blocks.ensures.listed ∙ ap (λ (l : Lattice). equation_blocks l c.args.e) c.lattice.ensures.value in
    let found = c.add_other.ensures.found d revealed computed (c.in-Err-add_other.is ∙ is) in
    (among_datum v.lattice picks c.args.b c.args.e q d listed found.0, clash_moved g.D.Disk.reveals v (g.D.Disk.state c.args.disk.now).files (g.D.Disk.state c.add_input.new.disk).files d revealed computed c.add_input.ensures.reads.contents found.1)

pub returns-in-Err-add_other-2-clause-found : goal.returns-in-Err-add_other-2-clause-found
returns-in-Err-add_other-2-clause-found g c d revealed computed is =
    let v = c.args.ledger.now in
    let picks = is_marked c.args.marks.now in
    let q = c.equation-blocks.result in
    let listed = c.equation-blocks.ensures.listed ∙ ap (λ (l : Lattice). equation_blocks l c.args.e) c.lattice.ensures.value in
    let found = c.add_other-2.ensures.found d revealed computed (c.in-Err-add_other-2.is ∙ is) in
    (among_output v.lattice picks c.args.b c.args.e q d listed found.0, clash_moved g.D.Disk.reveals v (g.D.Disk.state c.args.disk.now).files (g.D.Disk.state c.add_other.new.disk).files d revealed computed (λ reveals. c.add_other.ensures.reads.contents reveals ∙ c.add_input.ensures.reads.contents reveals) found.1)

pub returns-in-Err-add_other-2-clause-reads : goal.returns-in-Err-add_other-2-clause-reads
returns-in-Err-add_other-2-clause-reads g c =
    reads_as g.D.Disk.reveals (c.add_other-2.result ≡ Err DiskFault) _ (g.D.Disk.state c.args.disk.now) (g.D.Disk.state c.add_other-2.new.disk) (λ is. c.in-Err-add_other-2.is ∙ is) (λ is. cc)
    (reads_both g.D.Disk.reveals (c.add_other.result ≡ Err DiskFault) (c.add_other-2.result ≡ Err DiskFault) (g.D.Disk.state c.args.disk.now) (g.D.Disk.state c.add_other.new.disk) (g.D.Disk.state c.add_other-2.new.disk) (λ is. absurd (cc))
    (reads_both g.D.Disk.reveals (c.add_input.result ≡ Err DiskFault) (c.add_other.result ≡ Err DiskFault) (g.D.Disk.state c.args.disk.now) (g.D.Disk.state c.add_input.new.disk) (g.D.Disk.state c.add_other.new.disk) (λ is. absurd (cc)) c.add_input.ensures.reads c.add_other.ensures.reads)
    c.add_other-2.ensures.reads)
