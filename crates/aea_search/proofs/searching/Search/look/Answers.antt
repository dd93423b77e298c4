use Rattle.std.proofs.Common.{IsErr, sym, subst, ap, ◌∙◌, refl}
use Rattle.aea_disk.proofs.Frames.{reads_as, ok_fine}
use Rattle.aea_view.specs.Marked.{is_marked}
use Rattle.aea_search.specs.Searches.{Searched, IsSearch, Looks}
use Rattle.aea_search.proofs.Going.{ok_no_fault, memory_no_fault, looks_none, looks_still, looks_skips, looks_begins}
use Rattle.aea_search.proofs.searching.Search.look.Goals as goal

pub returns-then-get-clause-looks : goal.returns-then-get-clause-looks
returns-then-get-clause-looks g c = looks_none g.D.Disk.reveals _ c.args.ledger.now c.args.self.now (g.D.Disk.state c.args.disk.now) ok_no_fault

pub returns-in-Err-clause-looks : goal.returns-in-Err-clause-looks
returns-in-Err-clause-looks g c =
    looks_still g.D.Disk.reveals _ c.args.ledger.now c.args.self.now (g.D.Disk.state c.args.disk.now) (g.D.Disk.state c.is_block_intact.new.disk)
    (reads_as g.D.Disk.reveals (IsErr c.is_block_intact.result) _ (g.D.Disk.state c.args.disk.now) (g.D.Disk.state c.is_block_intact.new.disk) (λ is. subst IsErr (sym c.in-Err.is) refl) (λ _. refl)
    c.is_block_intact.ensures.reads)

pub returns-in-Err-begin-clause-looks : goal.returns-in-Err-begin-clause-looks
returns-in-Err-begin-clause-looks g c =
    subst (λ (t : Searched). Looks g.D.Disk.reveals _ c.args.ledger.now c.args.self.now t (g.D.Disk.state c.args.disk.now) (g.D.Disk.state c.is_block_intact.new.disk)) (sym c.in-Err-begin.ensures.err)
    (looks_still g.D.Disk.reveals _ c.args.ledger.now c.args.self.now (g.D.Disk.state c.args.disk.now) (g.D.Disk.state c.is_block_intact.new.disk)
    (reads_as g.D.Disk.reveals (IsErr c.is_block_intact.result) _ (g.D.Disk.state c.args.disk.now) (g.D.Disk.state c.is_block_intact.new.disk) (λ is. absurd (memory_no_fault is)) (λ failed. absurd (ok_fine c.in-Ok-false.is failed))
    c.is_block_intact.ensures.reads))

pub returns-in-Ok-true-clause-looks : goal.returns-in-Ok-true-clause-looks
returns-in-Ok-true-clause-looks g c =
    looks_skips g.D.Disk.reveals _ c.args.ledger.now c.args.self.now c.skip.new.self (g.D.Disk.state c.args.disk.now) (g.D.Disk.state c.is_block_intact.new.disk) c.args.b c.in-Ok-true.field-0
    c.requires.same c.requires.block (subst IsSearch c.self.view_is c.self.invariant.1)
    (ap (λ (s : Searched). is_marked s.read c.args.b) (sym c.self.view_is) ∙ sym c.get.ensures ∙ c.if-get.false)
    c.in-Ok-true.field-0-test c.in-Ok-true.ensures.intact c.skip.ensures
    (reads_as g.D.Disk.reveals (IsErr c.is_block_intact.result) _ (g.D.Disk.state c.args.disk.now) (g.D.Disk.state c.is_block_intact.new.disk) (λ is. absurd (ok_no_fault is)) (λ failed. absurd (ok_fine c.in-Ok-true.is failed))
    c.is_block_intact.ensures.reads)

pub returns-in-Ok-clause-looks : goal.returns-in-Ok-clause-looks
returns-in-Ok-clause-looks g c =
    looks_begins g.D.Disk.reveals _ c.args.ledger.now c.args.self.now c.begin.new.self (g.D.Disk.state c.args.disk.now) (g.D.Disk.state c.is_block_intact.new.disk) c.args.b c.in-Ok-false.field-0
    c.requires.same
    (ap (λ (s : Searched). is_marked s.read c.args.b) (sym c.self.view_is) ∙ sym c.get.ensures ∙ c.if-get.false)
    c.in-Ok-false.field-0-test c.in-Ok-false.ensures.intact c.in-Ok.ensures.begins
    (reads_as g.D.Disk.reveals (IsErr c.is_block_intact.result) _ (g.D.Disk.state c.args.disk.now) (g.D.Disk.state c.is_block_intact.new.disk) (λ is. absurd (ok_no_fault is)) (λ failed. absurd (ok_fine c.in-Ok-false.is failed))
    c.is_block_intact.ensures.reads)
