use Rattle.aea_disk.proofs.Frames.{reads_made, reads_failed, reads_as, reads_both}
use Rattle.std.proofs.Common.{◌∙◌, ◌+◌, ℕ, List, [], take, drop, length, arith, refl, sym, ap, subst, rules}
use Rattle.std.proofs.lemmas.Result.{err_from_is_err_and}
use Rattle.std.proofs.lemmas.List.{take-take, length-take}
use Rattle.sha2.specs.Hashers.{Holds256}
use Rattle.aea_ledger.specs.Reads.{IsAhead}
use Rattle.aea_ledger.proofs.Starts.{started}
use Rattle.aea_ledger.proofs.open.start.Goals as goal

pub returns-in_err-shape-clause-fault : goal.returns-in_err-shape-clause-fault
returns-in_err-shape-clause-fault g c =
    let p = err_from_is_err_and c.from_residual-in_err-shape.result c.from_residual-in_err-shape.ensures.1 in rw (p.1, p.2)
    (λ reveals. c.in_err-shape.ensures.fault _ (c.window.ensures ∙ c.in_ok-count.ensures.window reveals
    ∙ ap (λ (n : ℕ). take 18 (drop n ((g.D.Disk.state c.len.new.self).files 0))) c.in_ok-new.ensures.place
    ∙ ap (λ (f : ℕ → List ℕ). take 18 (f 0)) (c.in_ok-bytes.ensures.contents reveals)))

pub returns-clause-reading : goal.returns-clause-reading
returns-clause-reading g c =
    let e = c.in_ok-count.ensures in
    let file = (g.D.Disk.state c.args.disk.now).files 0 in
    let between = (g.D.Disk.state c.len.new.self).files 0 in
    started g.D.Disk.reveals file c.window.result.now _
    c.in_ok-shape.ensures.header c.in_ok-shape.ensures.there
    (c.pass.ensures.place ∙ ap (λ (n : ℕ). n + 17) (e.place ∙ c.in_ok-new.ensures.place))
    c.no_nodes.ensures c.new-3.ensures.objects refl c.in_ok-digests.ensures.items
    (subst (λ (l : List ℕ). Holds256 c.pass.new.self.hasher l)
    (sym (ap (take 17) c.window.ensures ∙ take-take 17 c.in_ok-count.count c.fill.new.self.bytes (omega (arith, ap length c.window.ensures, length-take c.in_ok-count.count c.fill.new.self.bytes, c.in_ok-shape.ensures.there))))
    (c.pass.ensures.holds [] c.new-2.ensures))
    (λ reveals. c.window.ensures ∙ e.window reveals ∙ ap (λ (n : ℕ). take 18 (drop n between)) c.in_ok-new.ensures.place ∙ ap (λ (f : ℕ → List ℕ). take 18 (f 0)) (c.in_ok-bytes.ensures.contents reveals))
    (λ reveals. c.pass.ensures.revealed file
    (subst (λ (f : ℕ → List ℕ). IsAhead c.fill.new.self (f 0)) (e.reads.contents reveals ∙ c.in_ok-bytes.ensures.contents reveals) (e.revealed reveals)))

pub returns-in_err-bytes-clause-reads : goal.returns-in_err-bytes-clause-reads
returns-in_err-bytes-clause-reads g c = reads_failed g.D.Disk.reveals _ (g.D.Disk.state c.args.disk.now) (g.D.Disk.state c.len.new.self) _ refl (search rules) c.in_err-bytes.ensures.contents c.in_err-bytes.ensures.crash c.in_err-bytes.ensures.settled c.in_err-bytes.ensures.time c.in_err-bytes.ensures.cause c.in_err-bytes.ensures.sure

pub returns-in_err-new-clause-reads : goal.returns-in_err-new-clause-reads
returns-in_err-new-clause-reads g c = reads_as g.D.Disk.reveals ⊥ _ (g.D.Disk.state c.args.disk.now) (g.D.Disk.state c.len.new.self) (λ e. search rules) (λ none. absurd none) (reads_made g.D.Disk.reveals ⊥ _ _ _ (cc) (λ is. is) c.in_ok-bytes.ensures.contents c.in_ok-bytes.ensures.crash c.in_ok-bytes.ensures.settled c.in_ok-bytes.ensures.time c.in_ok-bytes.ensures.cause c.in_ok-bytes.ensures.sure)

pub returns-in_err-count-clause-reads : goal.returns-in_err-count-clause-reads
returns-in_err-count-clause-reads g c = reads_both g.D.Disk.reveals ⊥ _ (g.D.Disk.state c.args.disk.now) (g.D.Disk.state c.len.new.self) (g.D.Disk.state c.fill.new.disk) (λ none. none) (reads_made g.D.Disk.reveals ⊥ _ _ _ (cc) (λ is. is) c.in_ok-bytes.ensures.contents c.in_ok-bytes.ensures.crash c.in_ok-bytes.ensures.settled c.in_ok-bytes.ensures.time c.in_ok-bytes.ensures.cause c.in_ok-bytes.ensures.sure) (reads_as g.D.Disk.reveals _ _ _ _ (λ e. search rules) (λ is. search rules) c.in_err-count.ensures.reads)

pub returns-in_err-shape-clause-reads : goal.returns-in_err-shape-clause-reads
returns-in_err-shape-clause-reads g c = reads_both g.D.Disk.reveals ⊥ _ (g.D.Disk.state c.args.disk.now) (g.D.Disk.state c.len.new.self) (g.D.Disk.state c.fill.new.disk) (λ none. none) (reads_made g.D.Disk.reveals ⊥ _ _ _ (cc) (λ is. is) c.in_ok-bytes.ensures.contents c.in_ok-bytes.ensures.crash c.in_ok-bytes.ensures.settled c.in_ok-bytes.ensures.time c.in_ok-bytes.ensures.cause c.in_ok-bytes.ensures.sure) (reads_as g.D.Disk.reveals _ _ _ _ (λ e. search rules) (λ is. cc) c.in_ok-count.ensures.reads)

pub returns-in_err-digests-clause-reads : goal.returns-in_err-digests-clause-reads
returns-in_err-digests-clause-reads g c = reads_both g.D.Disk.reveals ⊥ _ (g.D.Disk.state c.args.disk.now) (g.D.Disk.state c.len.new.self) (g.D.Disk.state c.fill.new.disk) (λ none. none) (reads_made g.D.Disk.reveals ⊥ _ _ _ (cc) (λ is. is) c.in_ok-bytes.ensures.contents c.in_ok-bytes.ensures.crash c.in_ok-bytes.ensures.settled c.in_ok-bytes.ensures.time c.in_ok-bytes.ensures.cause c.in_ok-bytes.ensures.sure) (reads_as g.D.Disk.reveals _ _ _ _ (λ e. search rules) (λ is. cc) c.in_ok-count.ensures.reads)

pub returns-clause-reads : goal.returns-clause-reads
returns-clause-reads g c = reads_both g.D.Disk.reveals ⊥ _ (g.D.Disk.state c.args.disk.now) (g.D.Disk.state c.len.new.self) (g.D.Disk.state c.fill.new.disk) (λ none. none) (reads_made g.D.Disk.reveals ⊥ _ _ _ (cc) (λ is. is) c.in_ok-bytes.ensures.contents c.in_ok-bytes.ensures.crash c.in_ok-bytes.ensures.settled c.in_ok-bytes.ensures.time c.in_ok-bytes.ensures.cause c.in_ok-bytes.ensures.sure) (reads_as g.D.Disk.reveals _ _ _ _ (λ e. absurd (cc)) (λ is. absurd (cc)) c.in_ok-count.ensures.reads)
