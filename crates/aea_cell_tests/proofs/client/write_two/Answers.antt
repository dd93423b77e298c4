use Rattle.std.proofs.Common.{ℕ, List, sym, subst}
use Rattle.std.proofs.lemmas.Result.{on_ok_weaker}
use Rattle.aea_envelope.specs.Cells.{block_digest}
use Rattle.aea_disk.specs.Files.{Files}
use Rattle.aea_shelf.specs.Intact.{IsIntact}
use Rattle.aea_shelf.proofs.Runs.{shelf_kept, held_by_shelf, synced_held}
use Rattle.aea_cell_tests.proofs.client.write_two.Goals as goal

pub returns-in_err-write_cell-clause-held : goal.returns-in_err-write_cell-clause-held
returns-in_err-write_cell-clause-held g c revealed e recorded has_e not_a not_b held = c.write_cell.ensures.held revealed e recorded has_e not_a held

pub returns-in_err-write_cell-2-clause-held : goal.returns-in_err-write_cell-2-clause-held
returns-in_err-write_cell-2-clause-held g c revealed e recorded has_e not_a not_b held =
    c.write_cell-2.ensures.held revealed e recorded has_e not_b (c.write_cell.ensures.held revealed e recorded has_e not_a held)

pub returns-clause-held : goal.returns-clause-held
returns-clause-held g c revealed e recorded has_e not_a not_b held =
    let third = g.D.Disk.state c.write_cell-2.new.disk in
    let last = g.D.Disk.state c.sync.new.self in
    held_by_shelf g.D.Disk.reveals c.args.shape.now (λ block. Unit {0}) third last e recorded revealed has_e tt c.sync.ensures.time.later
    (shelf_kept g.D.Disk.reveals c.args.shape.now (λ block. Unit {0}) third last c.sync.ensures.crash c.sync.ensures.contents)
    (c.write_cell-2.ensures.held revealed e recorded has_e not_b (c.write_cell.ensures.held revealed e recorded has_e not_a held))

pub returns-clause-first : goal.returns-clause-first
returns-clause-first g c =
    let shape = c.args.shape.now in
    let last = g.D.Disk.state c.sync.new.self in
    let digest = block_digest c.args.a c.args.payload.now in
    on_ok_weaker c.sync.result
    (λ durable revealed.
    let second = subst (λ (d : List ℕ). IsIntact shape c.args.a d (g.D.Disk.state c.write_cell.new.disk).files) c.in_ok-write_cell.ensures.digest (c.in_ok-write_cell.ensures.intact revealed) in
    let third = c.write_cell-2.ensures.shelf.intact revealed c.args.a digest c.requires.first c.requires.apart second in
    synced_held shape c.args.a digest last (durable revealed) (subst (λ (files : Files). IsIntact shape c.args.a digest files) (sym (c.sync.ensures.contents revealed)) third))
    c.sync.ensures.durable

pub returns-clause-second : goal.returns-clause-second
returns-clause-second g c =
    let shape = c.args.shape.now in
    let last = g.D.Disk.state c.sync.new.self in
    let digest = block_digest c.args.b c.args.payload.now in
    on_ok_weaker c.sync.result
    (λ durable revealed.
    let third = subst (λ (d : List ℕ). IsIntact shape c.args.b d (g.D.Disk.state c.write_cell-2.new.disk).files) c.in_ok-write_cell-2.ensures.digest (c.in_ok-write_cell-2.ensures.intact revealed) in
    synced_held shape c.args.b digest last (durable revealed) (subst (λ (files : Files). IsIntact shape c.args.b digest files) (sym (c.sync.ensures.contents revealed)) third))
    c.sync.ensures.durable
