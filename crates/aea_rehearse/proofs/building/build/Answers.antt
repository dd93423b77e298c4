use Rattle.std.proofs.Common.{ℕ, List, length, [], sym, ◌∙◌, subst, arith}
use Rattle.aea_disk.proofs.Moments.{passes_both}
use Rattle.aea_records.specs.Format.{nodes_for}
use Rattle.aea_ledger.specs.Next.{AreItsRecords}
use Rattle.aea_rehearse.specs.Rehearsed.{IsRehearsalShape}
use Rattle.aea_rehearse.proofs.Homes.{rehearsal_room_stays, cells_willing, willing_after}
use Rattle.aea_rehearse.proofs.Built.{empty_some, opened_new}
use Rattle.aea_rehearse.proofs.building.build.Goals as goal

pub create-requires-clause-room : goal.create-requires-clause-room
create-requires-clause-room g c = (c.requires.room c.rehearsal_shape-shape.result c.rehearsal_shape-shape.ensures).ledger 18 (omega arith)

pub open-requires-clause-archive : goal.open-requires-clause-archive
open-requires-clause-archive g c = empty_some c.rehearsal_shape-shape.result ((g.D.Disk.state c.create.new.disk).files 0) c.create.ensures.made

pub create-requires-clause-willing : goal.create-requires-clause-willing
create-requires-clause-willing g c = cells_willing (g.D.Disk.state c.args.disk.now) (c.requires.room c.rehearsal_shape-shape.result c.rehearsal_shape-shape.ensures).cells

pub open-requires-clause-willing : goal.open-requires-clause-willing
open-requires-clause-willing g c =
    willing_after (g.D.Disk.state c.args.disk.now) (g.D.Disk.state c.create.new.disk) c.create.ensures.time
    (cells_willing (g.D.Disk.state c.args.disk.now) (c.requires.room c.rehearsal_shape-shape.result c.rehearsal_shape-shape.ensures).cells)

pub returns-in_err-ledger-clause-steady : goal.returns-in_err-ledger-clause-steady
returns-in_err-ledger-clause-steady g c =
    c.open.ensures.reads.still (λ none. none) ∙ c.create.ensures.steady

pub store-requires-clause-none : goal.store-requires-clause-none
store-requires-clause-none g c =
    let new = opened_new c.ledgers_have_one_reading.ensures c.rehearsal_shape-shape.result c.in_ok-ledger.ledger ((g.D.Disk.state c.create.new.disk).files 0) c.create.ensures.made c.in_ok-ledger.ensures.this in
    subst (λ (f : ℕ → List ℕ). AreItsRecords c.in_ok-ledger.ledger [] (f 0)) (sym (c.open.ensures.reads.contents c.requires.reveals)) new.its

pub store-requires-clause-room : goal.store-requires-clause-room
store-requires-clause-room g c =
    let v = c.in_ok-ledger.ledger in
    let old = g.D.Disk.state c.args.disk.now in
    let mid = g.D.Disk.state c.create.new.disk in
    let new = g.D.Disk.state c.open.new.disk in
    let fresh = opened_new c.ledgers_have_one_reading.ensures c.rehearsal_shape-shape.result v (mid.files 0) c.create.ensures.made c.in_ok-ledger.ensures.this in
    let is : IsRehearsalShape v.shape = subst IsRehearsalShape (sym fresh.same) c.rehearsal_shape-shape.ensures in
    let nodes = nodes_for v.shape (length c.args.bytes.now) in
    let first = rehearsal_room_stays nodes old mid c.create.ensures.time c.create.ensures.steady (c.requires.room v.shape is) in
    let steady = c.open.ensures.reads.still (λ none. none) in
    rehearsal_room_stays nodes mid new c.open.ensures.reads.time steady first

pub returns-in_err-store-clause-steady : goal.returns-in_err-store-clause-steady
returns-in_err-store-clause-steady g c =
    c.store.ensures.steady ∙ c.open.ensures.reads.still (λ none. none) ∙ c.create.ensures.steady

pub returns-clause-steady : goal.returns-clause-steady
returns-clause-steady g c =
    c.store.ensures.steady ∙ c.open.ensures.reads.still (λ none. none) ∙ c.create.ensures.steady

pub returns-clause-time : goal.returns-clause-time
returns-clause-time g c =
    passes_both (g.D.Disk.state c.args.disk.now) (g.D.Disk.state c.create.new.disk) (g.D.Disk.state c.store.new.disk) c.create.ensures.time
    (passes_both (g.D.Disk.state c.create.new.disk) (g.D.Disk.state c.open.new.disk) (g.D.Disk.state c.store.new.disk) c.open.ensures.reads.time c.store.ensures.time)

pub returns-in_err-ledger-clause-time : goal.returns-in_err-ledger-clause-time
returns-in_err-ledger-clause-time g c = passes_both (g.D.Disk.state c.args.disk.now) (g.D.Disk.state c.create.new.disk) (g.D.Disk.state c.open.new.disk) c.create.ensures.time c.open.ensures.reads.time

pub returns-in_err-store-clause-time : goal.returns-in_err-store-clause-time
returns-in_err-store-clause-time g c =
    passes_both (g.D.Disk.state c.args.disk.now) (g.D.Disk.state c.open.new.disk) (g.D.Disk.state c.store.new.disk)
    (passes_both (g.D.Disk.state c.args.disk.now) (g.D.Disk.state c.create.new.disk) (g.D.Disk.state c.open.new.disk) c.create.ensures.time c.open.ensures.reads.time) c.store.ensures.time
