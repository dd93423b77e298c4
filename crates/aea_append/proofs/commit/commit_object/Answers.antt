use Rattle.std.proofs.Common.{◌≡◌, ℕ, ◌+◌, List, [], ◌∷◌, ◌++◌, length, take, drop, refl, sym, ◌∙◌, ap, subst, arith}
use Rattle.std.proofs.lemmas.Result.{on_ok_weaker}
use Rattle.std.specs.Prelude.{IsErr}
use Rattle.std.specs.List.{sum_by}
use Rattle.aea_disk.specs.Files.{Files, ChangesOnly}
use Rattle.aea_disk.specs.State.{State, KeepsImages, IsReady, IsRoomy}
use Rattle.aea_disk.proofs.Moments.{during_kept}
use Rattle.aea_disk.proofs.Stays.{earlier_kept}
use Rattle.aea_disk.proofs.Frames.{ok_fine, ready_later, reads_one, reads_then_writes, reads_writes, writes_as, writes_others}
use Rattle.aea_envelope.specs.Cells.{cell_of}
use Rattle.aea_shelf.specs.Places.{home_file, home_place}
use Rattle.aea_shelf.proofs.Runs.{shelf_others, no_home_in_ledger}
use Rattle.aea_records.specs.Format.{Stored, Object, nodes_of, body, entry}
use Rattle.aea_ledger.specs.Next.{next_stored, AreItsRecords}
use Rattle.aea_ledger.specs.Stops.{HasLedger, committed}
use Rattle.aea_ledger.specs.Taking.{FitsAdding}
use Rattle.aea_ledger.proofs.Readying.{adding_later}
use Rattle.aea_records.proofs.OneMore.{nodes_of-push}
use Rattle.aea_archive.specs.Blocks.{IsBlockIn}
use Rattle.aea_archive.proofs.Stretches.{has_ledger, adds_nothing, adds_append, adds_later}
use Rattle.aea_records.proofs.Sizes.{length-entry}
use Rattle.aea_append.proofs.commit.commit_object.Goals as goal

-- nothing was written before a sync
before : (v : List ℕ → Type 0) (old mid : State) → ((c : Files) → old.image old.moment c → c 0 ≡ old.files 0) → v (old.files 0) → (c : Files) → old.image old.moment c → v (c 0)
before v old mid fixed has c here = subst v (sym (fixed c here)) has

pub returns-in_default-clause-adds : goal.returns-in_default-clause-adds
returns-in_default-clause-adds g c revealed records payload its cells =
    let v = c.args.ledger.now in
    let r = Object (next_stored v c.args.name.now c.args.size c.args.digest c.args.count c.args.digests.now) in
    let old = g.D.Disk.state c.args.disk.now in
    let mid = g.D.Disk.state c.sync.new.self in
    let ledger = has_ledger v records (old.files 0) its in
    adds_nothing c.ledgers_have_one_reading.ensures v.shape records (r ∷ []) payload old mid (earlier_kept old mid c.sync.ensures.crash c.sync.ensures.settled c.sync.ensures.time)
    (during_kept old mid (λ d. HasLedger v.shape records (d 0)) c.sync.ensures.crash (before (HasLedger v.shape records) old mid (c.requires.fixed revealed) ledger))
    (subst (HasLedger v.shape records) (sym (ap (λ (f : Files). f 0) (c.sync.ensures.contents revealed))) ledger)

pub returns-clause-adds : goal.returns-clause-adds
returns-clause-adds g c revealed records payload its cells =
    let v = c.args.ledger.now in
    let stored = next_stored v c.args.name.now c.args.size c.args.digest c.args.count c.args.digests.now in
    let r = Object stored in
    let reveals = g.D.Disk.reveals in
    let old = g.D.Disk.state c.args.disk.now in
    let mid = g.D.Disk.state c.sync.new.self in
    let new = g.D.Disk.state c.append.new.disk in
    let same = ap (λ (f : Files). f 0) (c.sync.ensures.contents revealed) in
    let mid_its : AreItsRecords v records (mid.files 0) = subst (λ (l : List ℕ). AreItsRecords v records l) (sym same) its in
    let ledger = has_ledger v records (old.files 0) its in
    let others = writes_others reveals _ _ _ (ChangesOnly 0) 0 mid new (λ d e step f other. step f other) c.append.ensures.writes in
    let nodes = its.has.lattice.n in
    let one : sum_by (λ (o : Stored). o.count) (stored ∷ []) ≡ c.args.count = omega arith in
    adds_later c.ledgers_have_one_reading.ensures reveals v.shape records (r ∷ []) payload old mid new c.sync.ensures.time c.append.ensures.writes.time
    (earlier_kept old mid c.sync.ensures.crash c.sync.ensures.settled c.sync.ensures.time)
    (during_kept old mid (λ d. HasLedger v.shape records (d 0)) c.sync.ensures.crash (before (HasLedger v.shape records) old mid (c.requires.fixed revealed) ledger))
    (subst (HasLedger v.shape records) (sym same) ledger)
    (shelf_others reveals v.shape (IsBlockIn v.shape (nodes_of records)) 0 mid new (λ a block. no_home_in_ledger v.shape a) others)
    (adds_append reveals v.shape records r payload mid new
    (λ b on d here.
    let stands = cells b (record { after = (let a = on.after in omega (arith, nodes, a)); most = (let m = on.most in omega (arith, nodes, m, nodes_of-push records r, one)); used = on.used }) in
    subst (λ (l : List ℕ). take (length (cell_of b (payload b))) (drop (home_place v.shape b) l) ≡ cell_of b (payload b))
    (sym (c.in-Ok.ensures.durable revealed d here (home_file v.shape b) ∙ ap (λ (f : Files). f (home_file v.shape b)) (c.sync.ensures.contents revealed))) stands)
    (c.append.ensures.leaves.any_moment revealed records mid_its) (c.append.ensures.leaves.reads revealed records mid_its) (c.append.ensures.leaves.stays revealed records mid_its) others)

pub returns-clause-appended : goal.returns-clause-appended
returns-clause-appended g c =
    on_ok_weaker c.append.result
    (λ committed revealed records its.
    committed.appended revealed records (subst (λ (l : List ℕ). AreItsRecords c.args.ledger.now records l) (sym (ap (λ (f : Files). f 0) (c.sync.ensures.contents revealed))) its))
    c.append.ensures.committed

pub returns-clause-exactly : goal.returns-clause-exactly
returns-clause-exactly g c =
    on_ok_weaker c.append.result
    (λ done revealed.
    done.exactly revealed
    ∙ ap (λ (f : Files). committed (f 0) c.args.ledger.now.end (body (Object (next_stored c.args.ledger.now c.args.name.now c.args.size c.args.digest c.args.count c.args.digests.now)) ++ 0 ∷ [])) (c.sync.ensures.contents revealed))
    c.append.ensures.committed

pub returns-clause-unchanged : goal.returns-clause-unchanged
returns-clause-unchanged g c is =
    let same = c.append.ensures.unchanged is in
    let old = g.D.Disk.state c.args.disk.now in
    (same.0, subst (λ (s : State). KeepsImages old s × (g.D.Disk.reveals → s.files ≡ old.files)) (sym (ap g.D.Disk.state same.1)) (c.sync.ensures.crash, c.sync.ensures.contents))

-- the space for the record is space to sync
roomy : (s : State) (end : ℕ) → FitsAdding s 1 end → IsRoomy s
roomy s end fit = record { some = (0, end + 1, fit.room); sync = fit.now }

pub returns-in_default-clause-writes : goal.returns-in_default-clause-writes
returns-in_default-clause-writes g c =
    let old = g.D.Disk.state c.args.disk.now in
    let mid = g.D.Disk.state c.sync.new.self in
    let end : ℕ = c.args.ledger.now.end + length (entry (Object (next_stored c.args.ledger.now c.args.name.now c.args.size c.args.digest c.args.count c.args.digests.now))) in
    writes_as g.D.Disk.reveals (IsReady old) (FitsAdding old 1 end) (IsErr c.sync.result) _ (ChangesOnly 0) old mid (λ is. subst IsErr (sym c.in_default.is) refl) (λ _. refl)
    (reads_writes g.D.Disk.reveals (IsReady old) (FitsAdding old 1 end) (IsErr c.sync.result) (ChangesOnly 0) old mid (λ is. is) (roomy old end) (λ d f other. refl)
    (reads_one g.D.Disk.reveals old mid c.sync.result c.sync.ensures.contents c.sync.ensures.crash c.sync.ensures.settled c.sync.ensures.time c.sync.ensures.cause c.sync.ensures.sure))

pub returns-clause-writes : goal.returns-clause-writes
returns-clause-writes g c =
    let old = g.D.Disk.state c.args.disk.now in
    let mid = g.D.Disk.state c.sync.new.self in
    let new = g.D.Disk.state c.append.new.disk in
    let end : ℕ = c.args.ledger.now.end + length (entry (Object (next_stored c.args.ledger.now c.args.name.now c.args.size c.args.digest c.args.count c.args.digests.now))) in
    reads_then_writes g.D.Disk.reveals (IsReady old) (IsReady mid) (FitsAdding old 1 end) (FitsAdding mid 1 end) (IsErr c.sync.result) _ (ChangesOnly 0) old mid new (ok_fine c.in-Ok.is) (λ d f other. refl)
    (λ is. is) (λ _ is same goes. ready_later old mid same goes is) (roomy old end) (λ _ fit same time. adding_later old mid 1 end (ap (λ (f : ℕ → List ℕ). f 0) same) time fit)
    (reads_one g.D.Disk.reveals old mid c.sync.result c.sync.ensures.contents c.sync.ensures.crash c.sync.ensures.settled c.sync.ensures.time c.sync.ensures.cause c.sync.ensures.sure)
    c.append.ensures.writes

pub returns-in_default-clause-size : goal.returns-in_default-clause-size
returns-in_default-clause-size g c wide = length-entry (next_stored c.args.ledger.now c.args.name.now c.args.size c.args.digest c.args.count c.args.digests.now) wide c.told-digests

pub returns-clause-size : goal.returns-clause-size
returns-clause-size g c wide = length-entry (next_stored c.args.ledger.now c.args.name.now c.args.size c.args.digest c.args.count c.args.digests.now) wide c.told-digests
