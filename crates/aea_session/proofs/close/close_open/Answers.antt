use Rattle.std.proofs.Common.{◌≡◌, ◌≢◌, inl, inr, ℕ, ◌+◌, ◌-◌, ◌≤◌, max, List, [], ◌∷◌, ◌++◌, length, None, Some, Err, refl, sym, ◌∙◌, ap, subst, arith}
use Rattle.std.specs.Prelude.{slice_index_or, slice_set, IsTrue}
use Rattle.std.specs.FinMap.{get}
use Rattle.std.proofs.lemmas.List.{get_or_read}
use Rattle.sha2.specs.Sha256.{sha256}
use Rattle.aea_lattice.specs.declared.grid.Lattice.{Lattice}
use Rattle.aea_lattice.specs.declared.shape.Shape.{Shape}
use Rattle.aea_lattice.specs.Profile.{greatest_nodes}
use Rattle.aea_disk.specs.State.{IsReady}
use Rattle.aea_disk.proofs.Frames.{writes_as}
use Rattle.aea_shelf.specs.Writes.{KeepsPadded}
use Rattle.aea_catalog.specs.declared.objects.Extent.{Extent}
use Rattle.aea_catalog.specs.Names.{IsName}
use Rattle.aea_records.specs.Fields.{are_parts}
use Rattle.aea_records.specs.Format.{Record, nodes_for, raised_limit, body, entry}
use Rattle.aea_ledger.specs.Values.{HasRecords, IsThisOne}
use Rattle.aea_ledger.specs.Stops.{HasLedger, committed}
use Rattle.aea_archive.specs.Cells.{WritesCells, FitsRows, IsNoSite}
use Rattle.aea_archive.specs.Stretches.{Adds}
use Rattle.aea_archive.proofs.Cells.{fixed_kept}
use Rattle.aea_machine.specs.Closings.{Closing}
use Rattle.aea_uploads.specs.Slots.{KeepsSome}
use Rattle.aea_session.specs.declared.fault.StepFault.TheVariants.{DiskFault}
use Rattle.aea_session.specs.Closes.{GoesOn, MayHaveClosed}
use Rattle.aea_session.proofs.CloseFaults.{ok_no_fault, met_fault, fault_as}
use Rattle.aea_session.proofs.CloseOpen.{count_now, opened_of, some_kept, named, absent, are_in_parts, nodes_are, nodes_few, digests_long, closing_is}
use Rattle.aea_session.proofs.CloseRecord.{joined_by, goes_on}
use Rattle.aea_session.proofs.CloseKeeps.{steps_after, this_after}
use Rattle.aea_session.proofs.CloseAdds.{Cells, Leaves, cells_wider, padded_cells, padded_commit, leaves_ledger, leaves_commit, adds_none, adds_closes, has_closed, closed_as}
use Rattle.aea_session.proofs.CloseWrites.{joined_as, prepared, close_writes}
use Rattle.aea_session.proofs.close.close_open.Goals as goal

pub weave_rest-requires-clause-keeps : goal.weave_rest-requires-clause-keeps
weave_rest-requires-clause-keeps g c =
    let v = c.args.work.now in
    let slot = c.args.slot in
    let s = c.in-Some.kept in
    let m = c.requires.keeps.0 in
    let kept = c.requires.keeps.1 in
    let there : slice_index_or v.slots slot None ≡ Some s = sym (get_or_read v.slots _ _ (omega (arith, kept.many, c.requires.may.below)) c.index-work-slot.is None) ∙ c.index-work-slot.is ∙ sym c.take.ensures.value ∙ c.in-Some.is in
    let o = opened_of v m slot s kept there in
    subst (λ (x : Shape). KeepsSome x v.heads.lattice.n s) (sym c.shape-shape.ensures.value) (some_kept v m slot s kept o)

pub returns-in-Err-clause-stopped : goal.returns-in-Err-clause-stopped
returns-in-Err-clause-stopped g c is revealed m kept =
    let old = g.D.Disk.state c.args.disk.now in
    let mid = g.D.Disk.state c.weave_rest.new.disk in
    let reveals = g.D.Disk.reveals in
    let v = c.args.work.now in
    let bad = c.weave_rest.result ≡ Err DiskFault in
    let cells : Cells reveals bad v old mid = subst (λ (x : Shape). WritesCells reveals x raised_limit (λ a. a.node ≢ v.heads.lattice.n + 1) bad old mid) c.shape-shape.ensures.value c.weave_rest.ensures.writes in
    inl (adds_none c.close_laws.ensures.ledgers_have_one_reading reveals bad revealed v m old mid (c.requires.fixed revealed) cells)

pub returns-in-Err-clause-quiet : goal.returns-in-Err-clause-quiet
returns-in-Err-clause-quiet g c is revealed =
    let old = g.D.Disk.state c.args.disk.now in
    let mid = g.D.Disk.state c.weave_rest.new.disk in
    let reveals = g.D.Disk.reveals in
    let v = c.args.work.now in
    let bad = c.weave_rest.result ≡ Err DiskFault in
    let cells : Cells reveals bad v old mid = subst (λ (x : Shape). WritesCells reveals x raised_limit (λ a. a.node ≢ v.heads.lattice.n + 1) bad old mid) c.shape-shape.ensures.value c.weave_rest.ensures.writes in
    leaves_ledger reveals bad revealed v old mid (c.requires.fixed revealed) cells

pub returns-in-Err-clause-writes : goal.returns-in-Err-clause-writes
returns-in-Err-clause-writes g c =
    let old = g.D.Disk.state c.args.disk.now in
    let mid = g.D.Disk.state c.weave_rest.new.disk in
    let reveals = g.D.Disk.reveals in
    let v = c.args.work.now in
    let bad = c.weave_rest.result ≡ Err DiskFault in
    let cells : Cells reveals bad v old mid = subst (λ (x : Shape). WritesCells reveals x raised_limit (λ a. a.node ≢ v.heads.lattice.n + 1) bad old mid) c.shape-shape.ensures.value c.weave_rest.ensures.writes in
    writes_as reveals _ _ bad _ (Leaves v) old mid (λ is. c.in-Err.is ∙ fault_as c.in-Err.fault DiskFault is) (λ is. fault_as c.in-Err.fault DiskFault (sym c.in-Err.is ∙ is)) (cells_wider reveals bad v c.args.slot old mid cells)

pub returns-in-Err-clause-padded : goal.returns-in-Err-clause-padded
returns-in-Err-clause-padded g c other revealed =
    let old = g.D.Disk.state c.args.disk.now in
    let mid = g.D.Disk.state c.weave_rest.new.disk in
    let v = c.args.work.now in
    let padded : KeepsPadded v.ledger.shape (λ a. a.node ≢ v.heads.lattice.n + 1) old.files mid.files = subst (λ (x : Shape). KeepsPadded x (λ a. a.node ≢ v.heads.lattice.n + 1) old.files mid.files) c.shape-shape.ensures.value (c.weave_rest.ensures.padded (λ e. other (fault_as c.in-Err.fault DiskFault (sym c.in-Err.is ∙ e))) revealed) in
    padded_cells v old.files mid.files padded

pub nodes_taken-nodes-requires : goal.nodes_taken-nodes-requires
nodes_taken-nodes-requires g c =
    let old = g.D.Disk.state c.args.disk.now in
    let mid = g.D.Disk.state c.weave_rest.new.disk in
    let reveals = g.D.Disk.reveals in
    let v = c.args.work.now in
    let slot = c.args.slot in
    let s = c.in-Some.kept in
    let t = c.weave_rest.new.slot in
    let k = c.weave_rest.new.heads in
    let es = c.weave_rest.new.digests.items in
    let m = c.requires.keeps.0 in
    let kept = c.requires.keeps.1 in
    let there : slice_index_or v.slots slot None ≡ Some s = sym (get_or_read v.slots _ _ (omega (arith, kept.many, c.requires.may.below)) c.index-work-slot.is None) ∙ c.index-work-slot.is ∙ sym c.take.ensures.value ∙ c.in-Some.is in
    let p = prepared c.close_laws.ensures.last_is_the_machines c.close_laws.ensures.filled_are_counted reveals v m slot s t k es old.files mid.files _ c.shape-shape.ensures.value kept c.requires.this c.requires.may there c.in-Ok.ensures.finishes in
    record { few = subst (λ (x : Shape). nodes_for x t.length ≤ greatest_nodes) (sym c.shape-shape.ensures.value) (nodes_few reveals v m slot s t k es mid.files kept p.o p.ready c.close_laws.ensures.closed_are_parts) }

pub commit_parts-requires-clause-name : goal.commit_parts-requires-clause-name
commit_parts-requires-clause-name g c =
    let old = g.D.Disk.state c.args.disk.now in
    let mid = g.D.Disk.state c.weave_rest.new.disk in
    let reveals = g.D.Disk.reveals in
    let v = c.args.work.now in
    let slot = c.args.slot in
    let s = c.in-Some.kept in
    let t = c.weave_rest.new.slot in
    let k = c.weave_rest.new.heads in
    let es = c.weave_rest.new.digests.items in
    let m = c.requires.keeps.0 in
    let kept = c.requires.keeps.1 in
    let there : slice_index_or v.slots slot None ≡ Some s = sym (get_or_read v.slots _ _ (omega (arith, kept.many, c.requires.may.below)) c.index-work-slot.is None) ∙ c.index-work-slot.is ∙ sym c.take.ensures.value ∙ c.in-Some.is in
    let p = prepared c.close_laws.ensures.last_is_the_machines c.close_laws.ensures.filled_are_counted reveals v m slot s t k es old.files mid.files _ c.shape-shape.ensures.value kept c.requires.this c.requires.may there c.in-Ok.ensures.finishes in
    subst IsName (sym c.bytes.ensures) (named reveals v m slot s t k es mid.files kept p.o p.ready)

pub commit_parts-requires-clause-absent : goal.commit_parts-requires-clause-absent
commit_parts-requires-clause-absent g c =
    let old = g.D.Disk.state c.args.disk.now in
    let mid = g.D.Disk.state c.weave_rest.new.disk in
    let reveals = g.D.Disk.reveals in
    let v = c.args.work.now in
    let slot = c.args.slot in
    let s = c.in-Some.kept in
    let t = c.weave_rest.new.slot in
    let k = c.weave_rest.new.heads in
    let es = c.weave_rest.new.digests.items in
    let m = c.requires.keeps.0 in
    let kept = c.requires.keeps.1 in
    let there : slice_index_or v.slots slot None ≡ Some s = sym (get_or_read v.slots _ _ (omega (arith, kept.many, c.requires.may.below)) c.index-work-slot.is None) ∙ c.index-work-slot.is ∙ sym c.take.ensures.value ∙ c.in-Some.is in
    let p = prepared c.close_laws.ensures.last_is_the_machines c.close_laws.ensures.filled_are_counted reveals v m slot s t k es old.files mid.files _ c.shape-shape.ensures.value kept c.requires.this c.requires.may there c.in-Ok.ensures.finishes in
    ap (get v.ledger.objects) c.bytes.ensures ∙ absent reveals v m slot s t k es mid.files kept p.o p.ready

pub commit_parts-requires-clause-parts : goal.commit_parts-requires-clause-parts
commit_parts-requires-clause-parts g c =
    let old = g.D.Disk.state c.args.disk.now in
    let mid = g.D.Disk.state c.weave_rest.new.disk in
    let reveals = g.D.Disk.reveals in
    let v = c.args.work.now in
    let slot = c.args.slot in
    let s = c.in-Some.kept in
    let t = c.weave_rest.new.slot in
    let k = c.weave_rest.new.heads in
    let es = c.weave_rest.new.digests.items in
    let m = c.requires.keeps.0 in
    let kept = c.requires.keeps.1 in
    let there : slice_index_or v.slots slot None ≡ Some s = sym (get_or_read v.slots _ _ (omega (arith, kept.many, c.requires.may.below)) c.index-work-slot.is None) ∙ c.index-work-slot.is ∙ sym c.take.ensures.value ∙ c.in-Some.is in
    let p = prepared c.close_laws.ensures.last_is_the_machines c.close_laws.ensures.filled_are_counted reveals v m slot s t k es old.files mid.files _ c.shape-shape.ensures.value kept c.requires.this c.requires.may there c.in-Ok.ensures.finishes in
    let count : ℕ = c.next_node.result - 1 - c.n.result in
    let counted = count_now reveals v m slot s t k es mid.files kept p.o p.ready _ _ c.next_node.ensures (c.n.ensures ∙ ap (λ (l : Lattice). l.n) c.lattice.ensures.value) in
    subst (λ (l : List Extent). IsTrue (are_parts v.ledger.shape t.length (v.ledger.lattice.n + count) l)) (sym c.as_slice-2.ensures.value) (are_in_parts reveals v m slot s t k es mid.files kept p.o p.ready c.close_laws.ensures.closed_are_parts count counted)

pub commit_parts-requires-clause-digests : goal.commit_parts-requires-clause-digests
commit_parts-requires-clause-digests g c =
    let old = g.D.Disk.state c.args.disk.now in
    let mid = g.D.Disk.state c.weave_rest.new.disk in
    let reveals = g.D.Disk.reveals in
    let v = c.args.work.now in
    let slot = c.args.slot in
    let s = c.in-Some.kept in
    let t = c.weave_rest.new.slot in
    let k = c.weave_rest.new.heads in
    let es = c.weave_rest.new.digests.items in
    let m = c.requires.keeps.0 in
    let kept = c.requires.keeps.1 in
    let there : slice_index_or v.slots slot None ≡ Some s = sym (get_or_read v.slots _ _ (omega (arith, kept.many, c.requires.may.below)) c.index-work-slot.is None) ∙ c.index-work-slot.is ∙ sym c.take.ensures.value ∙ c.in-Some.is in
    let p = prepared c.close_laws.ensures.last_is_the_machines c.close_laws.ensures.filled_are_counted reveals v m slot s t k es old.files mid.files _ c.shape-shape.ensures.value kept c.requires.this c.requires.may there c.in-Ok.ensures.finishes in
    let count : ℕ = c.next_node.result - 1 - c.n.result in
    let counted = count_now reveals v m slot s t k es mid.files kept p.o p.ready _ _ c.next_node.ensures (c.n.ensures ∙ ap (λ (l : Lattice). l.n) c.lattice.ensures.value) in
    ap length c.as_slice.ensures.value ∙ digests_long reveals v m slot s t k es mid.files kept p.o p.ready count counted

pub commit_parts-requires-clause-this : goal.commit_parts-requires-clause-this
commit_parts-requires-clause-this g c revealed =
    let old = g.D.Disk.state c.args.disk.now in
    let mid = g.D.Disk.state c.weave_rest.new.disk in
    let reveals = g.D.Disk.reveals in
    let v = c.args.work.now in
    let bad = c.weave_rest.result ≡ Err DiskFault in
    let cells : Cells reveals bad v old mid = subst (λ (x : Shape). WritesCells reveals x raised_limit (λ a. a.node ≢ v.heads.lattice.n + 1) bad old mid) c.shape-shape.ensures.value c.weave_rest.ensures.writes in
    subst (IsThisOne v.ledger) (sym ((cells.contents revealed).stay 0 (inl refl))) (c.requires.this revealed).ledger

pub commit_parts-requires-clause-fixed : goal.commit_parts-requires-clause-fixed
commit_parts-requires-clause-fixed g c revealed =
    let old = g.D.Disk.state c.args.disk.now in
    let mid = g.D.Disk.state c.weave_rest.new.disk in
    let reveals = g.D.Disk.reveals in
    let v = c.args.work.now in
    let bad = c.weave_rest.result ≡ Err DiskFault in
    let cells : Cells reveals bad v old mid = subst (λ (x : Shape). WritesCells reveals x raised_limit (λ a. a.node ≢ v.heads.lattice.n + 1) bad old mid) c.shape-shape.ensures.value c.weave_rest.ensures.writes in
    fixed_kept reveals (IsReady old) (FitsRows v.ledger.shape raised_limit old) bad v.ledger.shape raised_limit (λ a. a.node ≢ v.heads.lattice.n + 1) (IsNoSite v.ledger.shape) old mid 0 revealed (inl refl) cells (c.requires.fixed revealed)

pub returns-in-Ok-commit_parts-clause-steps : goal.returns-in-Ok-commit_parts-clause-steps
returns-in-Ok-commit_parts-clause-steps g c m kept =
    let old = g.D.Disk.state c.args.disk.now in
    let mid = g.D.Disk.state c.weave_rest.new.disk in
    let reveals = g.D.Disk.reveals in
    let v = c.args.work.now in
    let slot = c.args.slot in
    let s = c.in-Some.kept in
    let t = c.weave_rest.new.slot in
    let k = c.weave_rest.new.heads in
    let es = c.weave_rest.new.digests.items in
    let there : slice_index_or v.slots slot None ≡ Some s = sym (get_or_read v.slots _ _ (omega (arith, kept.many, c.requires.may.below)) c.index-work-slot.is None) ∙ c.index-work-slot.is ∙ sym c.take.ensures.value ∙ c.in-Some.is in
    let p = prepared c.close_laws.ensures.last_is_the_machines c.close_laws.ensures.filled_are_counted reveals v m slot s t k es old.files mid.files _ c.shape-shape.ensures.value kept c.requires.this c.requires.may there c.in-Ok.ensures.finishes in
    let count : ℕ = c.next_node.result - 1 - c.n.result in
    let counted = count_now reveals v m slot s t k es mid.files kept p.o p.ready _ _ c.next_node.ensures (c.n.ensures ∙ ap (λ (l : Lattice). l.n) c.lattice.ensures.value) in
    let new = g.D.Disk.state c.commit_parts.new.disk in
    let digest = c.finalize-digest.result in
    let hashed : digest ≡ sha256 p.o.upload.bytes = c.finalize-digest.ensures p.o.upload.bytes p.ready.closes.hash in
    let is = joined_as v.ledger t digest count es c.bytes.ensures c.as_slice.ensures.value c.as_slice-2.ensures.value in
    steps_after reveals v m slot p.o.upload t k es mid.files p.ready digest hashed count counted kept c.requires.may p.o.there _ c.in-Ok-commit_parts.ensures.shape c.shape-shape.ensures.records
    (λ records has. subst (λ (r : Record). HasRecords c.commit_parts.new.ledger (records ++ r ∷ [])) is (c.in-Ok-commit_parts.ensures.value records has))
    refl c.clear.ensures.items (ap (slice_set v.slots slot) c.take.ensures.after) c.weave_rest.ensures.cell
    c.close_laws.ensures.kept_with_more c.close_laws.ensures.closed_are_placed c.close_laws.ensures.names_stay_own c.close_laws.ensures.limits_stay c.close_laws.ensures.closed_are_next c.close_laws.ensures.parts_record_more _
    (c.nodes_taken-nodes.ensures ∙ ap (λ (x : Shape). nodes_for x t.length) c.shape-shape.ensures.value ∙ nodes_are reveals v m slot s t k es mid.files kept p.o p.ready c.close_laws.ensures.closed_are_parts c.close_laws.ensures.runs_are_longest) refl refl

pub returns-in-Ok-commit_parts-clause-goes : goal.returns-in-Ok-commit_parts-clause-goes
returns-in-Ok-commit_parts-clause-goes g c m kept records has =
    let old = g.D.Disk.state c.args.disk.now in
    let mid = g.D.Disk.state c.weave_rest.new.disk in
    let reveals = g.D.Disk.reveals in
    let v = c.args.work.now in
    let slot = c.args.slot in
    let s = c.in-Some.kept in
    let t = c.weave_rest.new.slot in
    let k = c.weave_rest.new.heads in
    let es = c.weave_rest.new.digests.items in
    let there : slice_index_or v.slots slot None ≡ Some s = sym (get_or_read v.slots _ _ (omega (arith, kept.many, c.requires.may.below)) c.index-work-slot.is None) ∙ c.index-work-slot.is ∙ sym c.take.ensures.value ∙ c.in-Some.is in
    let p = prepared c.close_laws.ensures.last_is_the_machines c.close_laws.ensures.filled_are_counted reveals v m slot s t k es old.files mid.files _ c.shape-shape.ensures.value kept c.requires.this c.requires.may there c.in-Ok.ensures.finishes in
    let count : ℕ = c.next_node.result - 1 - c.n.result in
    let counted = count_now reveals v m slot s t k es mid.files kept p.o p.ready _ _ c.next_node.ensures (c.n.ensures ∙ ap (λ (l : Lattice). l.n) c.lattice.ensures.value) in
    let new = g.D.Disk.state c.commit_parts.new.disk in
    let digest = c.finalize-digest.result in
    let hashed : digest ≡ sha256 p.o.upload.bytes = c.finalize-digest.ensures p.o.upload.bytes p.ready.closes.hash in
    let is = joined_as v.ledger t digest count es c.bytes.ensures c.as_slice.ensures.value c.as_slice-2.ensures.value in
    subst (λ (cl : List Closing). GoesOn v.ledger c.commit_parts.new.ledger cl records) (sym (closing_is reveals v m slot s t k es mid.files kept p.o p.ready c.requires.may))
    (goes_on reveals v m p.o.upload t k es mid.files p.ready digest hashed count counted c.commit_parts.new.ledger records
    (subst (λ (r : Record). HasRecords c.commit_parts.new.ledger (records ++ r ∷ [])) is (c.in-Ok-commit_parts.ensures.value records has)))

pub returns-in-Ok-commit_parts-clause-closed : goal.returns-in-Ok-commit_parts-clause-closed
returns-in-Ok-commit_parts-clause-closed g c revealed m kept =
    let old = g.D.Disk.state c.args.disk.now in
    let mid = g.D.Disk.state c.weave_rest.new.disk in
    let reveals = g.D.Disk.reveals in
    let v = c.args.work.now in
    let slot = c.args.slot in
    let s = c.in-Some.kept in
    let t = c.weave_rest.new.slot in
    let k = c.weave_rest.new.heads in
    let es = c.weave_rest.new.digests.items in
    let bad = c.weave_rest.result ≡ Err DiskFault in
    let cells : Cells reveals bad v old mid = subst (λ (x : Shape). WritesCells reveals x raised_limit (λ a. a.node ≢ v.heads.lattice.n + 1) bad old mid) c.shape-shape.ensures.value c.weave_rest.ensures.writes in
    let there : slice_index_or v.slots slot None ≡ Some s = sym (get_or_read v.slots _ _ (omega (arith, kept.many, c.requires.may.below)) c.index-work-slot.is None) ∙ c.index-work-slot.is ∙ sym c.take.ensures.value ∙ c.in-Some.is in
    let p = prepared c.close_laws.ensures.last_is_the_machines c.close_laws.ensures.filled_are_counted reveals v m slot s t k es old.files mid.files _ c.shape-shape.ensures.value kept c.requires.this c.requires.may there c.in-Ok.ensures.finishes in
    let count : ℕ = c.next_node.result - 1 - c.n.result in
    let counted = count_now reveals v m slot s t k es mid.files kept p.o p.ready _ _ c.next_node.ensures (c.n.ensures ∙ ap (λ (l : Lattice). l.n) c.lattice.ensures.value) in
    let new = g.D.Disk.state c.commit_parts.new.disk in
    let digest = c.finalize-digest.result in
    let hashed : digest ≡ sha256 p.o.upload.bytes = c.finalize-digest.ensures p.o.upload.bytes p.ready.closes.hash in
    let is = joined_as v.ledger t digest count es c.bytes.ensures c.as_slice.ensures.value c.as_slice-2.ensures.value in
    closed_as v _ m _ _ old new (closing_is reveals v m slot s t k es mid.files kept p.o p.ready c.requires.may)
    (has_closed c.close_laws.ensures.cells_have_lengths c.close_laws.ensures.cells_have_parts c.close_laws.ensures.ledgers_have_one_reading c.close_laws.ensures.closed_are_next c.close_laws.ensures.parts_record_more reveals bad _ _ _ revealed v m p.o.upload t k es old mid new p.ready digest hashed count counted (c.requires.fixed revealed) cells c.commit_parts.ensures.writes
    (λ records payload its at. subst (λ (r : Record). Adds v.ledger.shape records (r ∷ []) payload mid new) is (c.commit_parts.ensures.adds revealed records payload its at))
    (subst (λ (r : Record). length (new.files 0) ≤ max (length (mid.files 0)) (v.ledger.end + length (entry r) + 1)) is (c.commit_parts.ensures.long revealed))
    _ c.close_laws.ensures.digests_are_counted c.in-Ok-commit_parts.ensures.shape c.shape-shape.ensures.records
    (λ records has. subst (λ (r : Record). HasRecords c.commit_parts.new.ledger (records ++ r ∷ [])) is (c.in-Ok-commit_parts.ensures.value records has))
    (λ records its. subst (λ (r : Record). HasLedger v.ledger.shape (records ++ r ∷ []) (new.files 0)) is (c.in-Ok-commit_parts.ensures.appended revealed records its))
    (subst (λ (r : Record). new.files 0 ≡ committed (mid.files 0) v.ledger.end (body r ++ 0 ∷ [])) is (c.in-Ok-commit_parts.ensures.exactly revealed)) (c.in-Ok-commit_parts.ensures.durable revealed))

pub returns-in-Ok-commit_parts-clause-this : goal.returns-in-Ok-commit_parts-clause-this
returns-in-Ok-commit_parts-clause-this g c revealed =
    let old = g.D.Disk.state c.args.disk.now in
    let mid = g.D.Disk.state c.weave_rest.new.disk in
    let reveals = g.D.Disk.reveals in
    let v = c.args.work.now in
    let slot = c.args.slot in
    let s = c.in-Some.kept in
    let t = c.weave_rest.new.slot in
    let k = c.weave_rest.new.heads in
    let es = c.weave_rest.new.digests.items in
    let m = c.requires.keeps.0 in
    let kept = c.requires.keeps.1 in
    let there : slice_index_or v.slots slot None ≡ Some s = sym (get_or_read v.slots _ _ (omega (arith, kept.many, c.requires.may.below)) c.index-work-slot.is None) ∙ c.index-work-slot.is ∙ sym c.take.ensures.value ∙ c.in-Some.is in
    let p = prepared c.close_laws.ensures.last_is_the_machines c.close_laws.ensures.filled_are_counted reveals v m slot s t k es old.files mid.files _ c.shape-shape.ensures.value kept c.requires.this c.requires.may there c.in-Ok.ensures.finishes in
    let count : ℕ = c.next_node.result - 1 - c.n.result in
    let counted = count_now reveals v m slot s t k es mid.files kept p.o p.ready _ _ c.next_node.ensures (c.n.ensures ∙ ap (λ (l : Lattice). l.n) c.lattice.ensures.value) in
    let new = g.D.Disk.state c.commit_parts.new.disk in
    let digest = c.finalize-digest.result in
    let hashed : digest ≡ sha256 p.o.upload.bytes = c.finalize-digest.ensures p.o.upload.bytes p.ready.closes.hash in
    let is = joined_as v.ledger t digest count es c.bytes.ensures c.as_slice.ensures.value c.as_slice-2.ensures.value in
    this_after reveals v m slot p.o.upload t k es mid.files p.ready digest hashed count counted kept c.requires.may p.o.there _ c.in-Ok-commit_parts.ensures.shape c.shape-shape.ensures.records
    (λ records has. subst (λ (r : Record). HasRecords c.commit_parts.new.ledger (records ++ r ∷ [])) is (c.in-Ok-commit_parts.ensures.value records has))
    refl c.clear.ensures.items (ap (slice_set v.slots slot) c.take.ensures.after) c.weave_rest.ensures.cell
    new.files (c.in-Ok-commit_parts.ensures.this_one revealed)

pub returns-in-Ok-commit_parts-clause-writes : goal.returns-in-Ok-commit_parts-clause-writes
returns-in-Ok-commit_parts-clause-writes g c =
    let v = c.args.work.now in
    let there : slice_index_or v.slots c.args.slot None ≡ Some c.in-Some.kept = sym (get_or_read v.slots _ _ (omega (arith, c.requires.keeps.1.many, c.requires.may.below)) c.index-work-slot.is None) ∙ c.index-work-slot.is ∙ sym c.take.ensures.value ∙ c.in-Some.is in
    writes_as g.D.Disk.reveals _ _ _ _ (Leaves v) (g.D.Disk.state c.args.disk.now) (g.D.Disk.state c.commit_parts.new.disk) (λ is. absurd (let e = is in cc)) (λ is. absurd (ok_no_fault c.in-Ok-commit_parts.is is))
    (close_writes c.close_laws.ensures.last_is_the_machines c.close_laws.ensures.filled_are_counted g.D.Disk.reveals (c.weave_rest.result ≡ Err DiskFault) _ v c.requires.keeps.0 c.args.slot c.in-Some.kept c.weave_rest.new.slot c.weave_rest.new.heads c.weave_rest.new.digests.items _ (g.D.Disk.state c.weave_rest.new.disk) _ _
    c.bytes.result.now c.finalize-digest.result c.as_slice.result.now c.as_slice-2.result.now (c.next_node.result - 1 - c.n.result) c.shape-shape.ensures.value c.requires.keeps.1 c.requires.this c.requires.may there c.in-Ok.ensures.finishes c.finalize-digest.ensures
    c.bytes.ensures c.as_slice.ensures.value c.as_slice-2.ensures.value c.commit_parts.ensures.size (ok_no_fault c.in-Ok.is) c.weave_rest.ensures.writes c.commit_parts.ensures.writes)

pub returns-in-Ok-commit_parts-clause-padded : goal.returns-in-Ok-commit_parts-clause-padded
returns-in-Ok-commit_parts-clause-padded g c other revealed =
    let old = g.D.Disk.state c.args.disk.now in
    let mid = g.D.Disk.state c.weave_rest.new.disk in
    let v = c.args.work.now in
    let padded : KeepsPadded v.ledger.shape (λ a. a.node ≢ v.heads.lattice.n + 1) old.files mid.files = subst (λ (x : Shape). KeepsPadded x (λ a. a.node ≢ v.heads.lattice.n + 1) old.files mid.files) c.shape-shape.ensures.value (c.weave_rest.ensures.padded (ok_no_fault c.in-Ok.is) revealed) in
    padded_commit v old.files mid.files (g.D.Disk.state c.commit_parts.new.disk).files padded (c.commit_parts.ensures.writes.contents revealed)

pub returns-in-Err-DiskFault-clause-stopped : goal.returns-in-Err-DiskFault-clause-stopped
returns-in-Err-DiskFault-clause-stopped g c _ revealed m kept =
    let old = g.D.Disk.state c.args.disk.now in
    let mid = g.D.Disk.state c.weave_rest.new.disk in
    let reveals = g.D.Disk.reveals in
    let v = c.args.work.now in
    let slot = c.args.slot in
    let s = c.in-Some.kept in
    let t = c.weave_rest.new.slot in
    let k = c.weave_rest.new.heads in
    let es = c.weave_rest.new.digests.items in
    let bad = c.weave_rest.result ≡ Err DiskFault in
    let cells : Cells reveals bad v old mid = subst (λ (x : Shape). WritesCells reveals x raised_limit (λ a. a.node ≢ v.heads.lattice.n + 1) bad old mid) c.shape-shape.ensures.value c.weave_rest.ensures.writes in
    let there : slice_index_or v.slots slot None ≡ Some s = sym (get_or_read v.slots _ _ (omega (arith, kept.many, c.requires.may.below)) c.index-work-slot.is None) ∙ c.index-work-slot.is ∙ sym c.take.ensures.value ∙ c.in-Some.is in
    let p = prepared c.close_laws.ensures.last_is_the_machines c.close_laws.ensures.filled_are_counted reveals v m slot s t k es old.files mid.files _ c.shape-shape.ensures.value kept c.requires.this c.requires.may there c.in-Ok.ensures.finishes in
    let count : ℕ = c.next_node.result - 1 - c.n.result in
    let counted = count_now reveals v m slot s t k es mid.files kept p.o p.ready _ _ c.next_node.ensures (c.n.ensures ∙ ap (λ (l : Lattice). l.n) c.lattice.ensures.value) in
    let new = g.D.Disk.state c.commit_parts.new.disk in
    let digest = c.finalize-digest.result in
    let hashed : digest ≡ sha256 p.o.upload.bytes = c.finalize-digest.ensures p.o.upload.bytes p.ready.closes.hash in
    let is = joined_as v.ledger t digest count es c.bytes.ensures c.as_slice.ensures.value c.as_slice-2.ensures.value in
    subst (λ (cl : List Closing). MayHaveClosed v m cl old new) (sym (closing_is reveals v m slot s t k es mid.files kept p.o p.ready c.requires.may))
    (inr (
      joined_by v.ledger t digest count es,
      adds_closes c.close_laws.ensures.cells_have_lengths c.close_laws.ensures.cells_have_parts c.close_laws.ensures.ledgers_have_one_reading c.close_laws.ensures.closed_are_next c.close_laws.ensures.parts_record_more reveals bad _ _ _ revealed v m p.o.upload t k es old mid new p.ready digest hashed count counted (c.requires.fixed revealed) cells c.commit_parts.ensures.writes
          (λ records payload its at. subst (λ (r : Record). Adds v.ledger.shape records (r ∷ []) payload mid new) is (c.commit_parts.ensures.adds revealed records payload its at))
          (subst (λ (r : Record). length (new.files 0) ≤ max (length (mid.files 0)) (v.ledger.end + length (entry r) + 1)) is (c.commit_parts.ensures.long revealed)),
    ))

pub returns-in-Err-DiskFault-clause-writes : goal.returns-in-Err-DiskFault-clause-writes
returns-in-Err-DiskFault-clause-writes g c =
    let v = c.args.work.now in
    let there : slice_index_or v.slots c.args.slot None ≡ Some c.in-Some.kept = sym (get_or_read v.slots _ _ (omega (arith, c.requires.keeps.1.many, c.requires.may.below)) c.index-work-slot.is None) ∙ c.index-work-slot.is ∙ sym c.take.ensures.value ∙ c.in-Some.is in
    writes_as g.D.Disk.reveals _ _ _ _ (Leaves v) (g.D.Disk.state c.args.disk.now) (g.D.Disk.state c.commit_parts.new.disk) (λ is. c.in-Err-DiskFault.is ∙ ap Err c.in-Err-DiskFault.field-0-is) (λ is. refl)
    (close_writes c.close_laws.ensures.last_is_the_machines c.close_laws.ensures.filled_are_counted g.D.Disk.reveals (c.weave_rest.result ≡ Err DiskFault) _ v c.requires.keeps.0 c.args.slot c.in-Some.kept c.weave_rest.new.slot c.weave_rest.new.heads c.weave_rest.new.digests.items _ (g.D.Disk.state c.weave_rest.new.disk) _ _
    c.bytes.result.now c.finalize-digest.result c.as_slice.result.now c.as_slice-2.result.now (c.next_node.result - 1 - c.n.result) c.shape-shape.ensures.value c.requires.keeps.1 c.requires.this c.requires.may there c.in-Ok.ensures.finishes c.finalize-digest.ensures
    c.bytes.ensures c.as_slice.ensures.value c.as_slice-2.ensures.value c.commit_parts.ensures.size (ok_no_fault c.in-Ok.is) c.weave_rest.ensures.writes c.commit_parts.ensures.writes)

pub returns-in-Err-NoMemory-clause-quiet : goal.returns-in-Err-NoMemory-clause-quiet
returns-in-Err-NoMemory-clause-quiet g c _ revealed =
    let old = g.D.Disk.state c.args.disk.now in
    let mid = g.D.Disk.state c.weave_rest.new.disk in
    let reveals = g.D.Disk.reveals in
    let v = c.args.work.now in
    let bad = c.weave_rest.result ≡ Err DiskFault in
    let cells : Cells reveals bad v old mid = subst (λ (x : Shape). WritesCells reveals x raised_limit (λ a. a.node ≢ v.heads.lattice.n + 1) bad old mid) c.shape-shape.ensures.value c.weave_rest.ensures.writes in
    let new = g.D.Disk.state c.commit_parts.new.disk in
    let same = c.commit_parts.ensures.unchanged (inr (c.in-Err-NoMemory.is ∙ ap Err c.in-Err-NoMemory.field-0-is)) in
    leaves_commit reveals bad revealed v old mid new (c.requires.fixed revealed) cells c.commit_parts.ensures.writes.time same.1.0 (same.1.1 revealed)

pub returns-in-Err-NoMemory-clause-writes : goal.returns-in-Err-NoMemory-clause-writes
returns-in-Err-NoMemory-clause-writes g c =
    let v = c.args.work.now in
    let there : slice_index_or v.slots c.args.slot None ≡ Some c.in-Some.kept = sym (get_or_read v.slots _ _ (omega (arith, c.requires.keeps.1.many, c.requires.may.below)) c.index-work-slot.is None) ∙ c.index-work-slot.is ∙ sym c.take.ensures.value ∙ c.in-Some.is in
    writes_as g.D.Disk.reveals _ _ _ _ (Leaves v) (g.D.Disk.state c.args.disk.now) (g.D.Disk.state c.commit_parts.new.disk) (λ is. absurd (let e = is in cc)) (λ is. absurd (let e = met_fault c.in-Err-NoMemory.is c.in-Err-NoMemory.field-0-is is in cc))
    (close_writes c.close_laws.ensures.last_is_the_machines c.close_laws.ensures.filled_are_counted g.D.Disk.reveals (c.weave_rest.result ≡ Err DiskFault) _ v c.requires.keeps.0 c.args.slot c.in-Some.kept c.weave_rest.new.slot c.weave_rest.new.heads c.weave_rest.new.digests.items _ (g.D.Disk.state c.weave_rest.new.disk) _ _
    c.bytes.result.now c.finalize-digest.result c.as_slice.result.now c.as_slice-2.result.now (c.next_node.result - 1 - c.n.result) c.shape-shape.ensures.value c.requires.keeps.1 c.requires.this c.requires.may there c.in-Ok.ensures.finishes c.finalize-digest.ensures
    c.bytes.ensures c.as_slice.ensures.value c.as_slice-2.ensures.value c.commit_parts.ensures.size (ok_no_fault c.in-Ok.is) c.weave_rest.ensures.writes c.commit_parts.ensures.writes)

pub returns-in-Err-NoMemory-clause-padded : goal.returns-in-Err-NoMemory-clause-padded
returns-in-Err-NoMemory-clause-padded g c other revealed =
    let old = g.D.Disk.state c.args.disk.now in
    let mid = g.D.Disk.state c.weave_rest.new.disk in
    let v = c.args.work.now in
    let padded : KeepsPadded v.ledger.shape (λ a. a.node ≢ v.heads.lattice.n + 1) old.files mid.files = subst (λ (x : Shape). KeepsPadded x (λ a. a.node ≢ v.heads.lattice.n + 1) old.files mid.files) c.shape-shape.ensures.value (c.weave_rest.ensures.padded (ok_no_fault c.in-Ok.is) revealed) in
    padded_commit v old.files mid.files (g.D.Disk.state c.commit_parts.new.disk).files padded (c.commit_parts.ensures.writes.contents revealed)
