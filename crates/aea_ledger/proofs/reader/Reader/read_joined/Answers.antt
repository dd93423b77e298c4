use Rattle.std.proofs.Common.{◌++◌, ◌<◌, ◌==◌, ◌+◌, ◌*◌, ℕ, List, drop, length, sym, ap, ◌∙◌, subst, arith, refl, rules}
use Rattle.std.specs.FinMap.{get, insert}
use Rattle.aea_catalog.specs.Catalogs.{Objects}
use Rattle.aea_records.specs.Fields.{pieces, are_parts, extents}
use Rattle.aea_records.specs.Reads.{object_end}
use Rattle.aea_ledger.proofs.Passed.{passed_over, digests_in, length-extents}
use Rattle.aea_disk.proofs.Frames.{reads_both, reads_as, reads_none}
use Rattle.aea_ledger.proofs.Small.{few_nodes}
use Rattle.std.proofs.lemmas.Result.{err_from_is_err_and}
use Rattle.std.proofs.lemmas.Bool.{and_parts}
use Rattle.std.specs.List.{sum_by}
use Rattle.aea_catalog.specs.declared.objects.Extent.{Extent}
use Rattle.aea_records.specs.Fields.{are_apart}
use Rattle.aea_records.specs.Catalogued.{first_of}
use Rattle.aea_records.specs.Format.{nodes_for}
use Rattle.aea_ledger.proofs.JoinedSteps.{joined_goes, joined_put, joined_read, parts_missing, parts_bad, joined_missing, joined_wrong}
use Rattle.aea_ledger.proofs.reader.Reader.read_joined.Goals as goal

pub returns-then-not-branch-clause-bad : goal.returns-then-not-branch-clause-bad
returns-then-not-branch-clause-bad g c = λ reveals.
    parts_missing g.D.Disk.reveals ((g.D.Disk.state c.args.disk.now).files 0) c.args.self.now c.pass.new.self c.args.object.now c.args.bytes c.args.parts _ c.tails_are_judged.ensures c.requires.stands reveals c.pass.ensures.place
    (c.in_ok-read_parts.ensures.last c.if-not-branch.true reveals) (ap (λ (n : ℕ). n + (object_end c.args.object.now + 4)) c.place-gate.ensures)

pub are_parts-requires : goal.are_parts-requires
are_parts-requires g c =
    let ps = (c.in_ok-read_parts.ensures.more c.if-not-branch.false) in
    omega (arith, c.requires.stands.small.1, ap length c.deref.ensures.value, ap length ps.parts, ap (λ (l : List Extent). length (l ++ extents c.args.parts ps.text)) c.new-extents.ensures.items, length-extents c.args.parts ps.text)

pub returns-then-not-are_parts-clause-bad : goal.returns-then-not-are_parts-clause-bad
returns-then-not-are_parts-clause-bad g c = λ reveals.
    parts_bad g.D.Disk.reveals ((g.D.Disk.state c.args.disk.now).files 0) c.args.self.now c.pass.new.self c.read_parts.new.input c.args.object.now c.args.bytes c.args.parts _ _ _ c.tails_are_judged.ensures c.requires.stands reveals (passed_over g.D.Disk.reveals ((g.D.Disk.state c.args.disk.now).files 0) c.args.self.now.input c.args.self.now.input c.pass.new.self (object_end c.args.object.now + 4) refl (λ message held. held) (λ reveals. (c.requires.stands.revealed reveals).ahead) c.requires.stands.within c.pass.ensures.are c.pass.ensures.holds c.pass.ensures.place c.pass.ensures.revealed) (c.in_ok-read_parts.ensures.more c.if-not-branch.false) c.new-extents.ensures.items c.requires.stands.read.lattice.n (ap (are_parts c.args.self.now.shape c.args.object.now.size (c.args.self.now.lattice.n + c.args.object.now.count)) (sym c.deref.ensures.value) ∙ sym c.are_parts.ensures ∙ c.if-not-are_parts.true)
    (ap (λ (n : ℕ). n + (object_end c.args.object.now + 4)) c.place-gate.ensures)

pub returns-in_err-read_digests-clause-reads : goal.returns-in_err-read_digests-clause-reads
returns-in_err-read_digests-clause-reads g c =
    let p = err_from_is_err_and c.from_residual-in_err-read_digests.result c.from_residual-in_err-read_digests.ensures.1 in rw (p.1, p.2)
    (reads_both g.D.Disk.reveals _ _ (g.D.Disk.state c.args.disk.now) (g.D.Disk.state c.read_parts.new.disk) (g.D.Disk.state c.read_digests.new.disk) (λ is. absurd (cc)) c.in_ok-read_parts.ensures.reads (reads_as g.D.Disk.reveals _ _ (g.D.Disk.state c.read_parts.new.disk) (g.D.Disk.state c.read_digests.new.disk) (λ e. cc) (λ is. cc) c.in_err-read_digests.ensures.reads))

pub returns-then-not-branch-2-clause-bad : goal.returns-then-not-branch-2-clause-bad
returns-then-not-branch-2-clause-bad g c = λ reveals.
    joined_missing g.D.Disk.reveals ((g.D.Disk.state c.args.disk.now).files 0) c.args.self.now c.pass.new.self c.read_parts.new.input c.args.object.now c.args.bytes c.args.parts _ _ _ _ c.tails_are_judged.ensures c.requires.stands reveals (passed_over g.D.Disk.reveals ((g.D.Disk.state c.args.disk.now).files 0) c.args.self.now.input c.args.self.now.input c.pass.new.self (object_end c.args.object.now + 4) refl (λ message held. held) (λ reveals. (c.requires.stands.revealed reveals).ahead) c.requires.stands.within c.pass.ensures.are c.pass.ensures.holds c.pass.ensures.place c.pass.ensures.revealed) (c.in_ok-read_parts.ensures.more c.if-not-branch.false) c.new-extents.ensures.items c.requires.stands.read.lattice.n (ap (are_parts c.args.self.now.shape c.args.object.now.size (c.args.self.now.lattice.n + c.args.object.now.count)) (sym c.deref.ensures.value) ∙ sym c.are_parts.ensures ∙ c.if-not-are_parts.false) c.blocks_of-count.ensures.value
    (subst (λ (f : ℕ → List ℕ). length (drop c.read_parts.new.input.cursor.place (f 0)) < 32 * c.blocks_of-count.result) (c.in_ok-read_parts.ensures.reads.contents reveals) (c.in_ok-read_digests.ensures.last c.if-not-branch-2.true reveals))
    (omega (arith, c.place-gate.ensures, c.from.ensures))

pub returns-then-not-branch-2-clause-reads : goal.returns-then-not-branch-2-clause-reads
returns-then-not-branch-2-clause-reads g c = reads_both g.D.Disk.reveals _ _ (g.D.Disk.state c.args.disk.now) (g.D.Disk.state c.read_parts.new.disk) (g.D.Disk.state c.read_digests.new.disk) (λ is. absurd (cc)) c.in_ok-read_parts.ensures.reads (reads_as g.D.Disk.reveals _ _ (g.D.Disk.state c.read_parts.new.disk) (g.D.Disk.state c.read_digests.new.disk) (λ e. absurd (cc)) (λ is. absurd (cc)) c.in_ok-read_digests.ensures.reads)

pub overflow_add-from-3 : goal.overflow_add-from-3
overflow_add-from-3 g c = omega (arith, c.from-3.ensures, c.requires.stands.small.0.0, c.requires.stands.small.1, c.blocks_of-count.ensures.few)

pub returns-then-from-object-clause-bad : goal.returns-then-from-object-clause-bad
returns-then-from-object-clause-bad g c = λ reveals.
    joined_wrong g.D.Disk.reveals ((g.D.Disk.state c.args.disk.now).files 0) c.args.self.now c.pass.new.self c.read_parts.new.input c.read_digests.new.input c.args.object.now c.args.bytes c.args.parts _ _ _ _ _ _ c.tails_are_judged.ensures c.requires.stands reveals (passed_over g.D.Disk.reveals ((g.D.Disk.state c.args.disk.now).files 0) c.args.self.now.input c.args.self.now.input c.pass.new.self (object_end c.args.object.now + 4) refl (λ message held. held) (λ reveals. (c.requires.stands.revealed reveals).ahead) c.requires.stands.within c.pass.ensures.are c.pass.ensures.holds c.pass.ensures.place c.pass.ensures.revealed) (c.in_ok-read_parts.ensures.more c.if-not-branch.false) (digests_in g.D.Disk.reveals ((g.D.Disk.state c.read_parts.new.disk).files 0) ((g.D.Disk.state c.args.disk.now).files 0) c.read_parts.new.input c.read_digests.new.input _ _ _ (λ reveals. ap (λ (f : ℕ → List ℕ). f 0) (c.in_ok-read_parts.ensures.reads.contents reveals)) (c.in_ok-read_digests.ensures.more c.if-not-branch-2.false)) c.new-extents.ensures.items c.requires.stands.read.lattice.n (ap (are_parts c.args.self.now.shape c.args.object.now.size (c.args.self.now.lattice.n + c.args.object.now.count)) (sym c.deref.ensures.value) ∙ sym c.are_parts.ensures ∙ c.if-not-are_parts.false) c.blocks_of-count.ensures.value
    (λ e. c.if-from-object.true (c.from-2.ensures ∙ e ∙ (λ i. 54 + 8 * sym c.from-3.ensures i + c.args.object.now.long + 32 * c.blocks_of-count.result))) (ap (λ (n : ℕ). n + 2) c.place-gate.ensures)

pub returns-then-from-object-clause-reads : goal.returns-then-from-object-clause-reads
returns-then-from-object-clause-reads g c = reads_both g.D.Disk.reveals _ _ (g.D.Disk.state c.args.disk.now) (g.D.Disk.state c.read_parts.new.disk) (g.D.Disk.state c.read_digests.new.disk) (λ is. absurd (cc)) c.in_ok-read_parts.ensures.reads (reads_as g.D.Disk.reveals _ _ (g.D.Disk.state c.read_parts.new.disk) (g.D.Disk.state c.read_digests.new.disk) (λ e. absurd (cc)) (λ is. absurd (cc)) c.in_ok-read_digests.ensures.reads)

pub returns-in_err-reserve-clause-reads : goal.returns-in_err-reserve-clause-reads
returns-in_err-reserve-clause-reads g c =
    let p = err_from_is_err_and c.from_residual-in_err-reserve.result c.from_residual-in_err-reserve.ensures.1 in rw (p.1, p.2)
    (reads_both g.D.Disk.reveals _ _ (g.D.Disk.state c.args.disk.now) (g.D.Disk.state c.read_parts.new.disk) (g.D.Disk.state c.read_digests.new.disk) (λ is. absurd (cc)) c.in_ok-read_parts.ensures.reads (reads_as g.D.Disk.reveals _ _ (g.D.Disk.state c.read_parts.new.disk) (g.D.Disk.state c.read_digests.new.disk) (λ e. absurd (cc)) (λ is. absurd (cc)) c.in_ok-read_digests.ensures.reads))

pub joined_ref-requires : goal.joined_ref-requires
joined_ref-requires g c =
    let apart = (and_parts (are_apart 0 (c.args.self.now.lattice.n + c.args.object.now.count) c.read_parts.new.parts.items) (sum_by (λ (e : Extent). e.count) c.read_parts.new.parts.items == nodes_for c.args.self.now.shape c.args.object.now.size) (ap (are_parts c.args.self.now.shape c.args.object.now.size (c.args.self.now.lattice.n + c.args.object.now.count)) (sym c.deref.ensures.value) ∙ sym c.are_parts.ensures ∙ c.if-not-are_parts.false)).0 in
    let few = few_nodes 0 (c.args.self.now.lattice.n + c.args.object.now.count) c.read_parts.new.parts.items apart in
    omega (arith, few, c.requires.stands.goes, ap (λ (l : List Extent). sum_by (λ (e : Extent). e.count) l) c.deref-2.ensures.value)

pub insert_parts_owned-requires-clause-name : goal.insert_parts_owned-requires-clause-name
insert_parts_owned-requires-clause-name g c = (joined_put g.D.Disk.reveals ((g.D.Disk.state c.args.disk.now).files 0) c.args.self.now c.read_digests.new.input c.args.object.now c.args.parts _ _ c.in_ok-name.name.items c.requires.stands.records c.new_names_are_free.ensures c.requires.stands.read c.requires.stands.small.0.0 (joined_goes g.D.Disk.reveals ((g.D.Disk.state c.args.disk.now).files 0) c.args.self.now c.pass.new.self c.read_parts.new.input c.read_digests.new.input c.args.object.now c.args.bytes c.args.parts _ _ _ _ _ c.tails_are_spelled.ensures c.requires.stands (passed_over g.D.Disk.reveals ((g.D.Disk.state c.args.disk.now).files 0) c.args.self.now.input c.args.self.now.input c.pass.new.self (object_end c.args.object.now + 4) refl (λ message held. held) (λ reveals. (c.requires.stands.revealed reveals).ahead) c.requires.stands.within c.pass.ensures.are c.pass.ensures.holds c.pass.ensures.place c.pass.ensures.revealed) (c.in_ok-read_parts.ensures.more c.if-not-branch.false) (digests_in g.D.Disk.reveals ((g.D.Disk.state c.read_parts.new.disk).files 0) ((g.D.Disk.state c.args.disk.now).files 0) c.read_parts.new.input c.read_digests.new.input _ _ _ (λ reveals. ap (λ (f : ℕ → List ℕ). f 0) (c.in_ok-read_parts.ensures.reads.contents reveals)) (c.in_ok-read_digests.ensures.more c.if-not-branch-2.false)) c.new-extents.ensures.items c.requires.stands.read.lattice.n (ap (are_parts c.args.self.now.shape c.args.object.now.size (c.args.self.now.lattice.n + c.args.object.now.count)) (sym c.deref.ensures.value) ∙ sym c.are_parts.ensures ∙ c.if-not-are_parts.false) c.blocks_of-count.ensures.value (sym c.from-2.ensures ∙ c.if-from-object.false ∙ (λ i. 54 + 8 * c.from-3.ensures i + c.args.object.now.long + 32 * c.blocks_of-count.result))) c.in_ok-name.ensures).named

pub insert_parts_owned-requires-clause-absent : goal.insert_parts_owned-requires-clause-absent
insert_parts_owned-requires-clause-absent g c = ap (λ (m : Objects). get m c.in_ok-name.name.items) c.in_ok-reserve.ensures.objects ∙ (joined_put g.D.Disk.reveals ((g.D.Disk.state c.args.disk.now).files 0) c.args.self.now c.read_digests.new.input c.args.object.now c.args.parts _ _ c.in_ok-name.name.items c.requires.stands.records c.new_names_are_free.ensures c.requires.stands.read c.requires.stands.small.0.0 (joined_goes g.D.Disk.reveals ((g.D.Disk.state c.args.disk.now).files 0) c.args.self.now c.pass.new.self c.read_parts.new.input c.read_digests.new.input c.args.object.now c.args.bytes c.args.parts _ _ _ _ _ c.tails_are_spelled.ensures c.requires.stands (passed_over g.D.Disk.reveals ((g.D.Disk.state c.args.disk.now).files 0) c.args.self.now.input c.args.self.now.input c.pass.new.self (object_end c.args.object.now + 4) refl (λ message held. held) (λ reveals. (c.requires.stands.revealed reveals).ahead) c.requires.stands.within c.pass.ensures.are c.pass.ensures.holds c.pass.ensures.place c.pass.ensures.revealed) (c.in_ok-read_parts.ensures.more c.if-not-branch.false) (digests_in g.D.Disk.reveals ((g.D.Disk.state c.read_parts.new.disk).files 0) ((g.D.Disk.state c.args.disk.now).files 0) c.read_parts.new.input c.read_digests.new.input _ _ _ (λ reveals. ap (λ (f : ℕ → List ℕ). f 0) (c.in_ok-read_parts.ensures.reads.contents reveals)) (c.in_ok-read_digests.ensures.more c.if-not-branch-2.false)) c.new-extents.ensures.items c.requires.stands.read.lattice.n (ap (are_parts c.args.self.now.shape c.args.object.now.size (c.args.self.now.lattice.n + c.args.object.now.count)) (sym c.deref.ensures.value) ∙ sym c.are_parts.ensures ∙ c.if-not-are_parts.false) c.blocks_of-count.ensures.value (sym c.from-2.ensures ∙ c.if-from-object.false ∙ (λ i. 54 + 8 * c.from-3.ensures i + c.args.object.now.long + 32 * c.blocks_of-count.result))) c.in_ok-name.ensures).free

pub returns-clause-more : goal.returns-clause-more
returns-clause-more g c =
    let ps = (c.in_ok-read_parts.ensures.more c.if-not-branch.false) in
    let ds = (digests_in g.D.Disk.reveals ((g.D.Disk.state c.read_parts.new.disk).files 0) ((g.D.Disk.state c.args.disk.now).files 0) c.read_parts.new.input c.read_digests.new.input _ _ _ (λ reveals. ap (λ (f : ℕ → List ℕ). f 0) (c.in_ok-read_parts.ensures.reads.contents reveals)) (c.in_ok-read_digests.ensures.more c.if-not-branch-2.false)) in
    joined_read g.D.Disk.reveals ((g.D.Disk.state c.args.disk.now).files 0) c.args.self.now _ c.args.object.now c.args.bytes c.args.parts ps.text ds.text c.in_ok-name.name.items c.read_parts.new.parts.items c.joined_ref.result c.requires.stands (joined_goes g.D.Disk.reveals ((g.D.Disk.state c.args.disk.now).files 0) c.args.self.now c.pass.new.self c.read_parts.new.input c.read_digests.new.input c.args.object.now c.args.bytes c.args.parts _ _ _ _ _ c.tails_are_spelled.ensures c.requires.stands (passed_over g.D.Disk.reveals ((g.D.Disk.state c.args.disk.now).files 0) c.args.self.now.input c.args.self.now.input c.pass.new.self (object_end c.args.object.now + 4) refl (λ message held. held) (λ reveals. (c.requires.stands.revealed reveals).ahead) c.requires.stands.within c.pass.ensures.are c.pass.ensures.holds c.pass.ensures.place c.pass.ensures.revealed) (c.in_ok-read_parts.ensures.more c.if-not-branch.false) (digests_in g.D.Disk.reveals ((g.D.Disk.state c.read_parts.new.disk).files 0) ((g.D.Disk.state c.args.disk.now).files 0) c.read_parts.new.input c.read_digests.new.input _ _ _ (λ reveals. ap (λ (f : ℕ → List ℕ). f 0) (c.in_ok-read_parts.ensures.reads.contents reveals)) (c.in_ok-read_digests.ensures.more c.if-not-branch-2.false)) c.new-extents.ensures.items c.requires.stands.read.lattice.n (ap (are_parts c.args.self.now.shape c.args.object.now.size (c.args.self.now.lattice.n + c.args.object.now.count)) (sym c.deref.ensures.value) ∙ sym c.are_parts.ensures ∙ c.if-not-are_parts.false) c.blocks_of-count.ensures.value (sym c.from-2.ensures ∙ c.if-from-object.false ∙ (λ i. 54 + 8 * c.from-3.ensures i + c.args.object.now.long + 32 * c.blocks_of-count.result))) refl c.more_nodes-self.ensures c.in_ok-name.ensures
    (ps.parts ∙ ap (λ (l : List Extent). l ++ extents c.args.parts ps.text) c.new-extents.ensures.items)
    (c.joined_ref.ensures ∙ (λ i. record { first = first_of (c.deref-2.ensures.value i); count = sum_by (λ e. e.count) (c.deref-2.ensures.value i); length = c.args.object.now.size; digest = c.args.object.now.digest }))
    (c.insert_parts_owned.ensures.objects ∙ ap (λ (m : Objects). insert m c.in_ok-name.name.items (record { object = c.joined_ref.result; parts = c.read_parts.new.parts.items })) c.in_ok-reserve.ensures.objects) refl
    (ds.digests ∙ ap (λ (n : ℕ). c.args.self.now.digests.items ++ pieces 32 n ds.text) c.blocks_of-count.ensures.value)

pub returns-clause-reads : goal.returns-clause-reads
returns-clause-reads g c = reads_both g.D.Disk.reveals _ _ (g.D.Disk.state c.args.disk.now) (g.D.Disk.state c.read_parts.new.disk) (g.D.Disk.state c.read_digests.new.disk) (λ is. absurd (cc)) c.in_ok-read_parts.ensures.reads (reads_as g.D.Disk.reveals _ _ (g.D.Disk.state c.read_parts.new.disk) (g.D.Disk.state c.read_digests.new.disk) (λ e. absurd (cc)) (λ is. absurd (cc)) c.in_ok-read_digests.ensures.reads)

pub returns-in_err-name-clause-reads : goal.returns-in_err-name-clause-reads
returns-in_err-name-clause-reads g c = reads_none g.D.Disk.reveals _ (g.D.Disk.state c.args.disk.now) (λ is. search rules)
