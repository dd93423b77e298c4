use Rattle.aea_disk.proofs.Frames.{reads_none}
use Rattle.std.proofs.Common.{◌++◌, ◌+◌, ℕ, sym, ap, ◌∙◌, refl, rules}
use Rattle.std.specs.FinMap.{get, insert}
use Rattle.aea_catalog.specs.Catalogs.{Objects, placed_alone}
use Rattle.aea_records.specs.Fields.{pieces}
use Rattle.aea_records.specs.Reads.{object_end}
use Rattle.aea_ledger.proofs.Passed.{passed_over}
use Rattle.aea_ledger.proofs.Steps.{alone_goes, alone_put, alone_read, alone_missing, alone_wrong}
use Rattle.aea_ledger.proofs.reader.Reader.read_alone.Goals as goal

pub returns-then-not-branch-clause-bad : goal.returns-then-not-branch-clause-bad
returns-then-not-branch-clause-bad g c = λ reveals.
    alone_missing g.D.Disk.reveals ((g.D.Disk.state c.args.disk.now).files 0) c.args.self.now c.pass.new.self c.args.object.now c.args.bytes _ _ c.tails_are_judged.ensures c.requires.stands reveals c.pass.ensures.place c.blocks_of-count.ensures.value
    (c.in_ok-read_digests.ensures.last c.if-not-branch.true reveals) (ap (λ (n : ℕ). n + object_end c.args.object.now) c.place-gate.ensures)

pub returns-then-from-object-clause-bad : goal.returns-then-from-object-clause-bad
returns-then-from-object-clause-bad g c = λ reveals.
    alone_wrong g.D.Disk.reveals ((g.D.Disk.state c.args.disk.now).files 0) c.args.self.now c.pass.new.self c.read_digests.new.input c.args.object.now c.args.bytes _ _ _ _ c.tails_are_judged.ensures c.requires.stands reveals (passed_over g.D.Disk.reveals ((g.D.Disk.state c.args.disk.now).files 0) c.args.self.now.input c.args.self.now.input c.pass.new.self (object_end c.args.object.now) refl (λ message held. held) (λ reveals. (c.requires.stands.revealed reveals).ahead) c.requires.stands.within c.pass.ensures.are c.pass.ensures.holds c.pass.ensures.place c.pass.ensures.revealed) (c.in_ok-read_digests.ensures.more c.if-not-branch.false) c.blocks_of-count.ensures.value
    (λ e. c.if-from-object.true (c.from.ensures ∙ e)) (ap (λ (n : ℕ). n + 2) c.place-gate.ensures)

pub insert_owned-requires-clause-name : goal.insert_owned-requires-clause-name
insert_owned-requires-clause-name g c = (alone_put g.D.Disk.reveals ((g.D.Disk.state c.args.disk.now).files 0) c.args.self.now c.read_digests.new.input c.args.object.now _ c.in_ok-name.name.items c.requires.stands.records c.new_names_are_free.ensures c.requires.stands.read c.requires.stands.small.0 (alone_goes g.D.Disk.reveals ((g.D.Disk.state c.args.disk.now).files 0) c.args.self.now c.pass.new.self c.read_digests.new.input c.args.object.now c.args.bytes _ _ _ c.tails_are_spelled.ensures c.requires.stands (passed_over g.D.Disk.reveals ((g.D.Disk.state c.args.disk.now).files 0) c.args.self.now.input c.args.self.now.input c.pass.new.self (object_end c.args.object.now) refl (λ message held. held) (λ reveals. (c.requires.stands.revealed reveals).ahead) c.requires.stands.within c.pass.ensures.are c.pass.ensures.holds c.pass.ensures.place c.pass.ensures.revealed) (c.in_ok-read_digests.ensures.more c.if-not-branch.false) c.blocks_of-count.ensures.value (sym c.from.ensures ∙ c.if-from-object.false)) c.in_ok-name.ensures).named

pub insert_owned-requires-clause-absent : goal.insert_owned-requires-clause-absent
insert_owned-requires-clause-absent g c = ap (λ (m : Objects). get m c.in_ok-name.name.items) c.in_ok-reserve.ensures.objects ∙ (alone_put g.D.Disk.reveals ((g.D.Disk.state c.args.disk.now).files 0) c.args.self.now c.read_digests.new.input c.args.object.now _ c.in_ok-name.name.items c.requires.stands.records c.new_names_are_free.ensures c.requires.stands.read c.requires.stands.small.0 (alone_goes g.D.Disk.reveals ((g.D.Disk.state c.args.disk.now).files 0) c.args.self.now c.pass.new.self c.read_digests.new.input c.args.object.now c.args.bytes _ _ _ c.tails_are_spelled.ensures c.requires.stands (passed_over g.D.Disk.reveals ((g.D.Disk.state c.args.disk.now).files 0) c.args.self.now.input c.args.self.now.input c.pass.new.self (object_end c.args.object.now) refl (λ message held. held) (λ reveals. (c.requires.stands.revealed reveals).ahead) c.requires.stands.within c.pass.ensures.are c.pass.ensures.holds c.pass.ensures.place c.pass.ensures.revealed) (c.in_ok-read_digests.ensures.more c.if-not-branch.false) c.blocks_of-count.ensures.value (sym c.from.ensures ∙ c.if-from-object.false)) c.in_ok-name.ensures).free

pub returns-clause-more : goal.returns-clause-more
returns-clause-more g c =
    let ds = (c.in_ok-read_digests.ensures.more c.if-not-branch.false) in
    alone_read g.D.Disk.reveals ((g.D.Disk.state c.args.disk.now).files 0) c.args.self.now _ c.args.object.now c.args.bytes ds.text c.in_ok-name.name.items c.object_ref.result c.requires.stands (alone_goes g.D.Disk.reveals ((g.D.Disk.state c.args.disk.now).files 0) c.args.self.now c.pass.new.self c.read_digests.new.input c.args.object.now c.args.bytes _ _ _ c.tails_are_spelled.ensures c.requires.stands (passed_over g.D.Disk.reveals ((g.D.Disk.state c.args.disk.now).files 0) c.args.self.now.input c.args.self.now.input c.pass.new.self (object_end c.args.object.now) refl (λ message held. held) (λ reveals. (c.requires.stands.revealed reveals).ahead) c.requires.stands.within c.pass.ensures.are c.pass.ensures.holds c.pass.ensures.place c.pass.ensures.revealed) (c.in_ok-read_digests.ensures.more c.if-not-branch.false) c.blocks_of-count.ensures.value (sym c.from.ensures ∙ c.if-from-object.false)) refl c.more_nodes-self.ensures c.in_ok-name.ensures c.object_ref.ensures
    (c.insert_owned.ensures.objects ∙ ap (λ (m : Objects). insert m c.in_ok-name.name.items (placed_alone c.object_ref.result)) c.in_ok-reserve.ensures.objects) refl
    (ds.digests ∙ ap (λ (n : ℕ). c.args.self.now.digests.items ++ pieces 32 n ds.text) c.blocks_of-count.ensures.value)

pub returns-in_err-name-clause-reads : goal.returns-in_err-name-clause-reads
returns-in_err-name-clause-reads g c = reads_none g.D.Disk.reveals _ (g.D.Disk.state c.args.disk.now) (λ is. search rules)
