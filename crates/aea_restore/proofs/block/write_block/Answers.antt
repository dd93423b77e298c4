use Rattle.std.proofs.Common.{◌≢◌, refl, sym, ◌∙◌, ap, subst}
use Rattle.std.proofs.lemmas.Bool.{true≢false}
use Rattle.aea_view.specs.Marked.{is_marked}
use Rattle.aea_restore.specs.Drawn.{IsDrawn}
use Rattle.aea_restore.proofs.Drawing.{block_of_shape, drawn_kept, drawn_more}
use Rattle.aea_restore.proofs.Ways.{adds_set, way_more, torn_write}
use Rattle.aea_restore.proofs.block.write_block.Goals as goal

pub returns-in-Ok-clause-done : goal.returns-in-Ok-clause-done
returns-in-Ok-clause-done g c =
    adds_set c.args.ledger.now.lattice c.args.b c.args.marks.now c.set.new.self c.requires.lattice (c.set.ensures.lattice ∙ c.requires.lattice) c.set.ensures.marks c.set.ensures.whole c.requires.block

pub returns-in-Ok-clause-way : goal.returns-in-Ok-clause-way
returns-in-Ok-clause-way g c fine revealed known first way =
    let v = c.args.ledger.now in
    let adds = adds_set v.lattice c.args.b c.args.marks.now c.set.new.self c.requires.lattice (c.set.ensures.lattice ∙ c.requires.lattice) c.set.ensures.marks c.set.ensures.whole c.requires.block in
    way_more v known (is_marked c.args.marks.now) (is_marked c.set.new.self) first (g.D.Disk.state c.args.disk.now).files (g.D.Disk.state c.write_payload.new.disk).files c.args.b
    (λ a has. block_of_shape v c.lattice-lattice.result a c.lattice-lattice.ensures.value c.lattice-lattice.ensures.of_shape has) c.requires.block c.requires.unmarked adds
    (c.write_payload.ensures.writes.contents revealed).homes (c.in-Ok.ensures.padded revealed) (c.in-Ok.ensures.intact revealed) way

pub returns-in-Ok-clause-drawn : goal.returns-in-Ok-clause-drawn
returns-in-Ok-clause-drawn g c revealed known first drawn all =
    let v = c.args.ledger.now in
    let b = c.args.b in
    let ready = is_marked c.args.marks.now in
    let new = (g.D.Disk.state c.write_payload.new.disk).files in
    let adds = adds_set v.lattice c.args.b c.args.marks.now c.set.new.self c.requires.lattice (c.set.ensures.lattice ∙ c.requires.lattice) c.set.ensures.marks c.set.ensures.whole c.requires.block in
    drawn_more v known ready (is_marked c.set.new.self) first new b adds (c.in-Ok.ensures.intact revealed)
    (subst (IsDrawn v known first b) (sym (c.in-Ok.ensures.payload revealed)) drawn)
    (drawn_kept v known ready first (g.D.Disk.state c.args.disk.now).files new (λ a. a ≢ c.args.b)
    (λ a has. block_of_shape v c.lattice-lattice.result a c.lattice-lattice.ensures.value c.lattice-lattice.ensures.of_shape has)
    (λ a has is e. true≢false (sym is ∙ ap ready e ∙ c.requires.unmarked)) (c.write_payload.ensures.writes.contents revealed).homes all)

pub returns-in-Err-clause-torn : goal.returns-in-Err-clause-torn
returns-in-Err-clause-torn g c is revealed known first way =
    let v = c.args.ledger.now in (
      c.args.b,
      refl,
      torn_write v known (is_marked c.args.marks.now) first (g.D.Disk.state c.args.disk.now).files (g.D.Disk.state c.write_payload.new.disk).files c.args.b
          (λ a has. block_of_shape v c.lattice-lattice.result a c.lattice-lattice.ensures.value c.lattice-lattice.ensures.of_shape has) c.requires.unmarked
          (c.write_payload.ensures.writes.contents revealed).homes (c.write_payload.ensures.elsewhere revealed) way,
    )

pub returns-in-Err-clause-drawn : goal.returns-in-Err-clause-drawn
returns-in-Err-clause-drawn g c revealed known first drawn all =
    let v = c.args.ledger.now in
    let ready = is_marked c.args.marks.now in
    drawn_kept v known ready first (g.D.Disk.state c.args.disk.now).files (g.D.Disk.state c.write_payload.new.disk).files (λ a. a ≢ c.args.b)
    (λ a has. block_of_shape v c.lattice-lattice.result a c.lattice-lattice.ensures.value c.lattice-lattice.ensures.of_shape has)
    (λ a has is e. true≢false (sym is ∙ ap ready e ∙ c.requires.unmarked)) (c.write_payload.ensures.writes.contents revealed).homes all
