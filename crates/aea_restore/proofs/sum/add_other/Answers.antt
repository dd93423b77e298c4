use Rattle.std.proofs.Common.{◌≡◌, true, false, List, inl, inr, sym, ◌∙◌, subst}
use Rattle.std.proofs.lemmas.Bool.{cases_Bool}
use Rattle.std.proofs.lemmas.Result.{on_ok_weaker}
use Rattle.aea_lattice.specs.declared.blocks.BlockId.{BlockId}
use Rattle.aea_view.specs.Marked.{is_marked}
use Rattle.aea_disk.proofs.Frames.{reads_none}
use Rattle.aea_restore.specs.Drawn.{is_other}
use Rattle.aea_restore.specs.Judged.{IsJudgedSum, IsReadClashIn}
use Rattle.aea_restore.proofs.Judging.{judged_none, picked_one, picked_none}
use Rattle.aea_restore.proofs.sum.add_other.Goals as goal

pub returns-then-not-is_another-clause-judged : goal.returns-then-not-is_another-clause-judged
returns-then-not-is_another-clause-judged g c =
    let passed : is_other (is_marked c.args.marks.now) c.args.b c.args.other ≡ false =
    sym c.is_another.ensures ∙ (elim (cases_Bool c.is_another.result) [ inl yes' ↦ absurd (let h = c.if-not-is_another.true in cc) | inr no' ↦ no' ]) in
    subst (λ (bs : List BlockId). IsJudgedSum g.D.Disk.reveals c.args.ledger.now (g.D.Disk.state c.args.disk.now).files c.args.sum.now bs c.args.sum.now) (sym (picked_none (is_other (is_marked c.args.marks.now) c.args.b) c.args.other passed))
    (judged_none g.D.Disk.reveals c.args.ledger.now (g.D.Disk.state c.args.disk.now).files c.args.sum.now)

pub returns-then-not-is_another-clause-reads : goal.returns-then-not-is_another-clause-reads
returns-then-not-is_another-clause-reads g c = reads_none g.D.Disk.reveals _ (g.D.Disk.state c.args.disk.now) (λ is. absurd (let e = is in cc))

pub returns-clause-judged : goal.returns-clause-judged
returns-clause-judged g c =
    let picked : is_other (is_marked c.args.marks.now) c.args.b c.args.other ≡ true =
    sym c.is_another.ensures ∙ (elim (cases_Bool c.is_another.result) [ inl yes' ↦ yes' | inr no' ↦ absurd (let h = c.if-not-is_another.false in cc) ]) in
    on_ok_weaker c.add_payload.result
    (λ judged. subst (λ (bs : List BlockId). IsJudgedSum g.D.Disk.reveals c.args.ledger.now (g.D.Disk.state c.args.disk.now).files c.args.sum.now bs c.add_payload.new.sum) (sym (picked_one (is_other (is_marked c.args.marks.now) c.args.b) c.args.other picked)) judged)
    c.add_payload.ensures.judged

pub returns-clause-found : goal.returns-clause-found
returns-clause-found g c d revealed computed is =
    let picked : is_other (is_marked c.args.marks.now) c.args.b c.args.other ≡ true =
    sym c.is_another.ensures ∙ (elim (cases_Bool c.is_another.result) [ inl yes' ↦ yes' | inr no' ↦ absurd (let h = c.if-not-is_another.false in cc) ]) in
    subst (λ (bs : List BlockId). IsReadClashIn g.D.Disk.reveals c.args.ledger.now (g.D.Disk.state c.args.disk.now).files bs d revealed computed) (sym (picked_one (is_other (is_marked c.args.marks.now) c.args.b) c.args.other picked)) (c.add_payload.ensures.found d revealed computed is)
