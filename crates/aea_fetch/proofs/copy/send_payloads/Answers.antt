use Rattle.std.proofs.Common.{◌≡◌, ℕ, List, [], sym, ◌∙◌, subst}
use Rattle.std.specs.Prelude.{All}
use Rattle.std.specs.FinMap.{get}
use Rattle.aea_lattice.specs.declared.blocks.BlockId.{BlockId}
use Rattle.aea_archive.specs.Objects.{data_under, IsOneOf}
use Rattle.aea_fetch.specs.Copies.{HasCopied, HasCut, IsWide}
use Rattle.aea_fetch.specs.declared.source.SendFault.TheVariants.{Output}
use Rattle.aea_fetch.proofs.Copies.{sent_all, sent_cut, sent_as, cut_as}
use Rattle.aea_fetch.proofs.copy.send_payloads.Goals as goal

pub copy_blocks-requires-clause-ready : goal.copy_blocks-requires-clause-ready
copy_blocks-requires-clause-ready g c =
    subst (All (g.P.PayloadSource.ready c.args.payloads.now g.D.Disk.reveals c.args.ledger.now (g.D.Disk.state c.args.disk.now).files)) (sym c.new-blocks.ensures.all) c.requires.ready

pub returns-in-Err-clause-cut : goal.returns-in-Err-clause-cut
returns-in-Err-clause-cut g c =
    let v = c.args.ledger.now in
    let has = g.P.PayloadSource.has g.D.Disk.reveals v (g.D.Disk.state c.args.disk.now).files in
    let sink = g.O.Sink.state c.args.out.now in
    let later = g.O.Sink.state c.copy_blocks.new.out in
    let failed = c.in-Err.fault ≡ Output in
    let cut = subst (λ (bs : List BlockId). HasCut (IsWide v.shape.block has) bs c.args.most sink [] later failed) c.new-blocks.ensures.all
    (subst (λ (l : List ℕ). HasCut (IsWide v.shape.block has) c.new-blocks.result c.args.most sink l later failed) c.requires.empty c.in-Err.ensures.cut) in
    cut_as (IsWide v.shape.block has) has (λ b p is. is.0) (data_under (get v.objects c.args.name.now)) c.args.most sink later [] failed failed (λ is. is) cut

pub returns-in-Err-clause-why : goal.returns-in-Err-clause-why
returns-in-Err-clause-why g c fault is =
    let at = c.copy_blocks.ensures.why fault (c.in-Err.is ∙ is) in
    (at.0, subst (λ (bs : List BlockId). IsOneOf bs at.0) c.new-blocks.ensures.all at.1, at.2)

pub returns-in-Err-finish-clause-cut : goal.returns-in-Err-finish-clause-cut
returns-in-Err-finish-clause-cut g c =
    let v = c.args.ledger.now in
    let has = g.P.PayloadSource.has g.D.Disk.reveals v (g.D.Disk.state c.args.disk.now).files in
    let wide = IsWide v.shape.block has in
    let sink = g.O.Sink.state c.args.out.now in
    let mid = g.O.Sink.state c.copy_blocks.new.out in
    let later = g.O.Sink.state c.finish.new.out in
    let blocks = data_under (get v.objects c.args.name.now) in
    let copied = subst (λ (bs : List BlockId). HasCopied wide bs c.args.most sink [] mid c.copy_blocks.new.page) c.new-blocks.ensures.all
    (subst (λ (l : List ℕ). HasCopied wide c.new-blocks.result c.args.most sink l mid c.copy_blocks.new.page) c.requires.empty c.in-Ok.ensures.copied) in
    cut_as wide has (λ b p is. is.0) blocks c.args.most sink later [] _ _ (λ is. is) (sent_cut wide blocks c.args.most sink mid later c.copy_blocks.new.page copied _ c.in-Err-finish.ensures.prints)

pub returns-in-Ok-finish-clause-sent : goal.returns-in-Ok-finish-clause-sent
returns-in-Ok-finish-clause-sent g c =
    let v = c.args.ledger.now in
    let has = g.P.PayloadSource.has g.D.Disk.reveals v (g.D.Disk.state c.args.disk.now).files in
    let wide = IsWide v.shape.block has in
    let sink = g.O.Sink.state c.args.out.now in
    let mid = g.O.Sink.state c.copy_blocks.new.out in
    let later = g.O.Sink.state c.finish.new.out in
    let blocks = data_under (get v.objects c.args.name.now) in
    let copied = subst (λ (bs : List BlockId). HasCopied wide bs c.args.most sink [] mid c.copy_blocks.new.page) c.new-blocks.ensures.all
    (subst (λ (l : List ℕ). HasCopied wide c.new-blocks.result c.args.most sink l mid c.copy_blocks.new.page) c.requires.empty c.in-Ok.ensures.copied) in
    sent_as wide has (λ b p is. is.0) blocks c.args.most sink later (sent_all wide blocks c.args.most sink mid later c.copy_blocks.new.page copied (rw c.in-Ok-finish.ensures.empty at c.in-Ok-finish.ensures.prints))
