use Rattle.std.proofs.Common.{ℕ, List, [], subst}
use Rattle.std.specs.FinMap.{get}
use Rattle.aea_lattice.specs.declared.blocks.BlockId.{BlockId}
use Rattle.aea_archive.specs.Objects.{data_under}
use Rattle.aea_fetch.specs.Copies.{HasCopied}
use Rattle.aea_fetch.specs.Gets.{HasBroken}
use Rattle.aea_fetch.specs.Payloads.{IsPayload}
use Rattle.aea_session.proofs.Copied.{copied_end, broken_end}
use Rattle.aea_session.proofs.copy.send_blocks.Goals as goal

pub returns-in-Err-clause-broken : goal.returns-in-Err-clause-broken
returns-in-Err-clause-broken g c =
    let v = c.args.ledger.now in
    let reveals = g.D.Disk.reveals in
    let files = (g.D.Disk.state c.args.disk.now).files in
    let sink = g.O.Sink.state c.args.out.now in
    let later = g.O.Sink.state c.copy_blocks.new.out in
    subst (λ (bs : List BlockId). HasBroken reveals v.shape v.digests files bs c.args.most sink [] later c.in-Err.fault) c.new-blocks.ensures.all
    (subst (λ (l : List ℕ). HasBroken reveals v.shape v.digests files c.new-blocks.result c.args.most sink l later c.in-Err.fault) c.requires.empty c.in-Err.ensures.broken)

pub returns-in-Err-finish-clause-broken : goal.returns-in-Err-finish-clause-broken
returns-in-Err-finish-clause-broken g c =
    let v = c.args.ledger.now in
    let reveals = g.D.Disk.reveals in
    let files = (g.D.Disk.state c.args.disk.now).files in
    let has = IsPayload reveals v.shape v.digests files in
    let sink = g.O.Sink.state c.args.out.now in
    let mid = g.O.Sink.state c.copy_blocks.new.out in
    let blocks = data_under (get v.objects c.args.name.now) in
    let copied = subst (λ (bs : List BlockId). HasCopied has bs c.args.most sink [] mid c.copy_blocks.new.page) c.new-blocks.ensures.all
    (subst (λ (l : List ℕ). HasCopied has c.new-blocks.result c.args.most sink l mid c.copy_blocks.new.page) c.requires.empty c.in-Ok.ensures.copied) in
    broken_end reveals v.shape v.digests files blocks c.args.most sink mid (g.O.Sink.state c.finish.new.out) c.copy_blocks.new.page copied c.in-Err-finish.ensures.prints

pub returns-in-Ok-finish-clause-copied : goal.returns-in-Ok-finish-clause-copied
returns-in-Ok-finish-clause-copied g c =
    let v = c.args.ledger.now in
    let reveals = g.D.Disk.reveals in
    let files = (g.D.Disk.state c.args.disk.now).files in
    let has = IsPayload reveals v.shape v.digests files in
    let sink = g.O.Sink.state c.args.out.now in
    let mid = g.O.Sink.state c.copy_blocks.new.out in
    let blocks = data_under (get v.objects c.args.name.now) in
    let copied = subst (λ (bs : List BlockId). HasCopied has bs c.args.most sink [] mid c.copy_blocks.new.page) c.new-blocks.ensures.all
    (subst (λ (l : List ℕ). HasCopied has c.new-blocks.result c.args.most sink l mid c.copy_blocks.new.page) c.requires.empty c.in-Ok.ensures.copied) in
    copied_end reveals v.shape v.digests files blocks c.args.most sink mid (g.O.Sink.state c.finish.new.out) c.copy_blocks.new.page copied (rw c.in-Ok-finish.ensures.empty at c.in-Ok-finish.ensures.prints)
