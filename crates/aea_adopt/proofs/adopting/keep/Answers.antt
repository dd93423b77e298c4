use Rattle.std.proofs.Common.{◌≡◌, ◌+◌, true, false, inl, inr, refl, sym, ap, ◌∙◌, arith}
use Rattle.std.proofs.lemmas.Result.{on_ok_weaker}
use Rattle.aea_disk.specs.Files.{Files, ChangesOnly}
use Rattle.std.proofs.lemmas.Bool.{false≢true}
use Rattle.aea_disk.proofs.Frames.{writes_faulted}
use Rattle.aea_disk.proofs.Moments.{during_both, during_then_kept, passes_both}
use Rattle.aea_copy_writer.specs.Anew.{FitsCopy}
use Rattle.aea_copy_writer.specs.Changes.{FitsChange}
use Rattle.aea_adopt.specs.Keeping.{MayBeKept, FitsKeeping}
use Rattle.aea_adopt.proofs.Keeping.{ledger_kept, copy_kept, ledger_stage, copy_stage}
use Rattle.aea_adopt.proofs.Stages.{IsMade, is_made, IsHalf, is_half, all_kept, last_kept, ledger_stays, first_up, second_up, sites_first, sites_both, fits_ledger, fits_copy}
use Rattle.aea_adopt.proofs.adopting.keep.Goals as goal

pub renew-requires-clause-synced : goal.renew-requires-clause-synced
renew-requires-clause-synced g c revealed =
    let pieces = (c.requires.known revealed).0 in
    let known = (c.requires.known revealed).1 in
    c.in_ok-mend_ledger.ensures.durable revealed pieces known.kept

pub renew-requires-2-clause-synced : goal.renew-requires-2-clause-synced
renew-requires-2-clause-synced g c revealed =
    let first = g.D.Disk.state c.args.disk.now in
    let second = g.D.Disk.state c.mend_ledger.new.disk in
    let third = g.D.Disk.state c.renew.new.disk in
    let j = c.args.judgement.now in
    let k = c.args.kept.now in
    let pieces = (c.requires.known revealed).0 in
    let known = (c.requires.known revealed).1 in
    let made : IsMade pieces first.files second.files j k.standing.text = is_made pieces first.files second.files j k known (c.in_ok-mend_ledger.ensures.mended revealed pieces known.kept) (c.mend_ledger.ensures.writes.contents revealed) (c.mend_ledger.ensures.reads revealed pieces known.kept) in
    c.in_ok-renew.ensures.durable revealed pieces made.can

pub returns-in_err-mend_ledger-clause-any_moment : goal.returns-in_err-mend_ledger-clause-any_moment
returns-in_err-mend_ledger-clause-any_moment g c revealed pieces known =
    let first = g.D.Disk.state c.args.disk.now in
    let second = g.D.Disk.state c.mend_ledger.new.disk in
    let j = c.args.judgement.now in
    let k = c.args.kept.now in
    ledger_stage pieces first second k.source known.kept.is known.kept.good (c.requires.synced revealed) c.mend_ledger.ensures.writes.crash (c.mend_ledger.ensures.any_moment revealed pieces known.kept)

pub returns-in_err-mend_ledger-clause-reads : goal.returns-in_err-mend_ledger-clause-reads
returns-in_err-mend_ledger-clause-reads g c revealed pieces known =
    let first = g.D.Disk.state c.args.disk.now in
    let second = g.D.Disk.state c.mend_ledger.new.disk in
    let j = c.args.judgement.now in
    let k = c.args.kept.now in
    ledger_kept pieces first.files second.files k.source known.kept.is known.kept.good (c.mend_ledger.ensures.writes.contents revealed) (c.mend_ledger.ensures.reads revealed pieces known.kept)

pub returns-in_err-mend_ledger-clause-idle : goal.returns-in_err-mend_ledger-clause-idle
returns-in_err-mend_ledger-clause-idle g c revealed pieces known all =
    let first = g.D.Disk.state c.args.disk.now in
    let second = g.D.Disk.state c.mend_ledger.new.disk in
    let j = c.args.judgement.now in
    let k = c.args.kept.now in
    (c.mend_ledger.ensures.idle revealed pieces known.kept (sym all.ledger), ledger_stays pieces first.files second.files all (c.mend_ledger.ensures.writes.contents revealed) (c.mend_ledger.ensures.reads revealed pieces known.kept))

pub returns-in_err-mend_ledger-clause-writes : goal.returns-in_err-mend_ledger-clause-writes
returns-in_err-mend_ledger-clause-writes g c =
    let first = g.D.Disk.state c.args.disk.now in
    let second = g.D.Disk.state c.mend_ledger.new.disk in
    let j = c.args.judgement.now in
    let k = c.args.kept.now in
    sites_first g.D.Disk.reveals _ (FitsChange first 0 (k.standing.text + 1)) (FitsKeeping first j k) 0 first second (λ site. omega (arith, site.from)) (λ revealed fit. fits_ledger first j k fit)
    (writes_faulted g.D.Disk.reveals first.free (FitsChange first 0 (k.standing.text + 1)) _ _ (ChangesOnly 0) first second c.in_err-mend_ledger.ensures.writes (refl {a = true}) (cc))

pub returns-in_err-renew-clause-any_moment : goal.returns-in_err-renew-clause-any_moment
returns-in_err-renew-clause-any_moment g c revealed pieces known =
    let first = g.D.Disk.state c.args.disk.now in
    let second = g.D.Disk.state c.mend_ledger.new.disk in
    let third = g.D.Disk.state c.renew.new.disk in
    let j = c.args.judgement.now in
    let k = c.args.kept.now in
    let made : IsMade pieces first.files second.files j k.standing.text = is_made pieces first.files second.files j k known (c.in_ok-mend_ledger.ensures.mended revealed pieces known.kept) (c.mend_ledger.ensures.writes.contents revealed) (c.mend_ledger.ensures.reads revealed pieces known.kept) in
    during_both first second third (λ (d : Files). MayBeKept pieces first.files d) c.mend_ledger.ensures.writes.time c.renew.ensures.writes.time
    (ledger_stage pieces first second k.source known.kept.is known.kept.good (c.requires.synced revealed) c.mend_ledger.ensures.writes.crash (c.mend_ledger.ensures.any_moment revealed pieces known.kept))
    (copy_stage pieces first.files second third 65 66 k.standing.text j.first (inl refl) (inr refl) (λ e. omega (arith, e)) made.kept (c.in_ok-mend_ledger.ensures.durable revealed pieces known.kept) c.renew.ensures.writes.crash (c.renew.ensures.any_moment revealed pieces made.can) (λ up. (c.renew.ensures.up up).1) made.first made.other)

pub returns-in_err-renew-clause-reads : goal.returns-in_err-renew-clause-reads
returns-in_err-renew-clause-reads g c revealed pieces known =
    let first = g.D.Disk.state c.args.disk.now in
    let second = g.D.Disk.state c.mend_ledger.new.disk in
    let third = g.D.Disk.state c.renew.new.disk in
    let j = c.args.judgement.now in
    let k = c.args.kept.now in
    let made : IsMade pieces first.files second.files j k.standing.text = is_made pieces first.files second.files j k known (c.in_ok-mend_ledger.ensures.mended revealed pieces known.kept) (c.mend_ledger.ensures.writes.contents revealed) (c.mend_ledger.ensures.reads revealed pieces known.kept) in
    copy_kept pieces first.files second.files third.files 65 66 k.standing.text j.first (inl refl) (inr refl) (λ e. omega (arith, e)) made.kept (c.renew.ensures.writes.contents revealed) (c.renew.ensures.reads revealed pieces made.can)
    (λ up. ap (λ (d : Files). d 65) ((c.renew.ensures.up up).0 revealed)) made.first made.other

pub returns-in_err-renew-clause-idle : goal.returns-in_err-renew-clause-idle
returns-in_err-renew-clause-idle g c revealed pieces known all =
    let first = g.D.Disk.state c.args.disk.now in
    let second = g.D.Disk.state c.mend_ledger.new.disk in
    let third = g.D.Disk.state c.renew.new.disk in
    let j = c.args.judgement.now in
    let k = c.args.kept.now in
    let one = c.renew.ensures.up (first_up pieces first.files j k known all) in
    (during_then_kept first second third (first.image first.moment) c.mend_ledger.ensures.writes.time c.renew.ensures.writes.time one.1 (c.mend_ledger.ensures.idle revealed pieces known.kept (sym all.ledger)), one.0 revealed ∙ ledger_stays pieces first.files second.files all (c.mend_ledger.ensures.writes.contents revealed) (c.mend_ledger.ensures.reads revealed pieces known.kept))

pub returns-in_err-renew-clause-writes : goal.returns-in_err-renew-clause-writes
returns-in_err-renew-clause-writes g c =
    let first = g.D.Disk.state c.args.disk.now in
    let second = g.D.Disk.state c.mend_ledger.new.disk in
    let third = g.D.Disk.state c.renew.new.disk in
    let j = c.args.judgement.now in
    let k = c.args.kept.now in
    sites_both g.D.Disk.reveals (false ≡ true) _ (FitsKeeping first j k) (FitsCopy second 65 k.standing.text) 65 first second third (λ site. omega (arith, site.to)) false≢true
    (λ revealed fit passes. fits_copy first second j k 65 (inl refl) fit passes (λ pieces known. (is_made pieces first.files second.files j k known (c.in_ok-mend_ledger.ensures.mended revealed pieces known.kept) (c.mend_ledger.ensures.writes.contents revealed) (c.mend_ledger.ensures.reads revealed pieces known.kept)).can))
    (sites_first g.D.Disk.reveals (false ≡ true) (FitsChange first 0 (k.standing.text + 1)) (FitsKeeping first j k) 0 first second (λ site. omega (arith, site.from)) (λ revealed fit. fits_ledger first j k fit)
    c.in_ok-mend_ledger.ensures.writes)
    (writes_faulted g.D.Disk.reveals second.free (FitsCopy second 65 k.standing.text) _ _ (ChangesOnly 65) second third c.in_err-renew.ensures.writes (refl {a = true}) (cc))

pub returns-clause-any_moment : goal.returns-clause-any_moment
returns-clause-any_moment g c revealed pieces known =
    let first = g.D.Disk.state c.args.disk.now in
    let second = g.D.Disk.state c.mend_ledger.new.disk in
    let third = g.D.Disk.state c.renew.new.disk in
    let fourth = g.D.Disk.state c.renew-2.new.disk in
    let j = c.args.judgement.now in
    let k = c.args.kept.now in
    let made : IsMade pieces first.files second.files j k.standing.text = is_made pieces first.files second.files j k known (c.in_ok-mend_ledger.ensures.mended revealed pieces known.kept) (c.mend_ledger.ensures.writes.contents revealed) (c.mend_ledger.ensures.reads revealed pieces known.kept) in
    let half : IsHalf pieces first.files third.files j k.standing.text = is_half pieces first.files second.files third.files j k.standing.text made (c.renew.ensures.writes.contents revealed) (c.renew.ensures.reads revealed pieces made.can) (λ up. (c.renew.ensures.up up).0 revealed) (c.in_ok-renew.ensures.renewed revealed pieces made.can) in
    during_both first third fourth (λ (d : Files). MayBeKept pieces first.files d) (passes_both first second third c.mend_ledger.ensures.writes.time c.renew.ensures.writes.time) c.renew-2.ensures.writes.time
    (during_both first second third (λ (d : Files). MayBeKept pieces first.files d) c.mend_ledger.ensures.writes.time c.renew.ensures.writes.time
    (ledger_stage pieces first second k.source known.kept.is known.kept.good (c.requires.synced revealed) c.mend_ledger.ensures.writes.crash (c.mend_ledger.ensures.any_moment revealed pieces known.kept))
    (copy_stage pieces first.files second third 65 66 k.standing.text j.first (inl refl) (inr refl) (λ e. omega (arith, e)) made.kept (c.in_ok-mend_ledger.ensures.durable revealed pieces known.kept) c.renew.ensures.writes.crash (c.renew.ensures.any_moment revealed pieces made.can) (λ up. (c.renew.ensures.up up).1) made.first made.other))
    (copy_stage pieces first.files third fourth 66 65 k.standing.text j.second (inr refl) (inl refl) (λ e. omega (arith, e)) half.kept (c.in_ok-renew.ensures.durable revealed pieces made.can) c.renew-2.ensures.writes.crash (c.renew-2.ensures.any_moment revealed pieces half.can) (λ up. (c.renew-2.ensures.up up).1) half.second (λ no. half.first))

pub returns-clause-reads : goal.returns-clause-reads
returns-clause-reads g c revealed pieces known =
    let first = g.D.Disk.state c.args.disk.now in
    let second = g.D.Disk.state c.mend_ledger.new.disk in
    let third = g.D.Disk.state c.renew.new.disk in
    let fourth = g.D.Disk.state c.renew-2.new.disk in
    let j = c.args.judgement.now in
    let k = c.args.kept.now in
    let made : IsMade pieces first.files second.files j k.standing.text = is_made pieces first.files second.files j k known (c.in_ok-mend_ledger.ensures.mended revealed pieces known.kept) (c.mend_ledger.ensures.writes.contents revealed) (c.mend_ledger.ensures.reads revealed pieces known.kept) in
    let half : IsHalf pieces first.files third.files j k.standing.text = is_half pieces first.files second.files third.files j k.standing.text made (c.renew.ensures.writes.contents revealed) (c.renew.ensures.reads revealed pieces made.can) (λ up. (c.renew.ensures.up up).0 revealed) (c.in_ok-renew.ensures.renewed revealed pieces made.can) in
    last_kept pieces first.files third.files fourth.files j k.standing.text half (c.renew-2.ensures.writes.contents revealed) (c.renew-2.ensures.reads revealed pieces half.can) (λ up. (c.renew-2.ensures.up up).0 revealed)

pub returns-clause-kept : goal.returns-clause-kept
returns-clause-kept g c =
    let first = g.D.Disk.state c.args.disk.now in
    let second = g.D.Disk.state c.mend_ledger.new.disk in
    let third = g.D.Disk.state c.renew.new.disk in
    let fourth = g.D.Disk.state c.renew-2.new.disk in
    let j = c.args.judgement.now in
    let k = c.args.kept.now in
    on_ok_weaker c.renew-2.result
    (λ renewed revealed pieces known.
    let made : IsMade pieces first.files second.files j k.standing.text = is_made pieces first.files second.files j k known (c.in_ok-mend_ledger.ensures.mended revealed pieces known.kept) (c.mend_ledger.ensures.writes.contents revealed) (c.mend_ledger.ensures.reads revealed pieces known.kept) in
    let half : IsHalf pieces first.files third.files j k.standing.text = is_half pieces first.files second.files third.files j k.standing.text made (c.renew.ensures.writes.contents revealed) (c.renew.ensures.reads revealed pieces made.can) (λ up. (c.renew.ensures.up up).0 revealed) (c.in_ok-renew.ensures.renewed revealed pieces made.can) in
    all_kept pieces first.files third.files fourth.files j k.standing.text half (c.renew-2.ensures.writes.contents revealed) (λ up. (c.renew-2.ensures.up up).0 revealed) (renewed revealed pieces half.can))
    c.renew-2.ensures.renewed

pub returns-clause-idle : goal.returns-clause-idle
returns-clause-idle g c revealed pieces known all =
    let first = g.D.Disk.state c.args.disk.now in
    let second = g.D.Disk.state c.mend_ledger.new.disk in
    let third = g.D.Disk.state c.renew.new.disk in
    let fourth = g.D.Disk.state c.renew-2.new.disk in
    let j = c.args.judgement.now in
    let k = c.args.kept.now in
    let one = c.renew.ensures.up (first_up pieces first.files j k known all) in
    let two = c.renew-2.ensures.up (second_up pieces first.files j k known all) in (
      during_then_kept first third fourth (first.image first.moment) (passes_both first second third c.mend_ledger.ensures.writes.time c.renew.ensures.writes.time) c.renew-2.ensures.writes.time two.1
          (during_then_kept first second third (first.image first.moment) c.mend_ledger.ensures.writes.time c.renew.ensures.writes.time one.1 (c.mend_ledger.ensures.idle revealed pieces known.kept (sym all.ledger))),
      two.0 revealed ∙ (one.0 revealed ∙ ledger_stays pieces first.files second.files all (c.mend_ledger.ensures.writes.contents revealed) (c.mend_ledger.ensures.reads revealed pieces known.kept)),
    )

pub returns-clause-durable : goal.returns-clause-durable
returns-clause-durable g c =
    let first = g.D.Disk.state c.args.disk.now in
    let second = g.D.Disk.state c.mend_ledger.new.disk in
    let third = g.D.Disk.state c.renew.new.disk in
    let fourth = g.D.Disk.state c.renew-2.new.disk in
    let j = c.args.judgement.now in
    let k = c.args.kept.now in
    on_ok_weaker c.renew-2.result
    (λ durable revealed.
    let pieces = (c.requires.known revealed).0 in
    let known = (c.requires.known revealed).1 in
    let made : IsMade pieces first.files second.files j k.standing.text = is_made pieces first.files second.files j k known (c.in_ok-mend_ledger.ensures.mended revealed pieces known.kept) (c.mend_ledger.ensures.writes.contents revealed) (c.mend_ledger.ensures.reads revealed pieces known.kept) in
    let half : IsHalf pieces first.files third.files j k.standing.text = is_half pieces first.files second.files third.files j k.standing.text made (c.renew.ensures.writes.contents revealed) (c.renew.ensures.reads revealed pieces made.can) (λ up. (c.renew.ensures.up up).0 revealed) (c.in_ok-renew.ensures.renewed revealed pieces made.can) in
    durable revealed pieces half.can)
    c.renew-2.ensures.durable

pub returns-clause-writes : goal.returns-clause-writes
returns-clause-writes g c =
    let first = g.D.Disk.state c.args.disk.now in
    let second = g.D.Disk.state c.mend_ledger.new.disk in
    let third = g.D.Disk.state c.renew.new.disk in
    let fourth = g.D.Disk.state c.renew-2.new.disk in
    let j = c.args.judgement.now in
    let k = c.args.kept.now in
    sites_both g.D.Disk.reveals (false ≡ true) _ (FitsKeeping first j k) (FitsCopy third 66 k.standing.text) 66 first third fourth (λ site. omega (arith, site.to)) false≢true
    (λ revealed fit passes. fits_copy first third j k 66 (inr refl) fit passes
    (λ pieces known.
    let made : IsMade pieces first.files second.files j k.standing.text = is_made pieces first.files second.files j k known (c.in_ok-mend_ledger.ensures.mended revealed pieces known.kept) (c.mend_ledger.ensures.writes.contents revealed) (c.mend_ledger.ensures.reads revealed pieces known.kept) in
    let half : IsHalf pieces first.files third.files j k.standing.text = is_half pieces first.files second.files third.files j k.standing.text made (c.renew.ensures.writes.contents revealed) (c.renew.ensures.reads revealed pieces made.can) (λ up. (c.renew.ensures.up up).0 revealed) (c.in_ok-renew.ensures.renewed revealed pieces made.can) in
    half.can))
    (sites_both g.D.Disk.reveals (false ≡ true) _ (FitsKeeping first j k) (FitsCopy second 65 k.standing.text) 65 first second third (λ site. omega (arith, site.to)) false≢true
    (λ revealed fit passes. fits_copy first second j k 65 (inl refl) fit passes (λ pieces known. (is_made pieces first.files second.files j k known (c.in_ok-mend_ledger.ensures.mended revealed pieces known.kept) (c.mend_ledger.ensures.writes.contents revealed) (c.mend_ledger.ensures.reads revealed pieces known.kept)).can))
    (sites_first g.D.Disk.reveals (false ≡ true) (FitsChange first 0 (k.standing.text + 1)) (FitsKeeping first j k) 0 first second (λ site. omega (arith, site.from)) (λ revealed fit. fits_ledger first j k fit)
    c.in_ok-mend_ledger.ensures.writes)
    c.in_ok-renew.ensures.writes)
    c.renew-2.ensures.writes
