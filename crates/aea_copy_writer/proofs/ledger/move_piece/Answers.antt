use Rattle.std.proofs.Common.{◌≡◌, ◌≢◌, ⊎_elim, ◌+◌, ◌-◌, ℕ, true, false, eqb, length, refl, ap, ◌∙◌, arith}
use Rattle.std.proofs.lemmas.Bool.{cases_eq, eq-eqb}
use Rattle.aea_disk.specs.Files.{Files, ChangesFile}
use Rattle.aea_disk.proofs.Frames.{writes_faulted, ok_fine}
use Rattle.aea_copy_writer.specs.Changes.{KeepsFront, FitsChange}
use Rattle.aea_copy_writer.proofs.Moving.{number_there, entry_long, piece_moved}
use Rattle.aea_copy_writer.proofs.Pieces.{not_zero}
use Rattle.aea_copy_writer.proofs.Stretches.{read_then, more_freely, front_none, front_less}
use Rattle.aea_copy_writer.proofs.ledger.move_piece.Goals as goal
use mir.Val.{bool_byte}

-- the first byte of the text is left out
skipped : (text : ℕ) → bool_byte (eqb text 0) ≡ 1 - text
skipped text =
    ⊎_elim
    (λ (is : text ≡ 0). ap bool_byte (eq-eqb text 0 is) ∙ omega (arith, is))
    (λ (other : text ≢ 0). ap bool_byte (not_zero text other) ∙ omega (arith, other))
    (cases_eq text 0)

pub returns-then-not-branch-clause-moved : goal.returns-then-not-branch-clause-moved
returns-then-not-branch-clause-moved g c = λ revealed piece rest is few near.
    omega (arith, c.in_ok-read_part.ensures.short c.if-not-branch.true revealed, entry_long ((g.D.Disk.state c.args.disk.now).files c.args.source) piece rest c.args.at is)

pub returns-then-not-branch-2-clause-moved : goal.returns-then-not-branch-2-clause-moved
returns-then-not-branch-2-clause-moved g c = λ revealed piece rest is few near.
    let first = g.D.Disk.state c.args.disk.now in
    let second = g.D.Disk.state c.read_part.new.disk in
    let size : c.from-len.result ≡ length piece =
    c.from-len.ensures ∙ c.number_in.ensures ∙ number_there (first.files c.args.source) c.read_part.new.part piece rest c.args.at is (c.in_ok-read_part.ensures.whole c.if-not-branch.false revealed) in
    let same : second.files c.args.source ≡ first.files c.args.source = ap (λ (d : Files). d c.args.source) (c.in_ok-read_part.ensures.reads.contents revealed) in
    omega (arith, c.in_ok-move_range.ensures.short c.if-not-branch-2.true revealed, entry_long (first.files c.args.source) piece rest c.args.at is, size, ap length same, c.from-skip.ensures ∙ skipped c.args.at.text, c.if-len-eq0.false)

pub returns-clause-moved : goal.returns-clause-moved
returns-clause-moved g c = λ revealed piece rest is few near.
    let first = g.D.Disk.state c.args.disk.now in
    let second = g.D.Disk.state c.read_part.new.disk in
    let third = g.D.Disk.state c.move_range.new.disk in
    let size : c.from-len.result ≡ length piece =
    c.from-len.ensures ∙ c.number_in.ensures ∙ number_there (first.files c.args.source) c.read_part.new.part piece rest c.args.at is (c.in_ok-read_part.ensures.whole c.if-not-branch.false revealed) in
    piece_moved c.args.source c.from-len.result c.from-skip.result piece rest c.args.at _ first.files second.files third.files (c.in_ok-read_part.ensures.reads.contents revealed) size (c.from-skip.ensures ∙ skipped c.args.at.text) is refl refl
    (c.in_ok-move_range.ensures.moved c.if-not-branch-2.false revealed)

pub returns-in_err-move_range-clause-writes : goal.returns-in_err-move_range-clause-writes
returns-in_err-move_range-clause-writes g c =
    let reveals = g.D.Disk.reveals in
    let first = g.D.Disk.state c.args.disk.now in
    let second = g.D.Disk.state c.read_part.new.disk in
    let third = g.D.Disk.state c.move_range.new.disk in
    let to = c.args.at.text + c.from-skip.result in
    let end = to + (c.from-len.result - c.from-skip.result) in
    let skip : c.from-skip.result ≡ 1 - c.args.at.text = c.from-skip.ensures ∙ skipped c.args.at.text in
    read_then reveals _ _ 0 (c.args.until + 1) (KeepsFront 1) first second third (ok_fine (c.in_ok-read_part.was)) (g.met.D.Disk.free_taken c.args.disk.now) (λ x. front_none 1 x) c.read_part.ensures.reads
    (more_freely reveals _ 0 (c.args.until + 1) end (KeepsFront to) (KeepsFront 1) second third (λ x y keeps. front_less 1 to x y (omega (arith, skip)) keeps) (g.met.D.Disk.smaller_fits c.read_part.new.disk) (omega (arith, skip, c.if-len-eq0.false, c.if-len-until.false))
    (writes_faulted reveals second.free (FitsChange second 0 end) _ _ (ChangesFile 0 (KeepsFront to)) second third c.in_err-move_range.ensures.writes refl (cc)))

pub returns-then-not-branch-2-clause-writes : goal.returns-then-not-branch-2-clause-writes
returns-then-not-branch-2-clause-writes g c =
    let reveals = g.D.Disk.reveals in
    let first = g.D.Disk.state c.args.disk.now in
    let second = g.D.Disk.state c.read_part.new.disk in
    let third = g.D.Disk.state c.move_range.new.disk in
    let to = c.args.at.text + c.from-skip.result in
    let end = to + (c.from-len.result - c.from-skip.result) in
    let skip : c.from-skip.result ≡ 1 - c.args.at.text = c.from-skip.ensures ∙ skipped c.args.at.text in
    read_then reveals _ _ 0 (c.args.until + 1) (KeepsFront 1) first second third (ok_fine (c.in_ok-read_part.was)) (g.met.D.Disk.free_taken c.args.disk.now) (λ x. front_none 1 x) c.read_part.ensures.reads
    (more_freely reveals _ 0 (c.args.until + 1) end (KeepsFront to) (KeepsFront 1) second third (λ x y keeps. front_less 1 to x y (omega (arith, skip)) keeps) (g.met.D.Disk.smaller_fits c.read_part.new.disk) (omega (arith, skip, c.if-len-eq0.false, c.if-len-until.false))
    c.in_ok-move_range.ensures.writes)

pub returns-clause-writes : goal.returns-clause-writes
returns-clause-writes g c =
    let reveals = g.D.Disk.reveals in
    let first = g.D.Disk.state c.args.disk.now in
    let second = g.D.Disk.state c.read_part.new.disk in
    let third = g.D.Disk.state c.move_range.new.disk in
    let to = c.args.at.text + c.from-skip.result in
    let end = to + (c.from-len.result - c.from-skip.result) in
    let skip : c.from-skip.result ≡ 1 - c.args.at.text = c.from-skip.ensures ∙ skipped c.args.at.text in
    read_then reveals _ _ 0 (c.args.until + 1) (KeepsFront 1) first second third (ok_fine (c.in_ok-read_part.was)) (g.met.D.Disk.free_taken c.args.disk.now) (λ x. front_none 1 x) c.read_part.ensures.reads
    (more_freely reveals _ 0 (c.args.until + 1) end (KeepsFront to) (KeepsFront 1) second third (λ x y keeps. front_less 1 to x y (omega (arith, skip)) keeps) (g.met.D.Disk.smaller_fits c.read_part.new.disk) (omega (arith, skip, c.if-len-eq0.false, c.if-len-until.false))
    c.in_ok-move_range.ensures.writes)
