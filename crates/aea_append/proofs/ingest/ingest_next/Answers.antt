use Rattle.std.proofs.Common.{◌≡◌, ⊎_elim, inl, inr, ℕ, ◌+◌, ◌*◌, ◌<◌, ◌≤◌, min, max, [], length, take, Some, Ok, refl, sym, ◌∙◌, ap, subst, arith}
use Rattle.std.proofs.lemmas.List.{length-take}
use Rattle.aea_disk.proofs.Frames.{writes_wider}
use Rattle.aea_shelf.proofs.Runs.{padded_none}
use Rattle.aea_catalog.specs.Names.{IsName}
use Rattle.aea_records.specs.Format.{nodes_for, limit_when}
use Rattle.aea_archive.specs.Blocks.{IsBlockIn}
use Rattle.aea_archive.specs.Cells.{IsBesides, ChangesArchive}
use Rattle.aea_append.specs.declared.frame.Head.{Head}
use Rattle.aea_append.specs.Taking.{room_left}
use Rattle.aea_append.specs.Puts.{IsCut}
use Rattle.aea_append.specs.Causes.{IsTaken, MayEnter, HasWantedRoom, next_end}
use Rattle.aea_append.specs.Frames.{IsHeadOf, IsFramed, HasFrameRoom}
use Rattle.aea_append.proofs.Rooms.{all_long}
use Rattle.aea_append.proofs.Takings.{counts_more, counts_then}
use Rattle.aea_append.proofs.Frames.{behind_head, head_not_end, head_not_cut, head_not_none, cut_not_end, bad_not_end, bad_not_cut, inside_not_end, inside_not_none}
use Rattle.aea_append.proofs.Ingesting.{nothing_written, leaves_same, may_as, framed_of, rose_before}
use Rattle.aea_append.proofs.Space.{frame_room}
use Rattle.aea_append.proofs.ingest.ingest_next.Goals as goal

pub returns-in-Ok-End-clause-writes : goal.returns-in-Ok-End-clause-writes
returns-in-Ok-End-clause-writes g c =
    nothing_written g.D.Disk.reveals _ _ _ c.args.ledger.now (g.D.Disk.state c.args.disk.now) (λ is. absurd (let e = is in cc))

pub returns-in-Ok-End-clause-refused_leaves : goal.returns-in-Ok-End-clause-refused_leaves
returns-in-Ok-End-clause-refused_leaves g c fine other revealed =
    leaves_same g.D.Disk.reveals revealed c.args.ledger.now (g.D.Disk.state c.args.disk.now) (c.requires.fixed revealed)

pub returns-in-Ok-End-clause-padded : goal.returns-in-Ok-End-clause-padded
returns-in-Ok-End-clause-padded g c fine revealed =
    padded_none c.args.ledger.now.shape (IsBlockIn c.args.ledger.now.shape c.args.ledger.now.lattice.n) (g.D.Disk.state c.args.disk.now).files

pub returns-in-Ok-End-clause-taken : goal.returns-in-Ok-End-clause-taken
returns-in-Ok-End-clause-taken g c =
    counts_more (g.S.Source.state c.args.source.now).left (g.S.Source.state c.read_head.new.source).left c.args.at.now c.read_head.new.at 265 (265 + room_left c.args.ledger.now) c.read_head.ensures.counted (omega arith)

pub returns-in-Ok-Cut-clause-writes : goal.returns-in-Ok-Cut-clause-writes
returns-in-Ok-Cut-clause-writes g c =
    nothing_written g.D.Disk.reveals _ _ _ c.args.ledger.now (g.D.Disk.state c.args.disk.now) (λ is. absurd (let e = is in cc))

pub returns-in-Ok-Cut-clause-refused_leaves : goal.returns-in-Ok-Cut-clause-refused_leaves
returns-in-Ok-Cut-clause-refused_leaves g c fine other revealed =
    leaves_same g.D.Disk.reveals revealed c.args.ledger.now (g.D.Disk.state c.args.disk.now) (c.requires.fixed revealed)

pub returns-in-Ok-Cut-clause-padded : goal.returns-in-Ok-Cut-clause-padded
returns-in-Ok-Cut-clause-padded g c fine revealed =
    padded_none c.args.ledger.now.shape (IsBlockIn c.args.ledger.now.shape c.args.ledger.now.lattice.n) (g.D.Disk.state c.args.disk.now).files

pub returns-in-Ok-Cut-clause-taken : goal.returns-in-Ok-Cut-clause-taken
returns-in-Ok-Cut-clause-taken g c =
    counts_more (g.S.Source.state c.args.source.now).left (g.S.Source.state c.read_head.new.source).left c.args.at.now c.read_head.new.at 265 (265 + room_left c.args.ledger.now) c.read_head.ensures.counted (omega arith)

pub returns-in-Ok-NoName-clause-writes : goal.returns-in-Ok-NoName-clause-writes
returns-in-Ok-NoName-clause-writes g c =
    nothing_written g.D.Disk.reveals _ _ _ c.args.ledger.now (g.D.Disk.state c.args.disk.now) (λ is. absurd (let e = is in cc))

pub returns-in-Ok-NoName-clause-refused_leaves : goal.returns-in-Ok-NoName-clause-refused_leaves
returns-in-Ok-NoName-clause-refused_leaves g c fine other revealed =
    leaves_same g.D.Disk.reveals revealed c.args.ledger.now (g.D.Disk.state c.args.disk.now) (c.requires.fixed revealed)

pub returns-in-Ok-NoName-clause-padded : goal.returns-in-Ok-NoName-clause-padded
returns-in-Ok-NoName-clause-padded g c fine revealed =
    padded_none c.args.ledger.now.shape (IsBlockIn c.args.ledger.now.shape c.args.ledger.now.lattice.n) (g.D.Disk.state c.args.disk.now).files

pub returns-in-Ok-NoName-clause-taken : goal.returns-in-Ok-NoName-clause-taken
returns-in-Ok-NoName-clause-taken g c =
    counts_more (g.S.Source.state c.args.source.now).left (g.S.Source.state c.read_head.new.source).left c.args.at.now c.read_head.new.at 265 (265 + room_left c.args.ledger.now) c.read_head.ensures.counted (omega arith)

pub returns-in-Err-clause-writes : goal.returns-in-Err-clause-writes
returns-in-Err-clause-writes g c =
    nothing_written g.D.Disk.reveals _ _ _ c.args.ledger.now (g.D.Disk.state c.args.disk.now) (λ is. absurd (let e = is in cc))

pub returns-in-Err-clause-refused_leaves : goal.returns-in-Err-clause-refused_leaves
returns-in-Err-clause-refused_leaves g c fine other revealed =
    leaves_same g.D.Disk.reveals revealed c.args.ledger.now (g.D.Disk.state c.args.disk.now) (c.requires.fixed revealed)

pub returns-in-Err-clause-padded : goal.returns-in-Err-clause-padded
returns-in-Err-clause-padded g c fine revealed =
    padded_none c.args.ledger.now.shape (IsBlockIn c.args.ledger.now.shape c.args.ledger.now.lattice.n) (g.D.Disk.state c.args.disk.now).files

pub returns-in-Err-clause-taken : goal.returns-in-Err-clause-taken
returns-in-Err-clause-taken g c =
    counts_more (g.S.Source.state c.args.source.now).left (g.S.Source.state c.read_head.new.source).left c.args.at.now c.read_head.new.at 265 (265 + room_left c.args.ledger.now) c.read_head.ensures.counted (omega arith)

pub returns-in-Ok-End-clause-within : goal.returns-in-Ok-End-clause-within
returns-in-Ok-End-clause-within g c stream is head =
    absurd (head_not_end stream (subst (λ (h : Head). IsHeadOf stream h c.read_head.new.buffer) c.in-Ok-End.field-0-is (c.in-Ok-End.ensures.revealed stream is)) head)

pub returns-in-Ok-End-clause-bad_name_refused : goal.returns-in-Ok-End-clause-bad_name_refused
returns-in-Ok-End-clause-bad_name_refused g c stream is bad =
    absurd (bad_not_end stream (subst (λ (h : Head). IsHeadOf stream h c.read_head.new.buffer) c.in-Ok-End.field-0-is (c.in-Ok-End.ensures.revealed stream is)) bad)

pub returns-in-Ok-End-clause-name_taken_refused : goal.returns-in-Ok-End-clause-name_taken_refused
returns-in-Ok-End-clause-name_taken_refused g c stream is head named taken =
    absurd (head_not_end stream (subst (λ (h : Head). IsHeadOf stream h c.read_head.new.buffer) c.in-Ok-End.field-0-is (c.in-Ok-End.ensures.revealed stream is)) head)

pub returns-in-Ok-End-clause-many_refused : goal.returns-in-Ok-End-clause-many_refused
returns-in-Ok-End-clause-many_refused g c stream is head named free many =
    absurd (head_not_end stream (subst (λ (h : Head). IsHeadOf stream h c.read_head.new.buffer) c.in-Ok-End.field-0-is (c.in-Ok-End.ensures.revealed stream is)) head)

pub returns-in-Ok-End-clause-head_refused : goal.returns-in-Ok-End-clause-head_refused
returns-in-Ok-End-clause-head_refused g c reveals stream is entry a damaged =
    absurd (head_not_end stream (subst (λ (h : Head). IsHeadOf stream h c.read_head.new.buffer) c.in-Ok-End.field-0-is (c.in-Ok-End.ensures.revealed stream is)) entry.head)

pub returns-in-Ok-End-clause-full_refused : goal.returns-in-Ok-End-clause-full_refused
returns-in-Ok-End-clause-full_refused g c stream is entry past =
    absurd (head_not_end stream (subst (λ (h : Head). IsHeadOf stream h c.read_head.new.buffer) c.in-Ok-End.field-0-is (c.in-Ok-End.ensures.revealed stream is)) entry.head)

pub returns-in-Ok-End-clause-complete : goal.returns-in-Ok-End-clause-complete
returns-in-Ok-End-clause-complete g c reveals stream is entry fits there intact disk source =
    absurd (head_not_end stream (subst (λ (h : Head). IsHeadOf stream h c.read_head.new.buffer) c.in-Ok-End.field-0-is (c.in-Ok-End.ensures.revealed stream is)) entry.head)

pub returns-in-Ok-End-clause-bad_stream_refused : goal.returns-in-Ok-End-clause-bad_stream_refused
returns-in-Ok-End-clause-bad_stream_refused g c stream is inside =
    absurd (inside_not_end c.args.ledger.now stream (subst (λ (h : Head). IsHeadOf stream h c.read_head.new.buffer) c.in-Ok-End.field-0-is (c.in-Ok-End.ensures.revealed stream is)) inside)

pub returns-in-Ok-Cut-clause-within : goal.returns-in-Ok-Cut-clause-within
returns-in-Ok-Cut-clause-within g c stream is head =
    absurd (head_not_cut stream (subst (λ (h : Head). IsHeadOf stream h c.read_head.new.buffer) c.in-Ok-Cut.field-0-is (c.in-Ok-Cut.ensures.revealed stream is)) head)

pub returns-in-Ok-Cut-clause-bad_name_refused : goal.returns-in-Ok-Cut-clause-bad_name_refused
returns-in-Ok-Cut-clause-bad_name_refused g c stream is bad =
    absurd (bad_not_cut stream (subst (λ (h : Head). IsHeadOf stream h c.read_head.new.buffer) c.in-Ok-Cut.field-0-is (c.in-Ok-Cut.ensures.revealed stream is)) bad)

pub returns-in-Ok-Cut-clause-name_taken_refused : goal.returns-in-Ok-Cut-clause-name_taken_refused
returns-in-Ok-Cut-clause-name_taken_refused g c stream is head named taken =
    absurd (head_not_cut stream (subst (λ (h : Head). IsHeadOf stream h c.read_head.new.buffer) c.in-Ok-Cut.field-0-is (c.in-Ok-Cut.ensures.revealed stream is)) head)

pub returns-in-Ok-Cut-clause-many_refused : goal.returns-in-Ok-Cut-clause-many_refused
returns-in-Ok-Cut-clause-many_refused g c stream is head named free many =
    absurd (head_not_cut stream (subst (λ (h : Head). IsHeadOf stream h c.read_head.new.buffer) c.in-Ok-Cut.field-0-is (c.in-Ok-Cut.ensures.revealed stream is)) head)

pub returns-in-Ok-Cut-clause-head_refused : goal.returns-in-Ok-Cut-clause-head_refused
returns-in-Ok-Cut-clause-head_refused g c reveals stream is entry a damaged =
    absurd (head_not_cut stream (subst (λ (h : Head). IsHeadOf stream h c.read_head.new.buffer) c.in-Ok-Cut.field-0-is (c.in-Ok-Cut.ensures.revealed stream is)) entry.head)

pub returns-in-Ok-Cut-clause-full_refused : goal.returns-in-Ok-Cut-clause-full_refused
returns-in-Ok-Cut-clause-full_refused g c stream is entry past =
    absurd (head_not_cut stream (subst (λ (h : Head). IsHeadOf stream h c.read_head.new.buffer) c.in-Ok-Cut.field-0-is (c.in-Ok-Cut.ensures.revealed stream is)) entry.head)

pub returns-in-Ok-Cut-clause-complete : goal.returns-in-Ok-Cut-clause-complete
returns-in-Ok-Cut-clause-complete g c reveals stream is entry fits there intact disk source =
    absurd (head_not_cut stream (subst (λ (h : Head). IsHeadOf stream h c.read_head.new.buffer) c.in-Ok-Cut.field-0-is (c.in-Ok-Cut.ensures.revealed stream is)) entry.head)

pub returns-in-Ok-NoName-clause-within : goal.returns-in-Ok-NoName-clause-within
returns-in-Ok-NoName-clause-within g c stream is head =
    absurd (head_not_none stream (subst (λ (h : Head). IsHeadOf stream h c.read_head.new.buffer) c.in-Ok-NoName.field-0-is (c.in-Ok-NoName.ensures.revealed stream is)) head)

pub returns-in-Ok-NoName-clause-name_taken_refused : goal.returns-in-Ok-NoName-clause-name_taken_refused
returns-in-Ok-NoName-clause-name_taken_refused g c stream is head named taken =
    absurd (head_not_none stream (subst (λ (h : Head). IsHeadOf stream h c.read_head.new.buffer) c.in-Ok-NoName.field-0-is (c.in-Ok-NoName.ensures.revealed stream is)) head)

pub returns-in-Ok-NoName-clause-many_refused : goal.returns-in-Ok-NoName-clause-many_refused
returns-in-Ok-NoName-clause-many_refused g c stream is head named free many =
    absurd (head_not_none stream (subst (λ (h : Head). IsHeadOf stream h c.read_head.new.buffer) c.in-Ok-NoName.field-0-is (c.in-Ok-NoName.ensures.revealed stream is)) head)

pub returns-in-Ok-NoName-clause-head_refused : goal.returns-in-Ok-NoName-clause-head_refused
returns-in-Ok-NoName-clause-head_refused g c reveals stream is entry a damaged =
    absurd (head_not_none stream (subst (λ (h : Head). IsHeadOf stream h c.read_head.new.buffer) c.in-Ok-NoName.field-0-is (c.in-Ok-NoName.ensures.revealed stream is)) entry.head)

pub returns-in-Ok-NoName-clause-full_refused : goal.returns-in-Ok-NoName-clause-full_refused
returns-in-Ok-NoName-clause-full_refused g c stream is entry past =
    absurd (head_not_none stream (subst (λ (h : Head). IsHeadOf stream h c.read_head.new.buffer) c.in-Ok-NoName.field-0-is (c.in-Ok-NoName.ensures.revealed stream is)) entry.head)

pub returns-in-Ok-NoName-clause-complete : goal.returns-in-Ok-NoName-clause-complete
returns-in-Ok-NoName-clause-complete g c reveals stream is entry fits there intact disk source =
    absurd (head_not_none stream (subst (λ (h : Head). IsHeadOf stream h c.read_head.new.buffer) c.in-Ok-NoName.field-0-is (c.in-Ok-NoName.ensures.revealed stream is)) entry.head)

pub returns-in-Ok-NoName-clause-bad_stream_refused : goal.returns-in-Ok-NoName-clause-bad_stream_refused
returns-in-Ok-NoName-clause-bad_stream_refused g c stream is inside =
    absurd (inside_not_none c.args.ledger.now stream (subst (λ (h : Head). IsHeadOf stream h c.read_head.new.buffer) c.in-Ok-NoName.field-0-is (c.in-Ok-NoName.ensures.revealed stream is)) inside)

pub returns-in-Ok-Cut-clause-ends : goal.returns-in-Ok-Cut-clause-ends
returns-in-Ok-Cut-clause-ends g c is =
    absurd (cut_not_end [] refl (subst (λ (h : Head). IsHeadOf [] h c.read_head.new.buffer) c.in-Ok-Cut.field-0-is (c.in-Ok-Cut.ensures.revealed [] is)))

pub returns-in-Ok-NoName-clause-ends : goal.returns-in-Ok-NoName-clause-ends
returns-in-Ok-NoName-clause-ends g c is =
    absurd (let revealed = (subst (λ (h : Head). IsHeadOf [] h c.read_head.new.buffer) c.in-Ok-NoName.field-0-is (c.in-Ok-NoName.ensures.revealed [] is)) in let there = revealed.there in omega (arith, there))

pub returns-in-Ok-NoName-clause-bad_name : goal.returns-in-Ok-NoName-clause-bad_name
returns-in-Ok-NoName-clause-bad_name g c stream is bad =
    inl (subst (λ (h : Head). IsHeadOf stream h c.read_head.new.buffer) c.in-Ok-NoName.field-0-is (c.in-Ok-NoName.ensures.revealed stream is))

pub returns-in-Ok-Cut-clause-bad_stream_revealed : goal.returns-in-Ok-Cut-clause-bad_stream_revealed
returns-in-Ok-Cut-clause-bad_stream_revealed g c n stream is bad =
    inl (subst (λ (h : Head). IsHeadOf stream h c.read_head.new.buffer) c.in-Ok-Cut.field-0-is (c.in-Ok-Cut.ensures.revealed stream is))

pub returns-in-Ok-Cut-clause-bad_stream_refused : goal.returns-in-Ok-Cut-clause-bad_stream_refused
returns-in-Ok-Cut-clause-bad_stream_refused g c stream is inside =
    inl refl

pub returns-in-Err-clause-within : goal.returns-in-Err-clause-within
returns-in-Err-clause-within g c stream is head =
    (let w = c.read_head.ensures.within stream is head.name in omega (arith, w))

pub returns-in-Ok-Whole-clause-taken : goal.returns-in-Ok-Whole-clause-taken
returns-in-Ok-Whole-clause-taken g c =
    counts_more (g.S.Source.state c.args.source.now).left (g.S.Source.state c.store_frame.new.source).left c.args.at.now c.store_frame.new.at (265 + min c.in-Ok-Whole.size (room_left c.args.ledger.now)) (265 + room_left c.args.ledger.now) (counts_then (g.S.Source.state c.args.source.now).left (g.S.Source.state c.read_head.new.source).left (g.S.Source.state c.store_frame.new.source).left c.args.at.now c.read_head.new.at c.store_frame.new.at 265 (min c.in-Ok-Whole.size (room_left c.args.ledger.now)) c.read_head.ensures.counted c.store_frame.ensures.counted) (omega arith)

pub returns-in-Ok-Whole-clause-within : goal.returns-in-Ok-Whole-clause-within
returns-in-Ok-Whole-clause-within g c stream is head =
    let w = c.in-Ok-Whole.ensures.whole c.in-Ok-Whole.long c.in-Ok-Whole.size (ap Ok c.in-Ok-Whole.field-0-is) in
    let t = (subst (λ (h : Head). IsHeadOf stream h c.read_head.new.buffer) c.in-Ok-Whole.field-0-is (c.in-Ok-Whole.ensures.revealed stream is)) in
    let n = c.store_frame.ensures.counted in
    let m = n.counted in
    let k = n.most in
    omega (arith, w.4, m, k, t.2, t.3)

pub returns-in-Ok-Whole-clause-exact : goal.returns-in-Ok-Whole-clause-exact
returns-in-Ok-Whole-clause-exact g c name stored r =
    let w = c.in-Ok-Whole.ensures.whole c.in-Ok-Whole.long c.in-Ok-Whole.size (ap Ok c.in-Ok-Whole.field-0-is) in
    let s = c.store_frame.ensures.stored name stored r in
    let e = c.store_frame.ensures.exact name stored r in
    omega (arith, e, w.4, w.2, ap length s.0)

pub returns-in-Ok-Whole-clause-by_head : goal.returns-in-Ok-Whole-clause-by_head
returns-in-Ok-Whole-clause-by_head g c stream is r =
    let w = c.in-Ok-Whole.ensures.whole c.in-Ok-Whole.long c.in-Ok-Whole.size (ap Ok c.in-Ok-Whole.field-0-is) in
    let t = (subst (λ (h : Head). IsHeadOf stream h c.read_head.new.buffer) c.in-Ok-Whole.field-0-is (c.in-Ok-Whole.ensures.revealed stream is)) in
    let b = c.store_frame.ensures.by_head r in
    omega (arith, b.1, w.4, t.3)

pub returns-in-Ok-Whole-clause-stored : goal.returns-in-Ok-Whole-clause-stored
returns-in-Ok-Whole-clause-stored g c name stored r =
    let w = c.in-Ok-Whole.ensures.whole c.in-Ok-Whole.long c.in-Ok-Whole.size (ap Ok c.in-Ok-Whole.field-0-is) in
    let s = c.store_frame.ensures.stored name stored r in
    let kept = s.1 in
    (kept.0, kept.1.name_is ∙ sym s.0, framed_of (g.S.Source.state c.args.source.now).left (g.S.Source.state c.read_head.new.source).left (g.S.Source.state c.store_frame.new.source).left (take c.in-Ok-Whole.long c.read_head.new.buffer) c.in-Ok-Whole.size kept.0 w.3 kept.1, kept.2)

pub returns-in-Ok-Whole-clause-end : goal.returns-in-Ok-Whole-clause-end
returns-in-Ok-Whole-clause-end g c r =
    absurd (c.store_frame.ensures.kind r)

pub returns-in-Ok-Whole-clause-ends : goal.returns-in-Ok-Whole-clause-ends
returns-in-Ok-Whole-clause-ends g c is =
    absurd (let revealed = (subst (λ (h : Head). IsHeadOf [] h c.read_head.new.buffer) c.in-Ok-Whole.field-0-is (c.in-Ok-Whole.ensures.revealed [] is)) in head_not_end [] refl revealed.0)

pub returns-in-Ok-Whole-clause-bad_name : goal.returns-in-Ok-Whole-clause-bad_name
returns-in-Ok-Whole-clause-bad_name g c stream is r =
    let t = (subst (λ (h : Head). IsHeadOf stream h c.read_head.new.buffer) c.in-Ok-Whole.field-0-is (c.in-Ok-Whole.ensures.revealed stream is)) in
    inr (t.0, λ named. c.store_frame.ensures.bad_name.0 r (subst IsName (sym t.1) named))

pub returns-in-Ok-Whole-clause-bad_name_refused : goal.returns-in-Ok-Whole-clause-bad_name_refused
returns-in-Ok-Whole-clause-bad_name_refused g c stream is bad =
    let t = (subst (λ (h : Head). IsHeadOf stream h c.read_head.new.buffer) c.in-Ok-Whole.field-0-is (c.in-Ok-Whole.ensures.revealed stream is)) in
    ⊎_elim (λ none. absurd (head_not_none stream none t.0)) (λ head. inl (c.store_frame.ensures.bad_name.1 (λ named. head.1 (subst IsName t.1 named)))) bad

pub returns-in-Ok-Whole-clause-name_taken : goal.returns-in-Ok-Whole-clause-name_taken
returns-in-Ok-Whole-clause-name_taken g c stream is r =
    let t = (subst (λ (h : Head). IsHeadOf stream h c.read_head.new.buffer) c.in-Ok-Whole.field-0-is (c.in-Ok-Whole.ensures.revealed stream is)) in
    let f = c.store_frame.ensures.name_taken.0 r in
    (t.0, subst IsName t.1 f.0, subst (IsTaken c.args.ledger.now) t.1 f.1)

pub returns-in-Ok-Whole-clause-name_taken_refused : goal.returns-in-Ok-Whole-clause-name_taken_refused
returns-in-Ok-Whole-clause-name_taken_refused g c stream is head named taken =
    let t = (subst (λ (h : Head). IsHeadOf stream h c.read_head.new.buffer) c.in-Ok-Whole.field-0-is (c.in-Ok-Whole.ensures.revealed stream is)) in
    inl (c.store_frame.ensures.name_taken.1 (subst IsName (sym t.1) named, subst (IsTaken c.args.ledger.now) (sym t.1) taken))

pub returns-in-Ok-Whole-clause-many : goal.returns-in-Ok-Whole-clause-many
returns-in-Ok-Whole-clause-many g c r =
    let f = c.store_frame.ensures.many.0 r in
    (f.2, λ stream is. (let t = (subst (λ (h : Head). IsHeadOf stream h c.read_head.new.buffer) c.in-Ok-Whole.field-0-is (c.in-Ok-Whole.ensures.revealed stream is)) in (t.0, subst IsName t.1 f.0, λ taken. f.1 (subst (IsTaken c.args.ledger.now) (sym t.1) taken))))

pub returns-in-Ok-Whole-clause-many_refused : goal.returns-in-Ok-Whole-clause-many_refused
returns-in-Ok-Whole-clause-many_refused g c stream is head named free many =
    let t = (subst (λ (h : Head). IsHeadOf stream h c.read_head.new.buffer) c.in-Ok-Whole.field-0-is (c.in-Ok-Whole.ensures.revealed stream is)) in
    inl (c.store_frame.ensures.many.1 (subst IsName (sym t.1) named, (λ taken. free (subst (IsTaken c.args.ledger.now) t.1 taken)), many))

pub returns-in-Ok-Whole-clause-head_refused : goal.returns-in-Ok-Whole-clause-head_refused
returns-in-Ok-Whole-clause-head_refused g c reveals stream is entry a damaged =
    let t = (subst (λ (h : Head). IsHeadOf stream h c.read_head.new.buffer) c.in-Ok-Whole.field-0-is (c.in-Ok-Whole.ensures.revealed stream is)) in
    inr (c.store_frame.ensures.head_refused reveals (subst (MayEnter c.args.ledger.now) (sym t.1) entry.enters) a damaged)

pub returns-in-Ok-Whole-clause-full : goal.returns-in-Ok-Whole-clause-full
returns-in-Ok-Whole-clause-full g c nodes r =
    let f = c.store_frame.ensures.full nodes r in
    (f.0, f.3)

pub returns-in-Ok-Whole-clause-full_revealed : goal.returns-in-Ok-Whole-clause-full_revealed
returns-in-Ok-Whole-clause-full_revealed g c nodes stream is r =
    let t = (subst (λ (h : Head). IsHeadOf stream h c.read_head.new.buffer) c.in-Ok-Whole.field-0-is (c.in-Ok-Whole.ensures.revealed stream is)) in
    let f = c.store_frame.ensures.full nodes r in
    (record { head = t.0; enters = subst (MayEnter c.args.ledger.now) t.1 f.1 }, subst (λ (k : ℕ). limit_when c.args.ledger.now.raised < c.args.ledger.now.lattice.n + nodes_for c.args.ledger.now.shape k) t.2 f.2)

pub returns-in-Ok-Whole-clause-full_refused : goal.returns-in-Ok-Whole-clause-full_refused
returns-in-Ok-Whole-clause-full_refused g c stream is entry past =
    let t = (subst (λ (h : Head). IsHeadOf stream h c.read_head.new.buffer) c.in-Ok-Whole.field-0-is (c.in-Ok-Whole.ensures.revealed stream is)) in
    ⊎_elim (λ full. inl full) (λ head. inr (inr head)) (c.store_frame.ensures.full_refused (subst (MayEnter c.args.ledger.now) (sym t.1) entry.enters) (subst (λ (k : ℕ). limit_when c.args.ledger.now.raised < c.args.ledger.now.lattice.n + nodes_for c.args.ledger.now.shape k) (sym t.2) past))

pub returns-in-Ok-Whole-clause-bad_stream : goal.returns-in-Ok-Whole-clause-bad_stream
returns-in-Ok-Whole-clause-bad_stream g c n r =
    let f = c.store_frame.ensures.bad_stream n r in
    let ended = f.3 in
    (f.0, ended.2)

pub returns-in-Ok-Whole-clause-bad_stream_revealed : goal.returns-in-Ok-Whole-clause-bad_stream_revealed
returns-in-Ok-Whole-clause-bad_stream_revealed g c n stream is r =
    let w = c.in-Ok-Whole.ensures.whole c.in-Ok-Whole.long c.in-Ok-Whole.size (ap Ok c.in-Ok-Whole.field-0-is) in
    let t = (subst (λ (h : Head). IsHeadOf stream h c.read_head.new.buffer) c.in-Ok-Whole.field-0-is (c.in-Ok-Whole.ensures.revealed stream is)) in
    let b = behind_head (g.S.Source.state c.args.source.now).left (g.S.Source.state c.read_head.new.source).left stream (take c.in-Ok-Whole.long c.read_head.new.buffer) c.in-Ok-Whole.size is w.3 in
    let f = c.store_frame.ensures.bad_stream n r in
    let ended = f.3 in
    let same : c.in-Ok-Whole.size ≡ ended.0 = (let e = ended.1 in cc) in
    let long = all_long (g.S.Source.state c.read_head.new.source).left b.0 ended.3.0 (g.S.Source.state c.store_frame.new.source).left b.1 ended.3.1 ended.2 in
    inr (record { head = t.0; enters = subst (MayEnter c.args.ledger.now) t.1 f.1 }, subst (λ (k : ℕ). c.args.ledger.now.lattice.n + nodes_for c.args.ledger.now.shape k ≤ limit_when c.args.ledger.now.raised) t.2 f.2, omega (arith, b.2, w.2, long, same, ended.3.2, t.2, t.3))

pub returns-in-Ok-Whole-clause-bad_stream_refused : goal.returns-in-Ok-Whole-clause-bad_stream_refused
returns-in-Ok-Whole-clause-bad_stream_refused g c stream is inside =
    let w = c.in-Ok-Whole.ensures.whole c.in-Ok-Whole.long c.in-Ok-Whole.size (ap Ok c.in-Ok-Whole.field-0-is) in
    let t = (subst (λ (h : Head). IsHeadOf stream h c.read_head.new.buffer) c.in-Ok-Whole.field-0-is (c.in-Ok-Whole.ensures.revealed stream is)) in
    let b = behind_head (g.S.Source.state c.args.source.now).left (g.S.Source.state c.read_head.new.source).left stream (take c.in-Ok-Whole.long c.read_head.new.buffer) c.in-Ok-Whole.size is w.3 in
    ⊎_elim (λ cut. absurd (head_not_cut stream cut t.0))
    (λ more. (let entry = more.0 in c.store_frame.ensures.bad_stream_refused b.0 b.1 (subst (MayEnter c.args.ledger.now) (sym t.1) entry.enters) (subst (λ (k : ℕ). c.args.ledger.now.lattice.n + nodes_for c.args.ledger.now.shape k ≤ limit_when c.args.ledger.now.raised) (sym t.2) more.1) (omega (arith, b.2, w.2, t.2, t.3, more.2)))) inside

pub returns-in-Ok-Whole-clause-complete : goal.returns-in-Ok-Whole-clause-complete
returns-in-Ok-Whole-clause-complete g c reveals stream is entry fits there intact disk source =
    let w = c.in-Ok-Whole.ensures.whole c.in-Ok-Whole.long c.in-Ok-Whole.size (ap Ok c.in-Ok-Whole.field-0-is) in
    let t = (subst (λ (h : Head). IsHeadOf stream h c.read_head.new.buffer) c.in-Ok-Whole.field-0-is (c.in-Ok-Whole.ensures.revealed stream is)) in
    let b = behind_head (g.S.Source.state c.args.source.now).left (g.S.Source.state c.read_head.new.source).left stream (take c.in-Ok-Whole.long c.read_head.new.buffer) c.in-Ok-Whole.size is w.3 in
    c.store_frame.ensures.complete reveals b.0 b.1 (subst (MayEnter c.args.ledger.now) (sym t.1) entry.enters) (omega (arith, b.2, w.2, t.2, t.3, there)) intact (subst (λ (k : ℕ). c.args.ledger.now.lattice.n + nodes_for c.args.ledger.now.shape k ≤ limit_when c.args.ledger.now.raised) (sym t.2) fits) disk
    (λ rose. source (rose_before (g.S.Source.state c.args.source.now).faults (g.S.Source.state c.read_head.new.source).faults (g.S.Source.state c.store_frame.new.source).faults c.read_head.ensures.cause.kept rose))

pub returns-in-Ok-Whole-clause-stopped : goal.returns-in-Ok-Whole-clause-stopped
returns-in-Ok-Whole-clause-stopped g c is revealed =
    let w = c.in-Ok-Whole.ensures.whole c.in-Ok-Whole.long c.in-Ok-Whole.size (ap Ok c.in-Ok-Whole.field-0-is) in
    may_as c.args.ledger.now (IsCut (take c.in-Ok-Whole.long c.read_head.new.buffer) c.in-Ok-Whole.size (g.S.Source.state c.read_head.new.source).left (g.S.Source.state c.store_frame.new.source).left) (IsFramed (g.S.Source.state c.args.source.now).left (g.S.Source.state c.store_frame.new.source).left) (g.D.Disk.state c.args.disk.now) (g.D.Disk.state c.store_frame.new.disk) (λ o cut. framed_of (g.S.Source.state c.args.source.now).left (g.S.Source.state c.read_head.new.source).left (g.S.Source.state c.store_frame.new.source).left (take c.in-Ok-Whole.long c.read_head.new.buffer) c.in-Ok-Whole.size o w.3 cut) (c.store_frame.ensures.stopped is revealed)

pub returns-in-Ok-Whole-clause-writes : goal.returns-in-Ok-Whole-clause-writes
returns-in-Ok-Whole-clause-writes g c =
    let w = c.in-Ok-Whole.ensures.whole c.in-Ok-Whole.long c.in-Ok-Whole.size (ap Ok c.in-Ok-Whole.field-0-is) in
    writes_wider g.D.Disk.reveals _ (HasWantedRoom c.args.ledger.now (take c.in-Ok-Whole.long c.read_head.new.buffer) (Some c.in-Ok-Whole.size) (g.S.Source.state c.read_head.new.source).left (g.S.Source.state c.store_frame.new.source).left (g.D.Disk.state c.args.disk.now)) _ (HasFrameRoom c.args.ledger.now (g.S.Source.state c.args.source.now).left (g.D.Disk.state c.args.disk.now)) _ (ChangesArchive c.args.ledger.now.shape (limit_when c.args.ledger.now.raised) (IsBlockIn c.args.ledger.now.shape c.args.ledger.now.lattice.n) (IsBesides c.args.ledger.now.shape)) (ChangesArchive c.args.ledger.now.shape (limit_when c.args.ledger.now.raised) (IsBlockIn c.args.ledger.now.shape c.args.ledger.now.lattice.n) (IsBesides c.args.ledger.now.shape)) (g.D.Disk.state c.args.disk.now) (g.D.Disk.state c.store_frame.new.disk) (λ d e step. step) (λ _ is. is) (λ _ room. frame_room c.args.ledger.now (g.S.Source.state c.args.source.now).left (g.S.Source.state c.read_head.new.source).left (g.S.Source.state c.store_frame.new.source).left (take c.in-Ok-Whole.long c.read_head.new.buffer) c.in-Ok-Whole.size (g.D.Disk.state c.args.disk.now) w.3 room) c.store_frame.ensures.writes

pub returns-in-Ok-Whole-clause-ledger : goal.returns-in-Ok-Whole-clause-ledger
returns-in-Ok-Whole-clause-ledger g c name stored r revealed =
    let s = c.store_frame.ensures.stored name stored r in
    subst (λ (l : ℕ). length ((g.D.Disk.state c.store_frame.new.disk).files 0) ≤ max (length ((g.D.Disk.state c.args.disk.now).files 0)) (next_end c.args.ledger.now.end l (stored.nodes * (1 + c.args.ledger.now.shape.alpha)) + 1)) (ap length (sym s.0)) (c.store_frame.ensures.ledger name stored r revealed)

pub returns-in-Ok-Whole-clause-source_kept : goal.returns-in-Ok-Whole-clause-source_kept
returns-in-Ok-Whole-clause-source_kept g c =
    omega (arith, c.read_head.ensures.cause.kept, c.store_frame.ensures.source_kept)

pub returns-in-Ok-Whole-clause-read_cause : goal.returns-in-Ok-Whole-clause-read_cause
returns-in-Ok-Whole-clause-read_cause g c is =
    rose_before (g.S.Source.state c.args.source.now).faults (g.S.Source.state c.read_head.new.source).faults (g.S.Source.state c.store_frame.new.source).faults c.read_head.ensures.cause.kept (c.store_frame.ensures.read_cause is)

pub returns-in-Ok-Whole-clause-head_revealed : goal.returns-in-Ok-Whole-clause-head_revealed
returns-in-Ok-Whole-clause-head_revealed g c b stream is r =
    let t = (subst (λ (h : Head). IsHeadOf stream h c.read_head.new.buffer) c.in-Ok-Whole.field-0-is (c.in-Ok-Whole.ensures.revealed stream is)) in
    record { head = t.0; enters = subst (MayEnter c.args.ledger.now) t.1 (c.store_frame.ensures.head_enters b r) }

pub slice_bounds-buffer-end : goal.slice_bounds-buffer-end
slice_bounds-buffer-end g c =
    let w = c.in-Ok-Whole.ensures.whole c.in-Ok-Whole.long c.in-Ok-Whole.size (ap Ok c.in-Ok-Whole.field-0-is) in
    omega (arith, w.2, length-take c.in-Ok-Whole.long c.read_head.new.buffer)

pub slice_bounds-store_frame-end : goal.slice_bounds-store_frame-end
slice_bounds-store_frame-end g c =
    let w = c.in-Ok-Whole.ensures.whole c.in-Ok-Whole.long c.in-Ok-Whole.size (ap Ok c.in-Ok-Whole.field-0-is) in
    sym w.2

-- a read fails only before all of the frame was taken
pub returns-in-Err-clause-short : goal.returns-in-Err-clause-short
returns-in-Err-clause-short g c stream is head r =
    (let short = c.in-Err.ensures.short stream is head.name in omega (arith, short))

pub returns-in-Ok-Whole-clause-short : goal.returns-in-Ok-Whole-clause-short
returns-in-Ok-Whole-clause-short g c stream is head r =
    let w = c.in-Ok-Whole.ensures.whole c.in-Ok-Whole.long c.in-Ok-Whole.size (ap Ok c.in-Ok-Whole.field-0-is) in
    let t = (subst (λ (h : Head). IsHeadOf stream h c.read_head.new.buffer) c.in-Ok-Whole.field-0-is (c.in-Ok-Whole.ensures.revealed stream is)) in
    let short = c.store_frame.ensures.short r in
    omega (arith, w.4, short, t.2, t.3)

-- a length that is none of a name is all that is read
pub returns-in-Ok-NoName-clause-by_name : goal.returns-in-Ok-NoName-clause-by_name
returns-in-Ok-NoName-clause-by_name g c stream is r =
    let none = (subst (λ (h : Head). IsHeadOf stream h c.read_head.new.buffer) c.in-Ok-NoName.field-0-is (c.in-Ok-NoName.ensures.revealed stream is)) in
    ((λ bad. c.in-Ok-NoName.ensures.no_name (ap Ok c.in-Ok-NoName.field-0-is)), (λ head. absurd (head_not_none stream none head)))

pub returns-in-Ok-Whole-clause-by_name : goal.returns-in-Ok-Whole-clause-by_name
returns-in-Ok-Whole-clause-by_name g c stream is r =
    let w = c.in-Ok-Whole.ensures.whole c.in-Ok-Whole.long c.in-Ok-Whole.size (ap Ok c.in-Ok-Whole.field-0-is) in
    let t = (subst (λ (h : Head). IsHeadOf stream h c.read_head.new.buffer) c.in-Ok-Whole.field-0-is (c.in-Ok-Whole.ensures.revealed stream is)) in
    let same = c.store_frame.ensures.early_takes (inl r) in
    ((λ bad. absurd (head_not_none stream bad t.0)), (λ head. omega (arith, same.1, w.4, t.3)))

-- the end of the stream, and a refusal before the disk is touched, leave the heads that are kept
pub returns-in-Ok-Whole-clause-still : goal.returns-in-Ok-Whole-clause-still
returns-in-Ok-Whole-clause-still g c is = ⊎_elim (λ early. c.store_frame.ensures.still early) (λ end. absurd (c.store_frame.ensures.kind end)) is
