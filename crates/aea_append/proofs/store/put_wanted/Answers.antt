use Rattle.std.proofs.Common.{◌≡◌, inl, inr, ℕ, ◌+◌, ◌*◌, Err, [], ◌∷◌, ◌++◌, List, length, refl, sym, ◌∙◌, ap, subst, arith}
use Rattle.aea_lattice.specs.declared.grid.Lattice.{Lattice}
use Rattle.std.specs.List.{sum_by}
use Rattle.aea_disk.specs.Files.{Files}
use Rattle.aea_disk.proofs.Frames.{writes_as}
use Rattle.aea_shelf.proofs.Cells.{keeps_intact}
use Rattle.aea_shelf.proofs.Runs.{padded_both}
use Rattle.aea_records.specs.Format.{Stored, Record, Object, nodes_for, limit_when, body, entry}
use Rattle.aea_ledger.specs.Next.{next_stored}
use Rattle.aea_ledger.specs.Stops.{committed}
use Rattle.aea_archive.specs.Blocks.{IsBlockIn}
use Rattle.aea_archive.specs.Cells.{AreAtHome, FitsRows, IsNoSite}
use Rattle.aea_archive.proofs.Cells.{fixed_kept}
use Rattle.aea_append.proofs.Faults.{ok_no_fault, met_fault}
use Rattle.aea_disk.proofs.Moments.{during_then_kept}
use Rattle.aea_archive.specs.Next.{NewObject, object_blocks}
use Rattle.aea_append.specs.Taking.{room_left}
use Rattle.aea_append.specs.Puts.{AreBlocksWide}
use Rattle.aea_records.specs.TableLaws.{AreBytes}
use Rattle.aea_ledger.specs.Values.{HasRecords}
use Rattle.aea_append.specs.declared.fault.PutFault.TheVariants.{DiskFault, HeadDamaged, Full}
use Rattle.aea_append.proofs.Wanted.{wanted_of, not_both}
use Rattle.aea_append.proofs.Faults.{ok_not_over, read_not_over}
use Rattle.aea_append.proofs.Rooms.{not_less}
use Rattle.aea_append.proofs.Committed.{taken_with, record_end, commits}
use Rattle.aea_append.proofs.Leaving.{one_of, cells_wider, stores_none, leaves_ledger, stopped_before, adds_put, its_later, cells_stay, padded_commit}
use Rattle.aea_append.proofs.Storing.{next_woven, more_where, added_of, woven_to, next_of, more_of, honest_of, digests_to}
use Rattle.aea_append.proofs.Kept.{kept_after}
use Rattle.aea_append.proofs.Space.{none_damaged}
use Rattle.aea_append.proofs.store.put_wanted.Goals as goal

pub returns-in-Err-DiskFault-clause-writes : goal.returns-in-Err-DiskFault-clause-writes
returns-in-Err-DiskFault-clause-writes g c =
    writes_as g.D.Disk.reveals _ _ (c.weave_object.result ≡ Err DiskFault) _ _ _ _ (λ is. c.in-Err-DiskFault.is ∙ ap Err c.in-Err-DiskFault.field-0-is) (λ is. cc) (cells_wider g.D.Disk.reveals (c.weave_object.result ≡ Err DiskFault) c.args.ledger.now c.args.name.now c.args.want _ _ _ _ c.weave_object.ensures.writes)

pub returns-in-Err-HeadDamaged-clause-writes : goal.returns-in-Err-HeadDamaged-clause-writes
returns-in-Err-HeadDamaged-clause-writes g c =
    writes_as g.D.Disk.reveals _ _ (c.weave_object.result ≡ Err DiskFault) _ _ _ _ (λ is. absurd (let e = is in cc)) (λ is. absurd (let e = met_fault c.in-Err-HeadDamaged.is c.in-Err-HeadDamaged.field-0-is is in cc)) (cells_wider g.D.Disk.reveals (c.weave_object.result ≡ Err DiskFault) c.args.ledger.now c.args.name.now c.args.want _ _ _ _ c.weave_object.ensures.writes)

pub returns-in-Err-Full-clause-writes : goal.returns-in-Err-Full-clause-writes
returns-in-Err-Full-clause-writes g c =
    writes_as g.D.Disk.reveals _ _ (c.weave_object.result ≡ Err DiskFault) _ _ _ _ (λ is. absurd (let e = is in cc)) (λ is. absurd (let e = met_fault c.in-Err-Full.is c.in-Err-Full.field-0-is is in cc)) (cells_wider g.D.Disk.reveals (c.weave_object.result ≡ Err DiskFault) c.args.ledger.now c.args.name.now c.args.want _ _ _ _ c.weave_object.ensures.writes)

pub returns-in-Err-ReadFault-clause-writes : goal.returns-in-Err-ReadFault-clause-writes
returns-in-Err-ReadFault-clause-writes g c =
    writes_as g.D.Disk.reveals _ _ (c.weave_object.result ≡ Err DiskFault) _ _ _ _ (λ is. absurd (let e = is in cc)) (λ is. absurd (let e = met_fault c.in-Err-ReadFault.is c.in-Err-ReadFault.field-0-is is in cc)) (cells_wider g.D.Disk.reveals (c.weave_object.result ≡ Err DiskFault) c.args.ledger.now c.args.name.now c.args.want _ _ _ _ c.weave_object.ensures.writes)

pub returns-in-Err-NoMemory-clause-writes : goal.returns-in-Err-NoMemory-clause-writes
returns-in-Err-NoMemory-clause-writes g c =
    writes_as g.D.Disk.reveals _ _ (c.weave_object.result ≡ Err DiskFault) _ _ _ _ (λ is. absurd (let e = is in cc)) (λ is. absurd (let e = met_fault c.in-Err-NoMemory.is c.in-Err-NoMemory.field-0-is is in cc)) (cells_wider g.D.Disk.reveals (c.weave_object.result ≡ Err DiskFault) c.args.ledger.now c.args.name.now c.args.want _ _ _ _ c.weave_object.ensures.writes)

pub returns-then-is_short-clause-writes : goal.returns-then-is_short-clause-writes
returns-then-is_short-clause-writes g c =
    writes_as g.D.Disk.reveals _ _ (c.weave_object.result ≡ Err DiskFault) _ _ _ _ (λ is. absurd (let e = is in cc)) (λ is. absurd (ok_no_fault c.in-Ok.is is)) (cells_wider g.D.Disk.reveals (c.weave_object.result ≡ Err DiskFault) c.args.ledger.now c.args.name.now c.args.want _ _ _ _ c.weave_object.ensures.writes)

pub returns-in-Ok-commit_object-clause-writes : goal.returns-in-Ok-commit_object-clause-writes
returns-in-Ok-commit_object-clause-writes g c =
    let old = g.D.Disk.state c.args.disk.now in
    let mid = g.D.Disk.state c.weave_object.new.disk in
    let left = (g.S.Source.state c.args.source.now).left in
    let rest = (g.S.Source.state c.weave_object.new.source).left in
    let t = taken_with g.D.Disk.reveals c.args.ledger.now c.in-Ok.taken.length c.in-Ok.taken.digest left rest _ _ old mid c.in-Ok.taken.heads c.as_slice-digests.ensures.value c.in-Ok.ensures.took in
    writes_as g.D.Disk.reveals _ _ _ _ _ old (g.D.Disk.state c.commit_object.new.disk) (λ is. absurd (let e = is in cc)) (λ is. absurd (ok_no_fault c.in-Ok-commit_object.is is))
    (commits g.D.Disk.reveals c.args.ledger.now c.args.name.now c.in-Ok.taken.length c.in-Ok.taken.nodes c.in-Ok.taken.digest left rest c.as_slice-digests.result.now old mid c.in-Ok.ensures.nodes t c.commit_object.ensures.size
    c.args.want _ (c.weave_object.result ≡ Err DiskFault) _ (ok_no_fault c.in-Ok.is) c.requires.enters c.in-Ok.ensures.intact c.in-Ok.ensures.end (λ n is. (let cut = c.in-Ok.ensures.cut n is in let all = c.is_short.ensures.no c.if-is_short.false n is in omega (arith, cut.0, all))) c.in-Ok.ensures.fits c.weave_object.ensures.writes c.commit_object.ensures.writes)

pub returns-in-Err-DiskFault-commit_object-clause-writes : goal.returns-in-Err-DiskFault-commit_object-clause-writes
returns-in-Err-DiskFault-commit_object-clause-writes g c =
    let old = g.D.Disk.state c.args.disk.now in
    let mid = g.D.Disk.state c.weave_object.new.disk in
    let left = (g.S.Source.state c.args.source.now).left in
    let rest = (g.S.Source.state c.weave_object.new.source).left in
    let t = taken_with g.D.Disk.reveals c.args.ledger.now c.in-Ok.taken.length c.in-Ok.taken.digest left rest _ _ old mid c.in-Ok.taken.heads c.as_slice-digests.ensures.value c.in-Ok.ensures.took in
    writes_as g.D.Disk.reveals _ _ _ _ _ old (g.D.Disk.state c.commit_object.new.disk) (λ is. c.in-Err-DiskFault-commit_object.is ∙ ap Err c.in-Err-DiskFault-commit_object.field-0-is) (λ is. cc)
    (commits g.D.Disk.reveals c.args.ledger.now c.args.name.now c.in-Ok.taken.length c.in-Ok.taken.nodes c.in-Ok.taken.digest left rest c.as_slice-digests.result.now old mid c.in-Ok.ensures.nodes t c.commit_object.ensures.size
    c.args.want _ (c.weave_object.result ≡ Err DiskFault) _ (ok_no_fault c.in-Ok.is) c.requires.enters c.in-Ok.ensures.intact c.in-Ok.ensures.end (λ n is. (let cut = c.in-Ok.ensures.cut n is in let all = c.is_short.ensures.no c.if-is_short.false n is in omega (arith, cut.0, all))) c.in-Ok.ensures.fits c.weave_object.ensures.writes c.commit_object.ensures.writes)

pub returns-in-Err-NoMemory-commit_object-clause-writes : goal.returns-in-Err-NoMemory-commit_object-clause-writes
returns-in-Err-NoMemory-commit_object-clause-writes g c =
    let old = g.D.Disk.state c.args.disk.now in
    let mid = g.D.Disk.state c.weave_object.new.disk in
    let left = (g.S.Source.state c.args.source.now).left in
    let rest = (g.S.Source.state c.weave_object.new.source).left in
    let t = taken_with g.D.Disk.reveals c.args.ledger.now c.in-Ok.taken.length c.in-Ok.taken.digest left rest _ _ old mid c.in-Ok.taken.heads c.as_slice-digests.ensures.value c.in-Ok.ensures.took in
    writes_as g.D.Disk.reveals _ _ _ _ _ old (g.D.Disk.state c.commit_object.new.disk) (λ is. absurd (let e = is in cc)) (λ is. absurd (let e = met_fault c.in-Err-NoMemory-commit_object.is c.in-Err-NoMemory-commit_object.field-0-is is in cc))
    (commits g.D.Disk.reveals c.args.ledger.now c.args.name.now c.in-Ok.taken.length c.in-Ok.taken.nodes c.in-Ok.taken.digest left rest c.as_slice-digests.result.now old mid c.in-Ok.ensures.nodes t c.commit_object.ensures.size
    c.args.want _ (c.weave_object.result ≡ Err DiskFault) _ (ok_no_fault c.in-Ok.is) c.requires.enters c.in-Ok.ensures.intact c.in-Ok.ensures.end (λ n is. (let cut = c.in-Ok.ensures.cut n is in let all = c.is_short.ensures.no c.if-is_short.false n is in omega (arith, cut.0, all))) c.in-Ok.ensures.fits c.weave_object.ensures.writes c.commit_object.ensures.writes)

pub commit_object-requires-clause-fixed : goal.commit_object-requires-clause-fixed
commit_object-requires-clause-fixed g c revealed =
    let v = c.args.ledger.now in
    fixed_kept g.D.Disk.reveals _ (FitsRows v.shape (limit_when v.raised) (g.D.Disk.state c.args.disk.now)) (c.weave_object.result ≡ Err DiskFault) v.shape (limit_when v.raised) (IsBlockIn v.shape v.lattice.n) (IsNoSite v.shape) (g.D.Disk.state c.args.disk.now) (g.D.Disk.state c.weave_object.new.disk) 0 revealed (inl refl) c.weave_object.ensures.writes (c.requires.fixed revealed)

pub returns-then-is_short-clause-whole : goal.returns-then-is_short-clause-whole
returns-then-is_short-clause-whole g c all is = (let s = c.is_short.ensures.yes c.if-is_short.true in not_both c.args.want s.0 all s.1)

-- ---- where no bytes were woven, or not all

pub returns-in-Err-DiskFault-clause-stores : goal.returns-in-Err-DiskFault-clause-stores
returns-in-Err-DiskFault-clause-stores g c =
    let old = g.D.Disk.state c.args.disk.now in
    let mid = g.D.Disk.state c.weave_object.new.disk in
    record {
      ended = record {
        dead = c.retire.ensures;
        stopped = λ revealed. stopped_before c.ledgers_have_one_reading.ensures g.D.Disk.reveals (c.weave_object.result ≡ Err DiskFault) revealed c.args.ledger.now _ old mid (c.requires.fixed revealed) c.weave_object.ensures.writes;
      };
    }

pub returns-in-Err-HeadDamaged-clause-stores : goal.returns-in-Err-HeadDamaged-clause-stores
returns-in-Err-HeadDamaged-clause-stores g c =
    let old = g.D.Disk.state c.args.disk.now in
    let mid = g.D.Disk.state c.weave_object.new.disk in
    let e = c.in-Err-HeadDamaged.ensures in
    let met = ap Err (c.in-Err-HeadDamaged.field-0-is ∙ ap HeadDamaged (sym c.in-Err-HeadDamaged.block-is)) in
    record {
      ended = record {
        last = (e.head _ met).0;
        first = (e.head _ met).1;
        untaken_is = (e.head_leaves _ met).0;
        counts = e.head_counts _ met;
        reads = (e.head_leaves _ met).1;
        none = stores_none g.D.Disk.reveals (c.weave_object.result ≡ Err DiskFault) c.args.ledger.now old mid c.requires.fixed c.weave_object.ensures.writes (c.weave_object.ensures.padded (λ bad. absurd (let e = met_fault c.in-Err-HeadDamaged.is c.in-Err-HeadDamaged.field-0-is bad in cc)));
      };
    }

pub returns-in-Err-Full-clause-stores : goal.returns-in-Err-Full-clause-stores
returns-in-Err-Full-clause-stores g c =
    let old = g.D.Disk.state c.args.disk.now in
    let mid = g.D.Disk.state c.weave_object.new.disk in
    let e = c.in-Err-Full.ensures in
    let met = ap Err (c.in-Err-Full.field-0-is ∙ ap Full (sym c.in-Err-Full.nodes-is)) in
    let full = e.full _ met in
    record {
      ended = record {
        nodes_is = full.0;
        over = full.1.0;
        heads = full.1.1;
        untaken_is = λ n some. e.full_leaves _ n met some;
        none = stores_none g.D.Disk.reveals (c.weave_object.result ≡ Err DiskFault) c.args.ledger.now old mid c.requires.fixed c.weave_object.ensures.writes (c.weave_object.ensures.padded (λ bad. absurd (let e = met_fault c.in-Err-Full.is c.in-Err-Full.field-0-is bad in cc)));
      };
    }

pub returns-in-Err-ReadFault-clause-stores : goal.returns-in-Err-ReadFault-clause-stores
returns-in-Err-ReadFault-clause-stores g c =
    let old = g.D.Disk.state c.args.disk.now in
    let mid = g.D.Disk.state c.weave_object.new.disk in
    let met = c.in-Err-ReadFault.is ∙ ap Err c.in-Err-ReadFault.field-0-is in
    record {
      ended = record {
        short = λ n some. c.weave_object.ensures.short n some met;
        heads = c.weave_object.ensures.read_intact met;
        fits = λ n some. not_less (room_left c.args.ledger.now) n (λ past. read_not_over met (c.weave_object.ensures.over n some past));
        none = stores_none g.D.Disk.reveals (c.weave_object.result ≡ Err DiskFault) c.args.ledger.now old mid c.requires.fixed c.weave_object.ensures.writes (c.weave_object.ensures.padded (λ bad. absurd (let e = met_fault c.in-Err-ReadFault.is c.in-Err-ReadFault.field-0-is bad in cc)));
      };
    }

pub returns-in-Err-NoMemory-clause-stores : goal.returns-in-Err-NoMemory-clause-stores
returns-in-Err-NoMemory-clause-stores g c =
    let old = g.D.Disk.state c.args.disk.now in
    let mid = g.D.Disk.state c.weave_object.new.disk in
    record { ended = stores_none g.D.Disk.reveals (c.weave_object.result ≡ Err DiskFault) c.args.ledger.now old mid c.requires.fixed c.weave_object.ensures.writes (c.weave_object.ensures.padded (λ bad. absurd (let e = met_fault c.in-Err-NoMemory.is c.in-Err-NoMemory.field-0-is bad in cc))) }

pub returns-then-is_short-clause-stores : goal.returns-then-is_short-clause-stores
returns-then-is_short-clause-stores g c =
    let old = g.D.Disk.state c.args.disk.now in
    let mid = g.D.Disk.state c.weave_object.new.disk in
    let t = c.in-Ok.ensures.took in
    let s = c.is_short.ensures.yes c.if-is_short.true in
    record {
      ended = record {
        ended = (s.0, s.1, (c.in-Ok.ensures.cut s.0 s.1).1 s.2, (t.bytes, t.taken, (let l = s.2 in omega (arith, t.long, l))));
        heads = c.in-Ok.ensures.intact;
        fits = λ n some. not_less (room_left c.args.ledger.now) n (λ past. ok_not_over c.in-Ok.is (c.weave_object.ensures.over n some past));
        none = stores_none g.D.Disk.reveals (c.weave_object.result ≡ Err DiskFault) c.args.ledger.now old mid c.requires.fixed c.weave_object.ensures.writes (c.weave_object.ensures.padded (λ bad. ok_no_fault c.in-Ok.is bad));
      };
    }

-- ---- where all were

pub returns-in-Ok-commit_object-clause-stores : goal.returns-in-Ok-commit_object-clause-stores
returns-in-Ok-commit_object-clause-stores g c =
    let old = g.D.Disk.state c.args.disk.now in
    let mid = g.D.Disk.state c.weave_object.new.disk in
    let new = g.D.Disk.state c.commit_object.new.disk in
    let v = c.args.ledger.now in
    let name = c.args.name.now in
    let reveals = g.D.Disk.reveals in
    let left = (g.S.Source.state c.args.source.now).left in
    let rest = (g.S.Source.state c.weave_object.new.source).left in
    let k = c.in-Ok.taken.length in
    let digest = c.in-Ok.taken.digest in
    let nodes = c.in-Ok.taken.nodes in
    let digests = c.as_slice-digests.result.now in
    let counted : c.in-Ok.taken.nodes ≡ nodes_for c.args.ledger.now.shape c.in-Ok.taken.length = c.in-Ok.ensures.nodes in
    let t = taken_with reveals v k digest left rest _ digests old mid c.in-Ok.taken.heads c.as_slice-digests.ensures.value c.in-Ok.ensures.took in
    let stored : Stored = next_stored v name k digest nodes digests in
    let bad = c.weave_object.result ≡ Err DiskFault in
    let last : c.in-Ok.taken.heads.lattice.n ≡ c.args.ledger.now.lattice.n + c.in-Ok.taken.nodes = (let n = t.nodes in omega (arith, n, counted)) in
    let o : NewObject = record { name = name; bytes = t.bytes } in
    let w = c.commit_object.new.ledger in
    let value = c.in-Ok-commit_object.ensures.value in
    let same = c.in-Ok-commit_object.ensures.shape in
    let woven_is : (records : List Record) → HasRecords v records → c.in-Ok.taken.heads.lattice ≡ w.lattice =
    λ records has. woven_to reveals v w name k nodes digest left rest digests old.files mid.files counted t same records has (value records has) in
    record {
      ended = record {
        kept = (
          o,
          wanted_of c.args.want name t.bytes left rest t.taken c.in-Ok.ensures.end (λ n is. (let cut = c.in-Ok.ensures.cut n is in let all = c.is_short.ensures.no c.if-is_short.false n is in omega (arith, cut.0, all, t.long))),
          record {
            count = counted ∙ ap (nodes_for v.shape) (sym t.long);
            size = sym t.long;
            digest = t.digest_is;
            payload = t.woven.payload;
            lasts = t.woven.lasts;
            homes = t.woven.homes;
            lasts_wide = t.woven.lasts_wide;
            wide = subst (λ (l : Lattice). AreBlocksWide v.shape v.lattice.n l.n t.woven.payload) (woven_is c.requires.opened.0 c.requires.opened.1) t.woven.wide;
            bytes = t.are;
            r = stored;
            next = next_of reveals v w name k nodes digest left rest digests old.files mid.files counted t same c.requires.opened.0 c.requires.opened.1 (value c.requires.opened.0 c.requires.opened.1);
            value = value;
            live = c.in-Ok-commit_object.ensures.live_on;
            same_shape = same;
            this_one = c.in-Ok-commit_object.ensures.this_one;
            adds = λ revealed records its.
                adds_put c.ledgers_have_one_reading.ensures reveals bad _ _ _ revealed v records (Object stored) t.woven.payload old mid new its (c.requires.fixed revealed) c.weave_object.ensures.writes c.commit_object.ensures.writes
                (c.commit_object.ensures.adds revealed records t.woven.payload (its_later reveals bad revealed v records old mid c.weave_object.ensures.writes its)
                (subst (λ (n : ℕ). AreAtHome v.shape v.lattice.n n t.woven.payload mid.files) last (t.woven.cells revealed)));
            added = λ revealed records its.
                added_of reveals v name k nodes digest left rest digests old.files mid.files counted t c.cells_have_lengths.ensures c.cells_have_parts.ensures c.digests_are_counted.ensures records its.has new
                (cells_stay v.shape v.lattice.n c.in-Ok.taken.heads.lattice.n t.woven.payload mid.files new.files (c.commit_object.ensures.writes.contents revealed) (t.woven.cells revealed))
                (c.in-Ok-commit_object.ensures.appended revealed records (its_later reveals bad revealed v records old mid c.weave_object.ensures.writes its)) (c.in-Ok-commit_object.ensures.durable revealed);
            exactly = λ revealed.
                c.in-Ok-commit_object.ensures.exactly revealed ∙ ap (λ (l : List ℕ). committed l v.end (body (Object stored) ++ 0 ∷ [])) ((c.weave_object.ensures.writes.contents revealed).stay 0 (inl refl));
            cells = λ revealed.
                subst (λ (l : Lattice). AreAtHome v.shape v.lattice.n l.n t.woven.payload new.files) (woven_is c.requires.opened.0 c.requires.opened.1)
                (cells_stay v.shape v.lattice.n c.in-Ok.taken.heads.lattice.n t.woven.payload mid.files new.files (c.commit_object.ensures.writes.contents revealed) (t.woven.cells revealed));
            records_more = λ revealed records datas has old_records honest.
                more_of reveals v w name k nodes digest left rest digests old.files mid.files counted t same records has (value records has) c.next_records_more.ensures c.lasts_are_values.ensures revealed datas old_records honest;
            honest = λ revealed records datas has old_records honest plain.
                honest_of reveals v w name k nodes digest left rest digests old.files mid.files counted t same records has (value records has) c.next_records_more.ensures c.lasts_are_values.ensures c.survivors_stay_honest.ensures c.digests_are_counted.ensures revealed datas old_records new.files
                (subst (λ (l : Lattice). AreAtHome v.shape v.lattice.n l.n t.woven.payload new.files) (woven_to reveals v w name k nodes digest left rest digests old.files mid.files counted t same records has (value records has))
                (cells_stay v.shape v.lattice.n c.in-Ok.taken.heads.lattice.n t.woven.payload mid.files new.files (c.commit_object.ensures.writes.contents revealed) (t.woven.cells revealed)))
                (padded_both v.shape (IsBlockIn v.shape v.lattice.n) old.files mid.files new.files (c.weave_object.ensures.padded (λ e. (let is = c.in-Ok.is in cc)) revealed) (padded_commit v mid.files new.files (c.commit_object.ensures.writes.contents revealed)))
                (keeps_intact v.shape (IsBlockIn v.shape v.lattice.n) old.files new.files (((returns-in-Ok-commit_object-clause-writes g c).contents revealed).homes))
                honest plain;
          },
        );
        exact = c.in-Ok.ensures.exact;
        heads = c.in-Ok.ensures.intact;
        fits = (let f = c.in-Ok.ensures.fits in omega (arith, f, counted));
        padded = λ revealed.
            padded_both v.shape (IsBlockIn v.shape v.lattice.n) old.files mid.files new.files (c.weave_object.ensures.padded (λ e. (let is = c.in-Ok.is in cc)) revealed) (padded_commit v mid.files new.files (c.commit_object.ensures.writes.contents revealed));
        long = λ revealed.
            let size = record_end reveals v name k nodes digest left rest digests old mid counted t c.commit_object.ensures.size in
            let same = ap length ((c.weave_object.ensures.writes.contents revealed).stay 0 (inl refl)) in
            let most = c.commit_object.ensures.long revealed in
            let n : c.in-Ok.taken.nodes * (1 + v.shape.alpha) ≡ nodes_for v.shape (length t.bytes) * (1 + v.shape.alpha) = ap (λ (x : ℕ). x * (1 + v.shape.alpha)) (counted ∙ ap (nodes_for v.shape) (sym t.long)) in
            omega (arith, same, most, size, n);
      };
    }

pub returns-in-Err-DiskFault-commit_object-clause-stores : goal.returns-in-Err-DiskFault-commit_object-clause-stores
returns-in-Err-DiskFault-commit_object-clause-stores g c =
    let old = g.D.Disk.state c.args.disk.now in
    let mid = g.D.Disk.state c.weave_object.new.disk in
    let new = g.D.Disk.state c.commit_object.new.disk in
    let v = c.args.ledger.now in
    let name = c.args.name.now in
    let reveals = g.D.Disk.reveals in
    let left = (g.S.Source.state c.args.source.now).left in
    let rest = (g.S.Source.state c.weave_object.new.source).left in
    let k = c.in-Ok.taken.length in
    let digest = c.in-Ok.taken.digest in
    let nodes = c.in-Ok.taken.nodes in
    let digests = c.as_slice-digests.result.now in
    let counted : c.in-Ok.taken.nodes ≡ nodes_for c.args.ledger.now.shape c.in-Ok.taken.length = c.in-Ok.ensures.nodes in
    let t = taken_with reveals v k digest left rest _ digests old mid c.in-Ok.taken.heads c.as_slice-digests.ensures.value c.in-Ok.ensures.took in
    let stored : Stored = next_stored v name k digest nodes digests in
    let bad = c.weave_object.result ≡ Err DiskFault in
    let last : c.in-Ok.taken.heads.lattice.n ≡ c.args.ledger.now.lattice.n + c.in-Ok.taken.nodes = (let n = t.nodes in omega (arith, n, counted)) in
    let o : NewObject = record { name = name; bytes = t.bytes } in
    record {
      ended = record {
        dead = c.commit_object.ensures.dead (c.in-Err-DiskFault-commit_object.is ∙ ap Err c.in-Err-DiskFault-commit_object.field-0-is);
        stopped = λ revealed.
            record {
              objects = o ∷ [];
              most = inr (o, wanted_of c.args.want name t.bytes left rest t.taken c.in-Ok.ensures.end (λ n is. (let cut = c.in-Ok.ensures.cut n is in let all = c.is_short.ensures.no c.if-is_short.false n is in omega (arith, cut.0, all, t.long))), refl);
              payload = t.woven.payload;
              homes = λ some. t.woven.homes revealed;
              lasts_wide = λ some. t.woven.lasts_wide;
              bytes = one_of (λ q. AreBytes q.bytes) o t.are;
              added = Object stored ∷ [];
              lattice = c.in-Ok.taken.heads.lattice;
              next = (c.in-Ok.taken.heads.lattice, stored, refl, next_woven reveals v name k nodes digest left rest digests old.files mid.files counted t, refl);
              adds = λ records its.
                  adds_put c.ledgers_have_one_reading.ensures reveals bad _ _ _ revealed v records (Object stored) t.woven.payload old mid new its (c.requires.fixed revealed) c.weave_object.ensures.writes c.commit_object.ensures.writes
                  (c.commit_object.ensures.adds revealed records t.woven.payload (its_later reveals bad revealed v records old mid c.weave_object.ensures.writes its)
                  (subst (λ (n : ℕ). AreAtHome v.shape v.lattice.n n t.woven.payload mid.files) last (t.woven.cells revealed)));
              records_more = λ records datas has valid recorded honest.
                  more_where reveals v name k nodes digest left rest digests old.files mid.files counted t c.next_records_more.ensures c.lasts_are_values.ensures revealed records datas has valid recorded honest;
              long = (let same = ap length ((c.weave_object.ensures.writes.contents revealed).stay 0 (inl refl)) in let most = c.commit_object.ensures.long revealed in
                  let sum : sum_by (λ (r : Record). length (entry r)) (Object stored ∷ []) ≡ length (entry (Object stored)) = omega arith in omega (arith, same, most, sum));
            };
      };
    }

pub returns-in-Err-NoMemory-commit_object-clause-stores : goal.returns-in-Err-NoMemory-commit_object-clause-stores
returns-in-Err-NoMemory-commit_object-clause-stores g c =
    let old = g.D.Disk.state c.args.disk.now in
    let mid = g.D.Disk.state c.weave_object.new.disk in
    let new = g.D.Disk.state c.commit_object.new.disk in
    let v = c.args.ledger.now in
    let kept = c.commit_object.ensures.unchanged (inr (c.in-Err-NoMemory-commit_object.is ∙ ap Err c.in-Err-NoMemory-commit_object.field-0-is)) in
    record {
      ended = record {
        same = kept.0;
        leaves = λ revealed.
            let leaves = leaves_ledger g.D.Disk.reveals (c.weave_object.result ≡ Err DiskFault) revealed v old mid (c.requires.fixed revealed) c.weave_object.ensures.writes in
            record {
              images = during_then_kept old mid new (λ d. d 0 ≡ old.files 0) c.weave_object.ensures.writes.time c.commit_object.ensures.writes.time kept.1.0 leaves.images;
              reads = ap (λ (f : Files). f 0) (kept.1.1 revealed) ∙ leaves.reads;
            };
        padded = λ revealed.
            padded_both v.shape (IsBlockIn v.shape v.lattice.n) old.files mid.files new.files (c.weave_object.ensures.padded (λ e. (let is = c.in-Ok.is in cc)) revealed) (padded_commit v mid.files new.files (c.commit_object.ensures.writes.contents revealed));
      };
    }

-- ---- where a last parity is damaged

pub returns-in-Err-DiskFault-clause-head_in_room : goal.returns-in-Err-DiskFault-clause-head_in_room
returns-in-Err-DiskFault-clause-head_in_room g c revealed a damaged ready roomy =
    absurd ((c.weave_object.ensures.head_in_room revealed a damaged ready roomy).0 (c.in-Err-DiskFault.is ∙ ap Err c.in-Err-DiskFault.field-0-is))

pub returns-in-Err-HeadDamaged-clause-head_in_room : goal.returns-in-Err-HeadDamaged-clause-head_in_room
returns-in-Err-HeadDamaged-clause-head_in_room g c revealed a damaged ready roomy =
    ((λ is. absurd (let e = is in cc)), (c.weave_object.ensures.head_in_room revealed a damaged ready roomy).1)

pub returns-in-Err-Full-clause-head_in_room : goal.returns-in-Err-Full-clause-head_in_room
returns-in-Err-Full-clause-head_in_room g c revealed a damaged ready roomy =
    ((λ is. absurd (let e = is in cc)), (c.weave_object.ensures.head_in_room revealed a damaged ready roomy).1)

pub returns-in-Err-ReadFault-clause-head_in_room : goal.returns-in-Err-ReadFault-clause-head_in_room
returns-in-Err-ReadFault-clause-head_in_room g c revealed a damaged ready roomy =
    ((λ is. absurd (let e = is in cc)), (c.weave_object.ensures.head_in_room revealed a damaged ready roomy).1)

pub returns-in-Err-NoMemory-clause-head_in_room : goal.returns-in-Err-NoMemory-clause-head_in_room
returns-in-Err-NoMemory-clause-head_in_room g c revealed a damaged ready roomy =
    ((λ is. absurd (let e = is in cc)), (c.weave_object.ensures.head_in_room revealed a damaged ready roomy).1)

pub returns-then-is_short-clause-head_in_room : goal.returns-then-is_short-clause-head_in_room
returns-then-is_short-clause-head_in_room g c revealed a damaged ready roomy =
    absurd (none_damaged c.args.ledger.now (g.D.Disk.state c.args.disk.now) (c.in-Ok.ensures.intact revealed) a damaged)

pub returns-in-Ok-commit_object-clause-head_in_room : goal.returns-in-Ok-commit_object-clause-head_in_room
returns-in-Ok-commit_object-clause-head_in_room g c revealed a damaged ready roomy =
    absurd (none_damaged c.args.ledger.now (g.D.Disk.state c.args.disk.now) (c.in-Ok.ensures.intact revealed) a damaged)

pub returns-in-Err-DiskFault-commit_object-clause-head_in_room : goal.returns-in-Err-DiskFault-commit_object-clause-head_in_room
returns-in-Err-DiskFault-commit_object-clause-head_in_room g c revealed a damaged ready roomy =
    absurd (none_damaged c.args.ledger.now (g.D.Disk.state c.args.disk.now) (c.in-Ok.ensures.intact revealed) a damaged)

pub returns-in-Err-NoMemory-commit_object-clause-head_in_room : goal.returns-in-Err-NoMemory-commit_object-clause-head_in_room
returns-in-Err-NoMemory-commit_object-clause-head_in_room g c revealed a damaged ready roomy =
    absurd (none_damaged c.args.ledger.now (g.D.Disk.state c.args.disk.now) (c.in-Ok.ensures.intact revealed) a damaged)

-- ---- the heads that are kept

pub returns-in-Ok-commit_object-clause-kept : goal.returns-in-Ok-commit_object-clause-kept
returns-in-Ok-commit_object-clause-kept g c =
    let old = g.D.Disk.state c.args.disk.now in
    let mid = g.D.Disk.state c.weave_object.new.disk in
    let new = g.D.Disk.state c.commit_object.new.disk in
    let v = c.args.ledger.now in
    let w = c.commit_object.new.ledger in
    let name = c.args.name.now in
    let reveals = g.D.Disk.reveals in
    let left = (g.S.Source.state c.args.source.now).left in
    let rest = (g.S.Source.state c.weave_object.new.source).left in
    let k = c.in-Ok.taken.length in
    let digest = c.in-Ok.taken.digest in
    let nodes = c.in-Ok.taken.nodes in
    let digests = c.as_slice-digests.result.now in
    let counted : c.in-Ok.taken.nodes ≡ nodes_for c.args.ledger.now.shape c.in-Ok.taken.length = c.in-Ok.ensures.nodes in
    let t = taken_with reveals v k digest left rest _ digests old mid c.in-Ok.taken.heads c.as_slice-digests.ensures.value c.in-Ok.ensures.took in
    let same = c.in-Ok-commit_object.ensures.shape in
    let records = c.requires.opened.0 in
    let has = c.requires.opened.1 in
    let now = c.in-Ok-commit_object.ensures.value records has in
    kept_after c.cells_have_lengths.ensures reveals v w old.files mid.files new.files c.in-Ok.taken.heads (object_blocks v.shape t.bytes) digests
    has.lattice.alpha (ap length has.digests ∙ c.digests_are_counted.ensures v.shape records has.valid ∙ ap (λ (n : ℕ). n * (1 + v.shape.alpha)) (sym has.lattice.n)) same
    (woven_to reveals v w name k nodes digest left rest digests old.files mid.files counted t same records has now)
    (digests_to reveals v w name k nodes digest left rest digests old.files mid.files counted t same records has now)
    t.size t.woven
    (λ revealed. ((returns-in-Ok-commit_object-clause-writes g c).contents revealed).homes)
    (λ revealed. cells_stay v.shape v.lattice.n c.in-Ok.taken.heads.lattice.n t.woven.payload mid.files new.files (c.commit_object.ensures.writes.contents revealed) (t.woven.cells revealed))
