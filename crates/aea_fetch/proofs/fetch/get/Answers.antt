use Rattle.std.proofs.Common.{◌≡◌, inl, inr, ℕ, List, [], take, refl, sym, ◌∙◌, ap, subst, arith, Some, None, Err}
use Rattle.std.specs.Prelude.{option_map, IsErr}
use Rattle.std.specs.FinMap.{get}
use Rattle.aea_catalog.specs.Catalogs.{Placed, Objects}
use Rattle.aea_lattice.specs.declared.blocks.BlockId.{BlockId}
use Rattle.aea_disk.proofs.Frames.{ok_fine, reads_none, reads_both, reads_as}
use Rattle.aea_archive.specs.Blocks.{IsIntactBy}
use Rattle.aea_archive.specs.Objects.{data_of, joined, IsOneOf}
use Rattle.aea_fetch.specs.Payloads.{IsPayload, IsFirstDamaged}
use Rattle.aea_fetch.specs.Copies.{HasSent}
use Rattle.aea_fetch.specs.Gets.{IsFound, HasGot, HasBroken}
use Rattle.aea_fetch.specs.declared.fault.GetFault.TheVariants.{Damaged, DiskFault}
use Rattle.std.specs.Io.KnownBytes.{Appends}
use Rattle.aea_fetch.proofs.Blocks.{same_placed}
use Rattle.aea_fetch.proofs.Owns.{own_parts_are, own_payload}
use Rattle.aea_fetch.proofs.Firsts.{none_first, none_of, one_first}
use Rattle.aea_fetch.proofs.Copies.{long_enough, most_bytes}
use Rattle.aea_fetch.proofs.Broken.{payload_wide, broken_at, sent_at}
use Rattle.aea_fetch.proofs.Getting.{placed_of, found_under, sent_under, broken_under}
use Rattle.aea_fetch.specs.Puts.{datas_of}
use Rattle.aea_records.specs.Catalogued.{objects_of}
use Rattle.aea_fetch.proofs.Puts.{put_is_found, data_of_records}
use Rattle.aea_fetch.proofs.fetch.get.Goals as goal

pub returns-in_default-clause-reads : goal.returns-in_default-clause-reads
returns-in_default-clause-reads g c = reads_none g.D.Disk.reveals _ (g.D.Disk.state c.args.disk.now) (λ is. let e = is in cc)

pub returns-in_default-cell_buffer-clause-reads : goal.returns-in_default-cell_buffer-clause-reads
returns-in_default-cell_buffer-clause-reads g c = reads_none g.D.Disk.reveals _ (g.D.Disk.state c.args.disk.now) (λ is. let e = is in cc)

pub returns-in_default-large-clause-reads : goal.returns-in_default-large-clause-reads
returns-in_default-large-clause-reads g c = reads_none g.D.Disk.reveals _ (g.D.Disk.state c.args.disk.now) (λ is. let e = is in cc)

pub returns-in-Ok-Some-clause-damaged : goal.returns-in-Ok-Some-clause-damaged
returns-in-Ok-Some-clause-damaged g c b e =
    let v = c.args.ledger.now in
    let name = c.args.name.now in
    let old = g.D.Disk.state c.args.disk.now in
    let placed = placed_of (get v.objects name) c.in-Some.object (sym (ap (λ (m : Objects). option_map (λ p. p.object) (get m name)) c.catalog.ensures.objects) ∙ sym c.find.ensures ∙ c.in-Some.is) in
    let found = found_under g.D.Disk.reveals v.shape v.digests old.files (get v.objects c.args.name.now) placed.0 placed.1 c.in-Ok-Some.field-0-is c.in-Ok-Some.ensures.found in
    let same : c.in-Ok-Some.block ≡ b = (let h = e in cc) in
    (placed.0, placed.1, subst (IsOneOf (data_of placed.0.parts)) same found.0, λ revealed. (subst (IsFirstDamaged v.shape v.digests old.files (data_of placed.0.parts)) same (found.1 revealed), refl))

pub returns-in-Ok-Some-clause-damage_refused : goal.returns-in-Ok-Some-clause-damage_refused
returns-in-Ok-Some-clause-damage_refused g c revealed p b is first =
    let v = c.args.ledger.now in
    let old = g.D.Disk.state c.args.disk.now in
    let found = found_under g.D.Disk.reveals v.shape v.digests old.files (get v.objects c.args.name.now) p is c.in-Ok-Some.field-0-is c.in-Ok-Some.ensures.found in
    let same : c.in-Ok-Some.block ≡ b = one_first (IsIntactBy v.shape v.digests old.files) (data_of p.parts) c.in-Ok-Some.block b (found.1 revealed) first in
    inl (ap (λ (x : BlockId). Err (Damaged x)) same)

pub returns-in-Ok-Some-clause-complete : goal.returns-in-Ok-Some-clause-complete
returns-in-Ok-Some-clause-complete g c revealed p is all =
    let v = c.args.ledger.now in
    let old = g.D.Disk.state c.args.disk.now in
    let found = found_under g.D.Disk.reveals v.shape v.digests old.files (get v.objects c.args.name.now) p is c.in-Ok-Some.field-0-is c.in-Ok-Some.ensures.found in
    absurd (none_first (IsIntactBy v.shape v.digests old.files) (data_of p.parts) c.in-Ok-Some.block all (found.1 revealed))

pub returns-in-Ok-send_object-clause-got : goal.returns-in-Ok-send_object-clause-got
returns-in-Ok-send_object-clause-got g c =
    let v = c.args.ledger.now in
    let name = c.args.name.now in
    let reveals = g.D.Disk.reveals in
    let old = g.D.Disk.state c.args.disk.now in
    let mid = g.D.Disk.state c.check_object.new.disk in
    let object = c.in-Some.object in
    let placed = placed_of (get v.objects name) object (sym (ap (λ (m : Objects). option_map (λ p. p.object) (get m name)) c.catalog.ensures.objects) ∙ sym c.find.ensures ∙ c.in-Some.is) in
    let lies = c.catalog.ensures.within name placed.0 (ap (λ (m : Objects). get m name) c.catalog.ensures.objects ∙ placed.1) in
    let length_is : object.length ≡ placed.0.object.length = ap (λ o. o.length) (sym placed.2) in
    let sent = sent_at reveals v.shape v.digests mid.files old.files (c.check_object.ensures.reads.contents) (data_of placed.0.parts) object.length (g.O.Sink.state c.args.out.now) (g.O.Sink.state c.send_object.new.out)
    (sent_under (IsPayload reveals v.shape v.digests mid.files) (get v.objects name) placed.0 object.length (g.O.Sink.state c.args.out.now) (g.O.Sink.state c.send_object.new.out) placed.1 c.in-Ok-send_object.ensures.sent) in
    let cut = subst (λ (n : ℕ). HasSent (IsPayload reveals v.shape v.digests old.files) (data_of placed.0.parts) n (g.O.Sink.state c.args.out.now) (g.O.Sink.state c.send_object.new.out)) length_is sent in
    (placed.0, placed.1, length_is, record { payloads = cut.payloads; are = cut.are; long = long_enough (IsPayload reveals v.shape v.digests old.files) v.shape.block (payload_wide reveals v.shape v.digests old.files) v.shape placed.0 cut.payloads refl cut.are lies.sum lies.count; appended = cut.appended })

pub returns-in-Ok-send_object-clause-own : goal.returns-in-Ok-send_object-clause-own
returns-in-Ok-send_object-clause-own g c revealed p datas is is_data honest =
    let v = c.args.ledger.now in
    let name = c.args.name.now in
    let got = returns-in-Ok-send_object-clause-got g c in
    let lies = c.catalog.ensures.within name p (ap (λ (m : Objects). get m name) c.catalog.ensures.objects ∙ is) in
    let same : got.0 ≡ p = same_placed (get v.objects name) got.0 p got.1 is in
    let mine = subst (λ (q : Placed). HasGot g.D.Disk.reveals v.shape v.digests (g.D.Disk.state c.args.disk.now).files q (g.O.Sink.state c.args.out.now) (g.O.Sink.state c.send_object.new.out)) same got.3 in
    let are = own_parts_are v.shape v.lattice datas is_data (IsPayload g.D.Disk.reveals v.shape v.digests (g.D.Disk.state c.args.disk.now).files)
    (own_payload g.D.Disk.reveals v.shape v.lattice v.digests (g.D.Disk.state c.args.disk.now).files datas revealed honest) 0 p.parts mine.payloads lies.apart mine.are in
    subst (λ (ps : List (List ℕ)). Appends (g.O.Sink.state c.args.out.now).written (g.O.Sink.state c.send_object.new.out).written (take p.object.length (joined ps))) are mine.appended

pub returns-in-Ok-send_object-clause-put : goal.returns-in-Ok-send_object-clause-put
returns-in-Ok-send_object-clause-put g c revealed records puts o has of_puts recorded honest among named =
    let v = c.args.ledger.now in
    let name = c.args.name.now in
    let datas = datas_of v.shape puts in
    let got = returns-in-Ok-send_object-clause-got g c in
    let is_data = data_of_records v.shape records datas v.lattice has.lattice recorded in
    let own = returns-in-Ok-send_object-clause-own g c revealed got.0 datas got.1 is_data honest in
    let found : get (objects_of records) o.name ≡ Some got.0 = ap (get (objects_of records)) named ∙ ap (λ (m : Objects). get m name) (sym has.objects) ∙ got.1 in
    subst (λ (bytes : List ℕ). Appends (g.O.Sink.state c.args.out.now).written (g.O.Sink.state c.send_object.new.out).written bytes)
    (put_is_found v.shape records puts o got.0 c.objects_are_of_records.ensures has.valid of_puts among found) own

pub returns-in-Ok-send_object-clause-damage_refused : goal.returns-in-Ok-send_object-clause-damage_refused
returns-in-Ok-send_object-clause-damage_refused g c revealed p b is first =
    let v = c.args.ledger.now in
    let old = g.D.Disk.state c.args.disk.now in
    let none = found_under g.D.Disk.reveals v.shape v.digests old.files (get v.objects c.args.name.now) p is c.in-Ok-None.field-0-is c.in-Ok-None.ensures.found in
    absurd (none_first (IsIntactBy v.shape v.digests old.files) (data_of p.parts) b (none revealed) first)

pub returns-in-Ok-send_object-clause-reads : goal.returns-in-Ok-send_object-clause-reads
returns-in-Ok-send_object-clause-reads g c =
    let mine = c.send_object.result ≡ Err DiskFault in
    reads_as g.D.Disk.reveals mine _ (g.D.Disk.state c.args.disk.now) (g.D.Disk.state c.send_object.new.disk) (λ is. let e = is in cc) (λ is. cc)
    (reads_both g.D.Disk.reveals (IsErr c.check_object.result) mine (g.D.Disk.state c.args.disk.now) (g.D.Disk.state c.check_object.new.disk) (g.D.Disk.state c.send_object.new.disk) (ok_fine c.in-Ok-None.is) c.check_object.ensures.reads c.send_object.ensures.reads)

pub returns-in-Ok-send_object-clause-out_kept : goal.returns-in-Ok-send_object-clause-out_kept
returns-in-Ok-send_object-clause-out_kept g c =
    let v = c.args.ledger.now in
    let name = c.args.name.now in
    let reveals = g.D.Disk.reveals in
    let old = g.D.Disk.state c.args.disk.now in
    let mid = g.D.Disk.state c.check_object.new.disk in
    let object = c.in-Some.object in
    let placed = placed_of (get v.objects name) object (sym (ap (λ (m : Objects). option_map (λ p. p.object) (get m name)) c.catalog.ensures.objects) ∙ sym c.find.ensures ∙ c.in-Some.is) in
    c.in-Ok-send_object.ensures.sent.kept

pub returns-in-Ok-send_object-clause-in_room : goal.returns-in-Ok-send_object-clause-in_room
returns-in-Ok-send_object-clause-in_room g c p room is revealed enough =
    let v = c.args.ledger.now in
    let name = c.args.name.now in
    let reveals = g.D.Disk.reveals in
    let old = g.D.Disk.state c.args.disk.now in
    let mid = g.D.Disk.state c.check_object.new.disk in
    let object = c.in-Some.object in
    let placed = placed_of (get v.objects name) object (sym (ap (λ (m : Objects). option_map (λ p. p.object) (get m name)) c.catalog.ensures.objects) ∙ sym c.find.ensures ∙ c.in-Some.is) in
    let is_placed : (p : Placed) → get v.objects name ≡ Some p → p ≡ placed.0 = λ p is. same_placed (get v.objects name) p placed.0 is placed.1 in
    let sent = c.in-Ok-send_object.ensures.sent in
    let size : p.object.length ≡ object.length = ap (λ (q : Placed). q.object.length) (is_placed p is) ∙ ap (λ o. o.length) placed.2 in
    let most = most_bytes object.length sent.payloads in
    ((λ e. let h = e in cc), sent.steady room revealed (omega (arith, most, size, enough)))

pub returns-clause-damaged : goal.returns-clause-damaged
returns-clause-damaged g c b e =
    let v = c.args.ledger.now in
    let name = c.args.name.now in
    let reveals = g.D.Disk.reveals in
    let old = g.D.Disk.state c.args.disk.now in
    let mid = g.D.Disk.state c.check_object.new.disk in
    let object = c.in-Some.object in
    let placed = placed_of (get v.objects name) object (sym (ap (λ (m : Objects). option_map (λ p. p.object) (get m name)) c.catalog.ensures.objects) ∙ sym c.find.ensures ∙ c.in-Some.is) in
    let none : IsFound reveals v.shape v.digests old.files (data_of placed.0.parts) None = found_under reveals v.shape v.digests old.files (get v.objects c.args.name.now) placed.0 placed.1 c.in-Ok-None.field-0-is c.in-Ok-None.ensures.found in
    let fault : c.in-Err-send_object.fault ≡ Damaged b = (let h = e in cc) in
    let broken = broken_at reveals v.shape v.digests mid.files old.files (c.check_object.ensures.reads.contents) (data_of placed.0.parts) object.length (g.O.Sink.state c.args.out.now) (g.O.Sink.state c.send_object.new.out) [] c.in-Err-send_object.fault (broken_under reveals v.shape v.digests mid.files (get v.objects c.args.name.now) placed.0 object.length (g.O.Sink.state c.args.out.now) (g.O.Sink.state c.send_object.new.out) c.in-Err-send_object.fault placed.1 c.in-Err-send_object.ensures.broken) in
    let both = broken.damaged b fault in
    (placed.0, placed.1, both.0, λ revealed. absurd (none_of (IsIntactBy v.shape v.digests old.files) (data_of placed.0.parts) b (none revealed) both.0 (both.1 revealed)))

pub returns-clause-damage_refused : goal.returns-clause-damage_refused
returns-clause-damage_refused g c revealed p b is first =
    let v = c.args.ledger.now in
    let old = g.D.Disk.state c.args.disk.now in
    let none = found_under g.D.Disk.reveals v.shape v.digests old.files (get v.objects c.args.name.now) p is c.in-Ok-None.field-0-is c.in-Ok-None.ensures.found in
    absurd (none_first (IsIntactBy v.shape v.digests old.files) (data_of p.parts) b (none revealed) first)

pub returns-clause-complete : goal.returns-clause-complete
returns-clause-complete g c revealed p is all =
    let v = c.args.ledger.now in
    let reveals = g.D.Disk.reveals in
    let old = g.D.Disk.state c.args.disk.now in
    let mid = g.D.Disk.state c.check_object.new.disk in
    let f = c.in-Err-send_object.fault in
    elim c.in-Err-send_object.ensures.faults [
      | inl found ↦
          let broken = broken_at reveals v.shape v.digests mid.files old.files (c.check_object.ensures.reads.contents) (data_of p.parts) c.in-Some.object.length (g.O.Sink.state c.args.out.now) (g.O.Sink.state c.send_object.new.out) [] f (broken_under reveals v.shape v.digests mid.files (get v.objects c.args.name.now) p c.in-Some.object.length (g.O.Sink.state c.args.out.now) (g.O.Sink.state c.send_object.new.out) f is c.in-Err-send_object.ensures.broken) in
          let both = broken.damaged found.0 found.1 in
          absurd (none_of (IsIntactBy v.shape v.digests old.files) (data_of p.parts) found.0 all both.0 (both.1 revealed))
      | inr (inl e) ↦ inr (inl (ap Err e))
      | inr (inr e) ↦ inr (inr (inl (ap Err e)))
    ]

pub returns-clause-part : goal.returns-clause-part
returns-clause-part g c p is =
    let v = c.args.ledger.now in
    let name = c.args.name.now in
    let reveals = g.D.Disk.reveals in
    let old = g.D.Disk.state c.args.disk.now in
    let mid = g.D.Disk.state c.check_object.new.disk in
    let object = c.in-Some.object in
    let placed = placed_of (get v.objects name) object (sym (ap (λ (m : Objects). option_map (λ p. p.object) (get m name)) c.catalog.ensures.objects) ∙ sym c.find.ensures ∙ c.in-Some.is) in
    let is_placed : (p : Placed) → get v.objects name ≡ Some p → p ≡ placed.0 = λ p is. same_placed (get v.objects name) p placed.0 is placed.1 in
    let size : object.length ≡ p.object.length = sym (ap (λ (q : Placed). q.object.length) (is_placed p is) ∙ ap (λ o. o.length) placed.2) in
    inr (subst (λ (n : ℕ). HasBroken reveals v.shape v.digests old.files (data_of p.parts) n (g.O.Sink.state c.args.out.now) [] (g.O.Sink.state c.send_object.new.out) c.in-Err-send_object.fault) size
    (broken_at reveals v.shape v.digests mid.files old.files (c.check_object.ensures.reads.contents) (data_of p.parts) object.length (g.O.Sink.state c.args.out.now) (g.O.Sink.state c.send_object.new.out) [] c.in-Err-send_object.fault (broken_under reveals v.shape v.digests mid.files (get v.objects c.args.name.now) p object.length (g.O.Sink.state c.args.out.now) (g.O.Sink.state c.send_object.new.out) c.in-Err-send_object.fault is c.in-Err-send_object.ensures.broken)))

pub returns-clause-reads : goal.returns-clause-reads
returns-clause-reads g c =
    let mine = c.send_object.result ≡ Err DiskFault in
    reads_as g.D.Disk.reveals mine _ (g.D.Disk.state c.args.disk.now) (g.D.Disk.state c.send_object.new.disk) (λ is. c.in-Err-send_object.is ∙ (let h : c.in-Err-send_object.fault ≡ DiskFault = (let e = is in cc) in ap Err h)) (λ is. cc)
    (reads_both g.D.Disk.reveals (IsErr c.check_object.result) mine (g.D.Disk.state c.args.disk.now) (g.D.Disk.state c.check_object.new.disk) (g.D.Disk.state c.send_object.new.disk) (ok_fine c.in-Ok-None.is) c.check_object.ensures.reads c.send_object.ensures.reads)

pub returns-clause-out_kept : goal.returns-clause-out_kept
returns-clause-out_kept g c =
    let v = c.args.ledger.now in
    let name = c.args.name.now in
    let reveals = g.D.Disk.reveals in
    let old = g.D.Disk.state c.args.disk.now in
    let mid = g.D.Disk.state c.check_object.new.disk in
    let object = c.in-Some.object in
    let placed = placed_of (get v.objects name) object (sym (ap (λ (m : Objects). option_map (λ p. p.object) (get m name)) c.catalog.ensures.objects) ∙ sym c.find.ensures ∙ c.in-Some.is) in
    c.in-Err-send_object.ensures.broken.cut.kept

pub returns-clause-out_cause : goal.returns-clause-out_cause
returns-clause-out_cause g c e =
    let v = c.args.ledger.now in
    let name = c.args.name.now in
    let reveals = g.D.Disk.reveals in
    let old = g.D.Disk.state c.args.disk.now in
    let mid = g.D.Disk.state c.check_object.new.disk in
    let object = c.in-Some.object in
    let placed = placed_of (get v.objects name) object (sym (ap (λ (m : Objects). option_map (λ p. p.object) (get m name)) c.catalog.ensures.objects) ∙ sym c.find.ensures ∙ c.in-Some.is) in
    c.in-Err-send_object.ensures.broken.cut.cause (let h = e in cc)

pub returns-clause-in_room : goal.returns-clause-in_room
returns-clause-in_room g c p room is revealed enough =
    let v = c.args.ledger.now in
    let name = c.args.name.now in
    let reveals = g.D.Disk.reveals in
    let old = g.D.Disk.state c.args.disk.now in
    let mid = g.D.Disk.state c.check_object.new.disk in
    let object = c.in-Some.object in
    let placed = placed_of (get v.objects name) object (sym (ap (λ (m : Objects). option_map (λ p. p.object) (get m name)) c.catalog.ensures.objects) ∙ sym c.find.ensures ∙ c.in-Some.is) in
    let is_placed : (p : Placed) → get v.objects name ≡ Some p → p ≡ placed.0 = λ p is. same_placed (get v.objects name) p placed.0 is placed.1 in
    let broken = c.in-Err-send_object.ensures.broken.cut in
    let size : p.object.length ≡ object.length = ap (λ (q : Placed). q.object.length) (is_placed p is) ∙ ap (λ o. o.length) placed.2 in
    let most = most_bytes object.length broken.payloads in
    let fits = broken.fits room revealed (omega (arith, most, size, enough)) in
    (λ e. fits.0 (let h = e in cc), fits.1)
