use Rattle.std.proofs.Common.{◌≡◌, inl, inr, List, refl, sym, ◌∙◌, ap, subst, arith, Err}
use Rattle.std.specs.Prelude.{option_map, All}
use Rattle.std.specs.FinMap.{get}
use Rattle.aea_catalog.specs.Catalogs.{Placed, Objects}
use Rattle.aea_lattice.specs.declared.blocks.BlockId.{BlockId}
use Rattle.aea_lattice.specs.Data.{Determines}
use Rattle.aea_disk.proofs.Frames.{reads_none, reads_both, reads_as}
use Rattle.aea_archive.specs.Objects.{data_under, IsOneOf}
use Rattle.aea_fetch.proofs.Blocks.{same_placed, under_inside}
use Rattle.aea_fetch.proofs.Copies.{most_bytes}
use Rattle.aea_fetch.proofs.Getting.{placed_of}
use Rattle.aea_restore.proofs.Ends.{never_clash}
use Rattle.aea_degraded.specs.declared.fault.FetchFault.TheVariants.{Undetermined, Clash, DiskFault, WriteFault}
use Rattle.aea_degraded.specs.Fetched.{HasFetched, IsFirstOpen}
use Rattle.aea_degraded.proofs.Checked.{planned_again}
use Rattle.aea_degraded.proofs.TwoPasses.{known_of, fetched_sent, fetched_part, own_fetched, never_first, open_fault, all_determined, outside_of, first_complete, send_complete}
use Rattle.aea_degraded.proofs.fetching.fetch.Goals as goal

pub returns-in_default-clause-reads : goal.returns-in_default-clause-reads
returns-in_default-clause-reads g c = reads_none g.D.Disk.reveals _ (g.D.Disk.state c.args.disk.now) (λ is. let e = is in cc)

pub returns-in_default-cell_buffer-clause-reads : goal.returns-in_default-cell_buffer-clause-reads
returns-in_default-cell_buffer-clause-reads g c = reads_none g.D.Disk.reveals _ (g.D.Disk.state c.args.disk.now) (λ is. let e = is in cc)

pub returns-in_default-block_buffer-clause-reads : goal.returns-in_default-block_buffer-clause-reads
returns-in_default-block_buffer-clause-reads g c = reads_none g.D.Disk.reveals _ (g.D.Disk.state c.args.disk.now) (λ is. let e = is in cc)

pub returns-in_default-large-clause-reads : goal.returns-in_default-large-clause-reads
returns-in_default-large-clause-reads g c = reads_none g.D.Disk.reveals _ (g.D.Disk.state c.args.disk.now) (λ is. let e = is in cc)

pub returns-in-Err-clause-undetermined : goal.returns-in-Err-clause-undetermined
returns-in-Err-clause-undetermined g c b nodes e =
    let v = c.args.ledger.now in
    let name = c.args.name.now in
    let placed = placed_of (get v.objects name) c.in-Some.object (sym (ap (λ (m : Objects). option_map (λ p. p.object) (get m name)) c.catalog.ensures.objects) ∙ sym c.find.ensures ∙ c.in-Some.is) in
    let is : c.in-Err.fault ≡ Undetermined b nodes = (let h = e in cc) in
    let said = c.first_pass.ensures.undetermined b nodes (c.in-Err.is ∙ ap Err is) in (
      placed.0,
      placed.1,
      subst (λ (bs : List BlockId). IsOneOf bs b) (ap data_under placed.1) said.0,
      said.1,
      refl,
      λ revealed known survivors. subst (λ (bs : List BlockId). IsFirstOpen v.lattice known bs b nodes) (ap data_under placed.1) (said.2 revealed known survivors),
    )

pub returns-in-Err-clause-open_refused : goal.returns-in-Err-clause-open_refused
returns-in-Err-clause-open_refused g c revealed p known b nodes under_name survivors first =
    let v = c.args.ledger.now in
    let name = c.args.name.now in
    let under = data_under (get v.objects name) in
    let inside = under_inside v.lattice (get v.objects name) (λ q at. (c.catalog.ensures.within name q (ap (λ (m : Objects). get m name) c.catalog.ensures.objects ∙ at)).apart) in
    let fault = open_fault c.lists_are_one.ensures v.lattice known under c.first_pass.result c.in-Err.fault b nodes c.in-Err.is inside
    (subst (λ (bs : List BlockId). IsFirstOpen v.lattice known bs b nodes) (sym (ap data_under under_name)) first)
    (c.first_pass.ensures.determined revealed known survivors) (λ x xs e. (c.first_pass.ensures.undetermined x xs e).2 revealed known survivors) in
    elim fault [
      | inl e ↦ inl (ap Err e)
      | inr outside ↦ inr (outside_of c.in-Err.fault outside)
    ]

pub returns-in-Err-clause-clash : goal.returns-in-Err-clause-clash
returns-in-Err-clause-clash g c b revealed computed e =
    let is : c.in-Err.fault ≡ Clash b revealed computed = (let h = e in cc) in
    c.first_pass.ensures.clash b revealed computed (c.in-Err.is ∙ ap Err is)

pub returns-in-Err-clause-computed : goal.returns-in-Err-clause-computed
returns-in-Err-clause-computed g c reveal known survivors b revealed computed e =
    let v = c.args.ledger.now in
    let name = c.args.name.now in
    let is : c.in-Err.fault ≡ Clash b revealed computed = (let h = e in cc) in
    let said = c.first_pass.ensures.computed b revealed computed (c.in-Err.is ∙ ap Err is) reveal known survivors in
    (λ p under_name. subst (λ (bs : List BlockId). IsOneOf bs b) (ap data_under under_name) said.0, said.1.0, said.1.1, refl)

pub returns-in-Err-clause-no_clash : goal.returns-in-Err-clause-no_clash
returns-in-Err-clause-no_clash g c reveal records datas has are honest b revealed computed e =
    let v = c.args.ledger.now in
    let name = c.args.name.now in
    let old = g.D.Disk.state c.args.disk.now in
    let is : c.in-Err.fault ≡ Clash b revealed computed = (let h = e in cc) in
    let some = c.survivors_are_revealed.ensures v.shape v.lattice.n v.digests old.files in
    let said = c.first_pass.ensures.computed b revealed computed (c.in-Err.is ∙ ap Err is) reveal some.0 some.1 in
    never_clash v some.0 old.files records datas b revealed computed has are honest (known_of v c.lattice-lattice.result old.files some.0 c.lattice-lattice.ensures.value c.lattice-lattice.ensures.of_shape some.1) said.1.1

pub returns-in-Err-clause-complete : goal.returns-in-Err-clause-complete
returns-in-Err-clause-complete g c revealed p known under_name survivors all =
    let v = c.args.ledger.now in
    let name = c.args.name.now in
    let under = data_under (get v.objects name) in
    inr (first_complete c.in-Err.fault c.in-Err.ensures.faults (λ b nodes e.
    never_first v.lattice known under b nodes (subst (All (Determines v.lattice known)) (sym (ap data_under under_name)) all)
    ((c.first_pass.ensures.undetermined b nodes (c.in-Err.is ∙ ap Err e)).2 revealed known survivors)))

pub send_fetched-requires-clause-planned : goal.send_fetched-requires-clause-planned
send_fetched-requires-clause-planned g c =
    let v = c.args.ledger.now in
    let old = (g.D.Disk.state c.args.disk.now).files in
    let mid = (g.D.Disk.state c.first_pass.new.disk).files in
    let plan = c.in-Ok-first_pass.plan in
    planned_again g.D.Disk.reveals v old mid plan.search.unknown _ plan.fates (data_under (get v.objects c.args.name.now)) c.unknown.ensures.unknown c.first_pass.ensures.reads.contents c.in-Ok-first_pass.ensures.planned

pub returns-in-Ok-send_fetched-clause-fetched : goal.returns-in-Ok-send_fetched-clause-fetched
returns-in-Ok-send_fetched-clause-fetched g c =
    let v = c.args.ledger.now in
    let name = c.args.name.now in
    let reveals = g.D.Disk.reveals in
    let old = g.D.Disk.state c.args.disk.now in
    let mid = g.D.Disk.state c.first_pass.new.disk in
    let placed = placed_of (get v.objects name) c.in-Some.object (sym (ap (λ (m : Objects). option_map (λ p. p.object) (get m name)) c.catalog.ensures.objects) ∙ sym c.find.ensures ∙ c.in-Some.is) in
    let a = g.O.Sink.state c.args.out.now in
    let b = g.O.Sink.state c.send_fetched.new.out in
    let lies = c.catalog.ensures.within name placed.0 (ap (λ (m : Objects). get m name) c.catalog.ensures.objects ∙ placed.1) in
    let long : c.in-Some.object.length ≡ placed.0.object.length = ap (λ o. o.length) (sym placed.2) in
    (placed.0, placed.1, long, fetched_sent reveals v mid.files old.files c.first_pass.ensures.reads.contents (get v.objects name) placed.0 c.in-Some.object.length a b placed.1 long lies.sum lies.count c.in-Ok-send_fetched.ensures.sent)

pub returns-in-Ok-send_fetched-clause-own : goal.returns-in-Ok-send_fetched-clause-own
returns-in-Ok-send_fetched-clause-own g c revealed p datas under_name is_data honest =
    let v = c.args.ledger.now in
    let name = c.args.name.now in
    let reveals = g.D.Disk.reveals in
    let old = g.D.Disk.state c.args.disk.now in
    let a = g.O.Sink.state c.args.out.now in
    let b = g.O.Sink.state c.send_fetched.new.out in
    let got = returns-in-Ok-send_fetched-clause-fetched g c in
    let lies = c.catalog.ensures.within name p (ap (λ (m : Objects). get m name) c.catalog.ensures.objects ∙ under_name) in
    let same : got.0 ≡ p = same_placed (get v.objects name) got.0 p got.1 under_name in
    let some = c.survivors_are_revealed.ensures v.shape v.lattice.n v.digests old.files in
    own_fetched reveals v old.files p a b datas some.0 revealed is_data honest some.1 (known_of v c.lattice-lattice.result old.files some.0 c.lattice-lattice.ensures.value c.lattice-lattice.ensures.of_shape some.1) lies.apart
    (subst (λ (q : Placed). HasFetched reveals v old.files q a b) same got.3)

pub returns-in-Ok-send_fetched-clause-open_refused : goal.returns-in-Ok-send_fetched-clause-open_refused
returns-in-Ok-send_fetched-clause-open_refused g c revealed p known b nodes under_name survivors first =
    let v = c.args.ledger.now in
    let name = c.args.name.now in
    let under = data_under (get v.objects name) in
    absurd (never_first v.lattice known under b nodes (all_determined v.lattice known under c.first_pass.result c.in-Ok-first_pass.plan c.in-Ok-first_pass.is (c.first_pass.ensures.determined revealed known survivors))
    (subst (λ (bs : List BlockId). IsFirstOpen v.lattice known bs b nodes) (sym (ap data_under under_name)) first))

pub returns-in-Ok-send_fetched-clause-reads : goal.returns-in-Ok-send_fetched-clause-reads
returns-in-Ok-send_fetched-clause-reads g c =
    let v = c.args.ledger.now in
    let name = c.args.name.now in
    let reveals = g.D.Disk.reveals in
    let old = g.D.Disk.state c.args.disk.now in
    let mid = g.D.Disk.state c.first_pass.new.disk in
    let first = c.first_pass.result ≡ Err DiskFault in
    let second = c.send_fetched.result ≡ Err DiskFault in
    reads_as reveals second _ old (g.D.Disk.state c.send_fetched.new.disk) (λ is. let e = is in cc) (λ is. cc)
    (reads_both reveals first second old mid (g.D.Disk.state c.send_fetched.new.disk) (λ is. let ok = c.in-Ok-first_pass.is in cc) c.first_pass.ensures.reads c.send_fetched.ensures.reads)

pub returns-clause-open_refused : goal.returns-clause-open_refused
returns-clause-open_refused g c revealed p known b nodes under_name survivors first =
    let v = c.args.ledger.now in
    let name = c.args.name.now in
    let under = data_under (get v.objects name) in
    absurd (never_first v.lattice known under b nodes (all_determined v.lattice known under c.first_pass.result c.in-Ok-first_pass.plan c.in-Ok-first_pass.is (c.first_pass.ensures.determined revealed known survivors))
    (subst (λ (bs : List BlockId). IsFirstOpen v.lattice known bs b nodes) (sym (ap data_under under_name)) first))

pub returns-clause-clash : goal.returns-clause-clash
returns-clause-clash g c b revealed computed e =
    let is : c.in-Err-send_fetched.fault ≡ Clash b revealed computed = (let h = e in cc) in
    (c.send_fetched.ensures.clash b revealed computed (c.in-Err-send_fetched.is ∙ ap Err is)).0

pub returns-clause-computed : goal.returns-clause-computed
returns-clause-computed g c reveal known survivors b revealed computed e =
    let is : c.in-Err-send_fetched.fault ≡ Clash b revealed computed = (let h = e in cc) in
    absurd ((c.send_fetched.ensures.clash b revealed computed (c.in-Err-send_fetched.is ∙ ap Err is)).1 reveal)

pub returns-clause-no_clash : goal.returns-clause-no_clash
returns-clause-no_clash g c reveal records datas has are honest b revealed computed e =
    let is : c.in-Err-send_fetched.fault ≡ Clash b revealed computed = (let h = e in cc) in
    (c.send_fetched.ensures.clash b revealed computed (c.in-Err-send_fetched.is ∙ ap Err is)).1 reveal

pub returns-clause-complete : goal.returns-clause-complete
returns-clause-complete g c revealed p known under_name survivors all =
    inr (send_complete c.in-Err-send_fetched.fault c.in-Err-send_fetched.ensures.faults)

pub returns-clause-part : goal.returns-clause-part
returns-clause-part g c p under_name =
    let v = c.args.ledger.now in
    let name = c.args.name.now in
    let reveals = g.D.Disk.reveals in
    let old = g.D.Disk.state c.args.disk.now in
    let mid = g.D.Disk.state c.first_pass.new.disk in
    let placed = placed_of (get v.objects name) c.in-Some.object (sym (ap (λ (m : Objects). option_map (λ p. p.object) (get m name)) c.catalog.ensures.objects) ∙ sym c.find.ensures ∙ c.in-Some.is) in
    let a = g.O.Sink.state c.args.out.now in
    let b = g.O.Sink.state c.send_fetched.new.out in
    let same : placed.0 ≡ p = same_placed (get v.objects name) placed.0 p placed.1 under_name in
    let long : c.in-Some.object.length ≡ p.object.length = sym (ap (λ o. o.length) placed.2) ∙ ap (λ (q : Placed). q.object.length) same in
    inr (fetched_part reveals v mid.files old.files c.first_pass.ensures.reads.contents (get v.objects name) p c.in-Some.object.length a b (c.in-Err-send_fetched.fault ≡ WriteFault) under_name long c.in-Err-send_fetched.ensures.cut)

pub returns-clause-reads : goal.returns-clause-reads
returns-clause-reads g c =
    let v = c.args.ledger.now in
    let name = c.args.name.now in
    let reveals = g.D.Disk.reveals in
    let old = g.D.Disk.state c.args.disk.now in
    let mid = g.D.Disk.state c.first_pass.new.disk in
    let first = c.first_pass.result ≡ Err DiskFault in
    let second = c.send_fetched.result ≡ Err DiskFault in
    reads_as reveals second _ old (g.D.Disk.state c.send_fetched.new.disk) (λ is. c.in-Err-send_fetched.is ∙ (let h : c.in-Err-send_fetched.fault ≡ DiskFault = (let e = is in cc) in ap Err h)) (λ is. cc)
    (reads_both reveals first second old mid (g.D.Disk.state c.send_fetched.new.disk) (λ is. let ok = c.in-Ok-first_pass.is in cc) c.first_pass.ensures.reads c.send_fetched.ensures.reads)

pub returns-clause-in_room : goal.returns-clause-in_room
returns-clause-in_room g c p room under_name revealed enough =
    let v = c.args.ledger.now in
    let name = c.args.name.now in
    let placed = placed_of (get v.objects name) c.in-Some.object (sym (ap (λ (m : Objects). option_map (λ p. p.object) (get m name)) c.catalog.ensures.objects) ∙ sym c.find.ensures ∙ c.in-Some.is) in
    let same : p ≡ placed.0 = same_placed (get v.objects name) p placed.0 under_name placed.1 in
    let size : p.object.length ≡ c.in-Some.object.length = ap (λ (q : Placed). q.object.length) same ∙ ap (λ o. o.length) placed.2 in
    let cut = c.in-Err-send_fetched.ensures.cut in
    let most = most_bytes c.in-Some.object.length cut.payloads in
    let fits = cut.fits room revealed (omega (arith, most, size, enough)) in
    (λ e. fits.0 (let h = e in cc), fits.1)
