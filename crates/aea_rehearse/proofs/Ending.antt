-- The end of a rehearsal: from what was altered and what was restored to what is promised.
use Rattle.std.proofs.Common.{◌≡◌, inl, inr, ℕ, zero, suc, ◌+◌, ◌*◌, ◌^◌, ◌<◌, ◌≤◌, Bool, true, false, List, [], ◌∷◌, length, length-append, Some, refl, sym, ◌∙◌, ap, subst, arith}
use Rattle.std.specs.Prelude.{IsTrue}
use Rattle.std.proofs.lemmas.List.{append-nil}
use Rattle.sha2.specs.Sha256.{sha256}
use Rattle.aea_lattice.specs.declared.blocks.BlockId.{BlockId}
use Rattle.aea_lattice.specs.declared.grid.Lattice.{Lattice}
use Rattle.aea_lattice.specs.declared.shape.Shape.{Shape}
use Rattle.aea_lattice.specs.Blocks.{HasBlock}
use Rattle.aea_lattice.specs.Data.{Determines}
use Rattle.aea_disk.specs.Files.{Files}
use Rattle.aea_disk.specs.State.{State}
use Rattle.aea_disk.specs.Frames.{OnlyReads}
use Rattle.aea_envelope.specs.Facts.{CellsHaveLengths, CellsHaveParts}
use Rattle.aea_shelf.specs.Places.{site_bytes}
use Rattle.aea_report.specs.declared.head.Head.{Head}
use Rattle.aea_report.specs.declared.line.Line.{Line}
use Rattle.aea_report.specs.Format.{report_bytes}
use Rattle.aea_report.specs.Grammar.{IsReport}
use Rattle.aea_report.specs.Printed.{IsPrinted}
use Rattle.aea_report.specs.Fits.{Fits}
use Rattle.aea_records.specs.Format.{Stored, Object, nodes_for, spelled}
use Rattle.aea_records.specs.Laws.{HasOneReading, IsSomeLedger}
use Rattle.aea_ledger.specs.Recorded.{IsLatticeOf, AreRecordsOf}
use Rattle.aea_ledger.specs.Values.{Opened, HasRecords, IsThisOne}
use Rattle.aea_ledger.specs.Stops.{HasLedger}
use Rattle.aea_archive.specs.Blocks.{IsIntactBy, RevealsSurvivors}
use Rattle.aea_archive.specs.Data.{AreSurvivorsHonest, IsDamagePlain}
use Rattle.aea_archive.proofs.Records.{one_lattice}
use Rattle.aea_repair.specs.declared.outcome.Outcome.{Outcome}
use Rattle.aea_rehearse.specs.Rehearsed.{IsRehearsalShape, flipped_cell, woven_payload, is_unaltered, rehearsal_data, IsRehearsed, IsRehearsalRecord, object_bytes}
use Rattle.aea_rehearse.specs.Rooms.{HasCellsRoom, report_room}
use Rattle.aea_rehearse.specs.Generator.{state_after, byte_of, bytes_from}
use Rattle.aea_rehearse.specs.Building.{AreWoven, AreLeft, IsBuilt}
use Rattle.aea_rehearse.specs.Checking.{IsReady}
use Rattle.aea_rehearse.specs.Altered.{IsAlteredAt, IsAltered, IsRestored, HasNumbers}
use Rattle.aea_rehearse.specs.declared.rehearsal.Rehearsal.{Rehearsal}
use Rattle.aea_rehearse.proofs.Built.{nodes-512}
use Rattle.aea_rehearse.proofs.Homes.{block_in_shape, cells_willing, rows-short, willing_after}
use Rattle.aea_rehearse.proofs.ReportRoom.{report-short}
use Rattle.aea_rehearse.proofs.Struck.{left_by_number, is_struck, struck_reveals, struck_honest, struck_plain}
use Rattle.aea_rehearse.proofs.Turning.{length-flipped_cell}

-- The altered archive by what was opened of it: the same shape and lattice, and the one record.
pub record IsAlteredIn (number nodes permille : ℕ) (v : Opened) (stored : Stored) (c : Files) : Type 0 where
  pub is_shape : IsRehearsalShape v.shape
  pub is_lattice : IsLatticeOf v.shape nodes [] v.lattice
  pub is_stored : IsRehearsalRecord (object_bytes v.lattice number) stored
  pub has : HasRecords v (Object stored ∷ [])
  pub ledger : HasLedger v.shape (Object stored ∷ []) (c 0)
  pub recorded : AreRecordsOf v.shape (Object stored ∷ []) (rehearsal_data v.shape v.lattice number)
  pub digests : v.digests ≡ stored.digests
  pub altered : IsAlteredAt number permille v.shape v.lattice v.digests c

pub altered_in : HasOneReading → (number nodes permille : ℕ) (c : Files) (v : Opened) → (a : IsAltered number nodes permille c) → IsThisOne v (c 0) → IsAlteredIn number nodes permille v a.stored c
altered_in law number nodes permille c v a this =
    let one = law (c 0) a.shape v.shape (Object a.stored ∷ []) this.records (length (spelled a.shape (Object a.stored ∷ []))) v.end a.ledger this.ledger in
    let has : HasRecords v (Object a.stored ∷ []) = subst (HasRecords v) (sym one.1.0) this.has in
    let digests : v.digests ≡ a.stored.digests = has.digests ∙ append-nil a.stored.digests in
    let recs = Object a.stored ∷ [] in
    let lat_v : IsLatticeOf v.shape nodes [] v.lattice = record { alpha = has.lattice.alpha; s = has.lattice.s; p = has.lattice.p; n = has.lattice.n ∙ a.count; fences_are = has.lattice.fences_are } in
    let lat_a : IsLatticeOf v.shape nodes [] a.lattice = subst (λ (s : Shape). IsLatticeOf s nodes [] a.lattice) one.0 a.is_lattice in
    let lat : a.lattice ≡ v.lattice = one_lattice v.shape nodes [] a.lattice v.lattice lat_a lat_v in
    record {
      is_shape = subst IsRehearsalShape one.0 a.is_shape;
      is_lattice = lat_v;
      is_stored = subst (λ (l : Lattice). IsRehearsalRecord (object_bytes l number) a.stored) lat a.is_stored;
      has = has;
      ledger = subst (λ (s : Shape). HasLedger s recs (c 0)) one.0 a.ledger;
      recorded = subst (λ (s : Shape). AreRecordsOf s recs (rehearsal_data s v.lattice number)) one.0 (subst (λ (l : Lattice). AreRecordsOf a.shape recs (rehearsal_data a.shape l number)) lat a.recorded);
      digests = digests;
      altered = subst (λ (ds : List (List ℕ)). IsAlteredAt number permille v.shape v.lattice ds c) (sym digests)
          (subst (λ (s : Shape). IsAlteredAt number permille s v.lattice a.stored.digests c) one.0 (subst (λ (l : Lattice). IsAlteredAt number permille a.shape l a.stored.digests c) lat a.altered));
    }

module _ (lengths : CellsHaveLengths) (parts : CellsHaveParts) where
  -- a printed report of an archive of this shape has no more bytes than there is space for: of any archive whose report is printed
  -- on a sink with space for it
  pub fits_room : (nodes room : ℕ) (fences : List ℕ) (v : Opened) (h : Head) (lines : List Line) (known : BlockId → Bool) → IsRehearsalShape v.shape → IsLatticeOf v.shape nodes fences v.lattice → nodes ≤ 2000 → room ≡ report_room nodes
      → IsReport (report_bytes h lines) h lines → IsPrinted v.lattice known (Some v.seal) h lines → length (report_bytes h lines) ≤ room
  fits_room nodes room fences v h lines known shape lat few same report printed =
      let l = report.lattice in
      let alpha : l.alpha ≡ 3 = sym report.head.alpha ∙ printed.alpha ∙ lat.alpha ∙ shape.alpha in
      let s : l.s ≡ 2 = sym report.head.s ∙ printed.s ∙ lat.s ∙ shape.s in
      let p : l.p ≡ 5 = sym report.head.p ∙ printed.p ∙ lat.p ∙ shape.p in
      let n : l.n ≡ nodes = sym report.head.n ∙ printed.n ∙ lat.n in
      let short = report-short l h lines alpha (omega (arith, s)) (omega (arith, p)) (omega (arith, n, few)) report.head report.valid in
      let P : ℕ → Type 0 = λ k. length (report_bytes h lines) ≤ k in
      subst P (sym same) (subst P (ap report_room n) short)

  -- the altered archive may be repaired
  pub is_ready : (number nodes permille room : ℕ) (v : Opened) (stored : Stored) (s : State) → nodes ≤ 2000 → room ≡ report_room nodes → HasCellsRoom s → IsAlteredIn number nodes permille v stored s.files → IsReady v s room
  is_ready number nodes permille room v stored s few same cells i =
      let known = is_unaltered v.shape v.lattice number permille in
      let payload = woven_payload v.shape v.lattice number in
      let struck = is_struck v number permille s.files i.altered in
      record {
        records = Object stored ∷ [];
        datas = rehearsal_data v.shape v.lattice number;
        has = i.has;
        recorded = i.recorded;
        honest = struck_honest lengths parts v known payload s.files struck (rehearsal_data v.shape v.lattice number) (λ b. refl);
        plain = struck_plain lengths parts v known payload s.files struck;
        willing = cells_willing s cells;
        sites = λ f first last.
            let count = i.is_shape.sites in
            let n = i.is_lattice.n in
            cells.sites f (site_bytes v.shape v.lattice.n) first (omega (arith, last, count)) (rows-short v.shape v.lattice.n i.is_shape (omega (arith, n, few)));
        known = known;
        survivors = struck_reveals lengths parts v known payload s.files struck i.is_lattice.alpha;
        fits = λ h lines report printed. fits_room nodes room [] v h lines known i.is_shape i.is_lattice few same report printed;
      }

-- a known block is determined
known_determined : (l : Lattice) (known : BlockId → Bool) (b : BlockId) → HasBlock l b → IsTrue (known b) → Determines l known b
known_determined l known b has is w xs ys is_xs is_ys agree = agree b has is

not_known : (x : Bool) → (x ≡ true → ⊥) → x ≡ false
not_known true denied = absurd (denied refl)
not_known false denied = refl

-- an outcome has numbers of 32 bits
pub small_outcome : CellsHaveLengths → CellsHaveParts → HasOneReading → (number nodes permille : ℕ) (c d : Files) (o : Outcome) → IsAltered number nodes permille c → IsRestored c d o → o.peeled + o.solved + o.lost < 2 ^ 32
small_outcome lengths parts law number nodes permille c d o a done =
    let v = done.opened in
    let m = done.mended in
    let i = altered_in law number nodes permille c v a done.this in
    let known = is_unaltered v.shape v.lattice number permille in
    let struck = is_struck v number permille c i.altered in
    let printed = m.printed known (struck_reveals lengths parts v known (woven_payload v.shape v.lattice number) c struck i.is_lattice.alpha) in
    let all = printed.counted.damaged in let p = m.numbers.peeled in let s = m.numbers.solved in let l = m.numbers.lost in
    let small = m.report.head.damaged in
    omega (arith, all, p, s, l, small)

-- What was altered, and then restored, was rehearsed.
pub is_rehearsed : CellsHaveLengths → CellsHaveParts → HasOneReading → (number nodes permille : ℕ) (c d : Files) (o : Outcome) (r : Rehearsal) → IsAltered number nodes permille c → IsRestored c d o → HasNumbers nodes o r
    → IsRehearsed number nodes permille d r
is_rehearsed lengths parts law number nodes permille c d o r a done counts =
    let v = done.opened in
    let m = done.mended in
    let stored = a.stored in
    let i = altered_in law number nodes permille c v a done.this in
    let known = is_unaltered v.shape v.lattice number permille in
    let payload = woven_payload v.shape v.lattice number in
    let struck = is_struck v number permille c i.altered in
    let reveals = struck_reveals lengths parts v known payload c struck i.is_lattice.alpha in
    let plain = struck_plain lengths parts v known payload c struck in
    let restores = m.restores known reveals in
    let seal : v.seal ≡ sha256 (spelled v.shape (Object stored ∷ [])) = i.has.seal in
    let printed = m.printed known reveals in
    let to = λ (b : BlockId) (is : IsIntactBy v.shape stored.digests d b). subst (λ (ds : List (List ℕ)). IsIntactBy v.shape ds d b) (sym i.digests) is in
    let from = λ (b : BlockId) (is : IsIntactBy v.shape v.digests d b). subst (λ (ds : List (List ℕ)). IsIntactBy v.shape ds d b) i.digests is in
    let determined = λ (b : BlockId) (has : HasBlock v.lattice b) (is : Determines v.lattice known b). from b (restores.determined (inl refl) b has is) in
    record {
      shape = v.shape;
      is_shape = i.is_shape;
      lattice = v.lattice;
      is_lattice = i.is_lattice;
      stored = stored;
      is_stored = i.is_stored;
      ledger = subst (λ (xs : List ℕ). HasLedger v.shape (Object stored ∷ []) xs) (sym m.ledger) i.ledger;
      recorded = i.recorded;
      intact = λ b has. (
        λ is. inr (restores.plain (inl refl) plain b has (to b is)),
        λ either. elim either [ inl is ↦ determined b has (known_determined v.lattice known b has is) | inr is ↦ determined b has is ],
      );
      others = λ b has bad.
          let damaged : known b ≡ false = not_known (known b) (λ is. bad (determined b has (known_determined v.lattice known b has is))) in
          let wide = i.altered.wide b has in
          m.stays known reveals b (flipped_cell b (payload b)) (block_in_shape v.shape v.lattice b i.is_lattice.alpha has)
          (λ restorable. bad (determined b has restorable.determined))
          (omega (arith, wide, length-flipped_cell lengths b (payload b)))
          (struck.other_at b has damaged).here;
      head = m.head;
      lines = m.lines;
      printed = subst (λ (xs : List ℕ). IsPrinted v.lattice known (Some xs) m.head m.lines) seal printed;
      counts = record {
        blocks = counts.blocks ∙ omega (arith, ap (λ (k : ℕ). v.lattice.n * (1 + k)) (i.is_lattice.alpha ∙ i.is_shape.alpha), i.is_lattice.n);
        damaged = (let one = counts.damaged in let p = m.numbers.peeled in let s = m.numbers.solved in let l = m.numbers.lost in let all = printed.counted.damaged in omega (arith, one, p, s, l, all));
        peeled = counts.peeled ∙ m.numbers.peeled;
        solved = counts.solved ∙ m.numbers.solved;
        lost = counts.lost ∙ m.numbers.lost;
      };
      accepted = λ test revealed.
          subst (λ (xs : List ℕ). Fits v.lattice xs test m.head m.lines) seal
          (m.fits test (subst (λ (n : ℕ). RevealsSurvivors v.shape n v.digests d test) (sym i.is_lattice.n) (subst (λ (ds : List (List ℕ)). RevealsSurvivors v.shape nodes ds d test) (sym i.digests) revealed)));
    }

-- the altered archive is a ledger
pub altered_some : (number nodes permille : ℕ) (c : Files) → IsAltered number nodes permille c → IsSomeLedger (c 0)
altered_some number nodes permille c a = record { shape = a.shape; records = Object a.stored ∷ []; end = length (spelled a.shape (Object a.stored ∷ [])); ledger = a.ledger }

-- so many bytes are generated
pub length-bytes_from : (x k : ℕ) → length (bytes_from x k) ≡ k
length-bytes_from x zero = refl
length-bytes_from x (suc k) = let rest = length-bytes_from x k in omega (arith, rest, length-append (bytes_from x k) (byte_of (state_after x (suc k)) ∷ []))

pub whole_nodes : (shape : Shape) (nodes : ℕ) (bytes : List ℕ) → IsRehearsalShape shape → length bytes ≡ nodes * 512 → nodes_for shape (length bytes) ≡ nodes
whole_nodes shape nodes bytes is long = let one = nodes-512 shape (length bytes) is in omega (arith, one, long)

-- What was built and gone through is altered.
pub is_altered_archive : (number nodes permille : ℕ) (bytes : List ℕ) (v : Opened) (c d : Files) → bytes ≡ bytes_from number (nodes * 512) → IsBuilt bytes v c → d 0 ≡ c 0
    → ((payload : BlockId → List ℕ) → AreWoven v payload c → AreLeft v (state_after number (nodes * 512)) permille payload d) → IsAltered number nodes permille d
is_altered_archive number nodes permille bytes v c d are built same left =
    let long : length bytes ≡ nodes * 512 = ap length are ∙ length-bytes_from number (nodes * 512) in
    let n : v.lattice.n ≡ nodes = built.nodes ∙ whole_nodes v.shape nodes bytes built.shape long in
    let own : bytes ≡ object_bytes v.lattice number = are ∙ ap (λ (k : ℕ). bytes_from number (k * 512)) (sym n) in
    let b : IsBuilt (object_bytes v.lattice number) v c = subst (λ (xs : List ℕ). IsBuilt xs v c) own built in
    let payload = woven_payload v.shape v.lattice number in
    let gone : AreLeft v (state_after number (v.lattice.n * 512)) permille payload d = subst (λ (k : ℕ). AreLeft v (state_after number (k * 512)) permille payload d) (sym n) (left payload b.woven) in
    let digests : v.digests ≡ b.stored.digests = b.has.digests ∙ append-nil b.stored.digests in
    record {
      shape = v.shape;
      is_shape = b.shape;
      lattice = v.lattice;
      is_lattice = record { alpha = b.has.lattice.alpha; s = b.has.lattice.s; p = b.has.lattice.p; n = n; fences_are = b.has.lattice.fences_are };
      stored = b.stored;
      is_stored = b.is_stored;
      count = sym b.has.lattice.n ∙ n;
      ledger = subst (λ (xs : List ℕ). HasLedger v.shape (Object b.stored ∷ []) xs) (sym same) b.ledger;
      recorded = b.recorded;
      altered = subst (λ (ds : List (List ℕ)). IsAlteredAt number permille v.shape v.lattice ds d) digests
          (record { wide = b.woven.recorded.wide; recorded = b.woven.recorded.digests; left = left_by_number v number permille d gone });
    }

-- what is ready stays so while nothing is written
pub ready_later : (reveals : Type 0) (v : Opened) (old new : State) (room : ℕ) → reveals → OnlyReads reveals ⊥ old new → IsReady v old room → IsReady v new room
ready_later reveals v old new room revealed reads ready =
    let same = reads.contents revealed in
    record {
      records = ready.records;
      datas = ready.datas;
      has = ready.has;
      recorded = ready.recorded;
      honest = subst (λ (c : Files). AreSurvivorsHonest v.shape v.lattice v.digests ready.datas c) (sym same) ready.honest;
      plain = subst (λ (c : Files). IsDamagePlain v.shape v.lattice v.digests c) (sym same) ready.plain;
      willing = willing_after old new reads.time ready.willing;
      sites = λ f first last. reads.time.room f (site_bytes v.shape v.lattice.n) (ready.sites f first last);
      known = ready.known;
      survivors = subst (λ (c : Files). RevealsSurvivors v.shape v.lattice.n v.digests c ready.known) (sym same) ready.survivors;
      fits = ready.fits;
    }
