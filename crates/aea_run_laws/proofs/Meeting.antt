-- That runs over these archives meet all that is asked of them.
use Rattle.std.proofs.Common.{◌≡◌, ◌≢◌, ℕ, zero, suc, ◌<◌, Bool, true, false, List, [], ◌∷◌, ◌++◌, length, Some, refl, sym, ◌∙◌, ap, subst, arith, length-append}
use Rattle.std.specs.Prelude.{◌-◌, All, slice_index_or, vec_len, codes, decimal}
use Rattle.std.proofs.lemmas.Fmt.{decimal_digit}
use Rattle.std.specs.FinMap.{get}
use Rattle.std.specs.List.{Contains}
use Rattle.std.proofs.lemmas.List.Elements.{All-head}
use Rattle.aea_lattice.specs.declared.blocks.Class.{Class}
use Rattle.aea_lattice.specs.declared.blocks.Class.TheVariants.{Datum, Horiz, Right, Left}
use Rattle.aea_lattice.specs.declared.blocks.BlockId.{BlockId}
use Rattle.aea_lattice.specs.declared.grid.Lattice.{Lattice}
use Rattle.aea_lattice.specs.declared.shape.Shape.{Shape}
use Rattle.aea_lattice.specs.Blocks.{HasBlock, block_of}
use Rattle.aea_lattice.specs.Texts.{letter_of}
use Rattle.aea_lattice.specs.Data.{Determines}
use Rattle.aea_disk.specs.Files.{Files}
use Rattle.aea_disk.specs.Spaces.{Memory}
use Rattle.aea_io.specs.declared.sure.SureSink.{SureSink}
use Rattle.aea_catalog.specs.Catalogs.{Placed}
use Rattle.aea_envelope.specs.Facts.{CellsHaveLengths, CellsHaveParts}
use Rattle.aea_records.specs.Catalogued.{objects_of, placed_object, PlacesUnder}
use Rattle.aea_records.specs.Format.{Record, Object, Stored, stored_of, digests_of, spelled}
use Rattle.aea_records.specs.Laws.{HasOneReading, LedgersAreArchives, LedgersAreNotBad, ObjectsAreOfRecords}
use Rattle.aea_ledger.specs.Stops.{HasLedger}
use Rattle.aea_archive.specs.Blocks.{IsIntactBy, RevealsSurvivors}
use Rattle.aea_archive.specs.Laws.{PutsRecord}
use Rattle.aea_archive.specs.Next.{NewObject, object_blocks}
use Rattle.aea_archive.specs.Objects.{data_of, IsFirstWithout}
use Rattle.aea_command.specs.declared.refusal.Refusal.{Refusal}
use Rattle.aea_command.specs.declared.refusal.Refusal.TheVariants.{NoArchive, LedgerBad, UnknownName, Damaged, Undetermined}
use Rattle.aea_command.specs.Honest.{HasHonestSurvivors}
use Rattle.aea_command.specs.Lines.{newline}
use Rattle.aea_command_read.specs.Get.{HasObject, HasNoObject, HasDamagedDatum, GetCauses}
use Rattle.aea_report.specs.Laws.{HaveOneReading, ReportsAreNotBad, PrintedAreReports, PrintedReportsFit}
use Rattle.aea_verify.specs.Shown.{AcceptedAreFitting}
use Rattle.aea_command.specs.Openings.{OpeningCauses}
use Rattle.aea_command_read.specs.Scrub.{RevealsIntact, scrub_text}
use Rattle.aea_command_read.specs.Fetch.{HasOpenDatum, FetchCauses}
use Rattle.aea_dispatch.specs.declared.command.Command.TheVariants.{Get, Fetch, Scrub}
use Rattle.aea_run_laws.specs.Standing.{IsOneBlock, HasTheObject, HasLostSite}
use Rattle.aea_run_laws.specs.Meeting.{HasFiles, HasLeft, IsMet, RunsAreMet}
use Rattle.aea_run_laws.proofs.Adding.{fence_met, upgrade_met}
use Rattle.aea_run_laws.proofs.Explaining.{explain_met}
use Rattle.aea_run_laws.proofs.Logs.{log_with, has_one_image}
use Rattle.aea_run_laws.proofs.Memories.{memory_with, has_files}
use Rattle.aea_run_laws.proofs.OneBlock.{shape, one, stored, records, c, d, has_it, loses_it, whole_bare, lost_bare}
use Rattle.aea_run_laws.proofs.Over.{IsGround, meets, no_copies}
use Rattle.aea_run_laws.proofs.Readings.{same_lattice, same_survivors, of_one, not_true}
use Rattle.aea_run_laws.proofs.Repairing.{given, repair_met}
use Rattle.aea_run_laws.proofs.Verifying.{report_of, is_repair_text, verify_met}

-- one block is the first of a list of one
only_one : (a b : BlockId) (before after : List BlockId) → a ∷ [] ≡ before ++ b ∷ after → b ≡ a
only_one a b [] after are = sym (ap (λ (bs : List BlockId). slice_index_or bs 0 b) are)
only_one a b (x ∷ before) after are =
    let long = ap length are in
    let rest = length-append before (b ∷ after) in
    absurd (omega (arith, long, rest))

-- it is the only record
only_record : (r s : Record) → Contains (r ∷ []) s → s ≡ r
only_record r s (zero, below, is) = sym is
only_record r s (suc k, below, is) = absurd (omega (arith, below))

-- how long the text of a scrub is, by which of the four blocks are intact
abbrev by_class : (p q s t : Bool) → Class → Bool
by_class p q s t Datum = p
by_class p q s t Horiz = q
by_class p q s t Right = s
by_class p q s t Left = t

abbrev long_by : (p q s t : Bool) → ℕ
long_by p q s t = length (scrub_text one (λ b. by_class p q s t b.class))

-- that of one in which the datum is damaged, with these texts of the numbers 1 and 4
abbrev lost_long : List ℕ → List ℕ → ℕ
lost_long a b = length (((codes "damaged " ++ (letter_of Datum ∷ a) ++ newline) ++ []) ++ (codes "total " ++ b ++ (codes " damaged " ++ a) ++ newline))

lost_is : long_by false true true true ≡ 29
lost_is =
    (let same : long_by false true true true ≡ lost_long (decimal 1) (decimal 4) = refl in same)
    ∙ ap (λ (a : List ℕ). lost_long a (decimal 4)) (decimal_digit 1 (omega arith)) ∙ ap (lost_long (49 ∷ [])) (decimal_digit 4 (omega arith))

module _ (lengths : CellsHaveLengths) (parts : CellsHaveParts) (record_law : PutsRecord) (reading : HasOneReading) (archives : LedgersAreArchives) (bad : LedgersAreNotBad) (placing : ObjectsAreOfRecords) (o : NewObject) (is : IsOneBlock o) where
  abbrev r : Stored
  r = stored lengths parts record_law o is

  abbrev all : List Record
  all = records lengths parts record_law o is

  -- ---- over a disk that reads so

  module _ (x : Files) (ledger : HasLedger shape all (x 0)) (room spare : ℕ) (m : Memory) (ground : IsGround x room spare m) where
    -- the object is what is found
    found : (s : Shape) (rs : List Record) (p : Placed) → HasObject x o.name s rs p → (s ≡ shape) × ((rs ≡ all) × (p ≡ placed_object r))
    found s rs p there =
        let same = reading (x 0) s shape rs all _ _ there.ledger ledger in
        let at = placing all o.name p (subst (λ (l : List Record). get (objects_of l) o.name ≡ Some p) same.1.0 there.found) in
        (same.0, (same.1.0, (subst (PlacesUnder o.name p) (only_record (Object r) at.0 at.1) at.2).1))

    long_enough : (s : Shape) (rs : List Record) (p : Placed) → HasObject x o.name s rs p → p.object.length ≡ length o.bytes
    long_enough s rs p there = ap (λ (q : Placed). q.object.length) (found s rs p there).1.1

    named : HasNoObject (x 0) o.name → ⊥
    named none =
        let same = reading (x 0) none.shape shape none.records all _ _ none.ledger ledger in
        All-head (λ (q : Stored). q.name ≡ o.name → ⊥) r [] (subst (λ (l : List Record). All (λ (q : Stored). q.name ≡ o.name → ⊥) (stored_of l)) same.1.0 none.none) refl

    -- what is first of its data blocks is its datum
    datum_of : (s : Shape) (rs : List Record) (p : Placed) (good : BlockId → Type 0) (b : BlockId) → HasObject x o.name s rs p → IsFirstWithout good (data_of p.parts) b → good (block_of 1 Datum) → ⊥
    datum_of s rs p good b there first fine =
        let are : block_of 1 Datum ∷ [] ≡ first.before ++ b ∷ first.after = ap (λ (q : Placed). data_of q.parts) (sym (found s rs p there).1.1) ∙ first.are in
        first.bad (subst good (sym (only_one (block_of 1 Datum) b first.before first.after are)) fine)

    -- ---- the object is got

    get_unrefused : IsIntactBy shape r.digests x (block_of 1 Datum) → (why : Refusal) → GetCauses o.name x why → ⊥
    get_unrefused intact NoArchive cause = (archives (x 0) cause).0 shape all _ ledger
    get_unrefused intact (LedgerBad at) cause = bad (x 0) shape all _ at ledger cause
    get_unrefused intact UnknownName cause = named cause
    get_unrefused intact (Damaged block) cause =
        let h : HasDamagedDatum x o.name block = cause in
        let f = found h.shape h.records h.placed h.object in
        datum_of h.shape h.records h.placed (IsIntactBy h.shape (digests_of h.records) x) block h.object h.first
        (subst (λ (s : Shape). IsIntactBy s (digests_of h.records) x (block_of 1 Datum)) (sym f.0)
        (subst (λ (l : List Record). IsIntactBy shape (digests_of l) x (block_of 1 Datum)) (sym f.1.0) intact))
    get_unrefused intact why cause = cause

    pub get_met : IsIntactBy shape r.digests x (block_of 1 Datum) → (input : List ℕ) (out : SureSink) → HasLeft (length o.bytes) out → IsMet (Get o.name) m input out
    get_met intact input out left =
        meets x room spare m ground (Get o.name) input out tt
        (λ mid a name adopts. ground.roomy mid a name adopts)
        (λ files on same s rs p there.
        let long = long_enough s rs p (subst (λ (y : Files). HasObject y o.name s rs p) same there) in
        record { room = out.room - vec_len out.bytes; revealed = refl; enough = omega (arith, long, left) })
        (λ files on same. tt)
        (λ files on why same cause. get_unrefused intact why (subst (λ (y : Files). GetCauses o.name y why) same cause))

    -- ---- the object is fetched

    -- what the parity that is intact determines
    determined : (l : Lattice) (known : BlockId → Bool) → l ≡ one → RevealsSurvivors shape 1 r.digests x known → IsIntactBy shape r.digests x (block_of 1 Horiz) → Determines l known (block_of 1 Datum)
    determined l known is survivors intact = subst (λ (k : Lattice). Determines k known (block_of 1 Datum)) (sym is) (given known ((survivors (block_of 1 Horiz) (of_one Horiz)).1 intact))

    fetch_unrefused : IsIntactBy shape r.digests x (block_of 1 Horiz) → (why : Refusal) → FetchCauses o.name x why → ⊥
    fetch_unrefused intact NoArchive cause = (archives (x 0) cause).0 shape all _ ledger
    fetch_unrefused intact (LedgerBad at) cause = bad (x 0) shape all _ at ledger cause
    fetch_unrefused intact UnknownName cause = named cause
    fetch_unrefused intact (Undetermined block nodes) cause =
        let h : HasOpenDatum x o.name block nodes = cause in
        let lattice_is = same_lattice reading (x 0) all ledger refl refl h.shape h.records h.lattice h.object.ledger h.is_lattice in
        let survivors = same_survivors reading (x 0) all ledger refl refl r.digests refl h.shape h.records x h.known h.object.ledger h.survivors in
        datum_of h.shape h.records h.placed (Determines h.lattice h.known) block h.object h.first.first (determined h.lattice h.known lattice_is survivors intact)
    fetch_unrefused intact why cause = cause

    pub fetch_met : IsIntactBy shape r.digests x (block_of 1 Horiz) → HasHonestSurvivors x → (input : List ℕ) (out : SureSink) → HasLeft (length o.bytes) out → IsMet (Fetch o.name) m input out
    fetch_met intact honest input out left =
        meets x room spare m ground (Fetch o.name) input out tt
        (λ mid a name adopts. ground.roomy mid a name adopts)
        (λ files on same s rs p there.
        let long = long_enough s rs p (subst (λ (y : Files). HasObject y o.name s rs p) same there) in
        record { room = out.room - vec_len out.bytes; revealed = refl; enough = omega (arith, long, left) })
        (λ files on same. subst HasHonestSurvivors (sym same) honest)
        (λ files on why same cause. fetch_unrefused intact why (subst (λ (y : Files). FetchCauses o.name y why) same cause))

    -- ---- the archive is scrubbed, where the datum alone is damaged

    scrub_unrefused : (why : Refusal) → OpeningCauses (x 0) why → ⊥
    scrub_unrefused NoArchive cause = (archives (x 0) cause).0 shape all _ ledger
    scrub_unrefused (LedgerBad at) cause = bad (x 0) shape all _ at ledger cause
    scrub_unrefused why cause = cause

    scrub_long : (IsIntactBy shape r.digests x (block_of 1 Datum) → ⊥) → ((k : Class) → k ≢ Datum → IsIntactBy shape r.digests x (block_of 1 k))
        → (l : Lattice) (intact : BlockId → Bool) → RevealsIntact x l intact → length (scrub_text l intact) ≡ 29
    scrub_long gone still l intact reveals =
        let lattice_is = same_lattice reading (x 0) all ledger refl refl reveals.shape reveals.records l reveals.ledger reveals.lattice in
        let survivors = same_survivors reading (x 0) all ledger refl refl r.digests refl reveals.shape reveals.records x intact reveals.ledger reveals.survivors in
        let whole_one : (k : Class) → k ≢ Datum → intact (block_of 1 k) ≡ true = λ k other. (survivors (block_of 1 k) (of_one k)).1 (still k other) in
        ap (λ (a : Lattice). length (scrub_text a intact)) lattice_is
        ∙ ap (λ (b : Bool). long_by b (intact (block_of 1 Horiz)) (intact (block_of 1 Right)) (intact (block_of 1 Left))) (not_true (intact (block_of 1 Datum)) (λ yes. gone ((survivors (block_of 1 Datum) (of_one Datum)).0 yes)))
        ∙ ap (λ (b : Bool). long_by false b (intact (block_of 1 Right)) (intact (block_of 1 Left))) (whole_one Horiz (λ e. cc))
        ∙ ap (λ (b : Bool). long_by false true b (intact (block_of 1 Left))) (whole_one Right (λ e. cc))
        ∙ ap (λ (b : Bool). long_by false true true b) (whole_one Left (λ e. cc)) ∙ lost_is

    pub scrub_met : (IsIntactBy shape r.digests x (block_of 1 Datum) → ⊥) → ((k : Class) → k ≢ Datum → IsIntactBy shape r.digests x (block_of 1 k)) → (input : List ℕ) (out : SureSink) → HasLeft 29 out → IsMet Scrub m input out
    scrub_met gone still input out left =
        meets x room spare m ground Scrub input out tt
        (λ mid a name adopts. ground.roomy mid a name adopts)
        (λ files on same l intact reveals.
        let long = scrub_long gone still l intact (subst (λ (y : Files). RevealsIntact y l intact) same reveals) in
        record { room = out.room - vec_len out.bytes; revealed = refl; enough = omega (arith, long, left) })
        (λ files on same. tt)
        (λ files on why same cause. scrub_unrefused why (subst (λ (y : Files). OpeningCauses (y 0) why) same cause))

pub runs_are_met : CellsHaveLengths → CellsHaveParts → PutsRecord → HasOneReading → LedgersAreArchives → LedgersAreNotBad → ObjectsAreOfRecords → HaveOneReading → ReportsAreNotBad → PrintedAreReports → PrintedReportsFit → AcceptedAreFitting → RunsAreMet
runs_are_met lengths parts record_law reading archives bad placing report_reading report_bad reports fit accepted o is =
    let whole = c lengths parts record_law o is in
    let lost = d lengths parts record_law o is in
    let r = stored lengths parts record_law o is in
    let all = records lengths parts record_law o is in
    let has : HasTheObject shape one r o whole = has_it lengths parts record_law o is in
    let loses : HasLostSite shape one r o whole lost = loses_it lengths parts record_law o is in
    let few = whole_bare lengths parts record_law o is in
    let few_too = lost_bare lengths parts record_law o is in
    let bare : (f : ℕ) → 64 < f → whole f ≡ [] = λ f far. few f (omega (arith, far)) in
    let bare_too : (f : ℕ) → 64 < f → lost f ≡ [] = λ f far. few_too f (omega (arith, far)) in
    let over : (room : ℕ) (m : Memory) → HasFiles whole room m → IsGround whole room 0 m = λ room m there. no_copies whole bare room m there in
    let over_too : (room : ℕ) (m : Memory) → HasFiles lost room m → IsGround lost room 0 m = λ room m there. no_copies lost bare_too room m there in
    let ledger_too : HasLedger shape all (lost 0) = subst (HasLedger shape all) (sym (loses.loses.others 0 (omega arith))) has.ledger in
    let still : (k : Class) → k ≢ Datum → IsIntactBy shape r.digests lost (block_of 1 k) = λ k other. loses.others (block_of 1 k) (has_of k) (λ e. other (ap (λ (b : BlockId). b.class) e)) in
    let honest : HasHonestSurvivors lost = record {
      shape = shape;
      records = all;
      ledger = ledger_too;
      lattice = one;
      is_lattice = has.lattice;
      datas = object_blocks shape o.bytes;
      recorded = has.recorded;
      honest = loses.honest;
    } in (
      shape,
      one,
      r,
      whole,
      lost,
      has,
      loses,
      log_with whole few,
      log_with lost few_too,
      has_one_image whole few,
      has_one_image lost few_too,
      λ room. (memory_with whole room, memory_with lost room, has_files whole room bare, has_files lost room bare_too),
      λ input. record {
        get = λ room m out large there left. get_met lengths parts record_law reading archives bad placing o is whole has.ledger room 0 m (over room m there) (has.intact (block_of 1 Datum) (has_of Datum)) input out left;
        fetch = λ room m out large there left. fetch_met lengths parts record_law reading archives bad placing o is lost ledger_too room 0 m (over_too room m there) (still Horiz (λ e. cc)) honest input out left;
        scrub = λ room m out large there left. scrub_met lengths parts record_law reading archives bad placing o is lost ledger_too room 0 m (over_too room m there) loses.damaged still input out left;
        explain = λ b inside room m out large there left. explain_met reading archives bad lost all ledger_too refl refl room 0 m (over_too room m there) b inside input out left;
        repair = λ room m out large there left. repair_met reading archives bad lost all ledger_too refl refl r.digests refl loses.damaged still honest room 0 large m (over_too room m there) input out left;
        fence = λ room m out large there left. fence_met reading archives bad whole all has.ledger room 0 (omega (arith, large)) m (over room m there) refl refl input out left;
        upgrade = λ room m out large there left. upgrade_met reading archives bad whole all has.ledger room 0 (omega (arith, large)) m (over room m there) refl input out left;
      },
      report_of (spelled shape all),
      record {
        is = is_repair_text reading archives bad report_reading report_bad reports fit accepted all refl refl r.digests refl lost ledger_too has.lattice loses.damaged still;
        verify = λ room m out large there left. verify_met reading archives bad report_reading report_bad reports fit accepted all refl refl r.digests refl whole has.ledger has.intact room 0 m (over room m there) out left;
      },
    )
  where
    has_of : (k : Class) → HasBlock one (block_of 1 k)
    has_of Datum = record { first = omega arith; last = omega arith; used = omega arith }
    has_of Horiz = record { first = omega arith; last = omega arith; used = omega arith }
    has_of Right = record { first = omega arith; last = omega arith; used = omega arith }
    has_of Left = record { first = omega arith; last = omega arith; used = omega arith }
