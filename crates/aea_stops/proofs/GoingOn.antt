-- What stops leave of runs that go on from them.
use Rattle.std.proofs.Common.{◌≡◌, ◌⊎◌, inl, inr, ⊎_elim, ℕ, zero, suc, ◌≤◌, List, [], ◌∷◌, ◌++◌, length, take, drop, refl, sym, ◌∙◌, ap, subst, arith, length-append, append_assoc}
use Rattle.std.proofs.lemmas.Bool.{cases_lt}
use Rattle.std.proofs.lemmas.List.{append-nil, take-append-drop, length-take-le}
use Rattle.aea_lattice.specs.declared.blocks.BlockId.{BlockId}
use Rattle.aea_lattice.specs.declared.grid.Lattice.{Lattice}
use Rattle.aea_lattice.specs.declared.shape.Shape.{Shape}
use Rattle.aea_disk.specs.Files.{Files}
use Rattle.aea_disk.specs.State.{State, EveryImage, IsFixed, KeepsImages}
use Rattle.aea_envelope.specs.Facts.{CellsHaveLengths, CellsHaveParts}
use Rattle.aea_records.specs.Format.{Stored, Record, Joined, digests_of, spelled}
use Rattle.aea_records.specs.Laws.{HasOneReading, DigestsAreCounted}
use Rattle.aea_ledger.specs.Stops.{HasLedger, HasOpening}
use Rattle.aea_ledger.specs.Values.{Opened}
use Rattle.aea_shelf.specs.Places.{home_file}
use Rattle.aea_shelf.proofs.Cells.{intact_same}
use Rattle.aea_shelf.proofs.Runs.{no_home_in_ledger}
use Rattle.aea_archive.specs.Blocks.{recorded_in}
use Rattle.aea_archive.specs.Next.{NewObject, AreNextRecords}
use Rattle.aea_archive.specs.Stretches.{HasAtLeast, HasPrefix}
use Rattle.aea_messages.specs.declared.message.Message.{Message}
use Rattle.aea_machine.specs.Closings.{Closing, IsNextClosed, AreClosedRecords}
use Rattle.aea_machine.specs.Machine.{runs_of}
use Rattle.aea_command.specs.Failures.{Answer}
use Rattle.aea_command.specs.Openings.{OpensOr, OpensThen}
use Rattle.aea_command.proofs.OpeningCases.{opening_more}
use Rattle.aea_command_store.specs.Adding.{AddsRecord}
use Rattle.aea_command_store.specs.Fence.{next_fence}
use Rattle.aea_stops.specs.GoingOn.{PutRun, IngestRun, SessionRun, RunKind, Putting, Ingesting, Sessioning, Fencing, Raising, Leaving, DoesRun, StoppedRun, IsPutOf, AreRecordsFor, IsUnadded, IsAdded, IsLeftBy, IsFoundOf, KeepsBlocks, AllSpareBlocks, StopsKeepPuts}
use Rattle.aea_command_store.specs.Growing.{Grows}
use Rattle.aea_command_store.specs.Ingest.{MayBeLast, StoresFrames, GrowsSurely}
use Rattle.aea_command_store.specs.Put.{EndsStored, MayHavePut, Stores}
use Rattle.aea_command_store.specs.Upgrade.{next_raise}
use Rattle.aea_command_session.specs.Closes.{ClosesAll, closes_of}
use Rattle.aea_session.specs.Closes.{IsRecordOfClose, AreRecordsOfCloses}
use Rattle.aea_command_session.specs.Session.{Sessions}
use Rattle.aea_stops.proofs.KeptBlocks.{blocks_left}
use Rattle.aea_stops.proofs.Serving.{zeros, Began, begun_over, surely_closed}

-- ---- the records of the first objects

first_records : (shape : Shape) (l m : Lattice) (payload : BlockId → List ℕ) (objects : List NewObject) (added : List Record) (count : ℕ) → AreNextRecords shape l m payload objects added → AreRecordsFor (take count objects) (take count added)
first_records shape l m payload [] [] zero are = tt
first_records shape l m payload [] [] (suc k) are = tt
first_records shape l m payload [] (r ∷ added) count none = absurd none
first_records shape l m payload (o ∷ objects) [] count none = absurd none
first_records shape l m payload (o ∷ objects) (r ∷ added) zero are = tt
first_records shape l m payload (o ∷ objects) (r ∷ added) (suc k) are =
    ((are.1, are.2, are.3.name_is, are.3.size, are.3.digest), first_records shape are.0 m payload objects added k are.4)

as_many : (shape : Shape) (l m : Lattice) (payload : BlockId → List ℕ) (objects : List NewObject) (added : List Record) → AreNextRecords shape l m payload objects added → length objects ≡ length added
as_many shape l m payload [] [] are = refl
as_many shape l m payload [] (r ∷ added) none = absurd none
as_many shape l m payload (o ∷ objects) [] none = absurd none
as_many shape l m payload (o ∷ objects) (r ∷ added) are = ap suc (as_many shape are.0 m payload objects added are.4)

-- the record of the next close is that of the close
record_of : (shape : Shape) (l m : Lattice) (payload : BlockId → List ℕ) (c : Closing) (r : Record) (o : Stored) → r ≡ Joined o (runs_of c.nodes) → IsNextClosed shape l m payload c o → IsRecordOfClose c r
record_of shape l m payload c r o is next = (o, is, next.name_is, next.size, next.digest, next.count)

first_closes : (shape : Shape) (l m : Lattice) (payload : BlockId → List ℕ) (closings : List Closing) (added : List Record) (count : ℕ) → AreClosedRecords shape l m payload closings added → AreRecordsOfCloses (take count closings) (take count added)
first_closes shape l m payload [] [] zero are = tt
first_closes shape l m payload [] [] (suc k) are = tt
first_closes shape l m payload [] (r ∷ added) count none = absurd none
first_closes shape l m payload (c ∷ closings) [] count none = absurd none
first_closes shape l m payload (c ∷ closings) (r ∷ added) zero are = tt
first_closes shape l m payload (c ∷ closings) (r ∷ added) (suc k) are = (record_of shape l are.0 payload c r are.1 are.2 are.3, first_closes shape are.0 m payload closings added k are.4)

as_many_closes : (shape : Shape) (l m : Lattice) (payload : BlockId → List ℕ) (closings : List Closing) (added : List Record) → AreClosedRecords shape l m payload closings added → length closings ≡ length added
as_many_closes shape l m payload [] [] are = refl
as_many_closes shape l m payload [] (r ∷ added) none = absurd none
as_many_closes shape l m payload (c ∷ closings) [] none = absurd none
as_many_closes shape l m payload (c ∷ closings) (r ∷ added) are = ap suc (as_many_closes shape are.0 m payload closings added are.4)

-- the first of none, and of one
first_of_none : (count : ℕ) → (let none : List Record = [] in take count none ≡ [])
first_of_none zero = refl
first_of_none (suc k) = refl

none_after : (count : ℕ) → (let none : List NewObject = [] in take count none ≡ [])
none_after zero = refl
none_after (suc k) = refl

no_record : (objects : List NewObject) (added : List Record) → objects ≡ [] → length objects ≡ length added → added ≡ []
no_record objects [] none same = refl
no_record objects (r ∷ added) none same = let h = ap length none in let s = same in absurd (omega (arith, h, s))

-- ---- one run

module _ (reading : HasOneReading) (D reveals : Type 0) (state : D → State) (revealed : reveals) (shape : Shape) (records : List Record) (r : StoppedRun D reveals state) (ledger : HasLedger shape records ((state r.old).files 0)) (fixed : IsFixed (state r.old) 0) where
  abbrev Ended : Type 0
  Ended = r.moment ≡ (state r.new).moment

  -- what a stop of a run of this kind leaves
  abbrev LeftAs : RunKind → Type 0
  LeftAs kind = (one : List Record) × IsLeftBy reveals shape records kind Ended one × HasLedger shape (records ++ one) (r.files 0)

  -- an image from the entry has the ledger as it read there
  at_entry : (state r.old).image (state r.old).moment r.files → HasLedger shape records (r.files 0)
  at_entry here = subst (HasLedger shape records) (sym (fixed r.files here)) ledger

  kept_images : KeepsImages (state r.old) (state r.new) → HasLedger shape records (r.files 0)
  kept_images keeps = at_entry (keeps r.moment r.files r.from r.to r.image)

  and_none : HasLedger shape records (r.files 0) → HasLedger shape (records ++ []) (r.files 0)
  and_none has = subst (λ (l : List Record). HasLedger shape l (r.files 0)) (sym (append-nil records)) has

  -- two readings of the files have as many records
  as_long : (other : Shape) (one two : List Record) → HasLedger shape one (r.files 0) → HasLedger other two (r.files 0) → length one ≡ length two
  as_long other one two a b = ap length (reading (r.files 0) shape other one two (length (spelled shape one)) (length (spelled other two)) a b).1.0

  -- a run that leaves the ledger
  as_it_was : HasOpening (state r.old) (state r.new) (λ c. c 0 ≡ (state r.old).files 0) → HasLedger shape records (r.files 0)
  as_it_was (inl keeps) = kept_images keeps
  as_it_was (inr opened) = elim (cases_lt r.moment opened.moment) [
    | inl early ↦ at_entry (opened.before r.moment r.files r.from (omega (arith, early)) r.image)
    | inr late ↦ subst (HasLedger shape records) (sym (opened.later r.moment r.files late r.to r.image)) ledger
  ]

  -- the image of the end
  at_end : Ended → (state r.new).image (state r.new).moment r.files
  at_end ended = subst (λ (m : ℕ). (state r.new).image m r.files) ended r.image

  -- where every image at the end has the first k of some records, or more, the files have so many after the end
  enough : (added : List Record) (k : ℕ) → EveryImage (state r.new) (λ c. HasAtLeast shape records added k (c 0)) → (prefix : HasPrefix shape records added (r.files 0)) → Ended → k ≤ prefix.count
  enough added k first prefix ended =
      let sure = first r.files (at_end ended) in
      let same = as_long shape (records ++ take prefix.count added) (records ++ take sure.count added) prefix.ledger sure.ledger in
      let one = length-append records (take prefix.count added) in
      let two = length-append records (take sure.count added) in
      let a = length-take-le prefix.count added prefix.within in
      let b = length-take-le sure.count added sure.within in
      let least = sure.enough in
      omega (arith, same, one, two, a, b, least)

  -- ---- a put

  module _ (p : PutRun) (stores : Stores p.name reveals (state r.old) (state r.new) p.left p.rest p.answer) where
    -- where the record is not there, the put was not acknowledged
    unacknowledged : HasLedger shape records (r.files 0) → EndsStored p.answer → Ended → ⊥
    unacknowledged before said ended =
        let stands = stores.stands said revealed shape records ledger in
        let grown = stands.2.rest.stays in
        let many = as_many shape grown.grows.by.lattice grown.grows.by.longer grown.grows.by.payload (stands.0 ∷ []) grown.grows.by.added grown.grows.by.next in
        let same : r.files 0 ≡ (state r.new).files 0 = stands.2.rest.synced r.files (at_end ended) 0 in
        let now : HasLedger shape (records ++ grown.grows.by.added) (r.files 0) = subst (HasLedger shape (records ++ grown.grows.by.added)) (sym same) grown.ledger in
        omega (arith, as_long shape records (records ++ grown.grows.by.added) before now, length-append records grown.grows.by.added, many)

    none_put : HasLedger shape records (r.files 0) → LeftAs (Putting p)
    none_put before = ([], inl (unacknowledged before, refl), and_none before)

    -- the archive has none of the records that were added, or that of the object
    one_put : (o : NewObject) → IsPutOf p o → (added : List Record) (count : ℕ) → AreRecordsFor (take count (o ∷ [])) (take count added) → HasLedger shape (records ++ take count added) (r.files 0) → LeftAs (Putting p)
    one_put o is added zero are has = none_put (subst (λ (l : List Record). HasLedger shape l (r.files 0)) (append-nil records) has)
    one_put o is added (suc k) are has = (take (suc k) added, inr (o, is, subst (λ (os : List NewObject). AreRecordsFor (o ∷ os) (take (suc k) added)) (none_after k) are), has)

    some_left : (objects : List NewObject) → MayHavePut p.name p.left p.rest p.answer objects → (old : State) → (g : Grows shape records objects old (state r.new)) → HasPrefix shape records g.by.added (r.files 0) → LeftAs (Putting p)
    some_left objects (inl nil) old g prefix =
        let no = no_record objects g.by.added nil (as_many shape g.by.lattice g.by.longer g.by.payload objects g.by.added g.by.next) in
        let first : take prefix.count g.by.added ≡ [] = ap (take prefix.count) no ∙ first_of_none prefix.count in
        none_put (subst (λ (l : List Record). HasLedger shape l (r.files 0)) (ap (λ (l : List Record). records ++ l) first ∙ append-nil records) prefix.ledger)
    some_left objects (inr some) old g prefix =
        let o = some.1.0 in
        let next = subst (λ (os : List NewObject). AreNextRecords shape g.by.lattice g.by.longer g.by.payload os g.by.added) some.1.2 g.by.next in
        one_put o (some.0, some.1.1) g.by.added prefix.count (first_records shape g.by.lattice g.by.longer g.by.payload (o ∷ []) g.by.added prefix.count next) prefix.ledger

    put_left : (objects : List NewObject) → MayHavePut p.name p.left p.rest p.answer objects → OpensOr (state r.old) (state r.new) (Grows shape records objects) → LeftAs (Putting p)
    put_left objects may (inl keeps) = none_put (kept_images keeps.0)
    put_left objects may (inr opened) = elim (cases_lt r.moment opened.moment) [
      | inl early ↦ none_put (at_entry (opened.before r.moment r.files r.from (omega (arith, early)) r.image))
      | inr late ↦ some_left objects may _ opened.rest (opened.rest.by.adds.prefix r.moment r.files late r.to r.image)
    ]

  -- ---- an ingest

  module _ (i : IngestRun) (last : List NewObject) (may : MayBeLast i.left i.printed i.answer last) where
    abbrev all : List NewObject
    all = (i.printed ++ i.more) ++ last

    -- no record is there, where the run did not end or stored none
    none_ingested : (Ended → i.printed ++ i.more ≡ []) → HasLedger shape records (r.files 0) → LeftAs (Ingesting i)
    none_ingested unless before = (
      [],
      record {
        last = last;
        may = may;
        objects = [];
        others = all;
        first = refl;
        records = tt;
        acknowledged = λ ended. let h = ap length (unless ended) in omega (arith, h);
      },
      and_none before,
    )

    some_ingested : (k : ℕ) → length (i.printed ++ i.more) ≡ k → (old : State) → (g : GrowsSurely shape records all k old (state r.new)) → HasPrefix shape records g.grows.by.added (r.files 0) → LeftAs (Ingesting i)
    some_ingested k is old g prefix =
        let count = prefix.count in
        let added = g.grows.by.added in
        let many = as_many shape g.grows.by.lattice g.grows.by.longer g.grows.by.payload all added g.grows.by.next in
        let fits : count ≤ length all = (let within = prefix.within in omega (arith, within, many)) in
        let long = length-take-le count all fits in (
          take count added,
          record {
            last = last;
            may = may;
            objects = take count all;
            others = drop count all;
            first = take-append-drop count all;
            records = first_records shape g.grows.by.lattice g.grows.by.longer g.grows.by.payload all added count g.grows.by.next;
            acknowledged = λ ended. let most = enough added k g.first prefix ended in omega (arith, most, long, is);
          },
          prefix.ledger,
        )

    ingest_opened : OpensThen (state r.old) (state r.new) (GrowsSurely shape records all (length (i.printed ++ i.more))) → LeftAs (Ingesting i)
    ingest_opened opened = elim (cases_lt r.moment opened.moment) [
      | inl early ↦ none_ingested (λ ended. let to = opened.to in let e = ended in absurd (omega (arith, early, to, e)))
          (at_entry (opened.before r.moment r.files r.from (omega (arith, early)) r.image))
      | inr late ↦ some_ingested (length (i.printed ++ i.more)) refl _ opened.rest (opened.rest.grows.by.adds.prefix r.moment r.files late r.to r.image)
    ]

  ingest_left : (i : IngestRun) → StoresFrames reveals (state r.old) (state r.new) i.left i.rest i.printed i.more i.answer → LeftAs (Ingesting i)
  ingest_left i stores =
      let stops = stores.stops revealed shape records ledger in
      ⊎_elim
      (λ unopened. none_ingested i stops.0 stops.1 (λ ended. unopened.none) (kept_images unopened.images))
      (λ opened. ingest_opened i stops.0 stops.1 opened)
      stops.2

  -- ---- a session

  module _ (s : SessionRun) (began : Began reveals shape records (state r.old) (state r.new) s) where
    abbrev v : Opened
    v = began.v

    abbrev messages : List Message
    messages = began.begun.messages

    -- the records of the first closes are there
    served_by : (old : State) (c : ClosesAll v records (zeros v) messages began.begun.tail began.begun.result old (state r.new)) (count : ℕ) (added : List Record) → count ≤ length (closes_of v (zeros v) (messages ++ c.1))
        → AreRecordsOfCloses (take count (closes_of v (zeros v) (messages ++ c.1))) added → (Ended → length (closes_of v (zeros v) (messages ++ c.0)) ≤ count) → HasLedger shape (records ++ added) (r.files 0) → LeftAs (Sessioning s)
    served_by old c count added fits are enough_there there = (
      added,
      inr (record {
        v = v;
        same = began.same;
        has = began.has;
        files = began.begun.files;
        last = (state r.new).files;
        messages = messages;
        tail = began.begun.tail;
        result = began.begun.result;
        by = began.begun.by;
        serves = began.begun.serves;
        datas = zeros v;
        long = began.long;
        wide = began.wide;
        made = c.0;
        is_made = c.2;
        more = c.1;
        may = c.3;
        closings = take count (closes_of v (zeros v) (messages ++ c.1));
        others = drop count (closes_of v (zeros v) (messages ++ c.1));
        first = take-append-drop count (closes_of v (zeros v) (messages ++ c.1));
        are = are;
        acknowledged = λ ended. let most = enough_there ended in let long = length-take-le count (closes_of v (zeros v) (messages ++ c.1)) fits in omega (arith, most, long);
      }),
      there,
    )

    -- in an image from before the end of the first sync none, and in a later one the first of them
    served_early : (old : State) → ClosesAll v records (zeros v) messages began.begun.tail began.begun.result old (state r.new) → (Ended → ⊥) → HasLedger shape records (r.files 0) → LeftAs (Sessioning s)
    served_early old c never before = served_by old c 0 [] (omega arith) tt (λ ended. absurd (never ended)) (and_none before)

    served_later : (old : State) → old.moment ≤ r.moment → ClosesAll v records (zeros v) messages began.begun.tail began.begun.result old (state r.new) → LeftAs (Sessioning s)
    served_later old late c =
        let closings = closes_of v (zeros v) (messages ++ c.1) in
        let surely = surely_closed v shape records (zeros v) messages began.begun.tail began.begun.result old (state r.new) began.same c in
        let by = surely.grows.by in
        let prefix = by.adds.prefix r.moment r.files late r.to r.image in
        let many = as_many_closes shape by.lattice by.longer by.payload closings by.added by.next in
        served_by old c prefix.count (take prefix.count by.added) (let within = prefix.within in omega (arith, within, many)) (first_closes shape by.lattice by.longer by.payload closings by.added prefix.count by.next)
        (enough by.added (length (closes_of v (zeros v) (messages ++ c.0))) surely.first prefix) prefix.ledger

    session_served : LeftAs (Sessioning s)
    session_served =
        let opened = began.opens in
        elim (cases_lt r.moment opened.moment) [
          | inl early ↦ served_early _ opened.rest (λ ended. let to = opened.to in let e = ended in omega (arith, early, to, e))
              (at_entry (opened.before r.moment r.files r.from (omega (arith, early)) r.image))
          | inr late ↦ served_later _ late opened.rest
        ]

  session_left : (s : SessionRun) → Sessions reveals (state r.old) (state r.new) s.left s.rest s.before s.after s.answer → LeftAs (Sessioning s)
  session_left s sessions = ⊎_elim
      (λ not. ([], inl (not.0.failed, not.0.unread, not.0.unused, refl), and_none (kept_images not.0.images)))
      (λ ran. session_served s (begun_over reading reveals shape records (state r.old) (state r.new) s revealed ledger ran))
      sessions.ran

  -- ---- a record that is added by itself

  module _ (adds : List Record → Record) (answer : Answer) (does : AddsRecord adds reveals (state r.old) (state r.new) answer) where
    abbrev LeftWith : Type 0
    LeftWith = (one : List Record) × (IsUnadded answer Ended one ⊎ IsAdded answer (adds records) one) × HasLedger shape (records ++ one) (r.files 0)

    unadded : HasLedger shape records (r.files 0) → EndsStored answer → Ended → ⊥
    unadded before said ended =
        let stands = does.stands said revealed in
        let added = stands.0 in
        let were = (reading ((state r.old).files 0) shape added.shape records added.records (length (spelled shape records)) (length (spelled added.shape added.records)) ledger added.before).1.0 in
        let same : r.files 0 ≡ (state r.new).files 0 = stands.1 r.files (at_end ended) 0 in
        let now = subst (HasLedger added.shape (added.records ++ adds added.records ∷ [])) (sym same) added.after in
        let long = as_long added.shape records (added.records ++ adds added.records ∷ []) before now in
        let more = length-append added.records (adds added.records ∷ []) in
        let as_many_before = ap length were in
        omega (arith, long, more, as_many_before)

    none_added : HasLedger shape records (r.files 0) → LeftWith
    none_added before = ([], inl (unadded before, refl), and_none before)

    -- both the old records and the new ones are not there
    not_both : HasLedger shape records (r.files 0) → HasLedger shape (records ++ adds records ∷ []) (r.files 0) → ⊥
    not_both before after =
        let long = as_long shape records (records ++ adds records ∷ []) before after in
        let more = length-append records (adds records ∷ []) in
        omega (arith, long, more)

    one_added : HasLedger shape (records ++ adds records ∷ []) (r.files 0) → LeftWith
    one_added after = (
      adds records ∷ [],
      inr (λ why is. not_both (kept_images (does.refused why is).images) after, λ is. not_both (kept_images (does.out_of_memory is).images) after, refl),
      after,
    )

    adds_left : HasOpening (state r.old) (state r.new) (λ c. HasLedger shape records (c 0) ⊎ HasLedger shape (records ++ adds records ∷ []) (c 0)) → LeftWith
    adds_left (inl keeps) = none_added (kept_images keeps)
    adds_left (inr opened) = elim (cases_lt r.moment opened.moment) [
      | inl early ↦ none_added (at_entry (opened.before r.moment r.files r.from (omega (arith, early)) r.image))
      | inr late ↦ ⊎_elim none_added one_added (opened.later r.moment r.files late r.to r.image)
    ]

    record_left : LeftWith
    record_left = adds_left (opening_more (state r.old) (state r.new) _ _ (λ c may. may.ledger shape records ledger) (does.stops revealed))

  -- ---- whatever it is

  left_as : (kind : RunKind) → DoesRun kind reveals (state r.old) (state r.new) → LeftAs kind
  left_as (Putting p) does = let stops = does.stops revealed shape records ledger in put_left p does stops.0 stops.1 stops.2
  left_as (Ingesting i) does = ingest_left i does
  left_as (Sessioning s) does = session_left s does
  left_as (Fencing answer) does = record_left next_fence answer does
  left_as (Raising answer) does = record_left next_raise answer does
  left_as Leaving does = ([], refl, and_none (as_it_was (does revealed)))

-- ---- all of them

-- the blocks of two runs, one after the other
blocks_both : (shape : Shape) (records between later : List Record) (old mid new : Files) → KeepsBlocks shape records between old mid → KeepsBlocks shape between later mid new → KeepsBlocks shape records later old new
blocks_both shape records between later old mid new first second b on was =
    second b on (λ few. first b (record { after = on.after; most = few; used = on.used }) was)

-- blocks lie in the other files
found_blocks : (shape : Shape) (records : List Record) (left found : Files) → IsFoundOf left found → KeepsBlocks shape records records left found
found_blocks shape records left found is b on was =
    intact_same shape b (recorded_in shape (digests_of records) b) left found (is.others (home_file shape b) (no_home_in_ledger shape b)) (was on.most)

pub stops_keep : HasOneReading → DigestsAreCounted → CellsHaveLengths → CellsHaveParts → (D reveals : Type 0) (state : D → State) → StopsKeepPuts {D = D} reveals state
stops_keep reading counts lengths parts D reveals state revealed shape records [] first last ledger found =
    let there : HasLedger shape records (last 0) = found.ledger shape records ledger in
    let keeps : KeepsBlocks shape records records first last = found_blocks shape records first last found in
    let nil : records ≡ records ++ [] = sym (append-nil records) in
    ([], refl, subst (λ (l : List Record). HasLedger shape l (last 0)) nil there, λ all. subst (λ (l : List Record). KeepsBlocks shape records l first last) nil keeps)
stops_keep reading counts lengths parts D reveals state revealed shape records (r ∷ runs) first last ledger goes =
    let here : HasLedger shape records ((state r.old).files 0) = goes.0.ledger shape records ledger in
    let left = left_as reading D reveals state revealed shape records r here goes.1 r.kind r.does in
    let rest = stops_keep reading counts lengths parts D reveals state revealed shape (records ++ left.0) runs r.files last left.2 goes.2 in
    let all : (records ++ left.0) ++ rest.0 ≡ records ++ (left.0 ++ rest.0) = append_assoc records left.0 rest.0 in
    let keeps : AllSpareBlocks D reveals state (r ∷ runs) → KeepsBlocks shape records ((records ++ left.0) ++ rest.0) first last = λ spare.
    blocks_both shape records (records ++ left.0) ((records ++ left.0) ++ rest.0) first r.files last
    (blocks_both shape records records (records ++ left.0) first (state r.old).files r.files (found_blocks shape records first (state r.old).files goes.0)
    (blocks_left reading counts lengths parts D reveals state revealed shape records r here spare.0 left.0 left.1 left.2))
    (rest.3 spare.1) in
    (left.0 ++ rest.0, (left.0, rest.0, refl, left.1, rest.1), subst (λ (l : List Record). HasLedger shape l (last 0)) all rest.2, λ spare. subst (λ (l : List Record). KeepsBlocks shape records l first last) all (keeps spare))
