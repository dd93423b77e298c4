-- What a stop of one run leaves of the blocks: those that it added, and those that were intact before it, are intact.
use Rattle.std.proofs.Common.{◌≡◌, inl, inr, ⊎_elim, ℕ, ◌+◌, ◌*◌, ◌≤◌, List, [], ◌∷◌, ◌++◌, length, take, refl, sym, ◌∙◌, ap, subst, arith}
use Rattle.std.specs.List.{sum_by, flat_map}
use Rattle.std.proofs.lemmas.Bool.{cases_lt}
use Rattle.std.proofs.lemmas.List.{append-nil}
use Rattle.aea_lattice.specs.declared.blocks.BlockId.{BlockId}
use Rattle.aea_lattice.specs.declared.grid.Lattice.{Lattice}
use Rattle.aea_lattice.specs.declared.shape.Shape.{Shape}
use Rattle.aea_lattice.specs.Shapes.{IsBlockOf}
use Rattle.aea_envelope.specs.Facts.{CellsHaveLengths, CellsHaveParts}
use Rattle.aea_disk.specs.Files.{Files}
use Rattle.aea_disk.specs.State.{State, KeepsImages}
use Rattle.aea_shelf.specs.Intact.{IsIntact}
use Rattle.aea_shelf.specs.Places.{home_file}
use Rattle.aea_shelf.proofs.Cells.{keeps_intact, intact_same}
use Rattle.aea_shelf.proofs.Runs.{no_home_in_ledger}
use Rattle.aea_records.specs.Format.{Stored, Record, stored_in, nodes_of, digests_of, spelled}
use Rattle.aea_records.specs.Laws.{HasOneReading, DigestsAreCounted}
use Rattle.aea_records.proofs.OneMore.{nodes_of-push, digests_of-push}
use Rattle.aea_ledger.specs.Stops.{HasLedger, HasOpening}
use Rattle.aea_archive.specs.Blocks.{IsBlockOn, IsBlockIn, recorded_in}
use Rattle.aea_archive.specs.Next.{NewObject}
use Rattle.aea_archive.proofs.Honest.{stands}
use Rattle.aea_append.specs.Puts.{AreBlocksWide}
use Rattle.aea_machine.specs.Closings.{Closing}
use Rattle.aea_command.specs.Openings.{opened_at, OpensThen}
use Rattle.aea_command_store.specs.Adding.{MayHaveAdded}
use Rattle.aea_command_store.specs.Fence.{next_fence}
use Rattle.aea_stops.specs.GoingOn.{RunKind, Putting, Ingesting, Sessioning, Fencing, Raising, Leaving, DoesRun, StoppedRun, IsLeftBy, KeepsBlocks, LeavesBlocks, SparesBlocks}
use Rattle.aea_command_store.specs.Growing.{GrowsBy, Grows}
use Rattle.aea_command_store.specs.Upgrade.{next_raise}
use Rattle.aea_command_store.proofs.Agreeing.{nodes_take}
use Rattle.aea_command_store.proofs.IngestLemmas.Heads.{recorded_more}
use Rattle.aea_command_session.specs.Closes.{GrowsByCloses, ClosesAll, closes_of}
use Rattle.aea_stops.proofs.Chains.{AddNodes, of_objects, of_closes, nodes_added, digest_of_new}
use Rattle.aea_stops.proofs.Serving.{zeros, begun_over, surely_closed}

-- ---- the blocks of a run

module _ (reading : HasOneReading) (counts : DigestsAreCounted) (lengths : CellsHaveLengths) (parts : CellsHaveParts) (D reveals : Type 0) (state : D → State) (revealed : reveals) (shape : Shape) (records : List Record) (r : StoppedRun D reveals state)
    (ledger : HasLedger shape records ((state r.old).files 0)) (spares : SparesBlocks r.kind reveals (state r.old) (state r.new)) where
  abbrev KeepsTo : List Record → Type 0
  KeepsTo list = KeepsBlocks shape records list (state r.old).files r.files

  -- the records that the files have, and their blocks
  abbrev Found : Type 0
  Found = (list : List Record) × HasLedger shape list (r.files 0) × KeepsTo list

  -- files of which the sites read as they did
  as_before : ((b : BlockId) → r.files (home_file shape b) ≡ (state r.old).files (home_file shape b)) → KeepsTo records
  as_before same b on was = intact_same shape b (recorded_in shape (digests_of records) b) (state r.old).files r.files (same b) (was on.most)

  -- an image from the entry
  at_entry : (state r.old).image (state r.old).moment r.files → Found
  at_entry here =
      let same = spares.synced r.files here in
      (records, subst (HasLedger shape records) (sym (same 0)) ledger, as_before (λ b. same (home_file shape b)))

  kept_images : KeepsImages (state r.old) (state r.new) → Found
  kept_images keeps = at_entry (keeps r.moment r.files r.from r.to r.image)

  from_opening : (P : Files → Type 0) → HasOpening (state r.old) (state r.new) P → (P r.files → Found) → Found
  from_opening P (inl keeps) then = kept_images keeps
  from_opening P (inr opened) then = elim (cases_lt r.moment opened.moment) [
    | inl early ↦ at_entry (opened.before r.moment r.files r.from (omega (arith, early)) r.image)
    | inr late ↦ then (opened.later r.moment r.files late r.to r.image)
  ]

  -- where the archive grows by records of blocks of a block's size, whatever these are
  growing_by : (IsNext : Lattice → Lattice → (BlockId → List ℕ) → List Record → Type 0) (m : ℕ) → m ≤ r.moment → (g : GrowsBy shape records IsNext (opened_at (state r.old) (state r.new) m) (state r.new))
      → AreBlocksWide shape g.lattice.n g.longer.n g.payload → AddNodes shape g.lattice.n g.longer.n g.payload g.added → Found
  growing_by IsNext m late g are_wide nexts =
      let prefix = g.adds.prefix r.moment r.files late r.to r.image in
      let list : List Record = records ++ take prefix.count g.added in
      let is = g.is_lattice.n in
      let last : g.longer.n ≡ nodes_of (records ++ g.added) = nodes_added shape records g.lattice.n g.longer.n g.payload g.added is nexts in
      let less = nodes_take records g.added prefix.count in
      let long = counts shape records ledger.valid in
      let keeps : KeepsTo list = λ b on was. ⊎_elim
      (λ new.
      let fresh : IsBlockOn shape (nodes_of records) (nodes_of list) b = record { after = new; most = on.most; used = on.used } in
      let wide = are_wide b (record { after = omega (arith, new, is); most = (let most = on.most in omega (arith, most, less, last)); used = on.used }) in
      let digest = digest_of_new shape records g.lattice.n g.longer.n g.payload g.added prefix.count is (long ∙ ap (λ (n : ℕ). n * (1 + shape.alpha)) (sym is)) nexts b fresh in
      let home = g.adds.held prefix.count b prefix.within fresh r.moment late r.to r.files r.files r.image (record { count = prefix.count; enough = omega arith; within = prefix.within; ledger = prefix.ledger }) r.image in
      (stands lengths parts shape b (recorded_in shape (digests_of list) b) (g.payload b) r.files wide (sym digest) home).intact)
      (λ old.
      let inside : IsBlockIn shape (nodes_of records) b = record { after = on.after; most = old; used = on.used } in
      let range = g.lattice.in_range in
      let block : IsBlockOf shape b = record { first = (let a = on.after in omega (arith, a)); last = omega (arith, old, is, range); used = on.used } in
      let same = recorded_more counts shape records (take prefix.count g.added) g.lattice b ledger.valid g.is_lattice (record { first = (let a = on.after in omega (arith, a)); last = omega (arith, old, is); used = (let u = on.used in omega (arith, u, g.is_lattice.alpha)) }) in
      subst (λ (d : List ℕ). IsIntact shape b d r.files) (sym same)
      (keeps_intact shape (IsBlockIn shape (nodes_of records)) (state r.old).files r.files (g.leaves r.moment r.files late r.to r.image).homes b (recorded_in shape (digests_of records) b) block inside (was old)))
      (cases_lt (nodes_of records) b.node) in
      (list, prefix.ledger, keeps)

  -- where objects are stored
  growing : (objects : List NewObject) (m : ℕ) → m ≤ r.moment → Grows shape records objects (opened_at (state r.old) (state r.new) m) (state r.new) → Found
  growing objects m late g = growing_by _ m late g.by g.wide (of_objects shape g.by.lattice g.by.longer g.by.payload objects g.by.added g.by.next)

  -- where uploads are closed
  closing : (datas : List (List ℕ)) (closings : List Closing) (m : ℕ) → m ≤ r.moment → GrowsByCloses shape records datas closings (opened_at (state r.old) (state r.new) m) (state r.new) → Found
  closing datas closings m late g = growing_by _ m late g.by g.wide (of_closes shape g.by.lattice g.by.longer g.by.payload closings g.by.added g.by.next)

  -- where the first sync of a run that stores objects, or closes uploads, has succeeded
  from_then : (P : State → State → Type 0) → OpensThen (state r.old) (state r.new) P → ((m : ℕ) → m ≤ r.moment → P (opened_at (state r.old) (state r.new) m) (state r.new) → Found) → Found
  from_then P opened then = elim (cases_lt r.moment opened.moment) [
    | inl early ↦ at_entry (opened.before r.moment r.files r.from (omega (arith, early)) r.image)
    | inr late ↦ then opened.moment late opened.rest
  ]

  -- a record without blocks
  adding : (adds : List Record → Record) → stored_in (adds records) ≡ [] → MayHaveAdded adds (state r.old).files r.files → Found
  adding adds none may =
      let same : (b : BlockId) → r.files (home_file shape b) ≡ (state r.old).files (home_file shape b) = λ b. may.others (home_file shape b) (no_home_in_ledger shape b) in
      let nodes : nodes_of (records ++ adds records ∷ []) ≡ nodes_of records =
      nodes_of-push records (adds records) ∙ ap (λ (os : List Stored). nodes_of records + sum_by (λ (o : Stored). o.count) os) none ∙ omega arith in
      let digests : digests_of (records ++ adds records ∷ []) ≡ digests_of records =
      digests_of-push records (adds records) ∙ ap (λ (os : List Stored). digests_of records ++ flat_map (λ (o : Stored). o.digests) os) none ∙ append-nil (digests_of records) in
      ⊎_elim
      (λ before. (records, before, as_before same))
      (λ after.
      let keeps : KeepsTo (records ++ adds records ∷ []) = λ b on was.
      subst (λ (ds : List (List ℕ)). IsIntact shape b (recorded_in shape ds b) r.files) (sym digests)
      (as_before same b (record { after = on.after; most = (let m = on.most in omega (arith, m, nodes)); used = on.used }) was) in
      (records ++ adds records ∷ [], after, keeps))
      (may.ledger shape records ledger)

  -- whatever it is
  found_as : (kind : RunKind) → DoesRun kind reveals (state r.old) (state r.new) → LeavesBlocks kind reveals (state r.old) (state r.new) → (ended : Type 0) (one : List Record) → IsLeftBy reveals shape records kind ended one → HasLedger shape (records ++ one) (r.files 0) → Found
  found_as (Putting p) does leaves ended one left there =
      let stops = does.stops revealed shape records ledger in
      ⊎_elim (λ keeps. kept_images keeps.0) (λ opened. from_then (Grows shape records stops.0) opened (growing stops.0)) stops.2
  found_as (Ingesting i) does leaves ended one left there =
      let stops = does.stops revealed shape records ledger in
      ⊎_elim (λ unopened. kept_images unopened.images) (λ opened. from_then _ opened (λ m late surely. growing ((i.printed ++ i.more) ++ stops.0) m late surely.grows)) stops.2
  found_as (Sessioning s) does leaves ended one left there = ⊎_elim
      (λ not. kept_images not.0.images)
      (λ ran.
      let began = begun_over reading reveals shape records (state r.old) (state r.new) s revealed ledger ran in
      from_then (ClosesAll began.v records (zeros began.v) began.begun.messages began.begun.tail began.begun.result) began.opens (λ m late closes.
      closing (zeros began.v) (closes_of began.v (zeros began.v) (began.begun.messages ++ closes.1)) m late
      (surely_closed began.v shape records (zeros began.v) began.begun.messages began.begun.tail began.begun.result (opened_at (state r.old) (state r.new) m) (state r.new) began.same closes).grows))
      does.ran
  found_as (Fencing answer) does leaves ended one left there = from_opening _ (does.stops revealed) (adding next_fence refl)
  found_as (Raising answer) does leaves ended one left there = from_opening _ (does.stops revealed) (adding next_raise refl)
  found_as Leaving does leaves ended one left there =
      let same : records ++ one ≡ records = ap (λ (l : List Record). records ++ l) left ∙ append-nil records in
      from_opening _ (leaves revealed shape records ledger) (λ keeps. (records, subst (λ (l : List Record). HasLedger shape l (r.files 0)) same there, keeps))

  -- so the blocks of the records that it left
  pub blocks_left : (one : List Record) → IsLeftBy reveals shape records r.kind (r.moment ≡ (state r.new).moment) one → HasLedger shape (records ++ one) (r.files 0) → KeepsTo (records ++ one)
  blocks_left one left there =
      let found = found_as r.kind r.does spares.leaves (r.moment ≡ (state r.new).moment) one left there in
      let same = (reading (r.files 0) shape shape found.0 (records ++ one) (length (spelled shape found.0)) (length (spelled shape (records ++ one))) found.1 there).1.0 in
      subst KeepsTo same found.2
