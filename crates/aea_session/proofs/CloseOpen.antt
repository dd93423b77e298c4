-- What the calls of a close ask, where no refusal applies.
use Rattle.std.proofs.Common.{◌≡◌, ℕ, ◌+◌, ◌-◌, ◌*◌, ◌≤◌, ◌==◌, List, [], ◌∷◌, ◌++◌, length, Option, None, Some, refl, sym, ◌∙◌, ap, subst, arith, length-append}
use Rattle.std.specs.Prelude.{slice_index_or, IsTrue}
use Rattle.std.specs.List.{sum_by}
use Rattle.std.specs.FinMap.{get, len}
use Rattle.std.proofs.lemmas.Bool.{and_parts, eqb-true}
use Rattle.aea_lattice.specs.declared.shape.Shape.{Shape}
use Rattle.aea_lattice.specs.Profile.{greatest_nodes}
use Rattle.aea_disk.specs.Files.{Files}
use Rattle.aea_disk.specs.State.{State}
use Rattle.aea_ledger.specs.Taking.{FitsAdding}
use Rattle.aea_messages.specs.declared.message.Message.TheVariants.{Close}
use Rattle.aea_machine.specs.Closings.{closing_in}
use Rattle.aea_catalog.specs.declared.objects.Extent.{Extent}
use Rattle.aea_catalog.specs.Catalogs.{Objects}
use Rattle.aea_catalog.specs.Names.{IsName}
use Rattle.aea_weave.specs.Woven.{Woven}
use Rattle.aea_records.specs.Fields.{are_apart, are_parts}
use Rattle.aea_records.specs.Format.{nodes_for, raised_limit}
use Rattle.aea_ledger.proofs.Small.{few_nodes}
use Rattle.aea_machine.specs.Machine.{Upload, Machine, in_slot, closed_nodes, runs_of}
use Rattle.aea_machine.specs.Runs.{RunsAreLongest}
use Rattle.aea_uploads.specs.declared.slot.Slot.{Slot}
use Rattle.aea_uploads.specs.Gathering.{Finishes}
use Rattle.aea_uploads.specs.Laws.{ClosedAreParts, FilledAreCounted, LastIsTheMachines}
use Rattle.aea_uploads.specs.Slots.{Keeps, KeepsSome}
use Rattle.aea_session.specs.declared.work.Work.{Work}
use Rattle.aea_session.specs.Closes.{close_entry, HasCloseRoom}
use Rattle.aea_session.specs.May.{MayClose}
use Rattle.aea_session.specs.Stands.{IsKept, KeepsMachine, IsTheSessions}
use Rattle.aea_session.proofs.CloseSteps.{the_closing, closing-made}
use Rattle.aea_session.proofs.CloseWoven.{there_is, heads_now, Readied, readied, more_of}

-- A slot has something: the machine has an upload there, which is kept in it.
pub record Opened (v : Work) (m : Machine) (slot : ℕ) (s : Slot) : Type 0 where
  pub upload : Upload
  pub there : in_slot m slot ≡ Some upload
  pub keeps : Keeps v.ledger.shape (m.datas ++ m.woven) s upload

pub opened_of : (v : Work) (m : Machine) (slot : ℕ) (s : Slot) → KeepsMachine v m → slice_index_or v.slots slot None ≡ Some s → Opened v m slot s
opened_of v m slot s kept there =
    let has = there_is v.ledger.shape (m.datas ++ m.woven) s (in_slot m slot) (subst (λ (o : Option Slot). IsKept v.ledger.shape (m.datas ++ m.woven) o (in_slot m slot)) there (kept.slots slot)) in
    record { upload = has.0; there = has.1; keeps = has.2 }

-- so it keeps some upload
pub some_kept : (v : Work) (m : Machine) (slot : ℕ) (s : Slot) → KeepsMachine v m → Opened v m slot s → KeepsSome v.ledger.shape v.heads.lattice.n s
some_kept v m slot s kept o = record {
  datas = m.datas ++ m.woven;
  many = (let now = heads_now v m kept in omega (arith, length-append m.datas m.woven, now));
  wide = kept.wide;
  upload = o.upload;
  keeps = o.keeps;
}

slot_or : Slot → Option Slot → Slot
slot_or s None = s
slot_or s (Some t) = t

-- where it has a rest one node more fits
pub fits_for : (v : Work) (slot : ℕ) (s : Slot) → MayClose v slot → slice_index_or v.slots slot None ≡ Some s → 1 ≤ s.have → v.heads.lattice.n + 1 ≤ raised_limit
unfolding slot_or
fits_for v slot s may there some =
    let same : s ≡ may.kept = ap (slot_or s) (sym there ∙ may.there) in
    may.fits (subst (λ (x : Slot). 1 ≤ x.have) same some)

-- what is known when its rest is woven
pub ready_of : LastIsTheMachines → FilledAreCounted → (reveals : Type 0) (v : Work) (m : Machine) (slot : ℕ) (s t : Slot) (k : Woven) (es : List (List ℕ)) (old mid : Files) → (kept : KeepsMachine v m) → (reveals → IsTheSessions v old)
    → MayClose v slot → (there : slice_index_or v.slots slot None ≡ Some s) → Finishes reveals v.ledger.shape v.heads k s t v.digests.items es old mid → (o : Opened v m slot s) → Readied reveals v m o.upload t k es mid
ready_of last counted reveals v m slot s t k es old mid kept this may there f o =
    readied last counted reveals v m slot o.upload s t k es old mid kept this (fits_for v slot s may there) o.keeps f

-- parts of an object have as many nodes as its length takes, and no more than there are
pub parts_count : (shape : Shape) (size nodes : ℕ) (parts : List Extent) → IsTrue (are_parts shape size nodes parts) → sum_by (λ e. e.count) parts ≡ nodes_for shape size
parts_count shape size nodes parts are = eqb-true (sum_by (λ (e : Extent). e.count) parts) (nodes_for shape size) (and_parts (are_apart 0 nodes parts) (sum_by (λ (e : Extent). e.count) parts == nodes_for shape size) are).1

pub parts_few : (shape : Shape) (size nodes : ℕ) (parts : List Extent) → IsTrue (are_parts shape size nodes parts) → nodes_for shape size ≤ nodes
parts_few shape size nodes parts are =
    let few = few_nodes 0 nodes parts (and_parts (are_apart 0 nodes parts) (sum_by (λ (e : Extent). e.count) parts == nodes_for shape size) are).0 in
    omega (arith, few, parts_count shape size nodes parts are)

module _ (reveals : Type 0) (v : Work) (m : Machine) (slot : ℕ) (s t : Slot) (k : Woven) (es : List (List ℕ)) (mid : Files) (kept : KeepsMachine v m) (o : Opened v m slot s) (ready : Readied reveals v m o.upload t k es mid) where
  abbrev shape : Shape
  shape = v.ledger.shape

  -- how many nodes are new
  pub count_is : k.lattice.n - v.ledger.lattice.n ≡ length (more_of shape m o.upload)
  count_is = let n = ready.grown.nodes in omega (arith, n)

  -- as the heads and the ledger count them
  pub count_now : (next n : ℕ) → next ≡ k.lattice.n + 1 → n ≡ v.ledger.lattice.n → next - 1 - n ≡ length (more_of shape m o.upload)
  count_now next n is first = let e = count_is in omega (arith, e, is, first)

  pub named : IsName t.name
  named = subst IsName (sym ready.closes.name) (kept.names.named slot o.upload o.there)

  pub absent : get v.ledger.objects t.name ≡ None
  absent = ap (λ (os : Objects). get os t.name) (sym kept.objects) ∙ ap (get m.objects) ready.closes.name ∙ kept.names.new slot o.upload o.there

  pub are_in_parts : ClosedAreParts → (count : ℕ) → count ≡ length (more_of shape m o.upload) → IsTrue (are_parts shape t.length (v.ledger.lattice.n + count) t.parts.items)
  are_in_parts law count is =
      subst (λ (n : ℕ). IsTrue (are_parts shape t.length n t.parts.items)) (length-append m.datas (more_of shape m o.upload) ∙ omega (arith, is, kept.datas))
      (law shape (m.datas ++ more_of shape m o.upload) o.upload (closed_nodes shape m o.upload) ready.zeros t ready.wide ready.few ready.closes)

  -- as many nodes as the upload has
  pub nodes_are : ClosedAreParts → RunsAreLongest → nodes_for shape t.length ≡ length (closed_nodes shape m o.upload)
  nodes_are law runs =
      sym (parts_count shape t.length _ t.parts.items (are_in_parts law (length (more_of shape m o.upload)) refl))
      ∙ ap (sum_by (λ (e : Extent). e.count)) ready.closes.parts
      ∙ (runs (closed_nodes shape m o.upload)).many

  pub nodes_few : ClosedAreParts → nodes_for shape t.length ≤ greatest_nodes
  nodes_few law =
      let few = parts_few shape t.length _ t.parts.items (are_in_parts law (length (more_of shape m o.upload)) refl) in
      let n = ready.grown.nodes in
      let most = k.lattice.in_range in
      omega (arith, few, n, most)

  pub digests_long : (count : ℕ) → count ≡ length (more_of shape m o.upload) → length es ≡ count * (1 + shape.alpha)
  digests_long count is = ready.long ∙ ap (λ (n : ℕ). n * (1 + shape.alpha)) (sym is)

  -- what is closed
  pub closing_is : MayClose v slot → closing_in shape m (Close slot) ≡ the_closing shape m o.upload ∷ []
  closing_is may = closing-made shape m slot o.upload may.below o.there (λ e. may.few (ap (λ (os : Objects). len os) (sym kept.objects) ∙ e)) ready.fits

  -- its entry is as long as that of the record
  entry_is : (long : ℕ) → long ≡ 60 + length t.name + 8 * length t.parts.items + 32 * length es → close_entry shape (the_closing shape m o.upload) ≡ long
  entry_is long size =
      let names = ap length ready.closes.name in
      let runs = ap length ready.closes.parts in
      let digests = ready.long in
      let e : 60 + length o.upload.name + 8 * length (runs_of (closed_nodes shape m o.upload)) + 32 * (length (more_of shape m o.upload) * (1 + shape.alpha)) ≡ long = omega (arith, size, names, runs, digests) in
      e

-- the space for the close has that for its record, whichever state of the machine it was asked of
pub room_is : LastIsTheMachines → FilledAreCounted → (reveals : Type 0) (v : Work) (slot : ℕ) (s t : Slot) (k : Woven) (es : List (List ℕ)) (old : State) (mid : Files) → (reveals → IsTheSessions v old.files) → MayClose v slot
    → slice_index_or v.slots slot None ≡ Some s → Finishes reveals v.ledger.shape v.heads k s t v.digests.items es old.files mid → (long : ℕ) → long ≡ 60 + length t.name + 8 * length t.parts.items + 32 * length es
    → HasCloseRoom v slot old → FitsAdding old 1 (v.ledger.end + long)
room_is last counted reveals v slot s t k es old mid this may there f long size room =
    let m : Machine = room.machine in
    let o = opened_of v m slot s room.keeps there in
    let ready = ready_of last counted reveals v m slot s t k es old.files mid room.keeps this may there f o in
    subst (λ (n : ℕ). FitsAdding old 1 (v.ledger.end + n)) (entry_is reveals v m slot s t k es mid room.keeps o ready long size)
    (room.ledger (the_closing v.ledger.shape m o.upload) (closing_is reveals v m slot s t k es mid room.keeps o ready may))
