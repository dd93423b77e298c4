-- The record of a close: it is the next one, and what it makes of the ledger.
use Rattle.std.proofs.Common.{◌≡◌, ℕ, ◌+◌, List, [], ◌∷◌, ◌++◌, length, refl, sym, ◌∙◌, ap, subst, arith}
use Rattle.std.specs.List.{sum_by}
use Rattle.std.specs.FinMap.{insert, empty}
use Rattle.std.proofs.lemmas.List.{append-nil, append_assoc}
use Rattle.sha2.specs.Sha256.{sha256}
use Rattle.aea_lattice.specs.declared.blocks.BlockId.{BlockId}
use Rattle.aea_lattice.specs.declared.shape.Shape.{Shape}
use Rattle.aea_lattice.specs.Data.{IsDataList}
use Rattle.aea_lattice.specs.Growth.{IsGrown}
use Rattle.aea_lattice.proofs.OneLattice.{lattice_equal}
use Rattle.aea_disk.specs.Files.{Files}
use Rattle.aea_weave.specs.Woven.{Woven}
use Rattle.aea_catalog.specs.declared.objects.Extent.{Extent}
use Rattle.aea_catalog.specs.Catalogs.{Objects}
use Rattle.aea_records.specs.Format.{Stored, Record, Joined, fences_of, digests_of}
use Rattle.aea_records.specs.Grammar.{IsNext, MayFollow, AreRecords}
use Rattle.aea_records.specs.Catalogued.{with_record}
use Rattle.aea_records.proofs.OneMore.{nodes_of-push, fences_of-push, digests_of-push, objects-push, raised_stays}
use Rattle.aea_ledger.specs.Values.{Opened, HasRecords}
use Rattle.aea_ledger.specs.Next.{next_stored}
use Rattle.aea_ledger.specs.Recorded.{AreRecordsOf}
use Rattle.aea_archive.specs.Laws.{PartsRecordMore}
use Rattle.aea_archive.specs.Next.{AreDigestsOn, IsNextInParts}
use Rattle.aea_machine.specs.Closings.{IsNextClosed, ClosedArePlaced}
use Rattle.aea_machine.specs.Machine.{Upload, Machine, runs_of, closed_nodes, placed_by}
use Rattle.aea_append.specs.Weaving.{IsWovenOf}
use Rattle.aea_uploads.specs.declared.slot.Slot.{Slot}
use Rattle.aea_uploads.specs.Laws.{ClosedAreNext}
use Rattle.aea_session.specs.declared.work.Work.{Work}
use Rattle.aea_session.specs.Closes.{IsRecordOfClose, GoesOn}
use Rattle.aea_session.proofs.CloseSteps.{the_closing}
use Rattle.aea_session.proofs.CloseWoven.{Readied, more_of}

-- the last of records may follow those before it
pub next-last : (shape : Shape) (earlier records : List Record) (r : Record) → MayFollow shape earlier (records ++ r ∷ []) → IsNext shape (earlier ++ records) r
next-last shape earlier [] r follow = subst (λ (l : List Record). IsNext shape l r) (sym (append-nil earlier)) follow.0
next-last shape earlier (q ∷ records) r follow =
    subst (λ (l : List Record). IsNext shape l r) (append_assoc earlier (q ∷ []) records) (next-last shape (earlier ++ q ∷ []) records r follow.1)

-- the object of a slot that has all of its upload in blocks, and its record
abbrev pub stored_by : Opened → Slot → List ℕ → ℕ → List (List ℕ) → Stored
stored_by v t digest count es = next_stored v t.name t.length digest count es

abbrev pub joined_by : Opened → Slot → List ℕ → ℕ → List (List ℕ) → Record
joined_by v t digest count es = Joined (stored_by v t digest count es) t.parts.items

module _ (reveals : Type 0) (v : Work) (m : Machine) (u : Upload) (t : Slot) (k : Woven) (es : List (List ℕ)) (mid : Files) (ready : Readied reveals v m u t k es mid)
    (digest : List ℕ) (hashed : digest ≡ sha256 u.bytes) (count : ℕ) (counted : count ≡ length (more_of v.ledger.shape m u)) where
  abbrev stored : Stored
  stored = stored_by v.ledger t digest count es

  abbrev joined : Record
  joined = joined_by v.ledger t digest count es

  -- its parts are the longest runs of the upload's nodes
  pub joined_is : joined ≡ Joined stored (runs_of (closed_nodes v.ledger.shape m u))
  joined_is = ap (λ (l : List Extent). Joined stored l) ready.closes.parts

  -- it is the next record of the close, where the payloads have the digests
  pub next_closed : (payload : BlockId → List ℕ) → AreDigestsOn v.ledger.shape v.ledger.lattice.n k.lattice.n payload es → IsNextClosed v.ledger.shape v.ledger.lattice k.lattice payload (the_closing v.ledger.shape m u) stored
  next_closed payload digests = record {
    name_is = ready.closes.name;
    size = ready.closes.long;
    digest = hashed;
    first = refl;
    count = counted;
    grown = subst (λ (n : ℕ). IsGrown v.ledger.lattice (v.ledger.lattice.n + n) k.lattice) (sym counted) ready.grown;
    digests = digests;
  }

  -- whatever the payloads are, it is that of the close, by which the ledger goes on
  pub record_is : IsRecordOfClose (the_closing v.ledger.shape m u) joined
  record_is = (stored, joined_is, ready.closes.name, ready.closes.long, hashed, counted)

  pub goes_on : (w : Opened) (records : List Record) → HasRecords w (records ++ joined ∷ []) → GoesOn v.ledger w (the_closing v.ledger.shape m u ∷ []) records
  goes_on w records new = record { added = joined ∷ []; are = (record_is, tt); has = new }

  -- and where the session stands for X and W it is the next one in its parts
  pub next_parts : ClosedAreNext → IsWovenOf v.ledger.shape v.ledger.lattice v.heads m.datas m.woven v.digests.items
      → IsNextInParts v.ledger.shape v.ledger.lattice k.lattice m.datas (more_of v.ledger.shape m u) u.name u.bytes t.parts.items stored
  next_parts law woven = law v.ledger.shape v.ledger.lattice k m.datas (more_of v.ledger.shape m u) u (closed_nodes v.ledger.shape m u) ready.zeros t stored (ready.values woven) ready.closes refl refl hashed refl counted

  -- so a data list that was recorded goes on with what the close adds
  pub more_recorded : ClosedAreNext → PartsRecordMore → (records : List Record) → HasRecords v.ledger records → AreRecordsOf v.ledger.shape records m.datas
      → IsWovenOf v.ledger.shape v.ledger.lattice v.heads m.datas m.woven v.digests.items → AreRecords v.ledger.shape (records ++ joined ∷ [])
      → AreRecordsOf v.ledger.shape (records ++ joined ∷ []) (m.datas ++ more_of v.ledger.shape m u)
  more_recorded next law records has recorded woven valid =
      let now = ready.values woven in
      law v.ledger.shape records m.datas (more_of v.ledger.shape m u) v.ledger.lattice k.lattice u.name u.bytes t.parts.items stored recorded has.lattice
      (subst (λ (n : ℕ). IsDataList k.lattice n (m.datas ++ more_of v.ledger.shape m u)) now.size now.sums.is_data)
      (next-last v.ledger.shape [] records joined valid) (next_parts next woven)

  -- ---- and the opened ledger has taken it

  module _ (w : Opened) (same : w.shape ≡ v.ledger.shape) (records : List Record) (has : HasRecords v.ledger records) (new : HasRecords w (records ++ joined ∷ [])) where
    one : sum_by (λ (o : Stored). o.count) (stored ∷ []) ≡ count
    one = omega arith

    pub nodes_to : w.lattice.n ≡ v.ledger.lattice.n + count
    nodes_to = new.lattice.n ∙ nodes_of-push records joined ∙ omega (arith, one, has.lattice.n)

    -- its lattice is the one that was woven
    pub lattice_to : k.lattice ≡ w.lattice
    lattice_to =
        let g = ready.grown in
        let n = ready.grown.nodes in
        lattice_equal k.lattice w.lattice
        (g.shape.alpha ∙ has.lattice.alpha ∙ sym (new.lattice.alpha ∙ ap (λ (s : Shape). s.alpha) same))
        (g.shape.s ∙ has.lattice.s ∙ sym (new.lattice.s ∙ ap (λ (s : Shape). s.s) same))
        (g.shape.p ∙ has.lattice.p ∙ sym (new.lattice.p ∙ ap (λ (s : Shape). s.p) same))
        (omega (arith, n, nodes_to, counted))
        (g.fences ∙ has.lattice.fences_are ∙ sym (new.lattice.fences_are ∙ fences_of-push records joined ∙ append-nil (fences_of records)))

    -- the digests come after those that it had
    pub digests_to : digests_of (records ++ joined ∷ []) ≡ digests_of records ++ es
    digests_to = digests_of-push records joined ∙ ap (λ (l : List (List ℕ)). digests_of records ++ l) (append-nil es)

    -- the object is one of the archive, as the machine keeps it
    pub objects_to : ClosedArePlaced → w.objects ≡ insert v.ledger.objects u.name (placed_by u.bytes (closed_nodes v.ledger.shape m u))
    objects_to placed =
        new.objects
        ∙ objects-push empty records joined
        ∙ ap (λ (o : Objects). with_record o joined) (sym has.objects)
        ∙ ap (with_record v.ledger.objects) joined_is
        ∙ placed v.ledger.objects u.name u.bytes (closed_nodes v.ledger.shape m u) stored ready.closes.name ready.closes.long hashed

    pub raised_to : w.raised ≡ v.ledger.raised
    raised_to = new.raised ∙ raised_stays records joined refl ∙ sym has.raised
