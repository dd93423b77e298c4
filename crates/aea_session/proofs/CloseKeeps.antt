-- What the session keeps, and stands for, when a close is made.
use Rattle.std.proofs.Common.{◌≡◌, inl, inr, ℕ, ◌+◌, ◌-◌, ◌*◌, ◌<◌, List, [], ◌∷◌, ◌++◌, length, Option, None, Some, Ok, refl, sym, ◌∙◌, ap, subst, arith, length-append, append_assoc}
use Rattle.std.specs.Prelude.{slice_index_or, slice_set}
use Rattle.std.specs.FinMap.{insert, len}
use Rattle.std.proofs.lemmas.Bool.{cases_eq}
use Rattle.std.proofs.lemmas.List.{append-nil, length-set, get_or-set_same, get_or-set_other}
use Rattle.sha2.specs.Sha256.{sha256}
use Rattle.aea_lattice.specs.declared.grid.Lattice.{Lattice}
use Rattle.aea_lattice.specs.declared.shape.Shape.{Shape}
use Rattle.aea_lattice.specs.Growth.{IsGrown}
use Rattle.aea_disk.specs.Files.{Files}
use Rattle.aea_shelf.specs.Places.{cell_size}
use Rattle.aea_weave.specs.Woven.{Woven}
use Rattle.aea_weave.specs.Sums.{AreStrandSums}
use Rattle.aea_catalog.specs.Catalogs.{Objects}
use Rattle.aea_records.specs.Format.{Record}
use Rattle.aea_records.specs.Grammar.{AreRecords}
use Rattle.aea_ledger.specs.Values.{HasRecords, HasSomeRecords, IsThisOne}
use Rattle.aea_ledger.specs.Recorded.{AreRecordsOf}
use Rattle.aea_archive.specs.Laws.{PartsRecordMore}
use Rattle.aea_messages.specs.declared.message.Message.TheVariants.{Close}
use Rattle.aea_machine.specs.Closings.{ClosedArePlaced}
use Rattle.aea_machine.specs.Machine.{Upload, Machine, Step, Closed, step, in_slot, last_block, closed_nodes, placed_by, commit}
use Rattle.aea_machine.specs.Sound.{HaveOwnNames, IsWithinLimits, NamesStayOwn, LimitsStay}
use Rattle.aea_append.specs.declared.store.Stored.{Stored as StoredObject}
use Rattle.aea_append.specs.Weaving.{IsWovenOf, AreIntactOn}
use Rattle.aea_uploads.specs.declared.slot.Slot.{Slot}
use Rattle.aea_uploads.specs.Laws.{AreWide, KeepsMore, ClosedAreNext}
use Rattle.aea_session.specs.declared.work.Work.{Work}
use Rattle.aea_session.specs.May.{MayClose}
use Rattle.aea_session.specs.Stands.{IsKept, KeepsMachine, StandsFor, IsTheSessions}
use Rattle.aea_session.specs.Steps.{Steps, closed_by}
use Rattle.aea_session.proofs.CloseSteps.{step-made}
use Rattle.aea_session.proofs.CloseWoven.{Readied, more_of}
use Rattle.aea_session.proofs.CloseRecord.{joined_by, more_recorded, lattice_to, nodes_to, objects_to, raised_to}

-- no node takes none
none_times : (n : ℕ) → 0 ≡ 0 * n
none_times n = omega arith

-- what is kept is kept with more blocks
kept_more : KeepsMore → (shape : Shape) (datas more : List (List ℕ)) (s : Option Slot) (u : Option Upload) → IsKept shape datas s u → IsKept shape (datas ++ more) s u
kept_more law shape datas more None None kept = kept
kept_more law shape datas more None (Some u) kept = absurd kept
kept_more law shape datas more (Some s) None kept = absurd kept
kept_more law shape datas more (Some s) (Some u) kept = law shape datas more s u kept

-- a slot that is freed on both sides
kept_set : (shape : Shape) (datas : List (List ℕ)) (ss : List (Option Slot)) (us : List (Option Upload)) (slot : ℕ) → slot < length ss → slot < length us
    → ((i : ℕ) → IsKept shape datas (slice_index_or ss i None) (slice_index_or us i None))
    → (i : ℕ) → IsKept shape datas (slice_index_or (slice_set ss slot None) i None) (slice_index_or (slice_set us slot None) i None)
kept_set shape datas ss us slot within also all i =
    elim (cases_eq i slot) [
      | inl is ↦
          let freed : IsKept shape datas None None = tt in
          subst (λ (k : ℕ). IsKept shape datas (slice_index_or (slice_set ss slot None) k None) (slice_index_or (slice_set us slot None) k None)) (sym is)
          (subst (λ (o : Option Slot). IsKept shape datas o (slice_index_or (slice_set us slot None) slot None)) (sym (get_or-set_same ss slot None None within))
          (subst (λ (o : Option Upload). IsKept shape datas None o) (sym (get_or-set_same us slot None None also)) freed))
      | inr other ↦
          subst (λ (o : Option Slot). IsKept shape datas o (slice_index_or (slice_set us slot None) i None)) (sym (get_or-set_other ss slot i None None other))
          (subst (λ (o : Option Upload). IsKept shape datas (slice_index_or ss i None) o) (sym (get_or-set_other us slot i None None other)) (all i))
    ]

module _ (reveals : Type 0) (v : Work) (m : Machine) (slot : ℕ) (u : Upload) (t : Slot) (k : Woven) (es : List (List ℕ)) (mid : Files) (ready : Readied reveals v m u t k es mid)
    (digest : List ℕ) (hashed : digest ≡ sha256 u.bytes) (count : ℕ) (counted : count ≡ length (more_of v.ledger.shape m u))
    (kept : KeepsMachine v m) (may : MayClose v slot) (there : in_slot m slot ≡ Some u)
    (w : Work) (same : w.ledger.shape ≡ v.ledger.shape) (some : HasSomeRecords v.ledger)
    (value : (records : List Record) → HasRecords v.ledger records → HasRecords w.ledger (records ++ joined_by v.ledger t digest count es ∷ []))
    (heads : w.heads ≡ k) (digests : w.digests.items ≡ []) (slots : w.slots ≡ slice_set v.slots slot None) (cell : length w.cell.items ≡ length v.cell.items) where
  abbrev shape : Shape
  shape = v.ledger.shape

  abbrev next : Machine
  next = commit shape m slot u

  abbrev records : List Record
  records = some.0

  abbrev has : HasRecords v.ledger records
  has = some.1

  abbrev new : HasRecords w.ledger (records ++ joined_by v.ledger t digest count es ∷ [])
  new = value records has

  lattice_is : k.lattice ≡ w.ledger.lattice
  lattice_is = lattice_to reveals v m u t k es mid ready digest hashed count counted w.ledger same records has new

  step_is : step shape m (Close slot) ≡ record { state = next; answer = Closed (length (closed_nodes shape m u)) (length u.bytes) (sha256 u.bytes) }
  step_is = step-made shape m slot u may.below there (λ e. may.few (ap (λ (o : Objects). len o) (sym kept.objects) ∙ e)) ready.fits

  datas_is : next.datas ≡ m.datas ++ more_of shape m u
  datas_is = append_assoc m.datas m.woven (last_block shape u)

  all_is : next.datas ++ [] ≡ m.datas ++ more_of shape m u
  all_is = append-nil next.datas ∙ datas_is

  grown_after : IsGrown w.ledger.lattice (w.ledger.lattice.n + 0) w.heads.lattice
  grown_after =
      subst (λ (h : Woven). IsGrown w.ledger.lattice (w.ledger.lattice.n + 0) h.lattice) (sym heads)
      (subst (λ (l : Lattice). IsGrown l (l.n + 0) k.lattice) lattice_is (record { shape = record { alpha = refl; s = refl; p = refl }; nodes = omega arith; fences = refl }))

  long_after : length next.datas ≡ w.ledger.lattice.n
  long_after =
      ap length datas_is ∙ length-append m.datas (more_of shape m u)
      ∙ (let n = nodes_to reveals v m u t k es mid ready digest hashed count counted w.ledger same records has new in omega (arith, n, counted, kept.datas))

  keeps_commit : KeepsMore → ClosedArePlaced → NamesStayOwn → LimitsStay → KeepsMachine w next
  keeps_commit more placed names limits = record {
    objects = ap (λ (o : Objects). insert o u.name (placed_by u.bytes (closed_nodes shape m u))) kept.objects
        ∙ sym (objects_to reveals v m u t k es mid ready digest hashed count counted w.ledger same records has new placed);
    raised = raised_to reveals v m u t k es mid ready digest hashed count counted w.ledger same records has new ∙ kept.raised;
    datas = long_after;
    grown = grown_after;
    size = ap (λ (h : Woven). h.size) heads ∙ ready.size ∙ ap (λ (s : Shape). s.block) (sym same);
    wide = subst (λ (s : Shape). AreWide s (next.datas ++ [])) (sym same) (subst (AreWide shape) (sym all_is) ready.wide);
    digests = ap length digests ∙ none_times (1 + w.ledger.shape.alpha);
    cell = cell ∙ kept.cell ∙ ap cell_size (sym same);
    many = ap length slots ∙ length-set v.slots slot None ∙ kept.many;
    count = length-set m.slots slot None ∙ kept.count;
    slots = λ i.
        subst (λ (s : Shape). IsKept s (next.datas ++ []) (slice_index_or w.slots i None) (in_slot next i)) (sym same)
        (subst (λ (ds : List (List ℕ)). IsKept shape ds (slice_index_or w.slots i None) (in_slot next i)) (append_assoc m.datas m.woven (last_block shape u) ∙ sym all_is)
        (kept_more more shape (m.datas ++ m.woven) (last_block shape u) (slice_index_or w.slots i None) (in_slot next i)
        (subst (λ (l : List (Option Slot)). IsKept shape (m.datas ++ m.woven) (slice_index_or l i None) (in_slot next i)) (sym slots)
        (kept_set shape (m.datas ++ m.woven) v.slots m.slots slot (let b = may.below in omega (arith, b, kept.many)) (let b = may.below in omega (arith, b, kept.count)) kept.slots i))));
    names = subst (λ (s : Step). HaveOwnNames s.state) step_is (names shape m (Close slot) kept.count kept.names);
    limits = subst (λ (s : Step). IsWithinLimits s.state) step_is (limits shape m (Close slot) kept.limits);
  }

  -- the session keeps the state after the close
  pub keeps_after : KeepsMore → ClosedArePlaced → NamesStayOwn → LimitsStay → KeepsMachine w (step shape m (Close slot)).state
  keeps_after more placed names limits = subst (λ (s : Step). KeepsMachine w s.state) (sym step_is) (keeps_commit more placed names limits)

  woven_after : IsWovenOf shape v.ledger.lattice v.heads m.datas m.woven v.digests.items → IsWovenOf w.ledger.shape w.ledger.lattice w.heads next.datas [] w.digests.items
  woven_after woven =
      let now = ready.values woven in
      subst (λ (ds : List (List ℕ)). IsWovenOf w.ledger.shape w.ledger.lattice w.heads next.datas [] ds) (sym digests)
      (record {
        grown = grown_after;
        size = ap (λ (h : Woven). h.size) heads ∙ ready.size ∙ ap (λ (s : Shape). s.block) (sym same);
        sums = subst (λ (h : Woven). AreStrandSums h (next.datas ++ [])) (sym heads) (subst (AreStrandSums k) (sym all_is) now.sums);
        digests_are = record {
          long = none_times (1 + w.ledger.shape.alpha) ∙ ap (λ (n : ℕ). n * (1 + w.ledger.shape.alpha)) (let g = grown_after.nodes in let e : 0 ≡ w.heads.lattice.n - w.ledger.lattice.n = omega (arith, g) in e);
          each = λ b on. absurd (let g = grown_after.nodes in let a = on.after in let l = on.most in omega (arith, g, a, l));
        };
      })

  -- and stands for it where it stood for the one before
  pub stands_after : ClosedAreNext → PartsRecordMore → StandsFor v m → StandsFor w (step shape m (Close slot)).state
  stands_after next_law law stands =
      let now = value stands.records stands.has in
      let valid : AreRecords shape (stands.records ++ joined_by v.ledger t digest count es ∷ []) =
      subst (λ (s : Shape). AreRecords s (stands.records ++ joined_by v.ledger t digest count es ∷ [])) same now.valid in
      let recorded = more_recorded reveals v m u t k es mid ready digest hashed count counted next_law law stands.records stands.has stands.recorded stands.woven valid in
      subst (λ (s : Step). StandsFor w s.state) (sym step_is)
      (record {
        records = stands.records ++ joined_by v.ledger t digest count es ∷ [];
        has = now;
        recorded = subst (λ (s : Shape). AreRecordsOf s (stands.records ++ joined_by v.ledger t digest count es ∷ []) next.datas) (sym same)
            (subst (AreRecordsOf shape (stands.records ++ joined_by v.ledger t digest count es ∷ [])) (sym datas_is) recorded);
        woven = woven_after stands.woven;
      })

  -- the machine's answer has the object's nodes, its length and its SHA-256
  pub steps_after : KeepsMore → ClosedArePlaced → NamesStayOwn → LimitsStay → ClosedAreNext → PartsRecordMore → (o : StoredObject) → o.nodes ≡ length (closed_nodes shape m u) → o.length ≡ t.length → o.digest ≡ digest
      → Steps closed_by v w m (Close slot) (Ok o)
  steps_after more placed names limits next_law law o nodes long digest_is = record {
    answer = ap (λ (s : Step). s.answer) step_is
        ∙ (λ i. Closed (sym nodes i) (sym (long ∙ ready.closes.long) i) (sym (digest_is ∙ hashed) i));
    keeps = keeps_after more placed names limits;
    stands = stands_after next_law law;
    shape = same;
  }

  -- and a disk with its ledger is the session's
  pub this_after : (c : Files) → IsThisOne w.ledger (c 0) → IsTheSessions w c
  this_after c ledger = record {
    ledger = ledger;
    cells = subst (λ (ds : List (List ℕ)). AreIntactOn (Unit {0}) w.ledger.shape w.ledger.lattice.n w.heads.lattice.n ds c) (sym digests)
        (record {
          long = none_times (1 + w.ledger.shape.alpha) ∙ ap (λ (n : ℕ). n * (1 + w.ledger.shape.alpha)) (let g = grown_after.nodes in let e : 0 ≡ w.heads.lattice.n - w.ledger.lattice.n = omega (arith, g) in e);
          each = λ revealed b on. absurd (let g = grown_after.nodes in let a = on.after in let l = on.most in omega (arith, g, a, l));
        });
  }
