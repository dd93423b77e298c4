-- When `fetch` is refused.
use Rattle.std.proofs.Common.{◌≡◌, ◌⊎◌, inl, inr, ℕ, suc, ◌<◌, ◌≤◌, List, sym, ◌∙◌, ap, subst, arith, Some, Result, Err}
use Rattle.std.specs.Prelude.{Bool}
use Rattle.std.specs.FinMap.{get}
use Rattle.aea_io.specs.Streams.{SinkState}
use Rattle.aea_lattice.specs.declared.blocks.BlockId.{BlockId}
use Rattle.aea_lattice.specs.declared.grid.Lattice.{Lattice}
use Rattle.aea_lattice.proofs.OneLattice.{lattice_equal}
use Rattle.aea_disk.specs.Files.{Files}
use Rattle.aea_disk.specs.State.{State}
use Rattle.aea_catalog.specs.Catalogs.{Placed, Objects}
use Rattle.aea_records.specs.Catalogued.{objects_of}
use Rattle.aea_records.specs.Format.{nodes_of, fences_of, digests_of}
use Rattle.aea_records.specs.Laws.{HasOneReading, NewNamesAreFree, IsSomeLedger}
use Rattle.aea_ledger.specs.Recorded.{IsLatticeOf}
use Rattle.aea_ledger.specs.Values.{Opened, IsThisOne}
use Rattle.aea_archive.specs.Blocks.{RevealsSurvivors}
use Rattle.aea_archive.specs.Laws.{SurvivorsAreRevealed}
use Rattle.aea_archive.specs.Objects.{data_of}
use Rattle.aea_degraded.specs.declared.fault.FetchFault.{FetchFault}
use Rattle.aea_degraded.specs.declared.fault.FetchFault.TheVariants as fault
use Rattle.aea_degraded.specs.Fetched.{IsFirstOpen}
use Rattle.aea_command.specs.declared.refusal.Refusal.{Refusal}
use Rattle.aea_command.specs.declared.refusal.Refusal.TheVariants.{NoArchive, LedgerBad, UnknownName, Undetermined, Occupied}
use Rattle.aea_command.specs.declared.refusal.Failure.{Failure}
use Rattle.aea_command.specs.declared.refusal.Failure.TheVariants as failure
use Rattle.aea_command.specs.Causes.{place_of, IsFirst, IsStopped, Refuses}
use Rattle.aea_command_read.specs.Fetch.{FetchCauses, HasOpenDatum}
use Rattle.aea_command.specs.Openings.{OpeningCauses, Opens}
use Rattle.aea_command.proofs.Behind.{AreBehindOpening, some_ledger, unopened_refuses, opened_no_opening}
use Rattle.aea_command_read.proofs.GetLemmas.Causing.{unknown_there, unknown_here, object_here, none_and_some}
use Rattle.aea_command_read.proofs.FetchLemmas.{HasFetching, answer_to, refused_by}
use Rattle.aea_command.proofs.Reading.{from_reading}

-- the causes of a fetch are those of the opening, and others at what is a ledger
fetch_behind : (name : List ℕ) (files : Files) → AreBehindOpening (files 0) (FetchCauses name files)
fetch_behind name files = record { from = λ why cause. from_opening why cause; back = λ why cause. back_to why cause }
  where
    from_opening : (why : Refusal) → OpeningCauses (files 0) why → FetchCauses name files why
    from_opening NoArchive cause = cause
    from_opening (LedgerBad at) cause = cause
    from_opening why cause = absurd cause

    back_to : (why : Refusal) → FetchCauses name files why → OpeningCauses (files 0) why ⊎ (IsSomeLedger (files 0) × (place_of Occupied ≤ place_of why))
    back_to NoArchive cause = inl cause
    back_to (LedgerBad at) cause = inl cause
    back_to UnknownName cause = inr (some_ledger (files 0) cause.shape cause.records cause.ledger, omega arith)
    back_to (Undetermined block nodes) cause = inr (some_ledger (files 0) cause.shape cause.records cause.object.ledger, omega arith)
    back_to why cause = absurd cause

-- an archive that was not opened says why
pub unopened_fetch : {T : Type 0} (name : List ℕ) (reveals : Type 0) (old new : State) (f : Failure) → Opens reveals old new (Err f) → Refuses {T = T} reveals (FetchCauses name old.files) (Err f)
unopened_fetch name reveals old new f opens = unopened_refuses reveals old new f (FetchCauses name old.files) (fetch_behind name old.files) opens

-- ---- what the files say, as the opened ledger has it, and back

-- an undetermined data block of the opened archive
pub record IsOpenHere (v : Opened) (files : Files) (name : List ℕ) (block : BlockId) (nodes : List ℕ) : Type 0 where
  pub placed : Placed
  pub found : get v.objects name ≡ Some placed
  pub known : BlockId → Bool
  pub survivors : RevealsSurvivors v.shape v.lattice.n v.digests files known
  pub first : IsFirstOpen v.lattice known (data_of placed.parts) block nodes

module _ (reading : HasOneReading) (v : Opened) (files : Files) (one : IsThisOne v (files 0)) (name : List ℕ) where
  open_there : (b : BlockId) (nodes : List ℕ) → HasOpenDatum files name b nodes → IsOpenHere v files name b nodes
  open_there b nodes has =
      let both = from_reading reading v (files 0) one
      (λ shape records. (l : Lattice) → IsLatticeOf shape (nodes_of records) (fences_of records) l
      → (get (objects_of records) name ≡ Some has.placed) × RevealsSurvivors shape (nodes_of records) (digests_of records) files has.known × IsFirstOpen l has.known (data_of has.placed.parts) b nodes)
      has.shape has.records has.object.ledger
      (λ l is_l. (
        has.object.found,
        has.survivors,
        subst (λ (m : Lattice). IsFirstOpen m has.known (data_of has.placed.parts) b nodes)
            (lattice_equal has.lattice l (has.is_lattice.alpha ∙ sym is_l.alpha) (has.is_lattice.s ∙ sym is_l.s) (has.is_lattice.p ∙ sym is_l.p) (has.is_lattice.n ∙ sym is_l.n) (has.is_lattice.fences_are ∙ sym is_l.fences_are)) has.first,
      )) v.lattice one.has.lattice in
      record {
        placed = has.placed;
        found = subst (λ (m : Objects). get m name ≡ Some has.placed) (sym one.has.objects) both.0;
        known = has.known;
        survivors = subst (λ (ds : List (List ℕ)). RevealsSurvivors v.shape v.lattice.n ds files has.known) (sym one.has.digests)
            (subst (λ (n : ℕ). RevealsSurvivors v.shape n (digests_of one.records) files has.known) (sym one.has.lattice.n) both.1);
        first = both.2;
      }

  open_here : (p : Placed) (known : BlockId → Bool) (b : BlockId) (nodes : List ℕ) → get v.objects name ≡ Some p → RevealsSurvivors v.shape v.lattice.n v.digests files known
      → IsFirstOpen v.lattice known (data_of p.parts) b nodes → HasOpenDatum files name b nodes
  open_here p known b nodes is tests first = record {
    shape = v.shape;
    records = one.records;
    placed = p;
    object = object_here reading v files one name p is;
    lattice = v.lattice;
    is_lattice = one.has.lattice;
    known = known;
    survivors = subst (λ (n : ℕ). RevealsSurvivors v.shape n (digests_of one.records) files known) one.has.lattice.n
        (subst (λ (ds : List (List ℕ)). RevealsSurvivors v.shape v.lattice.n ds files known) one.has.digests tests);
    first = first;
  }

-- ---- after the opening

module _ (reading : HasOneReading) (free : NewNamesAreFree) (revealed_apart : SurvivorsAreRevealed) (name : List ℕ) (reveals : Type 0) (v : Opened) (old mid new : State) (before after : SinkState) (r : Result ℕ FetchFault)
    (gave : HasFetching name reveals v old mid new before after r) where
  module _ (revealed : reveals) where
    one : IsThisOne v (old.files 0)
    one = gave.opens.this_one revealed

    -- no cause of the opening holds, nor, where an object has the name, that none has
    before_unknown : (other : Refusal) → place_of other < place_of UnknownName → FetchCauses name old.files other → ⊥
    before_unknown NoArchive earlier cause = opened_no_opening reveals old mid v gave.opens revealed NoArchive cause
    before_unknown (LedgerBad at) earlier cause = opened_no_opening reveals old mid v gave.opens revealed (LedgerBad at) cause
    before_unknown UnknownName earlier cause = omega arith
    before_unknown (Undetermined b nodes) earlier cause = omega arith
    before_unknown other earlier cause = cause

    before_open : (p : Placed) → get v.objects name ≡ Some p → (other : Refusal) → place_of other < suc (place_of UnknownName) → FetchCauses name old.files other → ⊥
    before_open p is UnknownName earlier cause = none_and_some (get v.objects name) p (unknown_there reading v old.files one name free cause) is
    before_open p is (Undetermined b nodes) earlier cause = omega arith
    before_open p is NoArchive earlier cause = opened_no_opening reveals old mid v gave.opens revealed NoArchive cause
    before_open p is (LedgerBad at) earlier cause = opened_no_opening reveals old mid v gave.opens revealed (LedgerBad at) cause
    before_open p is other earlier cause = cause

    first_unknown : r ≡ Err fault.UnknownName → IsFirst (FetchCauses name old.files) UnknownName
    first_unknown e = record { stands = unknown_here reading v old.files one name free (gave.unknown.0 e); none = before_unknown }

    first_open : (b : BlockId) (nodes : List ℕ) → r ≡ Err (fault.Undetermined b nodes) → IsFirst (FetchCauses name old.files) (Undetermined b nodes)
    first_open b nodes e =
        let by = gave.undetermined b nodes e in
        let some = revealed_apart v.shape v.lattice.n v.digests old.files in
        let there = subst (λ (c : Files). RevealsSurvivors v.shape v.lattice.n v.digests c some.0) (sym (gave.opens.reads.contents revealed)) some.1 in
        record { stands = open_here reading v old.files one name by.0 some.0 b nodes by.1 some.1 (by.5 revealed some.0 there); none = before_open by.0 by.1 }

    only_for : (why : Refusal) → answer_to r ≡ Err (failure.Refused why) → IsFirst (FetchCauses name old.files) why
    only_for why is = elim (refused_by r why is) [
      | inl both ↦ subst (λ (w : Refusal). IsFirst (FetchCauses name old.files) w) (sym both.1) (first_unknown both.0)
      | inr both ↦ subst (λ (w : Refusal). IsFirst (FetchCauses name old.files) w) (sym both.3) (first_open both.0 both.1 both.2)
    ]

    always_for : (why : Refusal) → IsFirst (FetchCauses name old.files) why → (answer_to r ≡ Err (failure.Refused why)) ⊎ IsStopped (answer_to r)
    always_for NoArchive first = absurd (opened_no_opening reveals old mid v gave.opens revealed NoArchive first.stands)
    always_for (LedgerBad at) first = absurd (opened_no_opening reveals old mid v gave.opens revealed (LedgerBad at) first.stands)
    always_for UnknownName first = inl (ap answer_to (gave.unknown.1 (unknown_there reading v old.files one name free first.stands)))
    always_for (Undetermined b nodes) first =
        let by = open_there reading v old.files one name b nodes first.stands in
        elim (gave.open_refused revealed by.placed by.known b nodes by.found (subst (λ (c : Files). RevealsSurvivors v.shape v.lattice.n v.digests c by.known) (sym (gave.opens.reads.contents revealed)) by.survivors) by.first) [
          | inl e ↦ inl (ap answer_to e)
          | inr (inl e) ↦ inr (inl (ap answer_to e))
          | inr (inr e) ↦ inr (inr (inr (ap answer_to e)))
        ]
    always_for why first = absurd first.stands

  pub fetched_refuses : Refuses reveals (FetchCauses name old.files) (answer_to r)
  fetched_refuses = record { only = λ why is revealed. only_for revealed why is; always = λ why revealed first. always_for revealed why first }
