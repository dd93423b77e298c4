-- When `get` is refused.
use Rattle.std.proofs.Common.{◌≡◌, ◌≢◌, ◌⊎◌, inl, inr, ℕ, suc, ◌<◌, ◌≤◌, List, sym, ◌∙◌, ap, subst, arith, Option, Some, None, Result, Err}
use Rattle.std.specs.Prelude.{All}
use Rattle.std.specs.FinMap.{get}
use Rattle.aea_io.specs.Streams.{SinkState}
use Rattle.aea_lattice.specs.declared.blocks.BlockId.{BlockId}
use Rattle.aea_disk.specs.Files.{Files}
use Rattle.aea_disk.specs.State.{State}
use Rattle.aea_catalog.specs.Catalogs.{Placed, Objects}
use Rattle.aea_records.specs.Catalogued.{objects_of}
use Rattle.aea_records.specs.Format.{stored_of, digests_of}
use Rattle.aea_records.specs.Laws.{HasOneReading, NewNamesAreFree, IsSomeLedger}
use Rattle.aea_ledger.specs.Values.{Opened, IsThisOne}
use Rattle.aea_archive.specs.Objects.{data_of}
use Rattle.aea_fetch.specs.declared.fault.GetFault.{GetFault}
use Rattle.aea_fetch.specs.declared.fault.GetFault.TheVariants as fault
use Rattle.aea_fetch.specs.Payloads.{IsFirstDamaged}
use Rattle.aea_command.specs.declared.refusal.Refusal.{Refusal}
use Rattle.aea_command.specs.declared.refusal.Refusal.TheVariants.{NoArchive, LedgerBad, UnknownName, Damaged, Occupied}
use Rattle.aea_command.specs.declared.refusal.Failure.{Failure}
use Rattle.aea_command.specs.declared.refusal.Failure.TheVariants as failure
use Rattle.aea_command.specs.Causes.{place_of, IsFirst, IsStopped, Refuses}
use Rattle.aea_command_read.specs.Get.{GetCauses, HasNoObject, HasObject, HasDamagedDatum}
use Rattle.aea_command.specs.Openings.{OpeningCauses, Opens}
use Rattle.aea_command.proofs.Behind.{AreBehindOpening, some_ledger, unopened_refuses, opened_no_opening}
use Rattle.aea_command_read.proofs.GetLemmas.{HasFetching, answer_to, refused_by}
use Rattle.aea_command.proofs.Reading.{has_ledger_of, from_reading}

-- the causes of a get are those of the opening, and others at what is a ledger
get_behind : (name : List ℕ) (files : Files) → AreBehindOpening (files 0) (GetCauses name files)
get_behind name files = record { from = λ why cause. from_opening why cause; back = λ why cause. back_to why cause }
  where
    from_opening : (why : Refusal) → OpeningCauses (files 0) why → GetCauses name files why
    from_opening NoArchive cause = cause
    from_opening (LedgerBad at) cause = cause
    from_opening why cause = absurd cause

    back_to : (why : Refusal) → GetCauses name files why → OpeningCauses (files 0) why ⊎ (IsSomeLedger (files 0) × (place_of Occupied ≤ place_of why))
    back_to NoArchive cause = inl cause
    back_to (LedgerBad at) cause = inl cause
    back_to UnknownName cause = inr (some_ledger (files 0) cause.shape cause.records cause.ledger, omega arith)
    back_to (Damaged block) cause = inr (some_ledger (files 0) cause.shape cause.records cause.object.ledger, omega arith)
    back_to why cause = absurd cause

-- an archive that was not opened says why
pub unopened_get : {T : Type 0} (name : List ℕ) (reveals : Type 0) (old new : State) (f : Failure) → Opens reveals old new (Err f) → Refuses {T = T} reveals (GetCauses name old.files) (Err f)
unopened_get name reveals old new f opens = unopened_refuses reveals old new f (GetCauses name old.files) (get_behind name old.files) opens

-- ---- what the files say, as the opened ledger has it, and back

module _ (reading : HasOneReading) (v : Opened) (files : Files) (one : IsThisOne v (files 0)) (name : List ℕ) where
  pub unknown_there : NewNamesAreFree → HasNoObject (files 0) name → get v.objects name ≡ None
  unknown_there free has =
      subst (λ (m : Objects). get m name ≡ None) (sym one.has.objects)
      ((free one.records name).0 (from_reading reading v (files 0) one (λ shape records. All (λ o. o.name ≢ name) (stored_of records)) has.shape has.records has.ledger has.none))

  pub unknown_here : NewNamesAreFree → get v.objects name ≡ None → HasNoObject (files 0) name
  unknown_here free none = record {
    shape = v.shape;
    records = one.records;
    ledger = has_ledger_of reading v (files 0) one;
    none = (free one.records name).1 (subst (λ (m : Objects). get m name ≡ None) one.has.objects none);
  }

  pub object_here : (p : Placed) → get v.objects name ≡ Some p → HasObject files name v.shape one.records p
  object_here p is = record { ledger = has_ledger_of reading v (files 0) one; found = subst (λ (m : Objects). get m name ≡ Some p) one.has.objects is }

  damaged_there : (b : BlockId) → HasDamagedDatum files name b → (p : Placed) × (get v.objects name ≡ Some p) × IsFirstDamaged v.shape v.digests files (data_of p.parts) b
  damaged_there b has =
      let both = from_reading reading v (files 0) one (λ shape records. (get (objects_of records) name ≡ Some has.placed) × IsFirstDamaged shape (digests_of records) files (data_of has.placed.parts) b)
      has.shape has.records has.object.ledger (has.object.found, has.first) in (
        has.placed,
        subst (λ (m : Objects). get m name ≡ Some has.placed) (sym one.has.objects) both.0,
        subst (λ (ds : List (List ℕ)). IsFirstDamaged v.shape ds files (data_of has.placed.parts) b) (sym one.has.digests) both.1,
      )

  damaged_here : (p : Placed) (b : BlockId) → get v.objects name ≡ Some p → IsFirstDamaged v.shape v.digests files (data_of p.parts) b → HasDamagedDatum files name b
  damaged_here p b is first = record {
    shape = v.shape;
    records = one.records;
    placed = p;
    object = object_here p is;
    first = subst (λ (ds : List (List ℕ)). IsFirstDamaged v.shape ds files (data_of p.parts) b) one.has.digests first;
  }

-- something is under the name, or nothing is
pub none_and_some : (o : Option Placed) (p : Placed) → o ≡ None → o ≡ Some p → ⊥
none_and_some o p none is = let h : None ≡ Some p = sym none ∙ is in cc

-- ---- after the opening

module _ (reading : HasOneReading) (free : NewNamesAreFree) (name : List ℕ) (reveals : Type 0) (v : Opened) (old mid new : State) (before after : SinkState) (r : Result ℕ GetFault)
    (gave : HasFetching name reveals v old mid new before after r) where
  module _ (revealed : reveals) where
    one : IsThisOne v (old.files 0)
    one = gave.opens.this_one revealed

    -- no cause of the opening holds, nor, where an object has the name, that none has
    before_unknown : (other : Refusal) → place_of other < place_of UnknownName → GetCauses name old.files other → ⊥
    before_unknown NoArchive earlier cause = opened_no_opening reveals old mid v gave.opens revealed NoArchive cause
    before_unknown (LedgerBad at) earlier cause = opened_no_opening reveals old mid v gave.opens revealed (LedgerBad at) cause
    before_unknown UnknownName earlier cause = omega arith
    before_unknown (Damaged b) earlier cause = omega arith
    before_unknown other earlier cause = cause

    before_damaged : (p : Placed) → get v.objects name ≡ Some p → (other : Refusal) → place_of other < suc (place_of UnknownName) → GetCauses name old.files other → ⊥
    before_damaged p is UnknownName earlier cause = none_and_some (get v.objects name) p (unknown_there reading v old.files one name free cause) is
    before_damaged p is (Damaged b) earlier cause = omega arith
    before_damaged p is NoArchive earlier cause = opened_no_opening reveals old mid v gave.opens revealed NoArchive cause
    before_damaged p is (LedgerBad at) earlier cause = opened_no_opening reveals old mid v gave.opens revealed (LedgerBad at) cause
    before_damaged p is other earlier cause = cause

    first_unknown : r ≡ Err fault.UnknownName → IsFirst (GetCauses name old.files) UnknownName
    first_unknown e = record { stands = unknown_here reading v old.files one name free (gave.unknown.0 e); none = before_unknown }

    first_damaged : (b : BlockId) → r ≡ Err (fault.Damaged b) → IsFirst (GetCauses name old.files) (Damaged b)
    first_damaged b e =
        let by = gave.damaged b e in
        let first = subst (λ (c : Files). IsFirstDamaged v.shape v.digests c (data_of by.0.parts) b) (gave.opens.reads.contents revealed) (by.3 revealed).0 in
        record { stands = damaged_here reading v old.files one name by.0 b by.1 first; none = before_damaged by.0 by.1 }

    only_for : (why : Refusal) → answer_to r ≡ Err (failure.Refused why) → IsFirst (GetCauses name old.files) why
    only_for why is = elim (refused_by r why is) [
      | inl both ↦ subst (λ (w : Refusal). IsFirst (GetCauses name old.files) w) (sym both.1) (first_unknown both.0)
      | inr both ↦ subst (λ (w : Refusal). IsFirst (GetCauses name old.files) w) (sym both.2) (first_damaged both.0 both.1)
    ]

    always_for : (why : Refusal) → IsFirst (GetCauses name old.files) why → (answer_to r ≡ Err (failure.Refused why)) ⊎ IsStopped (answer_to r)
    always_for NoArchive first = absurd (opened_no_opening reveals old mid v gave.opens revealed NoArchive first.stands)
    always_for (LedgerBad at) first = absurd (opened_no_opening reveals old mid v gave.opens revealed (LedgerBad at) first.stands)
    always_for UnknownName first = inl (ap answer_to (gave.unknown.1 (unknown_there reading v old.files one name free first.stands)))
    always_for (Damaged b) first =
        let by = damaged_there reading v old.files one name b first.stands in
        elim (gave.damage_refused revealed by.0 b by.1 (subst (λ (c : Files). IsFirstDamaged v.shape v.digests c (data_of by.0.parts) b) (sym (gave.opens.reads.contents revealed)) by.2)) [
          | inl e ↦ inl (ap answer_to e)
          | inr (inl e) ↦ inr (inl (ap answer_to e))
          | inr (inr e) ↦ inr (inr (inr (ap answer_to e)))
        ]
    always_for why first = absurd first.stands

  pub fetched_refuses : Refuses reveals (GetCauses name old.files) (answer_to r)
  fetched_refuses = record { only = λ why is revealed. only_for revealed why is; always = λ why revealed first. always_for revealed why first }
