-- What the call that puts gave after the opening, and how it shows why it is refused.
use Rattle.std.proofs.Common.{◌≡◌, ◌≢◌, ◌⊎◌, inl, inr, ◌↔◌, ℕ, suc, ◌+◌, ◌<◌, Bool, true, false, List, [], length, refl, sym, ◌∙◌, ap, subst, arith, Option, None, Some, Result, Ok, Err}
use Rattle.std.specs.Prelude.{IsErr, IfOk, IsSome, unwrap_or}
use Rattle.std.specs.FinMap.{get, len}
use Rattle.aea_io.specs.Taken.{TakesAtMost}
use Rattle.aea_lattice.specs.declared.blocks.BlockId.{BlockId}
use Rattle.aea_lattice.specs.Facts.{NumbersRevealBlocks}
use Rattle.aea_disk.specs.Files.{Files}
use Rattle.aea_disk.specs.Frames.{OnlyReads, OnlyWrites}
use Rattle.aea_disk.specs.State.{State, IsReady, IsRoomy, NeverFails}
use Rattle.aea_catalog.specs.Names.{IsName, is_name}
use Rattle.aea_shelf.specs.Writes.{KeepsPadded}
use Rattle.aea_records.specs.Format.{greatest_objects, nodes_for, limit_when}
use Rattle.aea_records.specs.Laws.{HasOneReading, ObjectsAreCounted, NewNamesAreFree}
use Rattle.aea_ledger.specs.Values.{Opened, IsThisOne}
use Rattle.aea_archive.specs.Blocks.{IsBlockIn}
use Rattle.aea_archive.specs.Lasts.{IsLastParity, IsDamagedLast, IsFirstDamagedLast}
use Rattle.aea_append.specs.declared.fault.PutFault.{PutFault}
use Rattle.aea_append.specs.declared.store.Stored.{Stored}
use Rattle.aea_append.specs.Causes.{IsTaken, MayEnter, IsHeadRefused, HasEarlyReason, HasPutRoom}
use Rattle.aea_append.specs.Puts.{IsWhole, HasPut, MayHaveStored, LeavesLedger}
use Rattle.aea_append.specs.Taking.{HasPassedRoom, room_left}
use Rattle.aea_command.specs.declared.refusal.Refusal.{Refusal}
use Rattle.aea_command.specs.declared.refusal.Refusal.TheVariants.{NoArchive, LedgerBad, BadName, NameTaken, CatalogFull, HeadDamaged, Full, Occupied}
use Rattle.aea_command.specs.declared.refusal.Failure.{Failure}
use Rattle.aea_command.specs.Causes.{place_of, IsFirst, IsStopped, RefusesBy, IsDecided}
use Rattle.aea_command.specs.Failures.{put_failure}
use Rattle.aea_command.specs.Openings.{Opens}
use Rattle.aea_command_store.specs.Put.{PutCauses, IsByInput, HasDamagedHead}
use Rattle.aea_command.proofs.Behind.{opened_no_opening, some_ledger}
use Rattle.aea_command_store.proofs.PutLemmas.Opening.{changes}
use Rattle.aea_command_store.proofs.PutLemmas.Reading.{taken_there, taken_here, many_there, many_here, full_there, full_here, head_there, head_here, one_head, passed_full}
use Rattle.aea_command.proofs.Reading.{has_ledger_of}
use Rattle.aea_append.specs.declared.fault.PutFault.TheVariants as put
use Rattle.aea_append.specs.Causes as causes
use Rattle.aea_command.specs.declared.refusal.Failure.TheVariants as failure

-- The clauses of the call that puts, after the opening: the opened ledger before and after it, the name, what the source had
-- and has left, the disk at the entry, after the opening, and at the end, and the answer.
pub record HasPutting (reveals : Type 0) (v w : Opened) (name : List ℕ) (left rest : Option (List ℕ)) (old mid new : State) (r : Result Stored PutFault) : Type 1 where
  pub opens : Opens reveals old mid (Ok v)
  pub stored : IfOk r (HasPut reveals v w name left rest mid new)
  pub bad_name : (r ≡ Err put.BadName) ↔ (IsName name → ⊥)
  pub taken : (r ≡ Err put.NameTaken) ↔ (IsName name × IsTaken v name)
  pub many : (r ≡ Err put.CatalogFull) ↔ (IsName name × (IsTaken v name → ⊥) × (len v.objects ≡ greatest_objects))
  pub early : causes.IsEarly r → (new ≡ mid) × (rest ≡ left)
  pub head : (b : BlockId) → r ≡ Err (put.HeadDamaged b) → IsLastParity v.lattice b × (reveals → IsFirstDamagedLast v.shape v.lattice v.digests mid.files b)
  pub head_leaves : (b : BlockId) → r ≡ Err (put.HeadDamaged b) → (rest ≡ left) × OnlyReads reveals ⊥ mid new
  pub head_refused : reveals → MayEnter v name → (a : BlockId) → IsDamagedLast v.shape v.lattice v.digests mid.files a → IsHeadRefused r
  pub full : (nodes : ℕ) → r ≡ Err (put.Full nodes) → (nodes ≡ v.lattice.n) × HasPassedRoom v left rest
  pub full_intact : (nodes : ℕ) → r ≡ Err (put.Full nodes) → reveals → (a : BlockId) → IsDamagedLast v.shape v.lattice v.digests mid.files a → ⊥
  pub full_refused : (bytes : List ℕ) → left ≡ Some bytes → MayEnter v name → limit_when v.raised < v.lattice.n + nodes_for v.shape (length bytes)
      → (r ≡ Err (put.Full v.lattice.n)) ⊎ ((r ≡ Err put.ReadFault) ⊎ IsHeadRefused r)
  pub leaves : IsErr r → r ≢ Err put.DiskFault → reveals → LeavesLedger mid new
  pub stopped : r ≡ Err put.DiskFault → reveals → MayHaveStored v (IsWhole name left rest) mid new
  pub writes : OnlyWrites reveals (IsReady mid) (HasPutRoom v name left rest mid) (r ≡ Err put.DiskFault) (changes v) mid new
  pub refused_in_room : reveals → HasEarlyReason v name mid.files → IsReady mid → NeverFails (IsRoomy mid) (r ≢ Err put.DiskFault) mid new
  pub padded : r ≢ Err put.DiskFault → reveals → KeepsPadded v.shape (IsBlockIn v.shape v.lattice.n) mid.files new.files
  pub reads : TakesAtMost left rest (room_left v + 1)

-- what the run returns by it
abbrev pub answer_of : {T : Type 0} → Result T PutFault → Result T Failure
answer_of (Ok v) = Ok v
answer_of (Err fault) = Err (put_failure fault)

-- a test of bytes is one or the other
name_or_not : (b : Bool) → (b ≡ true) ⊎ (b ≡ true → ⊥)
name_or_not true = inl refl
name_or_not false = inr (λ e. let h : false ≡ true = e in cc)

none_or_some : {A : Type 0} → (o : Option A) → (o ≡ None) ⊎ (o ≢ None)
none_or_some None = inl refl
none_or_some (Some x) = inr (λ e. let h : Some x ≡ None = e in cc)

revealed_input : (l : Option (List ℕ)) → IsSome l → (xs : List ℕ) × (l ≡ Some xs)
revealed_input None some = let h : false ≡ true = some in cc
revealed_input (Some xs) some = (xs, refl)

err_inside : (f g : PutFault) → (let one : Result Stored PutFault = Err f in one ≡ Err g) → f ≡ g
err_inside f g e = cc

module _ (reading : HasOneReading) (count : ObjectsAreCounted) (free : NewNamesAreFree) (reveal : NumbersRevealBlocks)
    (reveals : Type 0) (v w : Opened) (name : List ℕ) (left rest : Option (List ℕ)) (old mid new : State) (r : Result Stored PutFault)
    (gave : HasPutting reveals v w name left rest old mid new r) where
  abbrev revealed_causes : Refusal → Type 0
  revealed_causes = PutCauses name old.files (unwrap_or left [])

  -- the name and the number of objects are no reason for refusal
  enters : r ≢ Err put.BadName → r ≢ Err put.NameTaken → r ≢ Err put.CatalogFull → MayEnter v name
  enters good fresh few =
      let named : IsName name = elim (name_or_not (is_name name)) [ inl is ↦ is | inr never ↦ absurd (good (gave.bad_name.1 never)) ] in
      let absent : get v.objects name ≡ None = elim (none_or_some (get v.objects name)) [ inl none ↦ none | inr some ↦ absurd (fresh (gave.taken.1 (named, some))) ] in
      record { named = named; free = absent; few = λ most. few (gave.many.1 (named, (λ some. some absent), most)) }

  module _ (revealed : reveals) where
    one : IsThisOne v (old.files 0)
    one = gave.opens.this_one revealed

    same_files : mid.files ≡ old.files
    same_files = gave.opens.reads.contents revealed

    -- no cause of the opening holds
    none_of_opening : (why : Refusal) → place_of why < place_of Occupied → revealed_causes why → ⊥
    none_of_opening NoArchive before cause = opened_no_opening reveals old mid v gave.opens revealed NoArchive cause
    none_of_opening (LedgerBad at) before cause = opened_no_opening reveals old mid v gave.opens revealed (LedgerBad at) cause
    none_of_opening BadName before cause = omega arith
    none_of_opening NameTaken before cause = omega arith
    none_of_opening CatalogFull before cause = omega arith
    none_of_opening (HeadDamaged b) before cause = omega arith
    none_of_opening (Full n) before cause = omega arith
    none_of_opening why before cause = cause

    -- nor of the name
    none_of_name : IsName name → (why : Refusal) → place_of why < place_of NameTaken → revealed_causes why → ⊥
    none_of_name named NoArchive before cause = none_of_opening NoArchive (omega arith) cause
    none_of_name named (LedgerBad at) before cause = none_of_opening (LedgerBad at) (omega arith) cause
    none_of_name named BadName before cause = cause.1 named
    none_of_name named NameTaken before cause = omega arith
    none_of_name named CatalogFull before cause = omega arith
    none_of_name named (HeadDamaged b) before cause = omega arith
    none_of_name named (Full n) before cause = omega arith
    none_of_name named why before cause = cause

    none_of_taken : IsName name → (IsTaken v name → ⊥) → (why : Refusal) → place_of why < place_of CatalogFull → revealed_causes why → ⊥
    none_of_taken named fresh NameTaken before cause = fresh (taken_there reading v (old.files 0) one free name cause)
    none_of_taken named fresh CatalogFull before cause = omega arith
    none_of_taken named fresh (HeadDamaged b) before cause = omega arith
    none_of_taken named fresh (Full n) before cause = omega arith
    none_of_taken named fresh NoArchive before cause = none_of_opening NoArchive (omega arith) cause
    none_of_taken named fresh (LedgerBad at) before cause = none_of_opening (LedgerBad at) (omega arith) cause
    none_of_taken named fresh BadName before cause = cause.1 named
    none_of_taken named fresh why before cause = cause

    -- nor of the number of objects
    none_of_entry : MayEnter v name → (why : Refusal) → place_of why < suc (place_of CatalogFull) → revealed_causes why → ⊥
    none_of_entry may CatalogFull before cause = may.few (many_there reading v (old.files 0) one count cause)
    none_of_entry may (HeadDamaged b) before cause = omega arith
    none_of_entry may (Full n) before cause = omega arith
    none_of_entry may NameTaken before cause = (taken_there reading v (old.files 0) one free name cause) may.free
    none_of_entry may NoArchive before cause = none_of_opening NoArchive (omega arith) cause
    none_of_entry may (LedgerBad at) before cause = none_of_opening (LedgerBad at) (omega arith) cause
    none_of_entry may BadName before cause = cause.1 may.named
    none_of_entry may why before cause = cause

    -- the damaged last parity of the files at the entry is that after the opening
    first_there : (b : BlockId) → HasDamagedHead old.files b → IsFirstDamagedLast v.shape v.lattice v.digests mid.files b
    first_there b cause = subst (λ (c : Files). IsFirstDamagedLast v.shape v.lattice v.digests c b) (sym same_files) (head_there reading v old.files one b cause)

    first_here : (b : BlockId) → IsFirstDamagedLast v.shape v.lattice v.digests mid.files b → HasDamagedHead old.files b
    first_here b first = head_here reading v old.files one b (subst (λ (c : Files). IsFirstDamagedLast v.shape v.lattice v.digests c b) same_files first)

    -- nor of the heads
    none_of_heads : MayEnter v name → ((a : BlockId) → IsDamagedLast v.shape v.lattice v.digests mid.files a → ⊥) → (why : Refusal) → place_of why < place_of (Full 0) → revealed_causes why → ⊥
    none_of_heads may intact (HeadDamaged b) before cause = intact b (first_there b cause).damaged
    none_of_heads may intact (Full n) before cause = omega arith
    none_of_heads may intact CatalogFull before cause = none_of_entry may CatalogFull (omega arith) cause
    none_of_heads may intact NameTaken before cause = none_of_entry may NameTaken (omega arith) cause
    none_of_heads may intact NoArchive before cause = none_of_opening NoArchive (omega arith) cause
    none_of_heads may intact (LedgerBad at) before cause = none_of_opening (LedgerBad at) (omega arith) cause
    none_of_heads may intact BadName before cause = cause.1 may.named
    none_of_heads may intact why before cause = cause

    -- the name is one where that is no cause
    named_by : (why : Refusal) → place_of BadName < place_of why → IsFirst revealed_causes why → IsName name
    named_by why late first = elim (name_or_not (is_name name)) [
      | inl is ↦ is
      | inr never ↦ absurd (first.none BadName late (some_ledger (old.files 0) v.shape one.records (has_ledger_of reading v (old.files 0) one), never))
    ]

    -- no object has it where that is no cause
    absent_by : (why : Refusal) → place_of NameTaken < place_of why → IsFirst revealed_causes why → get v.objects name ≡ None
    absent_by why late first = elim (none_or_some (get v.objects name)) [
      | inl none ↦ none
      | inr some ↦ absurd (first.none NameTaken late (taken_here reading v (old.files 0) one free name some))
    ]

    enters_by : (why : Refusal) → place_of CatalogFull < place_of why → IsFirst revealed_causes why → MayEnter v name
    enters_by why late first = record {
      named = named_by why (omega (arith, late)) first;
      free = absent_by why (omega (arith, late)) first;
      few = λ most. first.none CatalogFull late (many_here reading v (old.files 0) one count most);
    }

    outside : (r ≡ Err put.DiskFault) ⊎ (r ≡ Err put.NoMemory) → IsStopped (answer_of r)
    outside (inl e) = inl (ap answer_of e)
    outside (inr e) = inr (inr (ap answer_of e))

    -- where a cause is the first that holds it is the answer, but for faults and lack of memory
    always_is : (why : Refusal) → (IsByInput why → IsSome left) → IsFirst revealed_causes why → (answer_of r ≡ Err (failure.Refused why)) ⊎ IsStopped (answer_of r)
    always_is NoArchive never first = absurd (none_of_opening NoArchive (omega arith) first.stands)
    always_is (LedgerBad at) never first = absurd (none_of_opening (LedgerBad at) (omega arith) first.stands)
    always_is BadName never first = inl (ap answer_of (gave.bad_name.1 first.stands.1))
    always_is NameTaken never first =
        inl (ap answer_of (gave.taken.1 (named_by NameTaken (omega arith) first, taken_there reading v (old.files 0) one free name first.stands)))
    always_is CatalogFull never first =
        inl (ap answer_of (gave.many.1 (named_by CatalogFull (omega arith) first, (λ some. some (absent_by CatalogFull (omega arith) first)), many_there reading v (old.files 0) one count first.stands)))
    always_is (HeadDamaged b) never first =
        let here = first_there b first.stands in
        elim (gave.head_refused revealed (enters_by (HeadDamaged b) (omega arith) first) b here.damaged) [
          | inl found ↦
              let same : found.0 ≡ b = one_head reveal v.shape v.lattice v.digests mid.files found.0 b one.has.lattice.alpha ((gave.head found.0 found.1).1 revealed) here in
              inl (ap answer_of (found.1 ∙ ap (λ (a : BlockId). Err (put.HeadDamaged a)) same))
          | inr out ↦ inr (outside out)
        ]
    always_is (Full n) some first =
        let input = revealed_input left (some tt) in
        let xs = input.0 in
        let is = input.1 in
        let given : unwrap_or left [] ≡ xs = ap (λ (l : Option (List ℕ)). unwrap_or l []) is in
        let there = full_there reading v (old.files 0) one (unwrap_or left []) n first.stands in
        let past : limit_when v.raised < v.lattice.n + nodes_for v.shape (length xs) = subst (λ (l : List ℕ). limit_when v.raised < v.lattice.n + nodes_for v.shape (length l)) given there.1 in
        elim (gave.full_refused xs is (enters_by (Full n) (omega arith) first) past) [
          | inl e ↦ inl (ap answer_of (e ∙ ap (λ (k : ℕ). Err (put.Full k)) (sym there.0)))
          | inr (inl e) ↦ inr (inr (inl (ap answer_of e)))
          | inr (inr (inl found)) ↦ absurd (first.none (HeadDamaged found.0) (omega arith) (first_here found.0 ((gave.head found.0 found.1).1 revealed)))
          | inr (inr (inr out)) ↦ inr (outside out)
        ]
    always_is why never first = absurd first.stands

    -- the causes of the refusals
    first_as : (one_why why : Refusal) → (let a : Result Stored Failure = Err (failure.Refused one_why) in a ≡ Err (failure.Refused why)) → IsFirst revealed_causes one_why → IsFirst revealed_causes why
    first_as one_why why e first = let same : one_why ≡ why = cc in subst (λ (x : Refusal). IsFirst revealed_causes x) same first

    not_fault : (f g : PutFault) → r ≡ Err f → (f ≡ g → ⊥) → r ≢ Err g
    not_fault f g is differs e = differs (err_inside f g (sym is ∙ e))

    only_is : (q : Result Stored PutFault) → r ≡ q → (why : Refusal) → (IsByInput why → IsSome left) → answer_of q ≡ Err (failure.Refused why) → IsFirst revealed_causes why
    only_is (Ok s) same why some e = let h : Ok s ≡ Err (failure.Refused why) = e in cc
    only_is (Err put.BadName) same why some e =
        first_as BadName why e (record {
          stands = (some_ledger (old.files 0) v.shape one.records (has_ledger_of reading v (old.files 0) one), gave.bad_name.0 same);
          none = λ other before cause. none_of_bad other before cause;
        })
      where
        none_of_bad : (other : Refusal) → place_of other < place_of BadName → revealed_causes other → ⊥
        none_of_bad NoArchive before cause = none_of_opening NoArchive (omega arith) cause
        none_of_bad (LedgerBad at) before cause = none_of_opening (LedgerBad at) (omega arith) cause
        none_of_bad BadName before cause = omega arith
        none_of_bad NameTaken before cause = omega arith
        none_of_bad CatalogFull before cause = omega arith
        none_of_bad (HeadDamaged b) before cause = omega arith
        none_of_bad (Full n) before cause = omega arith
        none_of_bad other before cause = cause
    only_is (Err put.NameTaken) same why some e =
        let both = gave.taken.0 same in
        first_as NameTaken why e (record { stands = taken_here reading v (old.files 0) one free name both.1; none = none_of_name both.0 })
    only_is (Err put.CatalogFull) same why some e =
        let all = gave.many.0 same in
        first_as CatalogFull why e (record { stands = many_here reading v (old.files 0) one count all.2; none = none_of_taken all.0 all.1 })
    only_is (Err (put.HeadDamaged b)) same why some e =
        let may = enters (not_fault (put.HeadDamaged b) put.BadName same (λ d. cc)) (not_fault (put.HeadDamaged b) put.NameTaken same (λ d. cc)) (not_fault (put.HeadDamaged b) put.CatalogFull same (λ d. cc)) in
        first_as (HeadDamaged b) why e (record { stands = first_here b ((gave.head b same).1 revealed); none = none_of_entry may })
    only_is (Err (put.Full n)) same why some e =
        let may = enters (not_fault (put.Full n) put.BadName same (λ d. cc)) (not_fault (put.Full n) put.NameTaken same (λ d. cc)) (not_fault (put.Full n) put.CatalogFull same (λ d. cc)) in
        let full = gave.full n same in
        let there : Full n ≡ why = (let h : (let a : Result Stored Failure = Err (failure.Refused (Full n)) in a ≡ Err (failure.Refused why)) = e in cc) in
        let input = revealed_input left (some (subst IsByInput there tt)) in
        let xs = input.0 in
        let is = input.1 in
        let passed = passed_full v xs rest (subst (λ (l : Option (List ℕ)). HasPassedRoom v l rest) is full.1) in
        let given : xs ≡ unwrap_or left [] = sym (ap (λ (l : Option (List ℕ)). unwrap_or l []) is) in
        first_as (Full n) why e (record {
          stands = full_here reading v (old.files 0) one (unwrap_or left []) n full.0 (subst (λ (l : List ℕ). limit_when v.raised < v.lattice.n + nodes_for v.shape (length l)) given passed);
          none = none_of_heads may (gave.full_intact n same revealed);
        })
    only_is (Err put.ReadFault) same why some e = let h : Err failure.Input ≡ Err (failure.Refused why) = e in cc
    only_is (Err put.DiskFault) same why some e = let h : Err failure.Disk ≡ Err (failure.Refused why) = e in cc
    only_is (Err put.NoMemory) same why some e = let h : Err failure.Memory ≡ Err (failure.Refused why) = e in cc

  -- how the run shows why it is refused
  pub putting_refuses : RefusesBy (IsDecided reveals (IsSome left) IsByInput) (PutCauses name old.files (unwrap_or left [])) (answer_of r)
  putting_refuses = record {
    only = λ why is revealed. only_is revealed.0 r refl why revealed.1 is;
    always = λ why revealed first. always_is revealed.0 why revealed.1 first;
  }
