-- What a run leaves that adds a record to the ledger, by where it ends.
pub mod Running
use Rattle.std.proofs.Common.{◌≡◌, ◌≢◌, ◌⊎◌, inl, inr, ℕ, ◌+◌, ◌≤◌, List, [], ◌∷◌, ◌++◌, length, refl, sym, ◌∙◌, ap, subst, arith, max, Result, Ok, Err}
use Rattle.std.specs.Prelude.{IsOk, IsErrAnd}
use Rattle.std.proofs.lemmas.Bool.{false≢true}
use Rattle.aea_lattice.specs.declared.shape.Shape.{Shape}
use Rattle.aea_disk.specs.Files.{Files, ChangesOnly}
use Rattle.aea_disk.specs.Frames.{OnlyWrites}
use Rattle.aea_disk.specs.State.{State, Passes, IsReady, IsRoomy, During}
use Rattle.aea_disk.proofs.Frames.{ready_later, reads_then_writes, writes_others}
use Rattle.aea_disk.proofs.Moments.{others_kept}
use Rattle.aea_records.specs.Format.{Record, body, entry, spelled}
use Rattle.aea_records.specs.Grammar.{IsNext, IsLedger, AreRecords}
use Rattle.aea_records.specs.Laws.{IsSomeLedger, HasOneReading}
use Rattle.aea_ledger.specs.Committing.{LeavesOldOrNew, HasCommitted}
use Rattle.aea_ledger.specs.Next.{AreItsRecords}
use Rattle.aea_ledger.specs.Recorded.{AreRecordsOf}
use Rattle.aea_ledger.specs.Taking.{FitsAdding}
use Rattle.aea_ledger.proofs.Readying.{adding_later}
use Rattle.aea_ledger.specs.Stops.{HasLedger, HasOldOrNew, StaysAll, committed}
use Rattle.aea_ledger.specs.Values.{Opened, HasRecords, IsThisOne}
use Rattle.aea_command.specs.declared.refusal.Refusal.{Refusal}
use Rattle.aea_command.specs.declared.refusal.Failure.{Failure}
use Rattle.aea_command.specs.declared.refusal.Failure.TheVariants as failure
use Rattle.aea_command_store.specs.Adding.{HasAddedRecord, MayHaveAdded, WouldEndAt, FitsRecord, AddsRecord, KeepsTheRest}
use Rattle.aea_command.specs.Openings.{IsUntouched, Opens}
use Rattle.aea_command.proofs.OpeningCases.{untouched, opening_not_output, opened_more, opening_more, opened_then}
use Rattle.aea_command.proofs.Behind.{some_ledger}

err_same : {T : Type 0} (f g : Failure) → (let one : Result T Failure = Err f in one ≡ Err g) → f ≡ g
err_same f g e = cc

-- what the ledger records, it records with the record after it
abbrev pub KeepsRecorded : (List Record → Record) → Type 0
KeepsRecorded adds =
    (shape : Shape) (records : List Record) (datas : List (List ℕ)) → AreRecords shape (records ++ adds records ∷ []) → AreRecordsOf shape records datas → AreRecordsOf shape (records ++ adds records ∷ []) datas

-- where every file is as it was, none was added
may_stay : (adds : List Record → Record) → KeepsRecorded adds → (old c : Files) → ((f : ℕ) → c f ≡ old f) → MayHaveAdded adds old c
may_stay adds keeps old c same = record {
  ledger = λ shape records has. inl (subst (λ (bytes : List ℕ). HasLedger shape records bytes) (sym (same 0)) has);
  recorded = λ shape records datas has. keeps shape records datas has.valid;
  none = λ _. same 0;
  others = λ f apart. same f;
}

-- how an answer shows what was done, and not what was printed
pub record Agrees {T U : Type 0} (gave : Result T Failure) (answer : Result U Failure) : Type 0 where
  pub well : IsOk answer ⊎ (answer ≡ Err failure.Output) → IsOk gave ⊎ (gave ≡ Err failure.Output)
  pub done : IsOk gave ⊎ (gave ≡ Err failure.Output) → IsOk answer ⊎ (answer ≡ Err failure.Output)
  pub there : (f : Failure) → f ≢ failure.Output → answer ≡ Err f → gave ≡ Err f
  pub back : (f : Failure) → f ≢ failure.Output → gave ≡ Err f → answer ≡ Err f

-- an answer with a failure agrees with a call that gave the same failure
pub agrees_failed : {T U : Type 0} (f : Failure) → Agrees {T = T} {U = U} (Err f) (Err f)
agrees_failed {T} {U} f = record {
  well = λ e. elim e [ inl ok ↦ absurd (false≢true ok) | inr is ↦ inr (ap Err (err_same {T = U} f failure.Output is)) ];
  done = λ e. elim e [ inl ok ↦ absurd (false≢true ok) | inr is ↦ inr (ap Err (err_same {T = T} f failure.Output is)) ];
  there = λ g differs is. ap Err (err_same {T = U} f g is);
  back = λ g differs is. ap Err (err_same {T = T} f g is);
}

-- a run that adds a record by what was given does so by each answer that agrees with it
pub adds_as : {T U : Type 0} (adds : List Record → Record) (reveals : Type 0) (old new : State) (gave : Result T Failure) (answer : Result U Failure) → Agrees gave answer → AddsRecord adds reveals old new gave → AddsRecord adds reveals old new answer
adds_as {T} {U} adds reveals old new gave answer agrees does = record {
  stands = λ e. does.stands (agrees.well e);
  refused = λ why is. does.refused why (agrees.there (failure.Refused why) (λ d. cc) is);
  out_of_memory = λ is. does.out_of_memory (agrees.there failure.Memory (λ d. cc) is);
  stops = does.stops;
  opened = λ differs. does.opened (λ is. differs (agrees.back failure.Disk (λ d. cc) is));
  reads = does.reads;
  long = does.long;
  in_room = λ revealed ready fits. (λ is. (does.in_room revealed ready fits).0 (agrees.there failure.Disk (λ d. cc) is), (does.in_room revealed ready fits).1);
}

-- the archive was opened, or not, and then nothing was written
pub adds_read : {T : Type 0} (adds : List Record → Record) → KeepsRecorded adds → (reveals : Type 0) (old new : State) (opening : Result Opened Failure) (f : Failure) → Opens reveals old new opening → f ≢ failure.Output
    → (f ≡ failure.Disk → opening ≡ Err failure.Disk) → (opening ≡ Err failure.Disk → f ≡ failure.Disk) → AddsRecord {T = T} adds reveals old new (Err f)
adds_read {T} adds keeps reveals old new opening f opens output there back = record {
  stands = λ e. elim e [ inl ok ↦ absurd (false≢true ok) | inr is ↦ absurd (output (err_same {T = T} f failure.Output is)) ];
  refused = λ why is. untouched reveals old new opening opens (λ d. let a = back d in let b = err_same {T = T} f (failure.Refused why) is in let c : failure.Disk ≡ failure.Refused why = sym a ∙ b in cc);
  out_of_memory = λ is. untouched reveals old new opening opens (λ d. let a = back d in let b = err_same {T = T} f failure.Memory is in let c : failure.Disk ≡ failure.Memory = sym a ∙ b in cc);
  stops = λ revealed. opening_more old new _ _ (λ c same. may_stay adds keeps old.files c same) (opens.stops revealed);
  opened = λ differs revealed. opened_more old new _ _ (λ c same. may_stay adds keeps old.files c same) (opens.opened (λ d. differs (ap Err (back d))) revealed);
  reads = λ revealed. may_stay adds keeps old.files new.files (λ k. ap (λ (c : Files). c k) (opens.reads.contents revealed));
  long = λ revealed shape records has. let same = ap (λ (c : Files). length (c 0)) (opens.reads.contents revealed) in omega arith;
  in_room = λ revealed ready fits. let sure = opens.reads.sure revealed ready fits.some in (λ is. sure.0 (there (err_same {T = T} f failure.Disk is)), sure.1);
}

pub rest_read : {T : Type 0} (reveals : Type 0) (old new : State) (opening : Result Opened Failure) (answer : Result T Failure) → Opens reveals old new opening → (answer ≡ Err failure.Disk → opening ≡ Err failure.Disk) → (opening ≡ Err failure.Disk → answer ≡ Err failure.Disk)
    → KeepsTheRest reveals (answer ≡ Err failure.Disk) old new
rest_read reveals old new opening answer opens there back = record {
  others = others_kept reveals 0 old new opens.reads.crash opens.reads.contents;
  time = opens.reads.time;
  kept = opens.reads.kept;
  cause = λ is. opens.reads.cause (there is);
  still = λ fine. opens.reads.still (λ is. fine (back is));
  beneath = λ revealed ready is. opens.reads.beneath revealed ready (there is);
}

-- the archive was not opened
pub adds_opening : {T : Type 0} (adds : List Record → Record) → KeepsRecorded adds → (reveals : Type 0) (old new : State) (f : Failure) → Opens reveals old new (Err f) → AddsRecord {T = T} adds reveals old new (Err f)
adds_opening adds keeps reveals old new f opens =
    adds_read adds keeps reveals old new (Err f) f opens (λ e. let kind = opens.kinds in opening_not_output kind.0 (sym kind.1 ∙ e)) (λ e. ap Err e) (λ e. err_same {T = Opened} f failure.Disk e)

-- the record r, which is the one to be added, was committed to the opened archive v, or the disk failed at that
pub record IsCommitting (adds : List Record → Record) (reveals : Type 0) (v : Opened) (r : Record) (fault : Type 0) (old mid new : State) : Type 0 where
  pub opens : Opens reveals old mid (Ok v)
  pub is : (records : List Record) → HasRecords v records → adds records ≡ r
  pub next : (records : List Record) → HasRecords v records → IsNext v.shape records r
  pub leaves : LeavesOldOrNew reveals v r mid new
  pub writes : OnlyWrites reveals (IsReady mid) (FitsAdding mid 1 (v.end + length (entry r))) fault (ChangesOnly 0) mid new

opened_not : (v : Opened) (f : Failure) → Ok v ≡ Err f → ⊥
opened_not v f e = cc

-- the records of what was opened are those of the bytes, before the commit too
pub its_records : (reveals : Type 0) (old mid : State) (v : Opened) → Opens reveals old mid (Ok v) → reveals → (one : IsThisOne v (old.files 0)) → AreItsRecords v one.records (mid.files 0)
its_records reveals old mid v opens revealed one = record {
  has = one.has;
  ledger = subst (λ (c : Files). IsLedger (c 0) v.shape one.records v.end) (sym (opens.reads.contents revealed)) one.ledger;
}

-- what is left of files in which the old ledger was, or the new one
may_add : HasOneReading → (adds : List Record → Record) → KeepsRecorded adds → (v : Opened) (r : Record) (old c : Files) (one : IsThisOne v (old 0)) → adds one.records ≡ r → HasOldOrNew v.shape one.records r (c 0) → ChangesOnly 0 old c → MayHaveAdded adds old c
may_add reading adds keeps v r old c one is either others = record {
  ledger = λ shape records has.
      let same = reading (old 0) v.shape shape one.records records v.end (length (spelled shape records)) one.ledger has in
      let e : r ≡ adds records = sym is ∙ ap adds same.1.0 in
      let one_shape = subst (λ (s : Shape). HasOldOrNew s one.records r (c 0)) same.0 either in
      let one_list = subst (λ (l : List Record). HasOldOrNew shape l r (c 0)) same.1.0 one_shape in
      subst (λ (q : Record). HasOldOrNew shape records q (c 0)) e one_list;
  recorded = λ shape records datas has. keeps shape records datas has.valid;
  none = λ never. absurd (never (record { shape = v.shape; records = one.records; end = v.end; ledger = one.ledger }));
  others = others;
}

-- each image of the commit
adds_during : HasOneReading → (adds : List Record → Record) → KeepsRecorded adds → (reveals : Type 0) (v : Opened) (r : Record) (fault : Type 0) (old mid new : State) → IsCommitting adds reveals v r fault old mid new → reveals → During mid new (MayHaveAdded adds old.files)
adds_during reading adds keeps reveals v r fault old mid new does revealed t c from to here =
    let opens = does.opens in
    let one = opens.this_one revealed in
    let was = does.writes.crash t c from to here in
    may_add reading adds keeps v r old.files c one (does.is one.records one.has)
    (does.leaves.any_moment revealed one.records (its_records reveals old mid v opens revealed one) t c from to here)
    (λ k apart. was.2 k apart ∙ opens.synced (opened_not v failure.Disk) revealed was.0 was.1 k ∙ ap (λ (d : Files). d k) (opens.reads.contents revealed))

adds_reads : HasOneReading → (adds : List Record → Record) → KeepsRecorded adds → (reveals : Type 0) (v : Opened) (r : Record) (fault : Type 0) (old mid new : State) → IsCommitting adds reveals v r fault old mid new → reveals → MayHaveAdded adds old.files new.files
adds_reads reading adds keeps reveals v r fault old mid new does revealed =
    let opens = does.opens in
    let one = opens.this_one revealed in
    may_add reading adds keeps v r old.files new.files one (does.is one.records one.has)
    (does.leaves.reads revealed one.records (its_records reveals old mid v opens revealed one))
    (λ k apart. does.writes.contents revealed k apart ∙ ap (λ (d : Files). d k) (opens.reads.contents revealed))

adds_long : HasOneReading → (adds : List Record → Record) (reveals : Type 0) (v : Opened) (r : Record) (fault : Type 0) (old mid new : State) → IsCommitting adds reveals v r fault old mid new → reveals
    → (shape : Shape) (records : List Record) → HasLedger shape records (old.files 0) → length (new.files 0) ≤ max (length (old.files 0)) (length (spelled shape records) + length (entry (adds records)) + 1)
adds_long reading adds reveals v r fault old mid new does revealed shape records has =
    let opens = does.opens in
    let one = opens.this_one revealed in
    let same = reading (old.files 0) v.shape shape one.records records v.end (length (spelled shape records)) one.ledger has in
    let long = does.leaves.long revealed in
    let before : length (mid.files 0) ≡ length (old.files 0) = ap (λ (c : Files). length (c 0)) (opens.reads.contents revealed) in
    let e : length (entry (adds records)) ≡ length (entry r) = ap (λ (q : Record). length (entry q)) (ap adds (sym same.1.0) ∙ does.is one.records one.has) in
    let end : v.end ≡ length (spelled shape records) = same.1.1 in
    rw (← before, e, ← end) long

-- the record fits the disk after the opening
fits_commit : (adds : List Record → Record) (reveals : Type 0) (v : Opened) (r : Record) (fault : Type 0) (old mid new : State) → IsCommitting adds reveals v r fault old mid new → FitsRecord adds reveals old → FitsAdding old 1 (v.end + length (entry r))
fits_commit adds reveals v r fault old mid new does fits =
    let opens = does.opens in
    fits.behind (v.end + length (entry r)) (λ revealed.
    let one = opens.this_one revealed in
    let is = does.is one.records one.has in
    record {
      shape = v.shape;
      records = one.records;
      ledger = subst (λ (n : ℕ). IsLedger (old.files 0) v.shape one.records n) one.has.end one.ledger;
      next = subst (λ (q : Record). IsNext v.shape one.records q) (sym is) (does.next one.records one.has);
      place = ap (λ (n : ℕ). n + length (entry r)) one.has.end ∙ ap (λ (q : Record). length (spelled v.shape one.records) + length (entry q)) (sym is);
    })

-- calls after the opening that change the ledger file alone, as a part of the whole run
frame_behind : (reveals fits late_fits fault : Type 0) (v : Opened) (old mid new : State) → Opens reveals old mid (Ok v) → (fits → IsRoomy old) → (reveals → fits → mid.files ≡ old.files → Passes old mid → late_fits)
    → OnlyWrites reveals (IsReady mid) late_fits fault (ChangesOnly 0) mid new → OnlyWrites reveals (IsReady old) fits fault (ChangesOnly 0) old new
frame_behind reveals fits late_fits fault v old mid new opens room late writes =
    reads_then_writes reveals (IsReady old) (IsReady mid) fits late_fits (let opening : Result Opened Failure = Ok v in opening ≡ Err failure.Disk) fault (ChangesOnly 0) old mid new
    (opened_not v failure.Disk) (λ c f apart. refl) (λ ready. ready) (λ revealed ready same goes. ready_later old mid same goes ready) room late opens.reads writes

-- the opening and the commit: with enough space neither fails
commit_frame : (adds : List Record → Record) (reveals : Type 0) (v : Opened) (r : Record) (fault : Type 0) (old mid new : State) → IsCommitting adds reveals v r fault old mid new → OnlyWrites reveals (IsReady old) (FitsRecord adds reveals old) fault (ChangesOnly 0) old new
commit_frame adds reveals v r fault old mid new does =
    frame_behind reveals (FitsRecord adds reveals old) (FitsAdding mid 1 (v.end + length (entry r))) fault v old mid new does.opens (λ fits. fits.some)
    (λ revealed fits same time. adding_later old mid 1 (v.end + length (entry r)) (ap (λ (c : Files). c 0) same) time (fits_commit adds reveals v r fault old mid new does fits))
    does.writes

-- the disk failed at the commit
pub adds_failed : {T : Type 0} → HasOneReading → (adds : List Record → Record) → KeepsRecorded adds → (reveals : Type 0) (v : Opened) (r : Record) (fault : Type 0) (old mid new : State) → IsCommitting adds reveals v r fault old mid new → fault → AddsRecord {T = T} adds reveals old new (Err failure.Disk)
adds_failed {T} reading adds keeps reveals v r fault old mid new does failed = record {
  stands = λ e. elim e [ inl ok ↦ absurd (false≢true ok) | inr is ↦ let h = err_same {T = T} failure.Disk failure.Output is in cc ];
  refused = λ why is. let h = err_same {T = T} failure.Disk (failure.Refused why) is in cc;
  out_of_memory = λ is. let h = err_same {T = T} failure.Disk failure.Memory is in cc;
  stops = λ revealed. inr (opened_then old mid new _ _ does.opens.reads.time does.writes.time (λ c same. may_stay adds keeps old.files c same) (adds_during reading adds keeps reveals v r fault old mid new does revealed) (does.opens.opened (opened_not v failure.Disk) revealed));
  opened = λ differs. absurd (differs refl);
  reads = adds_reads reading adds keeps reveals v r fault old mid new does;
  long = adds_long reading adds reveals v r fault old mid new does;
  in_room = λ revealed ready fits. absurd (((commit_frame adds reveals v r fault old mid new does).sure revealed ready fits).0 failed);
}

-- the record was committed
pub adds_done : {T : Type 0} → HasOneReading → (adds : List Record → Record) → KeepsRecorded adds → (reveals : Type 0) (v w : Opened) (r : Record) (fault : Type 0) (old mid new : State) (value : T) → IsCommitting adds reveals v r fault old mid new → HasCommitted reveals v w r mid new
    → AddsRecord adds reveals old new (Ok value)
adds_done {T} reading adds keeps reveals v w r fault old mid new value does done = record {
  stands = λ e revealed.
      let one = does.opens.this_one revealed in
      let is = does.is one.records one.has in
      let same = does.opens.reads.contents revealed in
      let its = its_records reveals old mid v does.opens revealed one in
      let after = subst (λ (q : Record). HasLedger v.shape (one.records ++ q ∷ []) (new.files 0)) (sym is) (done.appended revealed one.records its) in (
        record {
          shape = v.shape;
          records = one.records;
          before = subst (λ (n : ℕ). IsLedger (old.files 0) v.shape one.records n) one.has.end one.ledger;
          after = after;
          exactly = done.exactly revealed ∙ ap (λ (c : Files). committed (c 0) v.end (body r ++ 0 ∷ [])) same ∙ ap (λ (n : ℕ). committed (old.files 0) n (body r ++ 0 ∷ [])) one.has.end
              ∙ ap (λ (q : Record). committed (old.files 0) (length (spelled v.shape one.records)) (body q ++ 0 ∷ [])) (sym is);
          recorded = λ datas. keeps v.shape one.records datas after.valid;
        },
        done.durable revealed,
      );
  refused = λ why is. let h : Ok value ≡ Err (failure.Refused why) = is in cc;
  out_of_memory = λ is. let h : Ok value ≡ Err failure.Memory = is in cc;
  stops = λ revealed. inr (opened_then old mid new _ _ does.opens.reads.time does.writes.time (λ c same. may_stay adds keeps old.files c same) (adds_during reading adds keeps reveals v r fault old mid new does revealed) (does.opens.opened (opened_not v failure.Disk) revealed));
  opened = λ differs revealed. opened_then old mid new _ _ does.opens.reads.time does.writes.time (λ c same. may_stay adds keeps old.files c same) (adds_during reading adds keeps reveals v r fault old mid new does revealed) (does.opens.opened (opened_not v failure.Disk) revealed);
  reads = adds_reads reading adds keeps reveals v r fault old mid new does;
  long = adds_long reading adds reveals v r fault old mid new does;
  in_room = λ revealed ready fits. (λ is. let h : Ok value ≡ Err failure.Disk = is in cc, ((commit_frame adds reveals v r fault old mid new does).sure revealed ready fits).1);
}

-- where calls after the opening changed the ledger file alone, each other file stays, and a fault of the answer, which
-- is one where these failed, has its cause
pub rest_behind : (reveals late_fits fault other : Type 0) (v : Opened) (old mid new : State) → Opens reveals old mid (Ok v) → OnlyWrites reveals (IsReady mid) late_fits fault (ChangesOnly 0) mid new
    → (other → fault) → (fault → other) → KeepsTheRest reveals other old new
rest_behind reveals late_fits fault other v old mid new opens writes so back =
    let frame = frame_behind reveals ⊥ late_fits fault v old mid new opens (λ none. absurd none) (λ revealed none. absurd none) writes in
    record {
      others = writes_others reveals _ _ fault (ChangesOnly 0) 0 old new (λ c d keeps. keeps) frame;
      time = frame.time;
      kept = frame.kept;
      cause = λ is. frame.cause (so is);
      still = λ fine. frame.still (λ is. fine (back is));
      beneath = λ revealed ready is. frame.beneath revealed ready (so is);
    }

-- where a record was committed, or the disk failed at that, each other file stays, and a fault of the answer has
-- its cause if it is one of the commit
pub rest_committed : (adds : List Record → Record) (reveals : Type 0) (v : Opened) (r : Record) (fault other : Type 0) (old mid new : State) → IsCommitting adds reveals v r fault old mid new → (other → fault) → (fault → other) → KeepsTheRest reveals other old new
rest_committed adds reveals v r fault other old mid new does so back =
    rest_behind reveals (FitsAdding mid 1 (v.end + length (entry r))) fault other v old mid new does.opens does.writes so back
