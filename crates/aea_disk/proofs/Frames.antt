-- How frames of calls go together: calls that only read, and calls that change the files by one step.
use Rattle.std.proofs.Common.{◌≡◌, ◌≢◌, ◌⊎◌, ⊎_elim, ℕ, ◌+◌, ◌-◌, ◌^◌, ◌<◌, ◌≤◌, min, List, length, Result, Ok, Err, IsOk, IsErr, OnOk, OnErr, refl, sym, ap, subst, ◌∙◌, inl, inr, arith}
use Rattle.std.proofs.lemmas.Bool.{cases_lt}
use Rattle.aea_faults.specs.Faults.{Rose, HasCause}
use Rattle.aea_disk.specs.Files.{Files, ChangesFile, Holds, Torn, IsCut, MayBeCut, KeepsFiles}
use Rattle.aea_disk.specs.Steps.{holds_torn, changes_wider}
use Rattle.aea_disk.specs.State.{State, Passes, Follows, KeepsImages, Settles, IsReady, IsRoomy, KeepsTaking, IsSure, IsSynced, KeepsOthers, KeepsWhere}
use Rattle.aea_disk.specs.Frames.{OnlyReads, OnlyWrites}
use Rattle.aea_disk.proofs.Moments.{passes_none, passes_both, during_none, during_both, during_then_kept}
use Rattle.aea_disk.proofs.Stays.{earlier_none, earlier_step, earlier_kept, earlier_both}

-- what is taken, where the calls did not fail and left the files
pub ready_later : (old mid : State) → mid.files ≡ old.files → KeepsTaking old mid → IsReady old → IsReady mid
ready_later old mid same goes ready = (ready.0, subst (λ (c : Files). mid.takes 0 (c 0) ready.0) (sym same) (goes 0 (old.files 0) ready.0 ready.1))

-- and the capacity
pub roomy_later : (old mid : State) → mid.files ≡ old.files → Passes old mid → IsRoomy old → IsRoomy mid
roomy_later old mid same time roomy = record {
  some = (roomy.some.0, roomy.some.1, time.room roomy.some.0 roomy.some.1 roomy.some.2);
  sync = subst (λ (c : Files). mid.keeps (c 0)) (sym same) (time.syncs (old.files 0) roomy.sync);
}

-- the count beneath rose in the first calls or in the later ones, or in neither
rose_later : (a b c : ℕ) → a ≤ b → Rose b c → Rose a c
rose_later a b c le rose = omega (arith, le, rose)

rose_sooner : (a b c : ℕ) → Rose a b → b ≤ c → Rose a c
rose_sooner a b c rose le = omega (arith, rose, le)

-- the count rose, or not
rose_or_not : (a b : ℕ) → Rose a b ⊎ (Rose a b → ⊥)
rose_or_not a b = ⊎_elim (λ (less : b < min (a + 1) (2 ^ 64 - 1)). inr (λ (rose : Rose a b). absurd (omega (arith, less, rose)))) (λ (rose : min (a + 1) (2 ^ 64 - 1) ≤ b). inl rose) (cases_lt b (min (a + 1) (2 ^ 64 - 1)))

-- where it did not rise in all, it rose neither before nor after
not_before : (a b c : ℕ) → b ≤ c → (Rose a c → ⊥) → Rose a b → ⊥
not_before a b c le still rose = still (rose_sooner a b c rose le)

not_after : (a b c : ℕ) → a ≤ b → (Rose a c → ⊥) → Rose b c → ⊥
not_after a b c le still rose = still (rose_later a b c le rose)

-- no call, and no fault
pub reads_none : (reveals fault : Type 0) (s : State) → (fault → ⊥) → OnlyReads reveals fault s s
reads_none reveals fault s fine = record {
  contents = λ _. refl;
  crash = during_none s (s.image s.moment) (λ c here. here);
  time = passes_none s;
  earlier = earlier_none s;
  kept = omega arith;
  cause = λ is. absurd (fine is);
  still = λ _. refl;
  sure = λ reveal ready room. (fine, refl);
  beneath = λ reveal ready is. absurd (fine is);
  goes = λ reveal ready how file b at has. has;
}

-- one call, by the clauses of the disk
pub reads_one : {T E : Type 0} (reveals : Type 0) (old new : State) (result : Result T E) → (reveals → new.files ≡ old.files) → KeepsImages old new → Settles old new → Passes old new → HasCause old.faults new.faults result → IsSure (reveals × IsReady old) (IsRoomy old) old new result → OnlyReads reveals (IsErr result) old new
reads_one reveals old new (Ok v) contents crash settled time cause sure = record {
  contents = contents;
  crash = crash;
  time = time;
  earlier = earlier_kept old new crash settled time;
  kept = cause.kept;
  cause = λ none. absurd (cc);
  still = λ _. cause.still;
  sure = λ reveal ready room. (λ none. cc, (sure.sure (reveal, ready) room).1);
  beneath = λ reveal ready none. absurd (cc);
  goes = λ reveal ready how. sure.goes;
}
reads_one reveals old new (Err e) contents crash settled time cause sure = record {
  contents = contents;
  crash = crash;
  time = time;
  earlier = earlier_kept old new crash settled time;
  kept = cause.kept;
  cause = λ is. cause.rose;
  still = λ fine. absurd (fine refl);
  sure = λ reveal ready room. (λ is. let ok = (sure.sure (reveal, ready) room).0 in cc, (sure.sure (reveal, ready) room).1);
  beneath = λ reveal ready is. sure.beneath (reveal, ready);
  goes = λ reveal ready how.
      ⊎_elim
      (λ (room : IsRoomy old). let ok = (sure.sure (reveal, ready) room).0 in absurd (cc))
      (λ (still : Rose old.beneath new.beneath → ⊥). absurd (still (sure.beneath (reveal, ready)))) how;
}

-- another name for the fault: it is returned where the calls failed, and only there
pub reads_as : (reveals fault other : Type 0) (old new : State) → (other → fault) → (fault → other) → OnlyReads reveals fault old new → OnlyReads reveals other old new
reads_as reveals fault other old new so back reads = record {
  contents = reads.contents;
  crash = reads.crash;
  time = reads.time;
  earlier = reads.earlier;
  kept = reads.kept;
  cause = λ is. reads.cause (so is);
  still = λ fine. reads.still (λ is. fine (back is));
  sure = λ reveal ready room. (λ is. (reads.sure reveal ready room).0 (so is), (reads.sure reveal ready room).1);
  beneath = λ reveal ready is. reads.beneath reveal ready (so is);
  goes = reads.goes;
}

-- what is Ok is no error
pub ok_not_err : {T E : Type 0} (result : Result T E) → IsOk result → IsErr result → ⊥
ok_not_err (Ok v) ok failed = absurd (cc)
ok_not_err (Err e) ok failed = absurd (cc)

-- and so is a result of which one knows that it is Ok
pub ok_fine : {T E : Type 0} {result : Result T E} {v : T} → result ≡ Ok v → IsErr result → ⊥
ok_fine {T} {E} {result} {v} ok failed = ok_not_err {E = E} (Ok v) refl (subst IsErr ok failed)

-- one call that did not fail, where no fault is returned
pub reads_made : {T E : Type 0} (reveals fault : Type 0) (old new : State) (result : Result T E) → IsOk result → (fault → ⊥) → (reveals → new.files ≡ old.files) → KeepsImages old new → Settles old new → Passes old new → HasCause old.faults new.faults result → IsSure (reveals × IsReady old) (IsRoomy old) old new result → OnlyReads reveals fault old new
reads_made reveals fault old new result ok fine contents crash settled time cause sure =
    reads_as reveals (IsErr result) fault old new (λ is. absurd (fine is)) (λ failed. absurd (ok_not_err result ok failed)) (reads_one reveals old new result contents crash settled time cause sure)

-- a fault, and another that is returned
pub reads_faulted : (reveals fault other : Type 0) (old new : State) → OnlyReads reveals fault old new → fault → other → OnlyReads reveals other old new
reads_faulted reveals fault other old new reads is also = reads_as reveals fault other old new (λ _. is) (λ _. also) reads

-- one call that failed, and a fault that is returned
pub reads_failed : {T E : Type 0} (reveals fault : Type 0) (old new : State) (result : Result T E) → IsErr result → fault → (reveals → new.files ≡ old.files) → KeepsImages old new → Settles old new → Passes old new → HasCause old.faults new.faults result → IsSure (reveals × IsReady old) (IsRoomy old) old new result → OnlyReads reveals fault old new
reads_failed reveals fault old new result failed is contents crash settled time cause sure =
    reads_as reveals (IsErr result) fault old new (λ _. failed) (λ _. is) (reads_one reveals old new result contents crash settled time cause sure)

-- a call that fits, or after which the count beneath did not rise, did not fail
made_goes : {T E : Type 0} (taken fits : Type 0) (old new : State) (result : Result T E) → IsSure taken fits old new result → taken → fits ⊎ (Rose old.beneath new.beneath → ⊥) → KeepsTaking old new
made_goes taken fits old new (Ok v) sure is how = sure.goes
made_goes taken fits old new (Err e) sure is how =
    ⊎_elim
    (λ (fit : fits). let ok = (sure.sure is fit).0 in absurd (cc))
    (λ (still : Rose old.beneath new.beneath → ⊥). absurd (still (sure.beneath is))) how

-- calls without a fault, and others
pub reads_both : (reveals first second : Type 0) (old mid new : State) → (first → ⊥) → OnlyReads reveals first old mid → OnlyReads reveals second mid new → OnlyReads reveals second old new
reads_both reveals first second old mid new fine early late = record {
  contents = λ reveal. late.contents reveal ∙ early.contents reveal;
  crash = during_then_kept old mid new (old.image old.moment) early.time late.time late.crash early.crash;
  time = passes_both old mid new early.time late.time;
  earlier = earlier_both old mid new early.time late.time early.earlier late.earlier;
  kept = omega (arith, early.kept, late.kept);
  cause = λ is. let rose : Rose mid.faults new.faults = late.cause is in omega (arith, early.kept, rose);
  still = λ none. late.still none ∙ early.still fine;
  sure = λ reveal ready room.
      let goes = early.goes reveal ready (inl room) in
      let then = late.sure reveal (ready_later old mid (early.contents reveal) goes ready) (roomy_later old mid (early.contents reveal) early.time room) in
      (then.0, then.1 ∙ (early.sure reveal ready room).1);
  beneath = λ reveal ready is.
      ⊎_elim
      (λ (rose : Rose old.beneath mid.beneath). rose_sooner old.beneath mid.beneath new.beneath rose late.time.beneath)
      (λ (still : Rose old.beneath mid.beneath → ⊥).
      let goes = early.goes reveal ready (inr still) in
      rose_later old.beneath mid.beneath new.beneath early.time.beneath (late.beneath reveal (ready_later old mid (early.contents reveal) goes ready) is))
      (rose_or_not old.beneath mid.beneath);
  goes = λ reveal ready how.
      let one = early.goes reveal ready (⊎_elim (λ (room : IsRoomy old). inl room) (λ (still : Rose old.beneath new.beneath → ⊥). inr (not_before old.beneath mid.beneath new.beneath late.time.beneath still)) how) in
      let two = late.goes reveal (ready_later old mid (early.contents reveal) one ready) (⊎_elim (λ (room : IsRoomy old). inl (roomy_later old mid (early.contents reveal) early.time room)) (λ (still : Rose old.beneath new.beneath → ⊥). inr (not_after old.beneath mid.beneath new.beneath early.time.beneath still)) how) in
      λ file b at has. two file b at (one file b at has);
}

-- what is synced stays synced
pub reads_synced : (reveals fault : Type 0) (old new : State) → reveals → OnlyReads reveals fault old new → IsSynced old → IsSynced new
reads_synced reveals fault old new reveal reads synced = λ c here f.
    synced c (reads.crash new.moment c reads.time.later (omega arith) here) f ∙ sym (ap (λ (files : Files). files f) (reads.contents reveal))

-- calls that only read take any step that may leave the files
pub reads_writes : (reveals taken fits fault : Type 0) (step : Files → Files → Type 0) (old new : State) → (taken → IsReady old) → (fits → IsRoomy old) → ((c : Files) → step c c) → OnlyReads reveals fault old new → OnlyWrites reveals taken fits fault step old new
reads_writes reveals taken fits fault step old new ready room none reads = record {
  contents = λ reveal. subst (step old.files) (sym (reads.contents reveal)) (none old.files);
  crash = λ t c from to here. (c, reads.crash t c from to here, none c);
  time = reads.time;
  earlier = reads.earlier;
  kept = reads.kept;
  cause = reads.cause;
  still = reads.still;
  sure = λ reveal is fit. reads.sure reveal (ready is) (room fit);
  beneath = λ reveal is. reads.beneath reveal (ready is);
  goes = λ reveal is how. reads.goes reveal (ready is) (⊎_elim (λ (fit : fits). inl (room fit)) (λ (still : Rose old.beneath new.beneath → ⊥). inr still) how);
}

-- no call
pub writes_none : (reveals taken fits : Type 0) (step : Files → Files → Type 0) (s : State) → ((c : Files) → step c c) → OnlyWrites reveals taken fits ⊥ step s s
writes_none reveals taken fits step s none = record {
  contents = λ _. none s.files;
  crash = λ t c from to here. (c, during_none s (s.image s.moment) (λ d there. there) t c from to here, none c);
  time = passes_none s;
  earlier = earlier_none s;
  kept = omega arith;
  cause = λ none. absurd none;
  still = λ _. refl;
  sure = λ reveal is fit. (λ none. none, refl);
  beneath = λ reveal is none. absurd none;
  goes = λ reveal is how file b at has. has;
}

-- one call, by the clauses of the disk
pub writes_one : {T E : Type 0} (reveals taken fits : Type 0) (step : Files → Files → Type 0) (old new : State) (result : Result T E) → (reveals → step old.files new.files) → Follows step old new → Settles old new → Passes old new → HasCause old.faults new.faults result → IsSure (reveals × taken) fits old new result → OnlyWrites reveals taken fits (IsErr result) step old new
writes_one reveals taken fits step old new (Ok v) contents crash settled time cause sure = record {
  contents = contents;
  crash = crash;
  time = time;
  earlier = earlier_step step old new crash settled time;
  kept = cause.kept;
  cause = λ none. absurd (cc);
  still = λ _. cause.still;
  sure = λ reveal is fit. (λ none. cc, (sure.sure (reveal, is) fit).1);
  beneath = λ reveal is none. absurd (cc);
  goes = λ reveal is how. sure.goes;
}
writes_one reveals taken fits step old new (Err e) contents crash settled time cause sure = record {
  contents = contents;
  crash = crash;
  time = time;
  earlier = earlier_step step old new crash settled time;
  kept = cause.kept;
  cause = λ is. cause.rose;
  still = λ fine. absurd (fine refl);
  sure = λ reveal is fit. (λ no. let ok = (sure.sure (reveal, is) fit).0 in cc, (sure.sure (reveal, is) fit).1);
  beneath = λ reveal is no. sure.beneath (reveal, is);
  goes = λ reveal is how. made_goes (reveals × taken) fits old new (Err e) sure (reveal, is) how;
}

-- what a write leaves, whatever it returns
pub torn_anyway : {T E : Type 0} (reveals : Type 0) (file at : ℕ) (bytes : List ℕ) (old new : Files) (result : Result T E) → OnOk result (reveals → ChangesFile file (Holds at bytes) old new) → OnErr result (reveals → ChangesFile file (Torn at (length bytes)) old new) → reveals → ChangesFile file (Torn at (length bytes)) old new
torn_anyway reveals file at bytes old new (Ok v) written torn revealed = changes_wider file (Holds at bytes) (Torn at (length bytes)) old new (λ xs ys. holds_torn at bytes xs ys) (written revealed)
torn_anyway reveals file at bytes old new (Err e) written torn revealed = torn revealed

-- and a cut
pub cut_anyway : {T E : Type 0} (reveals : Type 0) (file len : ℕ) (old new : Files) (result : Result T E) → OnOk result (reveals → ChangesFile file (IsCut len) old new) → OnErr result (reveals → ChangesFile file (MayBeCut len) old new) → reveals → ChangesFile file (MayBeCut len) old new
cut_anyway reveals file len old new (Ok v) cut torn revealed = changes_wider file (IsCut len) (MayBeCut len) old new (λ xs ys is. inr is) (cut revealed)
cut_anyway reveals file len old new (Err e) cut torn revealed = torn revealed

-- another name for the fault: it is returned where the calls failed, and only there
pub writes_as : (reveals taken fits fault other : Type 0) (step : Files → Files → Type 0) (old new : State) → (other → fault) → (fault → other) → OnlyWrites reveals taken fits fault step old new → OnlyWrites reveals taken fits other step old new
writes_as reveals taken fits fault other step old new so back writes = record {
  contents = writes.contents;
  crash = writes.crash;
  time = writes.time;
  earlier = writes.earlier;
  kept = writes.kept;
  cause = λ is. writes.cause (so is);
  still = λ fine. writes.still (λ is. fine (back is));
  sure = λ reveal is fit. (λ no. (writes.sure reveal is fit).0 (so no), (writes.sure reveal is fit).1);
  beneath = λ reveal is no. writes.beneath reveal is (so no);
  goes = writes.goes;
}

-- one call that failed, and a fault that is returned
pub writes_failed : {T E : Type 0} (reveals taken fits fault : Type 0) (step : Files → Files → Type 0) (old new : State) (result : Result T E) → IsErr result → fault → (reveals → step old.files new.files) → Follows step old new → Settles old new → Passes old new → HasCause old.faults new.faults result → IsSure (reveals × taken) fits old new result → OnlyWrites reveals taken fits fault step old new
writes_failed reveals taken fits fault step old new result failed is contents crash settled time cause sure =
    writes_as reveals taken fits (IsErr result) fault step old new (λ _. failed) (λ _. is) (writes_one reveals taken fits step old new result contents crash settled time cause sure)

-- a fault, and another that is returned
pub writes_faulted : (reveals taken fits fault other : Type 0) (step : Files → Files → Type 0) (old new : State) → OnlyWrites reveals taken fits fault step old new → fault → other → OnlyWrites reveals taken fits other step old new
writes_faulted reveals taken fits fault other step old new writes is also = writes_as reveals taken fits fault other step old new (λ _. is) (λ _. also) writes

-- a wider step, and fewer that are taken and that fit
pub writes_wider : (reveals taken fits less fewer fault : Type 0) (narrow wide : Files → Files → Type 0) (old new : State) → ((c d : Files) → narrow c d → wide c d) → (reveals → less → taken) → (reveals → fewer → fits) → OnlyWrites reveals taken fits fault narrow old new → OnlyWrites reveals less fewer fault wide old new
writes_wider reveals taken fits less fewer fault narrow wide old new wider takes room writes = record {
  contents = λ reveal. wider old.files new.files (writes.contents reveal);
  crash = λ t c from to here. let was = writes.crash t c from to here in (was.0, was.1, wider was.0 c was.2);
  time = writes.time;
  earlier = writes.earlier;
  kept = writes.kept;
  cause = writes.cause;
  still = writes.still;
  sure = λ reveal is fit. writes.sure reveal (takes reveal is) (room reveal fit);
  beneath = λ reveal is. writes.beneath reveal (takes reveal is);
  goes = λ reveal is how. writes.goes reveal (takes reveal is) (⊎_elim (λ (fit : fewer). inl (room reveal fit)) (λ (still : Rose old.beneath new.beneath → ⊥). inr still) how);
}

-- Calls without a fault, and others: the one step and then the other, where that is the third. What is taken and fits in all
-- is taken and fits in the first calls, and after them in the others.
pub writes_both : (reveals taken first_taken second_taken fits first_fits second_fits first second : Type 0) (one two all : Files → Files → Type 0) (old mid new : State)
    → (first → ⊥)
    → ((c d : Files) → one c d → all c d) → ((c d e : Files) → one c d → two d e → all c e)
    → (reveals → taken → first_taken) → (reveals → taken → one old.files mid.files → KeepsTaking old mid → second_taken)
    → (reveals → fits → first_fits) → (reveals → fits → one old.files mid.files → Passes old mid → second_fits)
    → OnlyWrites reveals first_taken first_fits first one old mid → OnlyWrites reveals second_taken second_fits second two mid new → OnlyWrites reveals taken fits second all old new
writes_both reveals taken first_taken second_taken fits first_fits second_fits first second one two all old mid new fine alone both early_takes late_takes early_fits late_fits early late = record {
  contents = λ reveal. both old.files mid.files new.files (early.contents reveal) (late.contents reveal);
  crash =
      during_both old mid new (λ c. (d : Files) × old.image old.moment d × all d c) early.time late.time
      (λ t c from to here. let was = early.crash t c from to here in (was.0, was.1, alone was.0 c was.2))
      (λ t c from to here.
      let was = late.crash t c from to here in
      let before = early.crash mid.moment was.0 early.time.later (omega arith) was.1 in
      (before.0, before.1, both before.0 was.0 c before.2 was.2));
  time = passes_both old mid new early.time late.time;
  earlier = earlier_both old mid new early.time late.time early.earlier late.earlier;
  kept = omega (arith, early.kept, late.kept);
  cause = λ is. let rose : Rose mid.faults new.faults = late.cause is in omega (arith, early.kept, rose);
  still = λ none. late.still none ∙ early.still fine;
  sure = λ reveal is fit.
      let one_is = early_takes reveal is in
      let goes = early.goes reveal one_is (inl (early_fits reveal fit)) in
      let then = late.sure reveal (late_takes reveal is (early.contents reveal) goes) (late_fits reveal fit (early.contents reveal) early.time) in
      (then.0, then.1 ∙ (early.sure reveal one_is (early_fits reveal fit)).1);
  beneath = λ reveal is no.
      ⊎_elim
      (λ (rose : Rose old.beneath mid.beneath). rose_sooner old.beneath mid.beneath new.beneath rose late.time.beneath)
      (λ (still : Rose old.beneath mid.beneath → ⊥).
      let goes = early.goes reveal (early_takes reveal is) (inr still) in
      rose_later old.beneath mid.beneath new.beneath early.time.beneath (late.beneath reveal (late_takes reveal is (early.contents reveal) goes) no))
      (rose_or_not old.beneath mid.beneath);
  goes = λ reveal is how.
      let goes = early.goes reveal (early_takes reveal is) (⊎_elim (λ (fit : fits). inl (early_fits reveal fit)) (λ (still : Rose old.beneath new.beneath → ⊥). inr (not_before old.beneath mid.beneath new.beneath late.time.beneath still)) how) in
      let after = late.goes reveal (late_takes reveal is (early.contents reveal) goes) (⊎_elim (λ (fit : fits). inl (late_fits reveal fit (early.contents reveal) early.time)) (λ (still : Rose old.beneath new.beneath → ⊥). inr (not_after old.beneath mid.beneath new.beneath early.time.beneath still)) how) in
      λ file b at has. after file b at (goes file b at has);
}

-- calls that change the files, and others that only read
pub writes_then_reads : (reveals taken fits first second : Type 0) (step : Files → Files → Type 0) (old mid new : State)
    → (first → ⊥)
    → (reveals → taken → step old.files mid.files → KeepsTaking old mid → IsReady mid) → (reveals → fits → step old.files mid.files → Passes old mid → IsRoomy mid)
    → OnlyWrites reveals taken fits first step old mid → OnlyReads reveals second mid new → OnlyWrites reveals taken fits second step old new
writes_then_reads reveals taken fits first second step old mid new fine ready room early late = record {
  contents = λ reveal. subst (step old.files) (sym (late.contents reveal)) (early.contents reveal);
  crash =
      during_then_kept old mid new (λ c. (d : Files) × old.image old.moment d × step d c) early.time late.time late.crash early.crash;
  time = passes_both old mid new early.time late.time;
  earlier = earlier_both old mid new early.time late.time early.earlier late.earlier;
  kept = omega (arith, early.kept, late.kept);
  cause = λ is. let rose : Rose mid.faults new.faults = late.cause is in omega (arith, early.kept, rose);
  still = λ none. late.still none ∙ early.still fine;
  sure = λ reveal is fit.
      let goes = early.goes reveal is (inl fit) in
      let then = late.sure reveal (ready reveal is (early.contents reveal) goes) (room reveal fit (early.contents reveal) early.time) in
      (then.0, then.1 ∙ (early.sure reveal is fit).1);
  beneath = λ reveal is no.
      ⊎_elim
      (λ (rose : Rose old.beneath mid.beneath). rose_sooner old.beneath mid.beneath new.beneath rose late.time.beneath)
      (λ (still : Rose old.beneath mid.beneath → ⊥).
      let goes = early.goes reveal is (inr still) in
      rose_later old.beneath mid.beneath new.beneath early.time.beneath (late.beneath reveal (ready reveal is (early.contents reveal) goes) no))
      (rose_or_not old.beneath mid.beneath);
  goes = λ reveal is how.
      let goes = early.goes reveal is (⊎_elim (λ (fit : fits). inl fit) (λ (still : Rose old.beneath new.beneath → ⊥). inr (not_before old.beneath mid.beneath new.beneath late.time.beneath still)) how) in
      let after = late.goes reveal (ready reveal is (early.contents reveal) goes) (⊎_elim (λ (fit : fits). inl (room reveal fit (early.contents reveal) early.time)) (λ (still : Rose old.beneath new.beneath → ⊥). inr (not_after old.beneath mid.beneath new.beneath early.time.beneath still)) how) in
      λ file b at has. after file b at (goes file b at has);
}

-- calls that only read, and others that change the files by a step that may leave them
pub reads_then_writes : (reveals taken late_taken fits late_fits first second : Type 0) (step : Files → Files → Type 0) (old mid new : State)
    → (first → ⊥) → ((c : Files) → step c c)
    → (taken → IsReady old) → (reveals → taken → mid.files ≡ old.files → KeepsTaking old mid → late_taken) → (fits → IsRoomy old) → (reveals → fits → mid.files ≡ old.files → Passes old mid → late_fits)
    → OnlyReads reveals first old mid → OnlyWrites reveals late_taken late_fits second step mid new → OnlyWrites reveals taken fits second step old new
reads_then_writes reveals taken late_taken fits late_fits first second step old mid new fine none ready late_takes room fits_late early late = record {
  contents = λ reveal. subst (λ (c : Files). step c new.files) (early.contents reveal) (late.contents reveal);
  crash =
      during_both old mid new (λ c. (d : Files) × old.image old.moment d × step d c) early.time late.time
      (λ t c from to here. (c, early.crash t c from to here, none c))
      (λ t c from to here.
      let was = late.crash t c from to here in
      (was.0, early.crash mid.moment was.0 early.time.later (omega arith) was.1, was.2));
  time = passes_both old mid new early.time late.time;
  earlier = earlier_both old mid new early.time late.time early.earlier late.earlier;
  kept = omega (arith, early.kept, late.kept);
  cause = λ is. let rose : Rose mid.faults new.faults = late.cause is in omega (arith, early.kept, rose);
  still = λ none. late.still none ∙ early.still fine;
  sure = λ reveal is fit.
      let goes = early.goes reveal (ready is) (inl (room fit)) in
      let then = late.sure reveal (late_takes reveal is (early.contents reveal) goes) (fits_late reveal fit (early.contents reveal) early.time) in
      (then.0, then.1 ∙ (early.sure reveal (ready is) (room fit)).1);
  beneath = λ reveal is no.
      ⊎_elim
      (λ (rose : Rose old.beneath mid.beneath). rose_sooner old.beneath mid.beneath new.beneath rose late.time.beneath)
      (λ (still : Rose old.beneath mid.beneath → ⊥).
      let goes = early.goes reveal (ready is) (inr still) in
      rose_later old.beneath mid.beneath new.beneath early.time.beneath (late.beneath reveal (late_takes reveal is (early.contents reveal) goes) no))
      (rose_or_not old.beneath mid.beneath);
  goes = λ reveal is how.
      let goes = early.goes reveal (ready is) (⊎_elim (λ (fit : fits). inl (room fit)) (λ (still : Rose old.beneath new.beneath → ⊥). inr (not_before old.beneath mid.beneath new.beneath late.time.beneath still)) how) in
      let after = late.goes reveal (late_takes reveal is (early.contents reveal) goes) (⊎_elim (λ (fit : fits). inl (fits_late reveal fit (early.contents reveal) early.time)) (λ (still : Rose old.beneath new.beneath → ⊥). inr (not_after old.beneath mid.beneath new.beneath early.time.beneath still)) how) in
      λ file b at has. after file b at (goes file b at has);
}

-- what the step leaves, as the frames of one file and of several have it
pub writes_others : (reveals taken fits fault : Type 0) (step : Files → Files → Type 0) (file : ℕ) (old new : State) → ((c d : Files) → step c d → (f : ℕ) → f ≢ file → d f ≡ c f) → OnlyWrites reveals taken fits fault step old new → KeepsOthers reveals file old new
writes_others reveals taken fits fault step file old new leaves writes = record {
  reads = λ reveal. leaves old.files new.files (writes.contents reveal);
  images = λ t c from to here. let was = writes.crash t c from to here in (was.0, was.1, leaves was.0 c was.2);
}

-- calls that change the files by a step alone keep those that a test picks, where the step leaves these alone
pub writes_where : (reveals taken fits fault : Type 0) (step : Files → Files → Type 0) (keep : ℕ → Type 0) (old new : State) → ((c d : Files) → step c d → (f : ℕ) → keep f → d f ≡ c f) → OnlyWrites reveals taken fits fault step old new → KeepsWhere reveals keep old new
writes_where reveals taken fits fault step keep old new leaves writes = record {
  reads = λ reveal. leaves old.files new.files (writes.contents reveal);
  images = λ t c from to here. let was = writes.crash t c from to here in (was.0, was.1, leaves was.0 c was.2);
}

-- files that stay over one step and then over another
pub keeps_both : (keep : ℕ → Type 0) (c d e : Files) → KeepsFiles keep c d → KeepsFiles keep d e → KeepsFiles keep c e
keeps_both keep c d e early late f kept = late f kept ∙ early f kept
