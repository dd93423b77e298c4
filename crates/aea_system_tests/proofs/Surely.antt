-- When a write and a sync are certain to succeed, and two such calls.
use Rattle.std.proofs.Common.{◌+◌, ◌≤◌, ℕ, List, [], ◌∷◌, length, Result, Ok, Err, IsErr, OnOk, OnErr, ◌∙◌, arith}
use Rattle.std.proofs.lemmas.Bool.{false≢true}
use Rattle.aea_faults.specs.Faults.{Rose}
use Rattle.aea_disk.specs.Files.{ChangesFile, Holds}
use Rattle.aea_disk.specs.State.{State, Passes, KeepsTaking, IsReady, IsRoomy, TakesFrom, IsSure}
use Rattle.aea_system_tests.specs.Gate.{TakesWrite, FitsWrite, TakesGate, FitsGate}

-- a call that failed is all that was made
rose_failed : {U E : Type 0} (a b : ℕ) (result : Result U E) → Rose a b → OnErr result (Rose a b)
rose_failed a b (Ok v) rose = tt
rose_failed a b (Err e) rose = rose

goes_failed : {U E : Type 0} (old new : State) (result : Result U E) → IsErr result → OnOk result (KeepsTaking old new)
goes_failed old new (Ok v) failed = absurd (false≢true failed)
goes_failed old new (Err e) failed = tt

pub sure_failed : {T U E F : Type 0} {e : E} (taken less fits fewer : Type 0) (old new : State) (result : Result U F) → IsErr result → (less → taken) → (less → fewer → fits) → IsSure {T = T} taken fits old new (Err e) → IsSure less fewer old new result
sure_failed taken less fits fewer old new result failed takes room sure = record {
  sure = λ is fit. absurd (false≢true (sure.sure (takes is) (room is fit)).0);
  beneath = λ is. rose_failed old.beneath new.beneath result (sure.beneath (takes is));
  goes = goes_failed old new result failed;
}

-- the later call, after one that was Ok
goes_both : {U E : Type 0} (old mid new : State) (result : Result U E) → KeepsTaking old mid → OnOk result (KeepsTaking mid new) → OnOk result (KeepsTaking old new)
goes_both old mid new (Ok v) early late = λ file b at has. late file b at (early file b at has)
goes_both old mid new (Err e) early late = tt

rose_both : {U E : Type 0} (a b c : ℕ) (result : Result U E) → a ≤ b → OnErr result (Rose b c) → OnErr result (Rose a c)
rose_both a b c (Ok v) le rose = tt
rose_both a b c (Err e) le rose = let r : Rose b c = rose in omega (arith, le, r)

pub sure_both : {T U E F : Type 0} {v : T} (all first second fits early_fits late_fits : Type 0) (old mid new : State) (result : Result U F)
    → (all → first) → (all → KeepsTaking old mid → second) → (all → fits → early_fits) → (all → fits → late_fits) → Passes old mid
    → IsSure {E = E} first early_fits old mid (Ok v) → IsSure second late_fits mid new result → IsSure all fits old new result
sure_both all first second fits early_fits late_fits old mid new result takes then room later time early late = record {
  sure = λ is fit. let l = late.sure (then is early.goes) (later is fit) in (l.0, l.1 ∙ (early.sure (takes is) (room is fit)).1);
  beneath = λ is. rose_both old.beneath mid.beneath new.beneath result time.beneath (late.beneath (then is early.goes));
  goes = goes_both old mid new result early.goes late.goes;
}

-- a write and a sync
pub sure_written : {T U E F : Type 0} {v : T} (reveals : Type 0) (file at : ℕ) (bytes : List ℕ) (old mid new : State) (result : Result U F)
    → (reveals → ChangesFile file (Holds at bytes) old.files mid.files) → Passes old mid
    → IsSure {E = E} (reveals × TakesFrom old file at) (old.room file (at + length bytes)) old mid (Ok v) → IsSure (reveals × IsReady mid) (IsRoomy mid) mid new result
    → IsSure (reveals × TakesWrite old file at bytes) (FitsWrite old file at bytes) old new result
sure_written reveals file at bytes old mid new result written time early late =
    sure_both (reveals × TakesWrite old file at bytes) (reveals × TakesFrom old file at) (reveals × IsReady mid) (FitsWrite old file at bytes) (old.room file (at + length bytes)) (IsRoomy mid) old mid new result
    (λ is. (is.0, is.1.here))
    (λ is goes. let there = is.1.then mid.files (written is.0) in (is.0, (there.0, goes 0 (mid.files 0) there.0 there.1)))
    (λ is fit. fit.room)
    (λ is fit. record { some = (file, at + length bytes, time.room file (at + length bytes) fit.room); sync = time.syncs (mid.files 0) (fit.sync mid.files (written is.0)) })
    time early late

-- two writes, each with a sync after it: a body, and its gate
pub sure_committed : {T U E F : Type 0} {v : T} (reveals : Type 0) (gate : ℕ) (body : List ℕ) (old mid new : State) (result : Result U F)
    → (reveals → ChangesFile 0 (Holds (gate + 1) body) old.files mid.files) → ((m n : ℕ) → m ≤ n → mid.room 0 n → mid.room 0 m) → Passes old mid
    → IsSure {E = E} (reveals × TakesWrite old 0 (gate + 1) body) (FitsWrite old 0 (gate + 1) body) old mid (Ok v)
    → IsSure (reveals × TakesWrite mid 0 gate (1 ∷ [])) (FitsWrite mid 0 gate (1 ∷ [])) mid new result
    → IsSure (reveals × TakesGate old gate body) (FitsGate old gate body) old new result
sure_committed reveals gate body old mid new result written smaller time early late =
    sure_both (reveals × TakesGate old gate body) (reveals × TakesWrite old 0 (gate + 1) body) (reveals × TakesWrite mid 0 gate (1 ∷ [])) (FitsGate old gate body) (FitsWrite old 0 (gate + 1) body) (FitsWrite mid 0 gate (1 ∷ [])) old mid new result
    (λ is. (is.0, is.1.first))
    (λ is goes.
    let at = written is.0 in (
      is.0,
      record {
        here = goes 0 (mid.files 0) gate (is.1.second mid.files at);
        then = λ e opened. let there = is.1.done mid.files e at opened in (there.0, goes 0 (e 0) there.0 there.1);
      },
    ))
    (λ is fit. fit.first)
    (λ is fit. record {
      room = smaller (gate + 1) (gate + 1 + length body) (omega arith) (time.room 0 (gate + 1 + length body) fit.first.room);
      sync = λ e opened. time.syncs (e 0) (fit.done mid.files e (written is.0) opened);
    })
    time early late
