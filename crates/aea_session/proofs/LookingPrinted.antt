-- Replies of messages that only look: how they are printed, and which they are.
use Rattle.std.proofs.Common.{◌≡◌, ◌≢◌, ◌⊎◌, inr, ℕ, ◌≤◌, List, [], length, Some, Result, Ok, Err, refl, sym, ◌∙◌, ap, subst, arith}
use Rattle.std.specs.Prelude.{IfOk, IfErr, OnOk}
use Rattle.std.specs.Io.KnownBytes.{Appends}
use Rattle.std.proofs.lemmas.List.{append-nil}
use Rattle.std.proofs.lemmas.Bool.{false≢true}
use Rattle.aea_faults.specs.Faults.{HasCause, Rose}
use Rattle.aea_io.specs.Streams.{SinkState}
use Rattle.aea_io.specs.Written.{AppendsPart}
use Rattle.aea_io.specs.Pages.{Prints}
use Rattle.aea_session.specs.declared.fault.TakeFault.{TakeFault}
use Rattle.aea_session.specs.declared.fault.TakeFault.TheVariants.{WriteFault}
use Rattle.aea_session.specs.Looks.{Replies, RepliesPart}
use Rattle.aea_session.proofs.Spaces.{space_printed}

-- ---- what is printed with nothing gathered before and after

-- all of it was appended
pub printed_all : {T E : Type 0} {a b : SinkState} {v : T} {text : List ℕ} → Prints {E = E} a [] b [] (Ok v) text → Appends a.written b.written text
printed_all {a} {b} {text} prints =
    let sent = prints.bytes in
    let same : sent.0 ≡ text = sym (append-nil sent.0) ∙ sym sent.2 in
    subst (λ (zs : List ℕ). Appends a.written b.written zs) same sent.1

-- a first part was, where a write failed
pub printed_part : {T E : Type 0} {a b : SinkState} {r : List ℕ} {e : E} {text : List ℕ} → Prints {T = T} a [] b r (Err e) text → AppendsPart a.written b.written text
printed_part prints = prints.bytes

-- ---- a reply of one code that is printed

module _ {X : Type 0} (Y : X → Type 0) (a b : SinkState) (k : ℕ) (text : List ℕ) where
  pub replied : (is : X → ℕ → List ℕ → Type 0) (result : Result ℕ TakeFault) → IfOk result (λ code. code ≡ k) → Prints a [] b [] result text → ((x : X) → Y x → is x k text)
      → IfOk result (λ code. (x : X) → Y x → Replies (is x code) a b)
  replied is (Ok code) at prints are = λ x has. (text, subst (λ (n : ℕ). is x n text) (sym at) (are x has), printed_all prints, space_printed prints)
  replied is (Err e) at prints are = tt

  pub replied_part : (P : Type 0) (may : X → List ℕ → Type 0) (result : Result ℕ TakeFault) → Prints a [] b [] result text → ((x : X) → Y x → may x text)
      → IfErr result (λ fault. (x : X) → Y x → P ⊎ RepliesPart (may x) a b)
  replied_part P may (Ok code) prints are = tt
  replied_part P may (Err e) prints are = λ x has. inr (text, are x has, printed_part prints)

-- ---- when the output is at fault

pub rose_by : {a b : ℕ} (result : Result ℕ TakeFault) (e : TakeFault) → HasCause a b result → result ≡ Err e → Rose a b
rose_by (Ok code) e cause is = absurd (let h : Ok code ≡ Err e = is in cc)
rose_by (Err f) e cause is = cause.rose

pub still_by : {a b : ℕ} (result : Result ℕ TakeFault) (e : TakeFault) → IfErr result (λ fault. fault ≡ e) → HasCause a b result → result ≢ Err e → b ≡ a
still_by (Ok code) e only cause other = cause.still
still_by (Err f) e only cause other = absurd (other (ap Err only))

-- no fault where there is space for all
pub fits_by : {a b : SinkState} {text : List ℕ} (result : Result ℕ TakeFault) (e : TakeFault) (room : ℕ) → Prints a [] b [] result text → a.room ≡ Some room → length text ≤ room → result ≢ Err e
fits_by (Ok code) e room prints revealed enough is = absurd (let h : Ok code ≡ Err e = is in cc)
fits_by (Err f) e room prints revealed enough is = absurd (false≢true (prints.fits room revealed enough))

-- a result has one fault
err_same : (r : Result ℕ TakeFault) (g f : TakeFault) → r ≡ Err g → r ≡ Err f → g ≡ f
err_same r g f one two = cc

-- a fault is no other one
pub only_fault : (result : Result ℕ TakeFault) (e f : TakeFault) → IfErr result (λ fault. fault ≡ e) → e ≢ f → result ≢ Err f
only_fault (Ok code) e f only other is = absurd (let h : Ok code ≡ Err f = is in cc)
only_fault (Err g) e f only other is = other (sym only ∙ err_same (Err g) g f refl is)

-- ---- what is said of a result, case by case

-- of the one code that it may have
pub ok_with : (result : Result ℕ TakeFault) {k : ℕ} (P : Type 0) (Q : ℕ → Type 0) → (P → Q k) → IfOk result (λ code. code ≡ k) → OnOk result P → IfOk result Q
ok_with (Ok code) P Q from at all = subst Q (sym at) (from all)
ok_with (Err e) P Q from at all = tt

pub ok_as : (result : Result ℕ TakeFault) (P Q : ℕ → Type 0) → ((code : ℕ) → P code → Q code) → IfOk result P → IfOk result Q
ok_as (Ok code) P Q from all = from code all
ok_as (Err e) P Q from all = tt

pub err_with : (result : Result ℕ TakeFault) (P Q : TakeFault → Type 0) → ((fault : TakeFault) → P fault → Q fault) → IfErr result P → IfErr result Q
err_with (Ok code) P Q from all = tt
err_with (Err e) P Q from all = from e all

pub at_err : (result : Result ℕ TakeFault) (fault : TakeFault) (P : TakeFault → Type 0) → result ≡ Err fault → IfErr result P → P fault
at_err (Ok code) fault P is all = absurd (let h : Ok code ≡ Err fault = is in cc)
at_err (Err e) fault P is all = subst P (err_same (Err e) e fault refl is) all

-- a count does not fall where each fault keeps it, and it stays where the output is not at fault
pub kept_with : {x y : ℕ} (result : Result ℕ TakeFault) (P : TakeFault → Type 0) → ((fault : TakeFault) → P fault → x ≤ y) → IfErr result P → (result ≢ Err WriteFault → y ≡ x) → x ≤ y
kept_with (Ok code) P from all still = let same = still (λ e. absurd (let h : Ok code ≡ Err WriteFault = e in cc)) in omega (arith, same)
kept_with (Err e) P from all still = from e all

-- a reply of one code that is printed, whatever else holds
module _ (a b : SinkState) (k : ℕ) (text : List ℕ) where
  pub replied_alone : (is : ℕ → List ℕ → Type 0) (result : Result ℕ TakeFault) → IfOk result (λ code. code ≡ k) → Prints a [] b [] result text → is k text → IfOk result (λ code. Replies (is code) a b)
  replied_alone is (Ok code) at prints are = (text, subst (λ (n : ℕ). is n text) (sym at) are, printed_all prints, space_printed prints)
  replied_alone is (Err e) at prints are = tt

  pub part_alone : (P : Type 0) (may : List ℕ → Type 0) (result : Result ℕ TakeFault) → Prints a [] b [] result text → may text → IfErr result (λ fault. P ⊎ RepliesPart may a b)
  part_alone P may (Ok code) prints are = tt
  part_alone P may (Err e) prints are = inr (text, are, printed_part prints)
