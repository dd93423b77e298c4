-- What a write and a cut that are handed on leave of what is shown.
use Rattle.std.proofs.Common.{◌≡◌, ℕ, zero, suc, ◌+◌, ◌<◌, Bool, true, List, length, take, refl, arith}
use Rattle.std.proofs.Props.{props}
use Rattle.std.proofs.Math.Logic.{∥∥₁_elim}
use Rattle.aea_disk.specs.Files.{Files, ChangesFile, Torn, MayBeCut}
use Rattle.aea_disk.specs.State.{State}
use Rattle.aea_mirror.specs.declared.tail.Tail.{Tail}
use Rattle.aea_copies.specs.Format.{text_of}
use Rattle.aea_copies.specs.Kept.{IsCopyFile, IsGood}
use Rattle.aea_mirror.specs.Shown.{Shows}
use Rattle.aea_mirror.specs.Guarding.{Guards}
use Rattle.aea_mirror.proofs.Showing.{writes_are_shown}
use Rattle.aea_mirror.proofs.Cuts.{sites_are_shown, cuts_are_shown}
use Rattle.aea_mirror.proofs.Guards.{texts_are_kept}
use Rattle.aea_mirror.proofs.Calls.{IsAfter}

-- in each image of now the text of each good copy is in the ledger; it is the kept text
kept : (s : State) (on : Bool) (end : ℕ) (first second : Tail) → ∥ Guards s on end first second ∥₁ → (d : Files) → s.image s.moment d → (f : ℕ) (pieces : List (List ℕ)) → IsCopyFile f → IsGood pieces (d f)
    → (length (text_of pieces) < length (d 0)) × (take (length (text_of pieces)) (d 0) ≡ text_of pieces) × (on ≡ true) × (end ≡ length (text_of pieces))
kept s on end first second guards d image f pieces is good =
    ∥∥₁_elim guards (Prim.hlevel props) (λ was. texts_are_kept s on end first second was d image f pieces is good)

pub write_is_shown : (s : State) (file at n : ℕ) {dead : Bool} (on : Bool) (end : ℕ) (first second : Tail) → IsAfter file at dead on end → ∥ Guards s on end first second ∥₁
    → (d e c : Files) → s.image s.moment d → ChangesFile file (Torn at n) d e → Shows e c → (was : Files) × Shows d was × ChangesFile file (Torn at n) was c
write_is_shown s zero at n on end first second near guards d e c image changes shows =
    writes_are_shown at n d e c
    (λ f pieces is good.
    let was = kept s on end first second guards d image f pieces is good in
    let past = near.after was.2 refl in
    (was.0, was.1, omega (arith, was.3, past))) changes shows
write_is_shown s (suc file) at n on end first second near guards d e c image changes shows = sites_are_shown (suc file) (Torn at n) d e c (omega arith) near.near changes shows

pub cut_is_shown : (s : State) (file len : ℕ) {dead : Bool} (on : Bool) (end : ℕ) (first second : Tail) → IsAfter file len dead on (end + 1) → ∥ Guards s on end first second ∥₁
    → (d e c : Files) → s.image s.moment d → ChangesFile file (MayBeCut len) d e → Shows e c → (was : Files) × Shows d was × ChangesFile file (MayBeCut len) was c
cut_is_shown s zero len on end first second near guards d e c image changes shows =
    cuts_are_shown len d e c
    (λ f pieces is good.
    let was = kept s on end first second guards d image f pieces is good in
    let past = near.after was.2 refl in
    (was.0, was.1, omega (arith, was.3, past))) changes shows
cut_is_shown s (suc file) len on end first second near guards d e c image changes shows = sites_are_shown (suc file) (MayBeCut len) d e c (omega arith) near.near changes shows
