-- What adopting copies leaves, by what is said of it.
use Rattle.std.proofs.Common.{◌≡◌, ◌≢◌, ◌⊎◌, inl, inr, ⊎_elim, ◌≤◌, ℕ, true, false, List, Ok, sym, ◌∙◌, subst, arith}
use Rattle.std.proofs.lemmas.Bool.{cases_eq}
use Rattle.aea_disk.specs.Files.{Files, KeepsFiles}
use Rattle.aea_copies.specs.Kept.{AreOn, AreKept, LeavesAdopted}
use Rattle.aea_adopt.specs.Adopting.{IsAdopted, IsOff, RevealsKept}
use Rattle.aea_adopt.specs.declared.answers.Adopted.{Adopted}
use Rattle.aea_adopt.proofs.Answered.{good_on}

-- whatever is left, of the ledger and the sites
pub kept_on : (files : Files) (pieces : List (List ℕ)) → AreKept files pieces → AreOn files
kept_on files pieces kept = good_on files kept.file pieces kept.is kept.good

pub adopted_leaves : (old new : Files) (a : Adopted) → IsAdopted old new (Ok a) → LeavesAdopted old new
adopted_leaves old new a is = ⊎_elim
    (λ (off : (AreOn old → ⊥) × IsOff a × KeepsFiles (λ f. Unit {0}) old new).
    record {
      off = λ none f. off.2 f tt;
      ledger = λ pieces kept. absurd (off.0 (kept_on old pieces kept));
      copies = λ pieces kept. absurd (off.0 (kept_on old pieces kept));
      others = λ f from to. off.2 f tt;
    })
    (λ (on : (pieces : List (List ℕ)) × AreKept old pieces × RevealsKept pieces a × LeavesAdopted old new). on.3)
    is

-- it says whether copies are on
pub adopted_on : (old new : Files) (a : Adopted) → IsAdopted old new (Ok a) → (a.on ≡ true → AreOn old) × (AreOn old → a.on ≡ true)
adopted_on old new a is = ⊎_elim
    (λ (off : (AreOn old → ⊥) × IsOff a × KeepsFiles (λ f. Unit {0}) old new).
    (λ on. let none = off.1.on in let h : true ≡ false = sym on ∙ none in cc, λ on. absurd (off.0 on)))
    (λ (on : (pieces : List (List ℕ)) × AreKept old pieces × RevealsKept pieces a × LeavesAdopted old new).
    (λ revealed. kept_on old on.0 on.1, λ revealed. on.2.on))
    is

-- no copy is begun, or pieces are kept
pub adopted_can : (old new : Files) (a : Adopted) → IsAdopted old new (Ok a) → (AreOn old → ⊥) ⊎ ((pieces : List (List ℕ)) × AreKept old pieces)
adopted_can old new a is = ⊎_elim
    (λ (off : (AreOn old → ⊥) × IsOff a × KeepsFiles (λ f. Unit {0}) old new). inl off.0)
    (λ (on : (pieces : List (List ℕ)) × AreKept old pieces × RevealsKept pieces a × LeavesAdopted old new). inr (on.0, on.1))
    is

-- two files that adopting may leave have the same ledger and sites
pub left_alike : (old new one two : Files) (a : Adopted) → IsAdopted old new (Ok a) → LeavesAdopted old one → LeavesAdopted old two → (f : ℕ) → f ≤ 64 → one f ≡ two f
left_alike old new one two a is first second f near = ⊎_elim
    (λ (off : (AreOn old → ⊥) × IsOff a × KeepsFiles (λ g. Unit {0}) old new). first.off off.0 f ∙ sym (second.off off.0 f))
    (λ (on : (pieces : List (List ℕ)) × AreKept old pieces × RevealsKept pieces a × LeavesAdopted old new).
    ⊎_elim
    (λ (zero : f ≡ 0). subst (λ (n : ℕ). one n ≡ two n) (sym zero) (first.ledger on.0 on.1 ∙ sym (second.ledger on.0 on.1)))
    (λ (some : f ≢ 0). let from : 1 ≤ f = omega (arith, some) in first.others f from near ∙ sym (second.others f from near))
    (cases_eq f 0))
    is
