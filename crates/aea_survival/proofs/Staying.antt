-- Pieces are kept in what is left, where some were.
use Rattle.std.proofs.Common.{◌≡◌, ◌⊎◌, inl, inr, ⊎_elim, ℕ, List, [], ◌∷◌, length, sym, ◌∙◌, ap, subst}
use Rattle.std.proofs.Math.Logic.{∥∥₁_elim, ∥∥₁_prop}
use Rattle.std.proofs.lemmas.List.{append-nil}
use Rattle.aea_disk.specs.Files.{Files}
use Rattle.aea_copies.specs.Format.{copied, text_of, whole_copy}
use Rattle.aea_copies.specs.Grammar.{IsBegun}
use Rattle.aea_copies.specs.Kept.{IsCopyFile, IsGood, AreKept}
use Rattle.aea_copies.proofs.Judged.{has_one_pieces}
use Rattle.aea_adopt.specs.Adopting.{MayBeAdopted}
use Rattle.aea_adopt.proofs.Keeping.{whole_good}
use Rattle.aea_mirror.specs.Shown.{IsDamaged}
use Rattle.aea_mirror.proofs.Guards.{good_begun}
use Rattle.aea_survival.specs.Surviving.{MayFollow, HasKept, KeptStays}
use Rattle.aea_survival.proofs.Between.{which, stays_copy}

-- the copies of files that have the same ones keep the same
kept_as : (old new : Files) (pieces : List (List ℕ)) → ((f : ℕ) → IsCopyFile f → new f ≡ old f) → AreKept old pieces → AreKept new pieces
kept_as old new pieces same kept = record {
  file = kept.file;
  is = kept.is;
  good = subst (IsGood pieces) (sym (same kept.file kept.is)) kept.good;
  longest = λ f others copy good. kept.longest f others copy (subst (IsGood others) (same f copy) good);
}

-- one copy alone is good
kept_alone : (files : Files) (stays other : ℕ) (pieces : List (List ℕ)) → ((stays ≡ 65) × (other ≡ 66)) ⊎ ((stays ≡ 66) × (other ≡ 65)) → IsGood pieces (files stays) → ((some : List (List ℕ)) → IsGood some (files other) → ⊥) → AreKept files pieces
kept_alone files stays other pieces are good none = record {
  file = stays;
  is = stays_copy stays other are;
  good = good;
  longest = λ f others copy there. ⊎_elim
      (λ (here : f ≡ stays).
      let same : others ≡ pieces = (has_one_pieces (files stays) others pieces (length (copied others)) (length (copied pieces)) (subst (λ (n : ℕ). IsGood others (files n)) here there) good).0 in
      ([], ap text_of (sym same) ∙ sym (append-nil (text_of others))))
      (λ (off : f ≡ other). absurd (none others (subst (λ (n : ℕ). IsGood others (files n)) off there)))
      (which stays other f are copy);
}

kept_damaged : (old new : Files) → IsDamaged old new → HasKept old → HasKept new
kept_damaged old new damaged kept = ⊎_elim
    (λ (same : new damaged.other ≡ old damaged.other).
    let all : (f : ℕ) → IsCopyFile f → new f ≡ old f =
    λ f copy. ⊎_elim (λ (here : f ≡ damaged.stays). ap new here ∙ damaged.same ∙ ap old (sym here)) (λ (there : f ≡ damaged.other). ap new there ∙ same ∙ ap old (sym there)) (which damaged.stays damaged.other f damaged.are copy) in
    ∥∥₁_elim kept ∥∥₁_prop (λ some. ∣ (some.0, kept_as old new some.0 all some.1) ∣₁))
    (λ (none : (some : List (List ℕ)) → IsGood some (new damaged.other) → ⊥).
    ∣ (damaged.pieces, kept_alone new damaged.stays damaged.other damaged.pieces damaged.are (subst (IsGood damaged.pieces) (sym damaged.same) damaged.good) none) ∣₁)
    damaged.lost

-- an opening that was stopped leaves copies of these pieces, and beginnings of their text
kept_adopted : (old new : Files) (pieces : List (List ℕ)) → AreKept old pieces → MayBeAdopted old new → AreKept new pieces
kept_adopted old new pieces kept may =
    let some = may.good pieces kept in
    record {
      file = some.0;
      is = some.1;
      good = some.2;
      longest = λ f others copy there. ⊎_elim
          (λ (same : new f ≡ old f). kept.longest f others copy (subst (IsGood others) same there))
          (λ (rest : (IsBegun (new f) → ⊥) ⊎ (new f ≡ whole_copy pieces)). ⊎_elim
          (λ (none : IsBegun (new f) → ⊥). absurd (none (good_begun others (new f) there)))
          (λ (whole : new f ≡ whole_copy pieces).
          let same : others ≡ pieces = (has_one_pieces (whole_copy pieces) others pieces (length (copied others)) (length (copied pieces)) (subst (IsGood others) whole there) (whole_good pieces (old kept.file) kept.good)).0 in
          ([], ap text_of (sym same) ∙ sym (append-nil (text_of others))))
          rest)
          (may.copies pieces kept f copy);
    }

kept_step : (old new : Files) → MayFollow old new → HasKept old → HasKept new
kept_step old new (inl damaged) kept = kept_damaged old new damaged kept
kept_step old new (inr (inl adopted)) kept = ∣ (adopted.0, kept_adopted old new adopted.0 adopted.1 adopted.2) ∣₁
kept_step old new (inr (inr same)) kept = ∥∥₁_elim kept ∥∥₁_prop (λ some. ∣ (some.0, kept_as old new some.0 (λ f copy. same f) some.1) ∣₁)

pub kept_stay : KeptStays
kept_stay files left [] kept same = kept_step files left (inr (inr same)) kept
kept_stay files left (next ∷ rest) kept are = kept_stay next left rest (kept_step files next are.0 kept) are.1
