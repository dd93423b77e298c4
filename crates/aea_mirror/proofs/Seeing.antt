-- What a Mirror sees to: in each image of the lent disk both copies are good while copies are on, and none is begun while they are not.
use Rattle.std.proofs.Common.{◌≡◌, ◌≢◌, inl, ⊎_elim, ◌<◌, ◌≤◌, ℕ, Bool, true, false, List, [], length, refl, sym, ap, ◌∙◌, subst, arith}
use Rattle.std.proofs.lemmas.List.{append-nil}
use Rattle.std.proofs.Math.Logic.{∥∥₁_elim, ∥∥₁_prop}
use Rattle.std.proofs.lemmas.Bool.{cases_lt}
use Rattle.aea_disk.specs.Files.{Files, ChangesFile}
use Rattle.aea_disk.specs.State.{State, Passes, Follows, During, KeepsImages}
use Rattle.aea_copies.specs.Format.{copied, text_of}
use Rattle.aea_copies.specs.Grammar.{IsBegun}
use Rattle.aea_copies.specs.Kept.{IsCopyFile, IsGood}
use Rattle.aea_copies.proofs.Judged.{has_one_pieces}
use Rattle.aea_mirror.specs.declared.tail.Tail.{Tail}
use Rattle.aea_mirror.specs.Guarding.{Guards}
use Rattle.aea_mirror.specs.Shown.{AreGood, AreAs}

-- Of calls over a disk: where it holds of each image at the entry, so it does of each image of each moment.
abbrev pub KeepsCopies : Type 0 → Bool → State → State → Type 0
KeepsCopies reveals on old new = reveals → ((c : Files) → old.image old.moment c → AreAs on c) → During old new (AreAs on)

-- it is decided by the files of the copies
as_alike : (on : Bool) (c d : Files) → ((f : ℕ) → IsCopyFile f → c f ≡ d f) → AreAs on d → AreAs on c
as_alike true c d same are = record {
  good = λ f copy. subst (λ (l : List ℕ). ∥ ((pieces : List (List ℕ)) × IsGood pieces l) ∥₁) (sym (same f copy)) (are.good f copy);
  kept = ∥∥₁_elim are.kept ∥∥₁_prop (λ some.
      let kept = some.1 in
      ∣ (
        some.0,
        record {
          file = kept.file;
          is = kept.is;
          good = subst (IsGood some.0) (sym (same kept.file kept.is)) kept.good;
          longest = λ f others copy good. kept.longest f others copy (subst (IsGood others) (same f copy) good);
        },
      ) ∣₁);
}
as_alike false c d same none = λ f copy begun. none f copy (subst IsBegun (same f copy) begun)

-- calls that leave the images
pub kept_copies : (reveals : Type 0) (on : Bool) (old new : State) → KeepsImages old new → KeepsCopies reveals on old new
kept_copies reveals on old new keeps revealed every t c from to here = every c (keeps t c from to here)

copy_far : (f file : ℕ) → file ≤ 64 → IsCopyFile f → f ≢ file
copy_far f file near copy e = ⊎_elim (λ (a : f ≡ 65). omega (arith, near, e, a)) (λ (b : f ≡ 66). omega (arith, near, e, b)) copy

-- a call that changes a file of the ledger or of a site
pub changed_copies : (reveals : Type 0) (on : Bool) (file : ℕ) (step : List ℕ → List ℕ → Type 0) (old new : State) → file ≤ 64 → Follows (ChangesFile file step) old new → KeepsCopies reveals on old new
changed_copies reveals on file step old new near follows revealed every t c from to here =
    let was = follows t c from to here in
    as_alike on c was.0 (λ f copy. was.2.others f (copy_far f file near copy)) (every was.0 was.1)

-- calls with copies on, and others after them in which both stay good
pub both_copies : (reveals : Type 0) (on : Bool) (old mid new : State) → on ≡ true → Passes old mid → (reveals → Passes mid new) → KeepsCopies reveals on old mid → (reveals → During mid new AreGood) → KeepsCopies reveals on old new
both_copies reveals on old mid new is first second early late revealed every t c from to here =
    ⊎_elim
    (λ (before : t < mid.moment). early revealed every t c from (omega (arith, before)) (((second revealed).keeps t c (omega (arith, before))).0 here))
    (λ (after : mid.moment ≤ t). subst (λ (b : Bool). AreAs b c) (sym is) (late revealed t c after to here))
    (cases_lt t mid.moment)

-- what a Mirror knows says so of each image
guarded_here : (s : State) (on : Bool) (end : ℕ) (first second : Tail) → Guards s on end first second → (c : Files) → s.image s.moment c → AreAs on c
guarded_here s true end first second guards c here =
    let are = guards.are refl in
    let good : (f : ℕ) → IsCopyFile f → IsGood are.pieces (c f) = λ f copy. subst (IsGood are.pieces) (sym (are.guarded.fixed c here f copy)) (are.guarded.good f copy) in
    record {
      good = λ f copy. ∣ (are.pieces, good f copy) ∣₁;
      kept = ∣ (
        are.pieces,
        record {
          file = 65;
          is = inl refl;
          good = good 65 (inl refl);
          longest = λ f others copy there.
              let same : others ≡ are.pieces = (has_one_pieces (c f) others are.pieces (length (copied others)) (length (copied are.pieces)) there (good f copy)).0 in
              ([], ap text_of (sym same) ∙ sym (append-nil (text_of others)));
        },
      ) ∣₁;
    }
guarded_here s false end first second guards c here =
    let off = guards.off refl in
    λ f copy begun. off.none f copy (subst IsBegun (off.fixed c here f copy) begun)

pub guarded_as : (s : State) (on : Bool) (end : ℕ) (first second : Tail) → ∥ Guards s on end first second ∥₁ → (c : Files) → s.image s.moment c → AreAs on c
guarded_as s true end first second guards c here = record {
  good = λ f copy. ∥∥₁_elim guards ∥∥₁_prop (λ was. (guarded_here s true end first second was c here).good f copy);
  kept = ∥∥₁_elim guards ∥∥₁_prop (λ was. (guarded_here s true end first second was c here).kept);
}
guarded_as s false end first second guards c here = λ f copy begun. ∥∥₁_elim guards (λ a b. absurd a) (λ was. guarded_here s false end first second was c here f copy begun)
