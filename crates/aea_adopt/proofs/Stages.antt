-- What is there after each stage in which pieces are kept, and its frame.
use Rattle.std.proofs.Common.{◌≡◌, ◌≢◌, ⊎_elim, inl, inr, ℕ, ◌+◌, List, [], ◌∷◌, length, refl, sym, ap, ◌∙◌, subst, length-append, arith}
use mathlib.Core.Path.{fun_ext}
use Rattle.std.proofs.lemmas.Bool.{cases_eq}
use Rattle.aea_disk.specs.Files.{Files, KeepsFiles, ChangesOnly}
use Rattle.aea_disk.specs.State.{State, Passes, HasRoomTo, IsRoomy}
use Rattle.aea_disk.specs.Frames.{OnlyWrites}
use Rattle.aea_copies.specs.Format.{text_of, whole_copy}
use Rattle.aea_copies.specs.Kept.{IsCopyFile, IsGood, AreKept, mended}
use Rattle.aea_copy_reader.specs.declared.known.Judgement.{Judgement}
use Rattle.aea_copy_writer.specs.Anew.{CanMake, FitsCopy, whole_text}
use Rattle.aea_copy_writer.specs.Changes.{FitsChange}
use Rattle.aea_adopt.specs.declared.choice.Kept.{Kept}
use Rattle.aea_adopt.specs.Adopting.{IsSite}
use Rattle.aea_adopt.specs.Mending.{MayBeMended, MayBeRenewed, FitsAdopting, IsUp}
use Rattle.aea_adopt.specs.Keeping.{IsKnown, MayBeKept, AllKept, FitsKeeping}
use Rattle.aea_adopt.proofs.Keeping.{whole_good, up_good, good_up, other_good, up_or_not, can_make, ledger_kept, copy_kept}
use Rattle.aea_adopt.proofs.Quiet.{only_both, only_wider}

-- the ledger was made, and the copies are as they were judged
pub record IsMade (pieces : List (List ℕ)) (old new : Files) (j : Judgement) (text : ℕ) : Type 0 where
  pub ledger : new 0 ≡ mended (text_of pieces) (old 0)
  pub can : CanMake pieces text (new 0)
  pub kept : MayBeKept pieces old new
  pub first : IsUp j.first text → IsGood pieces (new 65)
  pub second : IsUp j.second text → IsGood pieces (new 66)
  pub other : (IsUp j.first text → ⊥) → IsGood pieces (new 66)

-- so it is once it was
pub is_made : (pieces : List (List ℕ)) (old new : Files) (j : Judgement) (k : Kept) → IsKnown old pieces j k → new 0 ≡ mended (text_of pieces) (old 0) → ChangesOnly 0 old new → MayBeMended (text_of pieces) (old 0) (new 0) → IsMade pieces old new j k.standing.text
is_made pieces old new j k known made changes may =
    let there = λ (f : ℕ) (some : f ≢ 0) (good : IsGood pieces (old f)). subst (IsGood pieces) (sym (changes f some)) good in
    record {
      ledger = made;
      can = can_make pieces k.standing.text (old k.source) (old 0) (new 0) known.kept.good known.kept.text made;
      kept = ledger_kept pieces old new k.source known.kept.is known.kept.good changes may;
      first = λ up. there 65 (λ e. omega (arith, e)) (up_good old 65 pieces k.standing.text j.first (inl refl) known.kept.kept known.kept.text known.first up);
      second = λ up. there 66 (λ e. omega (arith, e)) (up_good old 66 pieces k.standing.text j.second (inr refl) known.kept.kept known.kept.text known.second up);
      other = λ no. there 66 (λ e. omega (arith, e)) (other_good old pieces k j.first known.kept known.first no);
    }

-- the first copy was made too
pub record IsHalf (pieces : List (List ℕ)) (old new : Files) (j : Judgement) (text : ℕ) : Type 0 where
  pub ledger : new 0 ≡ mended (text_of pieces) (old 0)
  pub can : CanMake pieces text (new 0)
  pub kept : MayBeKept pieces old new
  pub first : IsGood pieces (new 65)
  pub second : IsUp j.second text → IsGood pieces (new 66)

-- so it is once it was
pub is_half : (pieces : List (List ℕ)) (old mid new : Files) (j : Judgement) (text : ℕ) → IsMade pieces old mid j text → ChangesOnly 65 mid new → MayBeRenewed pieces (mid 65) (new 65)
    → (IsUp j.first text → new ≡ mid) → ((IsUp j.first text → ⊥) → new 65 ≡ whole_copy pieces) → IsHalf pieces old new j text
is_half pieces old mid new j text made changes renewed stays anew =
    let same : new 0 ≡ mid 0 = changes 0 (λ e. omega (arith, e)) in
    let other : new 66 ≡ mid 66 = changes 66 (λ e. omega (arith, e)) in
    record {
      ledger = same ∙ made.ledger;
      can = subst (CanMake pieces text) (sym same) made.can;
      kept = copy_kept pieces old mid new 65 66 text j.first (inl refl) (inr refl) (λ e. omega (arith, e)) made.kept changes renewed (λ up. ap (λ (d : Files). d 65) (stays up)) made.first made.other;
      first =
          ⊎_elim
          (λ (yes : IsUp j.first text). subst (λ (d : Files). IsGood pieces (d 65)) (sym (stays yes)) (made.first yes))
          (λ (no : IsUp j.first text → ⊥). subst (IsGood pieces) (sym (anew no)) (whole_good pieces (mid 66) (made.other no)))
          (up_or_not j.first text);
      second = λ up. subst (IsGood pieces) (sym other) (made.second up);
    }

-- once the second was made too, all is kept
pub all_kept : (pieces : List (List ℕ)) (old mid new : Files) (j : Judgement) (text : ℕ) → IsHalf pieces old mid j text → ChangesOnly 66 mid new
    → (IsUp j.second text → new ≡ mid) → ((IsUp j.second text → ⊥) → new 66 ≡ whole_copy pieces) → AllKept pieces old new
all_kept pieces old mid new j text half changes stays anew =
    let first : IsGood pieces (new 65) = subst (IsGood pieces) (sym (changes 65 (λ e. omega (arith, e)))) half.first in
    let second : IsGood pieces (new 66) =
    ⊎_elim
    (λ (yes : IsUp j.second text). subst (λ (d : Files). IsGood pieces (d 66)) (sym (stays yes)) (half.second yes))
    (λ (no : IsUp j.second text → ⊥). subst (IsGood pieces) (sym (anew no)) (whole_good pieces (mid 65) half.first))
    (up_or_not j.second text) in
    record {
      ledger = changes 0 (λ e. omega (arith, e)) ∙ half.ledger;
      copies = λ f is.
          ⊎_elim
          (λ (e : f ≡ 65). subst (λ (k : ℕ). IsGood pieces (new k)) (sym e) first)
          (λ (e : f ≡ 66). subst (λ (k : ℕ). IsGood pieces (new k)) (sym e) second)
          is;
      others = λ f from to. changes f (λ e. omega (arith, to, e)) ∙ half.kept.sites f from to;
    }

-- what a stop in the last stage leaves
pub last_kept : (pieces : List (List ℕ)) (old mid new : Files) (j : Judgement) (text : ℕ) → IsHalf pieces old mid j text → ChangesOnly 66 mid new → MayBeRenewed pieces (mid 66) (new 66)
    → (IsUp j.second text → new ≡ mid) → MayBeKept pieces old new
last_kept pieces old mid new j text half changes renewed stays =
    copy_kept pieces old mid new 66 65 text j.second (inr refl) (inl refl) (λ e. omega (arith, e)) half.kept changes renewed (λ up. ap (λ (d : Files). d 66) (stays up)) half.second (λ no. half.first)

-- where all is kept before, the files stay while the ledger is made
pub ledger_stays : (pieces : List (List ℕ)) (old new : Files) → AllKept pieces old old → ChangesOnly 0 old new → MayBeMended (text_of pieces) (old 0) (new 0) → new ≡ old
ledger_stays pieces old new all changes may =
    fun_ext (λ f. ⊎_elim (λ (e : f ≡ 0). subst (λ (k : ℕ). new k ≡ old k) (sym e) (may.stays (sym all.ledger))) (λ (other : f ≢ 0). changes f other) (cases_eq f 0))

-- and the first copy was judged to have the text
pub first_up : (pieces : List (List ℕ)) (old : Files) (j : Judgement) (k : Kept) → IsKnown old pieces j k → AllKept pieces old old → IsUp j.first k.standing.text
first_up pieces old j k known all = good_up old 65 pieces k.standing.text j.first known.kept.text known.first (all.copies 65 (inl refl))

-- the second too
pub second_up : (pieces : List (List ℕ)) (old : Files) (j : Judgement) (k : Kept) → IsKnown old pieces j k → AllKept pieces old old → IsUp j.second k.standing.text
second_up pieces old j k known all = good_up old 66 pieces k.standing.text j.second known.kept.text known.second (all.copies 66 (inr refl))

-- no site's file changes
no_site : (file : ℕ) → (IsSite file → ⊥) → (c d : Files) → ChangesOnly file c d → KeepsFiles IsSite c d
no_site file none c d changes f site = changes f (λ (e : f ≡ file). none (subst IsSite e site))

-- calls that change one file which is no site's, by what fits in all
pub sites_first : (reveals fault fits wider : Type 0) (file : ℕ) (old new : State) → (IsSite file → ⊥) → (reveals → wider → fits) → OnlyWrites reveals old.free fits fault (ChangesOnly file) old new → OnlyWrites reveals old.free wider fault (KeepsFiles IsSite) old new
sites_first reveals fault fits wider file old new none fit writes = only_wider reveals fault fits wider (ChangesOnly file) (KeepsFiles IsSite) old new (no_site file none) fit writes

-- calls that change no site's file, and then others that change one file which is no site's
pub sites_both : (reveals first fault fits late : Type 0) (file : ℕ) (old mid new : State) → (IsSite file → ⊥) → (first → ⊥) → (reveals → fits → Passes old mid → late)
    → OnlyWrites reveals old.free fits first (KeepsFiles IsSite) old mid → OnlyWrites reveals mid.free late fault (ChangesOnly file) mid new → OnlyWrites reveals old.free fits fault (KeepsFiles IsSite) old new
sites_both reveals first fault fits late file old mid new none fine later early then =
    only_both reveals first fault fits late (KeepsFiles IsSite) (ChangesOnly file) (KeepsFiles IsSite) old mid new fine (λ c d keeps. keeps) (λ c d e one two f site. no_site file none d e two f site ∙ one f site) (λ revealed fit step passes. later revealed fit passes) early then

-- what has space for all has it for the ledger
pub fits_ledger : (s : State) (j : Judgement) (k : Kept) → FitsKeeping s j k → FitsChange s 0 (k.standing.text + 1)
fits_ledger s j k fit =
    let size : length (whole_text fit.pieces) ≡ k.standing.text + 1 = omega (arith, length-append (text_of fit.pieces) (0 ∷ []), fit.known.kept.text) in
    record { room = subst (HasRoomTo s 0) size (fit.fit.ledger fit.pieces fit.known.kept.kept); sync = λ c change. fit.fit.sync (c 0) }

-- and after other stages for a copy
pub fits_copy : (s t : State) (j : Judgement) (k : Kept) (file : ℕ) → IsCopyFile file → FitsKeeping s j k → Passes s t → ((pieces : List (List ℕ)) → IsKnown s.files pieces j k → CanMake pieces k.standing.text (t.files 0)) → FitsCopy t file k.standing.text
fits_copy s t j k file is fit passes can = record {
  pieces = fit.pieces;
  has = (can fit.pieces fit.known).has;
  change = record {
    room = passes.room file (length (whole_copy fit.pieces)) (fit.fit.copies fit.pieces file fit.known.kept.kept is);
    sync = λ c change. passes.syncs (c 0) (fit.fit.sync (c 0));
  };
}

-- it has space to sync
pub fits_sync : (s : State) → FitsAdopting s → IsRoomy s
fits_sync s fit = record { some = fit.some; sync = fit.sync (s.files 0) }

-- and what has space still has it after calls that only read
pub fits_still : (s t : State) → t.files ≡ s.files → Passes s t → FitsAdopting s → FitsAdopting t
fits_still s t same passes fit = record {
  some = (fit.some.0, fit.some.1, passes.room fit.some.0 fit.some.1 fit.some.2);
  sync = λ bytes. passes.syncs bytes (fit.sync bytes);
  ledger = λ pieces kept. passes.room 0 (length (whole_text pieces)) (fit.ledger pieces (subst (λ (d : Files). AreKept d pieces) same kept));
  copies = λ pieces f kept is. passes.room f (length (whole_copy pieces)) (fit.copies pieces f (subst (λ (d : Files). AreKept d pieces) same kept) is);
}
