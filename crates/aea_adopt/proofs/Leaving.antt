-- Copies are adopted: what is left by each choice.
use Rattle.std.proofs.Common.{◌≡◌, ⊎_elim, Err, inl, inr, ℕ, ◌<◌, List, length, take, sym, subst}
use Rattle.std.specs.Prelude.{Result, Ok, IfOk}
use Rattle.aea_disk.specs.Files.{Files, KeepsFiles, Torn}
use Rattle.aea_disk.specs.Steps.{torn_none}
use Rattle.aea_disk.specs.State.{State, Passes, KeepsImages, During, IsSynced}
use Rattle.aea_disk.proofs.Moments.{during_both, during_kept, during_more}
use Rattle.aea_copies.specs.Format.{text_of}
use Rattle.aea_copies.specs.Grammar.{IsBegun}
use Rattle.aea_copies.specs.Kept.{IsGood, AreOn, AreKept, HasText, mended, LeavesAdopted}
use Rattle.aea_copy_reader.specs.Judging.{IsJudged}
use Rattle.aea_copy_reader.specs.declared.known.Judgement.{Judgement}
use Rattle.aea_copy_writer.specs.Anew.{IsOldNoneOrMade, whole_text}
use Rattle.aea_adopt.specs.declared.choice.Kept.{Kept}
use Rattle.aea_adopt.specs.Choosing.{IsKept}
use Rattle.aea_adopt.specs.Adopting.{MayBeAdopted, IsAdopted, IsOff, RevealsKept, IsTrueOf}
use Rattle.aea_adopt.specs.declared.answers.Adopted.{Adopted}
use Rattle.aea_adopt.specs.declared.answers.AdoptFault.{AdoptFault}
use Rattle.aea_adopt.specs.declared.answers.AdoptFault.TheVariants.{DiskFault}
use Rattle.aea_adopt.specs.Mending.{MayBeRenewed}
use Rattle.aea_adopt.specs.Keeping.{IsKnown, MayBeKept, AllKept}
use Rattle.aea_adopt.proofs.Answered.{good_on}
use Rattle.aea_adopt.proofs.Mended.{mended_ends}
use Rattle.aea_adopt.proofs.Keeping.{kept_once}

-- files that stay are what may be left
pub may_same : (old new : Files) → ((f : ℕ) → new f ≡ old f) → MayBeAdopted old new
may_same old new same = record {
  sites = λ f from to. same f;
  idle = λ none f. same f;
  copies = λ pieces kept f is. inl (same f);
  good = λ pieces kept. (kept.file, kept.is, subst (IsGood pieces) (sym (same kept.file)) kept.good);
  ledger = λ pieces kept made. same 0;
  gate = λ pieces kept long text. subst (Torn (length (text_of pieces)) 1 (old 0)) (sym (same 0)) (torn_none (length (text_of pieces)) 1 (old 0));
  anew = λ pieces kept none. inl (same 0);
}

-- and so is what is left while pieces are kept
pub kept_adopted : (pieces : List (List ℕ)) (old new : Files) → AreKept old pieces → MayBeKept pieces old new → MayBeAdopted old new
kept_adopted pieces old new kept may = record {
  sites = may.sites;
  idle = λ none. absurd (none pieces kept);
  copies = λ others also f is. subst (λ (l : List (List ℕ)). MayBeRenewed l (old f) (new f)) (kept_once old pieces others kept also) (may.copies f is);
  good = λ others also. (may.good.0, may.good.1, subst (λ (l : List (List ℕ)). IsGood l (new may.good.0)) (kept_once old pieces others kept also) may.good.2);
  ledger = λ others also made. may.ledger.stays (subst (λ (l : List (List ℕ)). mended (text_of l) (old 0) ≡ old 0) (kept_once old others pieces also kept) made);
  gate = λ others also long text.
      let same = kept_once old pieces others kept also in
      let back = sym same in
      subst (λ (l : List (List ℕ)). Torn (length (text_of l)) 1 (old 0) (new 0)) same
      (may.ledger.gate (subst (λ (l : List (List ℕ)). length (text_of l) < length (old 0)) back long) (subst (λ (l : List (List ℕ)). take (length (text_of l)) (old 0) ≡ text_of l) back text));
  anew = λ others also none.
      let same = kept_once old pieces others kept also in
      subst (λ (l : List (List ℕ)). (length (text_of l) < length (old 0) → take (length (text_of l)) (old 0) ≡ text_of l → ⊥) → IsOldNoneOrMade (whole_text l) (old 0) (new 0)) same may.ledger.anew none;
}

-- what is there once all is kept
pub all_leaves : (pieces : List (List ℕ)) (old new : Files) → AreKept old pieces → AllKept pieces old new → LeavesAdopted old new
all_leaves pieces old new kept all = record {
  off = λ off. absurd (off (good_on old kept.file pieces kept.is kept.good));
  ledger = λ others also. subst (λ (l : List (List ℕ)). new 0 ≡ mended (text_of l) (old 0)) (kept_once old pieces others kept also) all.ledger;
  copies = λ others also f is. subst (λ (l : List (List ℕ)). IsGood l (new f)) (kept_once old pieces others kept also) (all.copies f is);
  others = all.others;
}

-- and the other way
pub leaves_all : (pieces : List (List ℕ)) (old new : Files) → AreKept old pieces → LeavesAdopted old new → AllKept pieces old new
leaves_all pieces old new kept leaves = record { ledger = leaves.ledger pieces kept; copies = leaves.copies pieces kept; others = leaves.others }

-- what a stop leaves in calls that only read
pub adopted_quiet : (s t : State) → KeepsImages s t → IsSynced s → During s t (λ c. MayBeAdopted s.files c)
adopted_quiet s t keeps synced = during_kept s t (λ c. MayBeAdopted s.files c) keeps (λ c is. may_same s.files c (synced c is))

-- and in others after them, that keep pieces
pub adopted_then : (pieces : List (List ℕ)) (s t u : State) → Passes s t → Passes t u → KeepsImages s t → IsSynced s → t.files ≡ s.files → AreKept s.files pieces → During t u (λ c. MayBeKept pieces t.files c) → During s u (λ c. MayBeAdopted s.files c)
adopted_then pieces s t u one two keeps synced same kept later =
    during_both s t u (λ c. MayBeAdopted s.files c) one two (adopted_quiet s t keeps synced)
    (during_more t u (λ c. MayBeKept pieces t.files c) (λ c. MayBeAdopted s.files c) (λ c may. kept_adopted pieces s.files c kept (subst (λ (d : Files). MayBeKept pieces d c) same may)) later)

-- what was known before calls that only read is known after them
pub known_still : (pieces : List (List ℕ)) (old mid : Files) (j : Judgement) (k : Kept) → mid ≡ old → IsKept old pieces k → IsJudged old 65 j.first → IsJudged old 66 j.second → IsKnown mid pieces j k
known_still pieces old mid j k same kept first second = subst (λ (d : Files). IsKnown d pieces j k) (sym same) (record { kept = kept; first = first; second = second })

-- so what is left after them by a stop while pieces are kept
pub kept_after : (pieces : List (List ℕ)) (old mid new : Files) → mid ≡ old → AreKept old pieces → MayBeKept pieces mid new → MayBeAdopted old new
kept_after pieces old mid new same kept may = kept_adopted pieces old new kept (subst (λ (d : Files). MayBeKept pieces d new) same may)

-- and what is there at the end
pub leaves_after : (pieces : List (List ℕ)) (old mid new : Files) → mid ≡ old → AreKept old pieces → AllKept pieces mid new → LeavesAdopted old new
leaves_after pieces old mid new same kept all = all_leaves pieces old new kept (subst (λ (d : Files). AllKept pieces d new) same all)

-- where all was kept before, it is after them
pub all_before : (pieces : List (List ℕ)) (old mid : Files) → mid ≡ old → AreKept old pieces → LeavesAdopted old old → AllKept pieces mid mid
all_before pieces old mid same kept leaves = subst (λ (d : Files). AllKept pieces d d) (sym same) (leaves_all pieces old old kept leaves)

-- a fault of the disk leaves what a stop may leave
pub faulted : (old new : Files) (result : Result Adopted AdoptFault) → result ≡ Err DiskFault → MayBeAdopted old new → IsAdopted old new result
faulted old new result is may = subst (IsAdopted old new) (sym is) may

-- What was adopted is true of what is left.
true_of : (old new : Files) (a : Adopted) → IsAdopted old new (Ok a) → IsTrueOf new a
true_of old new a is = ⊎_elim
    (λ (off : (AreOn old → ⊥) × IsOff a × KeepsFiles (λ f. Unit {0}) old new).
    inl ((λ (on : AreOn new). off.0 (⊎_elim (λ (one : IsBegun (new 65)). inl (subst IsBegun (off.2 65 tt) one)) (λ (two : IsBegun (new 66)). inr (subst IsBegun (off.2 66 tt) two)) on)), off.1))
    (λ (on : (pieces : List (List ℕ)) × AreKept old pieces × RevealsKept pieces a × LeavesAdopted old new).
    inr (on.0, subst (HasText (text_of on.0)) (sym (on.3.ledger on.0 on.1)) (mended_ends (text_of on.0) (old 0)), on.3.copies on.0 on.1, on.2))
    is

pub true_after : (reveals : Type 0) (old new : Files) (r : Result Adopted AdoptFault) → (reveals → IsAdopted old new r) → IfOk r (λ a. reveals → IsTrueOf new a)
true_after reveals old new (Ok a) is = λ revealed. true_of old new a (is revealed)
true_after reveals old new (Err fault) is = tt
