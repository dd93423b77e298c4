-- What a Mirror knows once copies are whole, or were adopted.
use Rattle.std.proofs.Common.{◌≡◌, ⊎_elim, inl, inr, ℕ, Bool, true, false, List, [], length, get_or, sym, ap, ◌∙◌, subst}
use Rattle.aea_disk.specs.Files.{Files}
use Rattle.aea_disk.specs.State.{State, IsSynced}
use Rattle.aea_copies.specs.Format.{text_of}
use Rattle.aea_copies.specs.Grammar.{IsBegun}
use Rattle.aea_copies.specs.Kept.{IsCopyFile, IsGood, AreOn, AreKept, HasText, LeavesAdopted}
use Rattle.aea_adopt.specs.Adopting.{IsOff, RevealsKept, IsTrueOf}
use Rattle.aea_adopt.specs.declared.answers.Adopted.{Adopted}
use Rattle.aea_mirror.specs.declared.tail.Tail.{Tail}
use Rattle.aea_mirror.specs.Guarding.{EndsCopy, BeginsWith, Guards}
use Rattle.aea_mirror.proofs.Keeping.{mended_ends}
use Rattle.aea_mirror.proofs.Wholes.{text_begins}

-- Nothing is pending, both copies are good with the same pieces, and the ledger begins with their text.
pub guards_whole : (s : State) (pieces : List (List ℕ)) (end : ℕ) (first second : Tail) → IsSynced s → ((f : ℕ) → IsCopyFile f → IsGood pieces (s.files f)) → BeginsWith (text_of pieces) (s.files 0)
    → end ≡ length (text_of pieces) → EndsCopy pieces first → EndsCopy pieces second → Guards s true end first second
guards_whole s pieces end first second synced good begins text one two = record {
  off = λ is. absurd (cc);
  are = λ is. record {
    pieces = pieces;
    guarded = record {
      good = good;
      fixed = λ c here f copy. synced c here f;
      reads = begins;
      images = λ c here. subst (BeginsWith (text_of pieces)) (sym (synced c here 0)) begins;
    };
    text = text;
    one = one;
    two = two;
  };
}

-- Where no copy is begun, and nothing is pending, copies are off.
pub guards_none : (s : State) (end : ℕ) (first second : Tail) → IsSynced s → (AreOn s.files → ⊥) → Guards s false end first second
guards_none s end first second synced none = record {
  off = λ is. record {
    none = λ f copy begun. none (⊎_elim (λ (a : f ≡ 65). inl (subst (λ (x : ℕ). IsBegun (s.files x)) a begun)) (λ (b : f ≡ 66). inr (subst (λ (x : ℕ). IsBegun (s.files x)) b begun)) copy);
    fixed = λ c here f copy. synced c here f;
  };
  are = λ is. absurd (cc);
}

-- What an adoption leaves where these pieces are kept, on a disk on which nothing is pending then.
pub guards_adopted : (old : Files) (s : State) (pieces : List (List ℕ)) (end : ℕ) (first second : Tail) → IsSynced s → AreKept old pieces → LeavesAdopted old s.files
    → end ≡ length (text_of pieces) → EndsCopy pieces first → EndsCopy pieces second → Guards s true end first second
guards_adopted old s pieces end first second synced kept leaves text one two =
    guards_whole s pieces end first second synced (leaves.copies pieces kept)
    (text_begins (text_of pieces) (s.files 0) (subst (HasText (text_of pieces)) (sym (leaves.ledger pieces kept)) (mended_ends (text_of pieces) (old 0)))) text one two

-- And where copies were not on before it, all stays.
pub guards_not_adopted : (old : Files) (s : State) (end : ℕ) (first second : Tail) → IsSynced s → (AreOn old → ⊥) → ((f : ℕ) → s.files f ≡ old f) → Guards s false end first second
guards_not_adopted old s end first second synced off same =
    guards_none s end first second synced (λ on. off (⊎_elim (λ a. inl (subst IsBegun (same 65) a)) (λ b. inr (subst IsBegun (same 66) b)) on))

-- What is said of copies is true of the disk, on which nothing is pending, and the ends of both are those that are told.
pub guards_true : (s : State) (a : Adopted) (first second : Tail) → IsSynced s → IsTrueOf s.files a → first.gate ≡ get_or a.gates 0 0 → second.gate ≡ get_or a.gates 1 0
    → first.link ≡ get_or a.links 0 [] → second.link ≡ get_or a.links 1 [] → Guards s a.on a.end first second
guards_true s a first second synced is one two left right = ⊎_elim
    (λ (off : (AreOn s.files → ⊥) × IsOff a). subst (λ (on : Bool). Guards s on a.end first second) (sym off.1.on) (guards_none s a.end first second synced off.0))
    (λ (on : (pieces : List (List ℕ)) × HasText (text_of pieces) (s.files 0) × ((f : ℕ) → IsCopyFile f → IsGood pieces (s.files f)) × RevealsKept pieces a).
    subst (λ (on : Bool). Guards s on a.end first second) (sym on.3.on)
    (guards_whole s on.0 a.end first second synced on.2 (text_begins (text_of on.0) (s.files 0) on.1) on.3.end
    (record { gate = one ∙ ap (λ (l : List ℕ). get_or l 0 0) on.3.gates; link = left ∙ ap (λ (l : List (List ℕ)). get_or l 0 []) on.3.links })
    (record { gate = two ∙ ap (λ (l : List ℕ). get_or l 1 0) on.3.gates; link = right ∙ ap (λ (l : List (List ℕ)). get_or l 1 []) on.3.links })))
    is
