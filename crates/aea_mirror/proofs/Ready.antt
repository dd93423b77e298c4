-- A Mirror that was made right after copies were adopted: what it shows reads so in each image, and it takes the writes of a ledger.
use Rattle.std.proofs.Common.{◌≡◌, ◌⊎◌, ⊎_elim, inl, inr, ℕ, Bool, true, List, [], length, get_or, refl, sym, ap, ◌∙◌, subst, arith}
use Rattle.aea_disk.specs.Ends.{EndsAt}
use Rattle.aea_disk.specs.State.{State, IsSynced, IsReady}
use Rattle.aea_copies.specs.Format.{copied, text_of}
use Rattle.aea_copies.specs.Kept.{IsCopyFile, IsGood, AreOn, HasText, mended}
use Rattle.aea_copies.proofs.Judged.{has_one_pieces}
use Rattle.aea_adopt.specs.Adopting.{IsOff, RevealsKept, IsTrueOf}
use Rattle.aea_adopt.specs.declared.answers.Adopted.{Adopted}
use Rattle.aea_adopt.proofs.Answered.{good_on}
use Rattle.aea_mirror.specs.declared.tail.Tail.{Tail}
use Rattle.aea_mirror.specs.Guarding.{Guards}
use Rattle.aea_mirror.specs.Mirrored.{HoldsText, mirror_state, fresh}
use Rattle.aea_mirror.proofs.Adopting.{guards_true}
use Rattle.aea_mirror.proofs.Leading.{kept_holds}
use Rattle.aea_mirror.proofs.Showing.{mended_closed}
use Rattle.aea_mirror.proofs.Syncing.{sync_durable}
use Rattle.aea_mirror.proofs.Wholes.{text_begins, text_shut}

-- what is said of copies that are on
abbrev AreRevealed : State → Adopted → Type 0
AreRevealed s a = (pieces : List (List ℕ)) × HasText (text_of pieces) (s.files 0) × ((f : ℕ) → IsCopyFile f → IsGood pieces (s.files f)) × RevealsKept pieces a

-- a good copy has the text of the ledger, so that is left as it is
as_it_is : (s : State) (a : Adopted) → IsTrueOf s.files a → (f : ℕ) (pieces : List (List ℕ)) → IsCopyFile f → IsGood pieces (s.files f) → mended (text_of pieces) (s.files 0) ≡ s.files 0
as_it_is s a is f pieces copy good = ⊎_elim
    (λ (off : (AreOn s.files → ⊥) × IsOff a). absurd (off.0 (good_on s.files f pieces copy good)))
    (λ (on : AreRevealed s a).
    let same : pieces ≡ on.0 = (has_one_pieces (s.files f) pieces on.0 (length (copied pieces)) (length (copied on.0)) good (on.2 f copy)).0 in
    let begins = text_begins (text_of on.0) (s.files 0) on.1 in
    ap (λ (p : List (List ℕ)). mended (text_of p) (s.files 0)) same ∙ mended_closed (text_of on.0) (s.files 0) begins.long begins.front (text_shut (text_of on.0) (s.files 0) on.1))
    is

pub made_synced : (reveals : Type 0) (s : State) (a : Adopted) (name : ℕ) → (reveals → IsSynced s) → (reveals → IsTrueOf s.files a) → IsSynced (mirror_state reveals s (fresh name a))
made_synced reveals s a name synced is = sync_durable reveals s (fresh name a) synced (λ revealed. as_it_is s a (is revealed))

-- where copies are on the records of the ledger end where the kept text does
made_ends : (s : State) (a : Adopted) → IsSynced s → AreRevealed s a → IsTrueOf s.files a → EndsAt (s.files 0) a.end
made_ends s a synced on is =
    let first : Tail = record { gate = get_or a.gates 0 0; link = get_or a.links 0 [] } in
    let second : Tail = record { gate = get_or a.gates 1 0; link = get_or a.links 1 [] } in
    let guards : Guards s true a.end first second = subst (λ (b : Bool). Guards s b a.end first second) on.3.on (guards_true s a first second synced is refl refl refl refl) in
    let holds = (kept_holds s a.end first second (guards.are refl)).0 in
    record {
      header = holds.header;
      records = holds.records;
      reaches = holds.reaches;
      there = holds.there;
      shut = λ opened. text_shut (text_of on.0) (s.files 0) on.1 (ap (λ (n : ℕ). get_or (s.files 0) n 0) (sym on.3.end) ∙ opened);
    }

made_text : (s : State) (a : Adopted) → IsSynced s → AreRevealed s a → IsTrueOf s.files a → a.on ≡ true → HoldsText a.end (s.files 0)
made_text s a synced on is said =
    let first : Tail = record { gate = get_or a.gates 0 0; link = get_or a.links 0 [] } in
    let second : Tail = record { gate = get_or a.gates 1 0; link = get_or a.links 1 [] } in
    let guards : Guards s true a.end first second = subst (λ (b : Bool). Guards s b a.end first second) on.3.on (guards_true s a first second synced is refl refl refl refl) in
    (kept_holds s a.end first second (guards.are refl)).0

pub made_ready : (reveals : Type 0) (s : State) (a : Adopted) (name : ℕ) → reveals → IsSynced s → IsTrueOf s.files a → IsReady (mirror_state reveals s (fresh name a))
made_ready reveals s a name revealed synced is = ⊎_elim
    (λ (off : (AreOn s.files → ⊥) × IsOff a). (
      0,
      record {
        revealed = revealed;
        sound = record { alive = refl; text = λ on. let none = off.1.on in absurd (cc) };
        near = omega arith;
        allowed = inl off.1.on;
      },
    ))
    (λ (on : AreRevealed s a). (
      a.end,
      record {
        revealed = revealed;
        sound = record { alive = refl; text = made_text s a synced on is };
        near = omega arith;
        allowed = inr (inr (a.end, made_ends s a synced on is, λ zero. omega arith));
      },
    ))
    is
