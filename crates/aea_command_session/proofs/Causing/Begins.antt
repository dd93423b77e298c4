-- Why a session is not begun over an opened archive, and what is known of the archive where it is.
use Rattle.std.proofs.Common.{◌≡◌, inl, inr, ◌↔◌, ℕ, ◌<◌, Bool, true, false, List, refl, sym, ◌∙◌, ap, arith, Result, Err}
use Rattle.aea_lattice.specs.declared.blocks.BlockId.{BlockId}
use Rattle.aea_lattice.specs.declared.shape.Shape.{Shape}
use Rattle.aea_lattice.specs.Facts.{NumbersRevealBlocks}
use Rattle.aea_disk.specs.Files.{Files}
use Rattle.aea_records.specs.Format.{first_limit, limit_of, limit_when}
use Rattle.aea_records.specs.Laws.{HasOneReading}
use Rattle.aea_ledger.specs.Values.{Opened, IsThisOne}
use Rattle.aea_archive.specs.Lasts.{IsLastParity, IsDamagedLast, IsFirstDamagedLast}
use Rattle.aea_session.specs.declared.begin.BeginFault.{BeginFault}
use Rattle.aea_session.specs.declared.begin.BeginFault.TheVariants as begin
use Rattle.aea_command.specs.declared.refusal.Refusal.{Refusal}
use Rattle.aea_command.specs.declared.refusal.Refusal.TheVariants.{NotUpgraded, HeadDamaged, BadStream, BadMessage, TooManyMessages}
use Rattle.aea_command.specs.declared.refusal.Failure.TheVariants as failure
use Rattle.aea_command.specs.Causes.{place_of, IsFirst, IsDecided, RefusesBy}
use Rattle.aea_command.specs.Failures.{Answer}
use Rattle.aea_command.proofs.Reading.{has_ledger_of, from_reading}
use Rattle.aea_command.proofs.Refusing.{refuses_by_stopped}
use Rattle.aea_command_store.specs.Put.{HasDamagedHead, HasLimit}
use Rattle.aea_command_store.proofs.PutLemmas.Reading.{head_there, head_here, one_head}
use Rattle.aea_command_session.specs.Causes.{OpenedCauses, IsByInput}
use Rattle.aea_command_session.specs.Failures.{begin_failure}
use Rattle.aea_command_session.proofs.Causing.Stops.{refuses_by_one}

-- the limit is the first one where it was not raised, and only there
limit_first : (raised : Bool) → first_limit ≡ limit_when raised → raised ≡ false
limit_first true e = absurd (omega (arith, e))
limit_first false e = refl

-- what is not false is true
pub true_not : (b : Bool) → (b ≡ false → ⊥) → b ≡ true
true_not true never = refl
true_not false never = absurd (never refl)

true_is_not : (b : Bool) → b ≡ true → b ≡ false → ⊥
true_is_not b is isnt = let h : true ≡ false = sym is ∙ isnt in cc

module _ (reading : HasOneReading) (v : Opened) (files : Files) (one : IsThisOne v (files 0)) where
  limit_is : limit_of one.records ≡ limit_when v.raised
  limit_is = sym (ap limit_when one.has.raised)

  -- a file whose limit is the first one is that of an archive that was not raised
  pub limit_there : (shape : Shape) → HasLimit shape first_limit (files 0) → v.raised ≡ false
  limit_there shape has =
      limit_first v.raised (from_reading reading v (files 0) one (λ other records. first_limit ≡ limit_of records) shape has.records has.ledger has.is ∙ limit_is)

  -- and back
  pub limit_here : v.raised ≡ false → (shape : Shape) × HasLimit shape first_limit (files 0)
  limit_here isnt = (v.shape, record { records = one.records; ledger = has_ledger_of reading v (files 0) one; is = sym (ap limit_when isnt) ∙ sym limit_is })

  -- the limit of a raised one is not the first
  pub never_first : v.raised ≡ true → (shape : Shape) → HasLimit shape first_limit (files 0) → ⊥
  never_first is shape has = true_is_not v.raised is (limit_there shape has)

  -- where no last parity is damaged, none is the first that is
  pub never_damaged : ((a : BlockId) → IsDamagedLast v.shape v.lattice v.digests files a → ⊥) → (b : BlockId) → HasDamagedHead files b → ⊥
  never_damaged intact b has = intact b (head_there reading v files one b has).damaged

-- Why a session is not begun: the opened ledger, the files, whether the source reveals its bytes, and what it has.
module _ (reading : HasOneReading) (reveal : NumbersRevealBlocks) (reveals revealed_input : Type 0) (v : Opened) (files : Files) (input : List ℕ)
    (this : reveals → IsThisOne v (files 0)) where
  abbrev revealed : Refusal → Type 0
  revealed = IsDecided reveals revealed_input IsByInput

  abbrev causes : Refusal → Type 0
  causes = OpenedCauses files input

  -- ---- an archive that was not raised

  none_before_limit : (other : Refusal) → place_of other < place_of NotUpgraded → causes other → ⊥
  none_before_limit NotUpgraded before cause = omega arith
  none_before_limit (HeadDamaged b) before cause = omega arith
  none_before_limit (BadMessage at) before cause = omega arith
  none_before_limit (BadStream at) before cause = omega arith
  none_before_limit TooManyMessages before cause = omega arith
  none_before_limit other before cause = cause

  limit_alone : causes NotUpgraded → (why : Refusal) → IsFirst causes why → why ≡ NotUpgraded
  limit_alone limit NotUpgraded first = refl
  limit_alone limit (HeadDamaged b) first = absurd (first.none NotUpgraded (omega arith) limit)
  limit_alone limit (BadMessage at) first = absurd (first.none NotUpgraded (omega arith) limit)
  limit_alone limit (BadStream at) first = absurd (first.none NotUpgraded (omega arith) limit)
  limit_alone limit TooManyMessages first = absurd (first.none NotUpgraded (omega arith) limit)
  limit_alone limit other first = absurd first.stands

  limit_refuses : v.raised ≡ false → RefusesBy revealed causes (let a : Answer = Err (failure.Refused NotUpgraded) in a)
  limit_refuses isnt = refuses_by_one revealed causes NotUpgraded
      (λ t. record { stands = limit_here reading v files (this t.0) isnt; none = none_before_limit })
      (λ why t first. limit_alone (limit_here reading v files (this t.0) isnt) why first)

  -- ---- a last parity that is damaged

  none_before_head : v.raised ≡ true → reveals → (b : BlockId) (other : Refusal) → place_of other < place_of (HeadDamaged b) → causes other → ⊥
  none_before_head is t b NotUpgraded before cause = never_first reading v files (this t) is cause.0 cause.1
  none_before_head is t b (HeadDamaged a) before cause = omega arith
  none_before_head is t b (BadMessage at) before cause = omega arith
  none_before_head is t b (BadStream at) before cause = omega arith
  none_before_head is t b TooManyMessages before cause = omega arith
  none_before_head is t b other before cause = cause

  head_alone : v.raised ≡ true → reveals → (b : BlockId) → IsFirstDamagedLast v.shape v.lattice v.digests files b → (why : Refusal) → IsFirst causes why → why ≡ HeadDamaged b
  head_alone is t b here NotUpgraded first = absurd (never_first reading v files (this t) is first.stands.0 first.stands.1)
  head_alone is t b here (HeadDamaged a) first =
      ap HeadDamaged (one_head reveal v.shape v.lattice v.digests files a b (this t).has.lattice.alpha (head_there reading v files (this t) a first.stands) here)
  head_alone is t b here (BadMessage at) first = absurd (first.none (HeadDamaged b) (omega arith) (head_here reading v files (this t) b here))
  head_alone is t b here (BadStream at) first = absurd (first.none (HeadDamaged b) (omega arith) (head_here reading v files (this t) b here))
  head_alone is t b here TooManyMessages first = absurd (first.none (HeadDamaged b) (omega arith) (head_here reading v files (this t) b here))
  head_alone is t b here other first = absurd first.stands

  head_refuses : v.raised ≡ true → (b : BlockId) → (reveals → IsFirstDamagedLast v.shape v.lattice v.digests files b) → RefusesBy revealed causes (let a : Answer = Err (failure.Refused (HeadDamaged b)) in a)
  head_refuses is b here = refuses_by_one revealed causes (HeadDamaged b)
      (λ t. record { stands = head_here reading v files (this t.0) b (here t.0); none = none_before_head is t.0 b })
      (λ why t first. head_alone is t.0 b (here t.0) why first)

  -- ---- by the fault

  -- it is refused for the one cause, or it stopped
  pub begin_refuses : {T : Type 0} (fault : BeginFault)
      → (let r : Result T BeginFault = Err fault in (r ≡ Err begin.NotUpgraded) ↔ (v.raised ≡ false))
      → ((b : BlockId) → (let r : Result T BeginFault = Err fault in r ≡ Err (begin.HeadDamaged b)) → IsLastParity v.lattice b × (reveals → IsFirstDamagedLast v.shape v.lattice v.digests files b))
      → RefusesBy revealed causes (let a : Answer = Err (begin_failure fault) in a)
  begin_refuses begin.NotUpgraded upgraded head = limit_refuses (upgraded.0 refl)
  begin_refuses {T} (begin.HeadDamaged b) upgraded head =
      head_refuses (true_not v.raised (λ isnt. let h : (let r : Result T BeginFault = Err (begin.HeadDamaged b) in r ≡ Err begin.NotUpgraded) = upgraded.1 isnt in cc)) b (head b refl).1
  begin_refuses begin.DiskFault upgraded head = refuses_by_stopped revealed causes (Err failure.Disk) (inl refl)
  begin_refuses begin.NoMemory upgraded head = refuses_by_stopped revealed causes (Err failure.Memory) (inr (inr refl))
