-- When `explain` is refused.
use Rattle.std.proofs.Common.{◌≡◌, ◌⊎◌, inl, inr, ℕ, ◌<◌, ◌≤◌, List, refl, sym, ◌∙◌, subst, arith, Ok, Err}
use Rattle.aea_lattice.specs.declared.grid.Lattice.{Lattice}
use Rattle.aea_disk.specs.State.{State}
use Rattle.aea_records.specs.Format.{nodes_of, fences_of}
use Rattle.aea_records.specs.Laws.{HasOneReading, IsSomeLedger}
use Rattle.aea_ledger.specs.Recorded.{IsLatticeOf}
use Rattle.aea_ledger.specs.Values.{Opened, IsThisOne}
use Rattle.aea_command.specs.declared.refusal.Refusal.{Refusal}
use Rattle.aea_command.specs.declared.refusal.Refusal.TheVariants.{NoArchive, LedgerBad, NoSuchBlock, Occupied}
use Rattle.aea_command.specs.declared.refusal.Failure.{Failure}
use Rattle.aea_command.specs.declared.refusal.Failure.TheVariants as failure
use Rattle.aea_command.specs.Causes.{place_of, IsFirst, Refuses}
use Rattle.aea_command_loss.specs.Drill.{NamesBlock}
use Rattle.aea_command_loss.specs.Explain.{ExplainCauses, HasNoSuchBlock}
use Rattle.aea_command.specs.Failures.{Answer}
use Rattle.aea_command.specs.Openings.{OpeningCauses, Opens}
use Rattle.aea_command.proofs.Behind.{AreBehindOpening, some_ledger, unopened_refuses, opened_no_opening}
use Rattle.aea_lattice.proofs.OneLattice.{lattice_equal}
use Rattle.aea_command.proofs.Reading.{has_ledger_of, from_reading}
use Rattle.aea_command.proofs.Refusing.{refuses_one, refuses_none}

-- the causes are those of the opening, and another at what is a ledger
explain_behind : (word bytes : List ℕ) → AreBehindOpening bytes (ExplainCauses word bytes)
explain_behind word bytes = record { from = λ why cause. from_opening why cause; back = λ why cause. back_to why cause }
  where
    from_opening : (why : Refusal) → OpeningCauses bytes why → ExplainCauses word bytes why
    from_opening NoArchive cause = cause
    from_opening (LedgerBad at) cause = cause
    from_opening why cause = absurd cause

    back_to : (why : Refusal) → ExplainCauses word bytes why → OpeningCauses bytes why ⊎ (IsSomeLedger bytes × (place_of Occupied ≤ place_of why))
    back_to NoArchive cause = inl cause
    back_to (LedgerBad at) cause = inl cause
    back_to NoSuchBlock cause = inr (some_ledger bytes cause.shape cause.records cause.ledger, omega arith)
    back_to why cause = absurd cause

-- an archive that was not opened shows why
pub unopened_explain : {T : Type 0} (word : List ℕ) (reveals : Type 0) (old new : State) (f : Failure) → Opens reveals old new (Err f) → Refuses {T = T} reveals (ExplainCauses word (old.files 0)) (Err f)
unopened_explain word reveals old new f opens = unopened_refuses reveals old new f (ExplainCauses word (old.files 0)) (explain_behind word (old.files 0)) opens

-- ---- what the file says, as the opened ledger has it, and back

none_here : HasOneReading → (v : Opened) (bytes word : List ℕ) → IsThisOne v bytes → (NamesBlock v.lattice word → ⊥) → HasNoSuchBlock bytes word
none_here reading v bytes word one none = record {
  shape = v.shape;
  records = one.records;
  ledger = has_ledger_of reading v bytes one;
  lattice = v.lattice;
  is_lattice = one.has.lattice;
  none = none;
}

none_there : HasOneReading → (v : Opened) (bytes word : List ℕ) → IsThisOne v bytes → HasNoSuchBlock bytes word → NamesBlock v.lattice word → ⊥
none_there reading v bytes word one has =
    from_reading reading v bytes one (λ shape records. (l : Lattice) → IsLatticeOf shape (nodes_of records) (fences_of records) l → NamesBlock l word → ⊥) has.shape has.records has.ledger
    (λ l is_l names. has.none (subst (λ (m : Lattice). NamesBlock m word)
    (lattice_equal l has.lattice (is_l.alpha ∙ sym has.is_lattice.alpha) (is_l.s ∙ sym has.is_lattice.s) (is_l.p ∙ sym has.is_lattice.p) (is_l.n ∙ sym has.is_lattice.n) (is_l.fences_are ∙ sym has.is_lattice.fences_are)) names))
    v.lattice one.has.lattice

-- ---- after the opening

module _ (reading : HasOneReading) (word : List ℕ) (reveals : Type 0) (v : Opened) (old mid : State) (opens : Opens reveals old mid (Ok v)) where
  -- no cause of the opening holds
  none_before : reveals → (other : Refusal) → place_of other < place_of NoSuchBlock → ExplainCauses word (old.files 0) other → ⊥
  none_before revealed NoArchive earlier cause = opened_no_opening reveals old mid v opens revealed NoArchive cause
  none_before revealed (LedgerBad at) earlier cause = opened_no_opening reveals old mid v opens revealed (LedgerBad at) cause
  none_before revealed NoSuchBlock earlier cause = omega arith
  none_before revealed other earlier cause = cause

  one_cause : reveals → (other : Refusal) → IsFirst (ExplainCauses word (old.files 0)) other → other ≡ NoSuchBlock
  one_cause revealed NoArchive first = absurd (opened_no_opening reveals old mid v opens revealed NoArchive first.stands)
  one_cause revealed (LedgerBad at) first = absurd (opened_no_opening reveals old mid v opens revealed (LedgerBad at) first.stands)
  one_cause revealed NoSuchBlock first = refl
  one_cause revealed other first = absurd first.stands

  -- the word is the text of no block
  pub unnamed_refuses : (answer : Answer) → answer ≡ Err (failure.Refused NoSuchBlock) → (NamesBlock v.lattice word → ⊥) → Refuses reveals (ExplainCauses word (old.files 0)) answer
  unnamed_refuses answer is none =
      refuses_one reveals (ExplainCauses word (old.files 0)) answer NoSuchBlock is
      (λ revealed. record { stands = none_here reading v (old.files 0) word (opens.this_one revealed) none; none = none_before revealed })
      (λ revealed other first. one_cause revealed other first)

  no_cause : NamesBlock v.lattice word → reveals → (why : Refusal) → IsFirst (ExplainCauses word (old.files 0)) why → ⊥
  no_cause names revealed NoArchive first = opened_no_opening reveals old mid v opens revealed NoArchive first.stands
  no_cause names revealed (LedgerBad at) first = opened_no_opening reveals old mid v opens revealed (LedgerBad at) first.stands
  no_cause names revealed NoSuchBlock first = none_there reading v (old.files 0) word (opens.this_one revealed) first.stands names
  no_cause names revealed why first = first.stands

  -- it is that of one
  pub named_refuses : (answer : Answer) → NamesBlock v.lattice word → ((why : Refusal) → answer ≡ Err (failure.Refused why) → ⊥) → Refuses reveals (ExplainCauses word (old.files 0)) answer
  named_refuses answer names never = refuses_none reveals (ExplainCauses word (old.files 0)) answer never (no_cause names)
