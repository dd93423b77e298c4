-- Commands that open the archive and have causes of their own after that.
use Rattle.std.proofs.Common.{◌≡◌, ◌⊎◌, inl, inr, ℕ, ◌≤◌, List, length, refl, arith, Ok, Err}
use Rattle.std.proofs.lemmas.Bool.{false≢true}
use Rattle.aea_lattice.specs.declared.shape.Shape.{Shape}
use Rattle.aea_disk.specs.State.{State}
use Rattle.aea_records.specs.Format.{Record, spelled}
use Rattle.aea_records.specs.Laws.{IsSomeLedger}
use Rattle.aea_ledger.specs.Stops.{HasLedger}
use Rattle.aea_ledger.specs.Values.{Opened}
use Rattle.aea_command.specs.declared.refusal.Refusal.{Refusal}
use Rattle.aea_command.specs.declared.refusal.Refusal.TheVariants.{Occupied}
use Rattle.aea_command.specs.declared.refusal.Failure.{Failure}
use Rattle.aea_command.specs.declared.refusal.Failure.TheVariants as failure
use Rattle.aea_command.specs.Causes.{place_of, Refuses}
use Rattle.aea_command.specs.Openings.{OpeningCauses, Opens}
use Rattle.aea_command.proofs.OpeningCases.{opening_first, opening_early}
use Rattle.aea_command.proofs.Refusing.{refuses_as}

-- the causes are those of the opening, and others at what is a ledger, which come after them
pub record AreBehindOpening (bytes : List ℕ) (causes : Refusal → Type 0) : Type 0 where
  pub from : (why : Refusal) → OpeningCauses bytes why → causes why
  pub back : (why : Refusal) → causes why → OpeningCauses bytes why ⊎ (IsSomeLedger bytes × (place_of Occupied ≤ place_of why))

-- bytes that are a ledger of these records are some ledger
pub some_ledger : (bytes : List ℕ) (shape : Shape) (records : List Record) → HasLedger shape records bytes → IsSomeLedger bytes
some_ledger bytes shape records ledger = record { shape = shape; records = records; end = length (spelled shape records); ledger = ledger }

-- an archive that was not opened says why
pub unopened_refuses : {T : Type 0} (reveals : Type 0) (old new : State) (f : Failure) (causes : Refusal → Type 0) → AreBehindOpening (old.files 0) causes → Opens reveals old new (Err f) → Refuses {T = T} reveals causes (Err f)
unopened_refuses {T} reveals old new f causes behind opens = refuses_as {T = Opened} {U = T} reveals causes f (Err f) refl (record {
  only = λ why is revealed.
      let first = opens.refuses.only why is revealed in
      record {
        stands = behind.from why first.stands;
        none = λ other before cause. elim (behind.back other cause) [
          | inl early ↦ first.none other before early
          | inr late ↦ let e = opening_early (old.files 0) why first.stands in let l = late.1 in omega arith
        ];
      };
  always = λ why revealed first. elim (behind.back why first.stands) [
    | inl early ↦ opens.refuses.always why revealed (opening_first (old.files 0) why early)
    | inr late ↦ elim (opens.complete revealed late.0) [ inl ok ↦ absurd (false≢true ok) | inr stopped ↦ inr stopped ]
  ];
})

-- one that was opened has no reason of the opening
pub opened_no_opening : (reveals : Type 0) (old new : State) (v : Opened) → Opens reveals old new (Ok v) → reveals → (why : Refusal) → OpeningCauses (old.files 0) why → ⊥
opened_no_opening reveals old new v opens revealed why cause = elim (opens.refuses.always why revealed (opening_first (old.files 0) why cause)) [
  | inl e ↦ let h : Ok v ≡ Err (failure.Refused why) = e in cc
  | inr (inl e) ↦ let h : Ok v ≡ Err failure.Disk = e in cc
  | inr (inr (inl e)) ↦ let h : Ok v ≡ Err failure.Input = e in cc
  | inr (inr (inr e)) ↦ let h : Ok v ≡ Err failure.Memory = e in cc
]
