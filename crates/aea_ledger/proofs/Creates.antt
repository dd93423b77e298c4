-- What the steps of making an archive leave of the ledger's file.
use Rattle.std.proofs.Common.{◌≡◌, ◌↔◌, Bool, true, false, IsTrue, ⊎_elim, inl, inr, ℕ, List, [], ◌∷◌, length, drop, get_or, sym, ◌∙◌, ap, subst, arith}
use Rattle.std.proofs.lemmas.Bool.{cases_eq, cases_lt}
use Rattle.aea_lattice.specs.declared.shape.Shape.{Shape}
use Rattle.aea_disk.specs.Files.{Files, ChangesOnly, Torn, Holds}
use Rattle.aea_disk.specs.State.{State, Passes, Follows, KeepsImages, During, IsSynced}
use Rattle.aea_disk.proofs.Moments.{passes_none}
use Rattle.aea_records.specs.Faults.{HasOpenHeader, IsNoArchive}
use Rattle.aea_ledger.specs.Stops.{empty_ledger, IsNoneOrEmpty, IsBeingMade, MakesArchive, StaysAll, IsOpened}
use Rattle.aea_ledger.proofs.Writes.{torn_gate, holds_gate}

-- the gate stays closed while what follows it is written
pub none_behind : (n : ℕ) (old new : List ℕ) → old ≡ 0 ∷ [] → Torn 1 n old new → IsNoArchive new
none_behind n old new begun torn =
    let at : Torn 1 n (0 ∷ []) new = subst (λ (l : List ℕ). Torn 1 n l new) begun torn in
    inr (λ is. absurd (omega (arith, sym (at.others 0 (omega arith) (inl (omega arith))) ∙ is)))

-- what follows it is written
pub filled : (shape : Shape) (rest old new : List ℕ) → old ≡ 0 ∷ [] → rest ≡ drop 1 (empty_ledger shape) → Holds 1 rest old new → new ≡ 0 ∷ rest
filled shape rest old new begun is holds =
    let at : Holds 1 (drop 1 (empty_ledger shape)) (0 ∷ []) new =
    subst (λ (l : List ℕ). Holds 1 l (0 ∷ []) new) is (subst (λ (l : List ℕ). Holds 1 rest l new) begun holds) in
    at ∙ ap (λ (l : List ℕ). 0 ∷ l) (sym is)

-- the gate is written
pub none_or_empty : (shape : Shape) (rest old new : List ℕ) → old ≡ 0 ∷ rest → rest ≡ drop 1 (empty_ledger shape) → Torn 0 1 old new → IsNoneOrEmpty shape new
none_or_empty shape rest old new full is torn =
    let whole : new ≡ get_or new 0 0 ∷ rest = torn_gate [] 0 rest new (subst (λ (l : List ℕ). Torn 0 1 l new) full torn) in
    ⊎_elim
    (λ opened. inr (whole ∙ ap (λ (g : ℕ). g ∷ rest) opened ∙ ap (λ (l : List ℕ). 1 ∷ l) is))
    (λ closed. inl (inr closed))
    (cases_eq (get_or new 0 0) 1)

-- a file that is the empty ledger but for a 0 at its first place is the empty ledger once 1 was written there
pub empty_opened : (shape : Shape) (rest old new : List ℕ) → old ≡ 0 ∷ rest → rest ≡ drop 1 (empty_ledger shape) → Holds 0 (1 ∷ []) old new → new ≡ empty_ledger shape
empty_opened shape rest old new full is holds =
    holds_gate [] 0 rest new (subst (λ (l : List ℕ). Holds 0 (1 ∷ []) l new) full holds) ∙ ap (λ (l : List ℕ). 1 ∷ l) is

-- a file without an open header
pub no_header : (bytes : List ℕ) (found : Bool) → found ≡ false → IsTrue found ↔ HasOpenHeader bytes → IsNoArchive bytes
no_header bytes found not_found same =
    ⊎_elim
    (λ short. inl short)
    (λ long. inr (λ is. let yes : found ≡ true = same.1 (record { long = long; gate = is }) in cc))
    (cases_lt (length bytes) 18)

-- an archive has an open header
pub not_both : (bytes : List ℕ) → HasOpenHeader bytes → IsNoArchive bytes → ⊥
not_both bytes open_header none = ⊎_elim (λ short. omega (arith, short, open_header.long)) (λ closed. closed open_header.gate) none

-- an archive that is being made where there was none
pub being_made : (shape : Shape) (old new : List ℕ) → IsNoArchive old → IsNoneOrEmpty shape new → IsBeingMade shape old new
being_made shape old new none is = record { occupied = λ open_header. absurd (not_both old open_header none); free = λ again. is }

-- the moment at which the first sync of a call has succeeded
pub opened : (P : Files → Type 0) (old mid new : State) → Passes old mid → Passes mid new → KeepsImages old mid → IsSynced mid → mid.files ≡ old.files → During mid new P → IsOpened old new P
opened P old mid new first second keeps synced same during = record {
  moment = mid.moment;
  from = first.later;
  to = second.later;
  before = λ t c from to here. keeps t c from to ((second.keeps t c to).0 here);
  sure = λ c here f. synced c ((second.keeps mid.moment c (omega arith)).0 here) f ∙ ap (λ (k : Files). k f) same;
  later = during;
}

-- where every later image has every file as it reads
pub opened_read : (old mid new : State) → Passes old mid → Passes mid new → KeepsImages old mid → IsSynced mid → mid.files ≡ old.files → KeepsImages mid new → IsOpened old new (StaysAll old.files)
opened_read old mid new first second keeps synced same reads =
    opened (StaysAll old.files) old mid new first second keeps synced same
    (λ t c from to here f. synced c (reads t c from to here) f ∙ ap (λ (k : Files). k f) same)

-- an archive that is being made once the first sync has succeeded
pub opened_making : (shape : Shape) (old mid new : State) → Passes old mid → Passes mid new → KeepsImages old mid → IsSynced mid → mid.files ≡ old.files
    → IsNoArchive (old.files 0) → Follows (ChangesOnly 0) mid new → During mid new (λ c. IsNoneOrEmpty shape (c 0)) → IsOpened old new (MakesArchive shape old.files)
opened_making shape old mid new first second keeps synced same none follows during =
    opened (MakesArchive shape old.files) old mid new first second keeps synced same
    (λ t c from to here.
    let was = follows t c from to here in
    record {
      ledger = being_made shape (old.files 0) (c 0) none (during t c from to here);
      others = λ f apart. was.2 f apart ∙ synced was.0 was.1 f ∙ ap (λ (k : Files). k f) same;
    })

-- an archive that is there is left as it is
pub opened_occupied : (shape : Shape) (old new : State) → Passes old new → KeepsImages old new → IsSynced new → new.files ≡ old.files → HasOpenHeader (old.files 0) → IsOpened old new (MakesArchive shape old.files)
opened_occupied shape old new time keeps synced same header =
    opened (MakesArchive shape old.files) old new new time (passes_none new) keeps synced same
    (λ t c from to here.
    let is : t ≡ new.moment = omega arith in
    let at = λ (f : ℕ). synced c (subst (λ (m : ℕ). new.image m c) is here) f ∙ ap (λ (k : Files). k f) same in
    record {
      ledger = record { occupied = λ yes. at 0; free = λ none. absurd (not_both (old.files 0) header none) };
      others = λ f apart. at f;
    })
