-- What the steps of a commit leave of the ledger's file.
use Rattle.std.proofs.Common.{◌≡◌, ⊎_elim, inl, inr, ℕ, ◌+◌, List, [], ◌∷◌, ◌++◌, length, drop, get_or, refl, sym, ◌∙◌, ap, subst, arith, append_assoc}
use Rattle.std.proofs.lemmas.Bool.{cases_eq}
use Rattle.std.proofs.lemmas.List.{append_cancel_left}
use Rattle.aea_lattice.specs.declared.shape.Shape.{Shape}
use Rattle.aea_disk.specs.Files.{Torn, Holds}
use Rattle.aea_records.specs.Format.{Record, body, spelled}
use Rattle.aea_records.specs.Grammar.{IsNext, AreRecords, IsLedger}
use Rattle.aea_ledger.specs.Stops.{HasLedger, HasOldOrNew, IsAdded, IsStaged}
use Rattle.aea_records.proofs.OneMore.{MayFollow-push, spelled-push}
use Rattle.aea_ledger.proofs.Writes.{torn_gate, holds_gate, torn_behind, holds_behind}

-- a write past the gate leaves the ledger as it was
pub old_behind : (shape : Shape) (records : List Record) (old new : List ℕ) (end n : ℕ) → IsLedger old shape records end → Torn (end + 1) n old new → HasLedger shape records new
old_behind shape records old new end n ledger torn =
    let at : Torn (length (spelled shape records) + 1) n (spelled shape records ++ ledger.gate ∷ ledger.after) new =
    subst (λ (k : ℕ). Torn (k + 1) n (spelled shape records ++ ledger.gate ∷ ledger.after) new) ledger.place
    (subst (λ (l : List ℕ). Torn (end + 1) n l new) ledger.spelling torn) in
    record {
      valid = ledger.valid;
      gate = ledger.gate;
      closed = ledger.closed;
      after = drop (length (spelled shape records) + 1) new;
      spelling = torn_behind (spelled shape records) ledger.gate ledger.after n new at;
      place = refl;
    }

-- after a front and a gate, bytes that end with a 0
regroup : (front : List ℕ) (gate : ℕ) (bytes more : List ℕ) → front ++ gate ∷ ((bytes ++ 0 ∷ []) ++ more) ≡ front ++ gate ∷ (bytes ++ 0 ∷ more)
regroup front gate bytes more = ap (λ (l : List ℕ). front ++ gate ∷ l) (append_assoc bytes (0 ∷ []) more)

-- a write past the gate that was made stages the body
pub staged : (shape : Shape) (records : List Record) (r : Record) (old new : List ℕ) (end : ℕ) (behind : List ℕ) → IsAdded shape records r old end behind → Holds (end + 1) behind old new → IsStaged shape records r new end
staged shape records r old new end behind added holds =
    let ledger = added.ledger in
    let front = spelled shape records in
    let at : Holds (length (spelled shape records) + 1) behind (spelled shape records ++ ledger.gate ∷ ledger.after) new =
    subst (λ (k : ℕ). Holds (k + 1) behind (spelled shape records ++ ledger.gate ∷ ledger.after) new) ledger.place
    (subst (λ (l : List ℕ). Holds (end + 1) behind l new) ledger.spelling holds) in
    let more = drop (length behind) (drop (length (spelled shape records) + 1) new) in
    record {
      valid = ledger.valid;
      next = added.next;
      gate = ledger.gate;
      closed = ledger.closed;
      more = more;
      spelling = holds_behind (spelled shape records) ledger.gate ledger.after behind new at
          ∙ ap (λ (l : List ℕ). spelled shape records ++ ledger.gate ∷ (l ++ more)) added.bytes
          ∙ regroup (spelled shape records) ledger.gate (body r) more;
      place = ledger.place;
    }

-- an open gate before a body and a closed one
joined : (front : List ℕ) (bytes more : List ℕ) → front ++ 1 ∷ (bytes ++ 0 ∷ more) ≡ (front ++ 1 ∷ bytes) ++ 0 ∷ more
joined front bytes more = sym (append_assoc front (1 ∷ bytes) (0 ∷ more))

-- the new ledger
new_ledger : (shape : Shape) (records : List Record) (r : Record) (bytes more : List ℕ) → AreRecords shape records → IsNext shape records r → bytes ≡ spelled shape records ++ 1 ∷ (body r ++ 0 ∷ more) → HasLedger shape (records ++ r ∷ []) bytes
new_ledger shape records r bytes more valid next spelling = record {
  valid = MayFollow-push shape [] records r valid next;
  gate = 0;
  closed = λ is. absurd (omega (arith, is));
  after = more;
  spelling = spelling ∙ joined (spelled shape records) (body r) more ∙ ap (λ (l : List ℕ). l ++ 0 ∷ more) (sym (spelled-push shape records r));
  place = refl;
}

-- the ledger with a staged body
pub old_staged : (shape : Shape) (records : List Record) (r : Record) (bytes : List ℕ) (end : ℕ) → IsStaged shape records r bytes end → IsLedger bytes shape records end
old_staged shape records r bytes end is = record { valid = is.valid; gate = is.gate; closed = is.closed; after = body r ++ 0 ∷ is.more; spelling = is.spelling; place = is.place }

-- a write of the gate leaves the old ledger or the new one
pub old_or_new : (shape : Shape) (records : List Record) (r : Record) (old new : List ℕ) (end : ℕ) → IsStaged shape records r old end → Torn end 1 old new → HasOldOrNew shape records r new
old_or_new shape records r old new end is torn =
    let at : Torn (length (spelled shape records)) 1 (spelled shape records ++ is.gate ∷ (body r ++ 0 ∷ is.more)) new =
    subst (λ (k : ℕ). Torn k 1 (spelled shape records ++ is.gate ∷ (body r ++ 0 ∷ is.more)) new) is.place
    (subst (λ (l : List ℕ). Torn end 1 l new) is.spelling torn) in
    let gate = get_or new (length (spelled shape records)) 0 in
    let whole : new ≡ spelled shape records ++ get_or new (length (spelled shape records)) 0 ∷ (body r ++ 0 ∷ is.more) = torn_gate (spelled shape records) is.gate (body r ++ 0 ∷ is.more) new at in
    ⊎_elim
    (λ opened. inr (new_ledger shape records r new is.more is.valid is.next (whole ∙ ap (λ (g : ℕ). spelled shape records ++ g ∷ (body r ++ 0 ∷ is.more)) opened)))
    (λ closed. inl (record { valid = is.valid; gate = gate; closed = closed; after = body r ++ 0 ∷ is.more; spelling = whole; place = refl }))
    (cases_eq (get_or new (length (spelled shape records)) 0) 1)

-- which opened it
pub new_opened : (shape : Shape) (records : List Record) (r : Record) (old new : List ℕ) (end : ℕ) → IsStaged shape records r old end → Holds end (1 ∷ []) old new → HasLedger shape (records ++ r ∷ []) new
new_opened shape records r old new end is holds =
    let at : Holds (length (spelled shape records)) (1 ∷ []) (spelled shape records ++ is.gate ∷ (body r ++ 0 ∷ is.more)) new =
    subst (λ (k : ℕ). Holds k (1 ∷ []) (spelled shape records ++ is.gate ∷ (body r ++ 0 ∷ is.more)) new) is.place
    (subst (λ (l : List ℕ). Holds end (1 ∷ []) l new) is.spelling holds) in
    new_ledger shape records r new is.more is.valid is.next (holds_gate (spelled shape records) is.gate (body r ++ 0 ∷ is.more) new at)

-- of two spellings after one front, one with an open gate
one_gate : (front : List ℕ) (gate : ℕ) (after bytes rest : List ℕ) → front ++ gate ∷ after ≡ (front ++ 1 ∷ bytes) ++ rest → gate ≡ 1
one_gate front gate after bytes rest same =
    ap (λ (l : List ℕ). get_or l 0 0) (append_cancel_left front (gate ∷ after) (1 ∷ bytes ++ rest) (same ∙ append_assoc front (1 ∷ bytes) rest))

-- no file is both
pub not_both : (shape : Shape) (records : List Record) (r : Record) (bytes : List ℕ) (end : ℕ) → IsLedger bytes shape records end → HasLedger shape (records ++ r ∷ []) bytes → ⊥
not_both shape records r bytes end old new =
    old.closed (one_gate (spelled shape records) old.gate old.after (body r) (new.gate ∷ new.after)
    (sym old.spelling ∙ new.spelling ∙ ap (λ (l : List ℕ). l ++ new.gate ∷ new.after) (spelled-push shape records r)))
