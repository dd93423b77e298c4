-- What a disk takes, and has space for, while a record is added to a ledger.
use Rattle.std.proofs.Common.{◌≡◌, ℕ, ◌+◌, ◌≤◌, List, [], ◌∷◌, ◌++◌, length, take, drop, refl, sym, ◌∙◌, ap, subst, arith, append_assoc, length-append}
use Rattle.std.proofs.lemmas.List.{take-append-drop}
use Rattle.std.proofs.Math.Seq.{take-append_seam}
use Rattle.aea_lattice.specs.declared.shape.Shape.{Shape}
use Rattle.aea_disk.specs.Ends.{EndsAt}
use Rattle.aea_disk.specs.Files.{overwritten}
use Rattle.aea_disk.specs.State.{State, IsReady, HasRoomTo}
use Rattle.aea_records.specs.Format.{Record, entry, spelled}
use Rattle.aea_records.specs.Grammar.{IsLedger}
use Rattle.aea_ledger.specs.Stops.{IsAdded, committed}
use Rattle.aea_ledger.specs.Taking.{TakesCommit, FitsCommit, FitsAdding}
use Rattle.aea_ledger.proofs.Commits.{staged, old_staged, new_opened}
use Rattle.aea_ledger.proofs.Ends.{ledger_ends}
use Rattle.aea_records.proofs.OneMore.{spelled-push}

-- what the file has up to the ending gate
take_gate : (front : List ℕ) (gate : ℕ) (after : List ℕ) → take (length front + 1) (front ++ gate ∷ after) ≡ front ++ gate ∷ []
take_gate front gate after =
    let size : length front + 1 ≡ length (front ++ gate ∷ []) = sym (length-append front (gate ∷ [])) in
    (λ i. take (size i) (sym (append_assoc front (gate ∷ []) after) i)) ∙ take-append_seam (front ++ gate ∷ []) after

-- a file that is the same up to the ending gate is the same ledger
pub still_ledger : (shape : Shape) (records : List Record) (old new : List ℕ) (end : ℕ) → IsLedger old shape records end → take (end + 1) new ≡ take (end + 1) old → IsLedger new shape records end
still_ledger shape records old new end ledger same =
    let front : take (end + 1) old ≡ spelled shape records ++ ledger.gate ∷ [] =
    (λ i. take (ledger.place i + 1) (ledger.spelling i)) ∙ take_gate (spelled shape records) ledger.gate ledger.after in
    record {
      valid = ledger.valid;
      gate = ledger.gate;
      closed = ledger.closed;
      after = drop (end + 1) new;
      spelling = sym (take-append-drop (end + 1) new) ∙ ap (λ (l : List ℕ). l ++ drop (end + 1) new) (same ∙ front) ∙ append_assoc (spelled shape records) (ledger.gate ∷ []) (drop (end + 1) new);
      place = ledger.place;
    }

-- a ready disk takes what adds a record to the ledger that is on it
pub takes_added : (s : State) (shape : Shape) (records : List Record) (r : Record) (end : ℕ) (behind : List ℕ)
    → ((f : ℕ) (b : List ℕ) (m n : ℕ) → m ≤ n → s.takes f b m → s.takes f b n)
    → ((b c : List ℕ) (m n : ℕ) → EndsAt c n → s.takes 0 b m → s.takes 0 c n)
    → IsAdded shape records r (s.files 0) end behind → IsReady s → TakesCommit s end behind
takes_added s shape records r end behind later ended added ready =
    let stage = staged shape records r (s.files 0) (overwritten (s.files 0) (end + 1) behind) end behind added refl in
    let done = new_opened shape records r (overwritten (s.files 0) (end + 1) behind) (committed (s.files 0) end behind) end stage refl in
    let there = (ledger_ends (s.files 0) shape records end added.ledger).ends.there in
    record {
      body = record {
        from = end + 1;
        before = omega arith;
        there = omega (arith, there);
        behind = λ bytes long same.
            later 0 bytes end (end + 1) (omega arith)
            (ended (s.files 0) bytes ready.0 end (ledger_ends bytes shape records end (still_ledger shape records (s.files 0) bytes end added.ledger same)).ends ready.1);
      };
      gate = ended (s.files 0) (overwritten (s.files 0) (end + 1) behind) ready.0 end (ledger_ends (overwritten (s.files 0) (end + 1) behind) shape records end (old_staged shape records r (overwritten (s.files 0) (end + 1) behind) end stage)).ends ready.1;
      done = (length (spelled shape (records ++ r ∷ [])), ended (s.files 0) (committed (s.files 0) end behind) ready.0 (length (spelled shape (records ++ r ∷ []))) (ledger_ends (committed (s.files 0) end behind) shape (records ++ r ∷ []) (length (spelled shape (records ++ r ∷ []))) done).ends ready.1);
    }

-- and one with the space that the record needs has it for each step
pub fits_added : (s : State) (shape : Shape) (records : List Record) (r : Record) (end : ℕ) (behind : List ℕ)
    → ((b c : List ℕ) (n : ℕ) → (one : EndsAt b n) → (two : EndsAt c n) → one.records ≡ two.records → s.keeps b → s.keeps c)
    → IsAdded shape records r (s.files 0) end behind → length behind ≡ length (entry r) → FitsAdding s 1 (end + length (entry r)) → FitsCommit s end behind
fits_added s shape records r end behind alike added size fit =
    let last : ℕ = end + length (entry r) in
    let stage = staged shape records r (s.files 0) (overwritten (s.files 0) (end + 1) behind) end behind added refl in
    let done = new_opened shape records r (overwritten (s.files 0) (end + 1) behind) (committed (s.files 0) end behind) end stage refl in
    let place : length (spelled shape (records ++ r ∷ [])) ≡ end + length (entry r) =
    ap length (spelled-push shape records r) ∙ length-append (spelled shape records) (entry r) ∙ ap (λ (n : ℕ). n + length (entry r)) (sym added.ledger.place) in
    let now = ledger_ends (s.files 0) shape records end added.ledger in
    let written = ledger_ends (overwritten (s.files 0) (end + 1) behind) shape records end (old_staged shape records r (overwritten (s.files 0) (end + 1) behind) end stage) in
    let with = ledger_ends (committed (s.files 0) end behind) shape (records ++ r ∷ []) (end + length (entry r)) (subst (IsLedger (committed (s.files 0) end behind) shape (records ++ r ∷ [])) place done) in
    record {
      room = subst (HasRoomTo s 0) (let e : end + length (entry r) + 1 ≡ end + 1 + length behind = omega (arith, size) in e) fit.room;
      body = alike (s.files 0) (overwritten (s.files 0) (end + 1) behind) end now.ends written.ends (now.count ∙ sym written.count) fit.now;
      done = fit.then (committed (s.files 0) end behind) end now.ends with.ends (with.count ∙ length-append records (r ∷ []) ∙ ap (λ (n : ℕ). n + 1) (sym now.count));
    }
