-- One step of a reader: over a gate and the record of a fence, or of a raise.
use Rattle.std.proofs.Common.{◌≡◌, ◌≢◌, ℕ, ◌+◌, ◌^◌, ◌<◌, true, ◌==◌, List, [], ◌∷◌, ◌++◌, length, take, drop, Result, Err, refl, sym, ap, subst, ◌∙◌, arith}
use Rattle.std.specs.FinMap.{empty}
use Rattle.std.proofs.lemmas.Bool.{eq-eqb, ne_eqb}
use Rattle.std.proofs.lemmas.List.{append-nil}
use Rattle.std.proofs.lemmas.List.Elements.{All-nil}
use Rattle.sha2.specs.Hashers.{Holds256}
use Rattle.aea_lattice.specs.declared.shape.Shape.{Shape}
use Rattle.aea_lattice.specs.Growth.{IsFenced}
use Rattle.aea_records.specs.Tables.{Spells}
use Rattle.aea_records.specs.Format.{Record, Fence, Raise, nodes_of, fences_of, digests_of, spelled}
use Rattle.aea_records.specs.Known.{known_of}
use Rattle.aea_records.specs.Fields.{tail_fields}
use Rattle.aea_records.specs.Grammar.{AreRecords}
use Rattle.aea_records.specs.Faults.{bad_of, IsBadAt}
use Rattle.aea_records.specs.Laws.{TailsAreJudged, TailsAreSpelled}
use Rattle.aea_records.specs.Reads.{found_at, head_end}
use Rattle.aea_records.specs.declared.heads.HeadFields.TheVariants.{Fenced, Raised}
use Rattle.aea_records.specs.declared.heads.Found.{Found}
use Rattle.aea_ledger.specs.Recorded.{IsLatticeOf}
use Rattle.aea_ledger.specs.Readings.{HasPassed, IsReading, IsAtHead}
use Rattle.aea_ledger.specs.declared.input.Input.{Input}
use Rattle.aea_ledger.specs.declared.reader.Reader.{Reader}
use Rattle.aea_records.proofs.OneMore.{MayFollow-push, fences_of-push, nodes_of-push, digests_of-push, raised_stays, raised_now, objects-push}
use Rattle.aea_ledger.proofs.Steps.{Goes, goes_on, bad_tail, unless}

abbrev pub fence_found : ℕ → ℕ → Found
fence_found bytes node = record { bytes = bytes; fields = Fenced node }

abbrev pub raise_found : ℕ → Found
raise_found bytes = record { bytes = bytes; fields = Raised }

short_goes : (reveals : Type 0) (file : List ℕ) (old : Reader) (found : Found) (new : Input) (r : Record) → TailsAreSpelled → (at : IsAtHead reveals file old found)
    → HasPassed reveals file old.input new (take (head_end found.fields) old.input.cursor.bytes) → Spells (tail_fields old.shape (known_of at.records) (found_at (take 315 old.input.cursor.bytes) found)) [] r
    → Goes reveals file old new at.records r
short_goes reveals file old found new r law at passed spells =
    goes_on reveals file old found new [] r law at (subst (HasPassed reveals file old.input new) (sym (append-nil (take (head_end found.fields) old.input.cursor.bytes))) passed) (All-nil (λ b. b < 2 ^ 8)) spells

-- a reader that went on over a fence with 4 as its number of bytes, and set it, has read records, those of the
-- file where its contents are known, and is further on
pub fence_read : (reveals : Type 0) (file : List ℕ) (old new : Reader) (bytes node : ℕ) → TailsAreSpelled → (at : IsAtHead reveals file old (fence_found bytes node)) → HasPassed reveals file old.input new.input (take 10 old.input.cursor.bytes)
    → bytes ≡ 4 → new.shape ≡ old.shape → IsFenced old.lattice new.lattice → new.catalog.objects ≡ old.catalog.objects → new.raised ≡ old.raised → new.digests.items ≡ old.digests.items → IsReading reveals file new × (old.input.cursor.place < new.input.cursor.place)
fence_read reveals file old new bytes node law at passed four shape lattice objects raised items =
    let records : List Record = at.records in
    let goes : Goes reveals file old new.input at.records (Fence node) = short_goes reveals file old (fence_found bytes node) new.input (Fence node) law at passed (eq-eqb bytes 4 four, (refl, refl)) in
    let nodes : nodes_of (at.records ++ Fence node ∷ []) ≡ nodes_of at.records = nodes_of-push at.records (Fence node) ∙ (let z : nodes_of at.records + 0 ≡ nodes_of at.records = omega arith in z) in
    let is : IsLatticeOf old.shape (nodes_of (at.records ++ Fence node ∷ [])) (fences_of (at.records ++ Fence node ∷ [])) new.lattice = record {
      alpha = lattice.shape.alpha ∙ at.read.lattice.alpha;
      s = lattice.shape.s ∙ at.read.lattice.s;
      p = lattice.shape.p ∙ at.read.lattice.p;
      n = lattice.nodes ∙ at.read.lattice.n ∙ sym nodes;
      fences_are = lattice.fences ∙ (λ i. at.read.lattice.fences_are i ++ (at.read.lattice.n ∙ sym goes.next.last) i ∷ []) ∙ sym (fences_of-push at.records (Fence node));
    } in (
      record {
        records = at.records ++ Fence node ∷ [];
        read = record {
          valid = subst (λ (s : Shape). AreRecords s (at.records ++ Fence node ∷ [])) (sym shape) (MayFollow-push old.shape [] at.records (Fence node) at.read.valid goes.next);
          lattice = subst (λ (s : Shape). IsLatticeOf s (nodes_of (at.records ++ Fence node ∷ [])) (fences_of (at.records ++ Fence node ∷ [])) new.lattice) (sym shape) is;
          objects = objects ∙ at.read.objects ∙ sym (objects-push empty at.records (Fence node));
          raised = raised ∙ at.read.raised ∙ sym (raised_stays at.records (Fence node) refl);
          digests = items ∙ at.read.digests ∙ sym (digests_of-push at.records (Fence node) ∙ append-nil (digests_of at.records));
          holds = subst (λ (s : Shape). Holds256 new.input.hasher (spelled s (at.records ++ Fence node ∷ []))) (sym shape) goes.holds;
          place = goes.place ∙ ap (λ (s : Shape). length (spelled s (at.records ++ Fence node ∷ []))) (sym shape);
        };
        revealed = λ reveal. record {
          long = (at.revealed reveal).long;
          spelling = goes.spelling reveal ∙ ap (λ (s : Shape). spelled s (at.records ++ Fence node ∷ []) ++ drop new.input.cursor.place file) (sym shape);
          ahead = goes.ahead reveal;
        };
      },
      goes.on,
    )

-- a reader that went on over a raise with 4 as its number of bytes, and took it, has read records, those of the
-- file where its contents are known, and is further on
pub raise_read : (reveals : Type 0) (file : List ℕ) (old new : Reader) (bytes : ℕ) → TailsAreSpelled → (at : IsAtHead reveals file old (raise_found bytes)) → HasPassed reveals file old.input new.input (take 10 old.input.cursor.bytes)
    → bytes ≡ 4 → new.shape ≡ old.shape → new.lattice ≡ old.lattice → new.catalog.objects ≡ old.catalog.objects → new.raised ≡ true → new.digests.items ≡ old.digests.items → IsReading reveals file new × (old.input.cursor.place < new.input.cursor.place)
raise_read reveals file old new bytes law at passed four shape lattice objects raised items =
    let goes : Goes reveals file old new.input at.records Raise = short_goes reveals file old (raise_found bytes) new.input Raise law at passed (eq-eqb bytes 4 four, (refl, refl)) in
    let nodes : nodes_of (at.records ++ Raise ∷ []) ≡ nodes_of at.records = nodes_of-push at.records Raise ∙ (let z : nodes_of at.records + 0 ≡ nodes_of at.records = omega arith in z) in
    let fences : fences_of (at.records ++ Raise ∷ []) ≡ fences_of at.records = fences_of-push at.records Raise ∙ append-nil (fences_of at.records) in
    let was : IsLatticeOf old.shape (nodes_of at.records) (fences_of at.records) new.lattice = subst (IsLatticeOf old.shape (nodes_of at.records) (fences_of at.records)) (sym lattice) at.read.lattice in
    let is : IsLatticeOf old.shape (nodes_of (at.records ++ Raise ∷ [])) (fences_of (at.records ++ Raise ∷ [])) new.lattice = record {
      alpha = was.alpha;
      s = was.s;
      p = was.p;
      n = was.n ∙ sym nodes;
      fences_are = was.fences_are ∙ sym fences;
    } in (
      record {
        records = at.records ++ Raise ∷ [];
        read = record {
          valid = subst (λ (s : Shape). AreRecords s (at.records ++ Raise ∷ [])) (sym shape) (MayFollow-push old.shape [] at.records Raise at.read.valid goes.next);
          lattice = subst (λ (s : Shape). IsLatticeOf s (nodes_of (at.records ++ Raise ∷ [])) (fences_of (at.records ++ Raise ∷ [])) new.lattice) (sym shape) is;
          objects = objects ∙ at.read.objects ∙ sym (objects-push empty at.records Raise);
          raised = raised ∙ sym (raised_now at.records Raise refl);
          digests = items ∙ at.read.digests ∙ sym (digests_of-push at.records Raise ∙ append-nil (digests_of at.records));
          holds = subst (λ (s : Shape). Holds256 new.input.hasher (spelled s (at.records ++ Raise ∷ []))) (sym shape) goes.holds;
          place = goes.place ∙ ap (λ (s : Shape). length (spelled s (at.records ++ Raise ∷ []))) (sym shape);
        };
        revealed = λ reveal. record {
          long = (at.revealed reveal).long;
          spelling = goes.spelling reveal ∙ ap (λ (s : Shape). spelled s (at.records ++ Raise ∷ []) ++ drop new.input.cursor.place file) (sym shape);
          ahead = goes.ahead reveal;
        };
      },
      goes.on,
    )

-- the number of bytes of a fence or a raise is another
pub fence_wrong : (reveals : Type 0) (file : List ℕ) (old : Reader) (bytes node place : ℕ) → TailsAreJudged → IsAtHead reveals file old (fence_found bytes node) → reveals → bytes ≢ 4 → place ≡ old.input.cursor.place + 2 → IsBadAt file place
fence_wrong reveals file old bytes node place law at reveal wrong is =
    bad_tail reveals file old (fence_found bytes node) 2 place law at reveal (ap (λ (x : Result (Record × ℕ) ℕ). bad_of x) (unless (bytes == 4) _ (Err 2) (ne_eqb bytes 4 wrong))) is

-- where the file's contents are known, and the number of bytes of a raise is not 4, the file is bad at this number
pub raise_wrong : (reveals : Type 0) (file : List ℕ) (old : Reader) (bytes place : ℕ) → TailsAreJudged → IsAtHead reveals file old (raise_found bytes) → reveals → bytes ≢ 4 → place ≡ old.input.cursor.place + 2 → IsBadAt file place
raise_wrong reveals file old bytes place law at reveal wrong is =
    bad_tail reveals file old (raise_found bytes) 2 place law at reveal (ap (λ (x : Result (Record × ℕ) ℕ). bad_of x) (unless (bytes == 4) _ (Err 2) (ne_eqb bytes 4 wrong))) is
