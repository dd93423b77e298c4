-- Records of closes, and of closes after them: their payloads by one function, the lattice that they lead to, and how many they are.
use Rattle.std.proofs.Common.{◌≡◌, ℕ, suc, ◌+◌, ◌<◌, ◌≤◌, List, [], ◌∷◌, ◌++◌, length, take, refl, sym, ◌∙◌, ap, subst, arith, append_assoc, length-append}
use Rattle.std.specs.List.{sum_by}
use Rattle.std.proofs.lemmas.List.{append-nil}
use Rattle.aea_lattice.specs.declared.blocks.BlockId.{BlockId}
use Rattle.aea_lattice.specs.declared.grid.Lattice.{Lattice}
use Rattle.aea_lattice.specs.declared.shape.Shape.{Shape}
use Rattle.aea_envelope.specs.Cells.{block_digest}
use Rattle.aea_records.specs.Format.{Stored, Record, Joined, nodes_of, fences_of}
use Rattle.aea_records.proofs.OneMore.{nodes_of-push, fences_of-push}
use Rattle.aea_ledger.specs.Recorded.{IsLatticeOf}
use Rattle.aea_ledger.specs.Stops.{HasLedger}
use Rattle.aea_archive.specs.Stretches.{HasAtLeast}
use Rattle.aea_machine.specs.Closings.{Closing, IsNextClosed, AreClosedRecords}
use Rattle.aea_machine.specs.Machine.{runs_of}
use Rattle.aea_command_store.proofs.Agreeing.{take_behind}

-- ---- files with some of the records

-- a file that has all of the first and some of the second has at least the first
pub at_first : (shape : Shape) (records xs ys : List Record) (bytes : List ℕ) → HasAtLeast shape (records ++ xs) ys 0 bytes → HasAtLeast shape records (xs ++ ys) (length xs) bytes
at_first shape records xs ys bytes has = record {
  count = length xs + has.count;
  enough = omega arith;
  within = (let w = has.within in omega (arith, w, length-append xs ys));
  ledger = subst (λ (rs : List Record). HasLedger shape rs bytes)
      (append_assoc records xs (take has.count ys) ∙ ap (λ (rs : List Record). records ++ rs) (sym (take_behind xs ys has.count))) has.ledger;
}

-- ---- records of closes

-- the payloads agree on the blocks of these nodes
abbrev pub Agree : ℕ → ℕ → (BlockId → List ℕ) → (BlockId → List ℕ) → Type 0
Agree before last p q = (b : BlockId) → before < b.node → b.node ≤ last → q b ≡ p b

-- there are no fewer nodes after them
pub closed_more : (shape : Shape) (l m : Lattice) (payload : BlockId → List ℕ) (closings : List Closing) (records : List Record) → AreClosedRecords shape l m payload closings records → l.n ≤ m.n
closed_more shape l m payload [] [] same = let n = ap (λ (k : Lattice). k.n) same in omega (arith, n)
closed_more shape l m payload [] (r ∷ records) none = absurd none
closed_more shape l m payload (c ∷ closings) [] none = absurd none
closed_more shape l m payload (c ∷ closings) (r ∷ records) next =
    let nodes = next.3.grown.nodes in
    let rest = closed_more shape next.0 m payload closings records next.4 in
    omega (arith, nodes, rest)

-- the record of a close by one payload is its record by another which agrees
one_same : (shape : Shape) (l m : Lattice) (p q : BlockId → List ℕ) (c : Closing) (o : Stored) → Agree l.n m.n p q → IsNextClosed shape l m p c o → IsNextClosed shape l m q c o
one_same shape l m p q c o agree next = record {
  name_is = next.name_is;
  size = next.size;
  digest = next.digest;
  first = next.first;
  count = next.count;
  grown = next.grown;
  digests = record {
    long = next.digests.long;
    each = λ b on. next.digests.each b on ∙ ap (block_digest b) (sym (agree b on.after on.most));
  };
}

-- the records of closes by one payload are theirs by another which agrees
pub closed_same : (shape : Shape) (l m : Lattice) (p q : BlockId → List ℕ) (closings : List Closing) (records : List Record) → Agree l.n m.n p q → AreClosedRecords shape l m p closings records → AreClosedRecords shape l m q closings records
closed_same shape l m p q [] [] agree same = same
closed_same shape l m p q [] (r ∷ records) agree none = absurd none
closed_same shape l m p q (c ∷ closings) [] agree none = absurd none
closed_same shape l m p q (c ∷ closings) (r ∷ records) agree next =
    let mid : Lattice = next.0 in
    let nodes = next.3.grown.nodes in
    let more = closed_more shape mid m p closings records next.4 in
    let now : Agree l.n mid.n p q = λ b after most. agree b after (omega (arith, most, more)) in
    let later : Agree mid.n m.n p q = λ b after most. agree b (omega (arith, after, nodes)) most in
    (mid, next.1, next.2, one_same shape l mid p q c next.1 now next.3, closed_same shape mid m p q closings records later next.4)

-- the longer lattice is that of the records with the added ones
pub closed_lattice : (shape : Shape) (records : List Record) (l m : Lattice) (payload : BlockId → List ℕ) (closings : List Closing) (added : List Record) → IsLatticeOf shape (nodes_of records) (fences_of records) l
    → AreClosedRecords shape l m payload closings added → IsLatticeOf shape (nodes_of (records ++ added)) (fences_of (records ++ added)) m
closed_lattice shape records l m payload [] [] is same =
    subst (λ (rs : List Record). IsLatticeOf shape (nodes_of rs) (fences_of rs) m) (sym (append-nil records)) (subst (λ (j : Lattice). IsLatticeOf shape (nodes_of records) (fences_of records) j) same is)
closed_lattice shape records l m payload [] (r ∷ added) is none = absurd none
closed_lattice shape records l m payload (c ∷ closings) [] is none = absurd none
closed_lattice shape records l m payload (c ∷ closings) (r ∷ added) is next =
    let mid : Lattice = next.0 in
    let stored : Stored = next.1 in
    let it : Record = Joined stored (runs_of c.nodes) in
    let g = next.3.grown in
    let nodes = g.nodes in
    let sum : sum_by (λ (q : Stored). q.count) (stored ∷ []) ≡ stored.count = omega arith in
    let then : IsLatticeOf shape (nodes_of (records ++ it ∷ [])) (fences_of (records ++ it ∷ [])) mid = record {
      alpha = g.shape.alpha ∙ is.alpha;
      s = g.shape.s ∙ is.s;
      p = g.shape.p ∙ is.p;
      n = nodes ∙ (let i = is.n in omega (arith, i, nodes_of-push records it, sum));
      fences_are = g.fences ∙ is.fences_are ∙ sym (fences_of-push records it ∙ append-nil (fences_of records));
    } in
    let after : IsLatticeOf shape (nodes_of (records ++ r ∷ [])) (fences_of (records ++ r ∷ [])) mid =
    subst (λ (q : Record). IsLatticeOf shape (nodes_of (records ++ q ∷ [])) (fences_of (records ++ q ∷ [])) mid) (sym next.2) then in
    subst (λ (rs : List Record). IsLatticeOf shape (nodes_of rs) (fences_of rs) m) (append_assoc records (r ∷ []) added)
    (closed_lattice shape (records ++ r ∷ []) mid m payload closings added after next.4)

-- there are as many as closes
pub closed_many : (shape : Shape) (l m : Lattice) (payload : BlockId → List ℕ) (closings : List Closing) (records : List Record) → AreClosedRecords shape l m payload closings records → length records ≡ length closings
closed_many shape l m payload [] [] same = refl
closed_many shape l m payload [] (r ∷ records) none = absurd none
closed_many shape l m payload (c ∷ closings) [] none = absurd none
closed_many shape l m payload (c ∷ closings) (r ∷ records) next = ap suc (closed_many shape next.0 m payload closings records next.4)
