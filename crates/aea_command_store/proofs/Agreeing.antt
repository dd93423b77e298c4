-- Payloads that agree on what an archive has, and what the records of objects leave of its limit and its lattice.
use Rattle.std.proofs.Common.{◌≡◌, ◌≢◌, ⊎_elim, ℕ, zero, suc, ◌+◌, ◌-◌, ◌<◌, ◌≤◌, false, List, [], ◌∷◌, ◌++◌, length, take, Option, Some, None, refl, sym, ◌∙◌, ap, subst, arith, append_assoc}
use Rattle.std.specs.List.{flat_map, sum_by}
use Rattle.std.proofs.lemmas.Bool.{cases_lt}
use Rattle.std.proofs.lemmas.List.{append-nil}
use Rattle.std.proofs.lemmas.List.Concat.{flat_map-append}
use Rattle.aea_lattice.specs.declared.blocks.Class.{Class}
use Rattle.aea_lattice.specs.declared.blocks.Class.TheVariants.{Datum}
use Rattle.aea_lattice.specs.declared.blocks.BlockId.{BlockId}
use Rattle.aea_lattice.specs.declared.grid.Lattice.{Lattice}
use Rattle.aea_lattice.specs.declared.shape.Shape.{Shape}
use Rattle.aea_lattice.specs.Blocks.{block_of, HasParity}
use Rattle.aea_lattice.specs.Strands.{strand_of, previous}
use Rattle.aea_lattice.specs.Ends.{last_open}
use Rattle.aea_lattice.specs.Data.{xor_bytes}
use Rattle.aea_lattice.specs.Growth.{IsGrown}
use Rattle.aea_lattice.proofs.Opens.{strand-same}
use Rattle.aea_lattice.proofs.Prefixes.{previous-before}
use Rattle.aea_envelope.specs.Cells.{block_digest, cell_of}
use Rattle.aea_disk.specs.State.{State, SomeGivesEvery}
use Rattle.aea_shelf.specs.Places.{HasAtHome}
use Rattle.aea_records.specs.Format.{Stored, Record, Object, stored_in, stored_of, nodes_for, nodes_of, fences_of, digests_of, limit_of, limit_when, is_raise}
use Rattle.aea_records.specs.Grammar.{MayFollow}
use Rattle.aea_ledger.specs.Recorded.{IsLatticeOf}
use Rattle.aea_records.proofs.OneMore.{nodes_of-push, fences_of-push, raised_stays, nodes_of-append}
use Rattle.aea_archive.specs.Blocks.{IsBlockOn}
use Rattle.aea_archive.specs.Lasts.{IsLastParity}
use Rattle.aea_archive.specs.Stretches.{HasAtLeast, Adds}
use Rattle.aea_archive.specs.Next.{NewObject, woven_parity, IsNextStored, AreNextRecords}
use Rattle.aea_archive.proofs.Pieces.{cut-length}
use Rattle.aea_archive.proofs.Values.{last_inside, last-grown, last-before}

-- ---- payloads that agree

-- the one where the number is none, the other where it is some
abbrev pick : {A : Type 0} → ℕ → A → A → A
pick zero some none = none
pick (suc k) some none = some

pick_some : {A : Type 0} (k : ℕ) (some none : A) → 1 ≤ k → pick k some none ≡ some
pick_some zero some none is = absurd (omega (arith, is))
pick_some (suc k) some none is = refl

pick_none : {A : Type 0} (k : ℕ) (some none : A) → k ≡ 0 → pick k some none ≡ none
pick_none zero some none is = refl
pick_none (suc k) some none is = absurd (omega (arith, is))

-- up to a node the one payload, after it the other
abbrev pub joined : ℕ → (BlockId → List ℕ) → (BlockId → List ℕ) → BlockId → List ℕ
joined n p q b = pick (suc n - b.node) (p b) (q b)

-- so at its blocks they are the one
pub joined_low : (n : ℕ) (p q : BlockId → List ℕ) (b : BlockId) → b.node ≤ n → joined n p q b ≡ p b
joined_low n p q b low = pick_some (suc n - b.node) (p b) (q b) (let e : 1 ≤ suc n - b.node = omega (arith, low) in e)

-- and after it the other
pub joined_high : (n : ℕ) (p q : BlockId → List ℕ) (b : BlockId) → n < b.node → joined n p q b ≡ q b
joined_high n p q b high = pick_none (suc n - b.node) (p b) (q b) (let e : suc n - b.node ≡ 0 = omega (arith, high) in e)

-- the payloads agree on the blocks of these nodes
abbrev Agree : ℕ → ℕ → (BlockId → List ℕ) → (BlockId → List ℕ) → Type 0
Agree before last p q = (b : BlockId) → before < b.node → b.node ≤ last → q b ≡ p b

-- and on the last parities
abbrev AgreeOnLasts : Lattice → (BlockId → List ℕ) → (BlockId → List ℕ) → Type 0
AgreeOnLasts l p q = (b : BlockId) → IsLastParity l b → q b ≡ p b

-- a lattice that has grown, and its last parities
module _ (l m : Lattice) (n : ℕ) (grown : IsGrown l n m) (more : l.n ≤ m.n) where
  -- an older last parity was one before
  pub last_was : (b : BlockId) → IsLastParity m b → b.node ≤ l.n → IsLastParity l b
  last_was b last old =
      let u = last.parity.used in
      let same = grown.shape.alpha in
      let strand : strand_of m b.class b.node ≡ strand_of l b.class b.node = strand-same l m grown.shape b.class b.node in record {
        parity = record { parity = last.parity.parity; used = omega (arith, u, same) };
        last = last-grown l m n grown b.class (strand_of l b.class b.node) b.node more old (subst (λ (s : ℕ). last_open m b.class s ≡ Some b.node) strand last.last);
      }

  -- the older parity that enters a new node is a last parity
  pub enters_last : (c : Class) (i g : ℕ) → HasParity m c → l.n < i → g ≤ l.n → previous m c i ≡ Some g → IsLastParity l (block_of g c)
  enters_last c i g has new old is =
      let u = has.used in
      let same = grown.shape.alpha in record {
        parity = record { parity = has.parity; used = omega (arith, u, same) };
        last = last-before l m n grown c i g new old is;
      }

-- the next record by one payload is that by another which agrees
next_same : (shape : Shape) (l m : Lattice) (p q : BlockId → List ℕ) (name bytes : List ℕ) (o : Stored) → Agree l.n m.n p q → AgreeOnLasts l p q → IsNextStored shape l m p name bytes o → IsNextStored shape l m q name bytes o
next_same shape l m p q name bytes o agree lasts next =
    let g = next.grown in
    let nodes = g.nodes in
    let count = next.count in
    record {
      name_is = next.name_is;
      size = next.size;
      digest = next.digest;
      first = next.first;
      count = next.count;
      grown = next.grown;
      blocks = λ k inside.
          let long = cut-length shape.block (nodes_for shape (length bytes)) bytes in
          agree (block_of (l.n + 1 + k) Datum) (omega arith) (omega (arith, inside, long, nodes, count)) ∙ next.blocks k inside;
      woven = λ i c after most has.
          agree (block_of i c) after most ∙ next.woven i c after most has ∙ woven_same i c after most has (previous m c i) refl;
      digests = record {
        long = next.digests.long;
        each = λ b on. next.digests.each b on ∙ ap (block_digest b) (sym (agree b on.after on.most));
      };
    }
  where
    woven_same : (i : ℕ) (c : Class) → l.n < i → i ≤ m.n → HasParity m c → (o : Option ℕ) → previous m c i ≡ o → woven_parity p c i o ≡ woven_parity q c i o
    woven_same i c after most has None is = sym (agree (block_of i Datum) after most)
    woven_same i c after most has (Some g) is =
        let before = previous-before m c i g is in
        let enters : q (block_of g c) ≡ p (block_of g c) = ⊎_elim
        (λ new. agree (block_of g c) new (omega (arith, before, most)))
        (λ old. lasts (block_of g c) (enters_last l m (l.n + o.count) next.grown (let n = next.grown.nodes in omega (arith, n)) c i g has after old is))
        (cases_lt l.n g) in
        sym (ap (λ (x : List ℕ). xor_bytes x (q (block_of i Datum))) enters ∙ ap (λ (x : List ℕ). xor_bytes (p (block_of g c)) x) (agree (block_of i Datum) after most))

-- the lattice that the objects lead to has grown
pub grown_all : (shape : Shape) (l m : Lattice) (payload : BlockId → List ℕ) (objects : List NewObject) (records : List Record) → AreNextRecords shape l m payload objects records → IsGrown l m.n m × (l.n ≤ m.n)
grown_all shape l m payload [] [] same = (
  record { shape = record { alpha = ap (λ (k : Lattice). k.alpha) (sym same); s = ap (λ (k : Lattice). k.s) (sym same); p = ap (λ (k : Lattice). k.p) (sym same) }; nodes = refl; fences = ap (λ (k : Lattice). k.fences) (sym same) },
  let n : l.n ≡ m.n = ap (λ (k : Lattice). k.n) same in omega (arith, n),
)
grown_all shape l m payload [] (r ∷ records) none = absurd none
grown_all shape l m payload (o ∷ objects) [] none = absurd none
grown_all shape l m payload (o ∷ objects) (r ∷ records) next =
    let one = next.3 in
    let rest = grown_all shape next.0 m payload objects records next.4 in
    let g = one.grown in
    let a = rest.0 in
    let nodes = g.nodes in
    let more = rest.1 in (
      record { shape = record { alpha = a.shape.alpha ∙ g.shape.alpha; s = a.shape.s ∙ g.shape.s; p = a.shape.p ∙ g.shape.p }; nodes = refl; fences = a.fences ∙ g.fences },
      omega (arith, nodes, more),
    )

-- the next records by one payload are those by another which agrees
pub nexts_same : (shape : Shape) (l m : Lattice) (p q : BlockId → List ℕ) (objects : List NewObject) (records : List Record) → Agree l.n m.n p q → AgreeOnLasts l p q → AreNextRecords shape l m p objects records → AreNextRecords shape l m q objects records
nexts_same shape l m p q [] [] agree lasts same = same
nexts_same shape l m p q [] (r ∷ records) agree lasts none = absurd none
nexts_same shape l m p q (o ∷ objects) [] agree lasts none = absurd none
nexts_same shape l m p q (o ∷ objects) (r ∷ records) agree lasts next =
    let mid = next.0 in
    let g = next.3.grown in
    let nodes = g.nodes in
    let rest = grown_all shape mid m p objects records next.4 in
    let more = rest.1 in
    let now : Agree l.n mid.n p q = λ b after most. agree b after (omega (arith, most, more)) in
    let later : Agree mid.n m.n p q = λ b after most. agree b (omega (arith, after, nodes)) most in
    let ends : AgreeOnLasts mid p q = λ b last. ⊎_elim
    (λ new. let inside = last_inside mid b last in let z = inside.last in now b new z)
    (λ old. lasts b (last_was l mid (l.n + next.1.count) g (omega (arith, nodes)) b last old))
    (cases_lt l.n b.node) in
    (mid, next.1, next.2, next_same shape l mid p q o.name o.bytes next.1 now lasts next.3, nexts_same shape mid m p q objects records later ends next.4)

-- the next records of objects, and of others after them
pub nexts_both : (shape : Shape) (l m k : Lattice) (payload : BlockId → List ℕ) (xs ys : List NewObject) (rs ss : List Record) → AreNextRecords shape l m payload xs rs → AreNextRecords shape m k payload ys ss → AreNextRecords shape l k payload (xs ++ ys) (rs ++ ss)
nexts_both shape l m k payload [] ys [] ss same second = subst (λ (j : Lattice). AreNextRecords shape j k payload ys ss) (sym same) second
nexts_both shape l m k payload [] ys (r ∷ rs) ss none second = absurd none
nexts_both shape l m k payload (o ∷ xs) ys [] ss none second = absurd none
nexts_both shape l m k payload (o ∷ xs) ys (r ∷ rs) ss first second = (first.0, first.1, first.2, first.3, nexts_both shape first.0 m k payload xs ys rs ss first.4 second)

-- ---- what the records of objects leave of the limit and of the lattice

-- the longer lattice is that of the records with the added ones
pub grown_lattice : (shape : Shape) (records : List Record) (l m : Lattice) (payload : BlockId → List ℕ) (objects : List NewObject) (added : List Record) → IsLatticeOf shape (nodes_of records) (fences_of records) l → AreNextRecords shape l m payload objects added
    → IsLatticeOf shape (nodes_of (records ++ added)) (fences_of (records ++ added)) m
grown_lattice shape records l m payload [] [] is same =
    subst (λ (rs : List Record). IsLatticeOf shape (nodes_of rs) (fences_of rs) m) (sym (append-nil records)) (subst (λ (j : Lattice). IsLatticeOf shape (nodes_of records) (fences_of records) j) same is)
grown_lattice shape records l m payload [] (r ∷ added) is none = absurd none
grown_lattice shape records l m payload (o ∷ objects) [] is none = absurd none
grown_lattice shape records l m payload (o ∷ objects) (r ∷ added) is next =
    let mid = next.0 in
    let stored = next.1 in
    let g = next.3.grown in
    let nodes = g.nodes in
    let sum : sum_by (λ (q : Stored). q.count) (stored ∷ []) ≡ stored.count = omega arith in
    let then : IsLatticeOf shape (nodes_of (records ++ Object stored ∷ [])) (fences_of (records ++ Object stored ∷ [])) mid = record {
      alpha = g.shape.alpha ∙ is.alpha;
      s = g.shape.s ∙ is.s;
      p = g.shape.p ∙ is.p;
      n = nodes ∙ (let i = is.n in omega (arith, i, nodes_of-push records (Object stored), sum));
      fences_are = g.fences ∙ is.fences_are ∙ sym (fences_of-push records (Object stored) ∙ append-nil (fences_of records));
    } in
    let after : IsLatticeOf shape (nodes_of (records ++ r ∷ [])) (fences_of (records ++ r ∷ [])) mid =
    subst (λ (q : Record). IsLatticeOf shape (nodes_of (records ++ q ∷ [])) (fences_of (records ++ q ∷ [])) mid) (sym next.2) then in
    subst (λ (rs : List Record). IsLatticeOf shape (nodes_of rs) (fences_of rs) m) (append_assoc records (r ∷ []) added)
    (grown_lattice shape (records ++ r ∷ []) mid m payload objects added after next.4)

-- the limit is the same
pub same_limit : (shape : Shape) (records : List Record) (l m : Lattice) (payload : BlockId → List ℕ) (objects : List NewObject) (added : List Record) → AreNextRecords shape l m payload objects added → limit_of (records ++ added) ≡ limit_of records
same_limit shape records l m payload [] [] same = ap limit_of (append-nil records)
same_limit shape records l m payload [] (r ∷ added) none = absurd none
same_limit shape records l m payload (o ∷ objects) [] none = absurd none
same_limit shape records l m payload (o ∷ objects) (r ∷ added) next =
    let raise : is_raise r ≡ false = ap is_raise next.2 in
    sym (ap limit_of (append_assoc records (r ∷ []) added)) ∙ same_limit shape (records ++ r ∷ []) next.0 m payload objects added next.4 ∙ ap limit_when (raised_stays records r raise)

-- ---- two stretches, one after the other

-- records that come after others may follow these
pub follow_behind : (shape : Shape) (earlier records added : List Record) → MayFollow shape earlier (records ++ added) → MayFollow shape (earlier ++ records) added
follow_behind shape earlier [] added follow = subst (λ (l : List Record). MayFollow shape l added) (sym (append-nil earlier)) follow
follow_behind shape earlier (r ∷ records) added follow =
    subst (λ (l : List Record). MayFollow shape l added) (append_assoc earlier (r ∷ []) records) (follow_behind shape (earlier ++ r ∷ []) records added follow.1)

-- fewer records have no more nodes
pub nodes_take : (records xs : List Record) (k : ℕ) → nodes_of (records ++ take k xs) ≤ nodes_of (records ++ xs)
nodes_take records xs zero = omega (arith, nodes_of-append records (take 0 xs), nodes_of-append records xs)
nodes_take records [] (suc k) = omega arith
nodes_take records (x ∷ xs) (suc k) =
    let rest = nodes_take (records ++ x ∷ []) xs k in
    let one = ap nodes_of (append_assoc records (x ∷ []) (take k xs)) in
    let two = ap nodes_of (append_assoc records (x ∷ []) xs) in
    omega (arith, rest, one, two)

-- the first of two lists of records, and some of the second
pub take_behind : (xs ys : List Record) (k : ℕ) → take (length xs + k) (xs ++ ys) ≡ xs ++ take k ys
take_behind [] ys k = let e : 0 + k ≡ k = omega arith in ap (λ (n : ℕ). take n ys) e
take_behind (x ∷ xs) ys k =
    let e : length (x ∷ xs) + k ≡ suc (length xs + k) = omega arith in
    ap (λ (n : ℕ). take n (x ∷ (xs ++ ys))) e ∙ ap (λ (l : List Record). x ∷ l) (take_behind xs ys k)

-- the digests of records and of others after them
pub digests_of-append : (records added : List Record) → digests_of (records ++ added) ≡ digests_of records ++ digests_of added
digests_of-append records added =
    ap (flat_map (λ (o : Stored). o.digests)) (flat_map-append stored_in records added) ∙ flat_map-append (λ (o : Stored). o.digests) (stored_of records) (stored_of added)

-- a stretch in which records are added, by payloads that agree on their blocks
pub adds_same : (shape : Shape) (records added : List Record) (p q : BlockId → List ℕ) (old new : State) → ((b : BlockId) → IsBlockOn shape (nodes_of records) (nodes_of (records ++ added)) b → q b ≡ p b)
    → Adds shape records added p old new → Adds shape records added q old new
adds_same shape records added p q old new same adds = record {
  prefix = adds.prefix;
  reads = adds.reads;
  stays = adds.stays;
  held = λ k b few on.
      let all : IsBlockOn shape (nodes_of records) (nodes_of (records ++ added)) b = record { after = on.after; most = (let m = on.most in omega (arith, m, nodes_take records added k)); used = on.used } in
      subst (λ (x : List ℕ). SomeGivesEvery old new (λ c. HasAtLeast shape records added k (c 0)) (HasAtHome shape b (cell_of b x))) (sym (same b all)) (adds.held k b few on);
}

-- next records by payloads that agree, if there are any
pub nexts_behind : (shape : Shape) (l m : Lattice) (p q : BlockId → List ℕ) (objects : List NewObject) (records : List Record) → Agree l.n m.n p q → (objects ≢ [] → AgreeOnLasts l p q) → AreNextRecords shape l m p objects records → AreNextRecords shape l m q objects records
nexts_behind shape l m p q [] [] agree lasts next = next
nexts_behind shape l m p q [] (r ∷ records) agree lasts none = absurd none
nexts_behind shape l m p q (o ∷ objects) records agree lasts next = nexts_same shape l m p q (o ∷ objects) records agree (lasts (λ e. let h : o ∷ objects ≡ [] = e in cc)) next
