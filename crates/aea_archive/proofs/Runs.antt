-- Objects that are put one after the other.
use Rattle.std.proofs.Common.{◌≡◌, ⊎_elim, ℕ, suc, ◌≤◌, List, [], ◌∷◌, ◌++◌, length, Some, All, refl, sym, ◌∙◌, ap, subst, arith, append_assoc}
use Rattle.std.specs.List.{flat_map}
use Rattle.std.proofs.lemmas.Bool.{cases_lt}
use Rattle.std.proofs.lemmas.List.{append-nil}
use Rattle.aea_lattice.specs.declared.blocks.BlockId.{BlockId}
use Rattle.aea_lattice.specs.declared.grid.Lattice.{Lattice}
use Rattle.aea_lattice.specs.declared.shape.Shape.{Shape}
use Rattle.aea_lattice.specs.Blocks.{HasBlock, class_number}
use Rattle.aea_lattice.specs.Strands.{strand_of}
use Rattle.aea_lattice.specs.Ends.{last_open}
use Rattle.aea_lattice.specs.Data.{value_of}
use Rattle.aea_lattice.specs.Growth.{IsGrown}
use Rattle.aea_lattice.proofs.Opens.{strand-same}
use Rattle.aea_weave.specs.Sums.{LongerDataKeepValues}
use Rattle.aea_records.specs.TableLaws.{AreBytes}
use Rattle.aea_records.specs.Format.{Record, Object, stored_in, nodes_of, fence_in, fences_of}
use Rattle.aea_records.specs.Grammar.{IsNext}
use Rattle.aea_ledger.specs.Recorded.{IsLatticeOf, AreRecordsOf}
use Rattle.aea_archive.specs.Blocks.{IsBlockOn}
use Rattle.aea_archive.specs.Lasts.{IsLastParity, AreLastsOf}
use Rattle.aea_archive.specs.Next.{object_blocks, IsNextStored, NewObject, AreNextRecords}
use Rattle.aea_archive.specs.Data.{RecordsMore}
use Rattle.aea_archive.specs.Laws.{ObjectsRecordMore, PutsRecord}
use Rattle.aea_archive.proofs.Values.{last_inside, grown-continues, last-grown}
use Rattle.aea_archive.proofs.Records.{none_record_none, lattice-more, next_records_more}

-- a last parity of a lattice that has grown is new, or was one before
pub lasts_more : LongerDataKeepValues → (shape : Shape) (l m : Lattice) (datas news : List (List ℕ)) (payload : BlockId → List ℕ) → IsGrown l m.n m → l.n ≤ m.n → l.alpha ≡ shape.alpha → length datas ≡ l.n
    → AreLastsOf shape l datas payload → ((b : BlockId) → IsBlockOn shape l.n m.n b → payload b ≡ value_of m shape.block (datas ++ news) b) → AreLastsOf shape m (datas ++ news) payload
lasts_more longer shape l m datas news payload grown more alpha long before values b last =
    let inside : HasBlock m b = last_inside m b last in
    let u = last.parity.used in
    let same = grown.shape.alpha in
    let used : class_number b.class ≤ l.alpha = omega (arith, u, same) in
    ⊎_elim
    (λ new. values b (record { after = new; most = inside.last; used = omega (arith, used, alpha) }))
    (λ old.
    let strand : strand_of m b.class b.node ≡ strand_of l b.class b.node = strand-same l m grown.shape b.class b.node in
    let ended : last_open l b.class (strand_of l b.class b.node) ≡ Some b.node = last-grown l m m.n grown b.class (strand_of l b.class b.node) b.node more old (subst (λ (s : ℕ). last_open m b.class s ≡ Some b.node) strand last.last) in
    let was : IsLastParity l b = record { parity = record { parity = last.parity.parity; used = used }; last = ended } in
    before b was
    ∙ sym (longer l m (grown-continues l m m.n grown more) shape.block datas news long b (record { first = inside.first; last = old; used = used })))
    (cases_lt l.n b.node)

-- the lattice that the objects lead to has grown
pub grown_all : (shape : Shape) (l m : Lattice) (payload : BlockId → List ℕ) (objects : List NewObject) (records : List Record) → AreNextRecords shape l m payload objects records → IsGrown l m.n m × (l.n ≤ m.n)
grown_all shape l m payload [] [] same = (
  record { shape = record { alpha = ap (λ (k : Lattice). k.alpha) (sym same); s = ap (λ (k : Lattice). k.s) (sym same); p = ap (λ (k : Lattice). k.p) (sym same) }; nodes = refl; fences = ap (λ (k : Lattice). k.fences) (sym same) },
  let n : l.n ≡ m.n = ap (λ (k : Lattice). k.n) same in omega (arith, n),
)
grown_all shape l m payload [] (r ∷ records) none = absurd none
grown_all shape l m payload (o ∷ objects) [] none = absurd none
grown_all shape l m payload (o ∷ objects) (r ∷ records) next =
    let one = next.3 in
    let rest = grown_all shape next.0 m payload objects records next.4 in
    let g = one.grown in
    let a = rest.0 in
    let nodes = g.nodes in
    let more = rest.1 in (
      record { shape = record { alpha = a.shape.alpha ∙ g.shape.alpha; s = a.shape.s ∙ g.shape.s; p = a.shape.p ∙ g.shape.p }; nodes = refl; fences = a.fences ∙ g.fences },
      omega (arith, nodes, more),
    )

All-head : (P : NewObject → Type 0) (o : NewObject) (objects : List NewObject) → All P (o ∷ objects) → P o
All-head P o objects all = all 0 o (omega arith)

All-tail : (P : NewObject → Type 0) (o : NewObject) (objects : List NewObject) → All P (o ∷ objects) → All P objects
All-tail P o objects all = λ k d inside. all (suc k) d (omega (arith, inside))

-- records of a data list, with those of objects put one after the other after these, record the list with the blocks
-- of all these objects after it, where the payloads of the last parities are those of its lattice
pub objects_record_more : LongerDataKeepValues → ObjectsRecordMore
objects_record_more longer shape records [] datas l m payload [] old is lasts bytes follow same = record {
  recorded = subst (λ (rs : List Record). AreRecordsOf shape rs (datas ++ [])) (sym (append-nil records)) (subst (λ (ds : List (List ℕ)). AreRecordsOf shape records ds) (sym (append-nil datas)) old);
  values = λ b on. absurd (let a = on.after in let z = on.most in let n : l.n ≡ m.n = ap (λ (k : Lattice). k.n) same in omega (arith, a, z, n));
}
objects_record_more longer shape records (r ∷ added) datas l m payload [] old is lasts bytes follow none = absurd none
objects_record_more longer shape records [] datas l m payload (o ∷ objects) old is lasts bytes follow none = absurd none
objects_record_more longer shape records (r ∷ added) datas l m payload (o ∷ objects) old is lasts bytes follow next =
    let mid = next.0 in
    let stored = next.1 in
    let one : IsNextStored shape l mid payload o.name o.bytes stored = next.3 in
    let may : IsNext shape records (Object stored) = subst (IsNext shape records) next.2 follow.0 in
    let blocks = object_blocks shape o.bytes in
    let others = flat_map (λ (q : NewObject). object_blocks shape q.bytes) objects in
    let first : RecordsMore shape records (Object stored ∷ []) datas blocks l mid payload =
    next_records_more longer shape records datas l mid payload o.name o.bytes stored old is lasts (All-head (λ (q : NewObject). AreBytes q.bytes) o objects bytes) may one in
    let here : AreRecordsOf shape (records ++ r ∷ []) (datas ++ blocks) = subst (λ (q : Record). AreRecordsOf shape (records ++ q ∷ []) (datas ++ blocks)) (sym next.2) first.recorded in
    let g = one.grown in
    let nodes = g.nodes in
    let whole : IsGrown l mid.n mid = record { shape = g.shape; nodes = refl; fences = g.fences } in
    let long : length datas ≡ l.n = (let d = old.is_data in let i = old.is_lattice in let a = d.long in let b = i.n in let c = is.n in omega (arith, a, b, c)) in
    let after : IsLatticeOf shape (nodes_of (records ++ r ∷ [])) (fences_of (records ++ r ∷ [])) mid =
    lattice-more shape records r stored l mid (ap stored_in next.2) (ap fence_in next.2) is g in
    let ready = lasts_more longer shape l mid datas blocks payload whole (omega (arith, nodes)) is.alpha long lasts first.values in
    let rest : RecordsMore shape (records ++ r ∷ []) added (datas ++ blocks) others mid m payload =
    objects_record_more longer shape (records ++ r ∷ []) added (datas ++ blocks) mid m payload objects here after ready (All-tail (λ (q : NewObject). AreBytes q.bytes) o objects bytes) follow.1 next.4 in
    let to_end = grown_all shape mid m payload objects added next.4 in
    let all : length (datas ++ blocks) ≡ mid.n = (let d = here.is_data in let i = here.is_lattice in let a = d.long in let b = i.n in let c = after.n in omega (arith, a, b, c)) in
    record {
      recorded = subst (λ (rs : List Record). AreRecordsOf shape rs (datas ++ (blocks ++ others))) (append_assoc records (r ∷ []) added)
          (subst (λ (ds : List (List ℕ)). AreRecordsOf shape ((records ++ r ∷ []) ++ added) ds) (append_assoc datas blocks others) rest.recorded);
      values = λ b on.
          subst (λ (ds : List (List ℕ)). payload b ≡ value_of m shape.block ds b) (append_assoc datas blocks others)
          (⊎_elim
          (λ late. rest.values b (record { after = late; most = on.most; used = on.used }))
          (λ early.
          let u = on.used in
          let ga = g.shape.alpha in
          let la = is.alpha in
          let aft = on.after in
          first.values b (record { after = on.after; most = early; used = on.used })
          ∙ sym (longer mid m (grown-continues mid m m.n to_end.0 to_end.1) shape.block (datas ++ blocks) others all b (record { first = omega (arith, aft); last = early; used = omega (arith, u, ga, la) })))
          (cases_lt mid.n b.node));
    }

-- an archive that was made, and into which objects were put, records their blocks
pub puts_record : LongerDataKeepValues → PutsRecord
puts_record longer shape records l m payload objects is bytes valid next =
    (objects_record_more longer shape [] records [] l m payload objects (none_record_none shape) is
    (λ b last. absurd (let inside = last_inside l b last in let a = inside.first in let z = inside.last in let n = is.n in omega (arith, a, z, n))) bytes valid next).recorded
