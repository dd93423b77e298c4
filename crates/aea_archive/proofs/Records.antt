-- What records record: no data where there are none, and with the next one the data before and the blocks woven after them.
use Rattle.std.proofs.Common.{◌≡◌, ℕ, ◌+◌, ◌≤◌, List, [], ◌∷◌, ◌++◌, length, map, refl, sym, ◌∙◌, ap, subst, arith, length-append}
use Rattle.std.specs.Prelude.{◌&&◌, nat_le}
use Rattle.std.specs.List.{flat_map, sum_by}
use Rattle.std.proofs.lemmas.Bool.{and_parts, leb-true}
use Rattle.std.proofs.lemmas.List.{append-nil}
use Rattle.std.proofs.lemmas.List.Elements.{All-append, All-cons}
use Rattle.aea_lattice.specs.declared.blocks.BlockId.{BlockId}
use Rattle.aea_lattice.specs.declared.grid.Lattice.{Lattice}
use Rattle.aea_lattice.specs.declared.shape.Shape.{Shape}
use Rattle.aea_lattice.specs.Blocks.{blocks_of}
use Rattle.aea_lattice.specs.Data.{IsBytes, IsDataList, value_of}
use Rattle.aea_lattice.specs.Growth.{IsGrown}
use Rattle.aea_lattice.specs.Profile.{is_profile}
use Rattle.aea_lattice.proofs.OneLattice.{lattice_equal}
use Rattle.aea_envelope.specs.Cells.{block_digest}
use Rattle.aea_weave.specs.Sums.{LongerDataKeepValues}
use Rattle.aea_records.specs.Format.{Stored, Record, Object, Joined, nodes_for, stored_in, nodes_of, fence_in, fences_of, digests_of}
use Rattle.aea_records.specs.Recorded.{HoldsRecord}
use Rattle.aea_records.specs.Grammar.{IsNext}
use Rattle.aea_ledger.specs.Recorded.{IsLatticeOf, AreRecordsOf}
use Rattle.aea_records.proofs.OneMore.{MayFollow-push, nodes_of-push, fences_of-push, digests_of-push}
use Rattle.aea_archive.specs.Blocks.{IsBlockOn}
use Rattle.aea_archive.specs.Next.{object_blocks, IsNextWoven}
use Rattle.aea_archive.specs.Laws.{NoneRecordNone, NextRecordsMore, PartsRecordMore}
use Rattle.aea_archive.proofs.Pieces.{cut-length, cut-bytes}
use Rattle.aea_archive.proofs.Values.{value-new}
use Rattle.aea_archive.proofs.Digests.{digests-joined}
use Rattle.aea_archive.proofs.Objects.{records-more, held-in, next-held}

-- there is one lattice of a shape with so many nodes and these fences
pub one_lattice : (shape : Shape) (nodes : ℕ) (fences : List ℕ) (a b : Lattice) → IsLatticeOf shape nodes fences a → IsLatticeOf shape nodes fences b → a ≡ b
one_lattice shape nodes fences a b x y =
    lattice_equal a b (x.alpha ∙ sym y.alpha) (x.s ∙ sym y.s) (x.p ∙ sym y.p) (x.n ∙ sym y.n) (x.fences_are ∙ sym y.fences_are)

-- a block has a byte
some_bytes : (shape : Shape) → 1 ≤ shape.block
some_bytes shape =
    let a = and_parts (is_profile shape.alpha shape.s shape.p && (nat_le 16 shape.block && nat_le shape.block 65536)) (nat_le 1 shape.sites && nat_le shape.sites 64) shape.in_profile in
    let b = and_parts (is_profile shape.alpha shape.s shape.p) (nat_le 16 shape.block && nat_le shape.block 65536) a.0 in
    let c = and_parts (nat_le 16 shape.block) (nat_le shape.block 65536) b.1 in
    omega (arith, leb-true 16 shape.block c.0)

-- the lattice of a shape without nodes
abbrev no_nodes : Shape → Lattice
no_nodes shape = record {
  alpha = shape.alpha;
  s = shape.s;
  p = shape.p;
  n = 0;
  fences = [];
  in_profile = (and_parts (is_profile shape.alpha shape.s shape.p) (nat_le 16 shape.block && nat_le shape.block 65536)
      (and_parts (is_profile shape.alpha shape.s shape.p && (nat_le 16 shape.block && nat_le shape.block 65536)) (nat_le 1 shape.sites && nat_le shape.sites 64) shape.in_profile).0).0;
  in_range = omega arith;
  fenced = refl;
}

-- an archive without records records no data
pub none_record_none : NoneRecordNone
none_record_none shape = record {
  valid = tt;
  lattice = no_nodes shape;
  is_lattice = record { alpha = refl; s = refl; p = refl; n = refl; fences_are = refl };
  is_data = record { some_bytes = some_bytes shape; long = refl; each = λ k d inside. absurd (omega (arith, inside)) };
  digests = refl;
  objects = λ k d inside. absurd (omega (arith, inside));
}

-- the lattice of records that have one of an object after them, where the lattice before grew by its new nodes
pub lattice-more : (shape : Shape) (records : List Record) (r : Record) (o : Stored) (l m : Lattice) → stored_in r ≡ o ∷ [] → fence_in r ≡ []
    → IsLatticeOf shape (nodes_of records) (fences_of records) l → IsGrown l (l.n + o.count) m → IsLatticeOf shape (nodes_of (records ++ r ∷ [])) (fences_of (records ++ r ∷ [])) m
lattice-more shape records r o l m object no_fence is grown =
    let nodes = grown.nodes in
    let count : sum_by (λ (q : Stored). q.count) (stored_in r) ≡ o.count = ap (sum_by (λ (q : Stored). q.count)) object ∙ omega arith in
    record {
      alpha = grown.shape.alpha ∙ is.alpha;
      s = grown.shape.s ∙ is.s;
      p = grown.shape.p ∙ is.p;
      n = nodes ∙ omega (arith, is.n, nodes_of-push records r, count);
      fences_are = grown.fences ∙ is.fences_are ∙ sym (fences_of-push records r ∙ ap (λ (fs : List ℕ). fences_of records ++ fs) no_fence ∙ append-nil (fences_of records));
    }

-- Records of a data list, with one of an object after them, record the list with more blocks after it, where that list holds
-- the object, and its lattice has the payloads of the new blocks.
pub woven-records-more : LongerDataKeepValues → (shape : Shape) (records : List Record) (datas more : List (List ℕ)) (l m : Lattice) (payload : BlockId → List ℕ) (name bytes : List ℕ)
    (r : Record) (o : Stored) → stored_in r ≡ o ∷ [] → fence_in r ≡ [] → AreRecordsOf shape records datas → IsLatticeOf shape (nodes_of records) (fences_of records) l
    → IsDataList m shape.block (datas ++ more) → ((b : BlockId) → IsBlockOn shape l.n m.n b → payload b ≡ value_of m shape.block (datas ++ more) b)
    → IsNext shape records r → IsNextWoven shape l m payload name bytes o → HoldsRecord (datas ++ more) r
    → AreRecordsOf shape (records ++ r ∷ []) (datas ++ more)
woven-records-more longer shape records datas more l m payload name bytes r o object no_fence old is all_data values next n holds =
    let w = shape.block in
    let same : old.lattice ≡ l = one_lattice shape (nodes_of records) (fences_of records) old.lattice l old.is_lattice is in
    let revealed : IsDataList l w datas = subst (λ (k : Lattice). IsDataList k w datas) same old.is_data in
    let digests : digests_of records ≡ map (λ b. block_digest b (value_of l w datas b)) (blocks_of l) =
    subst (λ (k : Lattice). digests_of records ≡ map (λ b. block_digest b (value_of k w datas b)) (blocks_of k)) same old.digests in
    let nodes = n.grown.nodes in
    let grown : IsGrown l m.n m = record { shape = n.grown.shape; nodes = refl; fences = n.grown.fences } in
    record {
      valid = MayFollow-push shape [] records r old.valid next;
      lattice = m;
      is_lattice = lattice-more shape records r o l m object no_fence is n.grown;
      is_data = all_data;
      digests = digests_of-push records r
          ∙ ap (λ (os : List Stored). digests_of records ++ flat_map (λ (q : Stored). q.digests) os) object
          ∙ ap (λ (ds : List (List ℕ)). digests_of records ++ ds) (append-nil o.digests)
          ∙ digests-joined longer shape l m grown (omega (arith, nodes)) is.alpha w datas more revealed.long payload values (digests_of records) o.digests digests n.digests;
      objects = All-append (HoldsRecord (datas ++ more)) records (r ∷ [])
          (records-more shape [] records datas more old.valid (omega (arith, revealed.long, is.n)) old.objects)
          (All-cons (HoldsRecord (datas ++ more)) r [] holds (λ k d inside. absurd (omega (arith, inside))));
    }

-- so it is with the record of an object in parts
pub parts_record_more : LongerDataKeepValues → PartsRecordMore
parts_record_more longer shape records datas more l m name bytes parts o old is all_data next n =
    woven-records-more longer shape records datas more l m (value_of m shape.block (datas ++ more)) name bytes (Joined o parts) o refl refl old is all_data (λ b on. refl) next n.next
    (held-in (datas ++ more) bytes n.zeros o parts n.next.size n.next.digest n.blocks)

-- and with that of an object that is put, where the payloads of the last parities are those of the list's lattice: then the
-- payloads of the new blocks are those of the longer list's
pub next_records_more : LongerDataKeepValues → NextRecordsMore
next_records_more longer shape records datas l m payload name bytes o old is lasts are next n =
    let w = shape.block in
    let news = object_blocks shape bytes in
    let nodes = n.grown.nodes in
    let more : l.n ≤ m.n = omega (arith, nodes) in
    let grown : IsGrown l m.n m = record { shape = n.grown.shape; nodes = refl; fences = n.grown.fences } in
    let long : length datas ≡ l.n = old.is_data.long ∙ old.is_lattice.n ∙ sym is.n in
    let count : length news ≡ o.count = cut-length w (nodes_for shape (length bytes)) bytes ∙ sym n.count in
    let all_data : IsDataList m w (datas ++ news) = record {
      some_bytes = old.is_data.some_bytes;
      long = length-append datas news ∙ omega (arith, long, count, nodes);
      each = All-append (IsBytes w) datas news old.is_data.each (cut-bytes w (nodes_for shape (length bytes)) bytes are);
    } in
    let values : (b : BlockId) → IsBlockOn shape l.n m.n b → payload b ≡ value_of m w (datas ++ news) b =
    λ b on. value-new l m m.n grown shape w refl more datas news payload longer long all_data lasts n.blocks n.woven b.class b.node on.after on.most
    (let u = on.used in let e = n.grown.shape.alpha in let a = is.alpha in omega (arith, u, e, a)) in
    let woven : IsNextWoven shape l m payload name bytes o = record { name_is = n.name_is; size = n.size; digest = n.digest; first = n.first; grown = n.grown; digests = n.digests } in
    record {
      recorded = woven-records-more longer shape records datas news l m payload name bytes (Object o) o refl refl old is all_data values next woven
          (next-held shape datas bytes o n.size n.digest (n.first ∙ omega (arith, long)) n.count);
      values = values;
    }
