-- Bytes of a source that are taken in pieces.
use Rattle.std.proofs.Common.{◌≡◌, ℕ, zero, suc, ◌+◌, ◌-◌, ◌*◌, ◌/◌, ◌^◌, ◌<◌, ◌≤◌, List, [], ◌∷◌, ◌++◌, length, take, replicate, Option, refl, sym, ◌∙◌, ap, subst, arith, length-append, append_assoc}
use Rattle.std.specs.Io.KnownBytes.{Consumes}
use Rattle.std.proofs.KnownBytes.{Consumes-nil, Consumes-trans}
use Rattle.std.proofs.lemmas.List.{append-nil}
use Rattle.std.proofs.lemmas.List.Elements.{All-append}
use Rattle.sha2.specs.declared.Sha256.{Sha256}
use Rattle.sha2.specs.Hashers.{Holds256}
use Rattle.sha2.specs.Sha256.{sha256}
use Rattle.aea_io.specs.Taken.{TakesAtMost, Counts}
use Rattle.aea_lattice.specs.declared.grid.Lattice.{Lattice}
use Rattle.aea_lattice.specs.declared.shape.Shape.{Shape}
use Rattle.aea_lattice.specs.Growth.{IsGrown}
use Rattle.aea_disk.specs.Files.{Files}
use Rattle.aea_weave.specs.Woven.{Woven}
use Rattle.aea_records.specs.Format.{nodes_for}
use Rattle.aea_ledger.specs.Values.{Opened}
use Rattle.aea_archive.specs.Next.{cut_blocks, object_blocks}
use Rattle.aea_append.specs.Weaving.{HasWoven}
use Rattle.aea_append.specs.Taking.{Takes, TakesObject}
use Rattle.aea_append.proofs.Cuts.{cut-push, some_bytes, nodes_none, nodes_one, nodes-push, nodes-whole, no_blocks, one_block}

-- a lattice with as many nodes
pub grown_same : (l : Lattice) (n : ℕ) → n ≡ l.n → IsGrown l n l
grown_same l n same = record { shape = record { alpha = refl; s = refl; p = refl }; nodes = sym same; fences = refl }

-- where source, hasher, heads, digests and files stay as they are, no bytes were taken
pub takes_none : (reveals : Type 0) (shape : Shape) (left : Option (List ℕ)) (h : Sha256) (v : Woven) (digests : List (List ℕ)) (files : Files) → Takes reveals shape 0 left left h h v v digests digests files files
takes_none reveals shape left h v digests files = record {
  bytes = [];
  are = λ k d inside. absurd (omega (arith, inside));
  taken = Consumes-nil left;
  long = refl;
  holds = λ m holds. subst (Holds256 h) (sym (append-nil m)) holds;
  woven = λ l recorded first datas has. subst (λ (d : List (List ℕ)). HasWoven reveals shape l recorded first files v d digests) (sym (ap (λ (d : List (List ℕ)). datas ++ d) (no_blocks shape [] refl) ∙ append-nil datas)) has;
  grown = grown_same v.lattice (v.lattice.n + nodes_for shape 0) (omega (arith, nodes_none shape 0 refl));
  size = refl;
}

-- the blocks of whole blocks and a piece after them
blocks_both : (shape : Shape) (n : ℕ) (xs ys : List ℕ) → length xs ≡ n * shape.block → length ys ≤ shape.block → object_blocks shape (xs ++ ys) ≡ object_blocks shape xs ++ object_blocks shape ys
blocks_both shape n xs [] whole short =
    ap (object_blocks shape) (append-nil xs) ∙ sym (ap (λ (d : List (List ℕ)). object_blocks shape xs ++ d) (no_blocks shape [] refl) ∙ append-nil (object_blocks shape xs))
blocks_both shape n xs (y ∷ ys) whole short =
    let least = some_bytes shape in
    let piece : 1 ≤ length (y ∷ ys) = omega arith in
    let all : nodes_for shape (length (xs ++ y ∷ ys)) ≡ suc n =
    ap (λ (k : ℕ). (k + shape.block - 1) / shape.block) (length-append xs (y ∷ ys) ∙ ap (λ (k : ℕ). k + length (y ∷ ys)) whole)
    ∙ nodes-push shape.block n (length (y ∷ ys)) piece short ∙ (let e : n + 1 ≡ suc n = omega arith in e) in
    let front : nodes_for shape (length xs) ≡ n = ap (λ (k : ℕ). (k + shape.block - 1) / shape.block) whole ∙ nodes-whole shape.block n (omega (arith, least)) in
    ap (λ (k : ℕ). cut_blocks shape.block k (xs ++ y ∷ ys)) all
    ∙ cut-push shape.block n xs (y ∷ ys) whole
    ∙ ap (λ (k : ℕ). cut_blocks shape.block k xs ++ take shape.block ((y ∷ ys) ++ replicate shape.block 0) ∷ []) (sym front)
    ∙ ap (λ (d : List (List ℕ)). object_blocks shape xs ++ d) (sym (one_block shape (y ∷ ys) piece short))

nodes_both : (shape : Shape) (n k : ℕ) → k ≤ shape.block → nodes_for shape (n * shape.block + k) ≡ n + nodes_for shape k
nodes_both shape n zero short =
    let least = some_bytes shape in
    let e : n * shape.block + 0 ≡ n * shape.block = omega arith in
    let whole = nodes-whole shape.block n (omega (arith, least)) in
    let none = nodes_none shape 0 refl in
    ap (nodes_for shape) e ∙ whole ∙ (let z : n ≡ n + nodes_for shape 0 = omega (arith, none) in z)
nodes_both shape n (suc k) short =
    let one = nodes_one shape (suc k) (omega arith) short in
    nodes-push shape.block n (suc k) (omega arith) short ∙ (let z : n + 1 ≡ n + nodes_for shape (suc k) = omega (arith, one) in z)

-- whole blocks, and then a piece
pub takes_both : (reveals : Type 0) (shape : Shape) (n k : ℕ) (left mid rest : Option (List ℕ)) (h i g : Sha256) (v u w : Woven) (digests some more : List (List ℕ)) (old between new : Files)
    → k ≤ shape.block
    → Takes reveals shape (n * shape.block) left mid h i v u digests some old between → Takes reveals shape k mid rest i g u w some more between new
    → Takes reveals shape (n * shape.block + k) left rest h g v w digests more old new
takes_both reveals shape n k left mid rest h i g v u w digests some more old between new few first second =
    let short : length second.bytes ≤ shape.block = omega (arith, second.long, few) in
    let a = first.grown.nodes in
    let b = second.grown.nodes in
    record {
      bytes = first.bytes ++ second.bytes;
      are = All-append (λ (x : ℕ). x < 2 ^ 8) first.bytes second.bytes first.are second.are;
      taken = Consumes-trans left mid rest first.bytes second.bytes first.taken second.taken;
      long = length-append first.bytes second.bytes ∙ omega (arith, first.long, second.long);
      holds = λ m holds. subst (Holds256 g) (append_assoc m first.bytes second.bytes) (second.holds (m ++ first.bytes) (first.holds m holds));
      woven = λ l recorded start datas has.
          subst (λ (d : List (List ℕ)). HasWoven reveals shape l recorded start new w d more)
          (append_assoc datas (object_blocks shape first.bytes) (object_blocks shape second.bytes)
          ∙ ap (λ (d : List (List ℕ)). datas ++ d) (sym (blocks_both shape n first.bytes second.bytes first.long short)))
          (second.woven l recorded start (datas ++ object_blocks shape first.bytes) (first.woven l recorded start datas has));
      grown = record {
        shape = record { alpha = second.grown.shape.alpha ∙ first.grown.shape.alpha; s = second.grown.shape.s ∙ first.grown.shape.s; p = second.grown.shape.p ∙ first.grown.shape.p };
        nodes = omega (arith, a, b, nodes_both shape n k few, nodes_both shape n 0 (omega arith), nodes_none shape 0 refl, (let e : n * shape.block + 0 ≡ n * shape.block = omega arith in ap (nodes_for shape) e));
        fences = second.grown.fences ∙ first.grown.fences;
      };
      size = second.size ∙ first.size;
    }

-- all that a source had, woven after the nodes of an archive
pub takes_object : (reveals : Type 0) (v : Opened) (shape : Shape) → shape ≡ v.shape → (k : ℕ) (left mid rest : Option (List ℕ)) (h g : Sha256) (heads w : Woven) (digests more : List (List ℕ)) (first files after : Files) (digest : List ℕ)
    → Takes reveals shape k left mid h g heads w digests more files after → HasWoven reveals v.shape v.lattice v.digests first files heads [] [] → digests ≡ [] → Holds256 h []
    → ((m : List ℕ) → Holds256 g m → digest ≡ sha256 m) → heads.lattice ≡ v.lattice → heads.size ≡ v.shape.block → Consumes mid rest []
    → TakesObject reveals v.shape v.lattice v.digests k digest left rest more first after w
takes_object reveals v shape same k left mid rest h g heads w digests more first files after digest took has none holds hashed lattice size stop =
    let t : Takes reveals v.shape k left mid h g heads w digests more files after = subst (λ (s : Shape). Takes reveals s k left mid h g heads w digests more files after) same took in
    let start : HasWoven reveals v.shape v.lattice v.digests first files heads [] digests = subst (λ (d : List (List ℕ)). HasWoven reveals v.shape v.lattice v.digests first files heads [] d) (sym none) has in
    let n : heads.lattice.n ≡ v.lattice.n = ap (λ (l : Lattice). l.n) lattice in
    let nodes = t.grown.nodes in
    record {
      bytes = t.bytes;
      are = t.are;
      taken = subst (Consumes left rest) (append-nil t.bytes) (Consumes-trans left mid rest t.bytes [] t.taken stop);
      long = t.long;
      digest_is = hashed t.bytes (t.holds [] holds);
      size = t.size ∙ size;
      nodes = nodes ∙ ap (λ (x : ℕ). x + nodes_for v.shape k) n;
      woven = t.woven v.lattice v.digests first [] start;
    }

-- ---- bytes that are counted

-- none was taken
pub counts_none : (left : Option (List ℕ)) (at n : ℕ) → Counts left left at at n
counts_none left at n = record { bytes = []; taken = Consumes-nil left; counted = omega arith; most = omega arith }

-- a greater bound
pub counts_more : (left rest : Option (List ℕ)) (at to m n : ℕ) → Counts left rest at to m → m ≤ n → Counts left rest at to n
counts_more left rest at to m n counts more = record { bytes = counts.bytes; taken = counts.taken; counted = counts.counted; most = omega (arith, counts.most, more) }

-- bytes that were taken one after the other
pub counts_then : (left mid rest : Option (List ℕ)) (at between to m n : ℕ) → Counts left mid at between m → Counts mid rest between to n → Counts left rest at to (m + n)
counts_then left mid rest at between to m n first second = record {
  bytes = first.bytes ++ second.bytes;
  taken = Consumes-trans left mid rest first.bytes second.bytes first.taken second.taken;
  counted = omega (arith, first.counted, second.counted, length-append first.bytes second.bytes);
  most = omega (arith, first.most, second.most, length-append first.bytes second.bytes);
}

-- at most as many were taken
pub counts_most : (left rest : Option (List ℕ)) (at to n : ℕ) → Counts left rest at to n → TakesAtMost left rest n
counts_most left rest at to n counts = (counts.bytes, counts.taken, counts.most)
