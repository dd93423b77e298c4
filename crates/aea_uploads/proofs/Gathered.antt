-- Bytes that join an upload in pieces.
use Rattle.std.proofs.Common.{◌≡◌, ℕ, zero, suc, ◌+◌, ◌-◌, ◌*◌, ◌<◌, ◌≤◌, List, [], ◌∷◌, ◌++◌, length, take, replicate, refl, sym, ◌∙◌, ap, subst, arith, length-append, append_assoc}
use Rattle.std.specs.List.{flat_map, range_with_len}
use Rattle.std.proofs.lemmas.List.{append-nil}
use Rattle.std.proofs.lemmas.List.Elements.{All-append, All-cons}
use Rattle.sha2.specs.Hashers.{Holds256}
use Rattle.aea_lattice.specs.declared.grid.Lattice.{Lattice}
use Rattle.aea_lattice.specs.declared.shape.Shape.{Shape}
use Rattle.aea_lattice.specs.Growth.{IsGrown}
use Rattle.aea_disk.specs.Files.{Files}
use Rattle.aea_weave.specs.Woven.{Woven}
use Rattle.aea_append.specs.Weaving.{IsWovenOf, AreIntactOn}
use Rattle.aea_uploads.specs.declared.slot.Slot.{Slot}
use Rattle.aea_machine.specs.Machine.{Upload, runs_of}
use Rattle.aea_machine.specs.Holding.{blocks_at}
use Rattle.aea_uploads.specs.Slots.{Rise, Keeps}
use Rattle.aea_uploads.specs.Gathering.{with_bytes, Gathers, Closes, Finishes}
use Rattle.aea_uploads.proofs.Keeping.{rise-push, blocks-push, joined-push}

grown_same : (l : Lattice) (n : ℕ) → n ≡ l.n → IsGrown l n l
grown_same l n same = record { shape = record { alpha = refl; s = refl; p = refl }; nodes = sym same; fences = refl }

-- numbers behind numbers
range-append : (a m n : ℕ) → range_with_len a m ++ range_with_len (a + m) n ≡ range_with_len a (m + n)
range-append a zero n = let e : a + 0 ≡ a = omega arith in let z : 0 + n ≡ n = omega arith in ap (λ (k : ℕ). range_with_len k n) e ∙ ap (range_with_len a) (sym z)
range-append a (suc m) n =
    let e : a + suc m ≡ a + 1 + m = omega arith in
    let z : suc m + n ≡ suc (m + n) = omega arith in
    ap (λ (k : ℕ). a ∷ (range_with_len (a + 1) m ++ range_with_len k n)) e
    ∙ ap (λ (l : List ℕ). a ∷ l) (range-append (a + 1) m n)
    ∙ ap (range_with_len a) (sym z)

upload_equal : (u : Upload) (bytes more nodes others : List ℕ) → bytes ≡ more → nodes ≡ others → ◌≡◌ {A = Upload} (record { name = u.name; bytes = bytes; nodes = nodes }) (record { name = u.name; bytes = more; nodes = others })
upload_equal u bytes more nodes others p q = λ i. record { name = u.name; bytes = p i; nodes = q i }

-- a piece that does not fill the block
pub gathers_part : (reveals : Type 0) (shape : Shape) (piece : List ℕ) (v : Woven) (s t : Slot) (digests : List (List ℕ)) (files : Files)
    → t.name ≡ s.name → t.parts.items ≡ s.parts.items → t.length ≡ s.length + length piece → ((m : List ℕ) → Holds256 s.hasher m → Holds256 t.hasher (m ++ piece))
    → t.have ≡ s.have + length piece → t.have < shape.block → length t.block.items ≡ shape.block → take t.have t.block.items ≡ take s.have s.block.items ++ piece
    → Gathers reveals shape piece v v s t digests digests files files
gathers_part reveals shape piece v s t digests files name parts long holds have less room front = record {
  filled = [];
  wide = λ k d inside. absurd (omega (arith, inside));
  grown = grown_same v.lattice _ (omega arith);
  size = refl;
  sum = omega (arith, have);
  room = room;
  values = λ l datas woven is. subst (λ (w : List (List ℕ)). IsWovenOf shape l v datas w digests) (sym (append-nil woven)) is;
  intact = λ before within are. are;
  keeps = λ datas u many k. record {
    name = name ∙ k.name;
    rise = subst (λ (l : List ℕ). Rise 0 (length (datas ++ [])) l) (sym (append-nil u.nodes)) (subst (λ (l : List (List ℕ)). Rise 0 (length l) u.nodes) (sym (append-nil datas)) k.rise);
    parts = parts ∙ k.parts ∙ ap runs_of (sym (append-nil u.nodes));
    long = long ∙ (let e = k.long in omega (arith, e, length-append u.bytes piece));
    hash = holds u.bytes k.hash;
    less = less;
    room = room;
    are = ap (λ (l : List ℕ). l ++ piece) k.are
        ∙ append_assoc (flat_map (λ (d : List ℕ). d) (blocks_at u.nodes datas)) (take s.have s.block.items) piece
        ∙ ap (λ (l : List ℕ). flat_map (λ (d : List ℕ). d) (blocks_at u.nodes datas) ++ l) (sym front)
        ∙ ap (λ (l : List (List ℕ)). flat_map (λ (d : List ℕ). d) (blocks_at u.nodes l) ++ take t.have t.block.items) (sym (append-nil datas))
        ∙ ap (λ (l : List ℕ). flat_map (λ (d : List ℕ). d) (blocks_at l (datas ++ [])) ++ take t.have t.block.items) (sym (append-nil u.nodes));
  };
}

-- a piece that fills it, and the block is woven
pub gathers_full : (reveals : Type 0) (shape : Shape) (piece x : List ℕ) (v w : Woven) (s t : Slot) (digests more : List (List ℕ)) (node : ℕ) (old new : Files)
    → t.name ≡ s.name → node ≡ v.lattice.n + 1 → ((nodes : List ℕ) → s.parts.items ≡ runs_of nodes → t.parts.items ≡ runs_of (nodes ++ node ∷ []))
    → t.length ≡ s.length + length piece → ((m : List ℕ) → Holds256 s.hasher m → Holds256 t.hasher (m ++ piece))
    → t.have ≡ 0 → 1 ≤ shape.block → length t.block.items ≡ shape.block → length x ≡ shape.block → s.have + length piece ≡ shape.block → x ≡ take s.have s.block.items ++ piece
    → IsGrown v.lattice (v.lattice.n + 1) w.lattice → w.size ≡ v.size
    → ((l : Lattice) (datas woven : List (List ℕ)) → IsWovenOf shape l v datas woven digests → IsWovenOf shape l w datas (woven ++ x ∷ []) more)
    → ((before : ℕ) → before ≤ v.lattice.n → AreIntactOn reveals shape before v.lattice.n digests old → AreIntactOn reveals shape before w.lattice.n more new)
    → Gathers reveals shape piece v w s t digests more old new
gathers_full reveals shape piece x v w s t digests more node old new name node_is runs long holds have some room wide full is grown size values intact = record {
  filled = x ∷ [];
  wide = All-cons (λ (d : List ℕ). length d ≡ shape.block) x [] wide (λ k d inside. absurd (omega (arith, inside)));
  grown = grown;
  size = size;
  sum = omega (arith, have, full);
  room = room;
  values = values;
  intact = intact;
  keeps = λ datas u many k.
      let last : node ≡ suc (length datas) = omega (arith, node_is, many) in
      let here : suc v.lattice.n ≡ suc (length datas) = omega (arith, many) in
      subst (λ (i : ℕ). Keeps shape (datas ++ x ∷ []) t (record { name = u.name; bytes = u.bytes ++ piece; nodes = u.nodes ++ i ∷ [] })) (sym here)
      (record {
        name = name ∙ k.name;
        rise = (let e : suc (length datas) ≡ length (datas ++ x ∷ []) = omega (arith, length-append datas (x ∷ [])) in
            subst (λ (m : ℕ). Rise 0 m (u.nodes ++ suc (length datas) ∷ [])) e (rise-push 0 (length datas) u.nodes (omega arith) k.rise));
        parts = runs u.nodes k.parts ∙ ap (λ (i : ℕ). runs_of (u.nodes ++ i ∷ [])) last;
        long = long ∙ (let e = k.long in omega (arith, e, length-append u.bytes piece));
        hash = holds u.bytes k.hash;
        less = omega (arith, have, some);
        room = room;
        are = joined-push (blocks_at u.nodes datas) x u.bytes piece (take s.have s.block.items) k.are is
            ∙ ap (λ (l : List (List ℕ)). flat_map (λ (d : List ℕ). d) l ++ []) (sym (blocks-push datas x u.nodes k.rise))
            ∙ ap (λ (n : ℕ). flat_map (λ (d : List ℕ). d) (blocks_at (u.nodes ++ suc (length datas) ∷ []) (datas ++ x ∷ [])) ++ take n t.block.items) (sym have);
      });
}

-- no bytes
pub gathers_none : (reveals : Type 0) (shape : Shape) (v : Woven) (s : Slot) (digests : List (List ℕ)) (files : Files) → s.have < shape.block → length s.block.items ≡ shape.block → Gathers reveals shape [] v v s s digests digests files files
gathers_none reveals shape v s digests files less room =
    gathers_part reveals shape [] v s s digests files refl refl (omega arith) (λ m h. subst (Holds256 s.hasher) (sym (append-nil m)) h) (omega arith) less room (sym (append-nil (take s.have s.block.items)))

-- pieces one after the other
pub gathers_both : (reveals : Type 0) (shape : Shape) (xs ys : List ℕ) (v u w : Woven) (r s t : Slot) (digests some more : List (List ℕ)) (old mid new : Files)
    → Gathers reveals shape xs v u r s digests some old mid → Gathers reveals shape ys u w s t some more mid new → Gathers reveals shape (xs ++ ys) v w r t digests more old new
gathers_both reveals shape xs ys v u w r s t digests some more old mid new first second =
    let a = first.grown.nodes in
    let b = second.grown.nodes in
    let both = length-append first.filled second.filled in
    record {
      filled = first.filled ++ second.filled;
      wide = All-append (λ (d : List ℕ). length d ≡ shape.block) first.filled second.filled first.wide second.wide;
      grown = record {
        shape = record { alpha = second.grown.shape.alpha ∙ first.grown.shape.alpha; s = second.grown.shape.s ∙ first.grown.shape.s; p = second.grown.shape.p ∙ first.grown.shape.p };
        nodes = omega (arith, a, b, both);
        fences = second.grown.fences ∙ first.grown.fences;
      };
      size = second.size ∙ first.size;
      sum = (let e : (length first.filled + length second.filled) * shape.block ≡ length first.filled * shape.block + length second.filled * shape.block = omega arith in
          ap (λ (n : ℕ). n * shape.block + t.have) both ∙ (let x = first.sum in let y = second.sum in omega (arith, e, x, y, length-append xs ys)));
      room = second.room;
      values = λ l datas woven is.
          subst (λ (d : List (List ℕ)). IsWovenOf shape l w datas d more) (append_assoc woven first.filled second.filled)
          (second.values l datas (woven ++ first.filled) (first.values l datas woven is));
      intact = λ before within are. second.intact before (omega (arith, within, a)) (first.intact before within are);
      keeps = λ datas up many k.
          let one = first.keeps datas up many k in
          let two = second.keeps (datas ++ first.filled) (with_bytes up xs v.lattice.n (length first.filled)) (omega (arith, length-append datas first.filled, many, a)) one in
          let node : suc u.lattice.n ≡ suc v.lattice.n + length first.filled = omega (arith, a) in
          let nodes : (up.nodes ++ range_with_len (suc v.lattice.n) (length first.filled)) ++ range_with_len (suc u.lattice.n) (length second.filled) ≡ up.nodes ++ range_with_len (suc v.lattice.n) (length (first.filled ++ second.filled)) =
          append_assoc up.nodes (range_with_len (suc v.lattice.n) (length first.filled)) (range_with_len (suc u.lattice.n) (length second.filled))
          ∙ ap (λ (l : List ℕ). up.nodes ++ l)
          (ap (λ (n : ℕ). range_with_len (suc v.lattice.n) (length first.filled) ++ range_with_len n (length second.filled)) node
          ∙ range-append (suc v.lattice.n) (length first.filled) (length second.filled)
          ∙ ap (range_with_len (suc v.lattice.n)) (sym both)) in
          subst (λ (x : Upload). Keeps shape (datas ++ (first.filled ++ second.filled)) t x)
          (upload_equal up ((up.bytes ++ xs) ++ ys) (up.bytes ++ (xs ++ ys)) _ _ (append_assoc up.bytes xs ys) nodes)
          (subst (λ (d : List (List ℕ)). Keeps shape d t (with_bytes (with_bytes up xs v.lattice.n (length first.filled)) ys u.lattice.n (length second.filled))) (append_assoc datas first.filled second.filled) two);
    }

-- ---- the last block

-- there is no rest
pub finishes_none : (reveals : Type 0) (shape : Shape) (v : Woven) (s : Slot) (digests : List (List ℕ)) (files : Files) → s.have ≡ 0 → 1 ≤ shape.block → Finishes reveals shape v v s s digests digests files files
finishes_none reveals shape v s digests files none some = record {
  filled = [];
  wide = λ k d inside. absurd (omega (arith, inside));
  grown = grown_same v.lattice _ (omega arith);
  size = refl;
  values = λ l datas woven is. subst (λ (w : List (List ℕ)). IsWovenOf shape l v datas w digests) (sym (append-nil woven)) is;
  intact = λ before within are. are;
  zeros = 0;
  few = omega (arith, some);
  closes = λ datas u many k. record {
    name = k.name;
    long = k.long;
    hash = k.hash;
    rise = subst (λ (l : List ℕ). Rise 0 (length (datas ++ [])) l) (sym (append-nil u.nodes)) (subst (λ (l : List (List ℕ)). Rise 0 (length l) u.nodes) (sym (append-nil datas)) k.rise);
    parts = k.parts ∙ ap runs_of (sym (append-nil u.nodes));
    blocks = ap (λ (l : List (List ℕ)). flat_map (λ (d : List ℕ). d) (blocks_at (u.nodes ++ []) l)) (append-nil datas)
        ∙ ap (λ (l : List ℕ). flat_map (λ (d : List ℕ). d) (blocks_at l datas)) (append-nil u.nodes)
        ∙ sym (append-nil (flat_map (λ (d : List ℕ). d) (blocks_at u.nodes datas)))
        ∙ ap (λ (n : ℕ). flat_map (λ (d : List ℕ). d) (blocks_at u.nodes datas) ++ take n s.block.items) (sym none)
        ∙ sym k.are
        ∙ sym (append-nil u.bytes);
  };
}

-- the rest was filled with zeros and woven
pub finishes_full : (reveals : Type 0) (shape : Shape) (x : List ℕ) (v w : Woven) (s t : Slot) (digests more : List (List ℕ)) (node : ℕ) (old new : Files)
    → t.name ≡ s.name → node ≡ v.lattice.n + 1 → ((nodes : List ℕ) → s.parts.items ≡ runs_of nodes → t.parts.items ≡ runs_of (nodes ++ node ∷ []))
    → t.length ≡ s.length → ((m : List ℕ) → Holds256 s.hasher m → Holds256 t.hasher m)
    → 1 ≤ s.have → s.have ≤ shape.block → length x ≡ shape.block → x ≡ take s.have s.block.items ++ replicate (shape.block - s.have) 0
    → IsGrown v.lattice (v.lattice.n + 1) w.lattice → w.size ≡ v.size
    → ((l : Lattice) (datas woven : List (List ℕ)) → IsWovenOf shape l v datas woven digests → IsWovenOf shape l w datas (woven ++ x ∷ []) more)
    → ((before : ℕ) → before ≤ v.lattice.n → AreIntactOn reveals shape before v.lattice.n digests old → AreIntactOn reveals shape before w.lattice.n more new)
    → Finishes reveals shape v w s t digests more old new
finishes_full reveals shape x v w s t digests more node old new name node_is runs long holds some most wide is grown size values intact = record {
  filled = x ∷ [];
  wide = All-cons (λ (d : List ℕ). length d ≡ shape.block) x [] wide (λ k d inside. absurd (omega (arith, inside)));
  grown = grown;
  size = size;
  values = values;
  intact = intact;
  zeros = shape.block - s.have;
  few = omega (arith, some, most);
  closes = λ datas u many k.
      let last : node ≡ suc (length datas) = omega (arith, node_is, many) in
      let here : suc v.lattice.n ≡ suc (length datas) = omega (arith, many) in
      subst (λ (i : ℕ). Closes (datas ++ x ∷ []) u (u.nodes ++ i ∷ []) (shape.block - s.have) t) (sym here)
      (record {
        name = name ∙ k.name;
        long = long ∙ k.long;
        hash = holds u.bytes k.hash;
        rise = (let e : suc (length datas) ≡ length (datas ++ x ∷ []) = omega (arith, length-append datas (x ∷ [])) in
            subst (λ (m : ℕ). Rise 0 m (u.nodes ++ suc (length datas) ∷ [])) e (rise-push 0 (length datas) u.nodes (omega arith) k.rise));
        parts = runs u.nodes k.parts ∙ ap (λ (i : ℕ). runs_of (u.nodes ++ i ∷ [])) last;
        blocks = ap (flat_map (λ (d : List ℕ). d)) (blocks-push datas x u.nodes k.rise)
            ∙ sym (append-nil (flat_map (λ (d : List ℕ). d) (blocks_at u.nodes datas ++ x ∷ [])))
            ∙ sym (joined-push (blocks_at u.nodes datas) x u.bytes (replicate (shape.block - s.have) 0) (take s.have s.block.items) k.are is);
      });
}
