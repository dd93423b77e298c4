use Rattle.std.proofs.Common.{◌≡◌, ◌≢◌, ℕ, ◌-◌, ◌≤◌, Bool, List, [], ◌∷◌, ◌++◌, length, map, filter, sym, ◌∙◌, ap, subst, arith, append_assoc}
use Rattle.std.specs.Prelude.{nat_le}
use Rattle.std.proofs.lemmas.List.{map-append}
use Rattle.std.proofs.lemmas.List.Elements.{filter-append}
use Rattle.std.proofs.lemmas.Result.{on_ok_weaker}
use Rattle.aea_lattice.specs.declared.blocks.Class.{Class}
use Rattle.aea_lattice.specs.declared.blocks.Class.TheVariants.{Datum, Horiz, Right, Left}
use Rattle.aea_lattice.specs.declared.blocks.BlockId.{BlockId}
use Rattle.aea_lattice.specs.declared.shape.Shape.{Shape}
use Rattle.aea_lattice.specs.Blocks.{block_of, class_number}
use Rattle.aea_lattice.specs.Shapes.{IsBlockOf}
use Rattle.aea_envelope.specs.Cells.{block_digest, cell_of}
use Rattle.aea_envelope.specs.Facts.{CellsHaveLengths}
use Rattle.aea_disk.specs.State.{State}
use Rattle.aea_shelf.specs.Places.{HasAtHome}
use Rattle.aea_archive.specs.Cells.{WritesCells}
use Rattle.aea_append.specs.Weaving.{last_payload, last_digest}
use Rattle.aea_archive.proofs.Writes.{cells_then, cells_less, cells_as}
use Rattle.aea_append.proofs.weave.write_node.Goals as goal

apart : (n : ℕ) (c : Class) (a : BlockId) → a.node ≢ n → a ≢ block_of n c
apart n c a other same = other (ap (λ (b : BlockId). b.node) same)

split : (f : Class → List ℕ) (p : Class → Bool) (x : Class) (xs : List Class) → map f (filter p (x ∷ xs)) ≡ map f (filter p (x ∷ [])) ++ map f (filter p xs)
split f p x xs = ap (map f) (filter-append p (x ∷ []) xs) ∙ map-append f (filter p (x ∷ [])) (filter p xs)

four : (f : Class → List ℕ) (p : Class → Bool) (old d0 d1 d2 d3 : List (List ℕ)) → d0 ≡ old ++ f Datum ∷ [] → d1 ≡ d0 ++ map f (filter p (Horiz ∷ []))
    → d2 ≡ d1 ++ map f (filter p (Right ∷ [])) → d3 ≡ d2 ++ map f (filter p (Left ∷ []))
    → d3 ≡ old ++ f Datum ∷ map f (filter p (Horiz ∷ Right ∷ Left ∷ []))
four f p old d0 d1 d2 d3 e0 e1 e2 e3 =
    let a = map f (filter p (Horiz ∷ [])) in
    let b = map f (filter p (Right ∷ [])) in
    let c = map f (filter p (Left ∷ [])) in
    let x = old ++ f Datum ∷ [] in
    let all : map f (filter p (Horiz ∷ Right ∷ Left ∷ [])) ≡ a ++ (b ++ c) =
    split f p Horiz (Right ∷ Left ∷ []) ∙ ap (λ (l : List (List ℕ)). a ++ l) (split f p Right (Left ∷ [])) in
    e3 ∙ ap (λ (l : List (List ℕ)). l ++ c) (e2 ∙ ap (λ (l : List (List ℕ)). l ++ b) (e1 ∙ ap (λ (l : List (List ℕ)). l ++ a) e0))
    ∙ append_assoc (x ++ a) b c ∙ append_assoc x a (b ++ c) ∙ append_assoc old (f Datum ∷ []) (a ++ (b ++ c))
    ∙ ap (λ (l : List (List ℕ)). old ++ f Datum ∷ l) (sym all)

-- a write of another block's cell leaves one that is at its home
leaves : CellsHaveLengths → (reveals fault : Type 0) → reveals → (shape : Shape) (n nodes : ℕ) (c other : Class) (payload : List ℕ) (old new : State) → IsBlockOf shape (block_of n c) → class_number c ≢ class_number other → length payload ≡ shape.block
    → WritesCells reveals shape nodes (λ a. a ≢ block_of n other) fault old new → HasAtHome shape (block_of n c) (cell_of (block_of n c) payload) old.files → HasAtHome shape (block_of n c) (cell_of (block_of n c) payload) new.files
leaves lengths reveals fault revealed shape n nodes c other payload old new has differ wide writes here =
    (writes.contents revealed).homes (block_of n c) (cell_of (block_of n c) payload) has (λ same. differ (ap (λ (b : BlockId). class_number b.class) same))
    (let size = (lengths (block_of n c) payload).2 in omega (arith, size, wide)) here

pub returns-in-Err-clause-writes : goal.returns-in-Err-clause-writes
returns-in-Err-clause-writes g c nodes within =
    let node : c.next_node-node.result - 1 ≡ c.args.heads.now.lattice.n = omega (arith, c.next_node-node.ensures) in
    let n = c.args.heads.now.lattice.n in
    let reveals = g.D.Disk.reveals in
    let shape = c.args.shape.now in
    let s0 = g.D.Disk.state c.args.disk.now in
    let s1 = g.D.Disk.state c.write_block.new.disk in
    let w1 = cells_less reveals _ shape nodes (λ a. a ≢ block_of (c.next_node-node.result - 1) Datum) (λ a. a.node ≢ c.args.heads.now.lattice.n) s0 s1 (λ a other same. other (ap (λ (b : BlockId). b.node) same ∙ node)) (c.write_block.ensures.writes nodes (omega (arith, node, within))) in
    cells_as reveals _ _ shape nodes (λ a. a.node ≢ c.args.heads.now.lattice.n) s0 s1 (λ is. c.in-Err.is ∙ is) (λ is. cc) w1

pub returns-in-Err-write_parity-clause-writes : goal.returns-in-Err-write_parity-clause-writes
returns-in-Err-write_parity-clause-writes g c nodes within =
    let node : c.next_node-node.result - 1 ≡ c.args.heads.now.lattice.n = omega (arith, c.next_node-node.ensures) in
    let n = c.args.heads.now.lattice.n in
    let reveals = g.D.Disk.reveals in
    let shape = c.args.shape.now in
    let s0 = g.D.Disk.state c.args.disk.now in
    let s1 = g.D.Disk.state c.write_block.new.disk in
    let w1 = cells_less reveals _ shape nodes (λ a. a ≢ block_of (c.next_node-node.result - 1) Datum) (λ a. a.node ≢ c.args.heads.now.lattice.n) s0 s1 (λ a other same. other (ap (λ (b : BlockId). b.node) same ∙ node)) (c.write_block.ensures.writes nodes (omega (arith, node, within))) in
    let s2 = g.D.Disk.state c.write_parity.new.disk in
    let w2 = cells_then reveals _ _ shape nodes (λ a. a.node ≢ c.args.heads.now.lattice.n) (λ a. a ≢ block_of n Horiz) s0 s1 s2 (λ is. absurd (cc)) (λ a other. apart n Horiz a other) w1 (c.write_parity.ensures.writes nodes within) in
    cells_as reveals _ _ shape nodes (λ a. a.node ≢ c.args.heads.now.lattice.n) s0 s2 (λ is. c.in-Err-write_parity.is ∙ is) (λ is. cc) w2

pub returns-in-Err-write_parity-2-clause-writes : goal.returns-in-Err-write_parity-2-clause-writes
returns-in-Err-write_parity-2-clause-writes g c nodes within =
    let node : c.next_node-node.result - 1 ≡ c.args.heads.now.lattice.n = omega (arith, c.next_node-node.ensures) in
    let n = c.args.heads.now.lattice.n in
    let reveals = g.D.Disk.reveals in
    let shape = c.args.shape.now in
    let s0 = g.D.Disk.state c.args.disk.now in
    let s1 = g.D.Disk.state c.write_block.new.disk in
    let w1 = cells_less reveals _ shape nodes (λ a. a ≢ block_of (c.next_node-node.result - 1) Datum) (λ a. a.node ≢ c.args.heads.now.lattice.n) s0 s1 (λ a other same. other (ap (λ (b : BlockId). b.node) same ∙ node)) (c.write_block.ensures.writes nodes (omega (arith, node, within))) in
    let s2 = g.D.Disk.state c.write_parity.new.disk in
    let w2 = cells_then reveals _ _ shape nodes (λ a. a.node ≢ c.args.heads.now.lattice.n) (λ a. a ≢ block_of n Horiz) s0 s1 s2 (λ is. absurd (cc)) (λ a other. apart n Horiz a other) w1 (c.write_parity.ensures.writes nodes within) in
    let s3 = g.D.Disk.state c.write_parity-2.new.disk in
    let w3 = cells_then reveals _ _ shape nodes (λ a. a.node ≢ c.args.heads.now.lattice.n) (λ a. a ≢ block_of n Right) s0 s2 s3 (λ is. absurd (cc)) (λ a other. apart n Right a other) w2 (c.write_parity-2.ensures.writes nodes within) in
    cells_as reveals _ _ shape nodes (λ a. a.node ≢ c.args.heads.now.lattice.n) s0 s3 (λ is. c.in-Err-write_parity-2.is ∙ is) (λ is. cc) w3

pub returns-clause-writes : goal.returns-clause-writes
returns-clause-writes g c nodes within =
    let node : c.next_node-node.result - 1 ≡ c.args.heads.now.lattice.n = omega (arith, c.next_node-node.ensures) in
    let n = c.args.heads.now.lattice.n in
    let reveals = g.D.Disk.reveals in
    let shape = c.args.shape.now in
    let s0 = g.D.Disk.state c.args.disk.now in
    let s1 = g.D.Disk.state c.write_block.new.disk in
    let w1 = cells_less reveals _ shape nodes (λ a. a ≢ block_of (c.next_node-node.result - 1) Datum) (λ a. a.node ≢ c.args.heads.now.lattice.n) s0 s1 (λ a other same. other (ap (λ (b : BlockId). b.node) same ∙ node)) (c.write_block.ensures.writes nodes (omega (arith, node, within))) in
    let s2 = g.D.Disk.state c.write_parity.new.disk in
    let w2 = cells_then reveals _ _ shape nodes (λ a. a.node ≢ c.args.heads.now.lattice.n) (λ a. a ≢ block_of n Horiz) s0 s1 s2 (λ is. absurd (cc)) (λ a other. apart n Horiz a other) w1 (c.write_parity.ensures.writes nodes within) in
    let s3 = g.D.Disk.state c.write_parity-2.new.disk in
    let w3 = cells_then reveals _ _ shape nodes (λ a. a.node ≢ c.args.heads.now.lattice.n) (λ a. a ≢ block_of n Right) s0 s2 s3 (λ is. absurd (cc)) (λ a other. apart n Right a other) w2 (c.write_parity-2.ensures.writes nodes within) in
    let s4 = g.D.Disk.state c.write_parity-3.new.disk in
    let w4 = cells_then reveals _ _ shape nodes (λ a. a.node ≢ c.args.heads.now.lattice.n) (λ a. a ≢ block_of n Left) s0 s3 s4 (λ is. absurd (cc)) (λ a other. apart n Left a other) w3 (c.write_parity-3.ensures.writes nodes within) in
    w4

pub returns-clause-padded : goal.returns-clause-padded
returns-clause-padded g c fine revealed a has other =
    let node : c.next_node-node.result - 1 ≡ c.args.heads.now.lattice.n = omega (arith, c.next_node-node.ensures) in
    let n = c.args.heads.now.lattice.n in
    c.write_parity-3.ensures.padded fine revealed a has (apart n Left a other)
    ∙ c.write_parity-2.ensures.padded (λ bad. absurd (let is = c.in-Ok-write_parity-2.is in cc)) revealed a has (apart n Right a other)
    ∙ c.write_parity.ensures.padded (λ bad. absurd (let is = c.in-Ok-write_parity.is in cc)) revealed a has (apart n Horiz a other)
    ∙ c.write_block.ensures.padded (λ bad. absurd (let is = c.in-Ok.is in cc)) revealed a has (λ same. other (ap (λ (b : BlockId). b.node) same ∙ node))

pub returns-clause-digests : goal.returns-clause-digests
returns-clause-digests g c =
    let node : c.next_node-node.result - 1 ≡ c.args.heads.now.lattice.n = omega (arith, c.next_node-node.ensures) in
    let v = c.args.heads.now in
    let x = c.args.datum.now in
    on_ok_weaker c.write_parity-3.result
    (λ last.
    four (last_digest v x) (λ k. nat_le (class_number k) v.lattice.alpha) c.args.digests.now.items c.write_block.new.digests.items c.write_parity.new.digests.items c.write_parity-2.new.digests.items c.write_parity-3.new.digests.items
    (subst (λ (n : ℕ). c.write_block.new.digests.items ≡ c.args.digests.now.items ++ block_digest (block_of n Datum) x ∷ []) node c.in-Ok.ensures.digest)
    (c.in-Ok-write_parity.ensures.digest x) (c.in-Ok-write_parity-2.ensures.digest x) last)
    (c.write_parity-3.ensures.digest x)

pub returns-clause-cells : goal.returns-clause-cells
returns-clause-cells g c =
    let node : c.next_node-node.result - 1 ≡ c.args.heads.now.lattice.n = omega (arith, c.next_node-node.ensures) in
    let v = c.args.heads.now in
    let n = v.lattice.n in
    let x = c.args.datum.now in
    let reveals = g.D.Disk.reveals in
    let shape = c.args.shape.now in
    let s1 = g.D.Disk.state c.write_block.new.disk in
    let s2 = g.D.Disk.state c.write_parity.new.disk in
    let s3 = g.D.Disk.state c.write_parity-2.new.disk in
    let s4 = g.D.Disk.state c.write_parity-3.new.disk in
    let lengths = c.cells_have_lengths.ensures in
    let has : (class : Class) → class_number class ≤ shape.alpha → IsBlockOf shape (block_of n class) =
    λ class used. record { first = c.requires.node; last = v.lattice.in_range; used = used } in
    let w2 = c.write_parity.ensures.writes n (omega arith) in
    let w3 = c.write_parity-2.ensures.writes n (omega arith) in
    let w4 = c.write_parity-3.ensures.writes n (omega arith) in
    on_ok_weaker c.write_parity-3.result
    (λ last revealed.
    let d1 = subst (λ (k : ℕ). HasAtHome shape (block_of k Datum) (cell_of (block_of k Datum) x) s1.files) node (c.in-Ok.ensures.home revealed) in
    elim [
      | Datum ↦ λ used.
          leaves lengths reveals _ revealed shape n n Datum Left x s3 s4 (has Datum used) (λ e. absurd (omega (arith, e))) c.requires.datum w4
          (leaves lengths reveals _ revealed shape n n Datum Right x s2 s3 (has Datum used) (λ e. absurd (omega (arith, e))) c.requires.datum w3
          (leaves lengths reveals _ revealed shape n n Datum Horiz x s1 s2 (has Datum used) (λ e. absurd (omega (arith, e))) c.requires.datum w2 d1))
      | Horiz ↦ λ used.
          leaves lengths reveals _ revealed shape n n Horiz Left (last_payload v x Horiz) s3 s4 (has Horiz used) (λ e. absurd (omega (arith, e))) (c.write_parity.ensures.wide used) w4
          (leaves lengths reveals _ revealed shape n n Horiz Right (last_payload v x Horiz) s2 s3 (has Horiz used) (λ e. absurd (omega (arith, e))) (c.write_parity.ensures.wide used) w3
          (c.in-Ok-write_parity.ensures.home revealed used x))
      | Right ↦ λ used.
          leaves lengths reveals _ revealed shape n n Right Left (last_payload v x Right) s3 s4 (has Right used) (λ e. absurd (omega (arith, e))) (c.write_parity-2.ensures.wide used) w4
          (c.in-Ok-write_parity-2.ensures.home revealed used x)
      | Left ↦ λ used. last revealed used x
    ])
    c.write_parity-3.ensures.home

pub returns-clause-wide : goal.returns-clause-wide
returns-clause-wide g c =
    on_ok_weaker c.write_parity-3.result
    (λ last. elim [
      | Datum ↦ λ used. c.requires.datum
      | Horiz ↦ λ used. c.write_parity.ensures.wide used
      | Right ↦ λ used. c.write_parity-2.ensures.wide used
      | Left ↦ λ used. c.write_parity-3.ensures.wide used
    ])
    (c.write_parity-3.ensures.digest c.args.datum.now)
