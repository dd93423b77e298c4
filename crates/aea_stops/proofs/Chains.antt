-- Records that add blocks, one after the other, whichever they are of: how many nodes there are after them, and the digests of the
-- blocks.
use Rattle.std.proofs.Common.{◌≡◌, ⊎_elim, ℕ, zero, suc, ◌+◌, ◌-◌, ◌*◌, ◌≤◌, List, [], ◌∷◌, ◌++◌, length, take, get_or, refl, sym, ◌∙◌, ap, arith, append_assoc, length-append}
use Rattle.std.proofs.Math.Nat.{mul-le-mul_right}
use Rattle.std.specs.List.{sum_by, flat_map}
use Rattle.std.proofs.lemmas.Bool.{cases_lt}
use Rattle.std.proofs.lemmas.List.{append-nil, get_or_append_left, get_or-append_right}
use Rattle.aea_lattice.specs.declared.blocks.BlockId.{BlockId}
use Rattle.aea_lattice.specs.declared.grid.Lattice.{Lattice}
use Rattle.aea_lattice.specs.declared.shape.Shape.{Shape}
use Rattle.aea_lattice.specs.Shapes.{number_in}
use Rattle.aea_envelope.specs.Cells.{block_digest}
use Rattle.aea_records.specs.Format.{Stored, Record, stored_in, stored_of, nodes_of, digests_of}
use Rattle.aea_records.proofs.OneMore.{nodes_of-push, nodes_of-append, digests_of-push}
use Rattle.aea_archive.specs.Blocks.{IsBlockOn, recorded_in}
use Rattle.aea_archive.specs.Next.{NewObject, AreDigestsOn, AreNextRecords}
use Rattle.aea_machine.specs.Closings.{Closing, AreClosedRecords}
use Rattle.aea_command_store.proofs.Agreeing.{digests_of-append}

-- Records that add the nodes after the first of two numbers up to the second, of blocks with these payloads: each is of one object,
-- and has the digests of its new blocks.
abbrev pub AddNodes : Shape → ℕ → ℕ → (BlockId → List ℕ) → List Record → Type 0
AddNodes shape n last payload [] = n ≡ last
AddNodes shape n last payload (r ∷ records) =
    (next : ℕ) × (stored : Stored) × (stored_in r ≡ stored ∷ []) × (next ≡ n + stored.count) × AreDigestsOn shape n next payload stored.digests
    × AddNodes shape next last payload records

-- the next records of objects do
pub of_objects : (shape : Shape) (l m : Lattice) (payload : BlockId → List ℕ) (objects : List NewObject) (added : List Record) → AreNextRecords shape l m payload objects added → AddNodes shape l.n m.n payload added
of_objects shape l m payload [] [] same = ap (λ (k : Lattice). k.n) same
of_objects shape l m payload [] (r ∷ added) none = absurd none
of_objects shape l m payload (o ∷ objects) [] none = absurd none
of_objects shape l m payload (o ∷ objects) (r ∷ added) next =
    (next.0.n, next.1, ap stored_in next.2, next.3.grown.nodes, next.3.digests, of_objects shape next.0 m payload objects added next.4)

-- and those of closes
pub of_closes : (shape : Shape) (l m : Lattice) (payload : BlockId → List ℕ) (closings : List Closing) (added : List Record) → AreClosedRecords shape l m payload closings added → AddNodes shape l.n m.n payload added
of_closes shape l m payload [] [] same = ap (λ (k : Lattice). k.n) same
of_closes shape l m payload [] (r ∷ added) none = absurd none
of_closes shape l m payload (c ∷ closings) [] none = absurd none
of_closes shape l m payload (c ∷ closings) (r ∷ added) next =
    (next.0.n, next.1, ap stored_in next.2, next.3.grown.nodes, next.3.digests, of_closes shape next.0 m payload closings added next.4)

-- ---- how many nodes there are

-- with one of them
nodes_one : (records : List Record) (r : Record) (stored : Stored) → stored_in r ≡ stored ∷ [] → nodes_of (records ++ r ∷ []) ≡ nodes_of records + stored.count
nodes_one records r stored is = nodes_of-push records r ∙ ap (λ (os : List Stored). nodes_of records + sum_by (λ (o : Stored). o.count) os) is ∙ omega arith

-- and with all
pub nodes_added : (shape : Shape) (records : List Record) (n last : ℕ) (payload : BlockId → List ℕ) (added : List Record) → n ≡ nodes_of records → AddNodes shape n last payload added → last ≡ nodes_of (records ++ added)
nodes_added shape records n last payload [] is same = sym same ∙ is ∙ sym (ap nodes_of (append-nil records))
nodes_added shape records n last payload (r ∷ added) is next =
    nodes_added shape (records ++ r ∷ []) next.0 last payload added (next.3 ∙ ap (λ (k : ℕ). k + next.1.count) is ∙ sym (nodes_one records r next.1 next.2)) next.5
    ∙ ap nodes_of (append_assoc records (r ∷ []) added)

-- ---- the digests of the new blocks

-- of a block of the next record
digest_next : (shape : Shape) (records rest : List Record) (r : Record) (stored : Stored) (payload : BlockId → List ℕ) (before last : ℕ) (b : BlockId) → stored_in r ≡ stored ∷ [] → length (digests_of records) ≡ before * (1 + shape.alpha)
    → length stored.digests ≡ stored.count * (1 + shape.alpha) → last ≡ before + stored.count → IsBlockOn shape before last b → get_or stored.digests (number_in shape b - before * (1 + shape.alpha)) [] ≡ block_digest b (payload b)
    → recorded_in shape (digests_of (records ++ r ∷ rest)) b ≡ block_digest b (payload b)
digest_next shape records rest r stored payload before last b one long many is on each =
    let after = on.after in
    let most = on.most in
    let used = on.used in
    let rows : before * (1 + shape.alpha) ≤ (b.node - 1) * (1 + shape.alpha) = mul-le-mul_right (1 + shape.alpha) (let e : before ≤ b.node - 1 = omega (arith, after) in e) in
    let end : suc (b.node - 1) * (1 + shape.alpha) ≤ (before + stored.count) * (1 + shape.alpha) = mul-le-mul_right (1 + shape.alpha) (let e : suc (b.node - 1) ≤ before + stored.count = omega (arith, after, most, is) in e) in
    let first : digests_of (r ∷ rest) ≡ stored.digests ++ digests_of rest = ap (λ (os : List Stored). flat_map (λ (o : Stored). o.digests) (os ++ stored_of rest)) one in
    ap (λ (ds : List (List ℕ)). recorded_in shape ds b) (digests_of-append records (r ∷ rest) ∙ ap (λ (ds : List (List ℕ)). digests_of records ++ ds) first)
    ∙ get_or-append_right (digests_of records) (stored.digests ++ digests_of rest) (length (digests_of records)) (number_in shape b) [] refl (omega (arith, rows, long))
    ∙ ap (λ (n : ℕ). get_or (stored.digests ++ digests_of rest) (number_in shape b - n) []) long
    ∙ get_or_append_left stored.digests (digests_of rest) [] (number_in shape b - before * (1 + shape.alpha)) (omega (arith, rows, end, used, many))
    ∙ each

-- of a block of the first of several
pub digest_of_new : (shape : Shape) (records : List Record) (n last : ℕ) (payload : BlockId → List ℕ) (added : List Record) (k : ℕ) → n ≡ nodes_of records → length (digests_of records) ≡ n * (1 + shape.alpha) → AddNodes shape n last payload added
    → (b : BlockId) → IsBlockOn shape (nodes_of records) (nodes_of (records ++ take k added)) b → recorded_in shape (digests_of (records ++ take k added)) b ≡ block_digest b (payload b)
digest_of_new shape records n last payload added zero nodes long next b on = absurd (let a = on.after in let most = on.most in omega (arith, a, most, nodes_of-append records []))
digest_of_new shape records n last payload [] (suc k) nodes long next b on = absurd (let a = on.after in let most = on.most in omega (arith, a, most, nodes_of-append records []))
digest_of_new shape records n last payload (r ∷ added) (suc k) nodes long next b on =
    let mid = next.0 in
    let stored = next.1 in
    let one = next.2 in
    let grown : mid ≡ n + stored.count = next.3 in
    let digests = next.4 in
    let new : mid - n ≡ stored.count = omega (arith, grown) in
    let many : length stored.digests ≡ stored.count * (1 + shape.alpha) = digests.long ∙ ap (λ (i : ℕ). i * (1 + shape.alpha)) new in
    let first : List Record = records ++ r ∷ [] in
    let mid_nodes : mid ≡ nodes_of first = omega (arith, grown, nodes, nodes_one records r stored one) in
    let alone : digests_of first ≡ digests_of records ++ stored.digests =
    digests_of-push records r ∙ ap (λ (os : List Stored). digests_of records ++ flat_map (λ (o : Stored). o.digests) os) one ∙ ap (λ (ds : List (List ℕ)). digests_of records ++ ds) (append-nil stored.digests) in
    let mid_long : length (digests_of first) ≡ mid * (1 + shape.alpha) = omega (arith, ap length alone, length-append (digests_of records) stored.digests, long, many, ap (λ (i : ℕ). i * (1 + shape.alpha)) grown) in
    let all : first ++ take k added ≡ records ++ r ∷ take k added = append_assoc records (r ∷ []) (take k added) in
    ⊎_elim
    (λ late.
    ap (λ (rs : List Record). recorded_in shape (digests_of rs) b) (sym all)
    ∙ digest_of_new shape first mid last payload added k mid_nodes mid_long next.5 b
    (record { after = omega (arith, late, mid_nodes); most = (let most = on.most in omega (arith, most, ap nodes_of all)); used = on.used }))
    (λ early.
    let here : IsBlockOn shape n mid b = record { after = (let a = on.after in omega (arith, a, nodes)); most = early; used = on.used } in
    digest_next shape records (take k added) r stored payload n mid b one long many grown here (digests.each b here))
    (cases_lt mid b.node)
