-- The longest runs of nodes as the parts of an object.
use Rattle.std.proofs.Common.{◌≡◌, ⊎_elim, ℕ, zero, suc, ◌+◌, ◌-◌, ◌*◌, ◌/◌, ◌<◌, ◌≤◌, Bool, true, false, ◌&&◌, ◌==◌, List, [], ◌∷◌, ◌++◌, length, take, drop, get_or, All, refl, sym, ◌∙◌, ap, subst, arith, length-append}
use Rattle.std.specs.Prelude.{nat_le, nat_lt, IsTrue}
use Rattle.std.specs.List.{flat_map, sum_by}
use Rattle.std.proofs.lemmas.Nat.{div-mul-add}
use Rattle.std.proofs.lemmas.List.Sums.{sum_by-append}
use Rattle.std.proofs.lemmas.Bool.{cases_eq, and_parts, leb-true}
use Rattle.std.proofs.lemmas.Bool.Decides.{nat_tests}
use Rattle.aea_lattice.specs.declared.shape.Shape.{Shape}
use Rattle.aea_catalog.specs.declared.objects.Extent.{Extent}
use Rattle.aea_records.specs.Format.{nodes_for}
use Rattle.aea_records.specs.Fields.{are_apart, are_parts}
use Rattle.aea_records.specs.Recorded.{blocks_in}
use Rattle.aea_machine.specs.Machine.{onto_run, runs_of}
use Rattle.aea_machine.specs.Holding.{blocks_at}
use Rattle.aea_uploads.specs.Slots.{Rise}
use Rattle.aea_uploads.proofs.Pushes.{onto_same, onto_other}

-- ---- the blocks of the runs

take_one : (k : ℕ) (datas : List (List ℕ)) → k < length datas → take 1 (drop k datas) ≡ get_or datas k [] ∷ []
take_one zero [] inside = absurd (omega (arith, inside))
take_one zero (d ∷ datas) inside = refl
take_one (suc k) [] inside = absurd (omega (arith, inside))
take_one (suc k) (d ∷ datas) inside = take_one k datas (omega (arith, inside))

take_more : (k n : ℕ) (datas : List (List ℕ)) → k < length datas → take (suc n) (drop k datas) ≡ get_or datas k [] ∷ take n (drop (suc k) datas)
take_more zero n [] inside = absurd (omega (arith, inside))
take_more zero n (d ∷ datas) inside = refl
take_more (suc k) n [] inside = absurd (omega (arith, inside))
take_more (suc k) n (d ∷ datas) inside = take_more k n datas (omega (arith, inside))

onto-blocks : (i : ℕ) (parts : List Extent) (datas : List (List ℕ)) → 1 ≤ i → i ≤ length datas → blocks_in (onto_run i parts) datas ≡ get_or datas (i - 1) [] ∷ blocks_in parts datas
onto-blocks i [] datas some most = ap (λ (l : List (List ℕ)). l ++ []) (take_one (i - 1) datas (omega (arith, some, most)))
onto-blocks i (e ∷ parts) datas some most = ⊎_elim
    (λ front.
    let place : suc (i - 1) ≡ e.first - 1 = omega (arith, some, front) in
    ap (λ (l : List Extent). blocks_in l datas) (onto_same i e parts front)
    ∙ ap (λ (l : List (List ℕ)). l ++ blocks_in parts datas) (take_more (i - 1) e.count datas (omega (arith, some, most)))
    ∙ ap (λ (k : ℕ). get_or datas (i - 1) [] ∷ (take e.count (drop k datas) ++ blocks_in parts datas)) place)
    (λ apart.
    ap (λ (l : List Extent). blocks_in l datas) (onto_other i e parts apart)
    ∙ ap (λ (l : List (List ℕ)). l ++ blocks_in (e ∷ parts) datas) (take_one (i - 1) datas (omega (arith, some, most))))
    (cases_eq (suc i) e.first)

-- the blocks of the longest runs are those of the nodes
pub runs-blocks : (after : ℕ) (nodes : List ℕ) (datas : List (List ℕ)) → Rise after (length datas) nodes → blocks_in (runs_of nodes) datas ≡ blocks_at nodes datas
runs-blocks after [] datas rise = refl
runs-blocks after (i ∷ nodes) datas rise =
    onto-blocks i (runs_of nodes) datas (let a = rise.0 in omega (arith, a)) rise.1
    ∙ ap (λ (l : List (List ℕ)). get_or datas (i - 1) [] ∷ l) (runs-blocks i nodes datas rise.2)

-- ---- they lie apart

le_true : (a b : ℕ) → a ≤ b → nat_le a b ≡ true
le_true a b le = grind (arith, nat_tests, le)

lt_true : (a b : ℕ) → a < b → nat_lt a b ≡ true
lt_true a b lt = grind (arith, nat_tests, lt)

both : (a b : Bool) → a ≡ true → b ≡ true → (a && b) ≡ true
both true true p q = refl
both true false p q = absurd (cc)
both false b p q = absurd (cc)

one_apart : (after last : ℕ) (e : Extent) (parts : List Extent) → after < e.first → 1 ≤ e.count → e.first + e.count ≤ last + 1 → are_apart (e.first + e.count - 1) last parts ≡ true → are_apart after last (e ∷ parts) ≡ true
one_apart after last e parts lt some most rest =
    both (nat_lt after e.first && nat_le 1 e.count && nat_le (e.first + e.count) (last + 1)) (are_apart (e.first + e.count - 1) last parts)
    (both (nat_lt after e.first && nat_le 1 e.count) (nat_le (e.first + e.count) (last + 1))
    (both (nat_lt after e.first) (nat_le 1 e.count) (lt_true after e.first lt) (le_true 1 e.count some))
    (le_true (e.first + e.count) (last + 1) most))
    rest

onto-apart : (after last i : ℕ) (parts : List Extent) → after < i → i ≤ last → are_apart i last parts ≡ true → are_apart after last (onto_run i parts) ≡ true
onto-apart after last i [] lt le apart = one_apart after last (record { first = i; count = 1 }) [] lt (omega arith) (omega (arith, le)) refl
onto-apart after last i (e ∷ parts) lt le apart =
    let a = and_parts (nat_lt i e.first && nat_le 1 e.count && nat_le (e.first + e.count) (last + 1)) (are_apart (e.first + e.count - 1) last parts) apart in
    let b = and_parts (nat_lt i e.first && nat_le 1 e.count) (nat_le (e.first + e.count) (last + 1)) a.0 in
    let end = leb-true (e.first + e.count) (last + 1) b.1 in
    ⊎_elim
    (λ front.
    let place : e.first + e.count - 1 ≡ i + suc e.count - 1 = omega (arith, front) in
    subst (λ (l : List Extent). are_apart after last l ≡ true) (sym (onto_same i e parts front))
    (one_apart after last (record { first = i; count = suc e.count }) parts lt (omega arith) (omega (arith, front, end)) (subst (λ (k : ℕ). are_apart k last parts ≡ true) place a.1)))
    (λ away.
    let place : i ≡ i + 1 - 1 = omega arith in
    subst (λ (l : List Extent). are_apart after last l ≡ true) (sym (onto_other i e parts away))
    (one_apart after last (record { first = i; count = 1 }) (e ∷ parts) lt (omega arith) (omega (arith, le)) (subst (λ (k : ℕ). are_apart k last (e ∷ parts) ≡ true) place apart)))
    (cases_eq (suc i) e.first)

pub runs-apart : (after last : ℕ) (nodes : List ℕ) → Rise after last nodes → are_apart after last (runs_of nodes) ≡ true
runs-apart after last [] rise = refl
runs-apart after last (i ∷ nodes) rise = onto-apart after last i (runs_of nodes) rise.0 rise.1 (runs-apart i last nodes rise.2)

-- ---- and have as many nodes

cons-sum : (e : Extent) (parts : List Extent) → sum_by (λ (x : Extent). x.count) (e ∷ parts) ≡ e.count + sum_by (λ (x : Extent). x.count) parts
cons-sum e parts =
    let one : sum_by (λ (x : Extent). x.count) (e ∷ []) ≡ e.count = omega arith in
    sum_by-append (λ (x : Extent). x.count) (e ∷ []) parts ∙ omega (arith, one)

onto-sum : (i : ℕ) (parts : List Extent) → sum_by (λ (e : Extent). e.count) (onto_run i parts) ≡ suc (sum_by (λ (e : Extent). e.count) parts)
onto-sum i [] = refl
onto-sum i (e ∷ parts) =
    let own = cons-sum e parts in
    ⊎_elim
    (λ front.
    let more = cons-sum (record { first = i; count = suc e.count }) parts in
    ap (sum_by (λ (x : Extent). x.count)) (onto_same i e parts front) ∙ omega (arith, own, more))
    (λ away.
    let more = cons-sum (record { first = i; count = 1 }) (e ∷ parts) in
    ap (sum_by (λ (x : Extent). x.count)) (onto_other i e parts away) ∙ omega (arith, own, more))
    (cases_eq (suc i) e.first)

pub runs-sum : (nodes : List ℕ) → sum_by (λ (e : Extent). e.count) (runs_of nodes) ≡ length nodes
runs-sum [] = refl
runs-sum (i ∷ nodes) = onto-sum i (runs_of nodes) ∙ ap suc (runs-sum nodes)

-- ---- so they are the parts of an object

pub joined-long : (size : ℕ) (blocks : List (List ℕ)) → All (λ (d : List ℕ). length d ≡ size) blocks → length (flat_map (λ d. d) blocks) ≡ length blocks * size
joined-long size [] wide = let e : 0 ≡ 0 * size = omega arith in e
joined-long size (d ∷ blocks) wide =
    let head : length d ≡ size = wide 0 d (omega arith) in
    let rest = joined-long size blocks (λ k x inside. wide (suc k) x (omega (arith, inside))) in
    let e : length (d ∷ blocks) * size ≡ size + length blocks * size = omega arith in
    length-append d (flat_map (λ (x : List ℕ). x) blocks) ∙ omega (arith, head, rest, e)

-- so many blocks hold so many bytes and fewer than a block of zeros
pub nodes-hold : (shape : Shape) (n long zeros : ℕ) → zeros < shape.block → n * shape.block ≡ long + zeros → nodes_for shape long ≡ n
nodes-hold shape n long zeros few is =
    let e : long + shape.block - 1 ≡ n * shape.block + (shape.block - 1 - zeros) = omega (arith, few, is) in
    ap (λ (k : ℕ). k / shape.block) e ∙ div-mul-add n shape.block (shape.block - 1 - zeros) (omega (arith, few))

pub runs-parts : (shape : Shape) (size last : ℕ) (nodes : List ℕ) → Rise 0 last nodes → length nodes ≡ nodes_for shape size → IsTrue (are_parts shape size last (runs_of nodes))
runs-parts shape size last nodes rise count =
    let same : (sum_by (λ (e : Extent). e.count) (runs_of nodes) == nodes_for shape size) ≡ true = grind (arith, nat_tests, runs-sum nodes, count) in
    both (are_apart 0 last (runs_of nodes)) (sum_by (λ (e : Extent). e.count) (runs_of nodes) == nodes_for shape size) (runs-apart 0 last nodes rise) same
