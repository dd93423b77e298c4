-- The longest runs of nodes, and one node more.
use Rattle.std.proofs.Common.{◌≡◌, ◌≢◌, ⊎_elim, ℕ, suc, ◌+◌, ◌-◌, ◌≤◌, Bool, true, false, ◌==◌, if◌then◌else◌, List, [], ◌∷◌, ◌++◌, length, get_or, set, All, refl, sym, ◌∙◌, ap, subst, arith}
use Rattle.std.proofs.lemmas.Bool.{cases_eq}
use Rattle.std.proofs.lemmas.Bool.Decides.{nat_tests}
use Rattle.std.proofs.lemmas.List.Elements.{All-cons}
use Rattle.aea_catalog.specs.declared.objects.Extent.{Extent}
use Rattle.aea_machine.specs.Machine.{onto_run, runs_of}
use Rattle.aea_uploads.specs.Slots.{Rise}

-- one node more behind the last part
abbrev pub push_run : List Extent → ℕ → List Extent
push_run [] node = record { first = node; count = 1 } ∷ []
push_run (e ∷ []) node = if e.first + e.count == node then record { first = e.first; count = suc e.count } ∷ [] else e ∷ record { first = node; count = 1 } ∷ []
push_run (e ∷ f ∷ parts) node = e ∷ push_run (f ∷ parts) node

eq_true : (a b : ℕ) → a ≡ b → (a == b) ≡ true
eq_true a b is = grind (arith, nat_tests, is)

eq_false : (a b : ℕ) → a ≢ b → (a == b) ≡ false
eq_false a b other = grind (arith, nat_tests, other)

pub onto_same : (a : ℕ) (e : Extent) (parts : List Extent) → suc a ≡ e.first → onto_run a (e ∷ parts) ≡ record { first = a; count = suc e.count } ∷ parts
onto_same a e parts is = ap (λ (t : Bool). if t then record { first = a; count = suc e.count } ∷ parts else record { first = a; count = 1 } ∷ e ∷ parts) (eq_true (suc a) e.first is)

pub onto_other : (a : ℕ) (e : Extent) (parts : List Extent) → suc a ≢ e.first → onto_run a (e ∷ parts) ≡ record { first = a; count = 1 } ∷ e ∷ parts
onto_other a e parts other = ap (λ (t : Bool). if t then record { first = a; count = suc e.count } ∷ parts else record { first = a; count = 1 } ∷ e ∷ parts) (eq_false (suc a) e.first other)

push_same : (e : Extent) (node : ℕ) → e.first + e.count ≡ node → push_run (e ∷ []) node ≡ record { first = e.first; count = suc e.count } ∷ []
push_same e node is = ap (λ (t : Bool). if t then record { first = e.first; count = suc e.count } ∷ [] else e ∷ record { first = node; count = 1 } ∷ []) (eq_true (e.first + e.count) node is)

push_other : (e : Extent) (node : ℕ) → e.first + e.count ≢ node → push_run (e ∷ []) node ≡ e ∷ record { first = node; count = 1 } ∷ []
push_other e node other = ap (λ (t : Bool). if t then record { first = e.first; count = suc e.count } ∷ [] else e ∷ record { first = node; count = 1 } ∷ []) (eq_false (e.first + e.count) node other)

abbrev one : ℕ → Extent
one node = record { first = node; count = 1 }

onto-push : (a : ℕ) (parts : List Extent) (node : ℕ) → onto_run a (push_run parts node) ≡ push_run (onto_run a parts) node
onto-push a [] node = ⊎_elim
    (λ same. onto_same a (one node) [] same ∙ sym (push_same (one a) node (omega (arith, same))))
    (λ other. onto_other a (one node) [] other ∙ sym (push_other (one a) node (λ e. other (omega (arith, e)))))
    (cases_eq (suc a) node)
onto-push a (e ∷ []) node =
    let long : Extent = record { first = e.first; count = suc e.count } in
    let back : Extent = record { first = a; count = suc e.count } in
    ⊎_elim
    (λ front. ⊎_elim
    (λ end.
    ap (onto_run a) (push_same e node end) ∙ onto_same a long [] front
    ∙ sym (ap (λ (l : List Extent). push_run l node) (onto_same a e [] front) ∙ push_same back node (omega (arith, front, end))))
    (λ off.
    ap (onto_run a) (push_other e node off) ∙ onto_same a e (one node ∷ []) front
    ∙ sym (ap (λ (l : List Extent). push_run l node) (onto_same a e [] front) ∙ push_other back node (λ h. off (omega (arith, front, h)))))
    (cases_eq (e.first + e.count) node))
    (λ apart. ⊎_elim
    (λ end.
    ap (onto_run a) (push_same e node end) ∙ onto_other a long [] apart
    ∙ sym (ap (λ (l : List Extent). push_run l node) (onto_other a e [] apart) ∙ ap (λ (l : List Extent). one a ∷ l) (push_same e node end)))
    (λ off.
    ap (onto_run a) (push_other e node off) ∙ onto_other a e (one node ∷ []) apart
    ∙ sym (ap (λ (l : List Extent). push_run l node) (onto_other a e [] apart) ∙ ap (λ (l : List Extent). one a ∷ l) (push_other e node off)))
    (cases_eq (e.first + e.count) node))
    (cases_eq (suc a) e.first)
onto-push a (e ∷ f ∷ parts) node = ⊎_elim
    (λ front. onto_same a e (push_run (f ∷ parts) node) front ∙ sym (ap (λ (l : List Extent). push_run l node) (onto_same a e (f ∷ parts) front)))
    (λ apart. onto_other a e (push_run (f ∷ parts) node) apart ∙ sym (ap (λ (l : List Extent). push_run l node) (onto_other a e (f ∷ parts) apart)))
    (cases_eq (suc a) e.first)

-- the longest runs of nodes, and one more behind them
pub runs-push : (nodes : List ℕ) (node : ℕ) → runs_of (nodes ++ node ∷ []) ≡ push_run (runs_of nodes) node
runs-push [] node = refl
runs-push (a ∷ nodes) node = ap (onto_run a) (runs-push nodes node) ∙ onto-push a (runs_of nodes) node

-- ---- where the parts end

All-head : (P : Extent → Type 0) (e : Extent) (parts : List Extent) → All P (e ∷ parts) → P e
All-head P e parts all = all 0 e (omega arith)

All-tail : (P : Extent → Type 0) (e : Extent) (parts : List Extent) → All P (e ∷ parts) → All P parts
All-tail P e parts all = λ k d inside. all (suc k) d (omega (arith, inside))

onto-all : (a m : ℕ) (parts : List Extent) → a + 1 ≤ m → All (λ (e : Extent). e.first + e.count ≤ m) parts → All (λ (e : Extent). e.first + e.count ≤ m) (onto_run a parts)
onto-all a m [] le all = All-cons (λ (e : Extent). e.first + e.count ≤ m) (one a) [] (omega (arith, le)) all
onto-all a m (e ∷ parts) le all =
    let P : Extent → Type 0 = λ (e : Extent). e.first + e.count ≤ m in
    let head : e.first + e.count ≤ m = All-head (λ (e : Extent). e.first + e.count ≤ m) e parts all in
    ⊎_elim
    (λ front.
    subst (All (λ (e : Extent). e.first + e.count ≤ m)) (sym (onto_same a e parts front))
    (All-cons (λ (e : Extent). e.first + e.count ≤ m) (record { first = a; count = suc e.count }) parts (omega (arith, front, head)) (All-tail (λ (e : Extent). e.first + e.count ≤ m) e parts all)))
    (λ apart.
    subst (All (λ (e : Extent). e.first + e.count ≤ m)) (sym (onto_other a e parts apart))
    (All-cons (λ (e : Extent). e.first + e.count ≤ m) (one a) (e ∷ parts) (omega (arith, le)) all))
    (cases_eq (suc a) e.first)

-- the runs of nodes that rise end where these do
pub runs-before : (after last : ℕ) (nodes : List ℕ) → Rise after last nodes → All (λ (e : Extent). e.first + e.count ≤ last + 1) (runs_of nodes)
runs-before after last [] rise = λ k d inside. absurd (omega (arith, inside))
runs-before after last (i ∷ nodes) rise = onto-all i (last + 1) (runs_of nodes) (let le = rise.1 in omega (arith, le)) (runs-before i last nodes rise.2)

-- ---- what the code does

-- the last part, one node longer
pub set-push : (parts : List Extent) (node : ℕ) (d : Extent) → 1 ≤ length parts → (get_or parts (length parts - 1) d).first + (get_or parts (length parts - 1) d).count ≡ node
    → set parts (length parts - 1) (record { first = (get_or parts (length parts - 1) d).first; count = (get_or parts (length parts - 1) d).count + 1 }) ≡ push_run parts node
set-push [] node d some is = absurd (omega (arith, some))
set-push (e ∷ []) node d some is = (let one : e.count + 1 ≡ suc e.count = omega arith in ap (λ (n : ℕ). record { first = e.first; count = n } ∷ []) one) ∙ sym (push_same e node is)
set-push (e ∷ f ∷ parts) node d some is =
    let at : length (e ∷ f ∷ parts) - 1 ≡ suc (length (f ∷ parts) - 1) = omega arith in
    let rest : (get_or (f ∷ parts) (length (f ∷ parts) - 1) d).first + (get_or (f ∷ parts) (length (f ∷ parts) - 1) d).count ≡ node =
    subst (λ (k : ℕ). (get_or (e ∷ f ∷ parts) k d).first + (get_or (e ∷ f ∷ parts) k d).count ≡ node) at is in
    subst (λ (k : ℕ). set (e ∷ f ∷ parts) k (record { first = (get_or (e ∷ f ∷ parts) k d).first; count = (get_or (e ∷ f ∷ parts) k d).count + 1 }) ≡ push_run (e ∷ f ∷ parts) node) (sym at)
    (ap (λ (l : List Extent). e ∷ l) (set-push (f ∷ parts) node d (omega arith) rest))

-- or one part more
pub snoc-push : (parts : List Extent) (node : ℕ) (d : Extent) → (1 ≤ length parts → (get_or parts (length parts - 1) d).first + (get_or parts (length parts - 1) d).count ≢ node)
    → parts ++ record { first = node; count = 1 } ∷ [] ≡ push_run parts node
snoc-push [] node d other = refl
snoc-push (e ∷ []) node d other = sym (push_other e node (other (omega arith)))
snoc-push (e ∷ f ∷ parts) node d other =
    let at : length (e ∷ f ∷ parts) - 1 ≡ suc (length (f ∷ parts) - 1) = omega arith in
    ap (λ (l : List Extent). e ∷ l) (snoc-push (f ∷ parts) node d (λ some is. other (omega arith) (rw (at) is)))
