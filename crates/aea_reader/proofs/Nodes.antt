-- Nodes that are read one after the other.
use Rattle.std.proofs.Common.{◌≡◌, ℕ, suc, ◌<◌, ◌≤◌, List, [], ◌∷◌, ◌++◌, length, codes, decimal, append_assoc, arith, refl, sym, ◌∙◌, ap, subst, Option, Some, None, Bor}
use Rattle.std.specs.Prelude.{MatchOption}
use Rattle.std.proofs.lemmas.List.{append-nil}
use Rattle.std.proofs.lemmas.List.Concat.{flat_map-append}
use Rattle.aea_lattice.specs.declared.grid.Lattice.{Lattice}
use Rattle.aea_report.specs.Format.{numbers_text}
use Rattle.aea_report.specs.Grammar.{RiseFrom, AreNodes}
use Rattle.aea_reader.specs.Words.{Starts, spaced}

-- the text is that of nodes that may follow this one
pub record Continues (l : Lattice) (last : ℕ) (text : List ℕ) : Type 0 where
  pub more : List ℕ
  pub rise : RiseFrom l last more
  pub are : text ≡ numbers_text more

-- the node at the beginning of the text was read, if there is one that may follow
abbrev pub ReadsNode : Lattice → ℕ → List ℕ → Option (ℕ × Bor (List ℕ)) → Type 0
ReadsNode l last text r =
    (n : ℕ) (rest : List ℕ) → last < n → n ≤ l.n → Starts 32 rest → text ≡ spaced n rest → MatchOption r ⊥ (λ q. (q.0 ≡ n) × (q.1.now ≡ rest))

numbers-start : (numbers : List ℕ) → Starts 32 (numbers_text numbers)
numbers-start [] = tt
numbers-start (n ∷ numbers) = refl

step_at : (l : Lattice) (last : ℕ) (text : List ℕ) (q : ℕ × Bor (List ℕ)) → ReadsNode l last text (Some q) → 0 < length text → (more : List ℕ) → RiseFrom l last more → text ≡ numbers_text more → Continues l q.0 q.1.now
step_at l last text q reads some [] rise are = let none : length text ≡ 0 = ap length are in absurd (omega arith)
step_at l last text q reads some (j ∷ more) rise are =
    let same = reads j (numbers_text more) rise.0 rise.1 (numbers-start more) are in
    record { more = more; rise = subst (λ i. RiseFrom l i more) (sym same.0) rise.2; are = same.1 }

stop_at : (l : Lattice) (last : ℕ) (text : List ℕ) → ReadsNode l last text None → 0 < length text → (more : List ℕ) → RiseFrom l last more → text ≡ numbers_text more → ⊥
stop_at l last text reads some [] rise are = let none : length text ≡ 0 = ap length are in omega arith
stop_at l last text reads some (j ∷ more) rise are = reads j (numbers_text more) rise.0 rise.1 (numbers-start more) are

-- after a node that was read
pub continues : (l : Lattice) (last : ℕ) (text : List ℕ) (r : Option (ℕ × Bor (List ℕ))) (q : ℕ × Bor (List ℕ)) → r ≡ Some q → ReadsNode l last text r → 0 < length text
    → Continues l last text → Continues l q.0 q.1.now
continues l last text r q is reads some on = step_at l last text q (subst (ReadsNode l last text) is reads) some on.more on.rise on.are

-- where none was read
pub stops : (l : Lattice) (last : ℕ) (text : List ℕ) (r : Option (ℕ × Bor (List ℕ))) → r ≡ None → ReadsNode l last text r → 0 < length text → Continues l last text → ⊥
stops l last text r is reads some on = stop_at l last text (subst (ReadsNode l last text) is reads) some on.more on.rise on.are

-- the text with one node more
pub spelled_more : (nodes : List ℕ) (node : ℕ) (text rest after : List ℕ) → text ≡ numbers_text nodes ++ rest → rest ≡ spaced node after → text ≡ numbers_text (nodes ++ node ∷ []) ++ after
spelled_more nodes node text rest after one two =
    let piece = codes " " ++ decimal node in
    let more : numbers_text (nodes ++ node ∷ []) ≡ numbers_text nodes ++ piece = flat_map-append (λ n. codes " " ++ decimal n) nodes (node ∷ []) ∙ ap (λ xs. numbers_text nodes ++ xs) (append-nil piece) in
    one ∙ ap (λ xs. numbers_text nodes ++ xs) two ∙ sym (append_assoc (numbers_text nodes) piece after) ∙ ap (λ xs. xs ++ after) (sym more)

-- what may follow one node more may follow the nodes with it
pub rises_more : (l : Lattice) (nodes : List ℕ) (last node : ℕ) → last < node → node ≤ l.n → ((more : List ℕ) → RiseFrom l last more → RiseFrom l 0 (nodes ++ more))
    → (more : List ℕ) → RiseFrom l node more → RiseFrom l 0 ((nodes ++ node ∷ []) ++ more)
rises_more l nodes last node above within rises more rise = subst (RiseFrom l 0) (sym (append_assoc nodes (node ∷ []) more)) (rises (node ∷ more) (above, within, rise))

-- all was read
pub all_read : (l : Lattice) (nodes : List ℕ) (last : ℕ) (text rest : List ℕ) → text ≡ numbers_text nodes ++ rest → rest ≡ [] → 0 < length nodes
    → ((more : List ℕ) → RiseFrom l last more → RiseFrom l 0 (nodes ++ more)) → (text ≡ numbers_text nodes) × AreNodes l nodes
all_read l nodes last text rest spelled none some rises = (
  spelled ∙ ap (λ xs. numbers_text nodes ++ xs) none ∙ append-nil (numbers_text nodes),
  (some, subst (RiseFrom l 0) (append-nil nodes) (rises [] tt)),
)

-- nodes have some text
pub some_text : (l : Lattice) (nodes text : List ℕ) → AreNodes l nodes → text ≡ numbers_text nodes → text ≡ [] → ⊥
some_text l [] text are spelled none = let some = are.0 in omega arith
some_text l (j ∷ nodes) text are spelled none =
    let long : 0 ≡ suc (length (decimal j ++ numbers_text nodes)) = ap length (sym none ∙ spelled) in
    omega arith
