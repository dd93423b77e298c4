-- How long the texts are that are printed of an archive of one node.
use Rattle.std.proofs.Common.{◌≡◌, ⊎_elim, ℕ, ◌<◌, ◌≤◌, Bool, true, false, cond, List, [], ◌∷◌, ◌++◌, length, filter, refl, sym, ◌∙◌, ap, subst, arith, length-append}
use Rattle.std.specs.Prelude.{codes, decimal}
use Rattle.std.specs.List.{flat_map}
use Rattle.std.proofs.lemmas.Bool.{cases_Bool}
use Rattle.std.proofs.lemmas.Fmt.{decimal_digit}
use Rattle.aea_lattice.specs.declared.blocks.BlockId.{BlockId}
use Rattle.aea_lattice.specs.declared.blocks.EqId.{EqId}
use Rattle.aea_lattice.specs.Equations.{equations_of}
use Rattle.aea_lattice.specs.Lists.{is_listed, has_node}
use Rattle.aea_lattice.specs.Strands.{nodes_to}
use Rattle.aea_lattice.specs.Texts.{text_of}
use Rattle.aea_report.specs.Format.{numbers_text}
use Rattle.aea_gauss.specs.declared.fates.Fate.{Fate}
use Rattle.aea_gauss.specs.declared.fates.Fate.TheVariants.{Sum, Word}
use Rattle.aea_gauss.specs.Fates.{IsFate}
use Rattle.aea_command_loss.specs.Explain.{equation_text, fate_text, standing_text}
use Rattle.aea_run_laws.proofs.OneBlock.{one}

pub digit_long : (n : ℕ) → n < 10 → length (decimal n) ≡ 1
digit_long n small = ap length (decimal_digit n small)

pub block_long : (b : BlockId) → b.node ≡ 1 → length (text_of b) ≡ 2
block_long b is = let long : length (decimal b.node) ≡ 1 = ap (λ (n : ℕ). length (decimal n)) is ∙ digit_long 1 (omega arith) in omega (arith, long)

-- the text of some items is not longer than that of all
part_long : {X : Type 0} (text : X → List ℕ) (p : X → Bool) (xs : List X) → length (flat_map text (filter p xs)) ≤ length (flat_map text xs)
part_long text p [] = omega arith
part_long text p (x ∷ xs) =
    let rest = part_long text p xs in
    let all = length-append (text x) (flat_map text xs) in
    let some = length-append (text x) (flat_map text (filter p xs)) in
    ⊎_elim
    (λ (on : p x ≡ true). subst (λ (b : Bool). length (flat_map text (cond b (x ∷ filter p xs) (filter p xs))) ≤ length (flat_map text (x ∷ xs))) (sym on) (omega (arith, rest, all, some)))
    (λ (off : p x ≡ false). subst (λ (b : Bool). length (flat_map text (cond b (x ∷ filter p xs) (filter p xs))) ≤ length (flat_map text (x ∷ xs))) (sym off) (omega (arith, rest, all)))
    (cases_Bool (p x))

-- ---- explanations

-- the texts of the three equations, with this text of the number 1
abbrev equations_long : List ℕ → ℕ
equations_long a = length ((codes " " ++ (104 ∷ a)) ++ ((codes " " ++ (114 ∷ a)) ++ ((codes " " ++ (108 ∷ a)) ++ [])))

all_equations : length (flat_map equation_text (equations_of one)) ≡ 9
all_equations =
    (let same : length (flat_map equation_text (equations_of one)) ≡ equations_long (decimal 1) = refl in same)
    ∙ ap equations_long (decimal_digit 1 (omega arith))

-- and that of the one node
abbrev nodes_long : List ℕ → ℕ
nodes_long a = length ((codes " " ++ a) ++ [])

all_nodes : length (numbers_text (nodes_to 1)) ≡ 2
all_nodes = (let same : length (numbers_text (nodes_to 1)) ≡ nodes_long (decimal 1) = refl in same) ∙ ap nodes_long (decimal_digit 1 (omega arith))

pub fate_long : (fate : Fate) (known : BlockId → Bool) → IsFate one known fate → length (fate_text fate) ≤ 13
fate_long (Sum b equations) known is =
    let few : length (flat_map equation_text equations) ≤ 9 =
    subst (λ (es : List EqId). length (flat_map equation_text es) ≤ 9) (sym is.ordered)
    (let some = part_long equation_text (is_listed equations) (equations_of one) in let all = all_equations in omega (arith, some, all)) in
    let line = length-append (flat_map equation_text equations) (10 ∷ []) in
    omega (arith, few, line)
fate_long (Word b nodes) known is =
    let few : length (numbers_text nodes) ≤ 2 =
    subst (λ (ns : List ℕ). length (numbers_text ns) ≤ 2) (sym is.ordered)
    (let some = part_long (λ (n : ℕ). codes " " ++ decimal n) (has_node nodes) (nodes_to 1) in let all = all_nodes in omega (arith, some, all)) in
    let line = length-append (numbers_text nodes) (10 ∷ []) in
    omega (arith, few, line)

pub standing_long : (intact : Bool) (b : BlockId) → b.node ≡ 1 → length (standing_text intact b) ≤ 11
standing_long true b is =
    let long : length (decimal b.node) ≡ 1 = ap (λ (n : ℕ). length (decimal n)) is ∙ digit_long 1 (omega arith) in
    let line = length-append (decimal b.node) (10 ∷ []) in
    omega (arith, long, line)
standing_long false b is =
    let long : length (decimal b.node) ≡ 1 = ap (λ (n : ℕ). length (decimal n)) is ∙ digit_long 1 (omega arith) in
    let line = length-append (decimal b.node) (10 ∷ []) in
    omega (arith, long, line)
