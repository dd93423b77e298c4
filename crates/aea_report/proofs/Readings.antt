-- A report has one reading: its head and its lines are read off its texts.
use Rattle.std.proofs.Common.{◌≡◌, ◌≢◌, ℕ, suc, ◌+◌, ◌<◌, ◌^◌, inl, inr, List, [], ◌∷◌, ◌++◌, length, get_or, drop, cond, codes, decimal, arith, refl, sym, ◌∙◌, ap, Option, Some, None, slice_index}
use Rattle.std.specs.Prelude.{◌==◌, map, All, IfSome, Ok}
use Rattle.std.specs.Result.{result_unwrap_or}
use Rattle.std.proofs.lemmas.Bool.{cases_lt}
use Rattle.std.proofs.lemmas.Fmt.{decimal_injective}
use Rattle.std.proofs.lemmas.List.{get_or_past}
use Rattle.std.proofs.lemmas.List.Elements.{All-tail}
use Rattle.hex.specs.Hex.{IsBytes as AreBytes, encode_lower, lower_digits, decode_of}
use Rattle.hex.proofs.HexLemmas.{length-encode_with, decode_of-encode_lower}
use Rattle.aea_lattice.specs.declared.blocks.Class.{Class}
use Rattle.aea_lattice.specs.declared.blocks.Class.TheVariants.{Datum, Horiz, Right, Left}
use Rattle.aea_lattice.specs.declared.blocks.BlockId.{BlockId}
use Rattle.aea_lattice.specs.declared.grid.Lattice.{Lattice}
use Rattle.aea_lattice.specs.Blocks.{number_of}
use Rattle.aea_lattice.specs.Data.{IsBytes}
use Rattle.aea_lattice.specs.Texts.{letter_of, text_of}
use Rattle.aea_lattice.proofs.Equations.{block_equal}
use Rattle.aea_report.specs.declared.head.Head.{Head}
use Rattle.aea_report.specs.declared.line.Line.{Line}
use Rattle.aea_report.specs.declared.line.Line.TheVariants.{Peeled, Solved, Lost}
use Rattle.aea_report.specs.Format.{seal_text, numbers_text, head_texts, line_text, report_texts, block_in}
use Rattle.aea_report.specs.Grammar.{IsHeadOf, IsLine, AreLinesFrom}
use Rattle.aea_report.specs.Laws.{HaveOneReading}
use Rattle.aea_report.proofs.Splits.{Starts, first_same, joined_same}
use Rattle.aea_report.proofs.Plain.{AreNumbers, shape-numbers, counts-numbers, nodes-numbers, node-number, decimal-free, block-free, report-plain}

-- ---- numbers

numbers-start : (numbers : List ℕ) → Starts 32 (numbers_text numbers)
numbers-start [] = tt
numbers-start (n ∷ numbers) = refl

-- a text has its numbers in one way
numbers_same : (xs ys : List ℕ) → AreNumbers xs → AreNumbers ys → numbers_text xs ≡ numbers_text ys → xs ≡ ys
numbers_same [] [] one two e = refl
numbers_same [] (y ∷ ys) one two e = let short : 0 ≡ suc (length (decimal y ++ numbers_text ys)) = ap length e in absurd (omega arith)
numbers_same (x ∷ xs) [] one two e = let short : suc (length (decimal x ++ numbers_text xs)) ≡ 0 = ap length e in absurd (omega arith)
numbers_same (x ∷ xs) (y ∷ ys) one two e =
    let first = first_same 32 (decimal x) (decimal y) (numbers_text xs) (numbers_text ys)
    (decimal-free 32 x (omega arith) (one 0 0 (omega arith))) (decimal-free 32 y (omega arith) (two 0 0 (omega arith))) (numbers-start xs) (numbers-start ys) (ap (drop 1) e) in
    let same : x ≡ y = decimal_injective x y (one 0 0 (omega arith)) (two 0 0 (omega arith)) first.0 in
    let more : xs ≡ ys = numbers_same xs ys (All-tail (λ n. n < 2 ^ 64) x xs one) (All-tail (λ n. n < 2 ^ 64) y ys two) first.1 in
    ap (λ z. z ∷ xs) same ∙ ap (λ zs. y ∷ zs) more

-- ---- blocks

-- the class of a letter
abbrev class_by : ℕ → Class
class_by x = cond (x == 100) Datum (cond (x == 104) Horiz (cond (x == 114) Right Left))

class_back : (c : Class) → class_by (letter_of c) ≡ c
class_back Datum = refl
class_back Horiz = refl
class_back Right = refl
class_back Left = refl

block_same : (a b : BlockId) → a.node < 2 ^ 64 → b.node < 2 ^ 64 → text_of a ≡ text_of b → a ≡ b
block_same a b one two e =
    let letter : letter_of a.class ≡ letter_of b.class = ap (λ xs. get_or xs 0 0) e in
    block_equal a b (decimal_injective a.node b.node one two (ap (drop 1) e)) (sym (class_back a.class) ∙ ap class_by letter ∙ class_back b.class)

-- ---- lines

-- lines that begin with different letters are not the same
first_letter : (x y : ℕ) (xs ys : List ℕ) → x ≢ y → x ∷ xs ≡ y ∷ ys → ⊥
first_letter x y xs ys other e = other (ap (λ zs. get_or zs 0 0) e)

lost_same : (a b : BlockId) (xs ys : List ℕ) → a.node < 2 ^ 64 → b.node < 2 ^ 64 → AreNumbers xs → AreNumbers ys
    → line_text (Lost a xs) ≡ line_text (Lost b ys) → Lost a xs ≡ Lost b ys
lost_same a b xs ys one two three four e =
    let first = first_same 32 (text_of a) (text_of b) (codes " by" ++ numbers_text xs) (codes " by" ++ numbers_text ys)
    (block-free 32 a (omega arith) one) (block-free 32 b (omega arith) two) refl refl (ap (drop 5) e) in
    ap (λ c. Lost c xs) (block_same a b one two first.0) ∙ ap (Lost b) (numbers_same xs ys three four (ap (drop 3) first.1))

-- a line of a block has one reading
pub line_same : (l m : Lattice) (j k : ℕ) (x y : Line) → IsLine l j x → IsLine m k y → line_text x ≡ line_text y → x ≡ y
line_same l m j k (Peeled a) (Peeled b) one two e = ap Peeled (block_same a b (node-number l a one.block) (node-number m b two.block) (ap (drop 7) e))
line_same l m j k (Peeled a) (Solved b) one two e = absurd (first_letter _ _ _ _ (λ h. omega arith) e)
line_same l m j k (Peeled a) (Lost b ys) one two e = absurd (first_letter _ _ _ _ (λ h. omega arith) e)
line_same l m j k (Solved a) (Peeled b) one two e = absurd (first_letter _ _ _ _ (λ h. omega arith) e)
line_same l m j k (Solved a) (Solved b) one two e = ap Solved (block_same a b (node-number l a one.block) (node-number m b two.block) (ap (drop 7) e))
line_same l m j k (Solved a) (Lost b ys) one two e = absurd (first_letter _ _ _ _ (λ h. omega arith) e)
line_same l m j k (Lost a xs) (Peeled b) one two e = absurd (first_letter _ _ _ _ (λ h. omega arith) e)
line_same l m j k (Lost a xs) (Solved b) one two e = absurd (first_letter _ _ _ _ (λ h. omega arith) e)
line_same l m j k (Lost a xs) (Lost b ys) one two e =
    lost_same a b xs ys (node-number l a one.block) (node-number m b two.block) (nodes-numbers l 0 xs one.nodes.1) (nodes-numbers m 0 ys two.nodes.1) e

lines_same : (l m : Lattice) (j k : ℕ) (xs ys : List Line) → AreLinesFrom l j xs → AreLinesFrom m k ys → map line_text xs ≡ map line_text ys → xs ≡ ys
lines_same l m j k [] [] one two e = refl
lines_same l m j k [] (y ∷ ys) one two e = let short : 0 ≡ suc (length (map line_text ys)) = ap length e in absurd (omega arith)
lines_same l m j k (x ∷ xs) [] one two e = let short : suc (length (map line_text xs)) ≡ 0 = ap length e in absurd (omega arith)
lines_same l m j k (x ∷ xs) (y ∷ ys) one two e =
    let first : x ≡ y = line_same l m j k x y one.0 two.0 (ap (λ zs. get_or zs 0 []) e) in
    let more : xs ≡ ys = lines_same l m (number_of l (block_in x) + 1) (number_of m (block_in y) + 1) xs ys one.1 two.1 (ap (drop 1) e) in
    ap (λ z. z ∷ xs) first ∙ ap (λ zs. y ∷ zs) more

-- ---- heads

-- bytes of a list, and the zeros after it
are_bytes : (xs : List ℕ) → All (λ x. x < 2 ^ 8) xs → AreBytes xs
are_bytes xs small i = elim (cases_lt i (length xs)) [
  | inl lt ↦ small i 0 lt
  | inr ge ↦ let zero_here : slice_index xs i ≡ 0 = get_or_past xs i 0 ge in omega arith
]

seal_same : (a b : Option (List ℕ)) → IfSome a (IsBytes 32) → IfSome b (IsBytes 32) → seal_text a ≡ seal_text b → a ≡ b
seal_same None None one two e = refl
seal_same None (Some ys) one two e =
    let wide = two.wide in
    let long : 4 ≡ length (encode_lower ys) = ap length e in absurd (omega (arith, length-encode_with lower_digits ys))
seal_same (Some xs) None one two e =
    let wide = one.wide in
    let long : length (encode_lower xs) ≡ 4 = ap length e in absurd (omega (arith, length-encode_with lower_digits xs))
seal_same (Some xs) (Some ys) one two e =
    let same : Ok xs ≡ Ok ys = sym (decode_of-encode_lower xs (are_bytes xs one.each)) ∙ ap decode_of e ∙ decode_of-encode_lower ys (are_bytes ys two.each) in
    ap (λ r. Some (result_unwrap_or r [])) same

-- two heads with the same fields are one
head_equal : (h g : Head) → h.alpha ≡ g.alpha → h.s ≡ g.s → h.p ≡ g.p → h.n ≡ g.n → h.seal ≡ g.seal → h.damaged ≡ g.damaged → h.peeled ≡ g.peeled → h.solved ≡ g.solved → h.lost ≡ g.lost → h ≡ g
head_equal h g alpha s p n seal damaged peeled solved lost = λ i. record {
  alpha = alpha i;
  s = s i;
  p = p i;
  n = n i;
  seal = seal i;
  damaged = damaged i;
  peeled = peeled i;
  solved = solved i;
  lost = lost i;
}

-- a head has one reading
pub head_same : (l m : Lattice) (h g : Head) → IsHeadOf l h → IsHeadOf m g → (xs ys : List (List ℕ)) → head_texts h ++ xs ≡ head_texts g ++ ys → (h ≡ g) × (xs ≡ ys)
head_same l m h g one two xs ys e =
    let shape = numbers_same (h.alpha ∷ h.s ∷ h.p ∷ h.n ∷ []) (g.alpha ∷ g.s ∷ g.p ∷ g.n ∷ []) (shape-numbers l h one) (shape-numbers m g two) (ap (λ texts. drop 7 (get_or texts 1 [])) e) in
    let counts = numbers_same (h.damaged ∷ h.peeled ∷ h.solved ∷ h.lost ∷ []) (g.damaged ∷ g.peeled ∷ g.solved ∷ g.lost ∷ []) (counts-numbers l h one) (counts-numbers m g two)
    (ap (λ texts. drop 6 (get_or texts 3 [])) e) in (
      head_equal h g (ap (λ ns. get_or ns 0 0) shape) (ap (λ ns. get_or ns 1 0) shape) (ap (λ ns. get_or ns 2 0) shape) (ap (λ ns. get_or ns 3 0) shape)
          (seal_same h.seal g.seal one.seal two.seal (ap (λ texts. drop 7 (get_or texts 2 [])) e))
          (ap (λ ns. get_or ns 0 0) counts) (ap (λ ns. get_or ns 1 0) counts) (ap (λ ns. get_or ns 2 0) counts) (ap (λ ns. get_or ns 3 0) counts),
      ap (drop 4) e,
    )

-- a report has one reading
pub one-reading : HaveOneReading
one-reading bytes h g lines others one two =
    let texts = joined_same (report_texts h lines) (report_texts g others) (report-plain one.lattice h lines one.head one.valid) (report-plain two.lattice g others two.head two.valid)
    (sym one.spelling ∙ two.spelling) in
    let parts = head_same one.lattice two.lattice h g one.head two.head (map line_text lines) (map line_text others) texts in
    (parts.0, lines_same one.lattice two.lattice 0 0 lines others one.valid two.valid parts.1)
