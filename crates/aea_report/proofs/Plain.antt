-- No line of a report has a newline in it, and no number and no block has a space.
use Rattle.std.proofs.Common.{◌≡◌, ◌≢◌, ℕ, ◌+◌, ◌%◌, ◌/◌, ◌<◌, ◌≤◌, ◌^◌, List, [], ◌∷◌, ◌++◌, get_or, true, codes, decimal, arith, refl, Option, Some, None, slice_index}
use Rattle.std.specs.Prelude.{◌==◌, not, map, All, IfSome}
use Rattle.std.specs.List.{list_all}
use Rattle.std.proofs.lemmas.Bool.Decides.{nat_tests}
use Rattle.std.proofs.lemmas.Fmt.{decimal_by_steps}
use Rattle.std.proofs.lemmas.List.Elements.{All-nil, All-cons, All-append, All-tail, All-from_recursion}
use Rattle.std.proofs.lemmas.List.Sums.{AllPass-from_list_all}
use Rattle.hex.specs.Hex.{encode_with, lower_digits}
use Rattle.aea_lattice.specs.declared.blocks.Class.{Class}
use Rattle.aea_lattice.specs.declared.blocks.Class.TheVariants.{Datum, Horiz, Right, Left}
use Rattle.aea_lattice.specs.declared.blocks.BlockId.{BlockId}
use Rattle.aea_lattice.specs.declared.grid.Lattice.{Lattice}
use Rattle.aea_lattice.specs.Blocks.{HasBlock, number_of}
use Rattle.aea_lattice.specs.Data.{IsBytes}
use Rattle.aea_lattice.specs.Texts.{letter_of, text_of}
use Rattle.aea_report.specs.declared.head.Head.{Head}
use Rattle.aea_report.specs.declared.line.Line.{Line}
use Rattle.aea_report.specs.declared.line.Line.TheVariants.{Peeled, Solved, Lost}
use Rattle.aea_report.specs.Format.{seal_text, numbers_text, head_texts, line_text, report_texts, block_in}
use Rattle.aea_report.specs.Grammar.{IsHeadOf, RiseFrom, IsLine, AreLinesFrom, AreLines}
use Rattle.aea_report.proofs.Splits.{IsFree}

-- the numbers have decimal texts that can be read
abbrev pub AreNumbers : List ℕ → Type 0
AreNumbers numbers = All (λ number. number < 2 ^ 64) numbers

-- α, s and p are small
pub record IsSmall (l : Lattice) : Type 0 where
  pub alpha : l.alpha ≤ 3
  pub s : l.s ≤ 16
  pub p : l.p ≤ 64

-- the shape of a lattice has small numbers
pub small_shape : (l : Lattice) → IsSmall l
small_shape l = let shape = l.in_profile in record { alpha = grind (arith, nat_tests); s = grind (arith, nat_tests); p = grind (arith, nat_tests) }

-- the numbers of a head's second line
pub shape-numbers : (l : Lattice) (h : Head) → IsHeadOf l h → AreNumbers (h.alpha ∷ h.s ∷ h.p ∷ h.n ∷ [])
shape-numbers l h is =
    let small = small_shape l in
    let alpha = small.alpha in let s = small.s in let p = small.p in let range = l.in_range in
    let e = is.alpha in let f = is.s in let g = is.p in let i = is.n in
    All-from_recursion (λ number. number < 2 ^ 64) (h.alpha ∷ h.s ∷ h.p ∷ h.n ∷ []) (omega arith, (omega arith, (omega arith, (omega arith, tt))))

-- the numbers of its fourth line
pub counts-numbers : (l : Lattice) (h : Head) → IsHeadOf l h → AreNumbers (h.damaged ∷ h.peeled ∷ h.solved ∷ h.lost ∷ [])
counts-numbers l h is =
    let d = is.damaged in let p = is.peeled in let v = is.solved in let o = is.lost in
    All-from_recursion (λ number. number < 2 ^ 64) (h.damaged ∷ h.peeled ∷ h.solved ∷ h.lost ∷ []) (omega arith, (omega arith, (omega arith, (omega arith, tt))))

-- nodes of a lattice are such numbers
pub nodes-numbers : (l : Lattice) (i : ℕ) (nodes : List ℕ) → RiseFrom l i nodes → AreNumbers nodes
nodes-numbers l i [] rise = All-nil (λ number. number < 2 ^ 64)
nodes-numbers l i (j ∷ nodes) rise =
    let most = rise.1 in let range = l.in_range in
    All-cons (λ number. number < 2 ^ 64) j nodes (omega arith) (nodes-numbers l j nodes rise.2)

-- and the node of a block of a lattice is one
pub node-number : (l : Lattice) (b : BlockId) → HasBlock l b → b.node < 2 ^ 64
node-number l b has = let last = has.last in let range = l.in_range in omega arith

-- ---- bytes that occur nowhere

both : (c : ℕ) (xs ys : List ℕ) → IsFree c xs → IsFree c ys → IsFree c (xs ++ ys)
both c xs ys one two = All-append (λ x. x ≢ c) xs ys one two

other_byte : (x c : ℕ) → not (x == c) ≡ true → x ≢ c
other_byte x c e = grind (arith, nat_tests)

-- a text that a test finds free of a byte
free_by : (c : ℕ) (xs : List ℕ) → list_all (λ x. not (x == c)) xs ≡ true → IsFree c xs
free_by c xs e = λ k d lt. other_byte (get_or xs k d) c (AllPass-from_list_all (λ x. not (x == c)) xs e k d lt)

-- a number's text has digits alone
pub decimal-free : (c n : ℕ) → c < 48 → n < 2 ^ 64 → IsFree c (decimal n)
decimal-free c n low small =
    decimal_by_steps (λ n ds. IsFree c ds)
    (λ n lt. All-cons (λ x. x ≢ c) (48 + n) [] (λ e. absurd (omega arith)) (All-nil (λ x. x ≢ c)))
    (λ n ds le before. both c ds ((48 + n % 10) ∷ []) before (All-cons (λ x. x ≢ c) (48 + n % 10) [] (λ e. absurd (omega arith)) (All-nil (λ x. x ≢ c))))
    n small

letter-free : (k : ℕ) (c : Class) → k < 48 → letter_of c ≢ k
letter-free k Datum low e = omega arith
letter-free k Horiz low e = omega arith
letter-free k Right low e = omega arith
letter-free k Left low e = omega arith

-- a block's text has a letter and digits
pub block-free : (c : ℕ) (b : BlockId) → c < 48 → b.node < 2 ^ 64 → IsFree c (text_of b)
block-free c b low small = All-cons (λ x. x ≢ c) (letter_of b.class) (decimal b.node) (letter-free c b.class low) (decimal-free c b.node low small)

numbers-plain : (numbers : List ℕ) → AreNumbers numbers → IsFree 10 (numbers_text numbers)
numbers-plain [] small = All-nil (λ x. x ≢ 10)
numbers-plain (n ∷ numbers) small =
    both 10 (codes " " ++ decimal n) (numbers_text numbers)
    (both 10 (codes " ") (decimal n) (free_by 10 (codes " ") refl) (decimal-free 10 n (omega arith) (small 0 0 (omega arith))))
    (numbers-plain numbers (All-tail (λ number. number < 2 ^ 64) n numbers small))

digit-plain : (k : ℕ) → k < 16 → slice_index lower_digits k ≢ 10
digit-plain k lt = free_by 10 lower_digits refl k 0 lt

digits-plain : (bytes : List ℕ) → All (λ x. x < 2 ^ 8) bytes → IsFree 10 (encode_with lower_digits bytes)
unfolding encode_with
digits-plain [] small = All-nil (λ x. x ≢ 10)
digits-plain (b ∷ bytes) small =
    let byte : b < 2 ^ 8 = small 0 0 (omega arith) in
    let tens : b / 16 < 16 = omega arith in
    let ones : b % 16 < 16 = omega arith in
    All-cons (λ x. x ≢ 10) (slice_index lower_digits (b / 16)) (slice_index lower_digits (b % 16) ∷ encode_with lower_digits bytes) (digit-plain (b / 16) tens)
    (All-cons (λ x. x ≢ 10) (slice_index lower_digits (b % 16)) (encode_with lower_digits bytes) (digit-plain (b % 16) ones)
    (digits-plain bytes (All-tail (λ x. x < 2 ^ 8) b bytes small)))

seal-plain : (seal : Option (List ℕ)) → IfSome seal (IsBytes 32) → IsFree 10 (seal_text seal)
seal-plain None valid = free_by 10 (codes "none") refl
seal-plain (Some seal) valid = digits-plain seal valid.each

-- ---- the lines of a report

head-plain : (l : Lattice) (h : Head) → IsHeadOf l h → All (IsFree 10) (head_texts h)
head-plain l h is =
    let shape = codes "lattice" ++ numbers_text (h.alpha ∷ h.s ∷ h.p ∷ h.n ∷ []) in
    let seal = codes "ledger " ++ seal_text h.seal in
    let counts = codes "counts" ++ numbers_text (h.damaged ∷ h.peeled ∷ h.solved ∷ h.lost ∷ []) in
    All-from_recursion (IsFree 10) (codes "aea-report 1" ∷ shape ∷ seal ∷ counts ∷ []) (
      free_by 10 (codes "aea-report 1") refl,
      (
        both 10 (codes "lattice") (numbers_text (h.alpha ∷ h.s ∷ h.p ∷ h.n ∷ [])) (free_by 10 (codes "lattice") refl) (numbers-plain (h.alpha ∷ h.s ∷ h.p ∷ h.n ∷ []) (shape-numbers l h is)),
        (
          both 10 (codes "ledger ") (seal_text h.seal) (free_by 10 (codes "ledger ") refl) (seal-plain h.seal is.seal),
          (
            both 10 (codes "counts") (numbers_text (h.damaged ∷ h.peeled ∷ h.solved ∷ h.lost ∷ [])) (free_by 10 (codes "counts") refl)
                (numbers-plain (h.damaged ∷ h.peeled ∷ h.solved ∷ h.lost ∷ []) (counts-numbers l h is)),
            tt,
          ),
        ),
      ),
    )

-- the line of a block has no newline
pub line-plain : (l : Lattice) (least : ℕ) (line : Line) → IsLine l least line → IsFree 10 (line_text line)
line-plain l least (Peeled b) valid = both 10 (codes "peeled ") (text_of b) (free_by 10 (codes "peeled ") refl) (block-free 10 b (omega arith) (node-number l b valid.block))
line-plain l least (Solved b) valid = both 10 (codes "solved ") (text_of b) (free_by 10 (codes "solved ") refl) (block-free 10 b (omega arith) (node-number l b valid.block))
line-plain l least (Lost b nodes) valid =
    both 10 (codes "lost ") (text_of b ++ (codes " by" ++ numbers_text nodes)) (free_by 10 (codes "lost ") refl)
    (both 10 (text_of b) (codes " by" ++ numbers_text nodes) (block-free 10 b (omega arith) (node-number l b valid.block))
    (both 10 (codes " by") (numbers_text nodes) (free_by 10 (codes " by") refl) (numbers-plain nodes (nodes-numbers l 0 nodes valid.nodes.1))))

lines-plain : (l : Lattice) (least : ℕ) (lines : List Line) → AreLinesFrom l least lines → All (IsFree 10) (map line_text lines)
lines-plain l least [] valid = All-nil (IsFree 10)
lines-plain l least (line ∷ lines) valid =
    All-cons (IsFree 10) (line_text line) (map line_text lines) (line-plain l least line valid.0) (lines-plain l (number_of l (block_in line) + 1) lines valid.1)

-- no line of a report has a newline
pub report-plain : (l : Lattice) (h : Head) (lines : List Line) → IsHeadOf l h → AreLines l lines → All (IsFree 10) (report_texts h lines)
report-plain l h lines is valid = All-append (IsFree 10) (head_texts h) (map line_text lines) (head-plain l h is) (lines-plain l 0 lines valid)
