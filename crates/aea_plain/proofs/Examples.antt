-- Worked examples, in which the definitions compute.
use Rattle.std.proofs.Common.{◌≡◌, ℕ, suc, zero, ◌≤◌, Bool, not, ◌||◌, ◌==◌, inl, inr, List, [], ◌∷◌, ◌++◌, filter, Some, None, refl, sym, ◌∙◌, ap, arith, lit≤}
use Rattle.std.specs.Prelude.{◌&&◌, true, nat_le, All}
use Rattle.std.specs.List.{list_all}
use Rattle.std.proofs.lemmas.Bool.Decides.{nat_tests}
use Rattle.aea_lattice.specs.declared.blocks.Class.{Class}
use Rattle.aea_lattice.specs.declared.blocks.Class.TheVariants.{Datum, Horiz, Right, Left}
use Rattle.aea_lattice.specs.declared.blocks.BlockId.{BlockId}
use Rattle.aea_lattice.specs.declared.grid.Lattice.{Lattice}
use Rattle.aea_lattice.specs.Blocks.{block_of, blocks_of, class_number, HasBlock}
use Rattle.aea_lattice.specs.Strands.{prefix, previous}
use Rattle.aea_lattice.specs.Equations.{HasEquation, equation_of, is_in_codeword, adds_up_to}
use Rattle.aea_lattice.specs.Closure.{IsReached, is_among}
use Rattle.aea_lattice.proofs.Equations.{forced_datum, forced_input}
use Rattle.aea_lattice.specs.Data.{IsDataList, xor_bytes, datum_at, value_of, Determines}
use Rattle.aea_lattice.proofs.Sums.{length-datum_at, xor_bytes-zeros}
use Rattle.aea_lattice.specs.Lists.{is_listed}
use Rattle.aea_plain.proofs.Parities.{IsWide, sum_of, sum_of-append, sum_of-odd}

-- ---- AE(3,5,5) of 40 nodes: the nodes just before node 26, and its prefixes

abbrev wide : Lattice
wide = record { alpha = 3; s = 5; p = 5; n = 40; fences = []; in_profile = refl; in_range = lit≤ tt; fenced = refl }

pub horiz_before : previous wide Horiz 26 ≡ Some 21
horiz_before = refl

pub right_before : previous wide Right 26 ≡ Some 25
right_before = refl

pub left_before : previous wide Left 26 ≡ Some 22
left_before = refl

pub horiz_prefix : prefix wide Horiz 26 ≡ 1 ∷ 6 ∷ 11 ∷ 16 ∷ 21 ∷ 26 ∷ []
horiz_prefix = refl

pub right_prefix : prefix wide Right 26 ≡ 1 ∷ 7 ∷ 13 ∷ 19 ∷ 25 ∷ 26 ∷ []
right_prefix = refl

pub left_prefix : prefix wide Left 26 ≡ 1 ∷ 10 ∷ 14 ∷ 18 ∷ 22 ∷ 26 ∷ []
left_prefix = refl

-- ---- the same with fences after nodes 13 and 25

abbrev fenced : Lattice
fenced = record { alpha = 3; s = 5; p = 5; n = 40; fences = 13 ∷ 25 ∷ []; in_profile = refl; in_range = lit≤ tt; fenced = refl }

pub fenced_begins : previous fenced Horiz 26 ≡ None
fenced_begins = refl

pub fenced_prefix : prefix fenced Horiz 25 ≡ 15 ∷ 20 ∷ 25 ∷ []
fenced_prefix = refl

-- ---- one strand of 3 nodes

abbrev chain : Lattice
chain = record { alpha = 1; s = 1; p = 0; n = 3; fences = []; in_profile = refl; in_range = lit≤ tt; fenced = refl }

-- the codeword of node 3, which the last parity does not leave
pub last_codeword : filter (is_in_codeword chain (λ i. i == 3)) (blocks_of chain) ≡ block_of 3 Datum ∷ block_of 3 Horiz ∷ []
last_codeword = refl

-- the codeword of nodes 2 and 3
pub inner_codeword : filter (is_in_codeword chain (λ i. i == 2 || i == 3)) (blocks_of chain) ≡ block_of 2 Datum ∷ block_of 2 Horiz ∷ block_of 3 Datum ∷ []
inner_codeword = refl

first_equation : HasEquation chain (equation_of 1 Horiz)
first_equation = record { node = record { first = lit≤ tt; last = lit≤ tt }; class = record { parity = lit≤ tt; used = lit≤ tt } }

second_equation : HasEquation chain (equation_of 2 Horiz)
second_equation = record { node = record { first = lit≤ tt; last = lit≤ tt }; class = record { parity = lit≤ tt; used = lit≤ tt } }

-- The closure of all but d1 and h1 has d1: d2 and h2 give h1, and h1 gives d1.
pub first_reached : IsReached chain (λ b. not (is_among (block_of 1 Datum ∷ block_of 1 Horiz ∷ []) b)) (block_of 1 Datum)
first_reached =
    let two : List BlockId = block_of 2 Datum ∷ block_of 2 Horiz ∷ [] in
    let three : List BlockId = block_of 1 Horiz ∷ two in (
      three,
      (
        (
          ((tt, inl refl), inl refl),
          inr (equation_of 2 Horiz, forced_input chain (is_among two) (equation_of 2 Horiz) 1 refl second_equation refl refl),
        ),
        inr (equation_of 1 Horiz, forced_datum chain (is_among three) (equation_of 1 Horiz) first_equation refl (λ g was. absurd (cc))),
      ),
    )

-- ---- AE(2,2,2) of 11 nodes

abbrev woven : Lattice
woven = record { alpha = 2; s = 2; p = 2; n = 11; fences = []; in_profile = refl; in_range = lit≤ tt; fenced = refl }

pub early_codeword : filter (is_in_codeword woven (λ i. i == 1 || i == 3 || i == 4 || i == 6)) (blocks_of woven)
    ≡ block_of 1 Datum ∷ block_of 1 Horiz ∷ block_of 1 Right ∷ block_of 3 Datum ∷ block_of 3 Right ∷ block_of 4 Datum ∷ block_of 4 Horiz ∷ block_of 6 Datum ∷ []
early_codeword = refl

pub late_codeword : filter (is_in_codeword woven (λ i. i == 8 || i == 9 || i == 10 || i == 11)) (blocks_of woven)
    ≡ block_of 8 Datum ∷ block_of 8 Horiz ∷ block_of 8 Right ∷ block_of 9 Datum ∷ block_of 9 Horiz ∷ block_of 10 Datum ∷ block_of 10 Right ∷ block_of 11 Datum ∷ []
late_codeword = refl

-- Nine equations that add up to d5 and to blocks of which none is among the codewords above, nor h3 or r5: where
-- all of these and d5 are lost, no equation gives d5 alone, yet the nine together do.
pub nine_equations : filter
    (adds_up_to woven
    (is_listed
    (equation_of 1 Horiz ∷ equation_of 1 Right ∷ equation_of 3 Horiz ∷ equation_of 3 Right ∷ equation_of 4 Horiz
    ∷ equation_of 4 Right ∷ equation_of 5 Horiz ∷ equation_of 6 Horiz ∷ equation_of 6 Right ∷ [])))
    (blocks_of woven)
    ≡ block_of 2 Horiz ∷ block_of 2 Right ∷ block_of 4 Right ∷ block_of 5 Datum ∷ block_of 5 Horiz ∷ block_of 6 Horiz ∷ block_of 6 Right ∷ []
nine_equations = refl

-- what is lost, and what is left
abbrev pub lost : List BlockId
lost =
    block_of 1 Datum ∷ block_of 3 Datum ∷ block_of 4 Datum ∷ block_of 5 Datum ∷ block_of 6 Datum ∷ block_of 8 Datum ∷ block_of 9 Datum
    ∷ block_of 10 Datum ∷ block_of 11 Datum ∷ block_of 1 Horiz ∷ block_of 3 Horiz ∷ block_of 4 Horiz ∷ block_of 8 Horiz ∷ block_of 9 Horiz
    ∷ block_of 1 Right ∷ block_of 3 Right ∷ block_of 5 Right ∷ block_of 8 Right ∷ block_of 10 Right ∷ []

abbrev pub is_left : BlockId → Bool
is_left b = not (is_among lost b)

-- the sum of h2, h5, h6, r2, r4 and r6
abbrev six : ℕ → List (List ℕ) → List ℕ
six w datas =
    xor_bytes (value_of woven w datas (block_of 2 Horiz))
    (xor_bytes (value_of woven w datas (block_of 5 Horiz))
    (xor_bytes (value_of woven w datas (block_of 6 Horiz))
    (xor_bytes (value_of woven w datas (block_of 2 Right))
    (xor_bytes (value_of woven w datas (block_of 4 Right)) (value_of woven w datas (block_of 6 Right))))))

within_step : (n k : ℕ) (nodes : List ℕ) → (nat_le 1 k && nat_le k n && list_all (λ j. nat_le 1 j && nat_le j n) nodes) ≡ true → (1 ≤ k) × (k ≤ n)
within_step n k nodes all = (grind (arith, nat_tests), grind (arith, nat_tests))

within_rest : (n k : ℕ) (rest : Bool) → (nat_le 1 k && nat_le k n && rest) ≡ true → rest ≡ true
within_rest n k rest all = grind (arith, nat_tests)

are_within : (n : ℕ) (nodes : List ℕ) → list_all (λ k. nat_le 1 k && nat_le k n) nodes ≡ true → All (λ k. (1 ≤ k) × (k ≤ n)) nodes
are_within n [] all k d below = absurd (omega arith)
are_within n (j ∷ nodes) all zero d below = within_step n j nodes all
are_within n (j ∷ nodes) all (suc k) d below = are_within n nodes (within_rest n j (list_all (λ i. nat_le 1 i && nat_le i n) nodes) all) k d (omega arith)

-- d5 is the sum of h2, h5, h6, r2, r4 and r6, whatever the data
fifth_is_six : (w : ℕ) (datas : List (List ℕ)) → IsDataList woven w datas → six w datas ≡ value_of woven w datas (block_of 5 Datum)
fifth_is_six w datas is =
    let datum = datum_at w datas in
    let wide : IsWide w datum = record { each = λ k. length-datum_at woven w datas k is } in
    let e : List ℕ = 1 ∷ 4 ∷ [] in
    let d : List ℕ = 2 ∷ [] in
    let f : List ℕ = 2 ∷ 3 ∷ 6 ∷ [] in
    let c : List ℕ = 2 ∷ 4 ∷ 6 ∷ [] in
    let b : List ℕ = 1 ∷ 3 ∷ 5 ∷ [] in
    let all : List ℕ = d ++ (b ++ (c ++ (d ++ (e ++ f)))) in
    sym (sum_of-append w datum d (b ++ (c ++ (d ++ (e ++ f)))) wide
    ∙ ap (xor_bytes (sum_of w datum d)) (sum_of-append w datum b (c ++ (d ++ (e ++ f))) wide
    ∙ ap (xor_bytes (sum_of w datum b)) (sum_of-append w datum c (d ++ (e ++ f)) wide
    ∙ ap (xor_bytes (sum_of w datum c)) (sum_of-append w datum d (e ++ f) wide
    ∙ ap (xor_bytes (sum_of w datum d)) (sum_of-append w datum e f wide)))))
    ∙ sum_of-odd w datum all 11 wide (are_within 11 all refl)
    ∙ xor_bytes-zeros w (datum 5) (wide.each 5)

-- So the blocks that are left determine d5.
pub fifth_determined : Determines woven is_left (block_of 5 Datum)
fifth_determined w xs ys xs_are ys_are agree =
    let inside : (i : ℕ) (c : Class) → 1 ≤ i → i ≤ 11 → class_number c ≤ 2 → HasBlock woven (block_of i c) = λ i c first last used. record { first = first; last = last; used = used } in
    let h2 = agree (block_of 2 Horiz) (inside 2 Horiz (lit≤ tt) (lit≤ tt) (lit≤ tt)) refl in
    let h5 = agree (block_of 5 Horiz) (inside 5 Horiz (lit≤ tt) (lit≤ tt) (lit≤ tt)) refl in
    let h6 = agree (block_of 6 Horiz) (inside 6 Horiz (lit≤ tt) (lit≤ tt) (lit≤ tt)) refl in
    let r2 = agree (block_of 2 Right) (inside 2 Right (lit≤ tt) (lit≤ tt) (lit≤ tt)) refl in
    let r4 = agree (block_of 4 Right) (inside 4 Right (lit≤ tt) (lit≤ tt) (lit≤ tt)) refl in
    let r6 = agree (block_of 6 Right) (inside 6 Right (lit≤ tt) (lit≤ tt) (lit≤ tt)) refl in
    let same : six w xs ≡ six w ys = cc in
    sym (fifth_is_six w xs xs_are) ∙ same ∙ fifth_is_six w ys ys_are
