-- The places of a node's strands, and a datum as the code has it.
use Rattle.std.proofs.Common.{◌≡◌, ◌≢◌, ℕ, suc, ◌-◌, ◌<◌, ◌≤◌, Bool, true, false, not, ◌&&◌, ◌||◌, ◌==◌, List, [], ◌∷◌, ◌++◌, length, get_or, refl, sym, ◌∙◌, ap, subst, arith}
use Rattle.std.specs.Prelude.{nat_le, slice_set}
use Rattle.std.proofs.lemmas.Bool.{eqb-true, ne_eqb}
use Rattle.std.proofs.lemmas.Bool.Decides.{nat_tests}
use Rattle.std.proofs.lemmas.List.{get_or_append_left, set-append_left}
use Rattle.aea_lattice.specs.declared.blocks.Class.{Class}
use Rattle.aea_lattice.specs.declared.blocks.Class.TheVariants.{Datum, Horiz, Right, Left}
use Rattle.aea_lattice.specs.declared.blocks.BlockId.{BlockId}
use Rattle.aea_lattice.specs.declared.grid.Lattice.{Lattice}
use Rattle.aea_lattice.specs.Blocks.{HasNode, HasParity, block_of, class_number}
use Rattle.aea_lattice.specs.Strands.{strand_of}
use Rattle.aea_lattice.specs.Parity.{differ}
use Rattle.aea_sweep.specs.declared.heads.Heads.{Heads}
use Rattle.aea_sweep.specs.Heads.{has_head}
use Rattle.aea_sweep.specs.Tables.{IsSized}
use Rattle.aea_sweep.proofs.Rows.{element_is}
use Rattle.aea_sweep.specs.States.{places_of, place_on, is_place_of, AreSwept, IsCleanTo, IsAt}
use Rattle.aea_sweep.proofs.States.{one_class}
use Rattle.aea_sweep.proofs.Datums.{datum_known}
use Rattle.aea_sweep.proofs.Losing.{datum_lost, fills_row}

apart : (l : Lattice) (node : ℕ) (c d : Class) → HasNode l node → HasParity l c → HasParity l d → (c ≢ d) → place_on l c (strand_of l c node) ≢ place_on l d (strand_of l d node)
apart l node c d n hc hd other same =
    other (one_class l (block_of node c) (block_of node d) (record { first = n.first; last = n.last; used = hc.used }) (record { first = n.first; last = n.last; used = hd.used })
    hc.parity hd.parity same)

or_differ : (a b : Bool) → (a ≡ true → b ≡ false) → differ a b ≡ (a || b)
or_differ true b h = ap not (h refl)
or_differ false b h = refl

not_both : (t a b : ℕ) → a ≢ b → (t == a) ≡ true → (t == b) ≡ false
not_both t a b other is = ne_eqb t b (λ h. other (sym (eqb-true t a is) ∙ h))

none_left : (a b c : Bool) → b ≡ false → ((a || (true && c)) || (b && c)) ≡ (a || c)
none_left true b c h = refl
none_left false b true h = refl
none_left false b false h = ap (λ x. x && false) h

or-false : (a : Bool) → (a || false) ≡ a
or-false true = refl
or-false false = refl

-- the heads of a node where there are two classes
pub two_heads : (l : Lattice) (node t : ℕ) → HasNode l node → 2 ≤ l.alpha → l.alpha < 3
    → differ (t == place_on l Horiz (strand_of l Horiz node)) (t == place_on l Right (strand_of l Right node)) ≡ is_place_of l node t
two_heads l node t n more less =
    let two : nat_le 2 l.alpha ≡ true = grind (arith, nat_tests) in
    let three : nat_le 3 l.alpha ≡ false = grind (arith, nat_tests) in
    let h = place_on l Horiz (strand_of l Horiz node) in
    let r = place_on l Right (strand_of l Right node) in
    let f = place_on l Left (strand_of l Left node) in
    or_differ (t == h) (t == r)
    (not_both t h r (apart l node Horiz Right n (record { parity = omega arith; used = omega arith }) (record { parity = omega arith; used = more }) (λ e. cc)))
    ∙ ap (λ b. (t == h) || (b && (t == r))) (sym two)
    ∙ sym (or-false ((t == h) || (nat_le 2 l.alpha && (t == r))))
    ∙ ap (λ b. ((t == h) || (nat_le 2 l.alpha && (t == r))) || (b && (t == f))) (sym three)

-- and where there are three
pub three_heads : (l : Lattice) (node t : ℕ) → HasNode l node → 3 ≤ l.alpha
    → differ (differ (t == place_on l Horiz (strand_of l Horiz node)) (t == place_on l Right (strand_of l Right node))) (t == place_on l Left (strand_of l Left node)) ≡ is_place_of l node t
three_heads l node t n more =
    let two : nat_le 2 l.alpha ≡ true = grind (arith, nat_tests) in
    let three : nat_le 3 l.alpha ≡ true = grind (arith, nat_tests) in
    let h = place_on l Horiz (strand_of l Horiz node) in
    let r = place_on l Right (strand_of l Right node) in
    let f = place_on l Left (strand_of l Left node) in
    let has_h : HasParity l Horiz = record { parity = omega arith; used = omega arith } in
    let has_r : HasParity l Right = record { parity = omega arith; used = omega arith } in
    let has_f : HasParity l Left = record { parity = omega arith; used = more } in
    ap (λ b. differ b (t == f)) (or_differ (t == h) (t == r) (not_both t h r (apart l node Horiz Right n has_h has_r (λ e. cc))))
    ∙ or_differ ((t == h) || (t == r)) (t == f)
    (λ is. both_out (t == h) (t == r) (t == f) is (not_both t h f (apart l node Horiz Left n has_h has_f (λ e. cc))) (not_both t r f (apart l node Right Left n has_r has_f (λ e. cc))))
    ∙ ap (λ b. ((t == h) || (b && (t == r))) || (t == f)) (sym two)
    ∙ ap (λ b. ((t == h) || (nat_le 2 l.alpha && (t == r))) || (b && (t == f))) (sym three)
  where
    both_out : (a b c : Bool) → (a || b) ≡ true → (a ≡ true → c ≡ false) → (b ≡ true → c ≡ false) → c ≡ false
    both_out true b c is first second = first refl
    both_out false b c is first second = second is

-- the datum of a node, as the code has it
pub known_node : (l : Lattice) (known : BlockId → Bool) (node : ℕ) (words : List (List ℕ)) (heads : List Heads) → HasNode l node → known (block_of node Datum) ≡ true
    → AreSwept l known (node - 1) l.alpha words heads → AreSwept l known node 0 words heads
known_node l known node words heads n is_known s =
    let first = n.first in
    let last = n.last in
    let is : suc (node - 1) ≡ node = omega arith in
    subst (λ (m : ℕ). AreSwept l known m 0 words heads) is
    (datum_known l known (node - 1) words heads (omega arith) (ap (λ (m : ℕ). known (block_of m Datum)) is ∙ is_known) s)

pub lost_node : (l : Lattice) (known : BlockId → Bool) (node : ℕ) (words : List (List ℕ)) (z x : List ℕ) (heads : List Heads) (g : Heads) → HasNode l node → 1 ≤ l.alpha
    → known (block_of node Datum) ≡ false → z ≡ x ++ node ∷ [] → x ≡ get_or words (places_of l) []
    → ((t : ℕ) → t < 192 → has_head g t ≡ is_place_of l node t)
    → AreSwept l known (node - 1) l.alpha words heads → IsCleanTo l known node 0 (block_of node Datum) 0 (slice_set words (places_of l) z) (slice_set heads (places_of l) g)
lost_node l known node words z x heads g n some unknown pushed read are s =
    let first = n.first in
    let last = n.last in
    let rows = s.are_open.rows in
    let slots = s.are_open.slots in
    let is : suc (node - 1) ≡ node = omega arith in
    subst (λ (m : ℕ). IsCleanTo l known m 0 (block_of m Datum) 0 (slice_set words (places_of l) z) (slice_set heads (places_of l) g)) is
    (datum_lost l known (node - 1) words (slice_set words (places_of l) z) heads (slice_set heads (places_of l) g) some (omega arith)
    (ap (λ (m : ℕ). known (block_of m Datum)) is ∙ unknown)
    (fills_row l (node - 1) words z heads g (omega arith) (omega arith)
    (pushed ∙ ap (λ (ys : List ℕ). ys ++ node ∷ []) read ∙ ap (λ (m : ℕ). get_or words (places_of l) [] ++ m ∷ []) (sym is))
    s.spare (s.are_open.rising (places_of l))
    (λ t in_t. are t in_t ∙ ap (λ (m : ℕ). is_place_of l m t) (sym is)))
    s)

-- the parity of a node, as the code has it
pub parity_at : (l : Lattice) (node place : ℕ) (c : Class) → HasNode l node → HasParity l c → place ≡ place_on l c (strand_of l c node)
    → IsAt l node (class_number c - 1) place (block_of node c)
parity_at l node place c n has is =
    let parity = has.parity in
    record {
      block = record { first = n.first; last = n.last; used = has.used };
      node = refl;
      class = omega arith;
      strand = is;
    }

-- every shape has a class of strands
pub some_class : (l : Lattice) → 1 ≤ l.alpha
some_class l = let h = l.in_profile in grind (arith, nat_tests)

-- and none more than three
pub few_classes : (l : Lattice) → l.alpha ≤ 3
few_classes l = let h = l.in_profile in grind (arith, nat_tests)

-- the spare word is that of the node, by what was read
pub lost_at : (l : Lattice) (known : BlockId → Bool) (node spare : ℕ) (words closed : List (List ℕ)) (z x : List ℕ) (heads : List Heads) (g : Heads) → spare ≡ places_of l
    → IsSized spare words heads → HasNode l node → known (block_of node Datum) ≡ false → z ≡ x ++ node ∷ [] → x ≡ get_or words spare x
    → ((t : ℕ) → t < 192 → has_head g t ≡ is_place_of l node t)
    → AreSwept l known (node - 1) l.alpha (words ++ closed) heads
    → IsCleanTo l known node 0 (block_of node Datum) 0 (slice_set words spare z ++ closed) (slice_set heads spare g)
lost_at l known node spare words closed z x heads g same sized n unknown pushed read are s =
    let inside : spare < length words = (let a = sized.heads_long in let b = sized.words_long in omega arith) in
    let here = element_is words spare x read inside ∙ sym (get_or_append_left words closed [] spare inside) in
    subst (λ (xs : List (List ℕ)). IsCleanTo l known node 0 (block_of node Datum) 0 xs (slice_set heads spare g)) (set-append_left words closed spare z inside)
    (subst (λ (k : ℕ). IsCleanTo l known node 0 (block_of node Datum) 0 (slice_set (words ++ closed) k z) (slice_set heads k g)) (sym same)
    (lost_node l known node (words ++ closed) z x heads g n (some_class l) unknown pushed
    (subst (λ (k : ℕ). x ≡ get_or (words ++ closed) k []) same here) are s))
