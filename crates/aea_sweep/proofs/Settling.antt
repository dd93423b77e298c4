-- The spare word finds a slot.
use Rattle.std.proofs.Common.{◌≡◌, ℕ, ◌<◌, Bool, true, false, ◌&&◌, List, ◌∙◌, arith}
use Rattle.std.specs.Prelude.{nat_lt}
use Rattle.aea_lattice.specs.declared.blocks.BlockId.{BlockId}
use Rattle.aea_lattice.specs.declared.grid.Lattice.{Lattice}
use Rattle.aea_lattice.specs.Blocks.{class_number}
use Rattle.aea_sweep.specs.declared.heads.Heads.{Heads}
use Rattle.aea_sweep.specs.Heads.{head_in}
use Rattle.aea_sweep.specs.Tables.{SameSize, AddsRow, Exchanges, Closes, IsSized}
use Rattle.aea_sweep.specs.States.{places_of, IsReady, IsCleanTo, AreSwept}
use Rattle.aea_sweep.proofs.States.{few_places}
use Rattle.aea_sweep.proofs.Moves.{spread-open, spread-pivots, spread-free, spread-clears, spread-spare, put-swept}
use Rattle.aea_sweep.proofs.Passing.{close-swept}

pub put_ready : (l : Lattice) (known : BlockId → Bool) (i q place : ℕ) (words mid new : List (List ℕ)) (heads headed last : List Heads) → place < places_of l
    → AddsRow (places_of l) (λ r. nat_lt r (places_of l) && head_in heads r place) words mid heads headed
    → Exchanges place (places_of l) mid new headed last
    → IsReady l known i q place words heads → AreSwept l known i q new last
put_ready l known i q place words mid new heads headed last less adds moves s =
    let fits : place < 192 = (let f = few_places l in omega arith) in
    put-swept l known i q place mid new headed last less moves
    (spread-open l known i q place words mid heads headed fits adds s.are_open s.pivots s.free)
    (spread-pivots l known i q place words mid heads headed fits adds s.are_open s.pivots s.free)
    (spread-free l known i q place words mid heads headed fits adds s.are_open s.pivots s.free)
    (spread-spare l known i q place words mid heads headed fits adds s.are_open s.pivots s.free place fits ∙ s.has)
    (spread-clears l known i q place words mid heads headed fits adds s.are_open s.pivots s.free s.has)

pub ready_clean : (l : Lattice) (known : BlockId → Bool) (i q place : ℕ) (e : BlockId) (words : List (List ℕ)) (heads : List Heads)
    → head_in heads (places_of l) place ≡ true → IsCleanTo l known i q e (places_of l) words heads → IsReady l known i q place words heads
ready_clean l known i q place e words heads has s = record { are_open = s.are_open; pivots = s.pivots; free = s.free; has = has }

pub close_clean : (l : Lattice) (known : BlockId → Bool) (i q : ℕ) (e : BlockId) (words new : List (List ℕ)) (heads : List Heads)
    → e.node ≡ i → class_number e.class ≡ q → ((t : ℕ) → t < 192 → head_in heads (places_of l) t ≡ false)
    → Closes (places_of l) words new → IsCleanTo l known i q e (places_of l) words heads → AreSwept l known i q new heads
close_clean l known i q e words new heads node class none closes s =
    close-swept l known i q e words new heads s.are_open s.pivots s.own node class none closes

pub sized_same : (spare : ℕ) (words new : List (List ℕ)) (heads headed : List Heads) → SameSize words new heads headed → IsSized spare words heads → IsSized spare new headed
sized_same spare words new heads headed same s =
    let a = same.words_long in let b = same.heads_long in let d = s.heads_long in let e = s.words_long in
    record { heads_long = omega arith; words_long = omega arith; few = s.few }
