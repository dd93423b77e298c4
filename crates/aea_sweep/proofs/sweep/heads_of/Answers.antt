use Rattle.std.proofs.Common.{◌==◌, ℕ, Bool, ◌∙◌, ap, arith}
use Rattle.aea_lattice.specs.Parity.{differ}
use Rattle.aea_lattice.specs.declared.blocks.Class.TheVariants.{Horiz, Right}
use Rattle.aea_lattice.specs.Strands.{strand_of}
use Rattle.aea_sweep.specs.States.{place_on}
use Rattle.aea_sweep.proofs.Places.{two_heads, three_heads}
use Rattle.aea_sweep.proofs.sweep.heads_of.Goals as goal

pub returns-then-alpha-lt3 : goal.returns-then-alpha-lt3
returns-then-alpha-lt3 c t in_t =
    let l = c.args.lattice.now in
    let node = c.args.node in
    c.flipped-right.ensures t in_t
    ∙ ap (λ (b : Bool). differ b (t == c.place-2.result)) (c.flipped-horiz.ensures t in_t ∙ ap (λ (b : Bool). differ b (t == c.place.result)) (c.none.ensures t))
    ∙ ap (λ (x : ℕ). differ (t == x) (t == c.place-2.result)) c.place.ensures.place
    ∙ ap (λ (x : ℕ). differ (t == place_on l Horiz (strand_of l Horiz node)) (t == x)) c.place-2.ensures.place
    ∙ two_heads l node t c.requires (let h = c.if-alpha-lt2.false in let e = c.alpha.ensures in omega arith) (let h = c.if-alpha-lt3.true in let e = c.alpha-2.ensures in omega arith)

pub returns : goal.returns
returns c t in_t =
    let l = c.args.lattice.now in
    let node = c.args.node in
    c.flipped.ensures t in_t
    ∙ ap (λ (b : Bool). differ b (t == c.place-3.result))
    (c.flipped-right.ensures t in_t
    ∙ ap (λ (b : Bool). differ b (t == c.place-2.result)) (c.flipped-horiz.ensures t in_t ∙ ap (λ (b : Bool). differ b (t == c.place.result)) (c.none.ensures t)))
    ∙ ap (λ (x : ℕ). differ (differ (t == x) (t == c.place-2.result)) (t == c.place-3.result)) c.place.ensures.place
    ∙ ap (λ (x : ℕ). differ (differ (t == place_on l Horiz (strand_of l Horiz node)) (t == x)) (t == c.place-3.result)) c.place-2.ensures.place
    ∙ ap (λ (x : ℕ). differ (differ (t == place_on l Horiz (strand_of l Horiz node)) (t == place_on l Right (strand_of l Right node))) (t == x)) c.place-3.ensures.place
    ∙ three_heads l node t c.requires (let h = c.if-alpha-lt3.false in let e = c.alpha-2.ensures in omega arith)
