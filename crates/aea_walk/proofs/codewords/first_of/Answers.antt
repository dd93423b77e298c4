use Rattle.std.proofs.Common.{◌≡◌, ◌≢◌, ◌+◌, ◌⊎◌, inl, inr, ℕ, sym, arith}
use Rattle.aea_lattice.specs.declared.blocks.Class.TheVariants.{Datum, Horiz, Right, Left}
use Rattle.aea_walk.proofs.Firsts.{AreFirstOn, first-is, none-is, all-from, before-datum, before-horiz, before-right, before-left}
use Rattle.aea_walk.proofs.codewords.first_of.Goals as goal

at_left : (datum horiz right left a b i : ℕ) → (a ≡ datum) ⊎ (a ≡ horiz) → (b ≡ right) ⊎ (b ≡ left) → (i ≡ a) ⊎ (i ≡ b) → datum ≢ i → horiz ≢ i → right ≢ i → left ≡ i
at_left datum horiz right left a b i one two three p q r = elim three [
  | inl e ↦ elim one [
    | inl f ↦ absurd (p (omega arith))
    | inr f ↦ absurd (q (omega arith))
  ]
  | inr e ↦ elim two [
    | inl f ↦ absurd (r (omega arith))
    | inr f ↦ omega arith
  ]
]

pub returns-then-node-n : goal.returns-then-node-n
returns-then-node-n c intact nodes datum horiz right left =
    let a = c.lesser.ensures.first in
    let b = c.lesser.ensures.second in
    let d = c.lesser-2.ensures.first in
    let e = c.lesser-2.ensures.second in
    let f = c.lesser-node.ensures.first in
    let g = c.lesser-node.ensures.second in
    let i = c.lesser-node.result in
    let are : AreFirstOn c.args.lattice.now intact nodes c.args.datum c.args.horiz c.args.right c.args.left = record { first = datum; second = horiz; third = right; fourth = left } in
    let n = c.n.ensures in
    let past = c.if-node-n.true in
    sym (none-is c.args.lattice.now intact nodes (all-from c.args.lattice.now intact nodes c.args.datum c.args.horiz c.args.right c.args.left (c.args.lattice.now.n + 1) are (omega arith) (omega arith) (omega arith) (omega arith)))

pub returns-then-datum-node : goal.returns-then-datum-node
returns-then-datum-node c intact nodes datum horiz right left =
    let a = c.lesser.ensures.first in
    let b = c.lesser.ensures.second in
    let d = c.lesser-2.ensures.first in
    let e = c.lesser-2.ensures.second in
    let f = c.lesser-node.ensures.first in
    let g = c.lesser-node.ensures.second in
    let i = c.lesser-node.result in
    let are : AreFirstOn c.args.lattice.now intact nodes c.args.datum c.args.horiz c.args.right c.args.left = record { first = datum; second = horiz; third = right; fourth = left } in
    let n = c.n.ensures in
    let within = c.if-node-n.false in
    sym (first-is c.args.lattice.now intact nodes i c.args.datum Datum c.if-datum-node.true (omega arith) datum (before-datum c.args.lattice.now intact nodes i) (all-from c.args.lattice.now intact nodes c.args.datum c.args.horiz c.args.right c.args.left i are (omega arith) (omega arith) (omega arith) (omega arith)))

pub returns-then-horiz-node : goal.returns-then-horiz-node
returns-then-horiz-node c intact nodes datum horiz right left =
    let a = c.lesser.ensures.first in
    let b = c.lesser.ensures.second in
    let d = c.lesser-2.ensures.first in
    let e = c.lesser-2.ensures.second in
    let f = c.lesser-node.ensures.first in
    let g = c.lesser-node.ensures.second in
    let i = c.lesser-node.result in
    let are : AreFirstOn c.args.lattice.now intact nodes c.args.datum c.args.horiz c.args.right c.args.left = record { first = datum; second = horiz; third = right; fourth = left } in
    let n = c.n.ensures in
    let within = c.if-node-n.false in
    let p = c.if-datum-node.false in
    sym (first-is c.args.lattice.now intact nodes i c.args.horiz Horiz c.if-horiz-node.true (omega arith) horiz (before-horiz c.args.lattice.now intact nodes c.args.datum c.args.horiz c.args.right c.args.left i are (omega arith)) (all-from c.args.lattice.now intact nodes c.args.datum c.args.horiz c.args.right c.args.left i are (omega arith) (omega arith) (omega arith) (omega arith)))

pub returns-then-right-node : goal.returns-then-right-node
returns-then-right-node c intact nodes datum horiz right left =
    let a = c.lesser.ensures.first in
    let b = c.lesser.ensures.second in
    let d = c.lesser-2.ensures.first in
    let e = c.lesser-2.ensures.second in
    let f = c.lesser-node.ensures.first in
    let g = c.lesser-node.ensures.second in
    let i = c.lesser-node.result in
    let are : AreFirstOn c.args.lattice.now intact nodes c.args.datum c.args.horiz c.args.right c.args.left = record { first = datum; second = horiz; third = right; fourth = left } in
    let n = c.n.ensures in
    let within = c.if-node-n.false in
    let p = c.if-datum-node.false in
    let q = c.if-horiz-node.false in
    sym (first-is c.args.lattice.now intact nodes i c.args.right Right c.if-right-node.true (omega arith) right (before-right c.args.lattice.now intact nodes c.args.datum c.args.horiz c.args.right c.args.left i are (omega arith) (omega arith)) (all-from c.args.lattice.now intact nodes c.args.datum c.args.horiz c.args.right c.args.left i are (omega arith) (omega arith) (omega arith) (omega arith)))

pub returns-else-right-node : goal.returns-else-right-node
returns-else-right-node c intact nodes datum horiz right left =
    let a = c.lesser.ensures.first in
    let b = c.lesser.ensures.second in
    let d = c.lesser-2.ensures.first in
    let e = c.lesser-2.ensures.second in
    let f = c.lesser-node.ensures.first in
    let g = c.lesser-node.ensures.second in
    let i = c.lesser-node.result in
    let are : AreFirstOn c.args.lattice.now intact nodes c.args.datum c.args.horiz c.args.right c.args.left = record { first = datum; second = horiz; third = right; fourth = left } in
    let n = c.n.ensures in
    let within = c.if-node-n.false in
    let p = c.if-datum-node.false in
    let q = c.if-horiz-node.false in
    let r = c.if-right-node.false in
    let last : c.args.left ≡ i = at_left c.args.datum c.args.horiz c.args.right c.args.left c.lesser.result c.lesser-2.result i c.lesser.ensures.one c.lesser-2.ensures.one c.lesser-node.ensures.one p q r in
    sym (first-is c.args.lattice.now intact nodes i c.args.left Left last (omega arith) left (before-left c.args.lattice.now intact nodes c.args.datum c.args.horiz c.args.right c.args.left i are (omega arith) (omega arith) (omega arith)) (all-from c.args.lattice.now intact nodes c.args.datum c.args.horiz c.args.right c.args.left i are (omega arith) (omega arith) (omega arith) (omega arith)))
