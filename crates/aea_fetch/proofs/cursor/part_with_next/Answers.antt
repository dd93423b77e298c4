use Rattle.std.proofs.Common.{◌≡◌, ◌+◌, ◌≤◌, length, sym, ◌∙◌, ap, arith, Some, None}
use Rattle.std.specs.Prelude.{slice_get}
use Rattle.std.specs.FinMap.{get}
use Rattle.std.proofs.lemmas.Option.{slice_get_within}
use Rattle.aea_catalog.specs.Catalogs.{Placed, Objects, part_at}
use Rattle.aea_ledger.proofs.Small.{few_parts}
use Rattle.aea_fetch.proofs.Blocks.{left_next, left_none, part_of, part_inside}
use Rattle.aea_fetch.proofs.cursor.part_with_next.Goals.{In-Some}
use Rattle.aea_fetch.proofs.cursor.part_with_next.Goals as goal

pub returns-in_default-clause-left : goal.returns-in_default-clause-left
returns-in_default-clause-left c =
    let none : c.args.begun.count ≡ 0 = omega arith in
    let gone : part_at (get c.args.ledger.now.objects c.args.name.now) c.args.place ≡ None = sym (ap (λ (m : Objects). part_at (get m c.args.name.now) c.args.place) c.catalog.ensures.objects) ∙ sym c.part.ensures ∙ c.in_default.is in
    left_none (get c.args.ledger.now.objects c.args.name.now) c.args.begun c.args.place none gone

-- the part that was found
found : (c : In-Some) → part_at (get c.args.ledger.now.objects c.args.name.now) c.args.place ≡ Some c.in-Some.part
found c = sym (ap (λ (m : Objects). part_at (get m c.args.name.now) c.args.place) c.catalog.ensures.objects) ∙ sym c.part.ensures ∙ c.in-Some.is

-- it is one of the object's, and lies within the nodes
lies : (c : In-Some) → (p : Placed) × (slice_get p.parts c.args.place ≡ Some c.in-Some.part) × (length p.parts ≤ c.args.ledger.now.lattice.n)
    × ((1 ≤ c.in-Some.part.first) × (1 ≤ c.in-Some.part.count) × (c.in-Some.part.first + c.in-Some.part.count ≤ c.args.ledger.now.lattice.n + 1))
lies c =
    let v = c.args.ledger.now in
    let of = part_of (get v.objects c.args.name.now) c.args.place c.in-Some.part (found c) in
    let within = c.catalog.ensures.within c.args.name.now of.0 (ap (λ (m : Objects). get m c.args.name.now) c.catalog.ensures.objects ∙ of.1) in
    let few = few_parts 0 v.lattice.n of.0.parts within.apart in
    (of.0, of.2, omega (arith, few), part_inside 0 v.lattice.n of.0.parts c.args.place c.in-Some.part within.apart of.2)

pub overflow_add-result : goal.overflow_add-result
overflow_add-result c =
    let p = lies (goal.at.overflow_add-result c).In-Some in
    let below = slice_get_within p.0.parts c.args.place c.in-Some.part p.1 in
    let few = p.2 in
    let small = c.args.ledger.now.lattice.in_range in
    omega (arith, few, below, small)

pub returns-clause-left : goal.returns-clause-left
returns-clause-left c =
    let none : c.args.begun.count ≡ 0 = omega arith in
    left_next (get c.args.ledger.now.objects c.args.name.now) c.args.begun c.in-Some.part c.args.place none (found (goal.at.returns-clause-left c).In-Some)

pub returns-clause-some : goal.returns-clause-some
returns-clause-some c = (lies (goal.at.returns-clause-some c).In-Some).3.1

pub returns-clause-inside : goal.returns-clause-inside
returns-clause-inside c = let l = (lies (goal.at.returns-clause-inside c).In-Some).3 in (l.0, l.2)
