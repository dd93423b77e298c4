use Rattle.std.proofs.Common.{◌≡◌, ⊎_elim, ◌-◌, ℕ, None, sym, ◌∙◌, ap, arith}
use Rattle.std.specs.Prelude.{slice_index_or}
use Rattle.std.specs.FinMap.{len}
use Rattle.std.proofs.lemmas.List.{get_or_read}
use Rattle.aea_machine.specs.Machine.{Full, stays}
use Rattle.aea_machine.specs.Refusals.{refused_by}
use Rattle.aea_machine.specs.declared.refusal.Refusal.{Refusal}
use Rattle.aea_session.proofs.CloseFull.{full_is, refusal_is}
use Rattle.aea_session.proofs.close.decide.Goals as goal

pub returns-then-nodes-ge-MAX_NODES-clause-refused : goal.returns-then-nodes-ge-MAX_NODES-clause-refused
returns-then-nodes-ge-MAX_NODES-clause-refused c refusal is m kept =
    let v = c.args.work.now in
    let many = kept.many in
    let read : c.index-work-slot.result ≡ slice_index_or v.slots c.args.slot None = get_or_read v.slots _ _ (omega (arith, many, c.if-slot-ge16.false)) c.index-work-slot.is None in
    let nodes : v.heads.lattice.n ≡ c.next_node-nodes.result - 1 = omega (arith, c.next_node-nodes.ensures) in
    full_is c.filled_are_counted.ensures v m c.args.slot c.in-Some.kept kept (omega (arith, c.if-slot-ge16.false)) (sym read ∙ c.index-work-slot.is ∙ c.in-Some.is)
    (λ e. c.if-len-eq-MAX_OBJECTS.false (c.len.ensures ∙ ap len c.catalog.ensures.objects ∙ e))
    (omega (arith, c.if-have-gt0.true)) (omega (arith, c.if-nodes-ge-MAX_NODES.true, nodes))
    ∙ ap (λ (n : ℕ). stays m (Full n)) nodes
    ∙ ap (λ (r : Refusal). stays m (refused_by r)) (refusal_is _ refusal is)

pub returns-clause-may : goal.returns-clause-may
returns-clause-may c =
    let v = c.args.work.now in
    let many = c.requires.keeps.1.many in
    let read : c.index-work-slot.result ≡ slice_index_or v.slots c.args.slot None = get_or_read v.slots _ _ (omega (arith, many, c.if-slot-ge16.false)) c.index-work-slot.is None in
    record {
      below = omega (arith, c.if-slot-ge16.false);
      kept = c.in-Some.kept;
      there = sym read ∙ c.index-work-slot.is ∙ c.in-Some.is;
      few = λ e. c.if-len-eq-MAX_OBJECTS.false (c.len.ensures ∙ ap len c.catalog.ensures.objects ∙ e);
      fits = λ some. ⊎_elim
          (λ less. let l = less.1 in omega (arith, l, c.next_node-nodes.ensures))
          (λ none. absurd (omega (arith, none, some)))
          c.else-have-gt0.either;
    }
