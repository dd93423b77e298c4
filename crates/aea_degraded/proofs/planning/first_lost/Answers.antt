use Rattle.std.proofs.Common.{◌≡◌, map, sym, ◌∙◌, ap, subst, Some, true, false}
use Rattle.std.specs.Prelude.{All, IfSome, filter, not}
use Rattle.std.specs.FinMap.{get}
use Rattle.std.proofs.lemmas.List.Elements.{All-head, All-tail}
use Rattle.std.proofs.lemmas.Option.{slice_get_within}
use Rattle.aea_lattice.specs.declared.blocks.BlockId.{BlockId}
use Rattle.aea_lattice.specs.declared.grid.Lattice.{Lattice}
use Rattle.aea_lattice.specs.Blocks.{HasBlock, blocks_of}
use Rattle.aea_view.specs.Marked.{is_marked}
use Rattle.aea_gauss.specs.Fates.{block_of_fate}
use Rattle.aea_archive.specs.Objects.{data_under, IsFirstWithout}
use Rattle.aea_fetch.proofs.Loops.{HasSeen, seen_none, seen_more, seen_first, seen_all}
use Rattle.aea_gauss.specs.declared.fates.Fate.{Fate}
use Rattle.aea_degraded.specs.Summed.{is_word}
use Rattle.aea_degraded.specs.Planned.{IsGiven}
use Rattle.aea_degraded.proofs.FatesAt.{given_none, given_sum, lost_there, word_of}
use Rattle.aea_degraded.proofs.planning.first_lost.Goals as goal

pub loop-b-init : goal.loop-b-init
loop-b-init c =
    let blocks = data_under (get c.args.ledger.now.objects c.args.name.now) in
    record {
      inside = c.new-blocks.ensures.inside;
      seen = subst (HasSeen (Unit {0}) (IsGiven c.args.fates.now) blocks) (sym c.new-blocks.ensures.all) (seen_none (Unit {0}) (IsGiven c.args.fates.now) blocks);
    }

pub find-requires : goal.find-requires
find-requires c = record {
  order = (let are = c.requires in (_, subst (λ (l : Lattice). map block_of_fate c.args.fates.now ≡ filter (λ (b : BlockId). not (not (is_marked are.0 b))) (blocks_of l)) (sym c.lattice-lattice.ensures.value) are.1.blocks));
  block = subst (λ (l : Lattice). HasBlock l c.in-Some.b) (sym c.lattice-lattice.ensures.value)
      (All-head (HasBlock c.args.ledger.now.lattice) c.in-Some.b c.next.new.self (subst (All (HasBlock c.args.ledger.now.lattice)) c.in-Some.ensures c.loop-b.invariant.inside));
}

pub is_lost-requires : goal.is_lost-requires
is_lost-requires c = let found = c.in-Some-find.ensures in slice_get_within c.args.fates.now c.in-Some-find.at found.0 found.1

pub returns-then-is_lost-clause-some : goal.returns-then-is_lost-clause-some
returns-then-is_lost-clause-some c =
    let fates = c.args.fates.now in
    let at = c.in-Some-find.at in
    let found = c.in-Some-find.ensures in
    let lost : is_word found.0 ≡ true = sym (subst (λ o. IfSome o (λ (f : Fate). c.is_lost.result ≡ is_word f)) found.1 c.is_lost.ensures) ∙ c.if-is_lost.true in
    let word = word_of found.0 lost in
    let here = found.1 ∙ ap Some word.1 in
    let b = c.in-Some.b in
    let blocks = data_under (get c.args.ledger.now.objects c.args.name.now) in (
      _,
      word.0,
      here,
      subst (IsFirstWithout (IsGiven fates) blocks) (sym found.2)
          (seen_first (Unit {0}) (IsGiven fates) blocks c.next.new.self b (subst (HasSeen (Unit {0}) (IsGiven fates) blocks) c.in-Some.ensures c.loop-b.invariant.seen) tt
          (subst (λ (x : BlockId). IsGiven fates x → ⊥) found.2 (lost_there fates at _ word.0 here))),
    )

pub loop-b-preserved-else-is_lost : goal.loop-b-preserved-else-is_lost
loop-b-preserved-else-is_lost c =
    let l = c.args.ledger.now.lattice in
    let fates = c.args.fates.now in
    let b = c.in-Some.b in
    let found = c.in-Some-find.ensures in
    let inside = subst (All (HasBlock l)) c.in-Some.ensures c.loop-b.invariant.inside in
    let sum : is_word found.0 ≡ false = sym (subst (λ o. IfSome o (λ (f : Fate). c.is_lost.result ≡ is_word f)) found.1 c.is_lost.ensures) ∙ c.if-is_lost.false in
    let are = c.requires in
    let blocks = data_under (get c.args.ledger.now.objects c.args.name.now) in
    record {
      inside = All-tail (HasBlock l) b c.next.new.self inside;
      seen = seen_more (Unit {0}) (IsGiven fates) blocks c.next.new.self b (subst (HasSeen (Unit {0}) (IsGiven fates) blocks) c.in-Some.ensures c.loop-b.invariant.seen)
          (λ revealed. given_sum c.lists_are_one.ensures l _ fates b c.in-Some-find.at found.0 (All-head (HasBlock l) b c.next.new.self inside) are.1.each found.1 found.2 sum);
    }

pub loop-b-preserved : goal.loop-b-preserved
loop-b-preserved c =
    let l = c.args.ledger.now.lattice in
    let fates = c.args.fates.now in
    let b = c.in-Some.b in
    let blocks = data_under (get c.args.ledger.now.objects c.args.name.now) in
    record {
      inside = All-tail (HasBlock l) b c.next.new.self (subst (All (HasBlock l)) c.in-Some.ensures c.loop-b.invariant.inside);
      seen = seen_more (Unit {0}) (IsGiven fates) blocks c.next.new.self b (subst (HasSeen (Unit {0}) (IsGiven fates) blocks) c.in-Some.ensures c.loop-b.invariant.seen)
          (λ revealed. given_none fates b c.in_default-find.ensures);
    }

pub returns-clause-none : goal.returns-clause-none
returns-clause-none c =
    let fates = c.args.fates.now in
    let blocks = data_under (get c.args.ledger.now.objects c.args.name.now) in
    seen_all (Unit {0}) (IsGiven fates) blocks (subst (HasSeen (Unit {0}) (IsGiven fates) blocks) c.in_default.ensures.0 c.loop-b.invariant.seen) tt
