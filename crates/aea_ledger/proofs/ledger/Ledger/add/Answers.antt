use Rattle.std.proofs.Common.{◌≡◌, ap, subst, refl, sym, ◌∙◌, length, arith, ℕ, ◌+◌, ◌<◌, ◌^◌, ◌++◌, ◌∷◌, [], List, option_map}
use Rattle.std.specs.FinMap.{len}
use Rattle.std.specs.List.{sum_by}
use Rattle.std.specs.Prelude.{IfSome, Option}
use Rattle.sha2.specs.Hashers.{Holds256}
use Rattle.sha2.specs.Sha256.{sha256}
use Rattle.std.proofs.lemmas.Result.{err_from_is_err_and}
use Rattle.aea_disk.specs.Files.{ChangesOnly}
use Rattle.aea_disk.proofs.Frames.{ok_not_err, writes_none, writes_as}
use Rattle.aea_catalog.specs.declared.objects.Extent.{Extent}
use Rattle.aea_records.specs.Format.{entry, greatest_objects}
use Rattle.aea_records.specs.Catalogued.{with_record}
use Rattle.aea_ledger.specs.Values.{Opened, HasSomeRecords}
use Rattle.aea_records.specs.Objects.{stored_as, made}
use Rattle.aea_ledger.specs.Committing.{HasTaken}
use Rattle.aea_ledger.proofs.Appends.{HasMade, made_taken, with_made, made_small, few_objects, of_view, short_end, length-closed, leaves_none, has_some_more, when_ok}
use Rattle.aea_ledger.proofs.ledger.Ledger.add.Given.{Over}
use Rattle.aea_ledger.proofs.ledger.Ledger.add.Goals as goal

pub returns-then-len-ge-MAX_OBJECTS-clause-full : goal.returns-then-len-ge-MAX_OBJECTS-clause-full
returns-then-len-ge-MAX_OBJECTS-clause-full g c =
    let some : HasSomeRecords c.args.self.now = subst HasSomeRecords c.self.view_is c.self.invariant in
    let number : c.len.result ≡ len c.args.self.now.objects = c.len.ensures ∙ ap (λ (w : Opened). len w.objects) c.self.view_is in
    let full : len c.args.self.now.objects ≡ greatest_objects = omega (arith, number, few_objects c.args.self.now c.objects_are_counted.ensures c.records_are_few.ensures some) in
    (λ _. full, λ _. refl)

pub returns-then-len-ge-MAX_OBJECTS-clause-leaves : goal.returns-then-len-ge-MAX_OBJECTS-clause-leaves
returns-then-len-ge-MAX_OBJECTS-clause-leaves g c = leaves_none g.D.Disk.reveals c.args.self.now (made (stored_as c.args.name.now c.args.object.now c.args.digests.now) (option_map (λ e. e.now) c.args.parts)) (g.D.Disk.state c.args.disk.now) c.requires.fixed

pub returns-then-len-ge-MAX_OBJECTS-clause-writes : goal.returns-then-len-ge-MAX_OBJECTS-clause-writes
returns-then-len-ge-MAX_OBJECTS-clause-writes g c =
    writes_as g.D.Disk.reveals _ _ ⊥ _ (ChangesOnly 0) (g.D.Disk.state c.args.disk.now) (g.D.Disk.state c.args.disk.now) (λ is. cc) (λ none. absurd none) (writes_none g.D.Disk.reveals _ _ (ChangesOnly 0) (g.D.Disk.state c.args.disk.now) (λ d f other. refl))

pub returns-in_err-owned_name-clause-leaves : goal.returns-in_err-owned_name-clause-leaves
returns-in_err-owned_name-clause-leaves g c = leaves_none g.D.Disk.reveals c.args.self.now (made (stored_as c.args.name.now c.args.object.now c.args.digests.now) (option_map (λ e. e.now) c.args.parts)) (g.D.Disk.state c.args.disk.now) c.requires.fixed

pub returns-in_err-owned_name-clause-writes : goal.returns-in_err-owned_name-clause-writes
returns-in_err-owned_name-clause-writes g c =
    let p = err_from_is_err_and c.from_residual.result c.from_residual.ensures.1 in rw (p.1, p.2)
    (writes_as g.D.Disk.reveals _ _ ⊥ _ (ChangesOnly 0) (g.D.Disk.state c.args.disk.now) (g.D.Disk.state c.args.disk.now) (λ is. cc) (λ none. absurd none) (writes_none g.D.Disk.reveals _ _ (ChangesOnly 0) (g.D.Disk.state c.args.disk.now) (λ d f other. refl)))

pub returns-in_err-owned_parts-clause-leaves : goal.returns-in_err-owned_parts-clause-leaves
returns-in_err-owned_parts-clause-leaves g c = leaves_none g.D.Disk.reveals c.args.self.now (made (stored_as c.args.name.now c.args.object.now c.args.digests.now) (option_map (λ e. e.now) c.args.parts)) (g.D.Disk.state c.args.disk.now) c.requires.fixed

pub returns-in_err-owned_parts-clause-writes : goal.returns-in_err-owned_parts-clause-writes
returns-in_err-owned_parts-clause-writes g c =
    let p = err_from_is_err_and c.from_residual-in_err-owned_parts.result c.from_residual-in_err-owned_parts.ensures.1 in rw (p.1, p.2)
    (writes_as g.D.Disk.reveals _ _ ⊥ _ (ChangesOnly 0) (g.D.Disk.state c.args.disk.now) (g.D.Disk.state c.args.disk.now) (λ is. cc) (λ none. absurd none) (writes_none g.D.Disk.reveals _ _ (ChangesOnly 0) (g.D.Disk.state c.args.disk.now) (λ d f other. refl)))

pub returns-in_err-front-clause-leaves : goal.returns-in_err-front-clause-leaves
returns-in_err-front-clause-leaves g c = leaves_none g.D.Disk.reveals c.args.self.now (made (stored_as c.args.name.now c.args.object.now c.args.digests.now) (option_map (λ e. e.now) c.args.parts)) (g.D.Disk.state c.args.disk.now) c.requires.fixed

pub returns-in_err-front-clause-writes : goal.returns-in_err-front-clause-writes
returns-in_err-front-clause-writes g c =
    let p = err_from_is_err_and c.from_residual-in_err-front.result c.from_residual-in_err-front.ensures.1 in rw (p.1, p.2)
    (writes_as g.D.Disk.reveals _ _ ⊥ _ (ChangesOnly 0) (g.D.Disk.state c.args.disk.now) (g.D.Disk.state c.args.disk.now) (λ is. cc) (λ none. absurd none) (writes_none g.D.Disk.reveals _ _ (ChangesOnly 0) (g.D.Disk.state c.args.disk.now) (λ d f other. refl)))

pub returns-in_err-reserve-clause-leaves : goal.returns-in_err-reserve-clause-leaves
returns-in_err-reserve-clause-leaves g c = leaves_none g.D.Disk.reveals c.args.self.now (made (stored_as c.args.name.now c.args.object.now c.args.digests.now) (option_map (λ e. e.now) c.args.parts)) (g.D.Disk.state c.args.disk.now) c.requires.fixed

pub returns-in_err-reserve-clause-writes : goal.returns-in_err-reserve-clause-writes
returns-in_err-reserve-clause-writes g c =
    let p = err_from_is_err_and c.from_residual-in_err-reserve.result c.from_residual-in_err-reserve.ensures.1 in rw (p.1, p.2)
    (writes_as g.D.Disk.reveals _ _ ⊥ _ (ChangesOnly 0) (g.D.Disk.state c.args.disk.now) (g.D.Disk.state c.args.disk.now) (λ is. cc) (λ none. absurd none) (writes_none g.D.Disk.reveals _ _ (ChangesOnly 0) (g.D.Disk.state c.args.disk.now) (λ d f other. refl)))

pub write_next_entry-requires-clause-range : goal.write_next_entry-requires-clause-range
write_next_entry-requires-clause-range g c =
    let some : HasSomeRecords c.args.self.now = subst HasSomeRecords c.self.view_is c.self.invariant in
    let short = short_end c.args.self.now some.0 (made (stored_as c.args.name.now c.args.object.now c.args.digests.now) (option_map (λ e. e.now) c.args.parts)) c.records_are_few.ensures some.1 (c.may_follow.ensures.next some.0 some.1) in
    let size = length-closed c.deref.result.now c.as_flattened-rest.result.now (made (stored_as c.args.name.now c.args.object.now c.args.digests.now) (option_map (λ e. e.now) c.args.parts)) ((λ i. c.deref.ensures.value i ++ c.as_flattened-rest.ensures.value i) ∙ c.in_ok-front.ensures) in
    omega (arith, short, size, (ap (λ (v : Opened). v.end) c.self.view_is))

pub returns-then-is_err-clause-leaves : goal.returns-then-is_err-clause-leaves
returns-then-is_err-clause-leaves g c = c.write_next_entry.ensures.leaves c.args.self.now (made (stored_as c.args.name.now c.args.object.now c.args.digests.now) (option_map (λ e. e.now) c.args.parts)) (sym (ap (λ (v : Opened). v.end) c.self.view_is)) ((λ i. c.deref.ensures.value i ++ c.as_flattened-rest.ensures.value i) ∙ c.in_ok-front.ensures) c.may_follow.ensures.next

pub returns-then-is_err-clause-writes : goal.returns-then-is_err-clause-writes
returns-then-is_err-clause-writes g c =
    writes_as g.D.Disk.reveals _ _ _ _ (ChangesOnly 0) (g.D.Disk.state c.args.disk.now) (g.D.Disk.state c.write_next_entry.new.disk) (λ is. sym c.is_err.ensures.value ∙ c.if-is_err.true) (λ is. cc)
    (c.write_next_entry.ensures.writes c.args.self.now (made (stored_as c.args.name.now c.args.object.now c.args.digests.now) (option_map (λ e. e.now) c.args.parts)) (sym (ap (λ (v : Opened). v.end) c.self.view_is)) ((λ i. c.deref.ensures.value i ++ c.as_flattened-rest.ensures.value i) ∙ c.in_ok-front.ensures) c.may_follow.ensures.next c.requires.this)

pub put_object-requires-clause-few : goal.put_object-requires-clause-few
put_object-requires-clause-few g c =
    of_view (λ e. e.items) (λ e. sum_by (λ p. p.count) e < 2 ^ 32) c.in_ok-owned_parts.owned_parts
    (subst (λ (o : Option (List Extent)). IfSome o (λ e. sum_by (λ p. p.count) e < 2 ^ 32)) (sym c.in_ok-owned_parts.ensures)
    (made_small c.args.self.now c.args.object.now.size c.args.object.now.count (option_map (λ e. e.now) c.args.parts) c.requires.fits c.requires.nodes))

pub overflow_add-self-3 : goal.overflow_add-self-3
overflow_add-self-3 g c =
    let some : HasSomeRecords c.args.self.now = subst HasSomeRecords c.self.view_is c.self.invariant in
    let short = short_end c.args.self.now some.0 (made (stored_as c.args.name.now c.args.object.now c.args.digests.now) (option_map (λ e. e.now) c.args.parts)) c.records_are_few.ensures some.1 (c.may_follow.ensures.next some.0 some.1) in
    let size = length-closed c.deref-2.result.now c.as_flattened-rest.result.now (made (stored_as c.args.name.now c.args.object.now c.args.digests.now) (option_map (λ e. e.now) c.args.parts)) ((λ i. c.deref-2.ensures.value i ++ c.as_flattened-rest.ensures.value i) ∙ c.in_ok-front.ensures) in
    omega (arith, short, size, c.deref-2.ensures.len, c.len-2.ensures, (ap (λ (v : Opened). v.end) c.self.view_is))

-- the ledger has taken the record
taken : (g : Over) (c : goal.After-drop-front-2 g) → HasTaken c.args.self.now (made (stored_as c.args.name.now c.args.object.now c.args.digests.now) (option_map (λ e. e.now) c.args.parts)) (record { shape = c.self.inside.shape; lattice = c.more_nodes-self-inside.result; objects = c.put_object.new.catalog.objects; raised = c.self.inside.raised; digests = c.put_digests.new.digests.items; hasher = c.take_entry-self-inside.new.hasher; seal = c.take_entry-self-inside.result; end = c.self.inside.end + (1 + c.len-2.result + length c.as_flattened-rest.result.now); live = c.self.inside.live })
taken g c =
    let size = length-closed c.deref-2.result.now c.as_flattened-rest.result.now (made (stored_as c.args.name.now c.args.object.now c.args.digests.now) (option_map (λ e. e.now) c.args.parts)) ((λ i. c.deref-2.ensures.value i ++ c.as_flattened-rest.ensures.value i) ∙ c.in_ok-front.ensures) in
    made_taken c.args.self.now (record { shape = c.self.inside.shape; lattice = c.more_nodes-self-inside.result; objects = c.put_object.new.catalog.objects; raised = c.self.inside.raised; digests = c.put_digests.new.digests.items; hasher = c.take_entry-self-inside.new.hasher; seal = c.take_entry-self-inside.result; end = c.self.inside.end + (1 + c.len-2.result + length c.as_flattened-rest.result.now); live = c.self.inside.live }) (stored_as c.args.name.now c.args.object.now c.args.digests.now) (option_map (λ e. e.now) c.args.parts)
    (subst (λ (v : Opened). HasMade v (stored_as c.args.name.now c.args.object.now c.args.digests.now) (option_map (λ e. e.now) c.args.parts) (record { shape = c.self.inside.shape; lattice = c.more_nodes-self-inside.result; objects = c.put_object.new.catalog.objects; raised = c.self.inside.raised; digests = c.put_digests.new.digests.items; hasher = c.take_entry-self-inside.new.hasher; seal = c.take_entry-self-inside.result; end = c.self.inside.end + (1 + c.len-2.result + length c.as_flattened-rest.result.now); live = c.self.inside.live })) c.self.view_is
    (record {
      shape = refl;
      alpha = c.more_nodes-self-inside.ensures.shape.alpha;
      s = c.more_nodes-self-inside.ensures.shape.s;
      p = c.more_nodes-self-inside.ensures.shape.p;
      n = c.more_nodes-self-inside.ensures.nodes;
      fences = c.more_nodes-self-inside.ensures.fences;
      objects = c.put_object.ensures
          ∙ (λ i. with_record (c.reserve.ensures.objects i) (made (stored_as (c.in_ok-owned_name.ensures.items i) c.args.object.now []) (c.in_ok-owned_parts.ensures i)))
          ∙ with_made c.self.inside.catalog.objects c.args.name.now c.args.object.now c.args.digests.now (option_map (λ e. e.now) c.args.parts);
      raised = refl;
      digests = c.put_digests.ensures ∙ ap (λ (l : List (List ℕ)). l ++ c.args.digests.now) c.reserve.ensures.digests;
      hasher = λ m holds. subst (λ (l : List ℕ). Holds256 c.take_entry-self-inside.new.hasher (m ++ 1 ∷ l)) ((λ i. c.deref-2.ensures.value i ++ c.as_flattened-rest.ensures.value i) ∙ c.in_ok-front.ensures) (c.take_entry-self-inside.ensures.taken m holds);
      seal = λ m holds. c.take_entry-self-inside.ensures.seal m holds ∙ ap (λ (l : List ℕ). sha256 (m ++ 1 ∷ l)) ((λ i. c.deref-2.ensures.value i ++ c.as_flattened-rest.ensures.value i) ∙ c.in_ok-front.ensures);
      end = ap (λ (n : ℕ). c.self.inside.end + n) (let all : 1 + c.len-2.result + length c.as_flattened-rest.result.now ≡ length (entry (made (stored_as c.args.name.now c.args.object.now c.args.digests.now) (option_map (λ e. e.now) c.args.parts))) = omega (arith, size, c.deref-2.ensures.len, c.len-2.ensures) in all);
      live = ap (λ (w : Opened). w.live) c.self.view_is ∙ c.requires.live;
    }))

pub invariant_of-self-2 : goal.invariant_of-self-2
invariant_of-self-2 g c = has_some_more c.args.self.now (record { shape = c.self.inside.shape; lattice = c.more_nodes-self-inside.result; objects = c.put_object.new.catalog.objects; raised = c.self.inside.raised; digests = c.put_digests.new.digests.items; hasher = c.take_entry-self-inside.new.hasher; seal = c.take_entry-self-inside.result; end = c.self.inside.end + (1 + c.len-2.result + length c.as_flattened-rest.result.now); live = c.self.inside.live }) (made (stored_as c.args.name.now c.args.object.now c.args.digests.now) (option_map (λ e. e.now) c.args.parts)) (taken g c) c.may_follow.ensures.next (subst HasSomeRecords c.self.view_is c.self.invariant)

pub returns-clause-leaves : goal.returns-clause-leaves
returns-clause-leaves g c = c.write_next_entry.ensures.leaves c.args.self.now (made (stored_as c.args.name.now c.args.object.now c.args.digests.now) (option_map (λ e. e.now) c.args.parts)) (sym (ap (λ (v : Opened). v.end) c.self.view_is)) ((λ i. c.deref.ensures.value i ++ c.as_flattened-rest.ensures.value i) ∙ c.in_ok-front.ensures) c.may_follow.ensures.next

pub returns-clause-committed : goal.returns-clause-committed
returns-clause-committed g c =
    when_ok c.write_next_entry.result c.if-is_err.ensures.negation c.write_next_entry.ensures.committed c.args.self.now (record { shape = c.self.inside.shape; lattice = c.more_nodes-self-inside.result; objects = c.put_object.new.catalog.objects; raised = c.self.inside.raised; digests = c.put_digests.new.digests.items; hasher = c.take_entry-self-inside.new.hasher; seal = c.take_entry-self-inside.result; end = c.self.inside.end + (1 + c.len-2.result + length c.as_flattened-rest.result.now); live = c.self.inside.live }) (made (stored_as c.args.name.now c.args.object.now c.args.digests.now) (option_map (λ e. e.now) c.args.parts)) (sym (ap (λ (v : Opened). v.end) c.self.view_is)) ((λ i. c.deref.ensures.value i ++ c.as_flattened-rest.ensures.value i) ∙ c.in_ok-front.ensures) c.may_follow.ensures.next
    c.requires.this (taken g c)

pub returns-clause-writes : goal.returns-clause-writes
returns-clause-writes g c =
    writes_as g.D.Disk.reveals _ _ _ _ (ChangesOnly 0) (g.D.Disk.state c.args.disk.now) (g.D.Disk.state c.write_next_entry.new.disk) (λ is. absurd (cc)) (λ is. absurd (ok_not_err c.write_next_entry.result c.if-is_err.ensures.negation is))
    (c.write_next_entry.ensures.writes c.args.self.now (made (stored_as c.args.name.now c.args.object.now c.args.digests.now) (option_map (λ e. e.now) c.args.parts)) (sym (ap (λ (v : Opened). v.end) c.self.view_is)) ((λ i. c.deref.ensures.value i ++ c.as_flattened-rest.ensures.value i) ∙ c.in_ok-front.ensures) c.may_follow.ensures.next c.requires.this)
