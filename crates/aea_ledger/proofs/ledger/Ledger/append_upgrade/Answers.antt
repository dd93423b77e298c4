use Rattle.std.proofs.Common.{◌≡◌, ap, subst, refl, sym, ◌∙◌, length, arith, ℕ, ◌+◌, ◌++◌, ◌∷◌, List, true}
use Rattle.sha2.specs.Hashers.{Holds256}
use Rattle.sha2.specs.Sha256.{sha256}
use Rattle.std.proofs.lemmas.List.{append-nil}
use Rattle.aea_disk.specs.Files.{ChangesOnly}
use Rattle.aea_disk.proofs.Frames.{ok_not_err, writes_none, writes_as}
use Rattle.aea_records.specs.Format.{Raise, entry}
use Rattle.aea_ledger.specs.Values.{Opened, HasSomeRecords}
use Rattle.aea_ledger.specs.Committing.{HasTaken}
use Rattle.aea_ledger.proofs.Appends.{raise_next, short_end, length-closed, cut-behind, leaves_none, has_some_more, when_ok}
use Rattle.aea_records.proofs.OneMore.{or_true}
use Rattle.aea_ledger.proofs.ledger.Ledger.append_upgrade.Goals as goal

pub returns-then-self-clause-leaves : goal.returns-then-self-clause-leaves
returns-then-self-clause-leaves g c = leaves_none g.D.Disk.reveals c.args.self.now Raise (g.D.Disk.state c.args.disk.now) c.requires.fixed

pub returns-then-self-clause-writes : goal.returns-then-self-clause-writes
returns-then-self-clause-writes g c = (let s = (g.D.Disk.state c.args.disk.now) in
    writes_as g.D.Disk.reveals _ _ ⊥ _ (ChangesOnly 0) s s (λ is. cc) (λ none. absurd none) (writes_none g.D.Disk.reveals _ _ (ChangesOnly 0) s (λ d f other. refl)))

pub write_next_entry-requires-clause-range : goal.write_next_entry-requires-clause-range
write_next_entry-requires-clause-range g c =
    let some : HasSomeRecords c.args.self.now = subst HasSomeRecords c.self.view_is c.self.invariant in
    let short = short_end c.args.self.now some.0 Raise c.records_are_few.ensures some.1 ((raise_next c.args.self.now (ap (λ (v : Opened). v.raised) (sym c.self.view_is) ∙ c.if-self.false)) some.0 some.1) in
    let size : length c.split_at.result.0.now + (length c.split_at.result.1.now + 1) ≡ length (entry Raise) = length-closed c.split_at.result.0.now c.split_at.result.1.now Raise ((λ i. c.split_at.ensures.front i ++ c.split_at.ensures.back i) ∙ cut-behind Raise c.raise_body-behind.result 9 5 c.raise_body-behind.ensures refl) in
    omega (arith, short, size, ap (λ (v : Opened). v.end) c.self.view_is)

pub returns-then-is_err-clause-leaves : goal.returns-then-is_err-clause-leaves
returns-then-is_err-clause-leaves g c = c.write_next_entry.ensures.leaves c.args.self.now Raise (sym (ap (λ (v : Opened). v.end) c.self.view_is)) ((λ i. c.split_at.ensures.front i ++ c.split_at.ensures.back i) ∙ cut-behind Raise c.raise_body-behind.result 9 5 c.raise_body-behind.ensures refl) (raise_next c.args.self.now (ap (λ (v : Opened). v.raised) (sym c.self.view_is) ∙ c.if-self.false))

pub returns-then-is_err-clause-writes : goal.returns-then-is_err-clause-writes
returns-then-is_err-clause-writes g c =
    writes_as g.D.Disk.reveals _ _ _ _ (ChangesOnly 0) (g.D.Disk.state c.args.disk.now) (g.D.Disk.state c.write_next_entry.new.disk) (λ is. sym c.is_err.ensures.value ∙ c.if-is_err.true) (λ is. cc)
    (c.write_next_entry.ensures.writes c.args.self.now Raise (sym (ap (λ (v : Opened). v.end) c.self.view_is)) ((λ i. c.split_at.ensures.front i ++ c.split_at.ensures.back i) ∙ cut-behind Raise c.raise_body-behind.result 9 5 c.raise_body-behind.ensures refl) (raise_next c.args.self.now (ap (λ (v : Opened). v.raised) (sym c.self.view_is) ∙ c.if-self.false)) c.requires.this)

pub invariant_of-self-2 : goal.invariant_of-self-2
invariant_of-self-2 g c = has_some_more c.args.self.now (record { shape = c.self.inside.shape; lattice = c.self.inside.lattice; objects = c.self.inside.catalog.objects; raised = true; digests = c.self.inside.digests.items; hasher = c.take_entry-self-inside.new.hasher; seal = c.take_entry-self-inside.result; end = c.self.inside.end + 10; live = c.self.inside.live }) Raise (subst (λ (v : Opened). HasTaken v Raise (record { shape = c.self.inside.shape; lattice = c.self.inside.lattice; objects = c.self.inside.catalog.objects; raised = true; digests = c.self.inside.digests.items; hasher = c.take_entry-self-inside.new.hasher; seal = c.take_entry-self-inside.result; end = c.self.inside.end + 10; live = c.self.inside.live })) c.self.view_is
    (record {
      shape = refl;
      alpha = refl;
      s = refl;
      p = refl;
      n = (let z : c.self.inside.lattice.n ≡ c.self.inside.lattice.n + 0 = omega arith in z);
      fences = sym (append-nil c.self.inside.lattice.fences);
      objects = refl;
      raised = sym (or_true c.self.inside.raised);
      digests = sym (append-nil c.self.inside.digests.items);
      hasher = λ m holds. subst (λ (l : List ℕ). Holds256 c.take_entry-self-inside.new.hasher (m ++ 1 ∷ l)) ((λ i. c.split_at.ensures.front i ++ c.split_at.ensures.back i) ∙ cut-behind Raise c.raise_body-behind.result 9 5 c.raise_body-behind.ensures refl) (c.take_entry-self-inside.ensures.taken m holds);
      seal = λ m holds. c.take_entry-self-inside.ensures.seal m holds ∙ ap (λ (l : List ℕ). sha256 (m ++ 1 ∷ l)) ((λ i. c.split_at.ensures.front i ++ c.split_at.ensures.back i) ∙ cut-behind Raise c.raise_body-behind.result 9 5 c.raise_body-behind.ensures refl);
      end = refl;
      live = ap (λ (w : Opened). w.live) c.self.view_is ∙ c.requires.live;
    })) (raise_next c.args.self.now (ap (λ (v : Opened). v.raised) (sym c.self.view_is) ∙ c.if-self.false)) (subst HasSomeRecords c.self.view_is c.self.invariant)

pub returns-clause-leaves : goal.returns-clause-leaves
returns-clause-leaves g c = c.write_next_entry.ensures.leaves c.args.self.now Raise (sym (ap (λ (v : Opened). v.end) c.self.view_is)) ((λ i. c.split_at.ensures.front i ++ c.split_at.ensures.back i) ∙ cut-behind Raise c.raise_body-behind.result 9 5 c.raise_body-behind.ensures refl) (raise_next c.args.self.now (ap (λ (v : Opened). v.raised) (sym c.self.view_is) ∙ c.if-self.false))

pub returns-clause-committed : goal.returns-clause-committed
returns-clause-committed g c =
    when_ok c.write_next_entry.result c.if-is_err.ensures.negation c.write_next_entry.ensures.committed c.args.self.now (record { shape = c.self.inside.shape; lattice = c.self.inside.lattice; objects = c.self.inside.catalog.objects; raised = true; digests = c.self.inside.digests.items; hasher = c.take_entry-self-inside.new.hasher; seal = c.take_entry-self-inside.result; end = c.self.inside.end + 10; live = c.self.inside.live }) Raise (sym (ap (λ (v : Opened). v.end) c.self.view_is)) ((λ i. c.split_at.ensures.front i ++ c.split_at.ensures.back i) ∙ cut-behind Raise c.raise_body-behind.result 9 5 c.raise_body-behind.ensures refl) (raise_next c.args.self.now (ap (λ (v : Opened). v.raised) (sym c.self.view_is) ∙ c.if-self.false)) c.requires.this (subst (λ (v : Opened). HasTaken v Raise (record { shape = c.self.inside.shape; lattice = c.self.inside.lattice; objects = c.self.inside.catalog.objects; raised = true; digests = c.self.inside.digests.items; hasher = c.take_entry-self-inside.new.hasher; seal = c.take_entry-self-inside.result; end = c.self.inside.end + 10; live = c.self.inside.live })) c.self.view_is
    (record {
      shape = refl;
      alpha = refl;
      s = refl;
      p = refl;
      n = (let z : c.self.inside.lattice.n ≡ c.self.inside.lattice.n + 0 = omega arith in z);
      fences = sym (append-nil c.self.inside.lattice.fences);
      objects = refl;
      raised = sym (or_true c.self.inside.raised);
      digests = sym (append-nil c.self.inside.digests.items);
      hasher = λ m holds. subst (λ (l : List ℕ). Holds256 c.take_entry-self-inside.new.hasher (m ++ 1 ∷ l)) ((λ i. c.split_at.ensures.front i ++ c.split_at.ensures.back i) ∙ cut-behind Raise c.raise_body-behind.result 9 5 c.raise_body-behind.ensures refl) (c.take_entry-self-inside.ensures.taken m holds);
      seal = λ m holds. c.take_entry-self-inside.ensures.seal m holds ∙ ap (λ (l : List ℕ). sha256 (m ++ 1 ∷ l)) ((λ i. c.split_at.ensures.front i ++ c.split_at.ensures.back i) ∙ cut-behind Raise c.raise_body-behind.result 9 5 c.raise_body-behind.ensures refl);
      end = refl;
      live = ap (λ (w : Opened). w.live) c.self.view_is ∙ c.requires.live;
    }))

pub returns-clause-writes : goal.returns-clause-writes
returns-clause-writes g c =
    writes_as g.D.Disk.reveals _ _ _ _ (ChangesOnly 0) (g.D.Disk.state c.args.disk.now) (g.D.Disk.state c.write_next_entry.new.disk) (λ is. absurd (cc)) (λ is. absurd (ok_not_err c.write_next_entry.result c.if-is_err.ensures.negation is))
    (c.write_next_entry.ensures.writes c.args.self.now Raise (sym (ap (λ (v : Opened). v.end) c.self.view_is)) ((λ i. c.split_at.ensures.front i ++ c.split_at.ensures.back i) ∙ cut-behind Raise c.raise_body-behind.result 9 5 c.raise_body-behind.ensures refl) (raise_next c.args.self.now (ap (λ (v : Opened). v.raised) (sym c.self.view_is) ∙ c.if-self.false)) c.requires.this)
