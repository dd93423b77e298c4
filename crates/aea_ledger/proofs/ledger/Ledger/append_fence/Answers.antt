use Rattle.std.proofs.Common.{◌≡◌, ◌≢◌, ap, subst, refl, sym, ◌∙◌, length, arith, ℕ, ◌+◌, ◌<◌, ◌++◌, ◌∷◌, [], List}
use Rattle.sha2.specs.Hashers.{Holds256}
use Rattle.sha2.specs.Sha256.{sha256}
use Rattle.std.proofs.lemmas.List.{append-nil}
use Rattle.aea_disk.specs.Files.{ChangesOnly}
use Rattle.aea_disk.proofs.Frames.{ok_not_err, writes_none, writes_as}
use Rattle.aea_lattice.specs.Fences.{greatest_fences, last_fence}
use Rattle.aea_records.specs.Format.{Fence, body, entry}
use Rattle.aea_ledger.specs.Values.{Opened, HasSomeRecords}
use Rattle.aea_ledger.specs.Committing.{HasTaken}
use Rattle.aea_records.proofs.OneMore.{or_false}
use Rattle.aea_ledger.proofs.Small.{is_full}
use Rattle.aea_ledger.proofs.Appends.{fence_next, short_end, length-closed, cut-behind, leaves_none, has_some_more, when_ok}
use Rattle.aea_ledger.proofs.ledger.Ledger.append_fence.Goals as goal

pub returns-then-last_fence-nodes-clause-leaves : goal.returns-then-last_fence-nodes-clause-leaves
returns-then-last_fence-nodes-clause-leaves g c = leaves_none g.D.Disk.reveals c.args.self.now (Fence c.args.self.now.lattice.n) (g.D.Disk.state c.args.disk.now) c.requires.fixed

pub returns-then-last_fence-nodes-clause-writes : goal.returns-then-last_fence-nodes-clause-writes
returns-then-last_fence-nodes-clause-writes g c = (let s = (g.D.Disk.state c.args.disk.now) in
    writes_as g.D.Disk.reveals _ _ ⊥ _ (ChangesOnly 0) s s (λ is. cc) (λ none. absurd none) (writes_none g.D.Disk.reveals _ _ (ChangesOnly 0) s (λ d f other. refl)))

pub returns-in_default-clause-many : goal.returns-in_default-clause-many
returns-in_default-clause-many g c =
    let other : last_fence c.self.inside.lattice.fences ≢ c.self.inside.lattice.n = λ e. c.if-last_fence-nodes.false (c.last_fence.ensures ∙ e) in
    let never : last_fence c.self.inside.lattice.fences < c.self.inside.lattice.n → length c.self.inside.lattice.fences < greatest_fences → ⊥ = λ before few. (let none = c.in_default.ensures.valid.1 (before, few) in cc) in
    let full : length c.self.inside.lattice.fences ≡ greatest_fences = is_full c.self.inside.lattice other never in
    (λ _. subst (λ (v : Opened). (length v.lattice.fences ≡ greatest_fences) × (last_fence v.lattice.fences ≢ v.lattice.n)) c.self.view_is (full, other), λ _. refl)

pub returns-in_default-clause-leaves : goal.returns-in_default-clause-leaves
returns-in_default-clause-leaves g c = leaves_none g.D.Disk.reveals c.args.self.now (Fence c.args.self.now.lattice.n) (g.D.Disk.state c.args.disk.now) c.requires.fixed

pub returns-in_default-clause-writes : goal.returns-in_default-clause-writes
returns-in_default-clause-writes g c = (let s = (g.D.Disk.state c.args.disk.now) in
    writes_as g.D.Disk.reveals _ _ ⊥ _ (ChangesOnly 0) s s (λ is. cc) (λ none. absurd none) (writes_none g.D.Disk.reveals _ _ (ChangesOnly 0) s (λ d f other. refl)))

pub write_next_entry-requires-clause-range : goal.write_next_entry-requires-clause-range
write_next_entry-requires-clause-range g c =
    let may = (rw c.in-Some.is at c.fenced.ensures.valid).0 refl in
    let some : HasSomeRecords c.args.self.now = subst HasSomeRecords c.self.view_is c.self.invariant in
    let short = short_end c.args.self.now some.0 (Fence c.args.self.now.lattice.n) c.records_are_few.ensures some.1 ((fence_next c.args.self.now c.fences_may_follow.ensures (subst (λ (v : Opened). last_fence v.lattice.fences < v.lattice.n) c.self.view_is may.0) (subst (λ (v : Opened). length v.lattice.fences < greatest_fences) c.self.view_is may.1)) some.0 some.1) in
    let size : length c.split_at.result.0.now + (length c.split_at.result.1.now + 1) ≡ length (entry (Fence c.args.self.now.lattice.n)) = length-closed c.split_at.result.0.now c.split_at.result.1.now (Fence c.args.self.now.lattice.n) ((λ i. c.split_at.ensures.front i ++ c.split_at.ensures.back i) ∙ cut-behind (Fence c.args.self.now.lattice.n) c.fence_body-behind.result 9 5 (c.fence_body-behind.ensures ∙ ap (λ (n : ℕ). body (Fence n) ++ 0 ∷ []) (ap (λ (v : Opened). v.lattice.n) c.self.view_is)) refl) in
    omega (arith, short, size, ap (λ (v : Opened). v.end) c.self.view_is)

pub returns-then-is_err-clause-leaves : goal.returns-then-is_err-clause-leaves
returns-then-is_err-clause-leaves g c =
    let may = (rw c.in-Some.is at c.fenced.ensures.valid).0 refl in
    c.write_next_entry.ensures.leaves c.args.self.now (Fence c.args.self.now.lattice.n) (sym (ap (λ (v : Opened). v.end) c.self.view_is)) ((λ i. c.split_at.ensures.front i ++ c.split_at.ensures.back i) ∙ cut-behind (Fence c.args.self.now.lattice.n) c.fence_body-behind.result 9 5 (c.fence_body-behind.ensures ∙ ap (λ (n : ℕ). body (Fence n) ++ 0 ∷ []) (ap (λ (v : Opened). v.lattice.n) c.self.view_is)) refl) (fence_next c.args.self.now c.fences_may_follow.ensures (subst (λ (v : Opened). last_fence v.lattice.fences < v.lattice.n) c.self.view_is may.0) (subst (λ (v : Opened). length v.lattice.fences < greatest_fences) c.self.view_is may.1))

pub returns-then-is_err-clause-writes : goal.returns-then-is_err-clause-writes
returns-then-is_err-clause-writes g c =
    let may = (rw c.in-Some.is at c.fenced.ensures.valid).0 refl in
    writes_as g.D.Disk.reveals _ _ _ _ (ChangesOnly 0) (g.D.Disk.state c.args.disk.now) (g.D.Disk.state c.write_next_entry.new.disk) (λ is. sym c.is_err.ensures.value ∙ c.if-is_err.true) (λ is. cc)
    (c.write_next_entry.ensures.writes c.args.self.now (Fence c.args.self.now.lattice.n) (sym (ap (λ (v : Opened). v.end) c.self.view_is)) ((λ i. c.split_at.ensures.front i ++ c.split_at.ensures.back i) ∙ cut-behind (Fence c.args.self.now.lattice.n) c.fence_body-behind.result 9 5 (c.fence_body-behind.ensures ∙ ap (λ (n : ℕ). body (Fence n) ++ 0 ∷ []) (ap (λ (v : Opened). v.lattice.n) c.self.view_is)) refl) (fence_next c.args.self.now c.fences_may_follow.ensures (subst (λ (v : Opened). last_fence v.lattice.fences < v.lattice.n) c.self.view_is may.0) (subst (λ (v : Opened). length v.lattice.fences < greatest_fences) c.self.view_is may.1)) c.requires.this)

pub invariant_of-self-2 : goal.invariant_of-self-2
invariant_of-self-2 g c =
    let may = (rw c.in-Some.is at c.fenced.ensures.valid).0 refl in
    has_some_more c.args.self.now (record { shape = c.self.inside.shape; lattice = c.in-Some.lattice; objects = c.self.inside.catalog.objects; raised = c.self.inside.raised; digests = c.self.inside.digests.items; hasher = c.take_entry-self-inside.new.hasher; seal = c.take_entry-self-inside.result; end = c.self.inside.end + 10; live = c.self.inside.live }) (Fence c.args.self.now.lattice.n) (subst (λ (v : Opened). HasTaken v (Fence c.args.self.now.lattice.n) (record { shape = c.self.inside.shape; lattice = c.in-Some.lattice; objects = c.self.inside.catalog.objects; raised = c.self.inside.raised; digests = c.self.inside.digests.items; hasher = c.take_entry-self-inside.new.hasher; seal = c.take_entry-self-inside.result; end = c.self.inside.end + 10; live = c.self.inside.live })) c.self.view_is
    (record {
      shape = refl;
      alpha = c.in-Some.ensures.fenced.shape.alpha;
      s = c.in-Some.ensures.fenced.shape.s;
      p = c.in-Some.ensures.fenced.shape.p;
      n = c.in-Some.ensures.fenced.nodes ∙ (let z : c.self.inside.lattice.n ≡ c.self.inside.lattice.n + 0 = omega arith in z);
      fences = c.in-Some.ensures.fenced.fences ∙ ap (λ (n : ℕ). c.self.inside.lattice.fences ++ n ∷ []) (ap (λ (v : Opened). v.lattice.n) c.self.view_is);
      objects = refl;
      raised = sym (or_false c.self.inside.raised);
      digests = sym (append-nil c.self.inside.digests.items);
      hasher = λ m holds. subst (λ (l : List ℕ). Holds256 c.take_entry-self-inside.new.hasher (m ++ 1 ∷ l)) ((λ i. c.split_at.ensures.front i ++ c.split_at.ensures.back i) ∙ cut-behind (Fence c.args.self.now.lattice.n) c.fence_body-behind.result 9 5 (c.fence_body-behind.ensures ∙ ap (λ (n : ℕ). body (Fence n) ++ 0 ∷ []) (ap (λ (v : Opened). v.lattice.n) c.self.view_is)) refl) (c.take_entry-self-inside.ensures.taken m holds);
      seal = λ m holds. c.take_entry-self-inside.ensures.seal m holds ∙ ap (λ (l : List ℕ). sha256 (m ++ 1 ∷ l)) ((λ i. c.split_at.ensures.front i ++ c.split_at.ensures.back i) ∙ cut-behind (Fence c.args.self.now.lattice.n) c.fence_body-behind.result 9 5 (c.fence_body-behind.ensures ∙ ap (λ (n : ℕ). body (Fence n) ++ 0 ∷ []) (ap (λ (v : Opened). v.lattice.n) c.self.view_is)) refl);
      end = refl;
      live = ap (λ (w : Opened). w.live) c.self.view_is ∙ c.requires.live;
    })) (fence_next c.args.self.now c.fences_may_follow.ensures (subst (λ (v : Opened). last_fence v.lattice.fences < v.lattice.n) c.self.view_is may.0) (subst (λ (v : Opened). length v.lattice.fences < greatest_fences) c.self.view_is may.1)) (subst HasSomeRecords c.self.view_is c.self.invariant)

pub returns-clause-leaves : goal.returns-clause-leaves
returns-clause-leaves g c =
    let may = (rw c.in-Some.is at c.fenced.ensures.valid).0 refl in
    c.write_next_entry.ensures.leaves c.args.self.now (Fence c.args.self.now.lattice.n) (sym (ap (λ (v : Opened). v.end) c.self.view_is)) ((λ i. c.split_at.ensures.front i ++ c.split_at.ensures.back i) ∙ cut-behind (Fence c.args.self.now.lattice.n) c.fence_body-behind.result 9 5 (c.fence_body-behind.ensures ∙ ap (λ (n : ℕ). body (Fence n) ++ 0 ∷ []) (ap (λ (v : Opened). v.lattice.n) c.self.view_is)) refl) (fence_next c.args.self.now c.fences_may_follow.ensures (subst (λ (v : Opened). last_fence v.lattice.fences < v.lattice.n) c.self.view_is may.0) (subst (λ (v : Opened). length v.lattice.fences < greatest_fences) c.self.view_is may.1))

pub returns-clause-committed : goal.returns-clause-committed
returns-clause-committed g c =
    let may = (rw c.in-Some.is at c.fenced.ensures.valid).0 refl in
    when_ok c.write_next_entry.result c.if-is_err.ensures.negation c.write_next_entry.ensures.committed c.args.self.now (record { shape = c.self.inside.shape; lattice = c.in-Some.lattice; objects = c.self.inside.catalog.objects; raised = c.self.inside.raised; digests = c.self.inside.digests.items; hasher = c.take_entry-self-inside.new.hasher; seal = c.take_entry-self-inside.result; end = c.self.inside.end + 10; live = c.self.inside.live }) (Fence c.args.self.now.lattice.n) (sym (ap (λ (v : Opened). v.end) c.self.view_is)) ((λ i. c.split_at.ensures.front i ++ c.split_at.ensures.back i) ∙ cut-behind (Fence c.args.self.now.lattice.n) c.fence_body-behind.result 9 5 (c.fence_body-behind.ensures ∙ ap (λ (n : ℕ). body (Fence n) ++ 0 ∷ []) (ap (λ (v : Opened). v.lattice.n) c.self.view_is)) refl) (fence_next c.args.self.now c.fences_may_follow.ensures (subst (λ (v : Opened). last_fence v.lattice.fences < v.lattice.n) c.self.view_is may.0) (subst (λ (v : Opened). length v.lattice.fences < greatest_fences) c.self.view_is may.1)) c.requires.this (subst (λ (v : Opened). HasTaken v (Fence c.args.self.now.lattice.n) (record { shape = c.self.inside.shape; lattice = c.in-Some.lattice; objects = c.self.inside.catalog.objects; raised = c.self.inside.raised; digests = c.self.inside.digests.items; hasher = c.take_entry-self-inside.new.hasher; seal = c.take_entry-self-inside.result; end = c.self.inside.end + 10; live = c.self.inside.live })) c.self.view_is
    (record {
      shape = refl;
      alpha = c.in-Some.ensures.fenced.shape.alpha;
      s = c.in-Some.ensures.fenced.shape.s;
      p = c.in-Some.ensures.fenced.shape.p;
      n = c.in-Some.ensures.fenced.nodes ∙ (let z : c.self.inside.lattice.n ≡ c.self.inside.lattice.n + 0 = omega arith in z);
      fences = c.in-Some.ensures.fenced.fences ∙ ap (λ (n : ℕ). c.self.inside.lattice.fences ++ n ∷ []) (ap (λ (v : Opened). v.lattice.n) c.self.view_is);
      objects = refl;
      raised = sym (or_false c.self.inside.raised);
      digests = sym (append-nil c.self.inside.digests.items);
      hasher = λ m holds. subst (λ (l : List ℕ). Holds256 c.take_entry-self-inside.new.hasher (m ++ 1 ∷ l)) ((λ i. c.split_at.ensures.front i ++ c.split_at.ensures.back i) ∙ cut-behind (Fence c.args.self.now.lattice.n) c.fence_body-behind.result 9 5 (c.fence_body-behind.ensures ∙ ap (λ (n : ℕ). body (Fence n) ++ 0 ∷ []) (ap (λ (v : Opened). v.lattice.n) c.self.view_is)) refl) (c.take_entry-self-inside.ensures.taken m holds);
      seal = λ m holds. c.take_entry-self-inside.ensures.seal m holds ∙ ap (λ (l : List ℕ). sha256 (m ++ 1 ∷ l)) ((λ i. c.split_at.ensures.front i ++ c.split_at.ensures.back i) ∙ cut-behind (Fence c.args.self.now.lattice.n) c.fence_body-behind.result 9 5 (c.fence_body-behind.ensures ∙ ap (λ (n : ℕ). body (Fence n) ++ 0 ∷ []) (ap (λ (v : Opened). v.lattice.n) c.self.view_is)) refl);
      end = refl;
      live = ap (λ (w : Opened). w.live) c.self.view_is ∙ c.requires.live;
    }))

pub returns-clause-writes : goal.returns-clause-writes
returns-clause-writes g c =
    let may = (rw c.in-Some.is at c.fenced.ensures.valid).0 refl in
    writes_as g.D.Disk.reveals _ _ _ _ (ChangesOnly 0) (g.D.Disk.state c.args.disk.now) (g.D.Disk.state c.write_next_entry.new.disk) (λ is. absurd (cc)) (λ is. absurd (ok_not_err c.write_next_entry.result c.if-is_err.ensures.negation is))
    (c.write_next_entry.ensures.writes c.args.self.now (Fence c.args.self.now.lattice.n) (sym (ap (λ (v : Opened). v.end) c.self.view_is)) ((λ i. c.split_at.ensures.front i ++ c.split_at.ensures.back i) ∙ cut-behind (Fence c.args.self.now.lattice.n) c.fence_body-behind.result 9 5 (c.fence_body-behind.ensures ∙ ap (λ (n : ℕ). body (Fence n) ++ 0 ∷ []) (ap (λ (v : Opened). v.lattice.n) c.self.view_is)) refl) (fence_next c.args.self.now c.fences_may_follow.ensures (subst (λ (v : Opened). last_fence v.lattice.fences < v.lattice.n) c.self.view_is may.0) (subst (λ (v : Opened). length v.lattice.fences < greatest_fences) c.self.view_is may.1)) c.requires.this)
