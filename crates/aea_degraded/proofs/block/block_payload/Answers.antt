use Rattle.std.proofs.Common.{◌≡◌, true, false, not, Bool, sym, ◌∙◌, ap, subst}
use Rattle.std.specs.Prelude.{IsTrue, slice_get}
use Rattle.std.proofs.lemmas.Bool.{true≢false}
use Rattle.std.proofs.lemmas.Result.{on_ok_weaker}
use Rattle.aea_lattice.specs.declared.blocks.BlockId.{BlockId}
use Rattle.aea_lattice.specs.Blocks.{HasBlock}
use Rattle.aea_view.specs.Marked.{is_marked}
use Rattle.aea_gauss.specs.declared.fates.Fate.{Fate}
use Rattle.aea_gauss.specs.Fates.{block_of_fate}
use Rattle.aea_envelope.specs.Cells.{block_digest}
use Rattle.aea_restore.specs.Drawn.{IsDrawn}
use Rattle.aea_restore.proofs.Drawing.{drawn_alone}
use Rattle.aea_degraded.specs.Summed.{is_summand, sum_at}
use Rattle.aea_degraded.proofs.Readings.{read_alone, read_summed}
use Rattle.aea_degraded.proofs.Summing.{listed_sums}
use Rattle.aea_degraded.proofs.Survivors.{none_past, some_item, there, listed_there, known_intact, sum_drawn, sum_clash}
use Rattle.aea_degraded.proofs.block.block_payload.Goals as goal

pub returns-then-not-get-clause-drawn : goal.returns-then-not-get-clause-drawn
returns-then-not-get-clause-drawn g c =
    let v = c.args.ledger.now in
    let files = (g.D.Disk.state c.args.disk.now).files in
    let clear : is_marked c.args.damaged.now c.args.b ≡ false = sym c.get.ensures ∙ c.if-not-get.true in
    on_ok_weaker c.read_own.result
    (λ payload revealed known found.
    let is : IsTrue (known c.args.b) = found.marked ∙ ap not clear in
    let intact = known_intact v c.lattice-lattice.result files known known c.lattice-lattice.ensures.value c.lattice-lattice.ensures.of_shape found.survivors (λ d has marked. marked) c.args.b c.requires.block is in
    subst (IsDrawn v known files c.args.b) (sym (payload revealed intact)) (drawn_alone v known files c.args.b c.requires.block is intact))
    c.read_own.ensures.intact

pub returns-then-not-get-clause-clash : goal.returns-then-not-get-clause-clash
returns-then-not-get-clause-clash g c d revealed computed is = (c.read_own.ensures.found d revealed computed is).1.other

pub returns-then-not-get-clause-computed : goal.returns-then-not-get-clause-computed
returns-then-not-get-clause-computed g c d revealed computed is reveals known found =
    let v = c.args.ledger.now in
    let files = (g.D.Disk.state c.args.disk.now).files in
    let clear : is_marked c.args.damaged.now c.args.b ≡ false = sym c.get.ensures ∙ c.if-not-get.true in
    let read = c.read_own.ensures.found d revealed computed is in
    let same : IsTrue (known d) = ap known read.0 ∙ found.marked ∙ ap not clear in
    let inside = subst (λ (a : BlockId). HasBlock v.lattice a) (sym read.0) c.requires.block in
    absurd (read.1.damaged reveals (known_intact v c.lattice-lattice.result files known known c.lattice-lattice.ensures.value c.lattice-lattice.ensures.of_shape found.survivors (λ a has marked. marked) d inside same))

pub unreachable-requires : goal.unreachable-requires
unreachable-requires g c =
    let found = c.requires.found (sym c.get.ensures ∙ c.if-not-get.false) in
    none_past c.args.fates.now c.args.at found.fate found.here c.in_default.ensures

pub payload-requires-clause-fate : goal.payload-requires-clause-fate
payload-requires-clause-fate g c =
    let l = c.args.ledger.now.lattice in
    let open' : BlockId → Bool = λ d. not (is_marked c.args.damaged.now d) in
    let fates = c.args.fates.now in
    let f = c.in-Some.fate.now in
    let is = there l fates c.args.b c.args.at f c.requires.block (c.requires.found (sym c.get.ensures ∙ c.if-not-get.false)) c.in-Some.ensures in
    (listed_sums l open' f is.has (listed_there l open' fates c.args.b c.args.at f is c.requires.fates c.in-Some.ensures)).0

pub returns-clause-drawn : goal.returns-clause-drawn
returns-clause-drawn g c =
    let v = c.args.ledger.now in
    let files = (g.D.Disk.state c.args.disk.now).files in
    let fates = c.args.fates.now in
    let f = c.in-Some.fate.now in
    let is = there v.lattice fates c.args.b c.args.at f c.requires.block (c.requires.found (sym c.get.ensures ∙ c.if-not-get.false)) c.in-Some.ensures in
    on_ok_weaker c.payload.result
    (λ summed revealed known found.
    let listed = listed_there v.lattice known fates c.args.b c.args.at f is found.right c.in-Some.ensures in
    let all = known_intact v c.lattice-lattice.result files known (is_summand v.lattice f) c.lattice-lattice.ensures.value c.lattice-lattice.ensures.of_shape found.survivors (listed_sums v.lattice known f is.has listed).1 in
    subst (λ (b : BlockId). IsDrawn v known files b c.payload.new.sum) is.block
    (subst (IsDrawn v known files (block_of_fate f)) (sym (summed revealed all)) (sum_drawn v known files f is.has listed)))
    c.payload.ensures.sum

pub returns-clause-computed : goal.returns-clause-computed
returns-clause-computed g c d revealed computed is_clash reveals known found =
    let v = c.args.ledger.now in
    let files = (g.D.Disk.state c.args.disk.now).files in
    let fates = c.args.fates.now in
    let f = c.in-Some.fate.now in
    let set : is_marked c.args.damaged.now c.args.b ≡ true = sym c.get.ensures ∙ c.if-not-get.false in
    let is = there v.lattice fates c.args.b c.args.at f c.requires.block (c.requires.found set) c.in-Some.ensures in
    let listed = listed_there v.lattice known fates c.args.b c.args.at f is found.right c.in-Some.ensures in
    let all = known_intact v c.lattice-lattice.result files known (is_summand v.lattice f) c.lattice-lattice.ensures.value c.lattice-lattice.ensures.of_shape found.survivors (listed_sums v.lattice known f is.has listed).1 in
    let r = c.payload.ensures.computed d revealed computed is_clash reveals all in
    (r.0 ∙ is.block, (found.marked ∙ ap not set, sum_clash v known files f d revealed computed is.has listed r.0 r.1 (c.payload.ensures.clash d revealed computed is_clash)))

pub returns-then-not-get-clause-summed : goal.returns-then-not-get-clause-summed
returns-then-not-get-clause-summed g c =
    let clear : is_marked c.args.damaged.now c.args.b ≡ false = sym c.get.ensures ∙ c.if-not-get.true in
    on_ok_weaker c.read_own.result (λ payload revealed known found set fate here. absurd (true≢false (sym set ∙ clear))) c.read_own.ensures.intact

pub returns-then-not-get-clause-summed_clash : goal.returns-then-not-get-clause-summed_clash
returns-then-not-get-clause-summed_clash g c d revealed computed is reveals known found fate here =
    let v = c.args.ledger.now in
    let files = (g.D.Disk.state c.args.disk.now).files in
    let clear : is_marked c.args.damaged.now c.args.b ≡ false = sym c.get.ensures ∙ c.if-not-get.true in
    let read = c.read_own.ensures.found d revealed computed is in
    let same : IsTrue (known d) = ap known read.0 ∙ found.marked ∙ ap not clear in
    let inside = subst (λ (a : BlockId). HasBlock v.lattice a) (sym read.0) c.requires.block in
    absurd (read.1.damaged reveals (known_intact v c.lattice-lattice.result files known known c.lattice-lattice.ensures.value c.lattice-lattice.ensures.of_shape found.survivors (λ a has marked. marked) d inside same))

pub returns-clause-summed : goal.returns-clause-summed
returns-clause-summed g c =
    let v = c.args.ledger.now in
    let files = (g.D.Disk.state c.args.disk.now).files in
    let fates = c.args.fates.now in
    let f = c.in-Some.fate.now in
    let is = there v.lattice fates c.args.b c.args.at f c.requires.block (c.requires.found (sym c.get.ensures ∙ c.if-not-get.false)) c.in-Some.ensures in
    on_ok_weaker c.payload.result
    (λ summed revealed known found set fate here.
    let listed = listed_there v.lattice known fates c.args.b c.args.at f is found.right c.in-Some.ensures in
    let all = known_intact v c.lattice-lattice.result files known (is_summand v.lattice f) c.lattice-lattice.ensures.value c.lattice-lattice.ensures.of_shape found.survivors (listed_sums v.lattice known f is.has listed).1 in
    summed revealed all ∙ ap (sum_at v.lattice v.shape files) (some_item (slice_get fates c.args.at) f fate c.in-Some.ensures here))
    c.payload.ensures.sum

pub returns-clause-summed_clash : goal.returns-clause-summed_clash
returns-clause-summed_clash g c d revealed computed is_clash reveals known found fate here =
    let v = c.args.ledger.now in
    let files = (g.D.Disk.state c.args.disk.now).files in
    let fates = c.args.fates.now in
    let f = c.in-Some.fate.now in
    let is = there v.lattice fates c.args.b c.args.at f c.requires.block (c.requires.found (sym c.get.ensures ∙ c.if-not-get.false)) c.in-Some.ensures in
    let listed = listed_there v.lattice known fates c.args.b c.args.at f is found.right c.in-Some.ensures in
    let all = known_intact v c.lattice-lattice.result files known (is_summand v.lattice f) c.lattice-lattice.ensures.value c.lattice-lattice.ensures.of_shape found.survivors (listed_sums v.lattice known f is.has listed).1 in
    (c.payload.ensures.computed d revealed computed is_clash reveals all).1
    ∙ ap (λ (b : BlockId). block_digest b (sum_at v.lattice v.shape files f)) is.block
    ∙ ap (λ (x : Fate). block_digest c.args.b (sum_at v.lattice v.shape files x)) (some_item (slice_get fates c.args.at) f fate c.in-Some.ensures here)

pub returns-then-not-get-clause-readings : goal.returns-then-not-get-clause-readings
returns-then-not-get-clause-readings g c =
    on_ok_weaker c.read_own.result
    (λ judged. read_alone g.D.Disk.reveals c.args.ledger.now (g.D.Disk.state c.args.disk.now).files c.args.b c.read_own.new.sum c.requires.block judged)
    c.read_own.ensures.judged

pub returns-clause-readings : goal.returns-clause-readings
returns-clause-readings g c =
    let v = c.args.ledger.now in
    let open' : BlockId → Bool = λ d. not (is_marked c.args.damaged.now d) in
    let fates = c.args.fates.now in
    let f = c.in-Some.fate.now in
    let is = there v.lattice fates c.args.b c.args.at f c.requires.block (c.requires.found (sym c.get.ensures ∙ c.if-not-get.false)) c.in-Some.ensures in
    let sum = (listed_sums v.lattice open' f is.has (listed_there v.lattice open' fates c.args.b c.args.at f is c.requires.fates c.in-Some.ensures)).0 in
    on_ok_weaker c.payload.result
    (λ summed. read_summed g.D.Disk.reveals v (g.D.Disk.state c.args.disk.now).files c.args.b f c.payload.new.sum is.block sum summed)
    c.payload.ensures.judged
