use Rattle.std.proofs.Common.{◌≡◌, ◌≢◌, ℕ, ◌+◌, ◌-◌, ◌≤◌, ◌<◌, ◌^◌, List, [], ◌∷◌, ◌++◌, length, take, replicate, refl, sym, ◌∙◌, ap, subst, arith}
use Rattle.std.proofs.lemmas.Bool.Decides.{nat_tests}
use Rattle.std.proofs.lemmas.List.{append-nil, length-take}
use Rattle.std.proofs.lemmas.List.Elements.{All-take}
use Rattle.sha2.specs.Hashers.{Holds256}
use Rattle.aea_append.specs.Weaving.{HasWoven}
use Rattle.aea_append.specs.declared.fault.PutFault.TheVariants.{DiskFault}
use Rattle.aea_append.proofs.Faults.{fault_as}
use Rattle.aea_append.proofs.Cuts.{nil_of, nodes_none, nodes_one, no_blocks, one_block, filled}
use Rattle.aea_append.proofs.Takings.{grown_same}
use Rattle.aea_archive.proofs.Writes.{cells_none, cells_as}
use Rattle.aea_append.proofs.piece.weave_piece.Goals as goal

pub returns-in-Err-clause-writes : goal.returns-in-Err-clause-writes
returns-in-Err-clause-writes g c nodes within =
    cells_none g.D.Disk.reveals _ c.args.shape.now nodes (λ a. a.node ≢ c.args.heads.now.lattice.n + 1) (g.D.Disk.state c.args.disk.now) (λ is. absurd (let e = is in cc))

pub returns-then-count-eq0-clause-writes : goal.returns-then-count-eq0-clause-writes
returns-then-count-eq0-clause-writes g c nodes within =
    cells_none g.D.Disk.reveals _ c.args.shape.now nodes (λ a. a.node ≢ c.args.heads.now.lattice.n + 1) (g.D.Disk.state c.args.disk.now) (λ is. absurd (let e = is in cc))

pub returns-in-Ok-weave_node-clause-writes : goal.returns-in-Ok-weave_node-clause-writes
returns-in-Ok-weave_node-clause-writes g c nodes within =
    cells_as g.D.Disk.reveals _ _ c.args.shape.now nodes (λ a. a.node ≢ c.args.heads.now.lattice.n + 1) (g.D.Disk.state c.args.disk.now) (g.D.Disk.state c.weave_node.new.disk) (λ is. absurd (let e = is in cc)) (λ is. absurd (cc)) (c.weave_node.ensures.writes nodes within)

pub returns-in-Err-weave_node-clause-writes : goal.returns-in-Err-weave_node-clause-writes
returns-in-Err-weave_node-clause-writes g c nodes within =
    cells_as g.D.Disk.reveals _ _ c.args.shape.now nodes (λ a. a.node ≢ c.args.heads.now.lattice.n + 1) (g.D.Disk.state c.args.disk.now) (g.D.Disk.state c.weave_node.new.disk) (λ is. c.in-Err-weave_node.is ∙ fault_as c.in-Err-weave_node.fault DiskFault is) (λ is. cc) (c.weave_node.ensures.writes nodes within)

pub returns-then-count-eq0-clause-took : goal.returns-then-count-eq0-clause-took
returns-then-count-eq0-clause-took g c =
    let shape = c.args.shape.now in
    let zero : c.in-Ok.count ≡ 0 = grind (arith, nat_tests, c.if-count-eq0.true) in
    let bytes : List ℕ = take c.in-Ok.count c.read_piece.new.block in
    let none : length (take c.in-Ok.count c.read_piece.new.block) ≡ 0 = omega (arith, zero, length-take c.in-Ok.count c.read_piece.new.block) in
    record {
      takes = record {
        bytes = take c.in-Ok.count c.read_piece.new.block;
        are = All-take (λ (b : ℕ). b < 2 ^ 8) c.in-Ok.count c.read_piece.new.block c.read_piece.ensures.are;
        taken = c.in-Ok.ensures.bytes;
        long = none;
        holds = λ m h. subst (Holds256 c.args.hasher.now) (sym (ap (λ (l : List ℕ). m ++ l) (nil_of (take c.in-Ok.count c.read_piece.new.block) none) ∙ append-nil m)) h;
        woven = λ l recorded first datas has.
            subst (λ (d : List (List ℕ)). HasWoven g.D.Disk.reveals c.args.shape.now l recorded first (g.D.Disk.state c.args.disk.now).files c.args.heads.now d c.args.digests.now.items)
            (sym (ap (λ (d : List (List ℕ)). datas ++ d) (no_blocks c.args.shape.now (take c.in-Ok.count c.read_piece.new.block) none) ∙ append-nil datas)) has;
        grown = grown_same c.args.heads.now.lattice _ (omega (arith, nodes_none c.args.shape.now 0 refl));
        size = refl;
      };
      most = omega arith;
      end = λ less. c.in-Ok.ensures.end (omega (arith, zero, less));
    }

pub returns-in-Ok-weave_node-clause-took : goal.returns-in-Ok-weave_node-clause-took
returns-in-Ok-weave_node-clause-took g c =
    let shape = c.args.shape.now in
    let count = c.in-Ok.count in
    let positive : c.in-Ok.count ≢ 0 = λ e. grind (arith, nat_tests, c.if-count-eq0.false, e) in
    let wide : length c.read_piece.new.block ≡ c.args.shape.now.block = c.read_piece.auto.block ∙ c.requires.block in
    let long : length (take c.in-Ok.count c.read_piece.new.block) ≡ c.in-Ok.count = omega (arith, length-take c.in-Ok.count c.read_piece.new.block, wide, c.in-Ok.ensures.most, c.requires.most) in
    let some : 1 ≤ length (take c.in-Ok.count c.read_piece.new.block) = omega (arith, long, positive) in
    let short : length (take c.in-Ok.count c.read_piece.new.block) ≤ c.args.shape.now.block = omega (arith, long, c.in-Ok.ensures.most, c.requires.most) in
    let block : c.read_piece.new.block ≡ take c.args.shape.now.block (take c.in-Ok.count c.read_piece.new.block ++ replicate c.args.shape.now.block 0) =
    c.in-Ok.ensures.filled
    ∙ (let e : length c.read_piece.new.block - c.in-Ok.count ≡ c.args.shape.now.block - length (take c.in-Ok.count c.read_piece.new.block) = omega (arith, long, wide) in ap (λ (n : ℕ). take c.in-Ok.count c.read_piece.new.block ++ replicate n 0) e)
    ∙ sym (filled c.args.shape.now.block (take c.in-Ok.count c.read_piece.new.block) short) in
    let grown = c.weave_node.ensures.grown in
    let nodes = grown.nodes in
    record {
      takes = record {
        bytes = take c.in-Ok.count c.read_piece.new.block;
        are = All-take (λ (b : ℕ). b < 2 ^ 8) c.in-Ok.count c.read_piece.new.block c.read_piece.ensures.are;
        taken = c.in-Ok.ensures.bytes;
        long = long;
        holds = λ m h. c.update.ensures m h;
        woven = λ l recorded first datas has.
            subst (λ (d : List (List ℕ)). HasWoven g.D.Disk.reveals c.args.shape.now l recorded first (g.D.Disk.state c.weave_node.new.disk).files c.weave_node.new.heads (datas ++ d) c.weave_node.new.digests.items)
            (ap (λ (b : List ℕ). b ∷ []) block ∙ sym (one_block c.args.shape.now (take c.in-Ok.count c.read_piece.new.block) some short))
            (c.in-Ok-weave_node.ensures.woven l recorded first datas has);
        grown = record { shape = grown.shape; nodes = omega (arith, nodes, long, nodes_one c.args.shape.now c.in-Ok.count (omega (arith, some, long)) (omega (arith, short, long))); fences = grown.fences };
        size = c.weave_node.ensures.size;
      };
      most = c.in-Ok.ensures.most;
      end = c.in-Ok.ensures.end;
    }
