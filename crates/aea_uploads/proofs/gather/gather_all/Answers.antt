use Rattle.std.proofs.Common.{◌≡◌, ◌≢◌, ℕ, ◌+◌, ◌-◌, ◌*◌, ◌<◌, ◌≤◌, List, ◌++◌, length, take, drop, Err, sym, ◌∙◌, ap, subst, arith, ⊎_elim, length-append, length-drop, take-add, take_all}
use Rattle.std.proofs.Math.Nat.{mul-le-mul_right}
use Rattle.std.proofs.lemmas.Bool.{cases_lt}
use Rattle.std.proofs.lemmas.Bool.Decides.{nat_tests}
use Rattle.std.proofs.lemmas.List.{length-take}
use Rattle.std.proofs.lemmas.List.Elements.{All-append}
use Rattle.aea_lattice.specs.Profile.{greatest_nodes}
use Rattle.aea_shelf.proofs.Runs.{padded_none, padded_both, padded_less}
use Rattle.aea_archive.specs.Blocks.{IsBlockIn}
use Rattle.aea_append.specs.declared.fault.PutFault.TheVariants.{DiskFault}
use Rattle.aea_uploads.specs.Gathering.{with_bytes, Gathers}
use Rattle.aea_uploads.proofs.Gathered.{gathers_none, gathers_both}
use Rattle.aea_archive.proofs.Writes.{cells_none, cells_then, cells_as}
use Rattle.aea_uploads.proofs.Faults.{fault_as}
use Rattle.aea_uploads.proofs.gather.gather_all.Goals as goal

-- one node more than those that are held by fewer bytes
node_more : (n g size bytes : ℕ) → n * size + bytes < (g + 1) * size → size ≤ bytes → n + 1 ≤ g
node_more n g size bytes fits big = ⊎_elim
    (λ past.
    let le : (g + 1) * size ≤ (n + 1) * size = mul-le-mul_right size (let e : g + 1 ≤ n + 1 = omega (arith, past) in e) in
    let split : (n + 1) * size ≡ n * size + size = omega arith in
    absurd (omega (arith, le, split, fits, big)))
    (λ le. le)
    (cases_lt g (n + 1))

pub loop-done-init : goal.loop-done-init
loop-done-init g c =
    let k = c.requires.keeps.keeps in
    record {
      within = omega arith;
      cell = c.requires.buffer;
      gathers = gathers_none g.D.Disk.reveals c.args.shape.now c.args.heads.now c.args.slot.now c.args.digests.now.items (g.D.Disk.state c.args.disk.now).files k.less k.room;
      writes = λ nodes within. cells_none g.D.Disk.reveals ⊥ c.args.shape.now nodes (IsBlockIn c.args.shape.now c.args.heads.now.lattice.n) (g.D.Disk.state c.args.disk.now) (λ none. none);
      padded = λ revealed. padded_none c.args.shape.now (IsBlockIn c.args.shape.now c.args.heads.now.lattice.n) (g.D.Disk.state c.args.disk.now).files;
    }

pub gather-requires-clause-keeps : goal.gather-requires-clause-keeps
gather-requires-clause-keeps g c =
    let k = c.requires.keeps in
    let G = c.loop-done.invariant.gathers in
    let n = G.grown.nodes in
    record {
      datas = k.datas ++ G.filled;
      many = omega (arith, length-append k.datas G.filled, k.many, n);
      wide = All-append (λ (d : List ℕ). length d ≡ c.args.shape.now.block) k.datas G.filled k.wide G.wide;
      upload = with_bytes k.upload (take c.loop-done.done c.args.bytes.now) c.args.heads.now.lattice.n (length G.filled);
      keeps = G.keeps k.datas k.upload k.many k.keeps;
    }

-- the nodes' bytes, the rest and the bytes that are left
total : (n0 n k size have0 have done len : ℕ) → n ≡ n0 + k → k * size + have ≡ have0 + done → done ≤ len → n * size + (have + (len - done)) ≡ n0 * size + have0 + len
total n0 n k size have0 have done len nodes sum within =
    let e : (n0 + k) * size ≡ n0 * size + k * size = omega arith in
    ap (λ (m : ℕ). m * size + (have + (len - done))) nodes ∙ omega (arith, e, sum, within)

pub gather-requires-clause-fits : goal.gather-requires-clause-fits
gather-requires-clause-fits g c big =
    let shape = c.args.shape.now in
    let G = c.loop-done.invariant.gathers in
    let n = G.grown.nodes in
    let sum = G.sum in
    let done : c.loop-done.done ≤ length c.args.bytes.now = c.loop-done.invariant.within in
    let taken : length (take c.loop-done.done c.args.bytes.now) ≡ c.loop-done.done = omega (arith, length-take c.loop-done.done c.args.bytes.now, done) in
    let rest : length (take (length c.args.bytes.now - c.loop-done.done) (drop c.loop-done.done c.args.bytes.now)) ≡ length c.args.bytes.now - c.loop-done.done = omega (arith, length-take (length c.args.bytes.now - c.loop-done.done) (drop c.loop-done.done c.args.bytes.now), length-drop c.loop-done.done c.args.bytes.now) in
    let all = total c.args.heads.now.lattice.n c.loop-done.heads.lattice.n (length G.filled) c.args.shape.now.block c.args.slot.now.have c.loop-done.slot.have c.loop-done.done (length c.args.bytes.now) n (sum ∙ ap (λ (k : ℕ). c.args.slot.now.have + k) taken) done in
    node_more c.loop-done.heads.lattice.n greatest_nodes c.args.shape.now.block (c.loop-done.slot.have + (length c.args.bytes.now - c.loop-done.done)) (let f = c.requires.fits in omega (arith, all, f)) (omega (arith, big, rest))

pub returns-in-Err-clause-writes : goal.returns-in-Err-clause-writes
returns-in-Err-clause-writes g c nodes within =
    let shape = c.args.shape.now in
    let G = c.loop-done.invariant.gathers in
    let n = G.grown.nodes in
    let sum = G.sum in
    let done : c.loop-done.done ≤ length c.args.bytes.now = c.loop-done.invariant.within in
    let taken : length (take c.loop-done.done c.args.bytes.now) ≡ c.loop-done.done = omega (arith, length-take c.loop-done.done c.args.bytes.now, done) in
    let rest : length (take (length c.args.bytes.now - c.loop-done.done) (drop c.loop-done.done c.args.bytes.now)) ≡ length c.args.bytes.now - c.loop-done.done = omega (arith, length-take (length c.args.bytes.now - c.loop-done.done) (drop c.loop-done.done c.args.bytes.now), length-drop c.loop-done.done c.args.bytes.now) in
    let all = total c.args.heads.now.lattice.n c.loop-done.heads.lattice.n (length G.filled) c.args.shape.now.block c.args.slot.now.have c.loop-done.slot.have c.loop-done.done (length c.args.bytes.now) n (sum ∙ ap (λ (k : ℕ). c.args.slot.now.have + k) taken) done in
    cells_as g.D.Disk.reveals (c.gather.result ≡ Err DiskFault) _ c.args.shape.now nodes (IsBlockIn c.args.shape.now c.args.heads.now.lattice.n) (g.D.Disk.state c.args.disk.now) (g.D.Disk.state c.gather.new.disk) (λ is. c.in-Err.is ∙ fault_as c.in-Err.fault DiskFault is) (λ is. cc)
    (cells_then g.D.Disk.reveals ⊥ (c.gather.result ≡ Err DiskFault) c.args.shape.now nodes (IsBlockIn c.args.shape.now c.args.heads.now.lattice.n) (λ a. a.node ≢ c.loop-done.heads.lattice.n + 1) (g.D.Disk.state c.args.disk.now) (g.D.Disk.state c.loop-done.disk) (g.D.Disk.state c.gather.new.disk) (λ none. none)
    (λ a block same. (let most = block.most in omega (arith, most, same, n)))
    (c.loop-done.invariant.writes nodes within) (c.gather.ensures.writes nodes (λ big. node_more c.loop-done.heads.lattice.n nodes c.args.shape.now.block (c.loop-done.slot.have + (length c.args.bytes.now - c.loop-done.done)) (omega (arith, all, within)) (omega (arith, big, rest)))))

pub returns-in-Err-clause-padded : goal.returns-in-Err-clause-padded
returns-in-Err-clause-padded g c fine revealed =
    let n = c.loop-done.invariant.gathers.grown.nodes in
    padded_both c.args.shape.now (IsBlockIn c.args.shape.now c.args.heads.now.lattice.n) (g.D.Disk.state c.args.disk.now).files (g.D.Disk.state c.loop-done.disk).files (g.D.Disk.state c.gather.new.disk).files
    (c.loop-done.invariant.padded revealed)
    (padded_less c.args.shape.now (λ a. a.node ≢ c.loop-done.heads.lattice.n + 1) (IsBlockIn c.args.shape.now c.args.heads.now.lattice.n) (g.D.Disk.state c.loop-done.disk).files (g.D.Disk.state c.gather.new.disk).files
    (λ a block same. (let most = block.most in omega (arith, most, same, n)))
    (c.gather.ensures.padded (λ bad. fine (fault_as c.in-Err.fault DiskFault (sym c.in-Err.is ∙ bad))) revealed))

pub returns-clause-writes : goal.returns-clause-writes
returns-clause-writes g c nodes within =
    cells_as g.D.Disk.reveals ⊥ _ c.args.shape.now nodes (IsBlockIn c.args.shape.now c.args.heads.now.lattice.n) (g.D.Disk.state c.args.disk.now) (g.D.Disk.state c.loop-done.disk) (λ is. absurd (let e = is in cc)) (λ none. absurd none) (c.loop-done.invariant.writes nodes within)

pub loop-done-preserved : goal.loop-done-preserved
loop-done-preserved g c =
    let shape = c.args.shape.now in
    let G = c.loop-done.invariant.gathers in
    let n = G.grown.nodes in
    let sum = G.sum in
    let done : c.loop-done.done ≤ length c.args.bytes.now = c.loop-done.invariant.within in
    let taken : length (take c.loop-done.done c.args.bytes.now) ≡ c.loop-done.done = omega (arith, length-take c.loop-done.done c.args.bytes.now, done) in
    let rest : length (take (length c.args.bytes.now - c.loop-done.done) (drop c.loop-done.done c.args.bytes.now)) ≡ length c.args.bytes.now - c.loop-done.done = omega (arith, length-take (length c.args.bytes.now - c.loop-done.done) (drop c.loop-done.done c.args.bytes.now), length-drop c.loop-done.done c.args.bytes.now) in
    let all = total c.args.heads.now.lattice.n c.loop-done.heads.lattice.n (length G.filled) c.args.shape.now.block c.args.slot.now.have c.loop-done.slot.have c.loop-done.done (length c.args.bytes.now) n (sum ∙ ap (λ (k : ℕ). c.args.slot.now.have + k) taken) done in
    let lt : c.loop-done.done < length c.args.bytes.now = grind (arith, nat_tests, c.loop-done-test.true) in
    let count = c.in-Ok.ensures.count in
    let whole : take (length c.args.bytes.now - c.loop-done.done) (drop c.loop-done.done c.args.bytes.now) ≡ drop c.loop-done.done c.args.bytes.now = take_all (length c.args.bytes.now - c.loop-done.done) (drop c.loop-done.done c.args.bytes.now) (omega (arith, length-drop c.loop-done.done c.args.bytes.now)) in
    let joined : take c.loop-done.done c.args.bytes.now ++ take c.in-Ok.count (take (length c.args.bytes.now - c.loop-done.done) (drop c.loop-done.done c.args.bytes.now)) ≡ take (c.loop-done.done + c.in-Ok.count) c.args.bytes.now =
    ap (λ (l : List ℕ). take c.loop-done.done c.args.bytes.now ++ take c.in-Ok.count l) whole ∙ sym (take-add c.loop-done.done c.in-Ok.count c.args.bytes.now) in
    record {
      within = omega (arith, count, rest, lt);
      cell = c.gather.auto.cell ∙ c.loop-done.invariant.cell;
      gathers = subst (λ (l : List ℕ). Gathers g.D.Disk.reveals c.args.shape.now l c.args.heads.now c.gather.new.heads c.args.slot.now c.gather.new.slot c.args.digests.now.items c.gather.new.digests.items (g.D.Disk.state c.args.disk.now).files (g.D.Disk.state c.gather.new.disk).files) joined
          (gathers_both g.D.Disk.reveals c.args.shape.now (take c.loop-done.done c.args.bytes.now) (take c.in-Ok.count (take (length c.args.bytes.now - c.loop-done.done) (drop c.loop-done.done c.args.bytes.now))) c.args.heads.now c.loop-done.heads c.gather.new.heads c.args.slot.now c.loop-done.slot c.gather.new.slot c.args.digests.now.items c.loop-done.digests.items c.gather.new.digests.items (g.D.Disk.state c.args.disk.now).files (g.D.Disk.state c.loop-done.disk).files (g.D.Disk.state c.gather.new.disk).files G c.in-Ok.ensures.gathers);
      writes = λ nodes within. cells_as g.D.Disk.reveals (c.gather.result ≡ Err DiskFault) ⊥ c.args.shape.now nodes (IsBlockIn c.args.shape.now c.args.heads.now.lattice.n) (g.D.Disk.state c.args.disk.now) (g.D.Disk.state c.gather.new.disk) (λ none. absurd none) (λ bad. absurd (let is = c.in-Ok.is in cc))
          (cells_then g.D.Disk.reveals ⊥ (c.gather.result ≡ Err DiskFault) c.args.shape.now nodes (IsBlockIn c.args.shape.now c.args.heads.now.lattice.n) (λ a. a.node ≢ c.loop-done.heads.lattice.n + 1) (g.D.Disk.state c.args.disk.now) (g.D.Disk.state c.loop-done.disk) (g.D.Disk.state c.gather.new.disk) (λ none. none)
          (λ a block same. (let most = block.most in omega (arith, most, same, n)))
          (c.loop-done.invariant.writes nodes within) (c.gather.ensures.writes nodes (λ big. node_more c.loop-done.heads.lattice.n nodes c.args.shape.now.block (c.loop-done.slot.have + (length c.args.bytes.now - c.loop-done.done)) (omega (arith, all, within)) (omega (arith, big, rest)))));
      padded = λ revealed. padded_both c.args.shape.now (IsBlockIn c.args.shape.now c.args.heads.now.lattice.n) (g.D.Disk.state c.args.disk.now).files (g.D.Disk.state c.loop-done.disk).files (g.D.Disk.state c.gather.new.disk).files
          (c.loop-done.invariant.padded revealed)
          (padded_less c.args.shape.now (λ a. a.node ≢ c.loop-done.heads.lattice.n + 1) (IsBlockIn c.args.shape.now c.args.heads.now.lattice.n) (g.D.Disk.state c.loop-done.disk).files (g.D.Disk.state c.gather.new.disk).files
          (λ a block same. (let most = block.most in omega (arith, most, same, n)))
          (c.gather.ensures.padded (λ bad. absurd (let is = c.in-Ok.is in cc)) revealed));
    }
