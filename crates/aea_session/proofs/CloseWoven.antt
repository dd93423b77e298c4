-- What is known when the rest of an upload is woven, of whatever state the session keeps.
use Rattle.std.proofs.Common.{◌≡◌, ℕ, suc, ⊎_elim, ◌+◌, ◌-◌, ◌*◌, ◌/◌, ◌<◌, ◌≤◌, List, [], ◌++◌, length, Option, None, Some, refl, sym, ◌∙◌, ap, subst, arith, length-append, append_assoc}
use Rattle.std.specs.List.{range_with_len}
use Rattle.std.proofs.lemmas.Bool.{cases_lt}
use Rattle.std.proofs.lemmas.Nat.{div-mul-add}
use Rattle.std.proofs.lemmas.List.Elements.{All-append}
use Rattle.aea_lattice.specs.declared.shape.Shape.{Shape}
use Rattle.aea_lattice.specs.Growth.{IsGrown}
use Rattle.aea_disk.specs.Files.{Files}
use Rattle.aea_weave.specs.Woven.{Woven}
use Rattle.aea_records.specs.Format.{raised_limit, nodes_for}
use Rattle.aea_machine.specs.Machine.{Upload, Machine, nodes_now, last_block, closed_nodes}
use Rattle.aea_append.specs.Weaving.{IsWovenOf, AreIntactOn}
use Rattle.aea_uploads.specs.declared.slot.Slot.{Slot}
use Rattle.aea_uploads.specs.Gathering.{Closes, Finishes}
use Rattle.aea_uploads.specs.Laws.{AreWide, LastIsTheMachines, FilledAreCounted}
use Rattle.aea_uploads.specs.Slots.{Keeps}
use Rattle.aea_session.specs.declared.work.Work.{Work}
use Rattle.aea_session.specs.Stands.{IsKept, KeepsMachine, IsTheSessions}

-- what a slot that has something keeps is the machine's upload
pub there_is : (shape : Shape) (datas : List (List ℕ)) (s : Slot) (o : Option Upload) → IsKept shape datas (Some s) o → (u : Upload) × (o ≡ Some u) × Keeps shape datas s u
there_is shape datas s None kept = absurd kept
there_is shape datas s (Some u) kept = (u, refl, kept)

-- and there is none where it has nothing
pub none_is : (shape : Shape) (datas : List (List ℕ)) (o : Option Upload) → IsKept shape datas None o → o ≡ None
none_is shape datas None kept = refl
none_is shape datas (Some u) kept = absurd kept

-- the heads are after the nodes of X and W
pub heads_now : (v : Work) (m : Machine) → KeepsMachine v m → v.heads.lattice.n ≡ nodes_now m
heads_now v m kept = let g = kept.grown.nodes in omega (arith, g, kept.datas)

-- the blocks that a close adds
abbrev pub more_of : Shape → Machine → Upload → List (List ℕ)
more_of shape m u = m.woven ++ last_block shape u

-- The rest is woven: X followed by W and the last block, the slot with all of the upload in blocks, and the heads and digests.
pub record Readied (reveals : Type 0) (v : Work) (m : Machine) (u : Upload) (t : Slot) (k : Woven) (es : List (List ℕ)) (mid : Files) : Type 0 where
  pub zeros : ℕ
  pub few : zeros < v.ledger.shape.block
  pub closes : Closes (m.datas ++ more_of v.ledger.shape m u) u (closed_nodes v.ledger.shape m u) zeros t
  pub wide : AreWide v.ledger.shape (m.datas ++ more_of v.ledger.shape m u)
  pub grown : IsGrown v.ledger.lattice (v.ledger.lattice.n + length (more_of v.ledger.shape m u)) k.lattice
  pub size : k.size ≡ v.ledger.shape.block
  pub fits : nodes_now m + length (last_block v.ledger.shape u) ≤ raised_limit
  pub long : length es ≡ length (more_of v.ledger.shape m u) * (1 + v.ledger.shape.alpha)
  pub values : IsWovenOf v.ledger.shape v.ledger.lattice v.heads m.datas m.woven v.digests.items → IsWovenOf v.ledger.shape v.ledger.lattice k m.datas (more_of v.ledger.shape m u) es
  pub intact : AreIntactOn reveals v.ledger.shape v.ledger.lattice.n k.lattice.n es mid

-- a rest takes one node, and none takes none
pub rest_none : (shape : Shape) (have : ℕ) → have < shape.block → have ≡ 0 → nodes_for shape have ≡ 0
rest_none shape have less none =
    let sum : have + shape.block - 1 ≡ 0 * shape.block + (shape.block - 1) = omega (arith, none, less) in
    ap (λ (n : ℕ). n / shape.block) sum ∙ div-mul-add 0 shape.block (shape.block - 1) (omega (arith, less))

pub rest_one : (shape : Shape) (have : ℕ) → have < shape.block → 1 ≤ have → nodes_for shape have ≡ 1
rest_one shape have less some =
    let sum : have + shape.block - 1 ≡ 1 * shape.block + (have - 1) = omega (arith, some, less) in
    ap (λ (n : ℕ). n / shape.block) sum ∙ div-mul-add 1 shape.block (have - 1) (omega (arith, less))

module _ (last : LastIsTheMachines) (counted : FilledAreCounted) (reveals : Type 0) (v : Work) (m : Machine) (slot : ℕ) (u : Upload) (s t : Slot) (k : Woven) (es : List (List ℕ)) (old mid : Files)
    (kept : KeepsMachine v m) (this : reveals → IsTheSessions v old) (fits : 1 ≤ s.have → v.heads.lattice.n + 1 ≤ raised_limit)
    (keeps : Keeps v.ledger.shape (m.datas ++ m.woven) s u) (f : Finishes reveals v.ledger.shape v.heads k s t v.digests.items es old mid) where
  abbrev shape : Shape
  shape = v.ledger.shape

  abbrev before : List (List ℕ)
  before = m.datas ++ m.woven

  now : v.heads.lattice.n ≡ nodes_now m
  now = heads_now v m kept

  before_long : length before ≡ v.heads.lattice.n
  before_long = omega (arith, length-append m.datas m.woven, now)

  first : Closes (before ++ f.filled) u (u.nodes ++ range_with_len (suc v.heads.lattice.n) (length f.filled)) f.zeros t
  first = f.closes before u before_long keeps

  -- the blocks that were filled are the machine's last block
  pub filled_is : f.filled ≡ last_block shape u
  filled_is =
      last shape before f.filled s t u f.zeros kept.wide f.wide keeps f.few
      (subst (λ (n : ℕ). Closes (before ++ f.filled) u (u.nodes ++ range_with_len (suc n) (length f.filled)) f.zeros t) (sym before_long) first)

  fits_now : nodes_now m + length (last_block shape u) ≤ raised_limit
  fits_now =
      let count : length (last_block shape u) ≡ nodes_for shape s.have = (counted shape before s u [] kept.wide keeps).1 in
      let limit = kept.limits.nodes in
      ⊎_elim
      (λ none. omega (arith, count, rest_none shape s.have keeps.less (let e : s.have ≡ 0 = omega (arith, none) in e), limit))
      (λ some. omega (arith, count, rest_one shape s.have keeps.less (let e : 1 ≤ s.have = omega (arith, some) in e), fits (let e : 1 ≤ s.have = omega (arith, some) in e), now))
      (cases_lt s.have 1)

  pub readied : Readied reveals v m u t k es mid
  readied =
      let is = filled_is in
      let assoc : before ++ last_block shape u ≡ m.datas ++ more_of shape m u = append_assoc m.datas m.woven (last_block shape u) in
      let long : length (more_of shape m u) ≡ length m.woven + length (last_block shape u) = length-append m.woven (last_block shape u) in
      let filled_long : length f.filled ≡ length (last_block shape u) = ap length is in
      let n_old : v.heads.lattice.n ≡ v.ledger.lattice.n + length m.woven = kept.grown.nodes in
      let n_new : k.lattice.n ≡ v.ledger.lattice.n + length (more_of shape m u) = (let g = f.grown.nodes in omega (arith, g, n_old, filled_long, long)) in
      let ds_long : length v.digests.items ≡ (v.heads.lattice.n - v.ledger.lattice.n) * (1 + shape.alpha) =
      kept.digests ∙ ap (λ (n : ℕ). n * (1 + shape.alpha)) (let e : length m.woven ≡ v.heads.lattice.n - v.ledger.lattice.n = omega (arith, n_old) in e) in
      let was : AreIntactOn reveals shape v.ledger.lattice.n v.heads.lattice.n v.digests.items old = record { long = ds_long; each = λ revealed b on. (this revealed).cells.each tt b on } in
      let intact_now = f.intact v.ledger.lattice.n (omega (arith, n_old)) was in
      record {
        zeros = f.zeros;
        few = f.few;
        closes =
            subst (λ (ds : List (List ℕ)). Closes ds u (closed_nodes shape m u) f.zeros t) assoc
            (subst (λ (n : ℕ). Closes (before ++ last_block shape u) u (u.nodes ++ range_with_len (suc n) (length (last_block shape u))) f.zeros t) now
            (subst (λ (l : List (List ℕ)). Closes (before ++ l) u (u.nodes ++ range_with_len (suc v.heads.lattice.n) (length l)) f.zeros t) is first));
        wide = subst (AreWide shape) (ap (λ (l : List (List ℕ)). before ++ l) is ∙ assoc) (All-append (λ (d : List ℕ). length d ≡ shape.block) before f.filled kept.wide f.wide);
        grown = record {
          shape = record { alpha = f.grown.shape.alpha ∙ kept.grown.shape.alpha; s = f.grown.shape.s ∙ kept.grown.shape.s; p = f.grown.shape.p ∙ kept.grown.shape.p };
          nodes = n_new;
          fences = f.grown.fences ∙ kept.grown.fences;
        };
        size = f.size ∙ kept.size;
        fits = fits_now;
        long = intact_now.long ∙ ap (λ (n : ℕ). n * (1 + shape.alpha)) (let e : k.lattice.n - v.ledger.lattice.n ≡ length (more_of shape m u) = omega (arith, n_new) in e);
        values = λ w. subst (λ (l : List (List ℕ)). IsWovenOf shape v.ledger.lattice k m.datas (m.woven ++ l) es) is (f.values v.ledger.lattice m.datas m.woven w);
        intact = intact_now;
      }
