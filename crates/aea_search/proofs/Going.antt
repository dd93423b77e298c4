-- How a search goes on, from look to look.
use Rattle.std.proofs.Common.{◌≡◌, Bool, true, false, cond, [], ◌∷◌, ◌++◌, length, Result, Ok, Err, inl, inr, IsTrue, refl, sym, ◌∙◌, ap, subst, arith, length-append, append_assoc}
use Rattle.std.specs.Prelude.{◌↔◌, not}
use Rattle.std.proofs.lemmas.Bool.{cases_Bool, false≢true, false_from_ne_true, true_from_ne_false, cond-true}
use Rattle.std.proofs.lemmas.List.{append-nil}
use Rattle.aea_lattice.specs.declared.blocks.BlockId.{BlockId}
use Rattle.aea_lattice.specs.declared.grid.Lattice.{Lattice}
use Rattle.aea_lattice.specs.Blocks.{HasBlock}
use Rattle.aea_view.specs.Marked.{Marked, is_marked}
use Rattle.aea_disk.specs.Files.{Files}
use Rattle.aea_disk.specs.State.{State}
use Rattle.aea_disk.specs.Frames.{OnlyReads}
use Rattle.aea_disk.proofs.Frames.{reads_none, reads_both}
use Rattle.aea_ledger.specs.Recorded.{IsLatticeOf}
use Rattle.aea_ledger.specs.Values.{Opened}
use Rattle.aea_archive.specs.Blocks.{IsBlockIn, IsIntactBy, RevealsSurvivors}
use Rattle.aea_search.specs.declared.searching.SearchFault.{SearchFault}
use Rattle.aea_search.specs.declared.searching.SearchFault.TheVariants.{DiskFault, NoMemory}
use Rattle.aea_search.specs.Searches.{Searched, IsSearch, IsNew, IsMarkedToo, Begins, Passes, Goes, Looks, IsRightBy}
use Rattle.aea_search.proofs.Keeping.{same_or_other, still}

-- ---- one stretch after another

-- a search that did nothing
pub goes_none : (reveals : Type 0) (v : Opened) (c : Files) (s : Searched) → Goes reveals v c s s
goes_none reveals v c s = record {
  same = refl;
  read = λ b has is. is;
  kept = λ b has is. refl;
  revealed = λ reveal b has before after. absurd (false≢true (sym before ∙ after));
}

-- a search that went on twice, over the same files
pub goes_both : (reveals : Type 0) (v : Opened) (c d : Files) (a b s : Searched) → (reveals → d ≡ c) → Goes reveals v c a b → Goes reveals v d b s → Goes reveals v c a s
goes_both reveals v c d a b s same first then = record {
  same = then.same ∙ first.same;
  read = λ x has is. then.read x has (first.read x has is);
  kept = λ x has is. then.kept x has (first.read x has is) ∙ first.kept x has is;
  revealed = λ reveal x has before after. elim (cases_Bool (is_marked b.read x)) [
    | inl already ↦ subst (λ u. (u ≡ false) ↔ IsIntactBy v.shape v.digests c x) (sym (then.kept x has already)) (first.revealed reveal x has before already)
    | inr later ↦ subst (λ (f : Files). (is_marked s.unknown x ≡ false) ↔ IsIntactBy v.shape v.digests f x) (same reveal) (then.revealed reveal x has later after)
  ];
}

-- the disk was read, and nothing else
pub looks_still : (reveals fault : Type 0) (v : Opened) (s : Searched) (x y : State) → OnlyReads reveals fault x y → Looks reveals fault v s s x y
looks_still reveals fault v s x y reads = record {
  goes = goes_none reveals v x.files s;
  more = [];
  waits = sym (append-nil s.waiting);
  few = omega arith;
  reads = reads;
}

-- no look
pub looks_none : (reveals fault : Type 0) (v : Opened) (s : Searched) (t : State) → (fault → ⊥) → Looks reveals fault v s s t t
looks_none reveals fault v s t fine = looks_still reveals fault v s t t (reads_none reveals fault t fine)

-- the disk failed
abbrev pub IsDiskFault : Result (Unit {0}) SearchFault → Type 0
IsDiskFault result = result ≡ Err DiskFault

-- it did not, where nothing did or where there was no memory
pub ok_no_fault : IsDiskFault (Ok tt) → ⊥
ok_no_fault is = cc

pub memory_no_fault : IsDiskFault (Err NoMemory) → ⊥
memory_no_fault is = cc

-- some looks, and then others
pub looks_both : (reveals first second : Type 0) (v : Opened) (a b s : Searched) (x y z : State) → (first → ⊥) → Looks reveals first v a b x y → Looks reveals second v b s y z → Looks reveals second v a s x z
looks_both reveals first second v a b s x y z fine one two = record {
  goes = goes_both reveals v x.files y.files a b s one.reads.contents one.goes two.goes;
  more = one.more ++ two.more;
  waits = two.waits ∙ ap (λ ws. ws ++ two.more) one.waits ∙ append_assoc a.waiting one.more two.more;
  few = omega (arith, one.few, two.few);
  reads = reads_both reveals first second x y z fine one.reads two.reads;
}

-- some looks without a fault, and then others
pub looks_then : (reveals second : Type 0) (v : Opened) (a b s : Searched) (x y z : State) → Looks reveals (IsDiskFault (Ok tt)) v a b x y → Looks reveals second v b s y z
    → Looks reveals second v a s x z
looks_then reveals second v a b s x y z one two = looks_both reveals (IsDiskFault (Ok tt)) second v a b s x y z ok_no_fault one two

-- what is left of a search is another list of those that wait
pub goes_as : (reveals : Type 0) (v : Opened) (c : Files) (s t u : Searched) → u.read ≡ t.read → u.unknown ≡ t.unknown → Goes reveals v c s t → Goes reveals v c s u
goes_as reveals v c s t u read unknown goes = record {
  same = ap (λ (m : Marked). m.lattice) read ∙ goes.same;
  read = λ b has is. ap (λ m. is_marked m b) read ∙ goes.read b has is;
  kept = λ b has is. ap (λ m. is_marked m b) unknown ∙ goes.kept b has is;
  revealed = λ reveal b has before after.
      subst (λ m. (is_marked m b ≡ false) ↔ IsIntactBy v.shape v.digests c b) (sym unknown) (goes.revealed reveal b has before (sym (ap (λ m. is_marked m b) read) ∙ after));
}

-- ---- one look

unknown_not_false : (u : Bool) (intact : Bool) (is : Type 0) → u ≡ true → intact ≡ false → IsTrue intact ↔ is → (u ≡ false) ↔ is
unknown_not_false u intact is here bad says = (λ no. absurd (false≢true (sym no ∙ here)), λ fine. absurd (false≢true (sym bad ∙ says.1 fine)))

closed_false : (u : Bool) (intact : Bool) (is : Type 0) → u ≡ false → intact ≡ true → IsTrue intact ↔ is → (u ≡ false) ↔ is
closed_false u intact is here good says = (λ no. says.0 good, λ fine. here)

-- the one block that was read meanwhile
read_one : (s t : Searched) (b : BlockId) → IsMarkedToo s.read.lattice s.read t.read b → (d : BlockId) → HasBlock s.read.lattice d → is_marked s.read d ≡ false → is_marked t.read d ≡ true → d ≡ b
read_one s t b too d has before after =
    elim (same_or_other d b) [
      | inl is ↦ is
      | inr apart ↦ absurd (false≢true (sym before ∙ sym (too.others d has apart) ∙ after))
    ]

-- it was damaged
pub looks_begins : (reveals fault : Type 0) (v : Opened) (s t : Searched) (x y : State) (b : BlockId) (intact : Bool) → s.read.lattice ≡ v.lattice → is_marked s.read b ≡ false
    → intact ≡ false → (reveals → IsTrue intact ↔ IsIntactBy v.shape v.digests x.files b) → Begins s t b → OnlyReads reveals fault x y → Looks reveals fault v s t x y
looks_begins reveals fault v s t x y b intact same unread bad says begins reads =
    let inside : (d : BlockId) → HasBlock v.lattice d → HasBlock s.read.lattice d = λ d has. subst (λ (l : Lattice). HasBlock l d) (sym same) has in
    record {
      goes = record {
        same = begins.read.same;
        read = λ d has is. still s.read.lattice s.read t.read b begins.read d (inside d has) is;
        kept = λ d has is.
            begins.unknown.others d (inside d has) (λ equal. false≢true (sym unread ∙ ap (is_marked s.read) (sym equal) ∙ is));
        revealed = λ reveal d has before after.
            let is : d ≡ b = read_one s t b begins.read d (inside d has) before after in
            subst (λ z. (is_marked t.unknown z ≡ false) ↔ IsIntactBy v.shape v.digests x.files z) (sym is)
            (unknown_not_false (is_marked t.unknown b) intact (IsIntactBy v.shape v.digests x.files b) begins.unknown.here bad (says reveal));
      };
      more = b ∷ [];
      waits = begins.waiting;
      few = omega (arith, begins.read.one unread, ap length begins.waiting, length-append s.waiting (b ∷ []));
      reads = reads;
    }

-- it was intact
pub looks_skips : (reveals fault : Type 0) (v : Opened) (s t : Searched) (x y : State) (b : BlockId) (intact : Bool) → s.read.lattice ≡ v.lattice → HasBlock v.lattice b → IsSearch s
    → is_marked s.read b ≡ false → intact ≡ true → (reveals → IsTrue intact ↔ IsIntactBy v.shape v.digests x.files b) → Passes s t b → OnlyReads reveals fault x y → Looks reveals fault v s t x y
looks_skips reveals fault v s t x y b intact same has_b holds unread good says passes reads =
    let inside : (d : BlockId) → HasBlock v.lattice d → HasBlock s.read.lattice d = λ d has. subst (λ (l : Lattice). HasBlock l d) (sym same) has in
    let closed : is_marked t.unknown b ≡ false =
    ap (λ m. is_marked m b) passes.unknown ∙ false_from_ne_true (is_marked s.unknown b) (λ is. false≢true (sym unread ∙ holds.within b (inside b has_b) is)) in
    record {
      goes = record {
        same = passes.read.same;
        read = λ d has is. still s.read.lattice s.read t.read b passes.read d (inside d has) is;
        kept = λ d has is. ap (λ m. is_marked m d) passes.unknown;
        revealed = λ reveal d has before after.
            let is : d ≡ b = read_one s t b passes.read d (inside d has) before after in
            subst (λ z. (is_marked t.unknown z ≡ false) ↔ IsIntactBy v.shape v.digests x.files z) (sym is)
            (closed_false (is_marked t.unknown b) intact (IsIntactBy v.shape v.digests x.files b) closed good (says reveal));
      };
      more = [];
      waits = passes.waiting ∙ sym (append-nil s.waiting);
      few = omega (arith, passes.read.one unread, ap length passes.waiting);
      reads = reads;
    }

-- ---- tests that are right about what was read

not_twice : (x : Bool) → x ≡ not (not x)
not_twice true = refl
not_twice false = refl

-- a truth value that is false exactly where another one is true
other_truth : (u known : Bool) (is : Type 0) → (u ≡ false) ↔ is → IsTrue known ↔ is → u ≡ not known
other_truth u true is says knows = says.1 (knows.0 refl)
other_truth u false is says knows = true_from_ne_false u (λ no. false≢true (knows.1 (says.0 no)))

-- each test is right about a search that has read nothing
pub right_new : (l : Lattice) (known : BlockId → Bool) (s : Searched) → IsNew l s → IsRightBy l known s
right_new l known s none b has read = absurd (false≢true (sym (none.read b) ∙ read))

-- one by which a block is not known stays right where the block is taken as unknown
pub right_begins : (l : Lattice) (known : BlockId → Bool) (s t : Searched) (b : BlockId) → s.read.lattice ≡ l → known b ≡ false → IsRightBy l known s → Begins s t b → IsRightBy l known t
right_begins l known s t b same unknown right begins d has read =
    elim (same_or_other d b) [
      | inl is ↦ ap (is_marked t.unknown) is ∙ begins.unknown.here ∙ sym (ap not (ap known is ∙ unknown))
      | inr apart ↦
          begins.unknown.others d (subst (λ (x : Lattice). HasBlock x d) (sym same) has) apart
          ∙ right d has (sym (begins.read.others d (subst (λ (x : Lattice). HasBlock x d) (sym same) has) apart) ∙ read)
    ]

-- Where the contents of the disk are known, a test that is right about what was read stays right where the search goes on, if
-- of the blocks that were not read exactly the intact ones pass it.
pub right_later : (reveals : Type 0) (v : Opened) (c : Files) (s t : Searched) (known : BlockId → Bool) → reveals → Goes reveals v c s t → IsRightBy v.lattice known s
    → ((b : BlockId) → HasBlock v.lattice b → is_marked s.read b ≡ false → IsTrue (known b) ↔ IsIntactBy v.shape v.digests c b) → IsRightBy v.lattice known t
right_later reveals v c s t known reveal goes right knows b has read =
    elim (cases_Bool (is_marked s.read b)) [
      | inl before ↦ goes.kept b has before ∙ right b has before
      | inr unread ↦ other_truth (is_marked t.unknown b) (known b) (IsIntactBy v.shape v.digests c b) (goes.revealed reveal b has unread read) (knows b has unread)
    ]

-- a block of the ledger's lattice is one of the archive
pub in_archive : (v : Opened) (l : Lattice) → l ≡ v.lattice → IsLatticeOf v.shape l.n l.fences l → (b : BlockId) → HasBlock v.lattice b → IsBlockIn v.shape v.lattice.n b
in_archive v l same of_shape b has = record {
  after = has.first;
  most = has.last;
  used = (let used = has.used in let alpha = of_shape.alpha in let of_l = ap (λ (k : Lattice). k.alpha) same in omega (arith, used, alpha, of_l));
}

-- So a test that distinguishes the intact blocks is right about what a search has read that had read nothing before.
pub survivors_right : (reveals : Type 0) (v : Opened) (c : Files) (s t : Searched) (known : BlockId → Bool) → reveals → IsNew v.lattice s → Goes reveals v c s t
    → ((b : BlockId) → HasBlock v.lattice b → IsBlockIn v.shape v.lattice.n b) → RevealsSurvivors v.shape v.lattice.n v.digests c known → IsRightBy v.lattice known t
survivors_right reveals v c s t known reveal none goes inside survivors =
    right_later reveals v c s t known reveal goes (right_new v.lattice known s none) (λ b has unread. survivors b (inside b has))

-- The blocks that were read and are not unknown, and of the others those that pass a test.
abbrev pub as_read : Searched → (BlockId → Bool) → BlockId → Bool
as_read s others b = cond (is_marked s.read b) (not (is_marked s.unknown b)) (others b)

-- whatever the disk is, that test is right about what was read
pub right_as_read : (l : Lattice) (s : Searched) (others : BlockId → Bool) → IsRightBy l (as_read s others) s
right_as_read l s others b has read =
    not_twice (is_marked s.unknown b) ∙ sym (ap not (cond-true (is_marked s.read b) (not (is_marked s.unknown b)) (others b) read))
