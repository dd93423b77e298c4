-- What is so of every search stays so.
use Rattle.std.proofs.Common.{◌≡◌, ◌≢◌, true, List, [], ◌∷◌, inl, inr, ◌⊎◌, sym, ◌∙◌, ap, subst}
use Rattle.std.specs.Prelude.{Contains}
use Rattle.std.proofs.lemmas.Bool.{cases_Bool, false≢true}
use Rattle.std.proofs.lemmas.List.Elements.{Contains-append_left, Contains-append_right, Contains-push, Contains-push_cases}
use Rattle.aea_lattice.specs.declared.blocks.BlockId.{BlockId}
use Rattle.aea_lattice.specs.declared.grid.Lattice.{Lattice}
use Rattle.aea_lattice.specs.Blocks.{HasBlock, same_block}
use Rattle.aea_lattice.proofs.Equations.{same_block-equal, same_block-refl}
use Rattle.aea_view.specs.Marked.{Marked, IsWhole, is_marked}
use Rattle.aea_view.proofs.Marking.{Sets, mark_here, mark_other, one_marked}
use Rattle.aea_search.specs.Searches.{Searched, IsSearch, IsGoneAround, IsMarkedToo, Begins, Passes}
use Rattle.aea_search.proofs.Around.{around_still}
use Rattle.aea_search.proofs.Waiting.{head_or_rest}

pub same_or_other : (d b : BlockId) → (d ≡ b) ⊎ (d ≢ b)
same_or_other d b =
    elim (cases_Bool (same_block d b)) [
      | inl is ↦ inl (same_block-equal d b is)
      | inr differs ↦ inr (λ is. false≢true (sym differs ∙ subst (λ x. same_block d x ≡ true) is (same_block-refl d)))
    ]

-- a mark that was set
pub marked_too : (l : Lattice) (m n : Marked) (b : BlockId) → m.lattice ≡ l → Sets m n b true → IsMarkedToo l m n b
marked_too l m n b same sets = record {
  same = sets.same;
  here = mark_here m n b true sets;
  others = λ d has apart. mark_other m n b true sets d (subst (λ (x : Lattice). HasBlock x d) (sym same) has) apart;
  one = one_marked m n b sets;
}

-- what was marked is still
pub still : (l : Lattice) (m n : Marked) (b : BlockId) → IsMarkedToo l m n b → (d : BlockId) → HasBlock l d → is_marked m d ≡ true → is_marked n d ≡ true
still l m n b too d has marked =
    elim (same_or_other d b) [
      | inl is ↦ ap (is_marked n) is ∙ too.here
      | inr apart ↦ too.others d has apart ∙ marked
    ]

-- those around a block were read, also by the marks of later
around_later : (m n : Marked) (b : BlockId) → IsMarkedToo m.lattice m n b → (d : BlockId) → IsGoneAround m.lattice m d → IsGoneAround n.lattice n d
around_later m n b too d around = subst (λ (l : Lattice). IsGoneAround l n d) (sym too.same) (around_still m.lattice m n (still m.lattice m n b too) d around)

-- a block was taken as read and unknown
pub search_begins : (s t : Searched) (b : BlockId) → IsSearch s → HasBlock s.read.lattice b → IsWhole t.read → IsWhole t.unknown → Begins s t b → IsSearch t
search_begins s t b holds has_b whole whole_unknown begins =
    let last : Contains t.waiting b = subst (λ xs. Contains xs b) (sym begins.waiting) (Contains-push s.waiting b) in
    let before : (d : BlockId) → HasBlock t.read.lattice d → HasBlock s.read.lattice d = λ d has. subst (λ (l : Lattice). HasBlock l d) begins.read.same has in
    let was : (d : BlockId) → HasBlock t.read.lattice d → d ≢ b → is_marked t.unknown d ≡ true → is_marked s.unknown d ≡ true =
    λ d has apart marked. sym (begins.unknown.others d (before d has) apart) ∙ marked in
    record {
      same = begins.unknown.same ∙ holds.same ∙ sym begins.read.same;
      read = whole;
      unknown = whole_unknown;
      inside = λ d c.
          subst (λ (l : Lattice). HasBlock l d) (sym begins.read.same)
          (elim (Contains-push_cases s.waiting b d (subst (λ xs. Contains xs d) begins.waiting c)) [
            | inl earlier ↦ holds.inside d earlier
            | inr is ↦ subst (HasBlock s.read.lattice) is has_b
          ]);
      within = λ d has marked. elim (same_or_other d b) [
        | inl is ↦ ap (is_marked t.read) is ∙ begins.read.here
        | inr apart ↦ still s.read.lattice s.read t.read b begins.read d (before d has) (holds.within d (before d has) (was d has apart marked))
      ];
      rest = λ d has marked. elim (same_or_other d b) [
        | inl is ↦ inl (subst (Contains t.waiting) (sym is) last)
        | inr apart ↦ elim (holds.rest d (before d has) (was d has apart marked)) [
          | inl waits ↦ inl (subst (λ xs. Contains xs d) (sym begins.waiting) (Contains-append_left s.waiting (b ∷ []) d waits))
          | inr around ↦ inr (around_later s.read t.read b begins.read d around)
        ]
      ];
    }

-- a block was taken as read
pub search_skips : (s t : Searched) (b : BlockId) → IsSearch s → IsWhole t.read → Passes s t b → IsSearch t
search_skips s t b holds whole passes =
    let before : (d : BlockId) → HasBlock t.read.lattice d → HasBlock s.read.lattice d = λ d has. subst (λ (l : Lattice). HasBlock l d) passes.read.same has in
    let was : (d : BlockId) → is_marked t.unknown d ≡ true → is_marked s.unknown d ≡ true = λ d marked. sym (ap (λ m. is_marked m d) passes.unknown) ∙ marked in
    record {
      same = ap (λ (m : Marked). m.lattice) passes.unknown ∙ holds.same ∙ sym passes.read.same;
      read = whole;
      unknown = subst IsWhole (sym passes.unknown) holds.unknown;
      inside = λ d c. subst (λ (l : Lattice). HasBlock l d) (sym passes.read.same) (holds.inside d (subst (λ xs. Contains xs d) passes.waiting c));
      within = λ d has marked. still s.read.lattice s.read t.read b passes.read d (before d has) (holds.within d (before d has) (was d marked));
      rest = λ d has marked. elim (holds.rest d (before d has) (was d marked)) [
        | inl waits ↦ inl (subst (λ xs. Contains xs d) (sym passes.waiting) waits)
        | inr around ↦ inr (around_later s.read t.read b passes.read d around)
      ];
    }

-- the first block that waits was gone around
pub search_passes : (s : Searched) (b : BlockId) (others : List BlockId) → IsSearch s → s.waiting ≡ b ∷ others → IsGoneAround s.read.lattice s.read b
    → IsSearch (record { read = s.read; unknown = s.unknown; waiting = others })
search_passes s b others holds waits around = record {
  same = holds.same;
  read = holds.read;
  unknown = holds.unknown;
  inside = λ d c. holds.inside d (subst (λ xs. Contains xs d) (sym waits) (Contains-append_right (b ∷ []) others d c));
  within = holds.within;
  rest = λ d has marked. elim (holds.rest d has marked) [
    | inl c ↦ elim (head_or_rest b others d (subst (λ xs. Contains xs d) waits c)) [
      | inl is ↦ inr (subst (IsGoneAround s.read.lattice s.read) is around)
      | inr still ↦ inl still
    ]
    | inr done ↦ inr done
  ];
}
