-- What follows of the definition of a loss.
use Rattle.std.proofs.Common.{◌≡◌, ℕ, List, [], ◌∷◌, length, get_or, Bool, true, false, ◌||◌, Option, None, Some, inl, inr, IsTrue, refl, sym, ◌∙◌, ap, subst}
use Rattle.std.specs.Prelude.{filter, All, not}
use Rattle.std.proofs.lemmas.Bool.{cases_Bool, false≢true, false_from_ne_true}
use Rattle.std.proofs.lemmas.List.Elements.{All-head, All-same, All-filter, filter_passes}
use Rattle.aea_lattice.specs.declared.blocks.BlockId.{BlockId}
use Rattle.aea_lattice.specs.declared.grid.Lattice.{Lattice}
use Rattle.aea_lattice.specs.Blocks.{HasBlock, blocks_of}
use Rattle.aea_lattice.specs.LeastWord.{IsWord}
use Rattle.aea_lattice.specs.Facts.{BlocksAreInside, ReachedAreDetermined}
use Rattle.aea_lattice.proofs.Derivations.{reached-known}
use Rattle.aea_fates.specs.Laws.{ListsAreOne}
use Rattle.aea_sites.proofs.Lists.{same-filter}
use Rattle.aea_sites.specs.declared.lost.FirstLost.{FirstLost}
use Rattle.aea_sites.specs.declared.lost.SiteLoss.{SiteLoss}
use Rattle.aea_sites.specs.Losses.{RevealsLost, AreLost, IsFirst}
use Rattle.aea_sites.specs.Laws.{LossesAreOne, FirstWordsShow, LostAreOnSites}
use Rattle.aea_sites.specs.Sites.{is_on, is_elsewhere}

-- two tests that tell the lost blocks agree
tests_agree : (l : Lattice) (known p q : BlockId → Bool) → RevealsLost l known p → RevealsLost l known q → (b : BlockId) → HasBlock l b → p b ≡ q b
tests_agree l known p q first second b has =
    elim (cases_Bool (q b)) [
      | inl yes' ↦ (first b has).1 ((second b has).0 yes') ∙ sym yes'
      | inr no' ↦ false_from_ne_true (p b) (λ t. false≢true (sym no' ∙ (second b has).1 ((first b has).0 t))) ∙ sym no'
    ]

one_list : BlocksAreInside → (l : Lattice) (known : BlockId → Bool) (xs ys : List BlockId) → AreLost l known xs → AreLost l known ys → xs ≡ ys
one_list inside l known xs ys p q =
    p.are ∙ same-filter p.test q.test (blocks_of l) (λ k d lt. tests_agree l known p.test q.test p.reveals q.reveals (get_or (blocks_of l) k d) (inside l k d lt)) ∙ sym q.are

first_equal : (b : BlockId) (ns ms : List ℕ) → ns ≡ ms → (x y : Option FirstLost) → x ≡ Some (record { block = b; nodes = ns }) → y ≡ Some (record { block = b; nodes = ms }) → x ≡ y
first_equal b ns ms same x y is other = is ∙ ap (λ ks. let f : FirstLost = record { block = b; nodes = ks } in Some f) same ∙ sym other

one_first : ListsAreOne → (l : Lattice) (known : BlockId → Bool) (blocks : List BlockId) (x y : Option FirstLost) → All (HasBlock l) blocks → IsFirst l known blocks x → IsFirst l known blocks y → x ≡ y
one_first one l known [] x y inside p q = p ∙ sym q
one_first one l known (b ∷ blocks) x y inside p q =
    first_equal b p.0 q.0 ((one l known b (All-head (HasBlock l) b blocks inside)).one_word p.0 q.0 p.2 q.2) x y p.1 q.1

loss_equal : (x y : SiteLoss) → x.lost ≡ y.lost → x.first ≡ y.first → x ≡ y
loss_equal x y lost first = λ i. record { lost = lost i; first = first i }

pub losses_one : BlocksAreInside → ListsAreOne → LossesAreOne
losses_one inside one l known x y p q =
    let same : p.blocks ≡ q.blocks = one_list inside l known p.blocks q.blocks p.are q.are in
    let within : All (HasBlock l) p.blocks = All-same (HasBlock l) p.blocks (filter p.are.test (blocks_of l)) p.are.are (All-filter p.are.test (HasBlock l) (blocks_of l) (inside l)) in
    loss_equal x y (p.count ∙ ap length same ∙ sym q.count)
    (one_first one l known p.blocks x.first y.first within p.first (subst (λ bs. IsFirst l known bs y.first) (sym same) q.first))

some_item : {X : Type 0} → (r : Option X) (x y : X) → r ≡ Some x → r ≡ Some y → x ≡ y
some_item r x y one other = let e : Some x ≡ Some y = sym one ∙ other in cc

-- the word of the first lost block
first_word : (l : Lattice) (known : BlockId → Bool) (blocks : List BlockId) (first : Option FirstLost) (f : FirstLost) → IsFirst l known blocks first → first ≡ Some f → IsWord l known f.block f.nodes
first_word l known [] first f is some = let none : None ≡ Some f = sym is ∙ some in absurd cc
first_word l known (b ∷ blocks) first f is some =
    let g : FirstLost = record { block = b; nodes = is.0 } in
    subst (λ (x : FirstLost). IsWord l known x.block x.nodes) (some_item first g f is.1 some) is.2

pub words_show : FirstWordsShow
words_show l known loss f is some =
    let word = first_word l known is.blocks loss.first f is.first some in
    record { contains = word.chosen.1.contains; misses = word.chosen.1.word.misses }

-- a block that passes the test of the lost ones is not known
missing : ReachedAreDetermined → (l : Lattice) (known test : BlockId → Bool) → RevealsLost l known test → (b : BlockId) → HasBlock l b → test b ≡ true → known b ≡ false
missing determined l known test reveals b has lost =
    false_from_ne_true (known b) (λ k. (reveals b has).0 lost (determined l known b has (reached-known l known b k)))

not_false : (x : Bool) → not x ≡ false → x ≡ true
not_false true h = refl
not_false false h = sym h

pub lost_on_sites : BlocksAreInside → ReachedAreDetermined → LostAreOnSites
lost_on_sites inside determined l sites a b blocks lost =
    let gone : BlockId → Bool = λ d. is_on l sites a d || is_on l sites b d in
    let all = All-filter lost.test (HasBlock l) (blocks_of l) (inside l) in
    All-same (λ d. IsTrue (gone d)) blocks (filter lost.test (blocks_of l)) lost.are
    (λ k d lt.
    let x = get_or (filter lost.test (blocks_of l)) k d in
    not_false (gone x) (missing determined l (is_elsewhere l sites a b) lost.test lost.reveals x (all k d lt) (filter_passes lost.test (blocks_of l) k d lt)))
