-- Which lists of words mean no command.
use Rattle.std.proofs.Common.{◌≡◌, ℕ, suc, ◌<◌, ◌≤◌, get_or, ◌^◌, List, [], ◌∷◌, decimal, arith, refl, sym, ◌∙◌, ap, length, true, Option, Some, None}
use Rattle.std.specs.Prelude.{IfNone, codes, if◌then◌else◌}
use Rattle.std.specs.Str.{bytes_eq}
use Rattle.std.proofs.lemmas.Bool.Decides.{nat_tests}
use Rattle.std.proofs.lemmas.Fmt.{decimal_injective}
use mathlib.Core.HLevel.{is_prop→PathP}
use mathlib.Core.Bool.{Bool-set}
use Rattle.aea_lattice.specs.Profile.{is_shape}
use Rattle.aea_lattice.specs.declared.grid.Lattice.{Lattice}
use Rattle.aea_lattice.specs.declared.shape.Shape.{Shape}
use Rattle.aea_lattice.proofs.OneLattice.{lattice_equal}
use Rattle.aea_dispatch.specs.declared.command.Command.{Command}
use Rattle.aea_dispatch.specs.declared.command.Command.TheVariants as command
use Rattle.aea_dispatch.specs.declared.command.Command.TheVariants.{Drill, Create, Stat, Put, Ingest, Get, Fetch, Fence, Upgrade, Scrub, Repair, Explain, Verify, Rehearse, Sites, Session, Copies}
use Rattle.aea_dispatch.specs.Words.{words_of, Means, AreNoDrill, AreNoCreate, AreNoRehearsal, AreRehearsed, IsDrilled, HaveNoName, AreNoPlain, AreNoCommand}

-- the numbers of a lattice fit 32 bits
pub record AreSmall (l : Lattice) : Type 0 where
  pub alpha : l.alpha < 2 ^ 32
  pub s : l.s < 2 ^ 32
  pub p : l.p < 2 ^ 32
  pub n : l.n < 2 ^ 32

pub are_small : (l : Lattice) → AreSmall l
are_small l =
    let shape = l.in_profile in
    let range = l.in_range in
    record {
      alpha = grind (arith, nat_tests);
      s = grind (arith, nat_tests);
      p = grind (arith, nat_tests);
      n = omega arith;
    }

-- what holds of an option if it is none may be replaced by what follows from it
pub if_none_weaker : {A : Type 0} → (o : Option A) (P Q : Type 0) → (P → Q) → IfNone o P → IfNone o Q
if_none_weaker None P Q f h = f h
if_none_weaker (Some x) P Q f h = tt

-- the numbers that the words name are those of no lattice
pub no_lattice : (w : List ℕ) (a s p n : ℕ) → a < 2 ^ 32 → s < 2 ^ 32 → p < 2 ^ 32 → n < 2 ^ 32 → ((l : Lattice) → l.alpha ≡ a → l.s ≡ s → l.p ≡ p → l.n ≡ n → IsDrilled l → ⊥)
    → AreNoDrill (w ∷ decimal a ∷ decimal s ∷ decimal p ∷ decimal n ∷ [])
no_lattice w a s p n fa fs fp fn never = λ l means.
    let small = are_small l in
    let said = means.0 in
    let ea : decimal l.alpha ≡ decimal a = cc in
    let es : decimal l.s ≡ decimal s = cc in
    let ep : decimal l.p ≡ decimal p = cc in
    let en : decimal l.n ≡ decimal n = cc in
    never l
    (decimal_injective l.alpha a (omega arith) (omega arith) ea)
    (decimal_injective l.s s (omega arith) (omega arith) es)
    (decimal_injective l.p p (omega arith) (omega arith) ep)
    (decimal_injective l.n n (omega arith) (omega arith) en)
    means.1

-- a list of five items is its five items
pub five_items : {X : Type 0} → (xs : List X) (a b c d e : X) → 5 ≤ length xs → length xs < 6 → a ≡ get_or xs 0 a → b ≡ get_or xs 1 b → c ≡ get_or xs 2 c → d ≡ get_or xs 3 d → e ≡ get_or xs 4 e
    → xs ≡ a ∷ b ∷ c ∷ d ∷ e ∷ []
five_items [] a b c d e least most ea eb ec ed ee = absurd (omega arith)
five_items (v ∷ []) a b c d e least most ea eb ec ed ee = absurd (omega arith)
five_items (v ∷ w ∷ []) a b c d e least most ea eb ec ed ee = absurd (omega arith)
five_items (v ∷ w ∷ x ∷ []) a b c d e least most ea eb ec ed ee = absurd (omega arith)
five_items (v ∷ w ∷ x ∷ y ∷ []) a b c d e least most ea eb ec ed ee = absurd (omega arith)
five_items (v ∷ w ∷ x ∷ y ∷ z ∷ []) a b c d e least most ea eb ec ed ee =
    let va : a ≡ v = ea in let wb : b ≡ w = eb in let xc : c ≡ x = ec in let yd : d ≡ y = ed in let ze : e ≡ z = ee in cc
five_items (v ∷ w ∷ x ∷ y ∷ z ∷ u ∷ us) a b c d e least most ea eb ec ed ee = absurd (omega arith)

-- the words of a drill have one lattice
pub drills_equal : (words : List (List ℕ)) (a b : Lattice) → Means words (Drill a) → Means words (Drill b) → a ≡ b
drills_equal words a b ea eb =
    let same = sym ea.0 ∙ eb.0 in
    let sa = are_small a in
    let sb = are_small b in
    let dalpha : decimal a.alpha ≡ decimal b.alpha = cc in
    let ds : decimal a.s ≡ decimal b.s = cc in
    let dp : decimal a.p ≡ decimal b.p = cc in
    let dn : decimal a.n ≡ decimal b.n = cc in
    lattice_equal a b
    (decimal_injective a.alpha b.alpha (omega arith) (omega arith) dalpha)
    (decimal_injective a.s b.s (omega arith) (omega arith) ds)
    (decimal_injective a.p b.p (omega arith) (omega arith) dp)
    (decimal_injective a.n b.n (omega arith) (omega arith) dn)
    (ea.1.fences ∙ sym eb.1.fences)

-- the numbers of the shape of an archive fit 32 bits
pub record AreSmallNumbers (shape : Shape) : Type 0 where
  pub alpha : shape.alpha < 2 ^ 32
  pub s : shape.s < 2 ^ 32
  pub p : shape.p < 2 ^ 32
  pub block : shape.block < 2 ^ 32
  pub sites : shape.sites < 2 ^ 32

pub are_small_numbers : (shape : Shape) → AreSmallNumbers shape
are_small_numbers shape =
    let fits = shape.in_profile in
    record {
      alpha = grind (arith, nat_tests);
      s = grind (arith, nat_tests);
      p = grind (arith, nat_tests);
      block = grind (arith, nat_tests);
      sites = grind (arith, nat_tests);
    }

-- the numbers that the words name are those of no shape
pub no_shape : (w : List ℕ) (a s p b m : ℕ) → a < 2 ^ 32 → s < 2 ^ 32 → p < 2 ^ 32 → b < 2 ^ 32 → m < 2 ^ 32
    → ((shape : Shape) → shape.alpha ≡ a → shape.s ≡ s → shape.p ≡ p → shape.block ≡ b → shape.sites ≡ m → ⊥)
    → AreNoCreate (w ∷ decimal a ∷ decimal s ∷ decimal p ∷ decimal b ∷ decimal m ∷ [])
no_shape w a s p b m fa fs fp fb fm never = λ shape means.
    let small = are_small_numbers shape in
    let said = means.0 in
    let ea : decimal shape.alpha ≡ decimal a = cc in
    let es : decimal shape.s ≡ decimal s = cc in
    let ep : decimal shape.p ≡ decimal p = cc in
    let eb : decimal shape.block ≡ decimal b = cc in
    let em : decimal shape.sites ≡ decimal m = cc in
    never shape
    (decimal_injective shape.alpha a (omega arith) (omega arith) ea)
    (decimal_injective shape.s s (omega arith) (omega arith) es)
    (decimal_injective shape.p p (omega arith) (omega arith) ep)
    (decimal_injective shape.block b (omega arith) (omega arith) eb)
    (decimal_injective shape.sites m (omega arith) (omega arith) em)

-- a list of six items is its six items
pub six_items : {X : Type 0} → (xs : List X) (a b c d e f : X) → 6 ≤ length xs → length xs < 7 → a ≡ get_or xs 0 a → b ≡ get_or xs 1 b → c ≡ get_or xs 2 c → d ≡ get_or xs 3 d → e ≡ get_or xs 4 e → f ≡ get_or xs 5 f
    → xs ≡ a ∷ b ∷ c ∷ d ∷ e ∷ f ∷ []
six_items [] a b c d e f least most ea eb ec ed ee ef = absurd (omega arith)
six_items (v ∷ vs) a b c d e f least most ea eb ec ed ee ef =
    let va : a ≡ v = ea in
    let rest = five_items vs b c d e f (omega arith) (omega arith) eb ec ed ee ef in
    cc

-- a list of one item is that item
pub one_item : {X : Type 0} → (xs : List X) (a : X) → 1 ≤ length xs → length xs < 2 → a ≡ get_or xs 0 a → xs ≡ a ∷ []
one_item [] a least most ea = absurd (omega arith)
one_item (v ∷ []) a least most ea = let va : a ≡ v = ea in cc
one_item (v ∷ w ∷ xs) a least most ea = absurd (omega arith)

-- two shapes of the same numbers are the same
pub shape_equal : (a b : Shape) → a.alpha ≡ b.alpha → a.s ≡ b.s → a.p ≡ b.p → a.block ≡ b.block → a.sites ≡ b.sites → a ≡ b
shape_equal a b alpha s p block sites = λ i. record {
  alpha = alpha i;
  s = s i;
  p = p i;
  block = block i;
  sites = sites i;
  in_profile = is_prop→PathP (λ j. is_shape (alpha j) (s j) (p j) (block j) (sites j) ≡ true)
      (λ j. Bool-set (is_shape (alpha j) (s j) (p j) (block j) (sites j)) true) a.in_profile b.in_profile i;
}

-- the words of a new archive have one shape
pub shapes_equal : (words : List (List ℕ)) (a b : Shape) → Means words (Create a) → Means words (Create b) → a ≡ b
shapes_equal words a b ea eb =
    let same = sym ea.0 ∙ eb.0 in
    let sa = are_small_numbers a in
    let sb = are_small_numbers b in
    let dalpha : decimal a.alpha ≡ decimal b.alpha = cc in
    let ds : decimal a.s ≡ decimal b.s = cc in
    let dp : decimal a.p ≡ decimal b.p = cc in
    let dblock : decimal a.block ≡ decimal b.block = cc in
    let dsites : decimal a.sites ≡ decimal b.sites = cc in
    shape_equal a b
    (decimal_injective a.alpha b.alpha (omega arith) (omega arith) dalpha)
    (decimal_injective a.s b.s (omega arith) (omega arith) ds)
    (decimal_injective a.p b.p (omega arith) (omega arith) dp)
    (decimal_injective a.block b.block (omega arith) (omega arith) dblock)
    (decimal_injective a.sites b.sites (omega arith) (omega arith) dsites)

-- a list of two items is its two items
pub two_items : {X : Type 0} → (xs : List X) (a b : X) → 2 ≤ length xs → length xs < 3 → a ≡ get_or xs 0 a → b ≡ get_or xs 1 b → xs ≡ a ∷ b ∷ []
two_items [] a b least most ea eb = absurd (omega arith)
two_items (v ∷ vs) a b least most ea eb =
    let va : a ≡ v = ea in
    let rest = one_item vs b (omega arith) (omega arith) eb in
    cc

-- the names of the commands: of each the first of its words
names : List (List ℕ)
names =
    codes "drill" ∷ codes "create" ∷ codes "stat" ∷ codes "list" ∷ codes "put" ∷ codes "ingest" ∷ codes "get" ∷ codes "fetch" ∷ codes "fence" ∷ codes "upgrade" ∷ codes "scrub" ∷ codes "repair" ∷ codes "explain" ∷ codes "verify" ∷ codes "rehearse" ∷ codes "sites" ∷ codes "session" ∷ codes "copies" ∷ []

-- the place of a name among names, or their number
place_among : List (List ℕ) → List ℕ → ℕ
place_among [] word = 0
place_among (name ∷ rest) word = if bytes_eq word name then 0 else suc (place_among rest word)

-- the kind of command that the words name: the place of the first of them among the names
kind_by : List (List ℕ) → ℕ
kind_by [] = 0
kind_by (word ∷ words) = place_among names word

-- the kind of a command, by its own words
kind : Command → ℕ
kind command = kind_by (words_of command)

-- words that mean two commands name one kind
one_kind : (words : List (List ℕ)) (a b : Command) → Means words a → Means words b → kind a ≡ kind b
unfolding kind
one_kind words a b one two = ap kind_by (sym one.0 ∙ two.0)

-- two words have one second word
names_equal : (words : List (List ℕ)) (word a b : List ℕ) → words ≡ word ∷ a ∷ [] → words ≡ word ∷ b ∷ [] → a ≡ b
names_equal words word a b one two = let same = sym one ∙ two in cc

-- the words of a rehearsal have one number of each kind
rehearsals_equal : (words : List (List ℕ)) (a b c d e f : ℕ) → Means words (Rehearse a b c) → Means words (Rehearse d e f) → Rehearse a b c ≡ Rehearse d e f
rehearsals_equal words a b c d e f one two =
    let same = sym one.0 ∙ two.0 in
    let x = one.1 in
    let y = two.1 in
    let first : decimal a ≡ decimal d = cc in
    let second : decimal b ≡ decimal e = cc in
    let third : decimal c ≡ decimal f = cc in
    let from : a ≡ d = decimal_injective a d x.small y.small first in
    let nodes : b ≡ e = decimal_injective b e (omega (arith, x.few)) (omega (arith, y.few)) second in
    let part : c ≡ f = decimal_injective c f (omega (arith, x.part)) (omega (arith, y.part)) third in
    λ i. Rehearse (from i) (nodes i) (part i)

-- the numbers that the words name are those of no rehearsal
pub no_rehearsal : (w : List ℕ) (a b c : ℕ) → a < 2 ^ 64 → b < 2 ^ 32 → c < 2 ^ 32 → (AreRehearsed a b c → ⊥) → AreNoRehearsal (w ∷ decimal a ∷ decimal b ∷ decimal c ∷ [])
no_rehearsal w a b c fa fb fc never = λ number nodes permille means.
    let said = means.0 in
    let x = means.1 in
    let first : decimal number ≡ decimal a = cc in
    let second : decimal nodes ≡ decimal b = cc in
    let third : decimal permille ≡ decimal c = cc in
    let from : number ≡ a = decimal_injective number a x.small fa first in
    let many : nodes ≡ b = decimal_injective nodes b (omega (arith, x.few)) (omega (arith, fb)) second in
    let part : permille ≡ c = decimal_injective permille c (omega (arith, x.part)) (omega (arith, fc)) third in
    never (record { small = fa; some = omega (arith, x.some, many); few = omega (arith, x.few, many); part = omega (arith, x.part, part) })

-- a list of four items is its four items
pub four_items : {X : Type 0} → (xs : List X) (a b c d : X) → 4 ≤ length xs → length xs < 5 → a ≡ get_or xs 0 a → b ≡ get_or xs 1 b → c ≡ get_or xs 2 c → d ≡ get_or xs 3 d → xs ≡ a ∷ b ∷ c ∷ d ∷ []
four_items [] a b c d least most ea eb ec ed = absurd (omega arith)
four_items (v ∷ []) a b c d least most ea eb ec ed = absurd (omega arith)
four_items (v ∷ w ∷ []) a b c d least most ea eb ec ed = absurd (omega arith)
four_items (v ∷ w ∷ x ∷ []) a b c d least most ea eb ec ed = absurd (omega arith)
four_items (v ∷ w ∷ x ∷ y ∷ []) a b c d least most ea eb ec ed = let va : a ≡ v = ea in let wb : b ≡ w = eb in let xc : c ≡ x = ec in let yd : d ≡ y = ed in cc
four_items (v ∷ w ∷ x ∷ y ∷ z ∷ us) a b c d least most ea eb ec ed = absurd (omega arith)

-- Words mean one command at most: of two that have more words than their names the words after these are the same, and two of
-- different names are of different kinds.
pub one_command : (words : List (List ℕ)) (a b : Command) → Means words a → Means words b → a ≡ b
unfolding kind kind_by names place_among
one_command words (Drill a) (Drill b) one two = ap Drill (drills_equal words a b one two)
one_command words (Create a) (Create b) one two = ap Create (shapes_equal words a b one two)
one_command words (Put a) (Put b) one two = ap Put (names_equal words (codes "put") a b one.0 two.0)
one_command words (Get a) (Get b) one two = ap Get (names_equal words (codes "get") a b one.0 two.0)
one_command words (Fetch a) (Fetch b) one two = ap Fetch (names_equal words (codes "fetch") a b one.0 two.0)
one_command words (Explain a) (Explain b) one two = ap Explain (names_equal words (codes "explain") a b one.0 two.0)
one_command words (Rehearse a b c) (Rehearse d e f) one two = rehearsals_equal words a b c d e f one two
one_command words Stat Stat one two = refl
one_command words command.List command.List one two = refl
one_command words Ingest Ingest one two = refl
one_command words Fence Fence one two = refl
one_command words Upgrade Upgrade one two = refl
one_command words Scrub Scrub one two = refl
one_command words Repair Repair one two = refl
one_command words Verify Verify one two = refl
one_command words Sites Sites one two = refl
one_command words Session Session one two = refl
one_command words Copies Copies one two = refl
one_command words a b one two = let same : kind a ≡ kind b = one_kind words a b one two in cc

-- Words that are those of no command of each kind are no command.
pub no_command : (words : List (List ℕ)) → AreNoDrill words → AreNoCreate words → AreNoRehearsal words → HaveNoName words → AreNoPlain words → AreNoCommand words
no_command words drill create rehearsal named plain (Drill l) means = drill l means
no_command words drill create rehearsal named plain (Create shape) means = create shape means
no_command words drill create rehearsal named plain (Rehearse number nodes permille) means = rehearsal number nodes permille means
no_command words drill create rehearsal named plain (Put name) means = named.put name means
no_command words drill create rehearsal named plain (Get name) means = named.get name means
no_command words drill create rehearsal named plain (Fetch name) means = named.fetch name means
no_command words drill create rehearsal named plain (Explain word) means = named.explain word means
no_command words drill create rehearsal named plain Stat means = plain.stat means
no_command words drill create rehearsal named plain command.List means = plain.list means
no_command words drill create rehearsal named plain Ingest means = plain.ingest means
no_command words drill create rehearsal named plain Fence means = plain.fence means
no_command words drill create rehearsal named plain Upgrade means = plain.upgrade means
no_command words drill create rehearsal named plain Scrub means = plain.scrub means
no_command words drill create rehearsal named plain Repair means = plain.repair means
no_command words drill create rehearsal named plain Verify means = plain.verify means
no_command words drill create rehearsal named plain Sites means = plain.sites means
no_command words drill create rehearsal named plain Session means = plain.session means
no_command words drill create rehearsal named plain Copies means = plain.copies means
