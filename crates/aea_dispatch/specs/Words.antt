-- “Words”: the command that a list of words means, or none.
use Rattle.std.specs.Prelude.{◌≡◌, ◌⊎◌, ◌≤◌, ◌<◌, ◌^◌, ℕ, List, [], ◌∷◌, codes, decimal}
use Rattle.aea_lattice.specs.declared.grid.Lattice.{Lattice}
use Rattle.aea_lattice.specs.declared.shape.Shape.{Shape}
use Rattle.aea_dispatch.specs.declared.command.Command.{Command}
use Rattle.aea_dispatch.specs.declared.command.Command.TheVariants as command
use Rattle.aea_dispatch.specs.declared.command.Command.TheVariants.{Drill, Create, Stat, Put, Ingest, Get, Fetch, Fence, Upgrade, Scrub, Repair, Explain, Verify, Rehearse, Sites, Session, Copies}

-- The words of a command, each number in decimal: `drill A S P N`, `create A S P B M`, `stat`, `list`, `put NAME`,
-- `get NAME`, `fetch NAME`, `fence`, `upgrade`, `scrub`, `repair`, `explain BLOCK`, `verify`, `rehearse NUMBER NODES PERMILLE`,
-- `sites`, `session` and `copies`. Any word may stand for NAME, and for BLOCK.
abbrev pub words_of : Command → List (List ℕ)
words_of (Drill l) = codes "drill" ∷ decimal l.alpha ∷ decimal l.s ∷ decimal l.p ∷ decimal l.n ∷ []
words_of (Create shape) =
    codes "create" ∷ decimal shape.alpha ∷ decimal shape.s ∷ decimal shape.p ∷ decimal shape.block ∷ decimal shape.sites ∷ []
words_of Stat = codes "stat" ∷ []
words_of command.List = codes "list" ∷ []
words_of (Put name) = codes "put" ∷ name ∷ []
words_of Ingest = codes "ingest" ∷ []
words_of (Get name) = codes "get" ∷ name ∷ []
words_of (Fetch name) = codes "fetch" ∷ name ∷ []
words_of Fence = codes "fence" ∷ []
words_of Upgrade = codes "upgrade" ∷ []
words_of Scrub = codes "scrub" ∷ []
words_of Repair = codes "repair" ∷ []
words_of (Explain word) = codes "explain" ∷ word ∷ []
words_of Verify = codes "verify" ∷ []
words_of (Rehearse number nodes permille) = codes "rehearse" ∷ decimal number ∷ decimal nodes ∷ decimal permille ∷ []
words_of Sites = codes "sites" ∷ []
words_of Session = codes "session" ∷ []
words_of Copies = codes "copies" ∷ []

-- the most nodes of a drill
abbrev pub drill_limit : ℕ
drill_limit = 65536

-- the lattice may be drilled: it has no fences, and not too many nodes
pub record IsDrilled (l : Lattice) : Type 0 where
  pub fences : l.fences ≡ []
  pub few : l.n ≤ drill_limit

-- the numbers of a rehearsal: 64 bits, 1 to 2,000 nodes, and at most 1,000 in a thousand
pub record AreRehearsed (number nodes permille : ℕ) : Type 0 where
  pub small : number < 2 ^ 64
  pub some : 1 ≤ nodes
  pub few : nodes ≤ 2000
  pub part : permille ≤ 1000

-- the numbers of the command are such that it can be carried out
abbrev pub IsSane : Command → Type 0
IsSane (Drill l) = IsDrilled l
IsSane (Rehearse number nodes permille) = AreRehearsed number nodes permille
IsSane command = Unit {0}

-- the words mean this command: they are its words, and it can be carried out
abbrev pub Means : List (List ℕ) → Command → Type 0
Means words command = (words ≡ words_of command) × IsSane command

-- the words mean no drill
abbrev pub AreNoDrill : List (List ℕ) → Type 0
AreNoDrill words = (l : Lattice) → Means words (Drill l) → ⊥

-- the words mean no rehearsal
abbrev pub AreNoRehearsal : List (List ℕ) → Type 0
AreNoRehearsal words = (number nodes permille : ℕ) → Means words (Rehearse number nodes permille) → ⊥

-- the words mean no making of an archive
abbrev pub AreNoCreate : List (List ℕ) → Type 0
AreNoCreate words = (shape : Shape) → Means words (Create shape) → ⊥

-- the words mean the storing, the getting or the fetching of an object, under some name, or the explaining of a block, by some
-- text
abbrev pub HaveName : List (List ℕ) → Type 0
HaveName words =
    ((name : List ℕ) × Means words (Put name)) ⊎ (((name : List ℕ) × Means words (Get name))
    ⊎ (((name : List ℕ) × Means words (Fetch name)) ⊎ ((word : List ℕ) × Means words (Explain word))))

-- the words mean none of these
pub record HaveNoName (words : List (List ℕ)) : Type 0 where
  pub put : (name : List ℕ) → Means words (Put name) → ⊥
  pub get : (name : List ℕ) → Means words (Get name) → ⊥
  pub fetch : (name : List ℕ) → Means words (Fetch name) → ⊥
  pub explain : (word : List ℕ) → Means words (Explain word) → ⊥

-- the words mean no command of one word
pub record AreNoPlain (words : List (List ℕ)) : Type 0 where
  pub stat : Means words Stat → ⊥
  pub list : Means words command.List → ⊥
  pub ingest : Means words Ingest → ⊥
  pub fence : Means words Fence → ⊥
  pub upgrade : Means words Upgrade → ⊥
  pub scrub : Means words Scrub → ⊥
  pub repair : Means words Repair → ⊥
  pub verify : Means words Verify → ⊥
  pub sites : Means words Sites → ⊥
  pub session : Means words Session → ⊥
  pub copies : Means words Copies → ⊥

-- the words mean no command
abbrev pub AreNoCommand : List (List ℕ) → Type 0
AreNoCommand words = (command : Command) → Means words command → ⊥
