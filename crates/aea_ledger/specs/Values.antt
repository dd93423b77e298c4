-- What a contract sees of an opened ledger, and when it is the one of some bytes.
use Rattle.std.specs.Prelude.{◌≡◌, ℕ, Bool, List, length, refl}
use Rattle.std.specs.List.{list_any}
use Rattle.std.specs.FinMap as map
use Rattle.std.specs.Coded.{Coded, code_by, coded×, coded_list, coded_ℕ, coded_bool}
use Rattle.sha2.specs.declared.Sha256.{Sha256}
use Rattle.sha2.specs.Hashers.{Holds256}
use Rattle.sha2.specs.Sha256.{sha256}
use Rattle.aea_lattice.specs.declared.shape.Shape.{Shape}
use Rattle.aea_lattice.specs.declared.grid.Lattice.{Lattice}
use Rattle.aea_lattice.specs.contracts.shape.Shape as shapes
use Rattle.aea_lattice.specs.contracts.grid.Lattice as lattices
use Rattle.sha2.specs.contracts.Sha256 as hashers
use Rattle.aea_catalog.specs.Catalogs.{Objects, placed_code}
use Rattle.aea_records.specs.Format.{Record, is_raise, nodes_of, fences_of, digests_of, spelled}
use Rattle.aea_records.specs.Grammar.{AreRecords, IsLedger}
use Rattle.aea_records.specs.Catalogued.{objects_of}
use Rattle.aea_ledger.specs.Recorded.{IsLatticeOf}

-- An opened ledger: its shape; its lattice, with its fences; its objects by their names; whether the limit was raised; the
-- digests of all blocks in number order; the running hash of what comes before its ending gate, the seal, the place of
-- that gate, and whether it may be appended to.
pub record Opened : Type 0 where
  pub shape : Shape
  pub lattice : Lattice
  pub objects : Objects
  pub raised : Bool
  pub digests : List (List ℕ)
  pub hasher : Sha256
  pub seal : List ℕ
  pub end : ℕ
  pub live : Bool

-- an opened ledger as the tuple of its fields
abbrev pub opened_code : Coded Opened
opened_code =
    code_by (Shape × (Lattice × (Objects × (Bool × (List (List ℕ) × (Sha256 × (List ℕ × (ℕ × Bool))))))))
    (coded× shapes.the_row.coded (coded× lattices.the_row.coded (coded× (map.code (coded_list coded_ℕ) placed_code) (coded× coded_bool
    (coded× (coded_list (coded_list coded_ℕ)) (coded× hashers.the_row.coded (coded× (coded_list coded_ℕ) (coded× coded_ℕ coded_bool))))))))
    (λ v. (v.shape, (v.lattice, (v.objects, (v.raised, (v.digests, (v.hasher, (v.seal, (v.end, v.live)))))))))
    (λ t. record { shape = t.0; lattice = t.1.0; objects = t.1.1.0; raised = t.1.1.1.0; digests = t.1.1.1.1.0; hasher = t.1.1.1.1.1.0; seal = t.1.1.1.1.1.1.0; end = t.1.1.1.1.1.1.1.0; live = t.1.1.1.1.1.1.1.1 })
    (λ _. refl)

-- the opened ledger has exactly these records
pub record HasRecords (v : Opened) (records : List Record) : Type 0 where
  pub valid : AreRecords v.shape records
  pub lattice : IsLatticeOf v.shape (nodes_of records) (fences_of records) v.lattice
  pub objects : v.objects ≡ objects_of records
  pub raised : v.raised ≡ list_any is_raise records
  pub digests : v.digests ≡ digests_of records
  pub hasher : Holds256 v.hasher (spelled v.shape records)
  pub seal : v.seal ≡ sha256 (spelled v.shape records)
  pub end : v.end ≡ length (spelled v.shape records)

-- the opened ledger has some records
abbrev pub HasSomeRecords : Opened → Type 0
HasSomeRecords v = (records : List Record) × HasRecords v records

-- the bytes are this ledger: they are in the grammar with the records that it has, and end where it does
pub record IsThisOne (v : Opened) (bytes : List ℕ) : Type 0 where
  pub records : List Record
  pub has : HasRecords v records
  pub ledger : IsLedger bytes v.shape records v.end
