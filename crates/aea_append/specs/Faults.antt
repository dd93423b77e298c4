-- The faults that taking a frame and putting an object have in common.
use Rattle.std.specs.Prelude.{ℕ, Result, Ok, Err}
use Rattle.aea_append.specs.declared.fault.PutFault.{PutFault}
use Rattle.aea_append.specs.declared.fault.PutFault.TheVariants as put
use Rattle.aea_append.specs.declared.ingest.IngestFault.{IngestFault}
use Rattle.aea_append.specs.declared.ingest.IngestFault.TheVariants as ingest

-- the fault of a frame whose object was not put
abbrev pub ingest_of : PutFault → IngestFault
ingest_of put.BadName = ingest.BadName
ingest_of put.NameTaken = ingest.NameTaken
ingest_of put.CatalogFull = ingest.CatalogFull
ingest_of (put.HeadDamaged block) = ingest.HeadDamaged block
ingest_of (put.Full nodes) = ingest.Full nodes
ingest_of put.ReadFault = ingest.ReadFault
ingest_of put.DiskFault = ingest.DiskFault
ingest_of put.NoMemory = ingest.NoMemory

-- why the object of a frame was not put; or after how many bytes the stream ended inside the frame
abbrev pub as_put : IngestFault → Result PutFault ℕ
as_put ingest.BadName = Ok put.BadName
as_put ingest.NameTaken = Ok put.NameTaken
as_put ingest.CatalogFull = Ok put.CatalogFull
as_put (ingest.HeadDamaged block) = Ok (put.HeadDamaged block)
as_put (ingest.Full nodes) = Ok (put.Full nodes)
as_put (ingest.BadStream at) = Err at
as_put ingest.ReadFault = Ok put.ReadFault
as_put ingest.DiskFault = Ok put.DiskFault
as_put ingest.NoMemory = Ok put.NoMemory
