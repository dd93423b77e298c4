-- What is known of streams.
use Rattle.std.specs.Prelude.{ℕ, List, Option}

pub record SourceState : Type 0 where
  -- the bytes that are left, where the source reveals them
  pub left : Option (List ℕ)
  -- how often it has failed
  pub faults : ℕ

pub record SinkState : Type 0 where
  -- the bytes written, where the sink reveals them
  pub written : Option (List ℕ)
  -- how many of these are flushed, where the sink reveals it
  pub flushed : Option ℕ
  -- for how many more bytes it has space, where it reveals it
  pub room : Option ℕ
  -- how often it has failed
  pub faults : ℕ
