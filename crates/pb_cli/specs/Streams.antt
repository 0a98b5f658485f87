-- What is known of a reader, and of a writer.
use Rattle.std.specs.Prelude.{ℕ, List, Option}

pub record SourceView : Type 0 where
  -- the bytes that reads will give from here on, if they are known
  pub remaining : Option (List ℕ)
  -- how many read calls were made
  pub calls : ℕ
  -- how many of them were interrupted
  pub interruptions : ℕ
  -- how many of them failed; an interruption is no failure
  pub failures : ℕ

pub record SinkView : Type 0 where
  -- the bytes that the writer holds, if they are known
  pub contents : Option (List ℕ)
  -- how many write calls were interrupted
  pub interruptions : ℕ
  -- how many consecutive calls were interrupted, up to the last call
  pub in_a_row : ℕ
  -- how many write calls failed
  pub failures : ℕ
